-- A task's core gives what the task's tree means.
use Rattle.std.proofs.Common.{◌≡◌, ℕ, ◌<◌, ◌≤◌, ◌&&◌, true, List, [], length, slice_index, is_some, map, refl, sym, ap, ◌∙◌, true≢false}
use Rattle.std.specs.Prelude.{nat_le}
use Rattle.std.specs.List.{Contains}
use Rattle.std.proofs.lemmas.Bool.{and_parts}
use Rattle.std.proofs.lemmas.List.{get_or-replicate}
use Rattle.slot_arbiter.specs.declared.place.Place.{Place}
use Rattle.argo_ni.specs.Packet.{comm_word}
use Rattle.argo_ni.specs.Port.{unused}
use Rattle.argo_ni.specs.declared.port.Port.{Port}
use Rattle.patmos_model.specs.Apart.{site_of}
use Rattle.shared_order.specs.Words.{zeros, after, Sees}
use Rattle.patmos_model.specs.Begin.{begun, overlaid}
use Rattle.core_pace.specs.Moment.{core_in}
use Rattle.core_pace.specs.Run.{after_bundles}
use Rattle.core_pace.specs.Spans.{IsSlotted}
use Rattle.sp_tree.specs.Begun as tree
use Rattle.sp_tree.specs.Formed.{functions_formed, entry_formed, data_formed, is_formed}
use Rattle.sp_tree.specs.Statements.{PlainUnit}
use Rattle.sp_tree.specs.Straight.{Outcome}
use Rattle.sp_tree.specs.Uses.{Use, uses_of, are_apart}
use Rattle.sp_shape.specs.Memory.{Memory}
use Rattle.sp_shape.specs.Run.{Run, at_begin, by_words, run_late}
use Rattle.sp_shape.specs.Trail.{trail}
use Rattle.sp_emit.specs.Functions.{emitted}
use Rattle.c_world.specs.Numbers.{flag}
use Rattle.sp_emit.specs.Means.{HoldsWords, start_of}
use Rattle.sp_emit.specs.Ran.{begun_memory, ran}
use Rattle.sp_emit.specs.Serving.{Answers}
use Rattle.sp_emit.proofs.Tasks.{task_does}
use Rattle.bundle_sched.proofs.Runs.{runs_as}
use Rattle.tc_link.specs.Backs.{backs_of}
use Rattle.tc_link.specs.Placed.{linked}
use Rattle.code_words.specs.Board.{HoldsBoard}
use Rattle.code_core.specs.Goes.{by_stack}
use Rattle.code_core.specs.Held.{HoldsPorts}
use Rattle.code_words.specs.Own.{HoldsOwn, sending_of}
use Rattle.code_core.specs.Sound.{bundles_in}
use Rattle.code_words.proofs.Means.{Means, means}
use Rattle.code_core.specs.Words.{AreGiven}
use Rattle.code_words.proofs.Told.{ButLoads, but_loads}
use Rattle.task_core.specs.Tasks.{code_of, IsRunnable, IsCode}
use Rattle.task_core.proofs.Behaving.{link, constants_of, asking, behaves, whole, may_there}
use Rattle.task_words.proofs.Meaning.{initial_alike, laid_alike, Cached, cached_own, all_apart}

module _ (u : PlainUnit) (place : Place) (input : List ℕ) (world : ℕ → ℕ) where
  -- the words of the board that the core may reach, before the task
  abbrev pub comm_of : ℕ → ℕ
  comm_of word = world (comm_word place.core word)

  abbrev pub memory_of : Memory
  memory_of = begun_memory u input world comm_of

  abbrev pub begun_at : List ℕ → Run
  begun_at loads = at_begin memory_of loads (backs_of (code_of u))

  module _ (formed : is_formed u ≡ true) where
    abbrev Named : Use → Type 0
    Named = Contains (uses_of u)

    pub uses_apart : are_apart (uses_of u) ≡ true
    uses_apart =
        let a = and_parts (nat_le (length u.functions) 512) (functions_formed u.functions (length u.functions)
        && (entry_formed u && (data_formed u && are_apart (uses_of u)))) formed in
        let b = and_parts (functions_formed u.functions (length u.functions))
        (entry_formed u && (data_formed u && are_apart (uses_of u))) a.1 in
        let c = and_parts (entry_formed u) (data_formed u && are_apart (uses_of u)) b.1 in
        (and_parts (data_formed u) (are_apart (uses_of u)) c.1).1

  module _ (h : IsRunnable u place) (code : IsCode u) (holds : HoldsWords (tree.begun u input world comm_of)) where
    module _ (slots : IsSlotted (site_of place (linked (code_of u)))) (among : place.core < place.cores) where
      ports_begun : HoldsPorts memory_of (begun (site_of place (linked (code_of u))) input).plain.interface
      ports_begun = record {
        count = refl;
        source = λ d few. ap (λ (p : Port). p.source) (get_or-replicate 16 d unused unused few);
        target = λ d few. ap (λ (p : Port). p.target) (get_or-replicate 16 d unused unused few);
      }

      own_begun : HoldsOwn (Cached u (uses_apart h.formed)) memory_of (begun (site_of place (linked (code_of u))) input)
      own_begun = record {
        scratch = λ word. refl;
        sent = refl;
        private = λ word low. laid_alike u.input_at u.input_room input (overlaid 4 u.initial zeros)
            (tree.first_private u.initial) word (initial_alike u.initial word);
        fresh = λ address word there found. absurd (true≢false (sym (ap is_some found)));
      }

      board_begun : HoldsBoard place.core memory_of world
      board_begun = record { shared = λ word low. refl; comm = λ word low. refl }

      -- what the tree means, where each of the task's own loads from the board gives its own last store, else the
      -- world's word
      pub record Comes (values : List ℕ) : Type 0 where
        pub value : slice_index
            (core_in (after_bundles place.cores place.core (begun (site_of place (linked (code_of u))) input) values
            (bundles_in (trail (code_of u))))).plain.regs.general 1
            ≡ (tree.straight u input world comm_of).value
        pub flagged : slice_index
            (core_in (after_bundles place.cores place.core (begun (site_of place (linked (code_of u))) input) values
            (bundles_in (trail (code_of u))))).plain.regs.general 2
            ≡ flag (tree.straight u input world comm_of).world.overrun
        pub sendings : (core_in (after_bundles place.cores place.core (begun (site_of place (linked (code_of u))) input)
            values (bundles_in (trail (code_of u))))).seen.sendings
            ≡ map sending_of (map start_of (tree.straight u input world comm_of).world.sends)
        pub scratch : (word : ℕ)
            → (core_in (after_bundles place.cores place.core (begun (site_of place (linked (code_of u))) input) values
            (bundles_in (trail (code_of u))))).plain.scratch word
            ≡ (tree.straight u input world comm_of).world.scratch word
        pub private : (word : ℕ) → 1 ≤ word → word < 49152
            → (core_in (after_bundles place.cores place.core (begun (site_of place (linked (code_of u))) input) values
            (bundles_in (trail (code_of u))))).plain.private word
            ≡ (tree.straight u input world comm_of).world.private word
        pub shared : (word : ℕ) → word < 4096
            → after (after_bundles place.cores place.core (begun (site_of place (linked (code_of u))) input) values
            (bundles_in (trail (code_of u)))).told.own world word
            ≡ (tree.straight u input world comm_of).world.shared word
        pub comm : (word : ℕ) → word < 512
            → after (after_bundles place.cores place.core (begun (site_of place (linked (code_of u))) input) values
            (bundles_in (trail (code_of u)))).told.own world (comm_word place.core word)
            ≡ (tree.straight u input world comm_of).world.comm word

      pub comes : (values : List ℕ) → AreGiven input values → Sees world (after_bundles place.cores place.core
          (begun (site_of place (linked (code_of u))) input) values (bundles_in (trail (code_of u)))).told.own
          → Comes values
      comes values given so =
          let g : Outcome = tree.straight u input world comm_of in
          let m : Means place (code_of u) (asking u h.formed).cached (link u code h.formed)
          (behaves u place h code) slots among
          memory_of (Cached u (uses_apart h.formed)) (cached_own u (uses_apart h.formed)) world input values =
          means place (code_of u) (asking u h.formed).cached (link u code h.formed) (behaves u place h code) slots among
          memory_of (Cached u (uses_apart h.formed)) (cached_own u (uses_apart h.formed)) world input values given
          (λ loads words. all_apart u (uses_apart h.formed) by_stack (trail (code_of u)) (begun_at loads)
          (may_there u h.formed memory_of loads)) ports_begun own_begun board_begun so in
          let t : Run = ran u input world comm_of (backs_of (code_of u)) in
          let a : Answers g (begun_at []) t =
          task_does u input world comm_of (backs_of (code_of u)) h.formed (constants_of u code) holds in
          let b : ButLoads (run_late by_words (trail (code_of u)) (begun_at m.loads))
          (run_late by_words (trail (code_of u)) (begun_at [])) =
          but_loads (trail (code_of u)) (begun_at []) m.loads in
          let at_once : run_late by_words (trail (code_of u)) (begun_at []) ≡ t =
          runs_as (emitted u) (code_of u) refl by_words (begun_at []) (whole u h.formed memory_of []) in
          let regs = ap (λ (z : Run). z.regs) (m.run ∙ b.is) ∙ ap (λ (z : Run). z.regs) at_once in
          let memory = ap (λ (z : Run). z.memory) (m.run ∙ b.is) ∙ ap (λ (z : Run). z.memory) at_once in
          record {
            value = ap (λ r. slice_index r.general 1) (sym m.ended.goes.is_as.regs ∙ regs) ∙ a.value;
            flagged = ap (λ r. slice_index r.general 2) (sym m.ended.goes.is_as.regs ∙ regs) ∙ a.flagged;
            sendings = m.own.sent ∙ ap (λ (k : Memory). map sending_of k.starts) memory
                ∙ ap (map sending_of) a.carries.has.starts;
            scratch = λ word. m.own.scratch word ∙ ap (λ (k : Memory). k.scratch word) memory
                ∙ a.carries.has.scratch word;
            private = λ word some low. m.own.private word low ∙ ap (λ (k : Memory). k.private word) memory
                ∙ a.carries.has.private word some;
            shared = λ word low. m.board.shared word low ∙ ap (λ (k : Memory). k.shared word) memory
                ∙ a.carries.has.shared word;
            comm = λ word low. m.board.comm word low ∙ ap (λ (k : Memory). k.comm word) memory
                ∙ a.carries.has.comm word;
          }

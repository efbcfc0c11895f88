-- Along a walk the words that other cores reach too are the run's, where each of the task's own loads of them is true.
use Rattle.std.proofs.Common.{◌≡◌, ℕ, zero, suc, Bool, true, false, List, [], ◌++◌, inl, refl, sym, ap, ◌∙◌, subst, append_assoc, append-nil}
use Rattle.slot_arbiter.specs.Stamp.{stamp}
use Rattle.shared_order.specs.declared.operation.Operation.{Operation}
use Rattle.shared_order.specs.Program.{Prog, and_then, fed}
use Rattle.shared_order.specs.Words.{after, Sees}
use Rattle.shared_order.proofs.Words.{sees_first}
use Rattle.patmos_instr.specs.Bundles.{PlainBundle}
use Rattle.patmos_sem.specs.Bundles.{effect_of}
use Rattle.patmos_sem.specs.declared.effects.Effect.{Effect}
use Rattle.patmos_model.specs.Bundle.{advanced, bundle}
use Rattle.patmos_model.specs.Cells.{Acted}
use Rattle.patmos_model.specs.Cycle.{settled}
use Rattle.patmos_model.specs.Transaction.{transaction}
use Rattle.patmos_model.specs.Site.{Site}
use Rattle.patmos_model.specs.State.{Core, with_plain, is_running}
use Rattle.core_pace.specs.Moment.{Moment, core_in}
use Rattle.core_pace.specs.Next.{acting, bundled, landing, all_moved, next}
use Rattle.core_pace.specs.Growth.{BeginsWith}
use Rattle.core_pace.proofs.Listed.{waited_own, all_moved_keeps}
use Rattle.core_pace.specs.Run.{onward}
use Rattle.sp_shape.specs.Pointers.{pointers_of}
use Rattle.sp_shape.specs.Run.{Run, effected, late}
use Rattle.tc_link.specs.Walk.{Walk, Fetches, flowed}
use Rattle.code_core.specs.Goes.{by_stack, pending_value, onwards, Stands}
use Rattle.code_core.specs.Sound.{IsSound}
use Rattle.code_core.proofs.Beginning.{first}
use Rattle.code_core.proofs.BundleDone.{next_pending}
use Rattle.code_core.proofs.Landing.{landed_pending}
use Rattle.code_words.specs.Board.{HoldsBoard}
use Rattle.code_words.specs.Own.{AreOwn, KeepsApart}
use Rattle.code_core.proofs.Settled.{OfBoth, settled_by, all_settles_by}
use Rattle.code_words.proofs.Along.{entered, Doing, doing, Behind, Carries}
use Rattle.code_core.proofs.Beginning.{holds_first}
use Rattle.code_core.proofs.Outcome.{Made}
use Rattle.code_words.proofs.BoardWords.{Tells, board_left}
use Rattle.code_words.proofs.Saying.{IsBoardWord, OfLoad, of_pending}

-- the operations depend on no transfer
made_of_both : (made : List Operation) → OfBoth (λ c ops. ops ≡ made)
made_of_both made = record { same = λ c d ops is same. same; counts = λ u c ops same. same }

-- the task has made no operation before its first bundle
pub none_made : (n core : ℕ) (site : Site) (input values : List ℕ) → (first n core site input values).told.own ≡ []
none_made n core site input values = holds_first n core site input values (λ c ops. ops ≡ []) (made_of_both []) refl

-- ---- what was made stays made

module _ (n core : ℕ) where
  begins_then : (xs ys zs : List Operation) → BeginsWith ys xs → BeginsWith zs ys → BeginsWith zs xs
  begins_then xs ys zs a b = (a.0 ++ b.0, b.1 ∙ ap (λ l. l ++ b.0) a.1 ∙ append_assoc xs a.0 b.0)

  acting_grows : (xs : List Operation) (p : Prog Acted) (m : Moment) → BeginsWith m.told.own xs
      → BeginsWith (acting n core p m).told.own xs
  acting_grows xs p m h = begins_then xs m.told.own (acting n core p m).told.own h
      ((fed (stamp n core m.cycle 1) (and_then p settled) m.told.run.left).ops, refl)

  all_moved_grows : (xs : List Operation) (m : Moment) → BeginsWith m.told.own xs
      → BeginsWith (all_moved n core m).told.own xs
  all_moved_grows xs = all_moved_keeps n core (λ z. BeginsWith z.told.own xs) (λ d z h. subst (λ l. BeginsWith l xs)
      (sym (waited_own n core d z)) h) (λ z h. acting_grows xs (transaction z.cycle (core_in z)) z h)

  next_grows : (m : Moment) → BeginsWith (next n core m).told.own m.told.own
  next_grows m =
      let xs : List Operation = m.told.own in
      let b : Moment = bundled n core m in
      all_moved_grows xs (landing (all_moved n core b))
      (all_moved_grows xs b (acting_grows xs (bundle m.cycle (core_in m)) m ([], sym (append-nil xs))))

  onward_grows : (m : Moment) → BeginsWith (onward n core m).told.own m.told.own
  onward_grows m = by (is_running (core_in m).plain)
    where
      by : (b : Bool) → BeginsWith (elim b as (λ _. Moment) [ true ↦ next n core m | false ↦ m ]).told.own m.told.own
      by true = next_grows m
      by false = ([], sym (append-nil m.told.own))

  onwards_grows : (count : ℕ) (m : Moment) → BeginsWith (onwards n core count m).told.own m.told.own
  onwards_grows zero m = ([], sym (append-nil m.told.own))
  onwards_grows (suc count) m = begins_then m.told.own (onward n core m).told.own
      (onwards n core count (onward n core m)).told.own (onward_grows m) (onwards_grows count (onward n core m))

module _ (n core : ℕ) (x : Core) (values : List ℕ) (Cached : ℕ → Type 0) (are_own : AreOwn Cached) (world : ℕ → ℕ)
    (board : ℕ) (place_is : x.plain.site.core ≡ board) where
  -- a run's words are those that the task's own stores left of the world
  abbrev pub BoardBeside : Run → Moment → Type 0
  BoardBeside r m = HoldsBoard board r.memory (after m.told.own world)

  abbrev pub TrueSoFar : Moment → Type 0
  TrueSoFar m = Sees world m.told.own

  true_still : (count : ℕ) (m : Moment) → TrueSoFar (onwards n core count m) → TrueSoFar m
  true_still count m so =
      let p = onwards_grows n core count m in sees_first world m.told.own p.0 (subst (λ l. Sees world l) p.1 so)

  board_after : (w : Walk) (b : PlainBundle) (m : Moment) → Stands n core x values w m
      → (f : Fetches x.plain.site.image b (flowed w))
      → IsSound x.plain.site (effect_of f.bundle (flowed w).run.regs) (pointers_of (flowed w).run) (flowed w).run.memory
      → KeepsApart Cached (effect_of f.bundle (flowed w).run.regs)
      → BoardBeside (flowed w).run m → TrueSoFar (next n core m)
      → Behind n core x values (KeepsApart Cached) IsBoardWord BoardBeside TrueSoFar (effect_of f.bundle
      (flowed w).run.regs) (flowed w).run (late by_stack f.bundle (flowed w).run) m
  board_after w b m st f sound apart h so = record {
    beside = subst (λ (z : Run). BoardBeside z (next n core m)) (sym k.late_is)
        (subst (λ ops. HoldsBoard board r.memory (after ops world)) (sym own_is) told.holds_board);
    says = subst (λ e. OfLoad IsBoardWord e (flowed w).run.memory
        (pending_value (core_in (next n core m)).plain.regs.pending)) (sym k.asks)
        (of_pending IsBoardWord c.plain.site e (entered (flowed w).run f.bundle c) k.comes.value (core_in a).plain.regs
        (core_in (next n core m)).plain.regs d.plain.regs k.sound (next_pending n core m k.moved)
        k.comes.is_like.regs told.own);
  }
    where
      k : Doing n core x values w f.bundle f.words m
      k = doing n core x values w b m st f sound

      c : Core
      c = core_in m

      e : Effect
      e = effect_of f.bundle c.plain.regs

      d : Core
      d = with_plain (advanced f.words f.bundle) c

      a : Moment
      a = all_moved n core (bundled n core m)

      r : Run
      r = effected by_stack e (entered (flowed w).run f.bundle c)

      own_is : (next n core m).told.own ≡ a.told.own
      own_is = all_settles_by n core (λ z ops. ops ≡ a.told.own) (made_of_both a.told.own) (landing a)
          (settled_by refl (landed_pending a.cycle (core_in a) (inl k.moved)).rests)

      told : Tells world board (OfLoad IsBoardWord e (flowed w).run.memory k.comes.value) r.memory a.told.own
      told =
          board_left world board Cached are_own c.plain.site (entered (flowed w).run f.bundle c) m.told.own
          (λ told. h) e k.comes.value a.told.own k.sound (subst (KeepsApart Cached) k.asks apart)
          (subst (λ b. Made e b k.comes.value m.told.own a.told.own) (ap (λ (z : Site). z.core) st.site_is ∙ place_is)
          k.comes.made) (subst (λ ops. Sees world ops) own_is so)

  pub carries_board : Carries n core x values (KeepsApart Cached) IsBoardWord BoardBeside TrueSoFar
  carries_board = record { flows = λ f g. refl; begins = λ r m h. h; before = true_still; behind = board_after }

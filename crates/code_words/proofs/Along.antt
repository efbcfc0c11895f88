-- Along a walk: what holds of a run beside its core holds after each bundle, and of each load is said what is said of
-- its word.
use Rattle.std.proofs.Common.{◌≡◌, ℕ, true, false, List, [], ◌∷◌, ◌++◌, Option, Some, refl, sym, ap, ◌∙◌, subst}
use Rattle.local_store.specs.declared.map.Cell.{Cell}
use Rattle.patmos_instr.specs.Bundles.{PlainBundle}
use Rattle.patmos_sem.specs.Bundles.{after_bundle, effect_of}
use Rattle.patmos_sem.specs.declared.effects.Effect.{Effect}
use Rattle.patmos_sem.specs.declared.effects.Effect.TheVariants as effect
use Rattle.patmos_sem.specs.declared.effects.FlowKind.{FlowKind}
use Rattle.patmos_model.specs.declared.fetched.Fetched.TheVariants.{Found}
use Rattle.patmos_model.specs.declared.flow.Goal.{Goal}
use Rattle.patmos_model.specs.declared.flow.Goal.TheVariants as goal
use Rattle.patmos_model.specs.Bundle.{fetched_at, advanced}
use Rattle.patmos_model.specs.State.{Core, with_plain}
use Rattle.core_pace.specs.Moment.{Moment, core_in, fetched_in}
use Rattle.core_pace.specs.Next.{bundled, all_moved, next}
use Rattle.core_pace.specs.Run.{onward}
use Rattle.core_pace.proofs.Onward.{is_after}
use Rattle.sp_shape.specs.Memory.{Memory}
use Rattle.sp_shape.specs.Pointers.{pointers_of}
use Rattle.sp_shape.specs.Run.{Run, first_load, effected, late, begun}
use Rattle.sp_shape.specs.Trail.{Step, does, begins}
use Rattle.tc_link.proofs.Cores.{no_fault}
use Rattle.tc_link.proofs.Erased.{late_same}
use Rattle.tc_link.specs.Walk.{Walk, Does, Fetches, due, flowed, bundle_done, IsPlaced}
use Rattle.code_core.specs.Goes.{by_stack, Goes, pending_value, asked_in, given_by, given, loads_from, onwards, Stands}
use Rattle.code_core.specs.Held.{HoldsStack}
use Rattle.code_core.specs.Sound.{IsSound, AreSound, bundles_in}
use Rattle.code_core.proofs.BundleDone.{Steps, steps, same_stack, comes_by}
use Rattle.code_core.proofs.Faults.{sound_passes}
use Rattle.code_core.proofs.Landing.{StartsAfter}
use Rattle.code_core.proofs.Outcome.{Outcome}
use Rattle.code_core.proofs.Trailed.{flowed_again, flowed_loads, placed_again, placed_first, said_same, sound_same, no_place}
use Rattle.code_words.specs.Own.{AllPass}
use Rattle.code_words.proofs.Saying.{OfLoad, OfLoads, of_first}

-- ---- a bundle that is done

-- the run in which a bundle takes effect: its registers are those of the core after the bundle's own reads
abbrev pub entered : Run → PlainBundle → Core → Run
entered r b c = record r { regs = after_bundle c.plain.stack.st c.plain.stack.ss b c.plain.regs }

-- whatever the end is
abbrev pub Ever : Moment → Type 0
Ever m = Unit {0}

module _ (n core : ℕ) (x : Core) (values : List ℕ) where
  pub record Doing (w : Walk) (b : PlainBundle) (words : ℕ) (m : Moment) : Type 0 where
    pub asks : effect_of b (flowed w).run.regs ≡ effect_of b (core_in m).plain.regs
    pub sound : IsSound (core_in m).plain.site (effect_of b (core_in m).plain.regs) (pointers_of (flowed w).run)
        (flowed w).run.memory
    pub stack : HoldsStack (entered (flowed w).run b (core_in m)) (core_in m).plain.stack (core_in m).plain.private
    pub comes : Outcome (effect_of b (core_in m).plain.regs) (with_plain (advanced words b) (core_in m)) m.told.own
        (core_in (all_moved n core (bundled n core m)))
        (all_moved n core (bundled n core m)).told.own
    pub late_is : late by_stack b (flowed w).run ≡ effected by_stack (effect_of b (core_in m).plain.regs) (entered
        (flowed w).run b (core_in m))
    pub moved : (core_in (all_moved n core (bundled n core m))).plain.transfer.words ≡ 0

  found_there : (w : Walk) (b : PlainBundle) (m : Moment) → Stands n core x values w m
      → (f : Fetches x.plain.site.image b (flowed w)) → fetched_in (core_in m).plain ≡ Found f.bundle f.words
  found_there w b m st f =
      (λ i. fetched_at (st.site_is i).image (sym st.goes.is_as.base i) (sym st.goes.is_as.offset i)) ∙ f.found

  pub doing : (w : Walk) (b : PlainBundle) (m : Moment) → Stands n core x values w m
      → (f : Fetches x.plain.site.image b (flowed w))
      → IsSound x.plain.site (effect_of f.bundle (flowed w).run.regs) (pointers_of (flowed w).run) (flowed w).run.memory
      → Doing w f.bundle f.words m
  doing w b m st f sound = record {
    asks = asks;
    sound = sound_there;
    stack = same_stack v.run (entered v.run f.bundle c) c.plain refl refl refl s;
    comes = comes_by n core m (entered v.run f.bundle c) f.bundle f.words st.at.about
        (found_there w b m st f) sound_there
        (sound_passes (effect_of f.bundle c.plain.regs) v.run c.plain s st.goes.ports sound_there
        (λ flow is. no_fault f.bundle flow v c.plain st.goes.is_as f.alone is));
    late_is = λ i. effected by_stack (effect_of f.bundle (st.goes.is_as.regs i))
        (record v.run { regs = after_bundle (s.st i) (s.ss i) f.bundle (st.goes.is_as.regs i) });
    moved = (is_after n core x values m st.at).words;
  }
    where
      v : Walk
      v = flowed w

      c : Core
      c = core_in m

      s : HoldsStack v.run c.plain.stack c.plain.private
      s = st.goes.stack

      asks : effect_of f.bundle v.run.regs ≡ effect_of f.bundle c.plain.regs
      asks = ap (effect_of f.bundle) st.goes.is_as.regs

      sound_there : IsSound c.plain.site (effect_of f.bundle c.plain.regs) (pointers_of v.run) v.run.memory
      sound_there =
          subst (λ z. IsSound z (effect_of f.bundle c.plain.regs) (pointers_of v.run) v.run.memory) (sym st.site_is)
          (subst (λ e. IsSound x.plain.site e (pointers_of v.run) v.run.memory) asks sound)

  -- ---- what is carried along

  module _ (Passes : Effect → Type 0) (Says : Option Cell → Memory → ℕ → Type 0) (Beside : Run → Moment → Type 0)
      (Ends : Moment → Type 0) where
    -- after a bundle that asked for this, of a run that was r and is t
    pub record Behind (e : Effect) (r t : Run) (m : Moment) : Type 0 where
      pub beside : Beside t (next n core m)
      pub says : OfLoad Says e r.memory (pending_value (core_in (next n core m)).plain.regs.pending)

    -- where each bundle passes, and the end is so, it holds after each bundle
    pub record Carries : Type 1 where
      pub flows : (f g : FlowKind) → Passes (effect.Flow f) ≡ Passes (effect.Flow g)
      pub begins : (r : Run) (m : Moment) → Beside r m → Beside (begun r) m
      pub before : (count : ℕ) (m : Moment) → Ends (onwards n core count m) → Ends m
      pub behind : (w : Walk) (b : PlainBundle) (m : Moment) → Stands n core x values w m
          → (f : Fetches x.plain.site.image b (flowed w))
          → IsSound x.plain.site (effect_of f.bundle (flowed w).run.regs) (pointers_of (flowed w).run)
          (flowed w).run.memory → Passes (effect_of f.bundle (flowed w).run.regs)
          → Beside (flowed w).run m → Ends (next n core m) → Behind (effect_of f.bundle (flowed w).run.regs)
          (flowed w).run (late by_stack f.bundle (flowed w).run) m

    -- the run's end, from a moment of the walk on
    pub record Carried (steps_left : List Step) (w e : Walk) (m : Moment) : Type 0 where
      pub beside : Beside e.run (onwards n core (bundles_in steps_left) m)
      pub loads : OfLoads Says by_stack steps_left w.run

    module _ (carries : Carries) (starts : StartsAfter x.plain.site.image) where
      onward_runs : (w : Walk) (m : Moment) → Stands n core x values w m → onward n core m ≡ next n core m
      onward_runs w m st = ap (λ b. elim b as (λ _. Moment) [ true ↦ next n core m | false ↦ m ]) st.at.about.running

      pub along : (steps_left : List Step) (ds : List (Option Goal)) (w e : Walk) (m : Moment) (offset : ℕ)
          → Stands n core x values w m → IsPlaced x.plain.site.image w
          → Does x.plain.site.image by_stack steps_left ds w e
          → AreSound x.plain.site by_stack steps_left w.run → AllPass Passes by_stack steps_left w.run → Beside w.run m
          → w.run.loads ≡ loads_from n core (bundles_in steps_left) m
          → due e.flow ≡ Some (goal.Return 0 offset) → Ends (onwards n core (bundles_in steps_left) m)
          → Carried steps_left w e m
      along [] ds w e m offset st placed h sound pass own loads last so =
          absurd (no_place x.plain.site.image w offset starts (ap (λ (z : Walk). due z.flow) h.1 ∙ last) placed)
      along (begins ∷ more) ds w e m offset st placed h sound pass own loads last so =
          let again : Stands n core x values (flowed w) m = record {
            at = st.at;
            site_is = st.site_is;
            goes = subst (λ z. Goes z (core_in m).plain) (sym (flowed_again w)) st.goes;
          } in
          let k = along more ds (flowed w) e m offset again (placed_again x.plain.site.image w) h.rest
          (subst (AreSound x.plain.site by_stack more) (sym h.run_is) sound) (subst (AllPass Passes by_stack more)
          (sym h.run_is) pass)
          (subst (λ r. Beside r m) (sym h.run_is) (carries.begins w.run m own)) (flowed_loads w ∙ loads) last so in
          record { loads = subst (OfLoads Says by_stack more) h.run_is k.loads; beside = k.beside }
      along (does b ∷ more) [] w e m offset st placed h sound pass own loads last so = absurd h
      along (does b ∷ more) (d ∷ ds) w e m offset st placed h sound pass own loads last so =
          by more ds h.rest (subst (AreSound x.plain.site by_stack more) (sym late_is) sound.1)
          (subst (AllPass Passes by_stack more) (sym late_is) pass.1)
          (λ st placed k s a o list. along more ds w' e (next n core m) offset st placed k s a o list last so_rest)
          list_next
        where
          f : Fetches x.plain.site.image b (flowed w)
          f = h.fetches

          w' : Walk
          w' = bundle_done by_stack f.bundle f.words (flowed w)

          late_is : w'.run ≡ late by_stack b w.run
          late_is = late_same by_stack f.bundle b (flowed w).run f.same ∙ ap (late by_stack b) h.run_is

          list_next : (flowed w).run.loads ≡ given n core m ++ loads_from n core (bundles_in more) (next n core m)
          list_next = flowed_loads w ∙ loads ∙ ap (λ z. given n core m ++ loads_from n core (bundles_in more) z)
              (onward_runs w m st)

          so_rest : Ends (onwards n core (bundles_in more) (next n core m))
          so_rest = subst (λ z. Ends (onwards n core (bundles_in more) z)) (onward_runs w m st) so

          sound_here : IsSound x.plain.site (effect_of f.bundle (flowed w).run.regs) (pointers_of (flowed w).run)
              (flowed w).run.memory
          sound_here = sound_same b f.bundle (flowed w).run.regs x.plain.site (pointers_of (flowed w).run)
              (flowed w).run.memory f.same (subst (λ (z : Run). IsSound x.plain.site (effect_of b z.regs)
              (pointers_of z) z.memory) (sym h.run_is) sound.0)

          passes_here : Passes (effect_of f.bundle (flowed w).run.regs)
          passes_here = said_same Passes carries.flows b f.bundle (flowed w).run.regs f.same
              (subst (λ (z : Run). Passes (effect_of b z.regs)) (sym h.run_is) pass.0)

          one : Behind (effect_of f.bundle (flowed w).run.regs) (flowed w).run w'.run m
          one = carries.behind w b m st f sound_here passes_here (subst (λ r. Beside r m) (sym h.run_is) own)
              (carries.before (bundles_in more) (next n core m) so_rest)

          list_there : (flowed w).run.loads ≡ given_by (effect_of f.bundle (flowed w).run.regs) (core_in
              (next n core m)).plain.regs ++ loads_from n core (bundles_in more) (next n core m)
          list_there = list_next ∙ (λ i. given_by (asked_in (found_there w b m st f i) (core_in m).plain.regs) (core_in
              (next n core m)).plain.regs ++ loads_from n core (bundles_in more) (next n core m))
              ∙ (λ i. given_by (effect_of f.bundle (sym st.goes.is_as.regs i)) (core_in (next n core m)).plain.regs
              ++ loads_from n core (bundles_in more) (next n core m))

          says_here : OfLoad Says (effect_of b w.run.regs) w.run.memory (first_load w.run.loads)
          says_here = subst (λ (z : Run). OfLoad Says (effect_of b z.regs) z.memory (first_load z.loads)) h.run_is
              (said_same (λ a. OfLoad Says a (flowed w).run.memory (first_load (flowed w).run.loads))
              (λ f g. refl) f.bundle b (flowed w).run.regs (sym f.same)
              (of_first Says (effect_of f.bundle (flowed w).run.regs) (flowed w).run.memory
              (core_in (next n core m)).plain.regs (flowed w).run.loads (loads_from n core (bundles_in more)
              (next n core m)) list_there one.says))

          by : (more : List Step) (ds : List (Option Goal)) → (k : Does x.plain.site.image by_stack more ds w' e)
              → AreSound x.plain.site by_stack more w'.run → AllPass Passes by_stack more w'.run
              → (Stands n core x values w' (next n core m) → IsPlaced x.plain.site.image w'
              → Does x.plain.site.image by_stack more ds w' e → AreSound x.plain.site by_stack more w'.run
              → AllPass Passes by_stack more w'.run
              → Beside w'.run (next n core m) → w'.run.loads ≡ loads_from n core (bundles_in more) (next n core m)
              → Carried more w' e (next n core m))
              → (flowed w).run.loads ≡ given n core m ++ loads_from n core (bundles_in more) (next n core m)
              → Carried (does b ∷ more) w e m
          by [] ds k s a again list = record {
            loads = (says_here, tt);
            beside = subst (Beside e.run) (sym (onward_runs w m st)) (subst (λ (z : Walk). Beside z.run (next n core m))
                k.1 one.beside);
          }
          by (step ∷ others) ds k s a again list =
              let there = placed_first x.plain.site.image step others ds w' e k in
              let go : Steps n core x values w' (loads_from n core (bundles_in (step ∷ others)) (next n core m)) _ m =
              steps n core x values w b (loads_from n core (bundles_in (step ∷ others)) (next n core m)) m st f
              sound_here list starts there in
              let rest : Carried (step ∷ others) w' e (next n core m) =
              again go.stands there k s a one.beside go.loads in
              record {
                loads = (says_here, subst (OfLoads Says by_stack (step ∷ others)) late_is rest.loads);
                beside = subst (λ z. Beside e.run (onwards n core (bundles_in (step ∷ others)) z))
                    (sym (onward_runs w m st)) rest.beside;
              }

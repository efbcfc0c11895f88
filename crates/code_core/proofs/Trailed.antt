-- A core does the bundles of a walk, one after another, up to its end.
use Rattle.std.proofs.Common.{◌≡◌, ℕ, pos, if◌then◌else◌, ◌==◌, Bool, true, false, List, [], ◌∷◌, ◌++◌, Option, None, Some, is_some, refl, sym, ap, ◌∙◌, subst, append_assoc, append-nil, true≢false}
use Rattle.std.specs.List.{list_any}
use Rattle.std.proofs.lemmas.Bool.{and_parts}
use Rattle.patmos_code.specs.Images.{Parts}
use Rattle.patmos_model.specs.declared.flow.Flow.{Flow}
use Rattle.patmos_model.specs.declared.flow.Goal.{Goal}
use Rattle.patmos_model.specs.declared.flow.Goal.TheVariants as goal
use Rattle.patmos_model.specs.State.{Core}
use Rattle.patmos_instr.specs.Bundles.{PlainBundle}
use Rattle.patmos_instr.specs.declared.instructions.Op.{Op}
use Rattle.patmos_instr.specs.declared.instructions.Op.TheVariants.{Branch, Call}
use Rattle.patmos_sem.specs.Bundles.{effect_of}
use Rattle.patmos_sem.specs.Registers.{Registers, holds}
use Rattle.patmos_sem.specs.declared.effects.Effect.{Effect}
use Rattle.patmos_sem.specs.declared.effects.Effect.TheVariants as effect
use Rattle.patmos_sem.specs.declared.effects.FlowKind.{FlowKind}
use Rattle.patmos_sem.specs.declared.effects.FlowKind.TheVariants as kind
use Rattle.core_pace.specs.Moment.{Done, Moment, core_in}
use Rattle.core_pace.specs.Next.{next}
use Rattle.core_pace.specs.Pace.{Event, event_of, events_in}
use Rattle.core_pace.specs.Run.{onward, events_onward}
use Rattle.sp_shape.specs.Trail.{Step, does, begins}
use Rattle.sp_shape.specs.Pointers.{Pointers, pointers_of}
use Rattle.sp_shape.specs.Memory.{Memory}
use Rattle.patmos_model.specs.Site.{Site}
use Rattle.sp_shape.specs.Run.{Run, late}
use Rattle.tc_link.proofs.Erased.{late_same}
use Rattle.tc_link.specs.Flat.{with_op}
use Rattle.tc_link.specs.Walk.{Walk, aimless, erased, Does, Fetches, due, flowed, bundle_done, gone, gone_if, HasPlace, IsPlaced}
use Rattle.code_core.specs.Followed.{AreDone, done_at}
use Rattle.code_core.specs.Goes.{by_stack, Goes, given, loads_from, onwards, events_from, Stands, Ended, goal_events, run_events}
use Rattle.code_core.specs.Sound.{IsSound, AreSound, bundles_in}
use Rattle.code_core.proofs.Landing.{DueCase, none_due, is_due, due_case, StartsAfter}
use Rattle.code_core.proofs.BundleDone.{Steps, steps, Finishes, finishes, listed, done_as_told}

-- ---- walks

-- what took effect is not due again
pub flowed_again : (w : Walk) → flowed (flowed w) ≡ flowed w
flowed_again w = by (due_case w.flow)
  where
    gone_once : (to : Goal) → flowed (gone to w) ≡ gone to w
    gone_once (goal.Within offset) = refl
    gone_once _ = refl

    by : DueCase w.flow → flowed (flowed w) ≡ flowed w
    by (none_due none waits) = let same : flowed w ≡ w = ap (λ o. gone_if o w) none in ap flowed same
    by (is_due to due_is flow) =
        let same : flowed w ≡ gone to w = ap (λ o. gone_if o w) due_is in ap flowed same ∙ gone_once to ∙ sym same

gone_loads : (to : Goal) (w : Walk) → (gone to w).run.loads ≡ w.run.loads
gone_loads (goal.Within offset) w = refl
gone_loads _ w = refl

pub flowed_loads : (w : Walk) → (flowed w).run.loads ≡ w.run.loads
flowed_loads w = by (due w.flow)
  where
    by : (to : Option Goal) → (gone_if to w).run.loads ≡ w.run.loads
    by None = refl
    by (Some to) = gone_loads to w

pub placed_again : (image : Parts) (w : Walk) → IsPlaced image (flowed w)
placed_again image w = by (due_case w.flow)
  where
    there : (to : Goal) → IsPlaced image (gone to w)
    there (goal.Within offset) = tt
    there _ = tt

    by : DueCase w.flow → IsPlaced image (flowed w)
    by (none_due none waits) =
        subst (λ o. IsPlaced image (gone_if o w)) (sym none) (subst (HasPlace image w.base) (sym none) tt)
    by (is_due to due_is flow) = subst (λ o. IsPlaced image (gone_if o w)) (sym due_is) (there to)

-- a goal that is due belongs to a flow without a delay slot left
pub due_flow : (flow : Option Flow) (to : Goal) → due flow ≡ Some to → flow ≡ Some (record { goal = to; slots = 0 })
due_flow flow to is = by (due_case flow)
  where
    by : DueCase flow → flow ≡ Some (record { goal = to; slots = 0 })
    by (none_due none waits) = absurd (true≢false (sym (ap is_some is) ∙ ap is_some none))
    by (is_due other due_is same) =
        same ∙ ap (λ (g : Option Goal). elim g as (λ _. Option Flow) [
          | None ↦ None
          | Some k ↦ Some
              (record { goal = k; slots = 0 })
        ]) (sym due_is ∙ is)

-- the last return is to no place
pub no_place : (image : Parts) (w : Walk) (offset : ℕ) → StartsAfter image → due w.flow ≡ Some (goal.Return 0 offset)
    → IsPlaced image w → ⊥
no_place image w offset starts last placed =
    let test : HasPlace image w.base (Some (goal.Return 0 offset)) = subst (HasPlace image w.base) last placed in
    true≢false (sym (and_parts (list_any (λ start. 0 == start) image.starts) _ test).0 ∙ starts)

pub placed_first : (image : Parts) (step : Step) (more : List Step) (ds : List (Option Goal)) (w e : Walk)
    → Does image by_stack (step ∷ more) ds w e → IsPlaced image w
placed_first image (does b) more [] w e h = absurd h
placed_first image (does b) more (d ∷ ds) w e h = h.placed
placed_first image begins more ds w e h = h.placed

-- ---- targets

-- of what is said of an effect, wherever a flow goes
aimless_same : (Said : Effect → Type 0) → ((f g : FlowKind) → Said (effect.Flow f) ≡ Said (effect.Flow g))
    → (op : Op) (b : PlainBundle) (regs : Registers)
    → Said (effect_of (with_op (aimless op) b) regs) ≡ Said (effect_of (with_op op b) regs)
aimless_same Said flows (Branch offset) b regs = by (holds regs b.first.guard)
  where
    by : (on : Bool) → Said (if on then effect.Flow (kind.Branch (pos 0)) else effect.Nothing)
        ≡ Said (if on then effect.Flow (kind.Branch offset) else effect.Nothing)
    by true = flows (kind.Branch (pos 0)) (kind.Branch offset)
    by false = refl
aimless_same Said flows (Call target) b regs = by (holds regs b.first.guard)
  where
    by : (on : Bool) → Said (if on then effect.Flow (kind.Call 0) else effect.Nothing)
        ≡ Said (if on then effect.Flow (kind.Call target) else effect.Nothing)
    by true = flows (kind.Call 0) (kind.Call target)
    by false = refl
aimless_same Said flows _ b regs = refl

pub said_same : (Said : Effect → Type 0) → ((f g : FlowKind) → Said (effect.Flow f) ≡ Said (effect.Flow g))
    → (b c : PlainBundle) (regs : Registers) → erased c ≡ erased b → Said (effect_of b regs) → Said (effect_of c regs)
said_same Said flows b c regs same s =
    subst (λ (T : Type 0). T) (aimless_same Said flows c.first.op c regs)
    (subst (λ x. Said (effect_of x regs)) (sym same)
    (subst (λ (T : Type 0). T) (sym (aimless_same Said flows b.first.op b regs)) s))

event_same : (b c : PlainBundle) (regs : Registers) → erased c ≡ erased b → event_of (effect_of c regs)
    ≡ event_of (effect_of b regs)
event_same b c regs same = said_same (λ e. event_of e ≡ event_of (effect_of b regs)) (λ f g. refl) b c regs same refl

pub sound_same : (b c : PlainBundle) (regs : Registers) (site : Site) (p : Pointers) (m : Memory) → erased c ≡ erased b
    → IsSound site (effect_of b regs) p m → IsSound site (effect_of c regs) p m
sound_same b c regs site p m = said_same (λ e. IsSound site e p m) (λ f g. refl) b c regs

module _ (n core : ℕ) (x : Core) (values : List ℕ) (starts : StartsAfter x.plain.site.image) where
  -- the core's run comes to the end of the walk, with these events and bundles
  pub record Comes (steps : List Step) (ds : List (Option Goal)) (w e : Walk) (m : Moment) : Type 0 where
    pub ended : Ended n core e (onwards n core (bundles_in steps) m)
    pub events : events_from n core (bundles_in steps) m ≡ run_events x.plain.site.image by_stack steps ds w.run
    pub bundles : List Done
    pub bundles_are : (onwards n core (bundles_in steps) m).bundles ≡ m.bundles ++ bundles
    pub done : AreDone x.plain.site.image steps bundles

  pub onward_runs : (w : Walk) (m : Moment) → Stands n core x values w m → onward n core m ≡ next n core m
  onward_runs w m st = ap (λ b. elim b as (λ _. Moment) [ true ↦ next n core m | false ↦ m ]) st.at.about.running

  events_run : (w : Walk) (m : Moment) → Stands n core x values w m → events_onward n core m ≡ events_in n core m
  events_run w m st =
      ap (λ b. elim b as (λ _. List Event) [ true ↦ events_in n core m | false ↦ [] ]) st.at.about.running

  pub along : (steps_left : List Step) (ds : List (Option Goal)) (w e : Walk) (m : Moment) (offset : ℕ)
      → Stands n core x values w m → IsPlaced x.plain.site.image w → Does x.plain.site.image by_stack steps_left ds w e
      → AreSound x.plain.site by_stack steps_left w.run → w.run.loads ≡ loads_from n core (bundles_in steps_left) m
      → due e.flow ≡ Some (goal.Return 0 offset) → Comes steps_left ds w e m
  along [] ds w e m offset st placed h sound loads last =
      absurd (no_place x.plain.site.image w offset starts (ap (λ (z : Walk). due z.flow) h.1 ∙ last) placed)
  along (begins ∷ more) ds w e m offset st placed h sound loads last =
      let again : Stands n core x values (flowed w) m = record {
        at = st.at;
        site_is = st.site_is;
        goes = subst (λ z. Goes z (core_in m).plain) (sym (flowed_again w)) st.goes;
      } in
      let c = along more ds (flowed w) e m offset again (placed_again x.plain.site.image w) h.rest
      (subst (AreSound x.plain.site by_stack more) (sym h.run_is) sound) (flowed_loads w ∙ loads) last in
      record {
        ended = c.ended;
        events = c.events ∙ ap (run_events x.plain.site.image by_stack more ds) h.run_is;
        bundles = c.bundles;
        bundles_are = c.bundles_are;
        done = c.done;
      }
  along (does b ∷ more) [] w e m offset st placed h sound loads last = absurd h
  along (does b ∷ more) (d ∷ ds) w e m offset st placed h sound loads last =
      by more ds h.rest (subst (AreSound x.plain.site by_stack more) (sym late_is) sound.1)
      (λ st placed k s list. along more ds w' e (next n core m) offset st placed k s list last)
      (flowed_loads w ∙ loads ∙ ap (λ z. given n core m ++ loads_from n core (bundles_in more) z) (onward_runs w m st))
    where
      f : Fetches x.plain.site.image b (flowed w)
      f = h.fetches

      w' : Walk
      w' = bundle_done by_stack f.bundle f.words (flowed w)

      event : Event
      event = event_of (effect_of f.bundle (flowed w).run.regs)

      late_is : w'.run ≡ late by_stack b w.run
      late_is = late_same by_stack f.bundle b (flowed w).run f.same ∙ ap (late by_stack b) h.run_is

      event_is : event ≡ event_of (effect_of b w.run.regs)
      event_is = event_same b f.bundle (flowed w).run.regs f.same
          ∙ ap (λ (z : Run). event_of (effect_of b z.regs)) h.run_is

      sound_here : IsSound x.plain.site (effect_of f.bundle (flowed w).run.regs) (pointers_of (flowed w).run)
          (flowed w).run.memory
      sound_here = sound_same b f.bundle (flowed w).run.regs x.plain.site (pointers_of (flowed w).run)
          (flowed w).run.memory f.same (subst (λ (z : Run). IsSound x.plain.site (effect_of b z.regs) (pointers_of z)
          z.memory) (sym h.run_is) sound.0)

      by : (more : List Step) (ds : List (Option Goal)) → (k : Does x.plain.site.image by_stack more ds w' e)
          → AreSound x.plain.site by_stack more w'.run
          → (Stands n core x values w' (next n core m) → IsPlaced x.plain.site.image w'
          → Does x.plain.site.image by_stack more ds w' e → AreSound x.plain.site by_stack more w'.run
          → w'.run.loads ≡ loads_from n core (bundles_in more) (next n core m)
          → Comes more ds w' e (next n core m))
          → (flowed w).run.loads ≡ given n core m ++ loads_from n core (bundles_in more) (next n core m)
          → Comes (does b ∷ more) (d ∷ ds) w e m
      by [] ds k s again list =
          let flow : w'.flow ≡ Some (record { goal = goal.Return 0 offset; slots = 0 }) =
          due_flow w'.flow (goal.Return 0 offset) (ap (λ (z : Walk). due z.flow) k.1 ∙ last) in
          let end : Finishes n core x values w' (event ∷ []) m =
          finishes n core x values w b [] m st f sound_here list offset flow in
          let goal_is : d ≡ Some (goal.Return 0 offset) = sym h.due_is ∙ ap due flow in
          record {
            ended = subst (λ z. Ended n core e z) (sym (onward_runs w m st))
                (subst (λ z. Ended n core z (next n core m)) k.1 end.ended);
            events = append-nil (events_onward n core m) ∙ events_run w m st ∙ end.events_are
                ∙ (λ i. (event_is i ∷ goal_events x.plain.site.image (sym goal_is i)) ++ []);
            bundles = done_at m ∷ [];
            bundles_are = ap (λ (z : Moment). z.bundles) (onward_runs w m st)
                ∙ listed n core x values w b [] m st f sound_here list;
            done = (done_as_told n core x values w b m st f, tt);
          }
      by (step ∷ others) ds k s again list =
          let there = placed_first x.plain.site.image step others ds w' e k in
          let one : Steps n core x values w' (loads_from n core (bundles_in (step ∷ others)) (next n core m))
          (event ∷ goal_events x.plain.site.image (due w'.flow)) m =
          steps n core x values w b (loads_from n core (bundles_in (step ∷ others)) (next n core m)) m st f sound_here
          list starts there in
          let rest : Comes (step ∷ others) ds w' e (next n core m) = again one.stands there k s one.loads in
          record {
            ended = subst (λ z. Ended n core e (onwards n core (bundles_in (step ∷ others)) z))
                (sym (onward_runs w m st)) rest.ended;
            events = (λ i. events_run w m st i ++ events_from n core (bundles_in (step ∷ others))
                (onward_runs w m st i))
                ∙ (λ i. one.events_are i ++ rest.events i)
                ∙ (λ i. (event_is i ∷ goal_events x.plain.site.image (h.due_is i))
                ++ run_events x.plain.site.image by_stack (step ∷ others) ds (late_is i));
            bundles = done_at m ∷ rest.bundles;
            bundles_are =
                ap (λ (z : Moment). (onwards n core (bundles_in (step ∷ others)) z).bundles) (onward_runs w m st)
                ∙ rest.bundles_are
                ∙ ap (λ l. l ++ rest.bundles) (listed n core x values w b
                (loads_from n core (bundles_in (step ∷ others)) (next n core m)) m st f sound_here list)
                ∙ append_assoc m.bundles (done_at m ∷ []) rest.bundles;
            done = (done_as_told n core x values w b m st f, rest.done);
          }

-- A task ends within its bound.
use Rattle.std.proofs.Common.{◌≡◌, ℕ, ◌+◌, ◌*◌, ◌<◌, ◌≤◌, ◌==◌, ◌&&◌, if◌then◌else◌, nat_lt, Bool, true, false, List, [], ◌∷◌, ◌++◌, length, Option, None, Some, refl, ap, ◌∙◌, subst, arith}
use Rattle.std.specs.Prelude.{nat_le}
use Rattle.std.proofs.lemmas.Bool.{and_parts, ltb-true}
use Rattle.slot_arbiter.specs.declared.place.Place.{Place}
use Rattle.patmos_code.specs.Images.{Parts}
use Rattle.patmos_instr.specs.declared.functions.StackFunc.TheVariants.{Sres, Sens, Sfree}
use Rattle.patmos_instr.specs.declared.memories.Mem.TheVariants as mem
use Rattle.patmos_sem.specs.Bundles.{effect_of}
use Rattle.patmos_sem.specs.Registers.{FitsRegisters}
use Rattle.patmos_sem.specs.declared.effects.Effect.{Effect}
use Rattle.patmos_sem.specs.declared.effects.Effect.TheVariants as effect
use Rattle.patmos_model.specs.Apart.{site_of}
use Rattle.patmos_model.specs.Begin.{begun}
use Rattle.patmos_model.specs.Site.{Site, size_at, method_at}
use Rattle.patmos_model.specs.declared.flow.Goal.{Goal}
use Rattle.patmos_model.specs.declared.flow.Goal.TheVariants as goal
use Rattle.core_pace.specs.Bound.{most_in_slot}
use Rattle.core_pace.specs.Pace.{Event, came, event_of, clock}
use Rattle.core_pace.specs.Run.{first_event, starting, after_bundles}
use Rattle.core_pace.specs.Spans.{IsSlotted}
use Rattle.core_pace.proofs.Bundlewise.{clock_cycle}
use Rattle.sp_shape.specs.Formed.{functions_formed}
use Rattle.sp_shape.specs.Memory.{Memory}
use Rattle.sp_shape.specs.Parts.{PlainShape}
use Rattle.sp_shape.specs.Pointers.{Pointers, pointers_of}
use Rattle.sp_shape.specs.Run.{Run, Sources, late, begun as run_begun}
use Rattle.sp_shape.specs.Trail.{Step, does, begins, trail}
use Rattle.sp_tree.specs.declared.limits.TheConstants.{MOST_FUNCTIONS}
use Rattle.cycle_bound.specs.Bound.{transactions, fill_moves, bounds, fill_bound, shape_bound}
use Rattle.tc_link.specs.Backs.{back}
use Rattle.tc_link.specs.Dues.{dues_of}
use Rattle.tc_link.specs.Placed.{start_of, size_of, linked}
use Rattle.tc_link.proofs.Standing.{size_stands}
use Rattle.code_core.specs.Fixed.{fixed_events, IsLinkable, no_memory, begun_run, Behaves}
use Rattle.code_core.specs.Words.{AreGiven}
use Rattle.code_core.specs.Goes.{by_stack, goal_events, run_events}
use Rattle.code_core.specs.Sound.{IsSound, AreSound, bundles_in}
use Rattle.code_core.proofs.Fixed.{fixed, steady_trail}
use Rattle.code_core.proofs.Shapes.{start_after, ends}
use Rattle.code_times.specs.Costs.{costs, AreFew}
use Rattle.code_times.proofs.Bounded.{clock_costs, fixed_cost, shape_costs}

-- ---- stack instructions are few

few_event : (site : Site) (e : Effect) (p : Pointers) (k : Memory) (es : List Event) → IsSound site e p k → AreFew es
    → AreFew (event_of e ∷ es)
few_event site (effect.Load mem.S width rd address) p k es s few = few
few_event site (effect.Store mem.S width address value) p k es s few = few
few_event site (effect.Store mem.L width address value) p k es s few = few
few_event site (effect.Store mem.C width address value) p k es s few = few
few_event site (effect.Store mem.M width address value) p k es s few = few
few_event site (effect.StackOp Sres count) p k es s few = (s.0, few)
few_event site (effect.StackOp Sens count) p k es s few = (s.0, few)
few_event site (effect.StackOp Sfree count) p k es s few = (s.0, few)
few_event site _ p k es s few = few

few_goal : (image : Parts) (d : Option Goal) (es : List Event) → AreFew es → AreFew (goal_events image d ++ es)
few_goal image None es few = few
few_goal image (Some (goal.Within offset)) es few = few
few_goal image (Some (goal.Call target)) es few = few
few_goal image (Some (goal.Fill target)) es few = few
few_goal image (Some (goal.Return base offset)) es few = by (base == 0)
  where
    by : (b : Bool) → AreFew ((if b then [] else came (method_at image base) ∷ []) ++ es)
    by true = few
    by false = few

few_events : (site : Site) (image : Parts) (from : Sources) (steps : List Step) (ds : List (Option Goal)) (m : Run)
    → AreSound site from steps m → AreFew (run_events image from steps ds m)
few_events site image from [] ds m sound = tt
few_events site image from (does b ∷ steps) [] m sound = tt
few_events site image from (does b ∷ steps) (d ∷ ds) m sound =
    few_event site (effect_of b m.regs) (pointers_of m) m.memory (goal_events image d
    ++ run_events image from steps ds (late from b m)) sound.0
    (few_goal image d (run_events image from steps ds (late from b m)) (few_events site image from steps ds
    (late from b m) sound.1))
few_events site image from (begins ∷ steps) ds m sound = few_events site image from steps ds (run_begun m) sound

module _ (place : Place) (s : PlainShape) (addresses : List ℕ) (link : IsLinkable s)
    (behaves : Behaves s place addresses) (slots : IsSlotted (site_of place (linked s)))
    (among : place.core < place.cores) where
  pub few_fixed : AreFew (fixed_events (linked s) (trail s) (dues_of s (back 0 0)) addresses)
  few_fixed =
      let m : Run = begun_run s [] in
      let fits : FitsRegisters m.regs = record { count = refl; pred_count = refl; zero = refl; always = refl } in
      subst AreFew (fixed (linked s) by_stack (trail s) (dues_of s (back 0 0)) m (steady_trail s link.steady) fits
      ∙ ap (fixed_events (linked s) (trail s) (dues_of s (back 0 0))) (behaves.same no_memory [] tt))
      (few_events (site_of place (linked s)) (linked s) by_stack (trail s) (dues_of s (back 0 0)) m
      (behaves.sound no_memory [] tt))

  -- the cycle in which the task has ended is the one in which its events are over
  pub cycle_is : (input values : List ℕ) → AreGiven input values
      → (after_bundles place.cores place.core (begun (site_of place (linked s)) input) values
      (bundles_in (trail s))).cycle
      ≡ (clock (site_of place (linked s)) (first_event (site_of place (linked s)) ∷ fixed_events (linked s) (trail s)
      (dues_of s (back 0 0)) addresses) (starting (site_of place (linked s)))).free
  cycle_is input values given =
      clock_cycle place.cores place.core (site_of place (linked s)) input values (bundles_in (trail s)) slots
      ∙ ap (λ es. (clock (site_of place (linked s)) es (starting (site_of place (linked s)))).free)
      (ends place s addresses link behaves slots among input values given).events

  -- and that comes within the bound
  pub clock_within : (clock (site_of place (linked s)) (first_event (site_of place (linked s))
      ∷ fixed_events (linked s) (trail s) (dues_of s (back 0 0)) addresses) (starting (site_of place (linked s)))).free
      ≤ place.start + shape_bound (most_in_slot (site_of place (linked s))) s
  clock_within =
      let site : Site = site_of place (linked s) in
      let each : ℕ = most_in_slot site in
      let time = clock_costs site (first_event site ∷ fixed_events (linked s) (trail s) (dues_of s
      (back 0 0)) addresses) (starting site) slots few_fixed refl (omega arith) in
      let a = and_parts (nat_le (length s.functions) MOST_FUNCTIONS) (functions_formed s.functions (length s.functions)
      && nat_lt s.entry (length s.functions)) link.formed in
      let b = and_parts (functions_formed s.functions (length s.functions)) (nat_lt s.entry (length s.functions)) a.1 in
      let first : each * transactions (1 + size_at (linked s) (start_of s s.entry))
      ≡ each * fill_moves s.functions s.entry = ap (λ w. each * transactions (1 + w)) (size_stands s s.entry
      (ltb-true s.entry (length s.functions) b.1)) in
      let rest : costs each (fixed_events (linked s) (trail s) (dues_of s (back 0 0)) addresses)
      ≡ bounds s.functions each (fill_bound each s.functions) (length s.functions) s.entry =
      fixed_cost (linked s) each (trail s) (dues_of s (back 0 0)) addresses
      ∙ shape_costs (linked s) each s (size_stands s) (λ k. start_after (size_of s) s.entry k) link.formed in
      omega (arith, time, first, rest)

  pub ends_within : (input values : List ℕ) → AreGiven input values
      → (after_bundles place.cores place.core (begun (site_of place (linked s)) input) values
      (bundles_in (trail s))).cycle ≤ place.start + shape_bound (most_in_slot (site_of place (linked s))) s
  ends_within input values given = omega (arith, cycle_is input values given, clock_within)

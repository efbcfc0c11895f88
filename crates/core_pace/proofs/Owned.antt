-- The own operations of a task that does not run any more are those of the moment in which it ended.
use Rattle.std.proofs.Common.{◌≡◌, ℕ, zero, suc, ◌+◌, ◌-◌, ◌<◌, false, List, ◌++◌, sym, ap, ◌∙◌, arith, append-nil, inl}
use Rattle.slot_arbiter.specs.Stamp.{stamp}
use Rattle.shared_order.specs.Program.{and_then, fed}
use Rattle.patmos_model.specs.declared.state.Status.TheVariants.{Running}
use Rattle.patmos_model.specs.Site.{Site}
use Rattle.patmos_model.specs.Begin.{begun}
use Rattle.patmos_model.specs.State.{Core, is_running}
use Rattle.patmos_model.specs.Cells.{now}
use Rattle.patmos_model.specs.Cycle.{own, settled}
use Rattle.patmos_model.specs.Apart.{Followed, followed}
use Rattle.core_pace.specs.Moment.{Moment, core_in, interfaced, finished, before, Passes}
use Rattle.core_pace.specs.Run.{after_bundles}
use Rattle.core_pace.specs.Spans.{IsSlotted}
use Rattle.core_pace.proofs.OwnActs.{asleep}
use Rattle.core_pace.proofs.Bundlewise.{all_passed}
use Rattle.core_pace.proofs.Growing.{told_before, stays_still}
use Rattle.core_pace.proofs.Waits.{interface_apart}

module _ (n core : ℕ) where
  -- a cycle's own part adds nothing where the core does not run
  finished_own : (m : Moment) → is_running (core_in m).plain ≡ false → (finished n core m).told.own ≡ m.told.own
  finished_own m still =
      let act : own m.cycle (core_in m) ≡ now (core_in m) = asleep (core_in m) m.cycle (inl still) in
      ap (λ p. m.told.own ++ (fed (stamp n core m.cycle 1) (and_then p settled) m.told.run.left).ops) act
      ∙ append-nil m.told.own

  own_on : (m : Moment) → is_running (core_in m).plain ≡ false → (finished n core (interfaced n core m)).told.own
      ≡ m.told.own
  own_on m still =
      finished_own (interfaced n core m) (ap (λ (c : Core). is_running c.plain) (interface_apart n core m) ∙ still)

  module _ (x : Core) (values : List ℕ) where
    pub own_stays : (t d : ℕ) → is_running (core_in (before n core x values t)).plain ≡ false
        → (before n core x values (t + d)).told.own ≡ (before n core x values t).told.own
    own_stays t zero still =
        let same : t + 0 ≡ t = omega arith in
        ap (λ u. (before n core x values u).told.own) same
    own_stays t (suc d) still =
        let next : t + suc d ≡ suc (t + d) = omega arith in
        let still_then : is_running (core_in (before n core x values (t + d))).plain ≡ false =
        ap (λ (c : Core). is_running c.plain) (stays_still n core x values t d still) ∙ still in
        ap (λ u. (before n core x values u).told.own) next ∙ own_on (before n core x values (t + d)) still_then
        ∙ own_stays t d still

    own_at : (m : Moment) (d : ℕ) → is_running (core_in m).plain ≡ false → Passes n core x values m
        → (before n core x values (suc m.cycle + d)).told.own ≡ m.told.own
    own_at m d still passes =
        let act : own m.cycle (core_in m) ≡ now (core_in m) = asleep (core_in m) m.cycle (inl still) in
        let left : core_in (before n core x values (suc m.cycle)) ≡ core_in m =
        ap core_in passes ∙ ap (λ p. (fed (stamp n core m.cycle 1) (and_then p settled) m.told.run.left).core) act in
        own_stays (suc m.cycle) d (ap (λ (c : Core). is_running c.plain) left ∙ still)
        ∙ ap (λ (z : Moment). z.told.own) passes ∙ finished_own m still

module _ (n core : ℕ) (site : Site) (input values : List ℕ) (count : ℕ) (slots : IsSlotted site) where
  abbrev last : Moment
  last = after_bundles n core (begun site input) values count

  -- from the end on
  pub own_ended : (cycles : ℕ) → is_running (core_in last).plain ≡ false → last.cycle < cycles
      → (followed n core (begun site input) values cycles).own ≡ last.told.own
  own_ended cycles still late =
      let far : suc last.cycle + (cycles - suc last.cycle) ≡ cycles = omega (arith, late) in
      ap (λ (f : Followed). f.own) (sym (told_before n core (begun site input) values cycles))
      ∙ ap (λ u. (before n core (begun site input) values u).told.own) (sym far)
      ∙ own_at n core (begun site input) values last (cycles - suc last.cycle) still (all_passed n core site input
      values count slots).passes

  pub own_ended_there : (core_in last).plain.status ≡ Running → is_running (core_in last).plain ≡ false
      → (followed n core (begun site input) values last.cycle).own ≡ last.told.own
  own_ended_there runs still =
      let enters_it : interfaced n core (before n core (begun site input) values last.cycle) ≡ last =
      (all_passed n core site input values count slots).ended_before runs still in
      ap (λ (f : Followed). f.own) (sym (told_before n core (begun site input) values last.cycle))
      ∙ ap (λ (z : Moment). z.told.own) enters_it

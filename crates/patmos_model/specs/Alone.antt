-- For worked rows. The only core of a platform, for worked values.
use Rattle.std.specs.Prelude.{ℕ, ◌+◌, Bool, List, [], ◌∷◌}
use Rattle.slot_arbiter.specs.declared.event.Access.{Access}
use Rattle.shared_order.specs.Machine.{cycled}
use Rattle.patmos_instr.specs.Bundles.{PlainBundle}
use Rattle.patmos_model.specs.declared.state.CoreState.{CoreState}
use Rattle.patmos_model.specs.State.{Core}
use Rattle.patmos_model.specs.Cycle.{turn}
use Rattle.patmos_model.specs.Outcome.{state_at}
use Rattle.patmos_model.specs.Programs.{core_of}

-- a core after the cycles below a limit
abbrev pub ran : Core → ℕ → Core
ran c limit = (cycled turn 1 (λ core. c) limit).cores 0

-- a task of these functions that starts at cycle 0
abbrev pub after : List (List PlainBundle) → ℕ → Core
after functions limit = ran (core_of 1 0 0 functions) limit

abbrev pub outcome : List (List PlainBundle) → ℕ → CoreState
outcome functions limit = state_at limit (after functions limit).plain

abbrev pub accesses : List (List PlainBundle) → ℕ → List Access
accesses functions limit = (after functions limit).seen.accesses

-- transactions of so many words each, one every six cycles from a cycle on
abbrev pub transactions : Bool → List ℕ → ℕ → List Access
transactions write [] cycle = []
transactions write (words ∷ later) cycle =
    record { cycle = cycle; write = write; words = words } ∷ transactions write later (cycle + 6)

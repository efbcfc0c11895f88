use Rattle.std.proofs.Common.{◌≡◌, ℕ, List, drop}
use Rattle.c_meaning.specs.Globals.{first_in, slot_before}
use Rattle.c_meaning.specs.Scope.{among_slots}
use Rattle.c_meaning.proofs.globals.Globals.new.Given as goal

abbrev pub invariant-loop-slot : goal.invariant-loop-slot
invariant-loop-slot l =
    (name : List ℕ) → slot_before (first_in l.first name) (among_slots name (drop l.slot-index l.slots))
    ≡ among_slots name l.slots

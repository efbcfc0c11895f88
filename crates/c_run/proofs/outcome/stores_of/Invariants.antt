use Rattle.std.proofs.Common.{◌≡◌, List, map, take}
use Rattle.c_world.specs.Shown.{shown}
use Rattle.c_world.specs.World.{Sending}
use Rattle.c_run.specs.Reported.{slot_words}
use Rattle.c_run.proofs.outcome.stores_of.Given as goal

abbrev pub invariant-loop-slot : goal.invariant-loop-slot
invariant-loop-slot l =
    (sends : List Sending) → l.stores.items ≡ map (slot_words (shown l.memory sends)) (take l.slot-index l.slots)

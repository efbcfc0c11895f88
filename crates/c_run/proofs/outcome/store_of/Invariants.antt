use Rattle.std.proofs.Common.{◌≡◌, List}
use Rattle.c_world.specs.Shown.{shown}
use Rattle.c_world.specs.World.{Sending, words_in}
use Rattle.c_run.specs.Reported.{words_from}
use Rattle.c_run.proofs.outcome.store_of.Given as goal

abbrev pub invariant-loop-at : goal.invariant-loop-at
invariant-loop-at l = (sends : List Sending) → l.words.items
    ≡ words_from (words_in l.array.region (shown l.memory sends)) l.array.first l.at

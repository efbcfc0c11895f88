use Rattle.std.proofs.Common.{◌≡◌, drop, map}
use Rattle.c_mentions.specs.Alone.{any_other, writes_shared}
use Rattle.c_mentions.specs.Tasks.{running}
use Rattle.c_mentions.proofs.alone.is_shared_written.Given as goal

abbrev pub invariant-loop-at : goal.invariant-loop-at
invariant-loop-at g l = any_other l.core writes_shared l.at (map (running g.P.Mentioning.items) (drop l.at l.tasks))
    ≡ any_other l.core writes_shared 0 (map (running g.P.Mentioning.items) l.tasks)

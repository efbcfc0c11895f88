use Rattle.std.proofs.Common.{◌≡◌, drop, map}
use Rattle.c_mentions.specs.Alone.{any_other, reaches}
use Rattle.c_mentions.specs.Tasks.{running}
use Rattle.c_mentions.proofs.alone.is_reached.Given as goal

abbrev pub invariant-loop-at : goal.invariant-loop-at
invariant-loop-at g l = any_other l.core (reaches l.core) l.at (map (running g.P.Mentioning.items) (drop l.at l.tasks))
    ≡ any_other l.core (reaches l.core) 0 (map (running g.P.Mentioning.items) l.tasks)

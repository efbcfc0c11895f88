use Rattle.std.proofs.Common.{◌≡◌, take, length}
use Rattle.c_names.specs.Open.{open_names}
use Rattle.c_names.proofs.names.Names.close.Given as goal

abbrev pub invariant-loop-self : goal.invariant-loop-self
invariant-loop-self g l = take l.outer (open_names l.self) ≡ take l.outer (open_names l.initial.self)

abbrev pub decreases-loop-self : goal.decreases-loop-self
decreases-loop-self g l = length (open_names l.self)

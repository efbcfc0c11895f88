use Rattle.std.proofs.Common.{◌≡◌, [], take, drop}
use Rattle.argo_grid.specs.Check.{checked_from}
use Rattle.argo_grid.proofs.check.first_fault.Given as goal

abbrev pub invariant-loop-number : goal.invariant-loop-number
invariant-loop-number l =
    checked_from l.job (take l.number l.entries) (drop l.number l.entries) ≡ checked_from l.job [] l.entries

use Rattle.std.proofs.Common.{ℕ, ◌<◌, length}
use Rattle.std.specs.Option.{IfSome}
use Rattle.std.specs.List.{slice_get}
use Rattle.global_step.specs.Loaded.{IsBeside}
use Rattle.global_step.proofs.loaded.are_beside.Given as goal

abbrev pub invariant-loop-k : goal.invariant-loop-k
invariant-loop-k l = (j : ℕ) → j < l.k → IfSome (slice_get l.cores j) (λ c. IsBeside (length l.cores) j l.other c.place)

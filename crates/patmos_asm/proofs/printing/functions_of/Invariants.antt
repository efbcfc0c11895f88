use Rattle.std.proofs.Common.{◌≡◌, ℕ, length}
use Rattle.std.specs.List.{zip}
use Rattle.patmos_asm.specs.Printed.{name_at}
use Rattle.patmos_asm.specs.Targets.{name_or}
use Rattle.patmos_asm.proofs.printing.functions_of.Given as goal

abbrev pub invariant-functions : goal.invariant-functions
invariant-functions l = (q : ℕ) → name_or l.functions q (name_at (zip l.starts l.names) q)
    ≡ name_at (zip l.initial.starts l.initial.names) q

abbrev pub decreases-functions : goal.decreases-functions
decreases-functions l = length l.starts

-- To be believed. The four bits of a guard: the negation, then the three bits of the predicate (Patmos Reference
-- Handbook, instruction formats).
use Rattle.std.specs.Prelude.{ℕ, ◌+◌, ◌/◌, ◌%◌, ◌==◌, if◌then◌else◌}
use Rattle.patmos_instr.specs.Fields.{FitsPred}
use Rattle.patmos_instr.specs.declared.guards.Guard.{Guard}

-- the four bits as a number
abbrev pub guard_number : Guard → ℕ
guard_number g = (if g.negated then 8 else 0) + g.pred

-- the guard that a number's low four bits name
abbrev pub guard_of : ℕ → Guard
guard_of n = record { negated = n / 8 % 2 == 1; pred = n % 8 }

-- a guard on one of the eight predicates
abbrev pub FitsGuard : Guard → Type 0
FitsGuard g = FitsPred g.pred

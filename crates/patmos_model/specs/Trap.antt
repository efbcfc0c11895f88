-- To be believed. The numbers of traps (our own profile TP1).
use Rattle.std.specs.Prelude.{ℕ}
use Rattle.patmos_model.specs.declared.trap.Trap.{Trap}
use Rattle.patmos_model.specs.declared.trap.Trap.TheVariants as trap

abbrev pub trap_number : Trap → ℕ
trap_number trap.Access = 1
trap_number trap.Align = 2
trap_number trap.Decode = 3
trap_number trap.Flow = 4
trap_number trap.Stack = 5
trap_number trap.Interface = 6

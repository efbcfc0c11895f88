-- A number that is set, in one word or in two: what holds of both operations holds of the one.
use Rattle.std.proofs.Common.{ℕ, Bool, true, false, if◌then◌else◌}
use Rattle.std.specs.Prelude.{nat_lt}
use Rattle.patmos_instr.specs.declared.functions.AluFunc.TheVariants as alu
use Rattle.patmos_instr.specs.declared.functions.ImmFunc.TheVariants as imm
use Rattle.patmos_instr.specs.declared.instructions.Op.{Op}
use Rattle.patmos_instr.specs.declared.instructions.Op.TheVariants.{AluImm, AluLong}
use Rattle.sp_emit.specs.Instructions.{number_op}

pub number_op_is : (P : Op → Type 0) (rd n : ℕ) → P (AluImm imm.Add rd 0 n) → P (AluLong alu.Add rd 0 n)
    → P (number_op rd n)
unfolding number_op
number_op_is P rd n short long = by (nat_lt n 4096)
  where
    by : (b : Bool) → P (if b then AluImm imm.Add rd 0 n else AluLong alu.Add rd 0 n)
    by true = short
    by false = long

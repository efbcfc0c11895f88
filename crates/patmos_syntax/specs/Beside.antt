-- For proofs. What may stand beside a jump.
use Rattle.std.specs.Prelude.{Bool, true, Option, Some, None}
use Rattle.patmos_instr.specs.Instructions.{is_second_kind}
use Rattle.patmos_instr.specs.declared.instructions.Instr.{Instr}

-- the instruction, if there is one, is of a kind for the second slot
abbrev pub fits_beside : Option Instr → Bool
fits_beside None = true
fits_beside (Some i) = is_second_kind i.op

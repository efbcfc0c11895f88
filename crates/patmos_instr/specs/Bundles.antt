-- To be believed. A bundle: what the processor fetches and carries out at once (Patmos Reference Handbook, bundle
-- formats).
use Rattle.std.specs.Prelude.{Bool, true, not, ◌&&◌, Option, Some, None, IfSome, IsTrue}
use Rattle.patmos_instr.specs.Instructions.{is_long, is_second_kind, FitsInstr}
use Rattle.patmos_instr.specs.declared.instructions.Instr.{Instr}

-- the instructions in a bundle's slots
pub record PlainBundle : Type 0 where
  pub first : Instr
  pub second : Option Instr

-- the second slot is empty, or no slot has a long immediate and the second is of a kind for it
abbrev pub is_legal : Instr → Option Instr → Bool
is_legal first None = true
is_legal first (Some second) = not (is_long first.op) && is_second_kind second.op

-- a bundle: its instructions go together, and each field is in its range
pub record FitsBundle (b : PlainBundle) : Type 0 where
  pub legal : IsTrue (is_legal b.first b.second)
  pub first : FitsInstr b.first
  pub second : IfSome b.second FitsInstr

-- For worked rows. Small bundles for worked values.
use Rattle.std.specs.Prelude.{ℕ, false, Some}
use Rattle.patmos_instr.specs.Bundles.{PlainBundle}
use Rattle.patmos_instr.specs.declared.functions.ImmFunc.TheVariants as imm
use Rattle.patmos_instr.specs.declared.specials.WritableSpecial.TheVariants as special
use Rattle.patmos_instr.specs.declared.instructions.Op.{Op}
use Rattle.patmos_instr.specs.declared.instructions.Op.TheVariants.{AluImm, ToSpecial}

-- two instructions under guards that are always true
abbrev pub both : Op → Op → PlainBundle
both a b = record {
  first = record { guard = record { negated = false; pred = 0 }; op = a };
  second = Some (record { guard = record { negated = false; pred = 0 }; op = b });
}

-- rd = ra + imm
abbrev pub add_short : ℕ → ℕ → ℕ → Op
add_short rd ra number = AluImm imm.Add rd ra number

-- s0 = ra
abbrev pub s0_from : ℕ → Op
s0_from ra = ToSpecial special.S0 ra

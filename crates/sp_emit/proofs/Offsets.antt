-- The length and the address of an array, held by an instruction or set in the spare register: what holds of both
-- operations holds of the one.
use Rattle.std.proofs.Common.{◌≡◌, ℕ, ◌<◌, Bool, true, false, if◌then◌else◌, refl, arith, nat_lt}
use Rattle.std.specs.Prelude.{◌==◌}
use Rattle.std.proofs.lemmas.Bool.{and_parts, ltb-true}
use Rattle.patmos_instr.specs.Bundles.{PlainBundle}
use Rattle.patmos_instr.specs.declared.functions.AluFunc.TheVariants as alu
use Rattle.patmos_instr.specs.declared.functions.CmpFunc.TheVariants as cmp
use Rattle.patmos_instr.specs.declared.functions.ImmFunc.TheVariants as imm
use Rattle.patmos_instr.specs.declared.instructions.Op.{Op}
use Rattle.patmos_instr.specs.declared.instructions.Op.TheVariants.{AluImm, AluReg, Cmp, CmpImm}
use Rattle.sp_tree.specs.declared.expressions.SpArray.{SpArray}
use Rattle.sp_emit.specs.Expressions.{base_of, address_of, spare_op, length_op, below_op, has_offset, offset_of, base_op, scaled_op}
use Rattle.sp_emit.specs.Instructions.{always, under, idle, number_op, set_number, with_short, compute, compare, compare_short}
use Rattle.sp_emit.specs.declared.registers.TheConstants.{SPARE}

pub either : {A : Type 0} (P : A → Type 0) (b : Bool) (here there : A) → P here → P there
    → P (if b then here else there)
either P true here there h t = h
either P false here there h t = t

pub spare_op_is : (P : Op → Type 0) (is_held : Bool) (n : ℕ) → P (AluImm imm.Add 0 0 0) → P (number_op SPARE n)
    → P (spare_op is_held n)
unfolding spare_op
spare_op_is P is_held n here there = either P is_held (AluImm imm.Add 0 0 0) (number_op SPARE n) here there

pub below_op_is : (P : Op → Type 0) (pd ra length : ℕ) → P (CmpImm cmp.Ult pd ra length) → P (Cmp cmp.Ult pd ra SPARE)
    → P (below_op pd ra length)
unfolding below_op
below_op_is P pd ra length here there =
    either P (nat_lt length 32) (CmpImm cmp.Ult pd ra length) (Cmp cmp.Ult pd ra SPARE) here there

pub scaled_op_is : (P : Op → Type 0) (a : SpArray) (rd ra : ℕ) → P (AluImm imm.Sl rd ra 2)
    → P (AluReg alu.Shadd2 rd ra SPARE) → P (scaled_op a rd ra)
unfolding scaled_op
scaled_op_is P a rd ra here there =
    either P (has_offset a) (AluImm imm.Sl rd ra 2) (AluReg alu.Shadd2 rd ra SPARE) here there

-- the bundles that compare an index and make an address
pub record AddressAre (P : PlainBundle → Type 0) (a : SpArray) (pd rd ra : ℕ) : Type 0 where
  pub length : P (under always (length_op a.length))
  pub below : P (under always (below_op pd ra a.length))
  pub base : P (under always (base_op a))
  pub scaled : P (under always (scaled_op a rd ra))

pub address_are : (P : PlainBundle → Type 0) (a : SpArray) (pd rd ra : ℕ) → P idle → ((n : ℕ) → P (set_number SPARE n))
    → P (compare_short cmp.Ult pd ra a.length) → P (compare cmp.Ult pd ra SPARE)
    → P (with_short always imm.Sl rd ra 2) → P (compute always alu.Shadd2 rd ra SPARE) → AddressAre P a pd rd ra
address_are P a pd rd ra nothing number short long shift sum = record {
  length = spare_op_is (λ op. P (under always op)) (nat_lt a.length 32) a.length nothing (number a.length);
  below = below_op_is (λ op. P (under always op)) pd ra a.length short long;
  base = spare_op_is (λ op. P (under always op)) (has_offset a) (address_of a.region a.first) nothing
      (number (address_of a.region a.first));
  scaled = scaled_op_is (λ op. P (under always op)) a rd ra shift sum;
}

pub offset_small : (a : SpArray) → offset_of a < 128
offset_small a = by (has_offset a) refl
  where
    by : (b : Bool) → has_offset a ≡ b → (if b then a.first else 0) < 128
    by true is = ltb-true a.first 128 (and_parts (base_of a.region == 0) (nat_lt a.first 128) is).1
    by false is = omega arith

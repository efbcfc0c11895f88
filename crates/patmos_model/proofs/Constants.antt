-- The constants of a bundle are words.
use Rattle.std.proofs.Common.{◌≡◌, ℕ, ◌-◌, ◌^◌, Bool, true, false, Option, Some, None, IfSome, if◌then◌else◌, nat_lt, subst, arith}
use Rattle.std.proofs.lemmas.Option.{IfSome_then}
use Rattle.patmos_instr.specs.Instructions.{is_long, is_second_kind, FitsOp}
use Rattle.patmos_instr.specs.Bundles.{PlainBundle}
use Rattle.patmos_instr.specs.declared.instructions.Instr.{Instr}
use Rattle.patmos_instr.specs.declared.instructions.Op.{Op}
use Rattle.patmos_instr.specs.declared.instructions.Op.TheVariants.{AluImm, AluLong}
use Rattle.patmos_code.specs.Decoding.{instr_at, lone, beside, double, bundle_at}
use Rattle.patmos_code.proofs.Instructions.{instr_taken}
use Rattle.patmos_model.specs.Range.{IsWord, constant_of, ConstantsFit}

-- the instruction's constant is a word
abbrev HasWord : Instr → Type 0
HasWord i = IsWord (constant_of i.op)

-- so it is where the fields are in their ranges
op_constant : (op : Op) → FitsOp op → IsWord (constant_of op)
op_constant (AluImm func rd ra imm) h = omega (arith, h.2)
op_constant (AluLong func rd ra constant) h = h.2
op_constant _ h = omega arith

-- the instruction of a word
instr_constant : (word constant : ℕ) → IsWord constant → IfSome (instr_at word constant) HasWord
instr_constant word constant h =
    IfSome_then (instr_at word constant) (instr_taken word constant h) (λ i t. op_constant i.op t.0.1)

-- what holds of either of two bundles
either_fits : (b : Bool) (x y : Option PlainBundle) → IfSome x ConstantsFit → IfSome y ConstantsFit
    → IfSome (if b then x else y) ConstantsFit
either_fits true x y h k = h
either_fits false x y h k = k

-- the bundle of one word
lone_fits : (o : Option Instr) → IfSome o HasWord → IfSome (lone o) ConstantsFit
lone_fits None h = tt
lone_fits (Some i) h =
    either_fits (is_long i.op) None (Some (record { first = i; second = None })) tt (record { first = h; second = tt })

-- an instruction and the one of the second word
beside_fits : (i : Instr) (o : Option Instr) → HasWord i → IfSome o HasWord → IfSome (beside i o) ConstantsFit
beside_fits i None h k = tt
beside_fits i (Some j) h k = either_fits (is_second_kind j.op) (Some (record { first = i; second = Some j })) None
    (record { first = h; second = k }) tt

-- the bundle of two words
double_fits : (o p : Option Instr) → IfSome o HasWord → IfSome p HasWord → IfSome (double o p) ConstantsFit
double_fits None p h k = tt
double_fits (Some i) p h k =
    either_fits (is_long i.op) (Some (record { first = i; second = None })) (beside i p)
    (record { first = h; second = tt }) (beside_fits i p h k)

-- the bundle that is found
pub constants_fit : (first second : ℕ) (b : PlainBundle) → IsWord second → bundle_at first second ≡ Some b
    → ConstantsFit b
unfolding bundle_at
constants_fit first second b small e =
    let found : IfSome (bundle_at first second) ConstantsFit =
    either_fits (nat_lt first (2 ^ 31)) (lone (instr_at first 0)) (double (instr_at (first - 2 ^ 31) second)
    (instr_at second 0))
    (lone_fits (instr_at first 0) (instr_constant first 0 (omega arith)))
    (double_fits (instr_at (first - 2 ^ 31) second) (instr_at second 0) (instr_constant (first - 2 ^ 31) second small)
    (instr_constant second 0 (omega arith))) in
    subst (λ o. IfSome o ConstantsFit) e found

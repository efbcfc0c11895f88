-- The code of an operator with a constant is one of two, and leaves the operator's value.
use Rattle.std.proofs.Common.{◌≡◌, ℕ, ◌^◌, ◌<◌, ◌≤◌, nat_lt, Bool, true, false, ◌&&◌, ◌||◌, if◌then◌else◌, List, refl, ap, ◌∙◌, arith, true≢false}
use Rattle.std.specs.Prelude.{nat_le}
use Rattle.std.proofs.lemmas.Bool.{and_parts, ltb-true}
use Rattle.patmos_instr.specs.Bundles.{PlainBundle}
use Rattle.patmos_instr.specs.declared.functions.CmpFunc.TheVariants as cmp
use Rattle.patmos_instr.specs.declared.functions.ImmFunc.TheVariants as imm
use Rattle.c_world.specs.Numbers.{flag}
use Rattle.sp_tree.specs.Operators.{binary_value}
use Rattle.sp_tree.specs.Plain.{constant}
use Rattle.sp_tree.specs.declared.operators.SpBinary.{SpBinary}
use Rattle.sp_tree.specs.declared.operators.SpBinary.TheVariants as binary
use Rattle.sp_shape.specs.Run.{Run, Sources, run, IsWhole}
use Rattle.sp_shape.specs.Trail.{all_done}
use Rattle.sp_emit.specs.Divisors.{is_power, factor, is_exact}
use Rattle.sp_emit.specs.Expressions.{immediate_below, is_short, greatest, is_immediate, short_code, factor_code, held_code}
use Rattle.sp_emit.specs.Holding.{held}
use Rattle.sp_emit.proofs.ByConstants.{divides_unsigned, leaves_unsigned, divides_signed, leaves_signed}
use Rattle.sp_emit.proofs.Factors.{Exact, exact_parts}
use Rattle.sp_emit.proofs.Leaving.{held_computed_leaves, held_compared_leaves, not_lt}

pub held_is : (P : List PlainBundle → Type 0) (op : SpBinary) (rd ra n : ℕ) → P (short_code op rd ra n)
    → P (factor_code op rd ra n) → P (held_code op rd ra n)
held_is P op rd ra n short by_factor = by (is_short op n)
  where
    by : (b : Bool) → P (if b then short_code op rd ra n else factor_code op rd ra n)
    by true = short
    by false = by_factor

-- ---- which of the two

pub short_below : (op : SpBinary) (n : ℕ) → is_immediate op (constant n) ≡ true → n < immediate_below op
short_below op n is = ltb-true n (immediate_below op) (and_parts (nat_lt n (immediate_below op))
    (is_short op n || is_exact (greatest op) n) is).0

-- where the constant is none that an instruction holds
exact_else : (op : SpBinary) (n : ℕ) → is_immediate op (constant n) ≡ true → is_short op n ≡ false
    → Exact (greatest op) n
exact_else op n is long =
    exact_parts (greatest op) n (by (is_short op n) long (and_parts (nat_lt n (immediate_below op))
    (is_short op n || is_exact (greatest op) n) is).1)
  where
    by : (b : Bool) → b ≡ false → (b || is_exact (greatest op) n) ≡ true → is_exact (greatest op) n ≡ true
    by false none exact = exact
    by true none exact = absurd (true≢false none)

pub factor_some : (op : SpBinary) (n : ℕ) → is_immediate op (constant n) ≡ true → is_short op n ≡ false → 1 ≤ n
factor_some op n is long = let e = exact_else op n is long in omega (arith, e.some)

pub factor_word : (op : SpBinary) (n : ℕ) → is_immediate op (constant n) ≡ true → is_short op n ≡ false
    → factor n < 2 ^ 32
factor_word op n is long = (exact_else op n is long).word

-- ---- its value

none_below : (op : SpBinary) (n : ℕ) → immediate_below op ≡ 0 → is_immediate op (constant n) ≡ true → ⊥
none_below op n none is = omega (arith, none, short_below op n is)

pub held_leaves : (from : Sources) (op : SpBinary) (rd ra n : ℕ) (m : Run) → IsWhole m → 1 ≤ rd → rd < 32 → ra < 27
    → held ra m < 2 ^ 32 → is_immediate op (constant n) ≡ true
    → held rd (run from (all_done (held_code op rd ra n)) m) ≡ binary_value op (held ra m) n
held_leaves from binary.BitAnd rd ra n m whole some few low word is =
    held_computed_leaves from imm.And rd ra n m whole some few
held_leaves from binary.Equal rd ra n m whole some few low word is =
    held_compared_leaves from cmp.Eq rd ra n m whole some few
held_leaves from binary.NotEqual rd ra n m whole some few low word is =
    held_compared_leaves from cmp.Neq rd ra n m whole some few
held_leaves from binary.Less rd ra n m whole some few low word is =
    held_compared_leaves from cmp.Lt rd ra n m whole some few
held_leaves from binary.LessUnsigned rd ra n m whole some few low word is =
    held_compared_leaves from cmp.Ult rd ra n m whole some few
held_leaves from binary.LessEqual rd ra n m whole some few low word is =
    held_compared_leaves from cmp.Le rd ra n m whole some few
held_leaves from binary.LessEqualUnsigned rd ra n m whole some few low word is =
    held_compared_leaves from cmp.Ule rd ra n m whole some few ∙ ap flag (not_lt (held ra m) n)
held_leaves from binary.BitOr rd ra n m whole some few low word is =
    held_computed_leaves from imm.Or rd ra n m whole some few
held_leaves from binary.BitXor rd ra n m whole some few low word is =
    held_computed_leaves from imm.Xor rd ra n m whole some few
held_leaves from binary.ShiftLeft rd ra n m whole some few low word is =
    held_computed_leaves from imm.Sl rd ra n m whole some few
held_leaves from binary.ShiftRight rd ra n m whole some few low word is =
    held_computed_leaves from imm.Sra rd ra n m whole some few
held_leaves from binary.ShiftRightUnsigned rd ra n m whole some few low word is =
    held_computed_leaves from imm.Sr rd ra n m whole some few
held_leaves from binary.Plus rd ra n m whole some few low word is =
    held_computed_leaves from imm.Add rd ra n m whole some few
held_leaves from binary.Minus rd ra n m whole some few low word is =
    held_computed_leaves from imm.Sub rd ra n m whole some few
held_leaves from binary.Divide rd ra n m whole some few low word is =
    divides_signed from rd ra n m whole some few low word (short_below binary.Divide n is) (is_power n) refl
    (λ long. exact_else binary.Divide n is long)
held_leaves from binary.DivideUnsigned rd ra n m whole some few low word is =
    divides_unsigned from rd ra n m whole some few low word (is_power n) refl
    (λ long. exact_else binary.DivideUnsigned n is long)
held_leaves from binary.Remainder rd ra n m whole some few low word is =
    leaves_signed from rd ra n m whole some few low word (short_below binary.Remainder n is)
    (is_power n && nat_le n 4096) (λ held. (and_parts (is_power n) (nat_le n 4096) held).0)
    (λ long. exact_else binary.Remainder n is long)
held_leaves from binary.RemainderUnsigned rd ra n m whole some few low word is =
    leaves_unsigned from rd ra n m whole some few low word (short_below binary.RemainderUnsigned n is)
    (is_power n && nat_le n 4096) (λ held. (and_parts (is_power n) (nat_le n 4096) held).0)
    (λ long. exact_else binary.RemainderUnsigned n is long)
held_leaves from other rd ra n m whole some few low word is = absurd (none_below other n refl is)

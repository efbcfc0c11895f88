-- What the code of an operator on two words leaves: its value.
use Rattle.std.proofs.Common.{◌≡◌, ℕ, ◌^◌, ◌<◌, ◌≤◌, List, refl, ap, ◌∙◌, arith}
use Rattle.patmos_instr.specs.declared.functions.AluFunc.TheVariants as alu
use Rattle.patmos_instr.specs.declared.functions.CmpFunc.TheVariants as cmp
use Rattle.patmos_instr.specs.declared.functions.PredFunc.TheVariants as comb
use Rattle.c_world.specs.Numbers.{flag}
use Rattle.sp_tree.specs.Operators.{binary_value}
use Rattle.sp_tree.specs.declared.operators.SpBinary.{SpBinary}
use Rattle.sp_tree.specs.declared.operators.SpBinary.TheVariants as binary
use Rattle.sp_shape.specs.Run.{Run, Sources, run, IsWhole}
use Rattle.sp_shape.specs.Trail.{Step, parts_trail}
use Rattle.sp_emit.specs.Expressions.{binary_code}
use Rattle.sp_emit.specs.Holding.{held}
use Rattle.sp_emit.proofs.Products.{low_product}
use Rattle.sp_emit.proofs.Leaving.{computed_leaves, compared_leaves, both_leaves, times_leaves, not_lt}
use Rattle.sp_emit.proofs.Quotients.{unsigned_quotient_left, unsigned_rest_left, signed_quotient_left, signed_rest_left}

pub binary_leaves : (from : Sources) (f : ℕ → List Step) (op : SpBinary) (rd ra rb : ℕ) (m : Run) → IsWhole m → 1 ≤ rd
    → rd < 32 → ra < 27 → rb < 27
    → held ra m < 2 ^ 32 → held rb m < 2 ^ 32 → held rd (run from (parts_trail f (binary_code op rd ra rb)) m)
    ≡ binary_value op (held ra m) (held rb m)
binary_leaves from f binary.Or rd ra rb m whole some few low_a low wa wb =
    both_leaves from comb.Por rd ra rb m whole some few (omega (arith, low))
binary_leaves from f binary.And rd ra rb m whole some few low_a low wa wb =
    both_leaves from comb.Pand rd ra rb m whole some few (omega (arith, low))
binary_leaves from f binary.BitOr rd ra rb m whole some few low_a low wa wb =
    computed_leaves from f alu.Or rd ra rb m whole some few
binary_leaves from f binary.BitXor rd ra rb m whole some few low_a low wa wb =
    computed_leaves from f alu.Xor rd ra rb m whole some few
binary_leaves from f binary.BitAnd rd ra rb m whole some few low_a low wa wb =
    computed_leaves from f alu.And rd ra rb m whole some few
binary_leaves from f binary.Equal rd ra rb m whole some few low_a low wa wb =
    compared_leaves from cmp.Eq rd ra rb m whole some few
binary_leaves from f binary.NotEqual rd ra rb m whole some few low_a low wa wb =
    compared_leaves from cmp.Neq rd ra rb m whole some few
binary_leaves from f binary.Less rd ra rb m whole some few low_a low wa wb =
    compared_leaves from cmp.Lt rd ra rb m whole some few
binary_leaves from f binary.LessUnsigned rd ra rb m whole some few low_a low wa wb =
    compared_leaves from cmp.Ult rd ra rb m whole some few
binary_leaves from f binary.LessEqual rd ra rb m whole some few low_a low wa wb =
    compared_leaves from cmp.Le rd ra rb m whole some few
binary_leaves from f binary.LessEqualUnsigned rd ra rb m whole some few low_a low wa wb =
    compared_leaves from cmp.Ule rd ra rb m whole some few ∙ ap flag (not_lt (held ra m) (held rb m))
binary_leaves from f binary.ShiftLeft rd ra rb m whole some few low_a low wa wb =
    computed_leaves from f alu.Sl rd ra rb m whole some few
binary_leaves from f binary.ShiftRight rd ra rb m whole some few low_a low wa wb =
    computed_leaves from f alu.Sra rd ra rb m whole some few
binary_leaves from f binary.ShiftRightUnsigned rd ra rb m whole some few low_a low wa wb =
    computed_leaves from f alu.Sr rd ra rb m whole some few
binary_leaves from f binary.Plus rd ra rb m whole some few low_a low wa wb =
    computed_leaves from f alu.Add rd ra rb m whole some few
binary_leaves from f binary.Minus rd ra rb m whole some few low_a low wa wb =
    computed_leaves from f alu.Sub rd ra rb m whole some few
binary_leaves from f binary.Times rd ra rb m whole some few low_a low wa wb =
    times_leaves from f rd ra rb m whole some few ∙ low_product (held ra m) (held rb m) wa wb
binary_leaves from f binary.Divide rd ra rb m whole some few low_a low wa wb =
    signed_quotient_left from f rd ra rb (held ra m) (held rb m) m whole some few low refl refl wa wb
binary_leaves from f binary.DivideUnsigned rd ra rb m whole some few low_a low wa wb =
    unsigned_quotient_left from f rd ra rb (held ra m) (held rb m) m whole some few low_a low refl refl wa wb
binary_leaves from f binary.Remainder rd ra rb m whole some few low_a low wa wb =
    signed_rest_left from f rd ra rb (held ra m) (held rb m) m whole some few low refl refl wa wb
binary_leaves from f binary.RemainderUnsigned rd ra rb m whole some few low_a low wa wb =
    unsigned_rest_left from f rd ra rb (held ra m) (held rb m) m whole some few low_a low refl refl wa wb

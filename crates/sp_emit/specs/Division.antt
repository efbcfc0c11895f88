-- To be believed. The code of quotients and remainders: long division in base 2, four digits in each of 8 iterations, which
-- take the same bundles whatever the words are (restoring division: Knuth, The Art of Computer Programming, volume 2, 4.3.1).
use Rattle.std.specs.Prelude.{ℕ, List, [], ◌∷◌, ◌++◌}
use Rattle.patmos_instr.specs.Bundles.{PlainBundle}
use Rattle.patmos_instr.specs.declared.functions.AluFunc.TheVariants as alu
use Rattle.patmos_instr.specs.declared.functions.CmpFunc.TheVariants as cmp
use Rattle.patmos_instr.specs.declared.functions.ImmFunc.TheVariants as imm
use Rattle.patmos_instr.specs.declared.functions.PredFunc.TheVariants as comb
use Rattle.sp_shape.specs.Parts.{PlainPart, straight, repeats, PlainParts, no_part, part}
use Rattle.sp_emit.specs.Instructions.{always, where_so, idle, set_short, copy, with_short, compute, compare, compare_short, combine, branch}
use Rattle.sp_emit.specs.declared.registers.TheConstants.{SPARE, DIVIDEND, DIVISOR, REMAINDER, DIGITS, TEST, SECOND, MORE}

-- the operands stand in two registers; nothing is left so far, and 8 iterations are to be made
abbrev pub operands : ℕ → ℕ → List PlainBundle
operands ra rb = copy DIVIDEND ra ∷ copy DIVISOR rb ∷ set_short always REMAINDER 0 ∷ set_short always DIGITS 8 ∷ []

-- signed words are divided as what they are without their signs; two predicates then say whether the rest and the
-- quotient are negative
abbrev pub without_signs : ℕ → ℕ → List PlainBundle
without_signs rest quotient =
    compare_short cmp.Btest rest DIVIDEND 31
    ∷ compare_short cmp.Btest quotient DIVISOR 31
    ∷ compute (where_so rest) alu.Sub DIVIDEND 0 DIVIDEND
    ∷ compute (where_so quotient) alu.Sub DIVISOR 0 DIVISOR
    ∷ combine comb.Pxor quotient rest quotient
    ∷ []

-- the highest bit of the dividend stands apart
abbrev pub highest_bit : PlainBundle
highest_bit = with_short always imm.Sr SPARE DIVIDEND 31

-- a digit: the bit that stands apart goes to what is left; where the divisor then goes into that, it is taken off, and
-- the quotient's digit is 1. The dividend's next bit stands apart then. The bundles stand in pairs, of which the second
-- reads nothing that the first writes, so a pair can be one bundle
abbrev pub digit : List PlainBundle
digit =
    compute always alu.Shadd REMAINDER REMAINDER SPARE
    ∷ compute always alu.Add DIVIDEND DIVIDEND DIVIDEND
    ∷ compare cmp.Ule TEST DIVISOR REMAINDER
    ∷ highest_bit
    ∷ compute (where_so TEST) alu.Sub REMAINDER REMAINDER DIVISOR
    ∷ with_short (where_so TEST) imm.Add DIVIDEND DIVIDEND 1
    ∷ []

-- an iteration is counted, and whether one more comes; it takes four digits
abbrev pub counted : List PlainBundle
counted = with_short always imm.Sub DIGITS DIGITS 1 ∷ compare_short cmp.Neq MORE DIGITS 0 ∷ []

abbrev pub four_digits : List PlainBundle
four_digits = digit ++ digit ++ digit ++ digit

abbrev pub digit_iteration : List PlainBundle
digit_iteration = counted ++ four_digits

abbrev pub digit_tail : List PlainBundle
digit_tail = digit_iteration ++ branch MORE ∷ idle ∷ idle ∷ []

abbrev pub digits : PlainPart
digits = repeats 8 no_part digit_tail

-- A divisor from 2^31 on goes into a dividend once or not at all; what is left of so large a divisor may be more than a
-- word while digits are taken, so its quotient, and what is left, are set afterwards.
abbrev pub is_large : ℕ → List PlainBundle
is_large ra = compare_short cmp.Btest SECOND DIVISOR 31 ∷ compare cmp.Ule TEST DIVISOR ra
    ∷ combine comb.Pand TEST TEST SECOND ∷ []

abbrev pub large_quotient : ℕ → List PlainBundle
large_quotient ra = is_large ra ++ set_short (where_so SECOND) DIVIDEND 0 ∷ set_short (where_so TEST) DIVIDEND 1 ∷ []

abbrev pub large_rest : ℕ → List PlainBundle
large_rest ra = is_large ra ++ with_short (where_so SECOND) imm.Add REMAINDER ra 0
    ∷ compute (where_so TEST) alu.Sub REMAINDER REMAINDER DIVISOR ∷ []

-- the quotient, 0 where the divisor is 0; and what is left
abbrev pub quotient_to : ℕ → List PlainBundle
quotient_to rd = compare_short cmp.Eq TEST DIVISOR 0 ∷ copy rd DIVIDEND ∷ set_short (where_so TEST) rd 0 ∷ []

abbrev pub rest_to : ℕ → List PlainBundle
rest_to rd = copy rd REMAINDER ∷ []

-- the quotient and the rest of unsigned words, by large divisors too
unfoldable pub unsigned_quotient_to : ℕ → ℕ → List PlainBundle
unsigned_quotient_to rd ra = large_quotient ra ++ quotient_to rd

abbrev pub unsigned_rest_to : ℕ → ℕ → List PlainBundle
unsigned_rest_to rd ra = large_rest ra ++ rest_to rd

-- the quotient and the rest of signed words, each with its sign
abbrev pub with_sign : ℕ → PlainBundle
with_sign rd = compute (where_so SECOND) alu.Sub rd 0 rd

abbrev pub signed_quotient_to : ℕ → List PlainBundle
signed_quotient_to rd = quotient_to rd ++ with_sign rd ∷ []

abbrev pub signed_rest_to : ℕ → List PlainBundle
signed_rest_to rd = rest_to rd ++ with_sign rd ∷ []

-- before and after the digits
abbrev pub around : List PlainBundle → List PlainBundle → PlainParts
around before after = part (straight (before ++ highest_bit ∷ [])) (part digits (part (straight after) no_part))

abbrev pub unsigned_division : List PlainBundle → ℕ → ℕ → PlainParts
unsigned_division after ra rb = around (operands ra rb) after

-- the digits leave SECOND as it is, so the sign that is asked for stands there: the rest's or the quotient's
abbrev pub signed_division : ℕ → ℕ → List PlainBundle → ℕ → ℕ → PlainParts
signed_division rest quotient after ra rb = around (operands ra rb ++ without_signs rest quotient) after

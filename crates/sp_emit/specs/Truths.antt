-- To be believed. The code of truths, which are 0 or 1 by their form, in predicates. A comparison sets its predicate straight,
-- and truths that stand in predicates are joined there.
use Rattle.std.specs.Prelude.{ℕ, ◌+◌, ◌==◌, ◌&&◌, ◌||◌, nat_lt, Bool, true, false, not, if◌then◌else◌, List, [], ◌∷◌, Option, None, Some, is_some}
use Rattle.patmos_instr.specs.Bundles.{PlainBundle}
use Rattle.patmos_instr.specs.declared.functions.CmpFunc.{CmpFunc}
use Rattle.patmos_instr.specs.declared.functions.CmpFunc.TheVariants as cmp
use Rattle.patmos_instr.specs.declared.functions.PredFunc.{PredFunc}
use Rattle.patmos_instr.specs.declared.functions.PredFunc.TheVariants as comb
use Rattle.sp_tree.specs.MaskTests.{is_one}
use Rattle.sp_tree.specs.Need.{need}
use Rattle.sp_tree.specs.Plain.{PlainSp, constant, frame_word, array_word, before_one, between_two}
use Rattle.sp_tree.specs.declared.operators.SpBinary.{SpBinary}
use Rattle.sp_tree.specs.declared.operators.SpBinary.TheVariants as binary
use Rattle.sp_tree.specs.declared.operators.SpUnary.{SpUnary}
use Rattle.sp_tree.specs.declared.operators.SpUnary.TheVariants as unary
use Rattle.sp_shape.specs.Parts.{straight, PlainParts, no_part, one, joined}
use Rattle.sp_emit.specs.Expressions.{is_immediate, number_of, slot_number, value_at, operands_code}
use Rattle.sp_emit.specs.Instructions.{compare, compare_short, combine}
use Rattle.sp_emit.specs.Places.{flag_of, fetch_word, fetched_at, told_in}
use Rattle.sp_emit.specs.declared.registers.TheConstants.{FIRST, TEST, SECOND}
use Rattle.sp_emit.specs.declared.stands.Homes.{Homes}
use Rattle.sp_emit.specs.declared.stands.Flags.{Flags}

-- ---- operators whose value is a truth

-- comparisons
abbrev pub cmp_of : SpBinary → Option CmpFunc
cmp_of binary.Equal = Some cmp.Eq
cmp_of binary.NotEqual = Some cmp.Neq
cmp_of binary.Less = Some cmp.Lt
cmp_of binary.LessUnsigned = Some cmp.Ult
cmp_of binary.LessEqual = Some cmp.Le
cmp_of binary.LessEqualUnsigned = Some cmp.Ule
cmp_of _ = None

-- `&&` and `||`, of any words
abbrev pub both_of : SpBinary → Option PredFunc
both_of binary.Or = Some comb.Por
both_of binary.And = Some comb.Pand
both_of _ = None

-- `&`, `|` and `^`, of truths
abbrev pub bits_of : SpBinary → Option PredFunc
bits_of binary.BitOr = Some comb.Por
bits_of binary.BitXor = Some comb.Pxor
bits_of binary.BitAnd = Some comb.Pand
bits_of _ = None

abbrev pub is_not : SpUnary → Bool
is_not unary.Not = true
is_not _ = false

-- the lowest bit of a word
abbrev pub is_masking : SpBinary → Bool
is_masking binary.BitAnd = true
is_masking _ = false

-- an expression whose code is longer where its value is worked out than where it is tested
abbrev pub is_condition : PlainSp → Bool
is_condition (before_one op of) = is_not op
is_condition (between_two op a b) = is_some (cmp_of op) || is_some (both_of op)
is_condition _ = false

-- an expression that is tested
abbrev pub is_test : PlainSp → Bool
is_test (constant n) = n == 0
is_test (before_one op of) = is_condition (before_one op of)
is_test (between_two op a b) = is_condition (between_two op a b) || (is_masking op && is_one b)
is_test _ = false

-- ---- the test, once the operands stand in registers

abbrev pub by_both : Option PredFunc → ℕ → ℕ → List PlainBundle
by_both None ra rb = []
by_both (Some func) ra rb =
    compare_short cmp.Neq TEST ra 0 ∷ compare_short cmp.Neq SECOND rb 0 ∷ combine func TEST TEST SECOND ∷ []

abbrev pub by_two : Option CmpFunc → SpBinary → ℕ → ℕ → List PlainBundle
by_two None op ra rb = by_both (both_of op) ra rb
by_two (Some func) op ra rb = compare func TEST ra rb ∷ []

-- where it is no comparison the number is 1, and the lowest bit is tested
abbrev pub by_number : Option CmpFunc → ℕ → ℕ → List PlainBundle
by_number None ra n = compare_short cmp.Btest TEST ra 0 ∷ []
by_number (Some func) ra n = compare_short func TEST ra n ∷ []

abbrev pub test_of : Homes → PlainSp → List PlainBundle
test_of homes (constant n) = combine comb.Pxor TEST 0 0 ∷ []
test_of homes (before_one op of) = compare_short cmp.Eq TEST (value_at homes of FIRST) 0 ∷ []
test_of homes (between_two op a b) =
    if is_immediate op b then by_number (cmp_of op) (value_at homes a FIRST) (number_of b)
    else if nat_lt (need a) (need b) then by_two (cmp_of op) op (value_at homes a (FIRST + 1)) (value_at homes b FIRST)
    else by_two (cmp_of op) op (value_at homes a FIRST) (value_at homes b (FIRST + 1))
test_of homes _ = []

abbrev pub tested_code : Homes → PlainSp → PlainParts
tested_code homes e = joined (operands_code homes e FIRST) (one (straight (test_of homes e)))

-- ---- truths that stand in predicates

-- an operator that leaves a truth as it is, where its second operand is 1
abbrev pub is_same : SpBinary → Bool
is_same binary.BitAnd = true
is_same binary.Equal = true
is_same _ = false

abbrev pub word_flag : Flags → PlainSp → Option ℕ
word_flag flags (frame_word slot) = flag_of flags slot
word_flag flags _ = None

-- where a truth stands already: predicate 0 is always true
abbrev pub flag_at : Flags → PlainSp → Option ℕ
flag_at flags (constant n) = if n == 1 then Some 0 else None
flag_at flags (frame_word slot) = flag_of flags slot
flag_at flags (between_two op a b) = if is_same op && is_one b then word_flag flags a else None
flag_at flags _ = None

-- where a word that stands in none is masked with a truth, its lowest bit is sought
abbrev pub is_frame_word : PlainSp → Bool
is_frame_word (frame_word slot) = true
is_frame_word _ = false

abbrev pub seeks : Flags → SpBinary → PlainSp → PlainSp → Bool
seeks flags op a b = is_masking op && (is_frame_word a && (is_some (word_flag flags b) || is_condition b))

-- two truths are joined where the first one stands in a predicate, or is sought
abbrev pub joins : Flags → SpBinary → PlainSp → PlainSp → Bool
joins flags op a b = is_some (bits_of op) && (is_some (flag_at flags a) || seeks flags op a b)

-- where both operands of `&&` or `||` are conditions, and the code of the second leaves the second predicate as it is,
-- their truths are joined too
abbrev pub is_division : SpBinary → Bool
is_division binary.Divide = true
is_division binary.DivideUnsigned = true
is_division binary.Remainder = true
is_division binary.RemainderUnsigned = true
is_division _ = false

abbrev pub spares_second : PlainSp → Bool
spares_second (array_word array index) = spares_second index
spares_second (before_one op of) = spares_second of
spares_second (between_two op a b) =
    not (is_division op || is_some (both_of op)) && (spares_second a && spares_second b)
spares_second _ = true

abbrev pub pairs : SpBinary → PlainSp → PlainSp → Bool
pairs op a b = is_some (both_of op) && (is_condition a && (is_condition b && spares_second b))

-- expressions whose truth goes to a predicate
abbrev pub is_truth : Flags → PlainSp → Bool
is_truth flags (between_two op a b) =
    is_some (flag_at flags (between_two op a b))
    || (if joins flags op a b then is_truth flags b else is_test (between_two op a b))
is_truth flags e = is_some (flag_at flags e) || is_test e

-- ---- their code

abbrev pub func_in : Option PredFunc → PredFunc
func_in (Some func) = func
func_in None = comb.Por

abbrev pub unless_stands : Option ℕ → PlainParts → PlainParts
unless_stands (Some p) code = no_part
unless_stands None code = code

-- the lowest bit of a word goes to the second predicate
abbrev pub bit_sought : ℕ → ℕ → List PlainBundle
bit_sought homes slot = fetch_word homes slot ∷ compare_short cmp.Btest SECOND (fetched_at homes slot) 0 ∷ []

abbrev pub sought : Homes → PlainSp → PlainParts
sought homes a = unless_stands (flag_at homes.flags a) (one (straight (bit_sought homes.first (slot_number a))))

abbrev pub sought_in : Option ℕ → ℕ
sought_in (Some p) = p
sought_in None = SECOND

abbrev pub join : Flags → ℕ → SpBinary → PlainSp → PlainSp → PlainBundle
join flags to op a b = combine (func_in (bits_of op)) to (sought_in (flag_at flags a)) (told_in (flag_at flags b))

-- both operands, of which the code of the second is given
abbrev pub operands_stood : Homes → PlainSp → PlainSp → PlainParts → PlainParts
operands_stood homes a b code = joined (unless_stands (flag_at homes.flags b) code) (sought homes a)

-- both conditions, of which the code of the first is given: its truth is kept in the second predicate
abbrev pub kept_truth : List PlainBundle
kept_truth = combine comb.Por SECOND TEST TEST ∷ []

abbrev pub kept_code : PlainParts → PlainParts
kept_code code = joined code (one (straight kept_truth))

abbrev pub joining_code : Homes → SpBinary → PlainSp → PlainParts
joining_code homes op b =
    joined (tested_code homes b) (one (straight (combine (func_in (both_of op)) TEST SECOND TEST ∷ [])))

abbrev pub paired_code : Homes → SpBinary → PlainSp → PlainParts → PlainParts
paired_code homes op b code = joined (kept_code code) (joining_code homes op b)

-- what joins no truths that stand already
abbrev pub unjoined_code : Homes → SpBinary → PlainSp → PlainSp → PlainParts → PlainParts
unjoined_code homes op a b code =
    if pairs op a b then paired_code homes op b code else tested_code homes (between_two op a b)

-- the truth of an expression goes to the predicate of a test
abbrev pub truth_code : Homes → PlainSp → PlainParts
truth_code homes (between_two op a b) =
    if joins homes.flags op a b then joined (operands_stood homes a b (truth_code homes b))
    (one (straight (join homes.flags TEST op a b ∷ [])))
    else unjoined_code homes op a b (truth_code homes a)
truth_code homes e = tested_code homes e

-- what stands before the bundle that sets a predicate to a truth, and that bundle
abbrev pub before_flag : Homes → PlainSp → PlainParts
before_flag homes (constant n) = no_part
before_flag homes (between_two op a b) =
    if joins homes.flags op a b then operands_stood homes a b (truth_code homes b)
    else unjoined_code homes op a b (truth_code homes a)
before_flag homes e = tested_code homes e

abbrev pub flag_set : Flags → ℕ → PlainSp → PlainBundle
flag_set flags to (constant n) = combine comb.Pxor to 0 0
flag_set flags to (between_two op a b) =
    if joins flags op a b then join flags to op a b else combine comb.Por to TEST TEST
flag_set flags to e = combine comb.Por to TEST TEST

abbrev pub flag_by : Option ℕ → Homes → ℕ → PlainSp → PlainParts
flag_by (Some p) homes to e = one (straight (combine comb.Por to p p ∷ []))
flag_by None homes to e = joined (before_flag homes e) (one (straight (flag_set homes.flags to e ∷ [])))

abbrev pub flag_code : Homes → ℕ → PlainSp → PlainParts
flag_code homes to e = flag_by (flag_at homes.flags e) homes to e

-- The code of truths: operands, and bundles that set predicates. What holds of both holds of it.
use Rattle.std.proofs.Common.{◌≡◌, ℕ, ◌+◌, ◌<◌, Bool, true, false, true≢false, ◌&&◌, ◌||◌, if◌then◌else◌, nat_lt, Option, None, Some, List, [], ◌∷◌, refl, sym, ap, subst, arith, ◌≤◌}
use Rattle.std.proofs.lemmas.Bool.{and_parts}
use Rattle.std.specs.Prelude.{is_none, is_some}
use Rattle.std.specs.List.{list_all}
use Rattle.patmos_instr.specs.Bundles.{PlainBundle}
use Rattle.patmos_instr.specs.declared.functions.CmpFunc.{CmpFunc}
use Rattle.patmos_instr.specs.declared.functions.PredFunc.{PredFunc}
use Rattle.patmos_instr.specs.declared.instructions.Op.{Op}
use Rattle.patmos_instr.specs.declared.instructions.Op.TheVariants.{Cmp, CmpImm, Comb}
use Rattle.patmos_instr.specs.declared.functions.PredFunc.TheVariants as comb
use Rattle.sp_tree.specs.Need.{need}
use Rattle.sp_tree.specs.Plain.{PlainSp, constant, frame_word, cell_word, array_word, before_one, between_two}
use Rattle.sp_tree.specs.declared.operators.SpBinary.{SpBinary}
use Rattle.sp_shape.specs.Parts.{straight, PlainParts, no_part, one, joined}
use Rattle.sp_emit.proofs.Needs.{covers, first_fits, second_fits}
use Rattle.sp_emit.specs.Fits.{ExprFits}
use Rattle.sp_emit.specs.Expressions.{immediate_below, is_immediate, number_of, slot_number, value_at, operands_code}
use Rattle.sp_emit.specs.Instructions.{combine}
use Rattle.sp_emit.specs.Places.{told_in}
use Rattle.sp_emit.specs.Truths.{cmp_of, both_of, bits_of, func_in, sought_in, is_masking, is_frame_word, seeks, joins, bit_sought, sought, operands_stood, pairs, kept_code, joining_code, paired_code, unjoined_code, by_both, by_two, by_number, test_of, tested_code, flag_at, unless_stands, join, truth_code, before_flag, flag_set, flag_by, flag_code, is_test, is_condition}
use Rattle.sp_tree.specs.MaskTests.{is_one}
use Rattle.sp_emit.specs.declared.registers.TheConstants.{FIRST, TEST, SECOND}
use Rattle.sp_emit.specs.declared.stands.Homes.{Homes}
use Rattle.sp_emit.proofs.Effects.{is_passing}
use Rattle.sp_emit.proofs.Held.{short_below}
use Rattle.sp_emit.specs.declared.stands.Flags.{Flags}

-- a number that a comparison holds
small : (op : SpBinary) (func : CmpFunc) (n : ℕ) → n < immediate_below op → cmp_of op ≡ Some func → n < 32
small op func n below is = grind (arith, below, is)

pub number_small : (op : SpBinary) (func : CmpFunc) (n : ℕ) → is_immediate op (constant n) ≡ true → cmp_of op
    ≡ Some func → n < 32
number_small op func n held is = small op func n (short_below op n held) is

-- ---- bundles of tests

-- an instruction that sets a predicate in which no word of a frame stands
abbrev pub is_test_op : Op → Bool
is_test_op (Cmp func pd ra rb) = is_passing pd
is_test_op (CmpImm func pd ra n) = is_passing pd
is_test_op (Comb func pd a b) = is_passing pd
is_test_op _ = false

abbrev pub is_test_bundle : PlainBundle → Bool
is_test_bundle b = is_test_op b.first.op && is_none b.second

abbrev pub AreTests : List PlainBundle → Type 0
AreTests bs = list_all is_test_bundle bs ≡ true

both_tests : (o : Option PredFunc) (ra rb : ℕ) → AreTests (by_both o ra rb)
both_tests None ra rb = refl
both_tests (Some func) ra rb = refl

two_tests : (o : Option CmpFunc) (op : SpBinary) (ra rb : ℕ) → AreTests (by_two o op ra rb)
two_tests None op ra rb = both_tests (both_of op) ra rb
two_tests (Some func) op ra rb = refl

number_tests : (o : Option CmpFunc) (ra n : ℕ) → AreTests (by_number o ra n)
number_tests None ra n = refl
number_tests (Some func) ra n = refl

pub of_tests : (homes : Homes) (e : PlainSp) → AreTests (test_of homes e)
of_tests homes (constant n) = refl
of_tests homes (frame_word slot) = refl
of_tests homes (cell_word cell) = refl
of_tests homes (array_word array index) = refl
of_tests homes (before_one op of) = refl
of_tests homes (between_two op a b) = by (is_immediate op b) (nat_lt (need a) (need b))
  where
    by : (held less : Bool) → AreTests (if held then by_number (cmp_of op) (value_at homes a FIRST) (number_of b) else
        if less then by_two (cmp_of op) op (value_at homes a (FIRST + 1)) (value_at homes b FIRST) else by_two
        (cmp_of op) op (value_at homes a FIRST) (value_at homes b (FIRST + 1)))
    by true less = number_tests (cmp_of op) (value_at homes a FIRST) (number_of b)
    by false true = two_tests (cmp_of op) op (value_at homes a (FIRST + 1)) (value_at homes b FIRST)
    by false false = two_tests (cmp_of op) op (value_at homes a FIRST) (value_at homes b (FIRST + 1))

by_case : (P : PlainParts → Type 0) (c : Bool) {d : Bool} → d ≡ c → (x y : PlainParts) → (d ≡ true → P x) → P y
    → P (if d then x else y)
by_case P true is x y px py = subst (λ b. P (if b then x else y)) (sym is) (px is)
by_case P false is x y px py = subst (λ b. P (if b then x else y)) (sym is) py

-- a condition is tested
pub condition_tests : (e : PlainSp) → is_condition e ≡ true → is_test e ≡ true
condition_tests (before_one op of) is = is
condition_tests (between_two op a b) is = ap (λ c. c || (is_masking op && is_one b)) is
condition_tests _ is = absurd (true≢false (sym is))

-- a condition joins no truths that stand already
pub no_joins : (flags : Flags) (op : SpBinary) (a b : PlainSp) → (is_some (cmp_of op) || is_some (both_of op)) ≡ true
    → joins flags op a b ≡ false
no_joins flags op a b is = ap (λ c. c && (is_some (flag_at flags a) || seeks flags op a b)) (no_bits op is)
  where
    no_bits : (op : SpBinary) → (is_some (cmp_of op) || is_some (both_of op)) ≡ true → is_some (bits_of op) ≡ false
    no_bits op is = grind (arith, is)

pub seeks_word : (flags : Flags) (op : SpBinary) (a b : PlainSp) → seeks flags op a b ≡ true → is_frame_word a ≡ true
seeks_word flags op a b is = (and_parts (is_frame_word a) _ (and_parts (is_masking op) _ is).1).0

-- ---- what holds of operands and of tests holds of the code of truths

-- registers suffice for the operands
abbrev pub Fitting : Homes → PlainSp → Type 0
Fitting homes e = ExprFits e FIRST × (FIRST + need e ≤ homes.first)

pub first_fitting : (homes : Homes) (op : SpBinary) (a b : PlainSp) → Fitting homes (between_two op a b)
    → Fitting homes a
first_fitting homes op a b h =
    (first_fits op a b h.0, omega (arith, h.1, (covers (nat_lt (need a) (need b)) (need a) (need b)).0))

pub second_fitting : (homes : Homes) (op : SpBinary) (a b : PlainSp) → Fitting homes (between_two op a b)
    → Fitting homes b
second_fitting homes op a b h =
    (second_fits op a b h.0, omega (arith, h.1, (covers (nat_lt (need a) (need b)) (need a) (need b)).1))

-- `Holds` is handed from an operator to its operands
pub record TruthParts (P : PlainParts → Type 0) (homes : Homes) (Holds : PlainSp → Type 0) : Type 0 where
  pub none : P no_part
  pub both : (x y : PlainParts) → P x → P y → P (joined x y)
  pub first : (op : SpBinary) (a b : PlainSp) → Holds (between_two op a b) → Holds a
  pub second : (op : SpBinary) (a b : PlainSp) → Holds (between_two op a b) → Holds b
  pub operands : (e : PlainSp) → Holds e → P (operands_code homes e FIRST)
  pub tests : (bs : List PlainBundle) → AreTests bs → P (one (straight bs))
  pub bits : (slot : ℕ) → Holds (frame_word slot) → P (one (straight (bit_sought homes.first slot)))

tested_is : {P : PlainParts → Type 0} {homes : Homes} {Holds : PlainSp → Type 0} → TruthParts P homes Holds
    → (e : PlainSp) → Holds e → P (tested_code homes e)
tested_is {P} {homes} x e h = x.both (operands_code homes e FIRST) (one (straight (test_of homes e))) (x.operands e h)
    (x.tests (test_of homes e) (of_tests homes e))

unless_is : (P : PlainParts → Type 0) (o : Option ℕ) (code : PlainParts) → P no_part → P code → P (unless_stands o code)
unless_is P None code none some = some
unless_is P (Some p) code none some = none

-- a first operand stands in a predicate, or is a word that is sought
sought_is : {P : PlainParts → Type 0} {homes : Homes} {Holds : PlainSp → Type 0} → TruthParts P homes Holds
    → (op : SpBinary) (a b : PlainSp) → joins homes.flags op a b ≡ true → Holds a → P (sought homes a)
sought_is {P} {homes} {Holds} x op a b joins_them h = by (flag_at homes.flags a) (and_parts (is_some (bits_of op))
    (is_some (flag_at homes.flags a) || seeks homes.flags op a b) joins_them).1
  where
    word : (a : PlainSp) → is_frame_word a ≡ true → Holds a
        → P (one (straight (bit_sought homes.first (slot_number a))))
    word (frame_word slot) is h = x.bits slot h
    word _ is h = absurd (true≢false (sym is))

    by : (o : Option ℕ) → (is_some o || seeks homes.flags op a b) ≡ true
        → P (unless_stands o (one (straight (bit_sought homes.first (slot_number a)))))
    by (Some p) is = x.none
    by None is = word a (seeks_word homes.flags op a b is) h

operands_are : {P : PlainParts → Type 0} {homes : Homes} {Holds : PlainSp → Type 0} → TruthParts P homes Holds
    → (op : SpBinary) (a b : PlainSp) → joins homes.flags op a b ≡ true → Holds (between_two op a b)
    → P (truth_code homes b) → P (operands_stood homes a b (truth_code homes b))
operands_are {P} {homes} x op a b joins_them h code =
    x.both (unless_stands (flag_at homes.flags b) (truth_code homes b)) (sought homes a)
    (unless_is P (flag_at homes.flags b) (truth_code homes b) x.none code) (sought_is x op a b joins_them
    (x.first op a b h))

-- two conditions, or one
pub unjoined_is : {P : PlainParts → Type 0} {homes : Homes} {Holds : PlainSp → Type 0} → TruthParts P homes Holds
    → (op : SpBinary) (a b : PlainSp) → Holds (between_two op a b) → P (truth_code homes a)
    → P (unjoined_code homes op a b (truth_code homes a))
unjoined_is {P} {homes} x op a b h code =
    by_case P (pairs op a b) refl (paired_code homes op b (truth_code homes a)) (tested_code homes (between_two op a b))
    (λ is. x.both (kept_code (truth_code homes a)) (joining_code homes op b)
    (x.both (truth_code homes a) (one (straight (combine comb.Por SECOND TEST TEST ∷ []))) code
    (x.tests (combine comb.Por SECOND TEST TEST ∷ []) refl))
    (x.both (tested_code homes b) (one (straight (combine (func_in (both_of op)) TEST SECOND TEST ∷ [])))
    (tested_is x b (x.second op a b h)) (x.tests (combine (func_in (both_of op)) TEST SECOND TEST ∷ []) refl)))
    (tested_is x (between_two op a b) h)

pub truth_is : {P : PlainParts → Type 0} {homes : Homes} {Holds : PlainSp → Type 0} → TruthParts P homes Holds
    → (e : PlainSp) → Holds e → P (truth_code homes e)
truth_is x (constant n) h = tested_is x (constant n) h
truth_is {P} {homes} x (between_two op a b) h =
    by_case P (joins homes.flags op a b) refl _ (unjoined_code homes op a b (truth_code homes a))
    (λ is. x.both (operands_stood homes a b (truth_code homes b)) (one (straight (join homes.flags TEST op a b ∷ [])))
    (operands_are x op a b is h (truth_is x b (x.second op a b h))) (x.tests (join homes.flags TEST op a b ∷ []) refl))
    (unjoined_is x op a b h (truth_is x a (x.first op a b h)))
truth_is x other h = tested_is x other h

pub before_is : {P : PlainParts → Type 0} {homes : Homes} {Holds : PlainSp → Type 0} → TruthParts P homes Holds
    → (e : PlainSp) → Holds e → P (before_flag homes e)
before_is x (constant n) h = x.none
before_is {P} {homes} x (between_two op a b) h =
    by_case P (joins homes.flags op a b) refl (operands_stood homes a b (truth_code homes b))
    (unjoined_code homes op a b (truth_code homes a))
    (λ is. operands_are x op a b is h (truth_is x b (x.second op a b h)))
    (unjoined_is x op a b h (truth_is x a (x.first op a b h)))
before_is x other h = tested_is x other h

-- the bundle that sets the predicate
set_is : (P : PlainBundle → Type 0) (flags : Flags) (to : ℕ) (e : PlainSp) → ((func : PredFunc) (a b : ℕ)
    → P (combine func to a b)) → P (flag_set flags to e)
set_is P flags to (constant n) each = each comb.Pxor 0 0
set_is P flags to (frame_word slot) each = each comb.Por TEST TEST
set_is P flags to (cell_word cell) each = each comb.Por TEST TEST
set_is P flags to (array_word array index) each = each comb.Por TEST TEST
set_is P flags to (before_one op of) each = each comb.Por TEST TEST
set_is P flags to (between_two op a b) each = by (joins flags op a b)
  where
    by : (c : Bool) → P (if c then join flags to op a b else combine comb.Por to TEST TEST)
    by true = each (func_in (bits_of op)) (sought_in (flag_at flags a)) (told_in (flag_at flags b))
    by false = each comb.Por TEST TEST

pub flag_is : {P : PlainParts → Type 0} {homes : Homes} {Holds : PlainSp → Type 0} → TruthParts P homes Holds → (to : ℕ)
    → ((func : PredFunc) (a b : ℕ) → P (one (straight (combine func to a b ∷ [])))) → (e : PlainSp) → Holds e
    → P (flag_code homes to e)
flag_is {P} {homes} x to set e h = by (flag_at homes.flags e)
  where
    by : (o : Option ℕ) → P (flag_by o homes to e)
    by None =
        x.both (before_flag homes e) (one (straight (flag_set homes.flags to e ∷ []))) (before_is x e h)
        (set_is (λ b. P (one (straight (b ∷ [])))) homes.flags to e set)
    by (Some p) = set comb.Por p p

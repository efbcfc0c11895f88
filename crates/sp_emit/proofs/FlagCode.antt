-- What the code of truths leaves: in a predicate the truth of an expression.
use Rattle.std.proofs.Common.{◌≡◌, ℕ, ◌+◌, ◌<◌, ◌==◌, Bool, true, false, true≢false, not, ◌&&◌, ◌||◌, if◌then◌else◌, nat_lt, Option, None, Some, List, [], ◌∷◌, refl, sym, ap, ap₂, ◌∙◌, subst, arith}
use Rattle.std.specs.Prelude.{is_some, ◌/◌, ◌%◌, bit_and}
use Rattle.std.proofs.lemmas.Nat.{and_mask}
use Rattle.std.proofs.Math.Bool.{and-true, and-false}
use Rattle.std.proofs.lemmas.Bool.{and_parts, eqb-true, ltb-true}
use Rattle.patmos_instr.specs.Bundles.{PlainBundle}
use Rattle.patmos_instr.specs.declared.functions.CmpFunc.{CmpFunc}
use Rattle.patmos_instr.specs.declared.functions.CmpFunc.TheVariants as cmp
use Rattle.patmos_instr.specs.declared.functions.PredFunc.{PredFunc}
use Rattle.patmos_instr.specs.declared.functions.PredFunc.TheVariants as comb
use Rattle.patmos_sem.specs.Operations.{compare_value, has_bit, pred_value}
use Rattle.patmos_sem.specs.declared.writes.Write.TheVariants as write
use Rattle.c_world.specs.Numbers.{flag}
use Rattle.sp_tree.specs.Formed.{names_words}
use Rattle.sp_tree.specs.Need.{need}
use Rattle.sp_tree.specs.Operators.{binary_value}
use Rattle.sp_tree.specs.Plain.{PlainSp, constant, frame_word, cell_word, array_word, before_one, between_two}
use Rattle.sp_tree.specs.Straight.{State}
use Rattle.sp_tree.specs.Values.{sp_value}
use Rattle.sp_tree.specs.declared.operators.SpBinary.{SpBinary}
use Rattle.sp_tree.specs.declared.operators.SpBinary.TheVariants as binary
use Rattle.sp_tree.specs.declared.operators.SpUnary.TheVariants as unary
use Rattle.sp_shape.specs.Parts.{straight, PlainParts, one, joined}
use Rattle.sp_shape.specs.Run.{Run, by_words, once, run, IsWhole}
use Rattle.sp_shape.specs.Trail.{Step, all_done, parts_trail}
use Rattle.sp_emit.specs.Expressions.{is_immediate, number_of, slot_number, value_at, operands_code, operand_code}
use Rattle.sp_emit.specs.Holding.{held, so, Keeps}
use Rattle.sp_emit.specs.Instructions.{compare, compare_short, combine}
use Rattle.sp_emit.specs.Means.{Shows, IsReady}
use Rattle.sp_emit.specs.Places.{flag_of, word_of, fetch_word, fetched_at, told_in, told_at}
use Rattle.sp_emit.specs.Truths.{spares_second, pairs, kept_code, joining_code, paired_code, unjoined_code, cmp_of, both_of, bits_of, is_masking, is_condition, is_test, by_two, by_number, test_of, tested_code, is_same, word_flag, flag_at, is_frame_word, seeks, joins, is_truth, func_in, unless_stands, bit_sought, sought, sought_in, operands_stood, join, truth_code, flag_by, flag_code}
use Rattle.sp_tree.specs.MaskTests.{is_one}
use Rattle.sp_emit.specs.declared.registers.TheConstants.{FIRST, TEST, SECOND}
use Rattle.sp_emit.specs.declared.stands.Homes.{Homes}
use Rattle.sp_shape.proofs.Along.{have_joined, have_lone}
use Rattle.sp_emit.proofs.Effects.{is_in, none}
use Rattle.sp_emit.proofs.Calm.{calm, calm_done, calm_parts, IsCalm, keeps_all, keeps_both}
use Rattle.sp_emit.proofs.Effects.{AreIn}
use Rattle.sp_emit.proofs.Footprints.{tests_in, bit_in}
use Rattle.sp_emit.proofs.FlagWords.{flag_range, shown_flag, shown_plain, told_few, told_other}
use Rattle.sp_emit.proofs.Held.{short_below}
use Rattle.sp_emit.proofs.Leaving.{both_tested, both_told, did_compare, did_compare_short, did_combine, not_lt}
use Rattle.sp_emit.proofs.Needs.{covers, first_fits, second_fits}
use Rattle.sp_emit.proofs.Once.{with_written, so_got, so_kept}
use Rattle.sp_emit.proofs.Seconds.{test_spared}
use Rattle.sp_emit.proofs.TruthCode.{no_joins, condition_tests, unjoined_is, AreTests, TruthParts, truth_is, of_tests, seeks_word, Fitting, first_fitting, second_fitting}
use Rattle.sp_shape.proofs.Whole.{once_whole}
use Rattle.sp_emit.proofs.WordPlaces.{fetch_is, fetch_leaves, fetch_preds, word_still}
use Rattle.sp_emit.proofs.Values.{first_ready, left_anywhere, operand_ready, operands_named, second_ready, one_stands, second_stands, first_stands, operand_left, worked, worked_keeps, operands_calm, fits_of, run_joined, run_lone}
use Rattle.sp_emit.specs.declared.stands.Flags.{Flags}

-- ---- tests

compare_told : (func : CmpFunc) (ra rb : ℕ) (m : Run) → IsWhole m → so TEST (once by_words (compare func TEST ra rb) m)
    ≡ compare_value func (held ra m) (held rb m)
compare_told func ra rb m whole = ap (so TEST) (did_compare by_words func TEST ra rb m whole)
    ∙ so_got TEST (compare_value func (held ra m) (held rb m)) m whole (omega arith) (omega arith)

short_told : (func : CmpFunc) (ra n : ℕ) (m : Run) → IsWhole m
    → so TEST (once by_words (compare_short func TEST ra n) m) ≡ compare_value func (held ra m) n
short_told func ra n m whole = ap (so TEST) (did_compare_short by_words func TEST ra n m whole)
    ∙ so_got TEST (compare_value func (held ra m) n) m whole (omega arith) (omega arith)

-- of an operator on the words of two registers, and on one and a number
two_told : (op : SpBinary) (ra rb : ℕ) (m : Run) → (is_some (cmp_of op) || is_some (both_of op)) ≡ true → IsWhole m
    → rb < 32 → flag (so TEST (run by_words (all_done (by_two (cmp_of op) op ra rb)) m))
    ≡ binary_value op (held ra m) (held rb m)
two_told binary.Or ra rb m test whole second =
    ap flag (ap (so TEST) (both_tested by_words comb.Por ra rb m whole second) ∙ both_told comb.Por ra rb m whole)
two_told binary.And ra rb m test whole second =
    ap flag (ap (so TEST) (both_tested by_words comb.Pand ra rb m whole second) ∙ both_told comb.Pand ra rb m whole)
two_told binary.Equal ra rb m test whole second = ap flag (compare_told cmp.Eq ra rb m whole)
two_told binary.NotEqual ra rb m test whole second = ap flag (compare_told cmp.Neq ra rb m whole)
two_told binary.Less ra rb m test whole second = ap flag (compare_told cmp.Lt ra rb m whole)
two_told binary.LessUnsigned ra rb m test whole second = ap flag (compare_told cmp.Ult ra rb m whole)
two_told binary.LessEqual ra rb m test whole second = ap flag (compare_told cmp.Le ra rb m whole)
two_told binary.LessEqualUnsigned ra rb m test whole second =
    ap flag (compare_told cmp.Ule ra rb m whole ∙ not_lt (held ra m) (held rb m))
two_told _ ra rb m test whole second = absurd (true≢false (sym test))

-- the lowest bit of a word
lowest : (w : ℕ) → flag (has_bit w 0) ≡ bit_and w 1
lowest w = (let e : flag (w / 1 % 2 == 1) ≡ w % 2 = grind arith in e) ∙ sym (and_mask w 1)

number_told : (op : SpBinary) (ra n : ℕ) (m : Run) → ((is_some (cmp_of op) || is_some (both_of op))
    || (is_masking op && (n == 1))) ≡ true → is_immediate op (constant n) ≡ true → IsWhole m
    → flag (so TEST (run by_words (all_done (by_number (cmp_of op) ra n)) m)) ≡ binary_value op (held ra m) n
number_told binary.Or ra n m test is whole = let none = short_below binary.Or n is in absurd (omega (arith, none))
number_told binary.And ra n m test is whole = let none = short_below binary.And n is in absurd (omega (arith, none))
number_told binary.Equal ra n m test is whole = ap flag (short_told cmp.Eq ra n m whole)
number_told binary.NotEqual ra n m test is whole = ap flag (short_told cmp.Neq ra n m whole)
number_told binary.Less ra n m test is whole = ap flag (short_told cmp.Lt ra n m whole)
number_told binary.LessUnsigned ra n m test is whole = ap flag (short_told cmp.Ult ra n m whole)
number_told binary.LessEqual ra n m test is whole = ap flag (short_told cmp.Le ra n m whole)
number_told binary.LessEqualUnsigned ra n m test is whole =
    ap flag (short_told cmp.Ule ra n m whole ∙ not_lt (held ra m) n)
number_told binary.BitAnd ra n m test is whole =
    ap flag (short_told cmp.Btest ra 0 m whole) ∙ lowest (held ra m)
    ∙ ap (bit_and (held ra m)) (sym (eqb-true n 1 test))
number_told _ ra n m test is whole = absurd (true≢false (sym test))

-- an operator on two words is a condition where it is tested
condition_of : (op : SpBinary) (b : PlainSp) → ((is_some (cmp_of op) || is_some (both_of op))
    || (is_masking op && is_one b)) ≡ true → is_immediate op b ≡ false → (is_some (cmp_of op) || is_some (both_of op))
    ≡ true
condition_of binary.BitAnd (constant n) test other =
    absurd (true≢false (sym (ap (λ k. is_immediate binary.BitAnd (constant k)) (eqb-true n 1 test)) ∙ other))
condition_of binary.BitAnd (frame_word slot) test other = absurd (true≢false (sym test))
condition_of binary.BitAnd (cell_word cell) test other = absurd (true≢false (sym test))
condition_of binary.BitAnd (array_word array index) test other = absurd (true≢false (sym test))
condition_of binary.BitAnd (before_one inner of) test other = absurd (true≢false (sym test))
condition_of binary.BitAnd (between_two inner c d) test other = absurd (true≢false (sym test))
condition_of op b test other = grind (arith, test)

not_not : (b : Bool) → flag b ≡ flag (not (not b))
not_not true = refl
not_not false = refl

-- of an expression, after the code of its operands
abbrev tested : Homes → (ℕ → List Step) → PlainSp → Run → Run
tested homes f e m = run by_words (all_done (test_of homes e)) (worked homes f e FIRST m)

test_told : {homes : Homes} {slots : ℕ} {s : State} {m : Run} (f : ℕ → List Step) (e : PlainSp)
    → IsReady homes slots e FIRST s m → is_test e ≡ true → flag (so TEST (tested homes f e m))
    ≡ sp_value s.frame s.world e
test_told {homes} {slots} {s} {m} f (constant n) r test =
    ap (λ t. flag (so TEST t)) (did_combine by_words comb.Pxor TEST 0 0 m r.whole)
    ∙ ap flag (so_got TEST (pred_value comb.Pxor (so 0 m) (so 0 m)) m r.whole (omega arith) (omega arith))
    ∙ ap (λ b. flag (pred_value comb.Pxor b b)) r.whole.fits.always ∙ sym (eqb-true n 0 test)
test_told f (before_one unary.Minus of) r test = absurd (true≢false (sym test))
test_told f (before_one unary.Complement of) r test = absurd (true≢false (sym test))
test_told {homes} {slots} {s} {m} f (before_one unary.Not of) r test =
    let n = worked homes f (before_one unary.Not of) FIRST m in
    ap flag (short_told cmp.Eq (value_at homes of FIRST) 0 n (worked_keeps f (before_one unary.Not of) r).whole)
    ∙ ap (λ v. flag (v == 0)) (operand_left f of (operand_ready unary.Not of r) (left_anywhere homes slots f of s))
    ∙ not_not (sp_value s.frame s.world of == 0)
test_told {homes} {slots} {s} {m} f (between_two op a b) r test =
    by b r test (is_immediate op b) refl (nat_lt (need a) (need b)) refl (worked_keeps f (between_two op a b) r).whole
  where
    by : (b : PlainSp) → IsReady homes slots (between_two op a b) FIRST s m → is_test (between_two op a b) ≡ true
        → (is : Bool) → is_immediate op b ≡ is → (less : Bool) → nat_lt (need a) (need b) ≡ less
        → IsWhole (run by_words (parts_trail f (if is then operand_code homes a FIRST else if less then joined
        (operand_code homes b FIRST) (operand_code homes a (FIRST + 1)) else joined (operand_code homes a FIRST)
        (operand_code homes b (FIRST + 1)))) m)
        → flag (so TEST
        (run by_words (all_done (if is then by_number (cmp_of op) (value_at homes a FIRST) (number_of b) else if
        less then by_two (cmp_of op) op (value_at homes a (FIRST + 1)) (value_at homes b FIRST) else by_two
        (cmp_of op) op (value_at homes a FIRST) (value_at homes b (FIRST + 1))))
        (run by_words (parts_trail f (if is then operand_code homes a FIRST else if less then joined
        (operand_code homes b FIRST) (operand_code homes a (FIRST + 1)) else joined (operand_code homes a FIRST)
        (operand_code homes b (FIRST + 1)))) m)))
        ≡ binary_value op (sp_value s.frame s.world a) (sp_value s.frame s.world b)
    by (constant n) r test true is less less_is whole =
        let t = run by_words (parts_trail f (operand_code homes a FIRST)) m in
        let x = one_stands f op a (constant n) (left_anywhere homes slots f a s) FIRST m r (FIRST + 2) t (omega arith)
        (keeps_all (FIRST + 2) homes.first t whole) in
        number_told op (value_at homes a FIRST) n t test is whole ∙ ap (λ v. binary_value op v n) x.is
    by b r test false is true less_is whole =
        let t = run by_words (parts_trail f (joined (operand_code homes b FIRST) (operand_code homes a (FIRST + 1))))
        m in
        let x = second_stands f op a b (left_anywhere homes slots f a s) (left_anywhere homes slots f b s) FIRST m r
        less_is (FIRST + 2) t (omega arith) (keeps_all (FIRST + 2) homes.first t whole) in
        let low = x.1.low in
        two_told op (value_at homes a (FIRST + 1)) (value_at homes b FIRST) t (condition_of op b test is) whole (omega
        (arith, low)) ∙ ap₂ (binary_value op) x.0.is x.1.is
    by b r test false is false less_is whole =
        let t = run by_words (parts_trail f (joined (operand_code homes a FIRST) (operand_code homes b (FIRST + 1))))
        m in
        let x = first_stands f op a b (left_anywhere homes slots f a s) (left_anywhere homes slots f b s) FIRST m r
        less_is (FIRST + 2) t (omega arith) (keeps_all (FIRST + 2) homes.first t whole) in
        let low = x.1.low in
        two_told op (value_at homes a FIRST) (value_at homes b (FIRST + 1)) t (condition_of op b test is) whole (omega
        (arith, low)) ∙ ap₂ (binary_value op) x.0.is x.1.is
    by _ r test true is less less_is whole = absurd (true≢false (sym is))
test_told f _ r test = absurd (true≢false (sym test))

-- ---- truths that stand in predicates

bits_same : (op : SpBinary) → is_some (bits_of op) ≡ true → (x y : Bool) → flag (pred_value (func_in (bits_of op)) x y)
    ≡ binary_value op (flag x) (flag y)
bits_same binary.BitOr is true true = refl
bits_same binary.BitOr is true false = refl
bits_same binary.BitOr is false true = refl
bits_same binary.BitOr is false false = refl
bits_same binary.BitXor is true true = refl
bits_same binary.BitXor is true false = refl
bits_same binary.BitXor is false true = refl
bits_same binary.BitXor is false false = refl
bits_same binary.BitAnd is true true = refl
bits_same binary.BitAnd is true false = refl
bits_same binary.BitAnd is false true = refl
bits_same binary.BitAnd is false false = refl
bits_same _ is x y = absurd (true≢false (sym is))

same_truth : (op : SpBinary) → is_same op ≡ true → (x : Bool) → flag x ≡ binary_value op (flag x) 1
same_truth binary.BitAnd is true = refl
same_truth binary.BitAnd is false = refl
same_truth binary.Equal is true = refl
same_truth binary.Equal is false = refl
same_truth _ is x = absurd (true≢false (sym is))

-- it stands there, and stays where code keeps such predicates
pub record Stood (homes : Homes) (e : PlainSp) (p : ℕ) (s : State) (m : Run) : Type 0 where
  pub value : flag (so p m) ≡ sp_value s.frame s.world e
  pub stays : {rd : ℕ} (t : Run) → Keeps rd homes.first m t → so p t ≡ so p m

word_stood : {homes : Homes} {slots : ℕ} {s : State} {m : Run} (slot p : ℕ) → Shows homes slots s m → slot < slots
    → flag_of homes.flags slot ≡ Some p → Stood homes (frame_word slot) p s m
word_stood {homes} {slots} {s} {m} slot p shows named is =
    let r = flag_range homes.flags slot p is in
    record {
      value = sym (shown_flag homes slot p m is) ∙ shows.frame slot named;
      stays = λ t keeps.
          keeps.flags p r.0 r.1;
    }

one_is : (b : PlainSp) (s : State) → is_one b ≡ true → sp_value s.frame s.world b ≡ 1
one_is (constant n) s is = eqb-true n 1 is
one_is _ s is = absurd (true≢false (sym is))

pub stood : {homes : Homes} {slots : ℕ} {s : State} {m : Run} (e : PlainSp) (p : ℕ) → Shows homes slots s m → IsWhole m
    → names_words slots e ≡ true → flag_at homes.flags e ≡ Some p → Stood homes e p s m
stood {homes} {slots} {s} {m} (constant n) p shows whole named is = by (n == 1) refl is
  where
    by : (b : Bool) → (n == 1) ≡ b → (if b then Some 0 else None) ≡ Some p → Stood homes (constant n) p s m
    by true one is =
        let same : 0 ≡ p = grind (arith, is) in
        subst (λ q. Stood homes (constant n) q s m) same (record {
          value = ap flag whole.fits.always
              ∙ sym (eqb-true n 1 one);
          stays = λ t keeps. keeps.whole.fits.always ∙ sym whole.fits.always;
        })
    by false one is = absurd cc
stood {homes} {slots} {s} {m} (frame_word slot) p shows whole named is =
    word_stood slot p shows (ltb-true slot slots named) is
stood (cell_word cell) p shows whole named is = absurd cc
stood (array_word array index) p shows whole named is = absurd cc
stood (before_one op of) p shows whole named is = absurd cc
stood {homes} {slots} {s} {m} (between_two op a b) p shows whole named is = by (is_same op && is_one b) refl is
  where
    names : (names_words slots a ≡ true) × (names_words slots b ≡ true)
    names = and_parts (names_words slots a) (names_words slots b) named

    word : (a : PlainSp) → names_words slots a ≡ true → word_flag homes.flags a ≡ Some p → Stood homes a p s m
    word (frame_word slot) named is = word_stood slot p shows (ltb-true slot slots named) is
    word _ named is = absurd cc

    by : (c : Bool) → (is_same op && is_one b) ≡ c → (if c then word_flag homes.flags a else None) ≡ Some p
        → Stood homes (between_two op a b) p s m
    by false other is = absurd cc
    by true same is =
        let parts = and_parts (is_same op) (is_one b) same in
        let x = word a names.0 is in
        record {
          value = same_truth op parts.0 (so p m) ∙ ap (λ v. binary_value op v 1) x.value
              ∙ ap (binary_value op (sp_value s.frame s.world a)) (sym (one_is b s parts.1));
          stays = x.stays;
        }

-- ---- what is kept before the bundle that sets the predicate

calm_tests : (homes : Homes) (bs : List PlainBundle) → AreTests bs → IsCalm FIRST homes.first (one (straight bs))
calm_tests homes bs tests =
    have_lone (is_in (calm FIRST homes.first)) none bs (tests_in (calm FIRST homes.first) bs tests)

bit_calm : (homes : Homes) (slot : ℕ) → AreIn (calm FIRST homes.first) (bit_sought homes.first slot)
bit_calm homes slot =
    fetch_is (λ b. AreIn (calm FIRST homes.first) (b ∷ compare_short cmp.Btest SECOND (fetched_at homes.first slot) 0 ∷ [])) homes.first slot
    refl (λ out. refl)

truths_calm : (homes : Homes) → TruthParts (λ ps. IsCalm FIRST homes.first ps) homes (Fitting homes)
truths_calm homes = record {
  none = refl;
  both = have_joined (is_in (calm FIRST homes.first)) none;
  first = first_fitting homes;
  second = second_fitting homes;
  operands = λ e h. operands_calm homes FIRST e FIRST (omega arith) h.0 h.1;
  tests = calm_tests homes;
  bits = λ slot h. have_lone (is_in (calm FIRST homes.first)) none (bit_sought homes.first slot)
      (bit_in (calm FIRST homes.first) homes.first slot (λ out. refl));
}

tests_calm : (homes : Homes) (e : PlainSp) → Fitting homes e → IsCalm FIRST homes.first (tested_code homes e)
tests_calm homes e h =
    have_joined (is_in (calm FIRST homes.first)) none (operands_code homes e FIRST) (one (straight (test_of homes e)))
    (operands_calm homes FIRST e FIRST (omega arith) h.0 h.1) (calm_tests homes (test_of homes e)
    (of_tests homes e))

tested_calm : {homes : Homes} {slots : ℕ} {s : State} {m : Run} (f : ℕ → List Step) (e : PlainSp)
    → IsReady homes slots e FIRST s m → Keeps FIRST homes.first m (run by_words (parts_trail f (tested_code homes e)) m)
tested_calm {homes} {slots} {s} {m} f e r =
    calm_parts by_words FIRST homes.first f (tested_code homes e) m (omega arith) r.whole (tests_calm homes e (fits_of r, r.free))

-- ---- the truth of an expression in the predicate of a test

-- where its second operand stands
record Second (homes : Homes) (b : PlainSp) (p : ℕ) (s : State) (m n : Run) : Type 0 where
  keeps : Keeps FIRST homes.first m n
  value : flag (so p n) ≡ sp_value s.frame s.world b

-- two truths are joined: where the first one is the lowest bit of a word, that is masked
joined_value : {homes : Homes} {s : State} {m n : Run} (op : SpBinary) (a b : PlainSp) (p q : ℕ) → is_some (bits_of op)
    ≡ true → Stood homes a p s m → Second homes b q s m n
    → flag (pred_value (func_in (bits_of op)) (so p n) (so q n)) ≡ sp_value s.frame s.world (between_two op a b)
joined_value {homes} {s} {m} {n} op a b p q bits first second =
    bits_same op bits (so p n) (so q n) ∙ ap₂ (binary_value op) (ap flag (first.stays n second.keeps)
    ∙ first.value) second.value

masked_value : (op : SpBinary) (w : ℕ) (y : Bool) → is_masking op ≡ true
    → flag (pred_value (func_in (bits_of op)) (has_bit w 0) y) ≡ binary_value op w (flag y)
masked_value binary.BitAnd w y is = by (has_bit w 0) y (lowest w)
  where
    by : (x y : Bool) → flag x ≡ bit_and w 1 → flag (x && y) ≡ bit_and w (flag y)
    by x true low = ap flag (and-true x) ∙ low
    by x false low = ap flag (and-false x) ∙ (let e : 0 ≡ w % 1 = omega arith in e) ∙ sym (and_mask w 0)
masked_value op w y is = absurd (true≢false (sym is))

-- the second operand, in the predicate where it stands or in that of the test
second_told : {homes : Homes} {slots : ℕ} {s : State} {m : Run} (f : ℕ → List Step) (b : PlainSp)
    → IsReady homes slots b FIRST s m
    → (flag_at homes.flags b ≡ None → flag (so TEST (run by_words (parts_trail f (truth_code homes b)) m))
    ≡ sp_value s.frame s.world b)
    → Second homes b (told_in (flag_at homes.flags b)) s m (run by_words
    (parts_trail f (unless_stands (flag_at homes.flags b) (truth_code homes b))) m)
second_told {homes} {slots} {s} {m} f b r told = by (flag_at homes.flags b) refl
  where
    by : (o : Option ℕ) → flag_at homes.flags b ≡ o → Second homes b (told_in o) s m (run by_words
        (parts_trail f (unless_stands o (truth_code homes b))) m)
    by None is = record {
      keeps = calm_parts by_words FIRST homes.first f (truth_code homes b) m (omega arith) r.whole (truth_is (truths_calm homes) b
          (fits_of r, r.free));
      value = told is;
    }
    by (Some p) is =
        record { keeps = keeps_all FIRST homes.first m r.whole; value = (stood b p r.shows r.whole r.names is).value }

-- the second operand is ready where the whole is
second_is_ready : {homes : Homes} {slots : ℕ} {s : State} {m : Run} (op : SpBinary) (a b : PlainSp)
    → IsReady homes slots (between_two op a b) FIRST s m → IsReady homes slots b FIRST s m
second_is_ready {homes} {slots} {s} {m} op a b r =
    second_ready op a b r FIRST m (omega arith) (second_fits op a b (fits_of r)).registers
    (omega (arith, r.free, (covers (nat_lt (need a) (need b)) (need a) (need b)).1))
    (keeps_all FIRST homes.first m r.whole)

-- where the predicates of both operands stand once their code is done
record Joined (homes : Homes) (op : SpBinary) (a b : PlainSp) (s : State) (m n : Run) : Type 0 where
  keeps : Keeps FIRST homes.first m n
  value : flag (pred_value (func_in (bits_of op)) (so (sought_in (flag_at homes.flags a)) n)
      (so (told_in (flag_at homes.flags b)) n)) ≡ sp_value s.frame s.world (between_two op a b)

-- the predicate of a truth, which is that of no second test
record Apart (p : ℕ) : Type 0 where
  few : p < 8
  other : p ≡ SECOND → ⊥

always_apart : Apart 0
always_apart = record { few = omega arith; other = λ is. omega (arith, is) }

test_apart : Apart TEST
test_apart = record { few = omega arith; other = λ is. omega (arith, is) }

word_apart : (homes : Homes) (slot : ℕ) → Apart (told_at homes slot)
word_apart homes slot = record { few = (told_few homes slot).1; other = λ is. told_other homes slot (sym is) }

truth_apart : (homes : Homes) (b : PlainSp) → Apart (told_in (flag_at homes.flags b))
truth_apart homes (constant n) = by (n == 1)
  where
    by : (c : Bool) → Apart (told_in (if c then Some 0 else None))
    by true = always_apart
    by false = test_apart
truth_apart homes (frame_word slot) = word_apart homes slot
truth_apart homes (cell_word cell) = test_apart
truth_apart homes (array_word array index) = test_apart
truth_apart homes (before_one op of) = test_apart
truth_apart homes (between_two op a b) = by a (is_same op && is_one b)
  where
    by : (a : PlainSp) (c : Bool) → Apart (told_in (if c then word_flag homes.flags a else None))
    by a false = test_apart
    by (frame_word slot) true = word_apart homes slot
    by _ true = test_apart

-- what is left where the lowest bit of a word is sought
record Sought (homes : Homes) (slot : ℕ) (m t : Run) : Type 0 where
  keeps : Keeps FIRST homes.first m t
  bit : so SECOND t ≡ has_bit (word_of homes.first slot m) 0
  others : (q : ℕ) → Apart q → so q t ≡ so q m

bit_seen : (homes : Homes) (slot : ℕ) (m : Run) → IsWhole m → slot < 128
    → Sought homes slot m (run by_words (all_done (bit_sought homes.first slot)) m)
bit_seen homes slot m whole near = record {
  keeps = calm_done by_words FIRST homes.first (bit_sought homes.first slot) m (omega arith) whole
      (bit_calm homes slot);
  bit = ap (so SECOND) test ∙ so_got SECOND (has_bit (held at r) 0) r whole_r (omega arith) (omega arith)
      ∙ ap (λ w. has_bit w 0) (fetch_leaves by_words homes.first slot m refl whole near);
  others = λ q x. ap (so q) test ∙ so_kept SECOND (has_bit (held at r) 0) q r whole_r x.few (λ same. x.other (sym same))
      ∙ fetch_preds by_words homes.first slot q m whole x.few;
}
  where
    at : ℕ
    at = fetched_at homes.first slot

    r : Run
    r = once by_words (fetch_word homes.first slot) m

    whole_r : IsWhole r
    whole_r = once_whole by_words (fetch_word homes.first slot) m whole

    test : once by_words (compare_short cmp.Btest SECOND at 0) r
        ≡ with_written (write.Predicate SECOND (has_bit (held at r) 0)) r
    test = did_compare_short by_words cmp.Btest SECOND at 0 r whole_r

operands_told : {homes : Homes} {slots : ℕ} {s : State} {m : Run} (f : ℕ → List Step) (op : SpBinary) (a b : PlainSp)
    → IsReady homes slots (between_two op a b) FIRST s m → joins homes.flags op a b ≡ true
    → (flag_at homes.flags b ≡ None → flag (so TEST (run by_words (parts_trail f (truth_code homes b)) m))
    ≡ sp_value s.frame s.world b)
    → Joined homes op a b s m (run by_words (parts_trail f (operands_stood homes a b (truth_code homes b))) m)
operands_told {homes} {slots} {s} {m} f op a b r joins_them told =
    subst (Joined homes op a b s m)
    (sym (run_joined by_words f (unless_stands (flag_at homes.flags b) (truth_code homes b)) (sought homes a) m))
    (by (flag_at homes.flags a) refl)
  where
    parts : (is_some (bits_of op) ≡ true) × ((is_some (flag_at homes.flags a) || seeks homes.flags op a b) ≡ true)
    parts = and_parts (is_some (bits_of op)) (is_some (flag_at homes.flags a) || seeks homes.flags op a b) joins_them

    n : Run
    n = run by_words (parts_trail f (unless_stands (flag_at homes.flags b) (truth_code homes b))) m

    q : ℕ
    q = told_in (flag_at homes.flags b)

    second : Second homes b q s m n
    second = second_told f b (second_is_ready op a b r) told

    word : (a : PlainSp) → is_frame_word a ≡ true → flag_at homes.flags a ≡ None → names_words slots a ≡ true
        → is_masking op ≡ true
        → flag (pred_value (func_in (bits_of op))
        (so SECOND (run by_words (all_done (bit_sought homes.first (slot_number a))) n))
        (so q (run by_words (all_done (bit_sought homes.first (slot_number a))) n)))
        ≡ binary_value op (sp_value s.frame s.world a) (sp_value s.frame s.world b)
    word (frame_word slot) is none named masking =
        let x = bit_seen homes slot n second.keeps.whole (omega (arith, r.most, ltb-true slot slots named)) in
        let shown = sym (shown_plain homes slot m none) ∙ r.shows.frame slot (ltb-true slot slots named) in
        ap₂ (λ x y. flag (pred_value (func_in (bits_of op)) x y)) x.bit (x.others q (truth_apart homes b))
        ∙ masked_value op (word_of homes.first slot n) (so q n) masking
        ∙ ap₂ (binary_value op) (word_still homes.first slot m n second.keeps.high second.keeps.stack
        second.keeps.st ∙ shown) second.value
    word _ is none named masking = absurd (true≢false (sym is))

    by : (o : Option ℕ) → flag_at homes.flags a ≡ o
        → Joined homes op a b s m (run by_words
        (parts_trail f (unless_stands o (one (straight (bit_sought homes.first (slot_number a)))))) n)
    by (Some p) is =
        let first = stood a p r.shows r.whole (operands_named op a b r).0 is in
        record {
          keeps = second.keeps;
          value = ap (λ o. flag (pred_value (func_in (bits_of op)) (so (sought_in o) n) (so q n))) is
              ∙ joined_value op a b p q parts.0 first second;
        }
    by None is =
        let seeking = ap (λ o. is_some o || seeks homes.flags op a b) (sym is) ∙ parts.1 in
        let lone = run_lone by_words f (bit_sought homes.first (slot_number a)) n in
        let sought_keeps = calm_done by_words FIRST homes.first (bit_sought homes.first (slot_number a)) n
        (omega arith) second.keeps.whole (bit_calm homes (slot_number a)) in
        subst (Joined homes op a b s m) (sym lone) (record {
          keeps = keeps_both second.keeps sought_keeps;
          value = ap (λ o. flag (pred_value (func_in (bits_of op))
              (so (sought_in o) (run by_words (all_done (bit_sought homes.first (slot_number a))) n))
              (so q (run by_words (all_done (bit_sought homes.first (slot_number a))) n)))) is
              ∙ word a (seeks_word homes.flags op a b seeking) is (operands_named op a b r).0 (and_parts
              (is_masking op) _ seeking).0;
        })

-- an expression that is no truth already is joined or tested
joined_or_tested : (flags : Flags) (op : SpBinary) (a b : PlainSp) → is_truth flags (between_two op a b) ≡ true
    → flag_at flags (between_two op a b) ≡ None → (if joins flags op a b then is_truth flags b else is_test
    (between_two op a b)) ≡ true
joined_or_tested flags op a b truth none =
    ap (λ o. is_some o || (if joins flags op a b then is_truth flags b else is_test (between_two op a b))) (sym none)
    ∙ truth

-- an expression that is tested
tested_told : {homes : Homes} {slots : ℕ} {s : State} {m : Run} (f : ℕ → List Step) (e : PlainSp)
    → IsReady homes slots e FIRST s m → is_test e ≡ true
    → flag (so TEST (run by_words (parts_trail f (tested_code homes e)) m)) ≡ sp_value s.frame s.world e
tested_told {homes} {slots} {s} {m} f e r test =
    ap (λ t. flag (so TEST t)) (run_joined by_words f (operands_code homes e FIRST) (one (straight (test_of homes e))) m
    ∙ run_lone by_words f (test_of homes e) (worked homes f e FIRST m))
    ∙ test_told f e r test

-- by what a test says
copied : (b : Bool) → flag (pred_value comb.Por b b) ≡ flag b
copied true = refl
copied false = refl

pairs_same : (op : SpBinary) → is_some (both_of op) ≡ true → (x y : Bool) → flag (pred_value (func_in (both_of op)) x y)
    ≡ binary_value op (flag x) (flag y)
pairs_same binary.Or is true y = refl
pairs_same binary.Or is false true = refl
pairs_same binary.Or is false false = refl
pairs_same binary.And is true true = refl
pairs_same binary.And is true false = refl
pairs_same binary.And is false y = refl
pairs_same _ is x y = absurd (true≢false (sym is))

-- of two conditions the truth of the first stands in the second predicate, while the second is tested
paired_told : {homes : Homes} {slots : ℕ} {s : State} {m : Run} (f : ℕ → List Step) (op : SpBinary) (a b : PlainSp)
    → IsReady homes slots (between_two op a b) FIRST s m → pairs op a b ≡ true
    → flag (so TEST (run by_words (parts_trail f (truth_code homes a)) m)) ≡ sp_value s.frame s.world a
    → flag (so TEST (run by_words (parts_trail f (paired_code homes op b (truth_code homes a))) m))
    ≡ sp_value s.frame s.world (between_two op a b)
paired_told {homes} {slots} {s} {m} f op a b r pair told =
    ap (λ t. flag (so TEST t)) (run_joined by_words f first (joining_code homes op b) m
    ∙ run_joined by_words f (tested_code homes b) (one (straight (combine func TEST SECOND TEST ∷ []))) n
    ∙ did_combine by_words func TEST SECOND TEST t tested_keeps.whole)
    ∙ ap flag (so_got TEST (pred_value func (so SECOND t) (so TEST t)) t tested_keeps.whole (omega arith) (omega arith))
    ∙ pairs_same op parts.0 (so SECOND t) (so TEST t)
    ∙ ap₂ (binary_value op) (ap flag (second_kept ∙ second_is) ∙ copied (so TEST before) ∙ told) (tested_told f b ready
    (condition_tests b conditions.0))
  where
    parts : (is_some (both_of op) ≡ true) × ((is_condition a && (is_condition b && spares_second b)) ≡ true)
    parts = and_parts (is_some (both_of op)) (is_condition a && (is_condition b && spares_second b)) pair

    conditions : (is_condition b ≡ true) × (spares_second b ≡ true)
    conditions = and_parts (is_condition b) (spares_second b)
        (and_parts (is_condition a) (is_condition b && spares_second b) parts.1).1

    func : PredFunc
    func = func_in (both_of op)

    fits : Fitting homes (between_two op a b)
    fits = (fits_of r, r.free)

    first : PlainParts
    first = kept_code (truth_code homes a)

    before : Run
    before = run by_words (parts_trail f (truth_code homes a)) m

    keep : List PlainBundle
    keep = combine comb.Por SECOND TEST TEST ∷ []

    calm_a : IsCalm FIRST homes.first (truth_code homes a)
    calm_a = truth_is (truths_calm homes) a (first_fitting homes op a b fits)

    n : Run
    n = run by_words (parts_trail f first) m

    whole_before : IsWhole before
    whole_before = (calm_parts by_words FIRST homes.first f (truth_code homes a) m (omega arith) r.whole calm_a).whole

    keeps : Keeps FIRST homes.first m n
    keeps = calm_parts by_words FIRST homes.first f first m (omega arith) r.whole (have_joined (is_in (calm FIRST homes.first)) none (truth_code homes a)
        (one (straight keep)) calm_a (calm_tests homes keep refl))

    second_is : so SECOND n ≡ pred_value comb.Por (so TEST before) (so TEST before)
    second_is = ap (so SECOND) (run_joined by_words f (truth_code homes a) (one (straight keep)) m
        ∙ did_combine by_words comb.Por SECOND TEST TEST before whole_before)
        ∙ so_got SECOND (pred_value comb.Por (so TEST before) (so TEST before)) before whole_before
        (omega arith) (omega arith)

    ready : IsReady homes slots b FIRST s n
    ready = second_ready op a b r FIRST n (omega arith) (second_fits op a b (fits_of r)).registers
        (second_fitting homes op a b fits).1 keeps

    t : Run
    t = run by_words (parts_trail f (tested_code homes b)) n

    tested_keeps : Keeps FIRST homes.first n t
    tested_keeps = tested_calm f b ready

    second_kept : so SECOND t ≡ so SECOND n
    second_kept = (test_spared homes b conditions.1).kept f n keeps.whole

unjoined_told : {homes : Homes} {slots : ℕ} {s : State} {m : Run} (f : ℕ → List Step) (op : SpBinary) (a b : PlainSp)
    → IsReady homes slots (between_two op a b) FIRST s m → is_test (between_two op a b) ≡ true
    → (is_condition a ≡ true → flag (so TEST (run by_words (parts_trail f (truth_code homes a)) m))
    ≡ sp_value s.frame s.world a)
    → flag (so TEST (run by_words (parts_trail f (unjoined_code homes op a b (truth_code homes a))) m))
    ≡ sp_value s.frame s.world (between_two op a b)
unjoined_told {homes} {slots} {s} {m} f op a b r test told = by (pairs op a b) refl
  where
    by : (c : Bool) → pairs op a b ≡ c
        → flag (so TEST
        (run by_words (parts_trail f (if c then paired_code homes op b (truth_code homes a) else tested_code homes
        (between_two op a b))) m)) ≡ sp_value s.frame s.world (between_two op a b)
    by true is = paired_told f op a b r is (told (and_parts (is_condition a) (is_condition b && spares_second b)
        (and_parts (is_some (both_of op)) (is_condition a && (is_condition b && spares_second b)) is).1).0)
    by false is = tested_told f (between_two op a b) r test

first_is_ready : {homes : Homes} {slots : ℕ} {s : State} {m : Run} (op : SpBinary) (a b : PlainSp)
    → IsReady homes slots (between_two op a b) FIRST s m → IsReady homes slots a FIRST s m
first_is_ready {homes} {slots} {s} {m} op a b r =
    first_ready op a b r FIRST m (omega arith) (first_fits op a b (fits_of r)).registers
    (first_fitting homes op a b (fits_of r, r.free)).1 (keeps_all FIRST homes.first m r.whole)

condition_told : {homes : Homes} {slots : ℕ} {s : State} {m : Run} (f : ℕ → List Step) (e : PlainSp)
    → IsReady homes slots e FIRST s m → is_condition e ≡ true
    → flag (so TEST (run by_words (parts_trail f (truth_code homes e)) m)) ≡ sp_value s.frame s.world e
condition_told f (before_one op of) r is = tested_told f (before_one op of) r is
condition_told {homes} {slots} {s} {m} f (between_two op a b) r is =
    ap (λ (c : Bool). flag
    (so TEST (run by_words (parts_trail f (if c then joined (operands_stood homes a b (truth_code homes b))
    (one (straight (join homes.flags TEST op a b ∷ []))) else unjoined_code homes op a b (truth_code homes a)))
    m)))
    (no_joins homes.flags op a b is)
    ∙ unjoined_told f op a b r (condition_tests (between_two op a b) is) (condition_told f a (first_is_ready op a b r))
condition_told f _ r is = absurd (true≢false (sym is))

truth_told : {homes : Homes} {slots : ℕ} {s : State} {m : Run} (f : ℕ → List Step) (e : PlainSp)
    → IsReady homes slots e FIRST s m → is_truth homes.flags e ≡ true → flag_at homes.flags e ≡ None
    → flag (so TEST (run by_words (parts_trail f (truth_code homes e)) m)) ≡ sp_value s.frame s.world e
truth_told f (constant n) r truth none =
    tested_told f (constant n) r (ap (λ o. is_some o || is_test (constant n)) (sym none) ∙ truth)
truth_told f (frame_word slot) r truth none =
    absurd (true≢false (sym (ap (λ o. is_some o || false) (sym none) ∙ truth)))
truth_told f (cell_word cell) r truth none = absurd (true≢false (sym truth))
truth_told f (array_word array index) r truth none = absurd (true≢false (sym truth))
truth_told f (before_one op of) r truth none = tested_told f (before_one op of) r truth
truth_told {homes} {slots} {s} {m} f (between_two op a b) r truth none =
    by (joins homes.flags op a b) refl (joined_or_tested homes.flags op a b truth none)
    (λ is. truth_told f b (second_is_ready op a b r) is)
  where
    by : (c : Bool) → joins homes.flags op a b ≡ c → (if c then is_truth homes.flags b else is_test
        (between_two op a b)) ≡ true
        → (is_truth homes.flags b ≡ true → flag_at homes.flags b ≡ None
        → flag (so TEST (run by_words (parts_trail f (truth_code homes b)) m)) ≡ sp_value s.frame s.world b)
        → flag (so TEST (run by_words (parts_trail f (if c then joined (operands_stood homes a b (truth_code homes b))
        (one (straight (join homes.flags TEST op a b ∷ []))) else unjoined_code homes op a b (truth_code homes a)))
        m))
        ≡ sp_value s.frame s.world (between_two op a b)
    by false other test inner = unjoined_told f op a b r test (condition_told f a (first_is_ready op a b r))
    by true is test inner =
        let p = sought_in (flag_at homes.flags a) in
        let q = told_in (flag_at homes.flags b) in
        let code = operands_stood homes a b (truth_code homes b) in
        let n = run by_words (parts_trail f code) m in
        let x = operands_told f op a b r is (inner test) in
        ap (λ t. flag (so TEST t)) (run_joined by_words f code (one (straight (join homes.flags TEST op a b ∷ []))) m
        ∙ did_combine by_words (func_in (bits_of op)) TEST p q n x.keeps.whole)
        ∙ ap flag (so_got TEST (pred_value (func_in (bits_of op)) (so p n) (so q n)) n x.keeps.whole (omega arith)
        (omega arith)) ∙ x.value

-- ---- a predicate is set

pub record SetsFlag (homes : Homes) (to : ℕ) (e : PlainSp) (s : State) (m t : Run) : Type 0 where
  pub before : Run
  pub truth : Bool
  pub keeps : Keeps FIRST homes.first m before
  pub value : flag truth ≡ sp_value s.frame s.world e
  pub is : t ≡ with_written (write.Predicate to truth) before

-- by what the code of a truth leaves in the predicate of a test
copied_set : {homes : Homes} {s : State} {m : Run} (f : ℕ → List Step) (to : ℕ) (e : PlainSp) (code : PlainParts)
    → IsWhole m → IsCalm FIRST homes.first code
    → flag (so TEST (run by_words (parts_trail f code) m)) ≡ sp_value s.frame s.world e
    → SetsFlag homes to e s m (run by_words
    (parts_trail f (joined code (one (straight (combine comb.Por to TEST TEST ∷ []))))) m)
copied_set {homes} {s} {m} f to e code whole calm told =
    let n = run by_words (parts_trail f code) m in
    let keeps = calm_parts by_words FIRST homes.first f code m (omega arith) whole calm in
    record {
      before = n;
      truth = pred_value comb.Por (so TEST n) (so TEST n);
      keeps = keeps;
      value = copied (so TEST n) ∙ told;
      is = run_joined by_words f code (one (straight (combine comb.Por to TEST TEST ∷ []))) m
          ∙ did_combine by_words comb.Por to TEST TEST n keeps.whole;
    }

tested_set : {homes : Homes} {slots : ℕ} {s : State} {m : Run} (f : ℕ → List Step) (to : ℕ) (e : PlainSp)
    → IsReady homes slots e FIRST s m → is_test e ≡ true
    → SetsFlag homes to e s m (run by_words
    (parts_trail f (joined (tested_code homes e) (one (straight (combine comb.Por to TEST TEST ∷ []))))) m)
tested_set {homes} f to e r test =
    copied_set f to e (tested_code homes e) r.whole (tests_calm homes e (fits_of r, r.free)) (tested_told f e r test)

joined_set : {homes : Homes} {slots : ℕ} {s : State} {m : Run} (f : ℕ → List Step) (to : ℕ) (op : SpBinary)
    (a b : PlainSp) → IsReady homes slots (between_two op a b) FIRST s m → joins homes.flags op a b ≡ true
    → is_truth homes.flags b ≡ true
    → SetsFlag homes to (between_two op a b) s m (run by_words
    (parts_trail f (joined (operands_stood homes a b (truth_code homes b))
    (one (straight (join homes.flags to op a b ∷ []))))) m)
joined_set {homes} {slots} {s} {m} f to op a b r is truth =
    let p = sought_in (flag_at homes.flags a) in
    let q = told_in (flag_at homes.flags b) in
    let code = operands_stood homes a b (truth_code homes b) in
    let n = run by_words (parts_trail f code) m in
    let x = operands_told f op a b r is (truth_told f b (second_is_ready op a b r) truth) in
    record {
      before = n;
      truth = pred_value (func_in (bits_of op)) (so p n) (so q n);
      keeps = x.keeps;
      value = x.value;
      is = run_joined by_words f code (one (straight (join homes.flags to op a b ∷ []))) m
          ∙ did_combine by_words (func_in (bits_of op)) to p q n x.keeps.whole;
    }

pub flag_sets : {homes : Homes} {slots : ℕ} {s : State} {m : Run} (f : ℕ → List Step) (to : ℕ) (e : PlainSp)
    → IsReady homes slots e FIRST s m → is_truth homes.flags e ≡ true
    → SetsFlag homes to e s m (run by_words (parts_trail f (flag_code homes to e)) m)
flag_sets {homes} {slots} {s} {m} f to e r truth = by (flag_at homes.flags e) refl
  where
    other : (e : PlainSp) → IsReady homes slots e FIRST s m → is_truth homes.flags e ≡ true → flag_at homes.flags e
        ≡ None → SetsFlag homes to e s m (run by_words (parts_trail f (flag_by None homes to e)) m)
    other (constant n) r truth none =
        let zero : n ≡ 0 = eqb-true n 0 (ap (λ o. is_some o || is_test (constant n)) (sym none) ∙ truth) in
        record {
          before = m;
          truth = pred_value comb.Pxor (so 0 m) (so 0 m);
          keeps = keeps_all FIRST homes.first m r.whole;
          value = ap (λ b. flag (pred_value comb.Pxor b b)) r.whole.fits.always ∙ sym zero;
          is = did_combine by_words comb.Pxor to 0 0 m r.whole;
        }
    other (frame_word slot) r truth none = absurd (true≢false (sym (ap (λ o. is_some o || false) (sym none) ∙ truth)))
    other (cell_word cell) r truth none = absurd (true≢false (sym truth))
    other (array_word array index) r truth none = absurd (true≢false (sym truth))
    other (before_one op of) r truth none = tested_set f to (before_one op of) r truth
    other (between_two op a b) r truth none =
        either (joins homes.flags op a b) refl (joined_or_tested homes.flags op a b truth none)
      where
        either : (c : Bool) → joins homes.flags op a b ≡ c → (if c then is_truth homes.flags b else is_test
            (between_two op a b)) ≡ true
            → SetsFlag homes to (between_two op a b) s m (run by_words
            (parts_trail f (joined (if c then operands_stood homes a b (truth_code homes b) else unjoined_code homes
            op a b (truth_code homes a))
            (one (straight ((if c then join homes.flags to op a b else combine comb.Por to TEST TEST) ∷ []))))) m)
        either true is test = joined_set f to op a b r is test
        either false is test =
            copied_set f to (between_two op a b) (unjoined_code homes op a b (truth_code homes a)) r.whole
            (unjoined_is (truths_calm homes) op a b (fits_of r, r.free) (truth_is (truths_calm homes) a
            (first_fitting homes op a b (fits_of r, r.free))))
            (unjoined_told f op a b r test (condition_told f a (first_is_ready op a b r)))

    by : (o : Option ℕ) → flag_at homes.flags e ≡ o
        → SetsFlag homes to e s m (run by_words (parts_trail f (flag_by o homes to e)) m)
    by None none = other e r truth none
    by (Some p) is = record {
      before = m;
      truth = pred_value comb.Por (so p m) (so p m);
      keeps = keeps_all FIRST homes.first m r.whole;
      value = copied (so p m) ∙ (stood e p r.shows r.whole r.names is).value;
      is = did_combine by_words comb.Por to p p m r.whole;
    }

-- Code that leaves the second predicate as it is: that of expressions without `&&`, `||` and divisions.
use Rattle.std.proofs.Common.{◌≡◌, ℕ, ◌+◌, Bool, true, false, true≢false, not, ◌&&◌, ◌||◌, List, nat_lt, Option, None, Some, if◌then◌else◌, refl, ap, ◌∙◌, arith}
use Rattle.std.specs.Prelude.{is_some}
use Rattle.std.specs.List.{list_all}
use Rattle.std.proofs.lemmas.Bool.{and_parts, not-true}
use Rattle.patmos_instr.specs.Bundles.{PlainBundle}
use Rattle.patmos_instr.specs.declared.functions.CmpFunc.{CmpFunc}
use Rattle.sp_tree.specs.Need.{need}
use Rattle.sp_tree.specs.Plain.{PlainSp, constant, frame_word, cell_word, array_word, before_one, between_two}
use Rattle.sp_tree.specs.declared.operators.SpBinary.{SpBinary}
use Rattle.sp_tree.specs.declared.operators.SpBinary.TheVariants as binary
use Rattle.sp_tree.specs.declared.operators.SpUnary.{SpUnary}
use Rattle.sp_shape.proofs.Whole.{run_whole}
use Rattle.sp_shape.specs.Parts.{straight, PlainParts, no_part, one, joined}
use Rattle.sp_shape.specs.Run.{Run, by_words, run, IsWhole}
use Rattle.sp_shape.specs.Trail.{Step, parts_trail}
use Rattle.c_world.specs.declared.region.Region.{Region}
use Rattle.sp_emit.specs.Divisors.{factor_rest_to}
use Rattle.sp_emit.specs.Expressions.{is_immediate, number_of, value_at, value_code, operands_code, cell_code, element_code, unary_code, binary_code, held_code, address_of}
use Rattle.sp_emit.specs.Holding.{so}
use Rattle.sp_emit.specs.Instructions.{always, under, set_number}
use Rattle.sp_emit.specs.Places.{read_word}
use Rattle.sp_emit.specs.Truths.{cmp_of, both_of, by_two, by_number, is_division, spares_second, test_of, tested_code}
use Rattle.sp_emit.specs.declared.registers.TheConstants.{FIRST, SPARE, TEST, SECOND}
use Rattle.sp_emit.specs.declared.stands.Homes.{Homes}
use Rattle.sp_emit.proofs.Held.{held_is}
use Rattle.sp_emit.proofs.Numbers.{number_op_is}
use Rattle.sp_emit.proofs.Offsets.{address_are}
use Rattle.sp_emit.proofs.Operands.{one_of, Handed, operands_are, word_code_is}
use Rattle.sp_emit.proofs.Untouched.{predicate, leaves, left_run}
use Rattle.sp_emit.proofs.Values.{run_joined, run_lone}
use Rattle.sp_emit.proofs.WordPlaces.{read_is}

-- ---- bundles

-- a bundle that does not write it
abbrev spares : PlainBundle → Bool
spares = leaves (predicate SECOND)

-- ---- parts

pub record Spares (ps : PlainParts) : Type 0 where
  pub kept : (f : ℕ → List Step) (m : Run) → IsWhole m → so SECOND (run by_words (parts_trail f ps) m) ≡ so SECOND m

lone : {bs : List PlainBundle} → list_all spares bs ≡ true → Spares (one (straight bs))
lone {bs} all = record {
  kept = λ f m whole. ap (so SECOND) (run_lone by_words f bs m)
      ∙ left_run by_words (predicate SECOND) bs m (omega arith) whole all;
}

none : Spares no_part
none = record { kept = λ f m whole. refl }

both : (x y : PlainParts) → Spares x → Spares y → Spares (joined x y)
both x y hx hy = record {
  kept = λ f m whole. ap (so SECOND) (run_joined by_words f x y m) ∙ hy.kept f (run by_words (parts_trail f x) m)
      (run_whole by_words (parts_trail f x) m whole) ∙ hx.kept f m whole;
}

-- ---- expressions

both_spare : (op : SpBinary) (a b : PlainSp) → spares_second (between_two op a b) ≡ true → (spares_second a ≡ true)
    × (spares_second b ≡ true)
both_spare op a b h = and_parts (spares_second a) (spares_second b)
    (and_parts (not (is_division op || is_some (both_of op))) (spares_second a && spares_second b) h).1

spares_handed : Handed (λ e rd. spares_second e ≡ true)
spares_handed = record {
  index = λ array index rd h. h;
  operand = λ op of rd h. h;
  first = λ op a b rd h. (both_spare op a b h).0;
  second = λ op a b rd h. (both_spare op a b h).1;
  first_behind = λ op a b rd less h. (both_spare op a b h).0;
  second_behind = λ op a b rd more h. (both_spare op a b h).1;
}

number_spares : (rd n : ℕ) → spares (set_number rd n) ≡ true
number_spares rd n = number_op_is (λ op. spares (under always op) ≡ true) rd n refl refl

read_spares : (homes rd slot : ℕ) → spares (read_word homes rd slot) ≡ true
read_spares homes rd slot = read_is (λ b. spares b ≡ true) homes rd slot refl (λ out. refl)

cell_spares : (r : Region) (word rd : ℕ) → list_all spares (cell_code (record { region = r; word = word }) rd) ≡ true
cell_spares r word rd = let address = number_spares rd (address_of r word) in grind (arith, address)

element_spares : (r : Region) (first length rd ra : ℕ)
    → list_all spares (element_code (record { region = r; first = first; length = length }) rd ra) ≡ true
element_spares r first length rd ra =
    let address = address_are (λ b. spares b ≡ true) (record { region = r; first = first; length = length }) TEST rd ra
    refl (number_spares SPARE) refl refl refl refl in
    grind (arith, address.length, address.below, address.base, address.scaled)

unary_spares : (op : SpUnary) (rd ra : ℕ) → list_all spares (unary_code op rd ra) ≡ true
unary_spares op rd ra = grind arith

held_spares : (op : SpBinary) (rd ra n : ℕ) → list_all spares (held_code op rd ra n) ≡ true
unfolding factor_rest_to
held_spares op rd ra n = held_is (λ bs. list_all spares bs ≡ true) op rd ra n (grind arith) (grind arith)

binary_spares : (op : SpBinary) (rd ra rb : ℕ) → (is_division op || is_some (both_of op)) ≡ false
    → Spares (binary_code op rd ra rb)
binary_spares binary.BitOr rd ra rb is = lone refl
binary_spares binary.BitXor rd ra rb is = lone refl
binary_spares binary.BitAnd rd ra rb is = lone refl
binary_spares binary.Equal rd ra rb is = lone refl
binary_spares binary.NotEqual rd ra rb is = lone refl
binary_spares binary.Less rd ra rb is = lone refl
binary_spares binary.LessUnsigned rd ra rb is = lone refl
binary_spares binary.LessEqual rd ra rb is = lone refl
binary_spares binary.LessEqualUnsigned rd ra rb is = lone refl
binary_spares binary.ShiftLeft rd ra rb is = lone refl
binary_spares binary.ShiftRight rd ra rb is = lone refl
binary_spares binary.ShiftRightUnsigned rd ra rb is = lone refl
binary_spares binary.Plus rd ra rb is = lone refl
binary_spares binary.Minus rd ra rb is = lone refl
binary_spares binary.Times rd ra rb is = lone refl
binary_spares _ rd ra rb is = absurd (true≢false is)

value_spares : (homes : Homes) (e : PlainSp) (rd to : ℕ) → spares_second e ≡ true → Spares (value_code homes e rd to)
value_spares homes (constant n) rd to h = lone (rw (number_spares to n) refl)
value_spares homes (frame_word slot) rd to h = word_code_is (λ bs. Spares (one (straight bs))) homes to slot
    (λ p. lone refl) (lone (rw (read_spares homes.first to slot) refl))
value_spares homes (cell_word cell) rd to h = lone (cell_spares cell.region cell.word to)
value_spares homes (array_word array index) rd to h =
    lone (element_spares array.region array.first array.length to (value_at homes index rd))
value_spares homes (before_one op of) rd to h = lone (unary_spares op to (value_at homes of rd))
value_spares homes (between_two op a b) rd to h =
    let other = not-true (is_division op || is_some (both_of op))
    (and_parts (not (is_division op || is_some (both_of op))) (spares_second a && spares_second b) h).0 in
    one_of Spares (is_immediate op b) (nat_lt (need a) (need b))
    (one (straight (held_code op to (value_at homes a rd) (number_of b))))
    (binary_code op to (value_at homes a (rd + 1)) (value_at homes b rd))
    (binary_code op to (value_at homes a rd) (value_at homes b (rd + 1)))
    (lone (held_spares op to (value_at homes a rd) (number_of b)))
    (λ less. binary_spares op to (value_at homes a (rd + 1)) (value_at homes b rd) other) (λ more. binary_spares op to
    (value_at homes a rd) (value_at homes b (rd + 1)) other)

pub operands_spare : (homes : Homes) (e : PlainSp) (rd : ℕ) → spares_second e ≡ true → Spares (operands_code homes e rd)
operands_spare homes e rd h = operands_are Spares homes (λ e rd. spares_second e ≡ true) none both spares_handed
    (λ e rd h. value_spares homes e rd rd h) e rd h

-- ---- tests

compare_spares : (op : SpBinary) (ra rb : ℕ) → (is_division op || is_some (both_of op)) ≡ false
    → list_all spares (by_two (cmp_of op) op ra rb) ≡ true
compare_spares op ra rb other = grind (arith, other)

number_spare : (o : Option CmpFunc) (ra n : ℕ) → list_all spares (by_number o ra n) ≡ true
number_spare None ra n = refl
number_spare (Some func) ra n = refl

test_spares : (homes : Homes) (e : PlainSp) → spares_second e ≡ true → list_all spares (test_of homes e) ≡ true
test_spares homes (constant n) h = refl
test_spares homes (frame_word slot) h = refl
test_spares homes (cell_word cell) h = refl
test_spares homes (array_word array index) h = refl
test_spares homes (before_one op of) h = refl
test_spares homes (between_two op a b) h = by (is_immediate op b) (nat_lt (need a) (need b))
  where
    other : (is_division op || is_some (both_of op)) ≡ false
    other = not-true (is_division op || is_some (both_of op)) (and_parts (not (is_division op || is_some (both_of op)))
        (spares_second a && spares_second b) h).0

    by : (held less : Bool) → list_all spares (if held then by_number (cmp_of op) (value_at homes a FIRST)
        (number_of b) else if less then by_two (cmp_of op) op (value_at homes a (FIRST + 1)) (value_at homes b FIRST)
        else by_two (cmp_of op) op (value_at homes a FIRST) (value_at homes b (FIRST + 1))) ≡ true
    by true less = number_spare (cmp_of op) (value_at homes a FIRST) (number_of b)
    by false true = compare_spares op (value_at homes a (FIRST + 1)) (value_at homes b FIRST) other
    by false false = compare_spares op (value_at homes a FIRST) (value_at homes b (FIRST + 1)) other

pub test_spared : (homes : Homes) (e : PlainSp) → spares_second e ≡ true → Spares (tested_code homes e)
test_spared homes e h = both (operands_code homes e FIRST) (one (straight (test_of homes e)))
    (operands_spare homes e FIRST h) (lone (test_spares homes e h))

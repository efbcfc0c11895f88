-- What holds of the code of values and of parts after one another holds of that of operands: where an operand is a
-- word of the frame in a register, it has none.
use Rattle.std.proofs.Common.{◌≡◌, ℕ, ◌+◌, ◌<◌, Bool, true, false, if◌then◌else◌, nat_lt, List, [], ◌∷◌, Option, None, Some, refl, sym, ap, ◌∙◌, subst, arith, ◌≤◌}
use Rattle.std.specs.Prelude.{is_none}
use Rattle.std.proofs.lemmas.Bool.{and_parts, ltb-true}
use Rattle.patmos_instr.specs.Bundles.{PlainBundle}
use Rattle.sp_tree.specs.Formed.{names_words, array_formed}
use Rattle.sp_tree.specs.Need.{need}
use Rattle.sp_tree.specs.Plain.{PlainSp, frame_word, array_word, before_one, between_two}
use Rattle.sp_tree.specs.declared.expressions.SpArray.{SpArray}
use Rattle.sp_tree.specs.declared.operators.SpBinary.{SpBinary}
use Rattle.sp_tree.specs.declared.operators.SpUnary.{SpUnary}
use Rattle.sp_shape.specs.Parts.{PlainParts, no_part, joined}
use Rattle.sp_shape.proofs.Joins.{joined-nothing}
use Rattle.sp_emit.specs.Expressions.{is_home, home_of, is_immediate, unless, truth_of, word_code, value_code, operands_code, expr_to, expr_code, operand_code}
use Rattle.sp_emit.specs.Fits.{ExprFits}
use Rattle.sp_emit.specs.Places.{flag_of, in_register, read_word}
use Rattle.sp_emit.specs.Statements.{slot_set, mask_by, mask_code}
use Rattle.sp_emit.specs.Truths.{flag_code}
use Rattle.sp_emit.specs.declared.registers.TheConstants.{FIRST, OVERRUN}
use Rattle.sp_emit.proofs.Needs.{covers, lesser, greater, index_named, operand_fits, first_fits, second_fits, first_fits_after, second_fits_after}
use Rattle.sp_emit.specs.declared.stands.Homes.{Homes}

pub word_below : (homes : Homes) (slot : ℕ) → is_home homes (frame_word slot) ≡ true → homes.first + slot < OVERRUN
word_below homes slot is = ltb-true (homes.first + slot) OVERRUN (and_parts (is_none (flag_of homes.flags slot))
    (in_register homes.first slot) is).1

pub home_below : (homes : Homes) (e : PlainSp) → is_home homes e ≡ true → home_of homes e < OVERRUN
home_below homes (frame_word slot) is = word_below homes slot is
home_below homes _ is = omega arith

-- one of two, as a word of the frame stands in a predicate or not
pub word_code_is : (P : List PlainBundle → Type 0) (homes : Homes) (to slot : ℕ) → ((p : ℕ) → P (truth_of p to))
    → P (read_word homes.first to slot ∷ []) → P (word_code (flag_of homes.flags slot) homes.first to slot)
word_code_is P homes to slot flagged plain = by (flag_of homes.flags slot)
  where
    by : (o : Option ℕ) → P (word_code o homes.first to slot)
    by None = plain
    by (Some p) = flagged p

pub unless_is : (P : PlainParts → Type 0) (there : Bool) (code : PlainParts) → P no_part → P code
    → P (unless there code)
unless_is P true code none some = none
unless_is P false code none some = some

pub operand_is : (P : PlainParts → Type 0) (homes : Homes) (e : PlainSp) (rd : ℕ) → P no_part → P (expr_code homes e rd)
    → P (operand_code homes e rd)
operand_is P homes e rd none code = unless_is P (is_home homes e) (expr_code homes e rd) none code

-- one of three, as an operator's second operand and the needs of both are
pub one_of : (P : PlainParts → Type 0) (held less : Bool) (x y z : PlainParts) → P x → (less ≡ true → P y)
    → (less ≡ false → P z) → P (if held then x else if less then y else z)
one_of P true less x y z px py pz = px
one_of P false true x y z px py pz = py refl
one_of P false false x y z px py pz = pz refl

-- no code for one that stands in a register
pub operand_none : (old : PlainParts) (homes : Homes) (e : PlainSp) (rd : ℕ) → is_home homes e ≡ true → old
    ≡ joined old (operand_code homes e rd)
operand_none old homes e rd is =
    sym (joined-nothing old) ∙ ap (λ b. joined old (unless b (expr_code homes e rd))) (sym is)

-- ---- what holds of an expression and a register holds of its operands, and of those to which their values go

pub record Handed (Holds : PlainSp → ℕ → Type 0) : Type 0 where
  pub index : (array : SpArray) (index : PlainSp) (rd : ℕ) → Holds (array_word array index) rd → Holds index rd
  pub operand : (op : SpUnary) (of : PlainSp) (rd : ℕ) → Holds (before_one op of) rd → Holds of rd
  pub first : (op : SpBinary) (a b : PlainSp) (rd : ℕ) → Holds (between_two op a b) rd → Holds a rd
  pub second : (op : SpBinary) (a b : PlainSp) (rd : ℕ) → Holds (between_two op a b) rd → Holds b rd
  pub first_behind : (op : SpBinary) (a b : PlainSp) (rd : ℕ) → nat_lt (need a) (need b) ≡ true
      → Holds (between_two op a b) rd → Holds a (rd + 1)
  pub second_behind : (op : SpBinary) (a b : PlainSp) (rd : ℕ) → nat_lt (need a) (need b) ≡ false
      → Holds (between_two op a b) rd → Holds b (rd + 1)

pub names_handed : (slots : ℕ) → Handed (λ e rd. names_words slots e ≡ true)
names_handed slots = record {
  index = λ array index rd h. (and_parts (array_formed array) (names_words slots index) h).1;
  operand = λ op of rd h. h;
  first = λ op a b rd h. (and_parts (names_words slots a) (names_words slots b) h).0;
  second = λ op a b rd h. (and_parts (names_words slots a) (names_words slots b) h).1;
  first_behind = λ op a b rd less h. (and_parts (names_words slots a) (names_words slots b) h).0;
  second_behind = λ op a b rd more h. (and_parts (names_words slots a) (names_words slots b) h).1;
}

pub fits_handed : Handed (λ e rd. ExprFits e rd)
fits_handed = record {
  index = λ array index rd h. index_named array index h;
  operand = λ op of rd h. operand_fits op of h;
  first = λ op a b rd h. first_fits op a b h;
  second = λ op a b rd h. second_fits op a b h;
  first_behind = λ op a b rd less h. first_fits_after op a b h less;
  second_behind = λ op a b rd more h. second_fits_after op a b h more;
}

-- registers suffice before one
pub needs_handed : (limit : ℕ) → Handed (λ e rd. rd + need e ≤ limit)
needs_handed limit = record {
  index = λ array index rd h. h;
  operand = λ op of rd h. h;
  first = λ op a b rd h. omega (arith, h, (covers (nat_lt (need a) (need b)) (need a) (need b)).0);
  second = λ op a b rd h. omega (arith, h, (covers (nat_lt (need a) (need b)) (need a) (need b)).1);
  first_behind = λ op a b rd less h. omega (arith, h, lesser (need a) (need b) less);
  second_behind = λ op a b rd more h. omega (arith, h, greater (need a) (need b) more);
}

pub both_handed : {A B : PlainSp → ℕ → Type 0} → Handed A → Handed B → Handed (λ e rd. A e rd × B e rd)
both_handed {A} {B} x y = record {
  index = λ array index rd h. (x.index array index rd h.0, y.index array index rd h.1);
  operand = λ op of rd h. (x.operand op of rd h.0, y.operand op of rd h.1);
  first = λ op a b rd h. (x.first op a b rd h.0, y.first op a b rd h.1);
  second = λ op a b rd h. (x.second op a b rd h.0, y.second op a b rd h.1);
  first_behind = λ op a b rd less h. (x.first_behind op a b rd less h.0, y.first_behind op a b rd less h.1);
  second_behind = λ op a b rd more h. (x.second_behind op a b rd more h.0, y.second_behind op a b rd more h.1);
}

-- ---- operands

pub operands_are : (P : PlainParts → Type 0) (homes : Homes) (Holds : PlainSp → ℕ → Type 0) → P no_part
    → ((x y : PlainParts) → P x → P y → P (joined x y)) → Handed Holds → ((e : PlainSp) (rd : ℕ) → Holds e rd
    → P (value_code homes e rd rd))
    → (e : PlainSp) (rd : ℕ) → Holds e rd → P (operands_code homes e rd)
operands_are P homes Holds none both handed value (array_word array index) rd h =
    let x = handed.index array index rd h in
    operand_is P homes index rd none (both (operands_code homes index rd) (value_code homes index rd rd)
    (operands_are P homes Holds none both handed value index rd x) (value index rd x))
operands_are P homes Holds none both handed value (before_one op of) rd h =
    let x = handed.operand op of rd h in
    operand_is P homes of rd none (both (operands_code homes of rd) (value_code homes of rd rd)
    (operands_are P homes Holds none both handed value of rd x) (value of rd x))
operands_are P homes Holds none both handed value (between_two op a b) rd h =
    let out : (e : PlainSp) (at : ℕ) → Holds e at → P (operands_code homes e at) → P (operand_code homes e at) =
    λ e at x before. operand_is P homes e at none (both (operands_code homes e at) (value_code homes e at at) before
    (value e at x)) in
    let first = handed.first op a b rd h in
    let second = handed.second op a b rd h in
    let first_out = out a rd first (operands_are P homes Holds none both handed value a rd first) in
    let second_out = out b rd second (operands_are P homes Holds none both handed value b rd second) in
    one_of P (is_immediate op b) (nat_lt (need a) (need b)) (operand_code homes a rd) (joined (operand_code homes b rd)
    (operand_code homes a (rd + 1))) (joined (operand_code homes a rd) (operand_code homes b (rd + 1)))
    first_out
    (λ less. let x = handed.first_behind op a b rd less h in both (operand_code homes b rd)
    (operand_code homes a (rd + 1)) second_out
    (out a (rd + 1) x (operands_are P homes Holds none both handed value a (rd + 1) x)))
    (λ more. let x = handed.second_behind op a b rd more h in both (operand_code homes a rd)
    (operand_code homes b (rd + 1)) first_out
    (out b (rd + 1) x (operands_are P homes Holds none both handed value b (rd + 1) x)))
operands_are P homes Holds none both handed value _ rd h = none

-- ---- a word that is set in any case, in a predicate, in a register and in the stack

pub mask_is : (P : PlainParts → Type 0) (homes : Homes) (slot : ℕ) (e : PlainSp) → ((p : ℕ) → flag_of homes.flags slot
    ≡ Some p → P (flag_code homes p e)) → (flag_of homes.flags slot ≡ None → in_register homes.first slot ≡ true
    → P (expr_to homes e FIRST (homes.first + slot))) → (flag_of homes.flags slot ≡ None
    → in_register homes.first slot ≡ false → P (joined (expr_code homes e FIRST) (slot_set homes.first slot)))
    → P (mask_code homes slot e)
mask_is P homes slot e flagged here there = by (flag_of homes.flags slot) refl (in_register homes.first slot) refl
  where
    by : (o : Option ℕ) → flag_of homes.flags slot ≡ o → (b : Bool) → in_register homes.first slot ≡ b
        → P (mask_by o homes slot e)
    by (Some p) of_slot b is = flagged p of_slot
    by None of_slot true is =
        subst P (sym (ap (λ c. if c then expr_to homes e FIRST (homes.first + slot) else joined
        (expr_code homes e FIRST) (slot_set homes.first slot)) is)) (here of_slot is)
    by None of_slot false is =
        subst P (sym (ap (λ c. if c then expr_to homes e FIRST (homes.first + slot) else joined
        (expr_code homes e FIRST) (slot_set homes.first slot)) is)) (there of_slot is)

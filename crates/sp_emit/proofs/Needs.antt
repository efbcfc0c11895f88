-- What fits of an expression, by its parts: of two operands both fit from the same register on, and the one of the
-- lesser need, or the second where both need as many, fits from the next one on.
use Rattle.std.proofs.Common.{◌≡◌, ℕ, ◌+◌, ◌<◌, ◌≤◌, Bool, true, false, if◌then◌else◌, max, arith, sym, subst}
use Rattle.std.specs.Prelude.{nat_lt}
use Rattle.std.proofs.lemmas.Bool.{and_parts, ltb-true}
use Rattle.sp_tree.specs.Formed.{names_words, cell_formed, array_formed}
use Rattle.sp_tree.specs.Need.{need, both_need}
use Rattle.sp_tree.specs.Plain.{PlainSp, constant, frame_word, cell_word, array_word, before_one, between_two}
use Rattle.sp_tree.specs.declared.expressions.SpArray.{SpArray}
use Rattle.sp_tree.specs.declared.expressions.SpCell.{SpCell}
use Rattle.sp_tree.specs.declared.operators.SpBinary.{SpBinary}
use Rattle.sp_tree.specs.declared.operators.SpUnary.{SpUnary}
use Rattle.sp_emit.specs.Expressions.{slot_number}
use Rattle.sp_emit.specs.Fits.{ExprFits}

-- ---- needs

pub some_need : (e : PlainSp) → 1 ≤ need e
some_need (constant n) = omega arith
some_need (frame_word slot) = omega arith
some_need (cell_word cell) = omega arith
some_need (array_word array index) = some_need index
some_need (before_one op of) = some_need of
some_need (between_two op a b) = by (nat_lt (need a) (need b))
  where
    by : (less : Bool) → 1 ≤ (if less then max (need b) (need a + 1) else max (need a) (need b + 1))
    by true = omega arith
    by false = omega arith

pub covers : (less : Bool) (a b : ℕ) → (a ≤ (if less then max b (a + 1) else max a (b + 1)))
    × (b ≤ (if less then max b (a + 1) else max a (b + 1)))
covers true a b = (omega arith, omega arith)
covers false a b = (omega arith, omega arith)

pub lesser : (a b : ℕ) → nat_lt a b ≡ true → a + 1 ≤ both_need a b
lesser a b less = subst (λ c. a + 1 ≤ (if c then max b (a + 1) else max a (b + 1))) (sym less) (omega arith)

pub greater : (a b : ℕ) → nat_lt a b ≡ false → b + 1 ≤ both_need a b
greater a b more = subst (λ c. b + 1 ≤ (if c then max b (a + 1) else max a (b + 1))) (sym more) (omega arith)

pub few_needs : {rd : ℕ} (e : PlainSp) → ExprFits e rd → need e ≤ 21
few_needs e f = omega (arith, f.registers)

-- ---- parts

pub word_named : {rd : ℕ} (slot : ℕ) → ExprFits (frame_word slot) rd → slot < 128
word_named slot f = omega (arith, f.most, ltb-true slot f.slots f.names)

pub slot_few : {rd : ℕ} (e : PlainSp) → ExprFits e rd → slot_number e < 128
slot_few (frame_word slot) f = word_named slot f
slot_few _ f = omega arith

pub cell_named : {rd : ℕ} (cell : SpCell) → ExprFits (cell_word cell) rd → cell_formed cell ≡ true
cell_named cell f = f.names

pub array_named : {rd : ℕ} (array : SpArray) (index : PlainSp) → ExprFits (array_word array index) rd
    → array_formed array ≡ true
array_named array index f = (and_parts (array_formed array) (names_words f.slots index) f.names).0

pub index_named : {rd : ℕ} (array : SpArray) (index : PlainSp) → ExprFits (array_word array index) rd
    → ExprFits index rd
index_named array index f = record {
  slots = f.slots;
  most = f.most;
  names = (and_parts (array_formed array) (names_words f.slots index) f.names).1;
  registers = f.registers;
}

pub operand_fits : {rd : ℕ} (op : SpUnary) (of : PlainSp) → ExprFits (before_one op of) rd → ExprFits of rd
operand_fits op of f = record { slots = f.slots; most = f.most; names = f.names; registers = f.registers }

pub first_fits : {rd : ℕ} (op : SpBinary) (a b : PlainSp) → ExprFits (between_two op a b) rd → ExprFits a rd
first_fits op a b f = record {
  slots = f.slots;
  most = f.most;
  names = (and_parts (names_words f.slots a) (names_words f.slots b) f.names).0;
  registers = omega (arith, f.registers, (covers (nat_lt (need a) (need b)) (need a) (need b)).0);
}

pub second_fits : {rd : ℕ} (op : SpBinary) (a b : PlainSp) → ExprFits (between_two op a b) rd → ExprFits b rd
second_fits op a b f = record {
  slots = f.slots;
  most = f.most;
  names = (and_parts (names_words f.slots a) (names_words f.slots b) f.names).1;
  registers = omega (arith, f.registers, (covers (nat_lt (need a) (need b)) (need a) (need b)).1);
}

pub first_fits_after : {rd : ℕ} (op : SpBinary) (a b : PlainSp) → ExprFits (between_two op a b) rd
    → nat_lt (need a) (need b) ≡ true → ExprFits a (rd + 1)
first_fits_after op a b f less = record {
  slots = f.slots;
  most = f.most;
  names = (and_parts (names_words f.slots a) (names_words f.slots b) f.names).0;
  registers = omega (arith, f.registers, lesser (need a) (need b) less);
}

pub second_fits_after : {rd : ℕ} (op : SpBinary) (a b : PlainSp) → ExprFits (between_two op a b) rd
    → nat_lt (need a) (need b) ≡ false → ExprFits b (rd + 1)
second_fits_after op a b f more = record {
  slots = f.slots;
  most = f.most;
  names = (and_parts (names_words f.slots a) (names_words f.slots b) f.names).1;
  registers = omega (arith, f.registers, greater (need a) (need b) more);
}

pub one_after : {rd : ℕ} (e : PlainSp) → ExprFits e rd → rd + 1 < 32
one_after e f = omega (arith, f.registers, some_need e)

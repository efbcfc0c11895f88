-- What resolved names and operators do with memories: no more than their parts, and what the slot of a name is read or
-- set as.
use Rattle.std.proofs.Common.{ℕ, Bool, true, false, if◌then◌else◌, List, [], ◌∷◌, Option}
use Rattle.std.specs.Prelude.{⊤}
use Rattle.c_tree.specs.declared.expressions.BinaryOp.{BinaryOp}
use Rattle.c_tree.specs.declared.expressions.UnaryOp.{UnaryOp}
use Rattle.c_tree.specs.declared.expressions.UnaryOp.TheVariants as unary
use Rattle.c_tree.specs.declared.layout.Slot.{Slot}
use Rattle.sp_tree.specs.Plain.{PlainSp, constant, frame_word, between_two}
use Rattle.sp_tree.specs.Uses.{Use, reads_cell, reads_array, writes_cell, writes_array}
use Rattle.c_meaning.specs.Resolve.{operator_of, is_exchanged, resolved_between, resolved_sign, resolved_signs, slot_cell, slot_array, is_fresh, resolved_variable, resolved_element, variable_target, element_target}
use Rattle.c_meaning.specs.Scope.{Stands, level, outside}
use Rattle.c_meaning.specs.Scope as scope
use Rattle.single_path.proofs.Acts.{Gives}
use Rattle.single_path.proofs.Doing.{ExprDoes, TargetDoes}

-- ---- names

-- what a name stands for has a property where it is a slot outside functions
abbrev pub Outside : (Slot → Type 0) → Stands → Type 0
Outside Q (level at unsigned) = ⊤
Outside Q (outside slot) = Q slot
Outside Q scope.nothing = ⊤

-- a slot may be read, or set, as a variable or as an array
abbrev pub CellRead : (Use → Type 0) → Slot → Type 0
CellRead P s = P (reads_cell (slot_cell s))

abbrev pub ArrayRead : (Use → Type 0) → Slot → Type 0
ArrayRead P s = P (reads_array (slot_array s))

abbrev pub CellWritten : (Use → Type 0) → Slot → Type 0
CellWritten P s = P (writes_cell (slot_cell s))

abbrev pub ArrayWritten : (Use → Type 0) → Slot → Type 0
ArrayWritten P s = P (writes_array (slot_array s))

pub variable_does : (P : Use → Type 0) (fresh : Option ℕ) (stands : Stands) → Outside (CellRead P) stands
    → ExprDoes P (resolved_variable fresh stands)
variable_does P fresh (level at unsigned) may = by (is_fresh fresh at)
  where
    by : (known : Bool) → ExprDoes P (if known then constant 0 else frame_word at)
    by true = tt
    by false = tt
variable_does P fresh (outside slot) may = may
variable_does P fresh scope.nothing may = tt

pub element_does : (P : Use → Type 0) (stands : Stands) (index : PlainSp) → Outside (ArrayRead P) stands
    → ExprDoes P index
    → ExprDoes P (resolved_element stands index)
element_does P (level at unsigned) index may does = tt
element_does P (outside slot) index may does = (may, does)
element_does P scope.nothing index may does = tt

pub variable_target_does : (P : Use → Type 0) (stands : Stands) → Outside (CellWritten P) stands
    → Gives (TargetDoes P) (variable_target stands)
variable_target_does P (level at unsigned) may = tt
variable_target_does P (outside slot) may = may
variable_target_does P scope.nothing may = tt

pub element_target_does : (P : Use → Type 0) (stands : Stands) (index : PlainSp) → Outside (ArrayWritten P) stands
    → ExprDoes P index
    → Gives (TargetDoes P) (element_target stands index)
element_target_does P (level at unsigned) index may does = tt
element_target_does P (outside slot) index may does = (may, does)
element_target_does P scope.nothing index may does = tt

-- ---- operators

pub between_does : (P : Use → Type 0) (op : BinaryOp) (u : Bool) (a b : PlainSp) → ExprDoes P a → ExprDoes P b
    → ExprDoes P (resolved_between op u a b)
between_does P op u a b left right = by (is_exchanged op)
  where
    by : (exchanged : Bool) → ExprDoes P (if exchanged then between_two (operator_of op u) b a else between_two
        (operator_of op u) a b)
    by true = (right, left)
    by false = (left, right)

sign_does : (P : Use → Type 0) (op : UnaryOp) (e : PlainSp) → ExprDoes P e → ExprDoes P (resolved_sign op e)
sign_does P unary.Minus e does = does
sign_does P _ e does = does

pub signs_do : (P : Use → Type 0) (ops : List UnaryOp) (e : PlainSp) → ExprDoes P e → ExprDoes P (resolved_signs ops e)
signs_do P [] e does = does
signs_do P (op ∷ ops) e does = sign_does P op (resolved_signs ops e) (signs_do P ops e does)

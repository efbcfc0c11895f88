-- Resolved expressions, arguments and targets name no words of a frame but those of the variables that are open.
use Rattle.std.proofs.Common.{ℕ, ◌+◌, ◌<◌, ◌≤◌, Bool, true, false, if◌then◌else◌, List, [], ◌∷◌, length, Option, None, Some, bytes_eq, arith}
use Rattle.std.specs.Prelude.{max, IfSome}
use Rattle.c_tree.specs.declared.expressions.BinaryOp.{BinaryOp}
use Rattle.c_tree.specs.declared.expressions.UnaryOp.{UnaryOp}
use Rattle.c_tree.specs.declared.expressions.UnaryOp.TheVariants as unary
use Rattle.c_tree.specs.declared.layout.Slot.{Slot}
use Rattle.c_tree.specs.Names.{Found}
use Rattle.c_tree.proofs.LastNamed.{last_within}
use Rattle.c_tree.specs.Plain.{PlainExpr, PlainSteps}
use Rattle.c_tree.specs.Plain as plain
use Rattle.sp_tree.specs.Plain.{PlainSp, constant, frame_word, between_two}
use Rattle.c_meaning.specs.Operators.{works_unsigned, gives_unsigned}
use Rattle.c_meaning.specs.Resolve.{operator_of, is_exchanged, resolved_between, resolved_sign, resolved_signs, is_fresh, resolved_variable, resolved_element, resolved, resolved_steps, resolved_args, variable_target, element_target}
use Rattle.c_meaning.specs.Scope.{Variable, Stands, level, outside, among_variables, among_slots}
use Rattle.c_meaning.specs.Scope as scope
use Rattle.c_meaning.specs.Values.{Names, named, expr_unsigned}
use Rattle.single_path.specs.Widths.{expr_words, args_words, result_words}

-- ---- names: the levels of variables are below their number

abbrev level_words : Stands → ℕ
level_words (level at unsigned) = at + 1
level_words (outside slot) = 0
level_words scope.nothing = 0

slots_words : (name : List ℕ) (slots : List Slot) → level_words (among_slots name slots) ≤ 0
slots_words name [] = omega arith
slots_words name (s ∷ slots) = by (bytes_eq s.name name) (slots_words name slots)
  where
    by : (here : Bool) → level_words (among_slots name slots) ≤ 0
        → level_words (if here then outside s else among_slots name slots) ≤ 0
    by true within = omega arith
    by false within = within

named_words : (names : Names) (text : List ℕ) → level_words (named names text) ≤ length names.variables
named_words names text = by (among_variables text names.variables) (last_within (λ v. v.name) 0 text names.variables)
  where
    by : (found : Option (Found Variable)) → IfSome found (λ v. (0 ≤ v.at) × (v.at < 0 + length names.variables))
        → level_words (elim found as (λ _. Stands) [
          | Some v ↦ level v.at v.is.unsigned
          | None ↦ among_slots text
              names.slots
        ]) ≤ length names.variables
    by None within = omega (arith, slots_words text names.slots)
    by (Some v) within = omega (arith, within.1)

-- ---- expressions and arguments

between_words : (op : BinaryOp) (u : Bool) (a b : PlainSp) → expr_words (resolved_between op u a b)
    ≤ max (expr_words a) (expr_words b)
between_words op u a b = by (is_exchanged op)
  where
    by : (exchanged : Bool) → expr_words (if exchanged then between_two (operator_of op u) b a else between_two
        (operator_of op u) a b)
        ≤ max (expr_words a) (expr_words b)
    by true = omega arith
    by false = omega arith

sign_words : (op : UnaryOp) (e : PlainSp) → expr_words (resolved_sign op e) ≤ expr_words e
sign_words unary.Minus e = omega arith
sign_words _ e = omega arith

signs_words : (ops : List UnaryOp) (e : PlainSp) → expr_words (resolved_signs ops e) ≤ expr_words e
signs_words [] e = omega arith
signs_words (op ∷ ops) e = let rest = signs_words ops e in omega (arith, rest, sign_words op (resolved_signs ops e))

variable_words : (fresh : Option ℕ) (stands : Stands) → expr_words (resolved_variable fresh stands) ≤ level_words stands
variable_words fresh (level at unsigned) = by (is_fresh fresh at)
  where
    by : (known : Bool) → expr_words (if known then constant 0 else frame_word at) ≤ at + 1
    by true = omega arith
    by false = omega arith
variable_words fresh (outside slot) = omega arith
variable_words fresh scope.nothing = omega arith

element_words : (stands : Stands) (index : PlainSp) → expr_words (resolved_element stands index) ≤ expr_words index
element_words (level at unsigned) index = omega arith
element_words (outside slot) index = omega arith
element_words scope.nothing index = omega arith

mutual
  pub resolved_words : (names : Names) (fresh : Option ℕ) (e : PlainExpr) → expr_words (resolved names fresh e)
      ≤ length names.variables
  resolved_words names fresh (plain.chain at first rest) =
      steps_words names fresh (expr_unsigned names first) (resolved names fresh first) rest
      (resolved_words names fresh first)
  resolved_words names fresh (plain.unary ops of) =
      let inner = resolved_words names fresh of in omega (arith, inner, signs_words ops (resolved names fresh of))
  resolved_words names fresh (plain.number n unsigned) = omega arith
  resolved_words names fresh (plain.name text) =
      omega (arith, variable_words fresh (named names text), named_words names text)
  resolved_words names fresh (plain.element text index) =
      let inner = resolved_words names fresh index in omega (
        arith,
        inner,
        element_words (named names text)
            (resolved names fresh index),
      )
  resolved_words names fresh (plain.paren of) = resolved_words names fresh of

  steps_words : (names : Names) (fresh : Option ℕ) (u : Bool) (a : PlainSp) (steps : PlainSteps) → expr_words a
      ≤ length names.variables
      → expr_words (resolved_steps names fresh u a steps) ≤ length names.variables
  steps_words names fresh u a plain.no_step within = within
  steps_words names fresh u a (plain.step op operand rest) within =
      let v = works_unsigned op u (expr_unsigned names operand) in
      let b = resolved names fresh operand in
      let inner = resolved_words names fresh operand in
      steps_words names fresh (gives_unsigned op u (expr_unsigned names operand)) (resolved_between op v a b) rest
      (omega (arith, within, inner, between_words op v a b))

pub resolved_args_words : (names : Names) (fresh : Option ℕ) (args : List PlainExpr)
    → args_words (resolved_args names fresh args) ≤ length names.variables
resolved_args_words names fresh [] = omega arith
resolved_args_words names fresh (e ∷ args) =
    let rest = resolved_args_words names fresh args in omega (arith, rest, resolved_words names fresh e)

-- ---- what is set

pub variable_target_words : (names : Names) (text : List ℕ) → result_words (variable_target (named names text))
    ≤ length names.variables
variable_target_words names text = by (named names text) (named_words names text)
  where
    by : (stands : Stands) → level_words stands ≤ length names.variables → result_words (variable_target stands)
        ≤ length names.variables
    by (level at unsigned) within = within
    by (outside slot) within = omega arith
    by scope.nothing within = omega arith

pub element_target_words : (stands : Stands) (index : PlainSp) → result_words (element_target stands index)
    ≤ expr_words index
element_target_words (level at unsigned) index = omega arith
element_target_words (outside slot) index = omega arith
element_target_words scope.nothing index = omega arith

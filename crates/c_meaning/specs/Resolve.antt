-- To be believed. Names resolved once: from the plain tree of a program to its actions.
use Rattle.std.specs.Prelude.{ℕ, ◌==◌, Bool, true, false, if◌then◌else◌, List, [], ◌∷◌, ◌++◌, length, map, Option, None, Some}
use Rattle.c_tree.specs.declared.expressions.BinaryOp.{BinaryOp}
use Rattle.c_tree.specs.declared.expressions.BinaryOp.TheVariants as binary
use Rattle.c_tree.specs.declared.expressions.UnaryOp.{UnaryOp}
use Rattle.c_tree.specs.declared.expressions.UnaryOp.TheVariants as unary
use Rattle.c_tree.specs.declared.layout.Slot.{Slot}
use Rattle.c_tree.specs.Names.{number_of}
use Rattle.c_tree.specs.Plain.{PlainExpr, PlainSteps, PlainRight, PlainHead, PlainStmt, PlainBlock, PlainArms, PlainOtherwise, PlainItem}
use Rattle.c_tree.specs.Plain as plain
use Rattle.c_world.specs.World.{World}
use Rattle.sp_tree.specs.Plain.{PlainSp, constant, frame_word, cell_word, array_word, before_one, between_two}
use Rattle.sp_tree.specs.declared.expressions.SpArray.{SpArray}
use Rattle.sp_tree.specs.declared.expressions.SpCell.{SpCell}
use Rattle.sp_tree.specs.declared.operators.SpBinary.{SpBinary}
use Rattle.sp_tree.specs.declared.operators.SpBinary.TheVariants as sp
use Rattle.sp_tree.specs.declared.operators.SpUnary.TheVariants as sp_unary
use Rattle.c_meaning.specs.Actions.{PlainTarget, to_level, to_cell, to_array, PlainAssignment, sets, calls, transfers, chooses, iterations, breaks, continues, returns, PlainActions, no_action, PlainBranches, no_branch, branch, one, joined}
use Rattle.c_meaning.specs.Meaning.{Outcome, Calls, with_variable, names_after, most_iterations, parameter_variables, with_level}
use Rattle.c_meaning.specs.Operators.{works_unsigned, gives_unsigned}
use Rattle.c_meaning.specs.Resolved.{Serves}
use Rattle.c_meaning.specs.Scope.{Stands, level, outside, nothing, slot_region, slot_word}
use Rattle.c_meaning.specs.Values.{State, Names, named, expr_unsigned}

-- ---- operators

-- the operator of a type, and whether its operands are exchanged: `a > b` is `b < a`
abbrev pub operator_of : BinaryOp → Bool → SpBinary
operator_of binary.Or u = sp.Or
operator_of binary.And u = sp.And
operator_of binary.BitOr u = sp.BitOr
operator_of binary.BitXor u = sp.BitXor
operator_of binary.BitAnd u = sp.BitAnd
operator_of binary.Equal u = sp.Equal
operator_of binary.NotEqual u = sp.NotEqual
operator_of binary.Less u = if u then sp.LessUnsigned else sp.Less
operator_of binary.Greater u = if u then sp.LessUnsigned else sp.Less
operator_of binary.LessEqual u = if u then sp.LessEqualUnsigned else sp.LessEqual
operator_of binary.GreaterEqual u = if u then sp.LessEqualUnsigned else sp.LessEqual
operator_of binary.ShiftLeft u = sp.ShiftLeft
operator_of binary.ShiftRight u = if u then sp.ShiftRightUnsigned else sp.ShiftRight
operator_of binary.Plus u = sp.Plus
operator_of binary.Minus u = sp.Minus
operator_of binary.Times u = sp.Times
operator_of binary.Divide u = if u then sp.DivideUnsigned else sp.Divide
operator_of binary.Remainder u = if u then sp.RemainderUnsigned else sp.Remainder

abbrev pub is_exchanged : BinaryOp → Bool
is_exchanged binary.Greater = true
is_exchanged binary.GreaterEqual = true
is_exchanged _ = false

abbrev pub resolved_between : BinaryOp → Bool → PlainSp → PlainSp → PlainSp
resolved_between op u a b =
    if is_exchanged op then between_two (operator_of op u) b a else between_two (operator_of op u) a b

-- `+` changes nothing
abbrev pub resolved_sign : UnaryOp → PlainSp → PlainSp
resolved_sign unary.Minus e = before_one sp_unary.Minus e
resolved_sign unary.Complement e = before_one sp_unary.Complement e
resolved_sign unary.Not e = before_one sp_unary.Not e
resolved_sign unary.Plus e = e

abbrev pub resolved_signs : List UnaryOp → PlainSp → PlainSp
resolved_signs [] e = e
resolved_signs (op ∷ ops) e = resolved_sign op (resolved_signs ops e)

-- ---- names

abbrev pub slot_cell : Slot → SpCell
slot_cell s = record { region = slot_region s; word = slot_word s }

abbrev pub slot_array : Slot → SpArray
slot_array s = record { region = slot_region s; first = slot_word s; length = s.length }

-- the variable of a level may be known to be 0: the one that is declared, in its own first value
abbrev pub is_fresh : Option ℕ → ℕ → Bool
is_fresh None at = false
is_fresh (Some k) at = k == at

abbrev pub resolved_variable : Option ℕ → Stands → PlainSp
resolved_variable fresh (level at unsigned) = if is_fresh fresh at then constant 0 else frame_word at
resolved_variable fresh (outside slot) = cell_word (slot_cell slot)
resolved_variable fresh nothing = constant 0

abbrev pub resolved_element : Stands → PlainSp → PlainSp
resolved_element (level at unsigned) index = constant 0
resolved_element (outside slot) index = array_word (slot_array slot) index
resolved_element nothing index = constant 0

-- ---- expressions

abbrev mutual
  pub resolved : Names → Option ℕ → PlainExpr → PlainSp
  resolved names fresh (plain.chain at first rest) =
      resolved_steps names fresh (expr_unsigned names first) (resolved names fresh first) rest
  resolved names fresh (plain.unary ops of) = resolved_signs ops (resolved names fresh of)
  resolved names fresh (plain.number n unsigned) = constant n
  resolved names fresh (plain.name text) = resolved_variable fresh (named names text)
  resolved names fresh (plain.element text index) = resolved_element (named names text) (resolved names fresh index)
  resolved names fresh (plain.paren of) = resolved names fresh of

  pub resolved_steps : Names → Option ℕ → Bool → PlainSp → PlainSteps → PlainSp
  resolved_steps names fresh u a plain.no_step = a
  resolved_steps names fresh u a (plain.step op operand rest) =
      resolved_steps names fresh (gives_unsigned op u (expr_unsigned names operand))
      (resolved_between op (works_unsigned op u (expr_unsigned names operand)) a (resolved names fresh operand)) rest

abbrev pub resolved_args : Names → Option ℕ → List PlainExpr → List PlainSp
resolved_args names fresh args = map (resolved names fresh) args

-- ---- what is set

abbrev pub variable_target : Stands → Option PlainTarget
variable_target (level at unsigned) = Some (to_level at)
variable_target (outside slot) = Some (to_cell (slot_cell slot))
variable_target nothing = None

abbrev pub element_target : Stands → PlainSp → Option PlainTarget
element_target (level at unsigned) index = None
element_target (outside slot) index = Some (to_array (slot_array slot) index)
element_target nothing index = None

abbrev pub assignment_to : Option PlainTarget → PlainSp → Option PlainAssignment
assignment_to None e = None
assignment_to (Some t) e = Some (record { target = t; value = e })

abbrev pub maybe_sets : Option PlainAssignment → PlainActions
maybe_sets None = no_action
maybe_sets (Some a) = one (sets a)

-- ---- calls

-- no function gives 0
abbrev pub numbered_call : Option ℕ → List PlainSp → Option PlainTarget → PlainActions
numbered_call None args result = maybe_sets (assignment_to result (constant 0))
numbered_call (Some k) args result = one (calls k args result)

abbrev pub resolved_right : List (List ℕ) → Names → Option ℕ → Option PlainTarget → PlainRight → PlainActions
resolved_right fs names fresh result (plain.value e) = maybe_sets (assignment_to result (resolved names fresh e))
resolved_right fs names fresh result (plain.call text args) =
    numbered_call (number_of text fs) (resolved_args names fresh args) result

-- ---- choices

-- what is chosen under no condition is what stands after `else`
abbrev pub choice : PlainBranches → PlainActions → PlainActions
choice no_branch otherwise = otherwise
choice (branch condition body rest) otherwise = one (chooses (branch condition body rest) otherwise)

-- ---- statements

abbrev pub resolved_declaration : List (List ℕ) → Names → ℕ → Option PlainRight → PlainActions
resolved_declaration fs names at None = one (sets (record { target = to_level at; value = constant 0 }))
resolved_declaration fs names at (Some r) = resolved_right fs names (Some at) (Some (to_level at)) r

abbrev pub resolved_assignment : Names → List ℕ → PlainExpr → Option PlainAssignment
resolved_assignment names text e = assignment_to (variable_target (named names text)) (resolved names None e)

abbrev pub resolved_condition : Names → PlainHead → PlainSp
resolved_condition names (plain.iterations_while condition) = resolved names None condition
resolved_condition names (plain.iterations_for first from condition to_set to) = resolved names None condition

abbrev pub resolved_begin : Names → PlainHead → Option PlainAssignment
resolved_begin names (plain.iterations_while condition) = None
resolved_begin names (plain.iterations_for first from condition to_set to) = resolved_assignment names first from

abbrev pub resolved_next : Names → PlainHead → Option PlainAssignment
resolved_next names (plain.iterations_while condition) = None
resolved_next names (plain.iterations_for first from condition to_set to) = resolved_assignment names to_set to

abbrev pub resolved_return : Names → Option PlainExpr → PlainSp
resolved_return names None = constant 0
resolved_return names (Some e) = resolved names None e

abbrev mutual
  pub resolved_stmt : List (List ℕ) → Names → PlainStmt → PlainActions
  resolved_stmt fs names (plain.declared kind text r) =
      resolved_declaration fs (with_variable names kind text) (length names.variables) r
  resolved_stmt fs names (plain.set text r) = resolved_right fs names None (variable_target (named names text)) r
  resolved_stmt fs names (plain.set_element text index r) =
      resolved_right fs names None (element_target (named names text) (resolved names None index)) r
  resolved_stmt fs names (plain.called text args) =
      numbered_call (number_of text fs) (resolved_args names None args) None
  resolved_stmt fs names (plain.sent core core_unsigned source target count) =
      one (transfers core (resolved names None source) (resolved names None target) (resolved names None count))
  resolved_stmt fs names (plain.chosen arms otherwise) =
      choice (resolved_arms fs names arms) (resolved_otherwise fs names otherwise)
  resolved_stmt fs names (plain.looped bound head body) =
      joined (maybe_sets (resolved_begin names head))
      (one (iterations (most_iterations bound) (resolved_condition names head) (resolved_block fs names body)
      (resolved_next names head)))
  resolved_stmt fs names plain.broken = one breaks
  resolved_stmt fs names plain.continued = one continues
  resolved_stmt fs names (plain.returned e) = one (returns (resolved_return names e))
  resolved_stmt fs names (plain.inner body) = resolved_block fs names body

  pub resolved_block : List (List ℕ) → Names → PlainBlock → PlainActions
  resolved_block fs names plain.no_stmt = no_action
  resolved_block fs names (plain.stmt s rest) =
      joined (resolved_stmt fs names s) (resolved_block fs (names_after names s) rest)

  pub resolved_arms : List (List ℕ) → Names → PlainArms → PlainBranches
  resolved_arms fs names plain.no_arm = no_branch
  resolved_arms fs names (plain.arm condition body rest) =
      branch (resolved names None condition) (resolved_block fs names body) (resolved_arms fs names rest)

  pub resolved_otherwise : List (List ℕ) → Names → PlainOtherwise → PlainActions
  resolved_otherwise fs names plain.no_else = no_action
  resolved_otherwise fs names (plain.or_else body) = resolved_block fs names body

-- the statements of a function's block
abbrev pub resolved_body : List (List ℕ) → Names → List PlainStmt → PlainActions
resolved_body fs names [] = no_action
resolved_body fs names (s ∷ rest) = joined (resolved_stmt fs names s) (resolved_body fs (names_after names s) rest)

-- ---- programs

abbrev pub names_in : List PlainItem → List (List ℕ)
names_in [] = []
names_in (plain.global of ∷ items) = names_in items
names_in (plain.function kind its_name void_word parameters body ∷ items) = its_name ∷ names_in items

-- how many parameters each function has
abbrev pub parameters_in : List PlainItem → List ℕ
parameters_in [] = []
parameters_in (plain.global of ∷ items) = parameters_in items
parameters_in (plain.function kind its_name void_word parameters body ∷ items) = length parameters ∷ parameters_in items

-- the functions in order, where these stand before them
abbrev pub resolved_items : List Slot → List (List ℕ) → List PlainItem → List PlainActions
resolved_items slots fs [] = []
resolved_items slots fs (plain.global of ∷ items) = resolved_items slots fs items
resolved_items slots fs (plain.function kind its_name void_word parameters body ∷ items) =
    resolved_body fs (record { slots = slots; variables = parameter_variables parameters }) body
    ∷ resolved_items slots (fs ++ its_name ∷ []) items

-- ---- what resolved names are to mean

-- calls by name, from calls by number
abbrev pub numbered : Serves → Option ℕ → List ℕ → World → Outcome
numbered g None args world = record { value = 0; world = world }
numbered g (Some k) args world = g k args world

abbrev pub calls_by : List (List ℕ) → Serves → Calls
calls_by fs g text args world = numbered g (number_of text fs) args world

-- where the variable of a level is 0
abbrev pub fresh_at : Option ℕ → State → State
fresh_at None s = s
fresh_at (Some at) s = with_level at 0 s

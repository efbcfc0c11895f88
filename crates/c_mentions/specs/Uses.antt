-- To be believed. What the text of a C program uses, in the order of the text, whether or not it runs: what each of its
-- names of variables and arrays stands for where it is written (C99 6.2.1), and the cores that words are sent to.
use Rattle.std.specs.Prelude.{ℕ, List, [], ◌∷◌, ◌++◌, Option, None, Some}
use Rattle.c_tree.specs.declared.layout.Slot.{Slot}
use Rattle.c_tree.specs.Layout.{layout_of}
use Rattle.c_tree.specs.Plain.{PlainExpr, PlainSteps, PlainRight, PlainHead, PlainStmt, PlainBlock, PlainArms, PlainOtherwise, PlainItem}
use Rattle.c_tree.specs.Plain as plain
use Rattle.c_meaning.specs.Meaning.{with_variable, names_after, parameter_variables}
use Rattle.c_meaning.specs.Scope.{Stands}
use Rattle.c_meaning.specs.Values.{Names, named}

-- what a name stands for is read, or it is set (an array: one of its elements); or words are sent to a core
pub data Use : Type 0 where
  reads : Stands → Use
  sets : Stands → Use
  sends : ℕ → Use

-- ---- expressions

abbrev mutual
  pub expr_uses : Names → PlainExpr → List Use
  expr_uses names (plain.chain at first rest) = expr_uses names first ++ steps_uses names rest
  expr_uses names (plain.unary ops of) = expr_uses names of
  expr_uses names (plain.number n unsigned) = []
  expr_uses names (plain.name text) = reads (named names text) ∷ []
  expr_uses names (plain.element text index) = reads (named names text) ∷ expr_uses names index
  expr_uses names (plain.paren of) = expr_uses names of

  pub steps_uses : Names → PlainSteps → List Use
  steps_uses names plain.no_step = []
  steps_uses names (plain.step op operand rest) = expr_uses names operand ++ steps_uses names rest

abbrev pub args_uses : Names → List PlainExpr → List Use
args_uses names [] = []
args_uses names (e ∷ args) = expr_uses names e ++ args_uses names args

-- the name of a function is no variable's
abbrev pub right_uses : Names → PlainRight → List Use
right_uses names (plain.value e) = expr_uses names e
right_uses names (plain.call text args) = args_uses names args

-- ---- statements

abbrev pub first_uses : Names → Option PlainRight → List Use
first_uses names None = []
first_uses names (Some r) = right_uses names r

abbrev pub returned_uses : Names → Option PlainExpr → List Use
returned_uses names None = []
returned_uses names (Some e) = expr_uses names e

abbrev pub head_uses : Names → PlainHead → List Use
head_uses names (plain.iterations_while condition) = expr_uses names condition
head_uses names (plain.iterations_for first from condition to_set to) =
    sets (named names first) ∷ (expr_uses names from
    ++ (expr_uses names condition ++ sets (named names to_set) ∷ expr_uses names to))

-- a variable that is declared stands in its own first value; a block closes its names
abbrev mutual
  pub stmt_uses : Names → PlainStmt → List Use
  stmt_uses names (plain.declared kind text r) = first_uses (with_variable names kind text) r
  stmt_uses names (plain.set text r) = sets (named names text) ∷ right_uses names r
  stmt_uses names (plain.set_element text index r) =
      sets (named names text) ∷ (expr_uses names index ++ right_uses names r)
  stmt_uses names (plain.called text args) = args_uses names args
  stmt_uses names (plain.sent core core_unsigned source target count) =
      sends core ∷ (expr_uses names source ++ (expr_uses names target ++ expr_uses names count))
  stmt_uses names (plain.chosen arms otherwise) = arms_uses names arms ++ otherwise_uses names otherwise
  stmt_uses names (plain.looped bound head body) = head_uses names head ++ block_uses names body
  stmt_uses names plain.broken = []
  stmt_uses names plain.continued = []
  stmt_uses names (plain.returned e) = returned_uses names e
  stmt_uses names (plain.inner body) = block_uses names body

  pub block_uses : Names → PlainBlock → List Use
  block_uses names plain.no_stmt = []
  block_uses names (plain.stmt s rest) = stmt_uses names s ++ block_uses (names_after names s) rest

  pub arms_uses : Names → PlainArms → List Use
  arms_uses names plain.no_arm = []
  arms_uses names (plain.arm condition body rest) =
      expr_uses names condition ++ (block_uses names body ++ arms_uses names rest)

  pub otherwise_uses : Names → PlainOtherwise → List Use
  otherwise_uses names plain.no_else = []
  otherwise_uses names (plain.or_else body) = block_uses names body

-- the statements of a function's block
abbrev pub body_uses : Names → List PlainStmt → List Use
body_uses names [] = []
body_uses names (s ∷ rest) = stmt_uses names s ++ body_uses (names_after names s) rest

-- ---- programs

-- a function's parameters are its first variables
abbrev pub item_uses : List Slot → PlainItem → List Use
item_uses slots (plain.global of) = []
item_uses slots (plain.function kind its_name void_word parameters body) =
    body_uses (record { slots = slots; variables = parameter_variables parameters }) body

abbrev pub items_uses : List Slot → List PlainItem → List Use
items_uses slots [] = []
items_uses slots (i ∷ items) = item_uses slots i ++ items_uses slots items

abbrev pub program_uses : List PlainItem → List Use
program_uses items = items_uses (layout_of items) items

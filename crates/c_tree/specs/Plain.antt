-- To be believed. A tree without the places of its boxes in memory: all that is written, and no more.
use Rattle.std.specs.Prelude.{ℕ, Bool, List, map, Option, option_map}
use Rattle.c_tree.specs.declared.expressions.UnaryOp.{UnaryOp}
use Rattle.c_tree.specs.declared.expressions.BinaryOp.{BinaryOp}
use Rattle.c_tree.specs.declared.expressions.Expr.{Expr, Chain', Unary', Element', Paren', Number, Name}
use Rattle.c_tree.specs.declared.expressions.Expr.TheBlock.{Row_of-Step, end_of-Step, more_of-Step}
use Rattle.c_tree.specs.declared.statements.Kind.{Kind}
use Rattle.c_tree.specs.declared.statements.Bound.{Bound}
use Rattle.c_tree.specs.declared.statements.Head.{Head}
use Rattle.c_tree.specs.declared.statements.Head.TheVariants as head
use Rattle.c_tree.specs.declared.statements.Right.{Right}
use Rattle.c_tree.specs.declared.statements.Right.TheVariants as right
use Rattle.c_tree.specs.declared.statements.Stmt.{Stmt, Declare, Set, SetElement, Call, Send, If', Loop', Break, Continue, Return, Inner'}
use Rattle.c_tree.specs.declared.statements.Stmt.TheBlock.{Held-Stmt-If-1, None', Some', Row_of-Stmt, end_of-Stmt, more_of-Stmt, Row_of-Arm, end_of-Arm, more_of-Arm}
use Rattle.c_tree.specs.declared.units.Global.{Global}
use Rattle.c_tree.specs.declared.units.Parameter.{Parameter}
use Rattle.c_tree.specs.declared.units.Item.{Item}
use Rattle.c_tree.specs.declared.units.Item.TheVariants as item
use Rattle.c_tree.specs.declared.units.Unit.{Unit as Program}

-- ---- expressions

mutual
  pub data PlainExpr : Type 0 where
    chain : ℕ → PlainExpr → PlainSteps → PlainExpr
    unary : List UnaryOp → PlainExpr → PlainExpr
    number : ℕ → Bool → PlainExpr
    name : List ℕ → PlainExpr
    element : List ℕ → PlainExpr → PlainExpr
    paren : PlainExpr → PlainExpr

  pub data PlainSteps : Type 0 where
    no_step : PlainSteps
    step : BinaryOp → PlainExpr → PlainSteps → PlainSteps

unfoldable mutual
  pub plain_expr : Expr → PlainExpr
  plain_expr (Chain' level p first l rest) = chain level (plain_expr first) (plain_steps rest)
  plain_expr (Unary' ops p of) = unary ops (plain_expr of)
  plain_expr (Number value unsigned) = number value unsigned
  plain_expr (Name text) = name text
  plain_expr (Element' text p index) = element text (plain_expr index)
  plain_expr (Paren' p inner) = paren (plain_expr inner)

  pub plain_steps : {n : _} → Row_of-Step n → PlainSteps
  plain_steps end_of-Step = no_step
  plain_steps (more_of-Step op operand rest) = step op (plain_expr operand) (plain_steps rest)

-- ---- statements

pub data PlainRight : Type 0 where
  value : PlainExpr → PlainRight
  call : List ℕ → List PlainExpr → PlainRight

abbrev pub plain_right : Right → PlainRight
plain_right r = elim r [
  | right.Value of ↦ value (plain_expr of)
  | right.Call text args ↦ call text (map plain_expr args)
]

pub data PlainHead : Type 0 where
  iterations_while : PlainExpr → PlainHead
  iterations_for : List ℕ → PlainExpr → PlainExpr → List ℕ → PlainExpr → PlainHead

abbrev pub plain_head : Head → PlainHead
plain_head h = elim h [
  | head.While condition ↦ iterations_while (plain_expr condition)
  | head.For first from condition to_set to ↦ iterations_for first (plain_expr from) (plain_expr condition) to_set
      (plain_expr to)
]

mutual
  pub data PlainStmt : Type 0 where
    declared : Kind → List ℕ → Option PlainRight → PlainStmt
    set : List ℕ → PlainRight → PlainStmt
    set_element : List ℕ → PlainExpr → PlainRight → PlainStmt
    called : List ℕ → List PlainExpr → PlainStmt
    sent : ℕ → Bool → PlainExpr → PlainExpr → PlainExpr → PlainStmt
    chosen : PlainArms → PlainOtherwise → PlainStmt
    looped : Option Bound → PlainHead → PlainBlock → PlainStmt
    broken : PlainStmt
    continued : PlainStmt
    returned : Option PlainExpr → PlainStmt
    inner : PlainBlock → PlainStmt

  pub data PlainBlock : Type 0 where
    no_stmt : PlainBlock
    stmt : PlainStmt → PlainBlock → PlainBlock

  pub data PlainArms : Type 0 where
    no_arm : PlainArms
    arm : PlainExpr → PlainBlock → PlainArms → PlainArms

  pub data PlainOtherwise : Type 0 where
    no_else : PlainOtherwise
    or_else : PlainBlock → PlainOtherwise

unfoldable mutual
  pub plain_stmt : Stmt → PlainStmt
  plain_stmt (Declare kind text r) = declared kind text (option_map plain_right r)
  plain_stmt (Set text r) = set text (plain_right r)
  plain_stmt (SetElement text index r) = set_element text (plain_expr index) (plain_right r)
  plain_stmt (Call text args) = called text (map plain_expr args)
  plain_stmt (Send core core_unsigned source target count) =
      sent core core_unsigned (plain_expr source) (plain_expr target) (plain_expr count)
  plain_stmt (If' l arms otherwise) = chosen (plain_arms arms) (plain_otherwise otherwise)
  plain_stmt (Loop' bound h l body) = looped bound (plain_head h) (plain_block body)
  plain_stmt Break = broken
  plain_stmt Continue = continued
  plain_stmt (Return given) = returned (option_map plain_expr given)
  plain_stmt (Inner' l body) = inner (plain_block body)

  pub plain_block : {n : _} → Row_of-Stmt n → PlainBlock
  plain_block end_of-Stmt = no_stmt
  plain_block (more_of-Stmt s rest) = stmt (plain_stmt s) (plain_block rest)

  pub plain_arms : {n : _} → Row_of-Arm n → PlainArms
  plain_arms end_of-Arm = no_arm
  plain_arms (more_of-Arm condition l body rest) = arm (plain_expr condition) (plain_block body) (plain_arms rest)

  pub plain_otherwise : Held-Stmt-If-1 → PlainOtherwise
  plain_otherwise None' = no_else
  plain_otherwise (Some' l body) = or_else (plain_block body)

-- ---- units

pub data PlainItem : Type 0 where
  global : Global → PlainItem
  function : Option Kind → List ℕ → Bool → List Parameter → List PlainStmt → PlainItem

abbrev pub plain_item : Item → PlainItem
plain_item i = elim i [
  | item.Global of ↦ global of
  | item.Function f ↦ function f.kind f.name f.void_word f.parameters (map plain_stmt f.body)
]

abbrev pub plain : Program → List PlainItem
plain u = map plain_item u.items

-- For proofs. The plain trees of parts that hold lists, by these lists.
use Rattle.std.specs.Prelude.{List, [], ◌∷◌, Option, None, Some}
use Rattle.c_tree.specs.declared.expressions.Step.{Step}
use Rattle.c_tree.specs.declared.statements.Arm.{Arm}
use Rattle.c_tree.specs.declared.statements.Stmt.{Stmt}
use Rattle.c_tree.specs.Plain.{PlainSteps, no_step, step, plain_expr, PlainBlock, PlainArms, PlainOtherwise, no_stmt, stmt, no_arm, arm, no_else, or_else, plain_stmt}

-- ---- expressions

abbrev pub steps_of : List Step → PlainSteps
steps_of [] = no_step
steps_of (s ∷ steps) = step s.op (plain_expr s.operand) (steps_of steps)

-- ---- statements

abbrev pub block_of : List Stmt → PlainBlock
block_of [] = no_stmt
block_of (s ∷ body) = stmt (plain_stmt s) (block_of body)

abbrev pub arms_of : List Arm → PlainArms
arms_of [] = no_arm
arms_of (a ∷ arms) = arm (plain_expr a.condition) (block_of a.body) (arms_of arms)

abbrev pub otherwise_of : Option (List Stmt) → PlainOtherwise
otherwise_of None = no_else
otherwise_of (Some body) = or_else (block_of body)

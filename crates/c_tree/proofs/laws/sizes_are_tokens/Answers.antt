use Rattle.c_tree.proofs.Sizes.{size_of_expr, size_of_stmt, size_of_unit}
use Rattle.c_tree.proofs.laws.sizes_are_tokens.Goals as goal

pub returns-clause-expression : goal.returns-clause-expression
returns-clause-expression c = λ e. size_of_expr e

pub returns-clause-statement : goal.returns-clause-statement
returns-clause-statement c = λ s. size_of_stmt s

pub returns-clause-program : goal.returns-clause-program
returns-clause-program c = λ u. size_of_unit u

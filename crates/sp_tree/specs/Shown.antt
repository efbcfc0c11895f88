-- To be believed. What statements, functions and units say, without the places of their boxes in memory.
use Rattle.std.specs.Prelude.{List, [], ◌∷◌, map}
use Rattle.sp_tree.specs.Plain.{plain_sp}
use Rattle.sp_tree.specs.Statements.{PlainSpTarget, to_slot, to_cell, to_array, PlainStmt, masks, writes, calls, transfers, overruns, iterations, PlainStmts, no_stmt, stmt, PlainFunction, PlainUnit}
use Rattle.sp_tree.specs.declared.expressions.SpTarget.{SpTarget}
use Rattle.sp_tree.specs.declared.expressions.SpTarget.TheVariants as target
use Rattle.sp_tree.specs.declared.statements.SpStmt.{SpStmt, Mask, Write, Call, Send, Overrun, Iterations'}
use Rattle.sp_tree.specs.declared.statements.SpStmt.TheBlock.{Row_of-SpStmt, end_of-SpStmt, more_of-SpStmt}
use Rattle.sp_tree.specs.declared.statements.SpFunction.{SpFunction}
use Rattle.sp_tree.specs.declared.statements.SpUnit.{SpUnit}

abbrev pub plain_sp_target : SpTarget → PlainSpTarget
plain_sp_target (target.Frame slot) = to_slot slot
plain_sp_target (target.Scalar cell) = to_cell cell
plain_sp_target (target.Element array index) = to_array array (plain_sp index)

unfoldable mutual
  pub plain_stmt : SpStmt → PlainStmt
  plain_stmt (Mask slot e) = masks slot (plain_sp e)
  plain_stmt (Write mask at e) = writes mask (plain_sp_target at) (plain_sp e)
  plain_stmt (Call mask k args given) = calls mask k (map plain_sp args) given
  plain_stmt (Send mask core source aim count) = transfers mask core (plain_sp source) (plain_sp aim) (plain_sp count)
  plain_stmt (Overrun mask e) = overruns mask (plain_sp e)
  plain_stmt (Iterations' count l body) = iterations count (plain_row body)

  pub plain_row : {n : _} → Row_of-SpStmt n → PlainStmts
  plain_row end_of-SpStmt = no_stmt
  plain_row (more_of-SpStmt t rest) = stmt (plain_stmt t) (plain_row rest)

-- plain statements of a plain list
abbrev pub stmts_of : List SpStmt → PlainStmts
stmts_of [] = no_stmt
stmts_of (t ∷ rest) = stmt (plain_stmt t) (stmts_of rest)

abbrev pub plain_function : SpFunction → PlainFunction
plain_function f =
    record { frame = f.frame; parameters = f.parameters; mask = f.mask; result = f.result; body = stmts_of f.body }

abbrev pub functions_of : List SpFunction → List PlainFunction
functions_of functions = map plain_function functions

abbrev pub plain_unit : SpUnit → PlainUnit
plain_unit u = record {
  functions = functions_of u.functions;
  entry = u.entry;
  initial = u.initial;
  input_at = u.input_at;
  input_room = u.input_room;
}

-- Counts of statements: some iterations, and statements after others.
use Rattle.std.proofs.Common.{◌≡◌, ◌+◌, ◌≤◌, List, [], ◌∷◌, arith}
use Rattle.std.specs.Prelude.{max}
use Rattle.sp_tree.specs.Plain.{PlainSp, array_word, before_one, between_two}
use Rattle.sp_tree.specs.Statements.{PlainStmt, masks, writes, calls, transfers, overruns, iterations, PlainStmts, no_stmt, stmt, joined}
use Rattle.weight_bounds.specs.Trees.{expr_iterations, args_iterations, stmt_iterations, stmts_iterations, stmts_call_count}

pub some_expr : (e : PlainSp) → 1 ≤ expr_iterations e
some_expr (array_word array index) = some_expr index
some_expr (before_one op of) = some_expr of
some_expr (between_two op a b) = omega (arith, some_expr a)
some_expr _ = omega arith

pub some_args : (args : List PlainSp) → 1 ≤ args_iterations args
some_args [] = omega arith
some_args (e ∷ args) = omega (arith, some_args args)

pub some_stmt : (t : PlainStmt) → 1 ≤ stmt_iterations t
some_stmt (masks slot e) = some_expr e
some_stmt (writes mask target e) = omega (arith, some_expr e)
some_stmt (calls mask k args result) = some_args args
some_stmt (transfers mask core source target count) = omega (arith, some_expr source)
some_stmt (overruns mask e) = some_expr e
some_stmt (iterations count body) = omega arith

pub some_stmts : (ts : PlainStmts) → 1 ≤ stmts_iterations ts
some_stmts no_stmt = omega arith
some_stmts (stmt t rest) = omega (arith, some_stmts rest)

pub joined_iterations : (xs ys : PlainStmts) → stmts_iterations (joined xs ys)
    ≡ max (stmts_iterations xs) (stmts_iterations ys)
joined_iterations no_stmt ys = omega (arith, some_stmts ys)
joined_iterations (stmt t xs) ys = omega (arith, joined_iterations xs ys)

pub joined_calls : (xs ys : PlainStmts) → stmts_call_count (joined xs ys) ≡ stmts_call_count xs + stmts_call_count ys
joined_calls no_stmt ys = omega arith
joined_calls (stmt t xs) ys = omega (arith, joined_calls xs ys)

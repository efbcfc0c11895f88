-- To be believed. What calls: which statements do, and how many words of the stack the frames take, each of its own and
-- all on a chain of calls.
use Rattle.std.specs.Prelude.{ℕ, zero, suc, ◌+◌, ◌==◌, max, nat_le, Bool, true, false, ◌||◌, List, slice_index_or, if◌then◌else◌}
use Rattle.patmos_instr.specs.Bundles.{PlainBundle}
use Rattle.patmos_instr.specs.declared.functions.StackFunc.TheVariants.{Sres}
use Rattle.patmos_instr.specs.declared.instructions.Op.{Op}
use Rattle.patmos_instr.specs.declared.instructions.Op.TheVariants.{Stack}
use Rattle.sp_tree.specs.Statements.{PlainStmt, calls, iterations, PlainStmts, no_stmt, stmt, PlainFunction, no_function}

-- whether statements call a function
abbrev mutual
  pub stmt_calls : PlainStmt → Bool
  stmt_calls (calls mask k args result) = true
  stmt_calls (iterations count body) = stmts_call body
  stmt_calls _ = false

  pub stmts_call : PlainStmts → Bool
  stmts_call no_stmt = false
  stmts_call (stmt t rest) = stmt_calls t || stmts_call rest

-- a bundle of one instruction that takes no more words of the stack than so many
abbrev takes_op : ℕ → Op → Bool
takes_op most (Stack Sres count) = nat_le count most
takes_op most _ = true

abbrev pub takes_at_most : ℕ → PlainBundle → Bool
takes_at_most most b = takes_op most b.first.op

-- the most that the calls of statements take, over what functions take by their number
abbrev mutual
  pub stmt_chain : (ℕ → ℕ) → PlainStmt → ℕ
  stmt_chain g (calls mask k args result) = g k
  stmt_chain g (iterations count body) = stmts_chain g body
  stmt_chain g _ = 0

  pub stmts_chain : (ℕ → ℕ) → PlainStmts → ℕ
  stmts_chain g no_stmt = 0
  stmts_chain g (stmt t rest) = max (stmt_chain g t) (stmts_chain g rest)

-- functions in order, each over the earlier ones: the own frame, and what is called
abbrev pub chains : List PlainFunction → ℕ → ℕ → ℕ
chains fs zero k = 0
chains fs (suc n) k =
    if k == n then (slice_index_or fs n no_function).frame
    + stmts_chain (chains fs n) (slice_index_or fs n no_function).body else chains fs n k

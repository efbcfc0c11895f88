use Rattle.std.proofs.Common.{◌≡◌, ◌+◌, drop}
use Rattle.sp_shape.specs.Parts.{joined}
use Rattle.sp_shape.specs.Shown.{parts_of}
use Rattle.sp_tree.specs.Shown.{plain_stmt, stmts_of}
use Rattle.sp_tree.specs.Sizes.{stmt_size, stmts_size}
use Rattle.sp_emit.specs.Statements.{stmts_code}
use Rattle.sp_emit.proofs.statements.+statement.Given as goal

abbrev pub invariant-statements-loop-t : goal.invariant-statements-loop-t
invariant-statements-loop-t l =
    joined (parts_of l.out.items) (stmts_code l.homes l.frame l.counter (stmts_of (drop l.t-index l.body)))
    ≡ joined (parts_of l.initial.out.items) (stmts_code l.homes l.frame l.counter (stmts_of l.body))

abbrev pub decreases-statement : goal.decreases-statement
decreases-statement l = stmt_size (plain_stmt l.t.now)

abbrev pub decreases-iterations : goal.decreases-iterations
decreases-iterations l = 1 + stmts_size (stmts_of l.body.now)

abbrev pub decreases-statements : goal.decreases-statements
decreases-statements l = stmts_size (stmts_of l.body.now)

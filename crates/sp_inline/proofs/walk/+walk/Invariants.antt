use Rattle.std.proofs.Common.{◌≡◌, ◌≤◌, drop}
use Rattle.sp_tree.specs.Shown.{plain_stmt, stmts_of}
use Rattle.sp_tree.specs.Sizes.{stmt_size, stmts_size}
use Rattle.sp_inline.specs.Shown.{plain_caller}
use Rattle.sp_inline.specs.Taken.{stmts_taken, taken_after}
use Rattle.sp_inline.proofs.walk.+walk.Given as goal

abbrev pub invariant-take_statements-loop-t : goal.invariant-take_statements-loop-t
invariant-take_statements-loop-t l = record {
  so_far : taken_after (stmts_of l.out.items) (stmts_taken (plain_caller l.caller) l.depth l.left
      (stmts_of (drop l.t-index l.body)))
      ≡ taken_after (stmts_of l.initial.out.items) (stmts_taken (plain_caller l.caller) l.depth l.fn.room
      (stmts_of l.body));
  levels : l.fn.room.levels ≤ l.left.levels;
}

abbrev pub decreases-take_statement : goal.decreases-take_statement
decreases-take_statement l = stmt_size (plain_stmt l.t.now)

abbrev pub decreases-take_statements : goal.decreases-take_statements
decreases-take_statements l = stmts_size (stmts_of l.body.now)

use Rattle.std.proofs.Common.{◌≡◌, ◌+◌, ◌<◌, ◌^◌, drop}
use Rattle.sp_tree.specs.Cost.{stmts_cost}
use Rattle.sp_tree.specs.Shown.{plain_stmt, stmts_of}
use Rattle.sp_tree.specs.Sizes.{stmt_size, stmts_size}
use Rattle.sp_inline.specs.Capped.{capped}
use Rattle.sp_inline.proofs.costs.+cost.Given as goal

abbrev pub invariant-cost_of-loop-t : goal.invariant-cost_of-loop-t
invariant-cost_of-loop-t l = record {
  so_far : capped (l.total + stmts_cost (stmts_of (drop l.t-index l.body))) ≡ capped (stmts_cost (stmts_of l.body));
  fits : l.total < 2 ^ 64;
}

abbrev pub decreases-statement : goal.decreases-statement
decreases-statement l = stmt_size (plain_stmt l.t.now)

abbrev pub decreases-cost_of : goal.decreases-cost_of
decreases-cost_of l = stmts_size (stmts_of l.body.now)

use Rattle.std.proofs.Common.{◌≡◌, ◌+◌, ◌-◌, List, drop}
use Rattle.c_world.specs.Shown.{rooms}
use Rattle.c_world.specs.World.{Sending}
use Rattle.sp_tree.specs.Formed.{all_rooms}
use Rattle.sp_tree.specs.Ran.{state_of}
use Rattle.sp_tree.specs.Shown.{plain_stmt, stmts_of, functions_of}
use Rattle.sp_tree.specs.Sizes.{stmt_size, stmts_size, total}
use Rattle.sp_tree.specs.Straight.{stmts_done, times, serves}
use Rattle.sp_tree.proofs.Runs.{Reaches}
use Rattle.sp_tree.proofs.run.+run.Given as goal

abbrev pub invariant-all-loop-t : goal.invariant-all-loop-t
invariant-all-loop-t l = record {
  reaches : (sends : List Sending) → Reaches
      (stmts_done (serves (functions_of l.functions) l.known) (stmts_of l.stmts)
      (state_of l.initial.frame l.initial.memory sends))
      (stmts_done (serves (functions_of l.functions) l.known) (stmts_of (drop l.t-index l.stmts))) l.frame l.memory;
  rooms : rooms l.memory ≡ all_rooms;
}

abbrev pub invariant-iterations-loop-iterated : goal.invariant-iterations-loop-iterated
invariant-iterations-loop-iterated l = record {
  reaches : (sends : List Sending) → Reaches
      (times l.count (stmts_done (serves (functions_of l.functions) l.known) (stmts_of l.body))
      (state_of l.initial.frame l.initial.memory sends))
      (times (l.count - l.iterated) (stmts_done (serves (functions_of l.functions) l.known) (stmts_of l.body)))
      l.frame l.memory;
  rooms : rooms l.memory ≡ all_rooms;
}

abbrev pub decreases-act : goal.decreases-act
decreases-act l = total (functions_of l.functions.now) l.known + stmt_size (plain_stmt l.t.now)

abbrev pub decreases-all : goal.decreases-all
decreases-all l = total (functions_of l.functions.now) l.known + stmts_size (stmts_of l.stmts.now)

abbrev pub decreases-iterations : goal.decreases-iterations
decreases-iterations l = total (functions_of l.functions.now) l.known + 1 + stmts_size (stmts_of l.body.now)

abbrev pub decreases-called : goal.decreases-called
decreases-called l = total (functions_of l.functions.now) l.known + 1

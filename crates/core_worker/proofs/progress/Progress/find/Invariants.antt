use Rattle.std.proofs.Common.{◌≡◌, ◌+◌, ◌-◌, cond, None}
use Rattle.patmos_core.specs.Position.{waiting_of}
use Rattle.clock_board.specs.View.{own}
use Rattle.clock_board.specs.Board.{IsPassOf}
use Rattle.core_worker.specs.Runs.{GoesOnAs, with_published}
use Rattle.core_worker.specs.Kept.{IsKept}
use Rattle.core_worker.proofs.progress.Progress.find.Given as goal

abbrev pub invariant-loop-self : goal.invariant-loop-self
invariant-loop-self g l = record {
  of : IsPassOf l.board l.self.pass;
  kept : IsKept l.self.limit l.self.reached l.self.ended l.self.core l.self.pass.view;
  free : waiting_of l.self.core ≡ None;
  goes_on : GoesOnAs l.initial.self.limit l.initial.self.core l.initial.self.pass.view l.self.core l.self.pass.view;
  same : l.self.pass.view ≡ with_published l.initial.self.pass.view (own l.self.pass.view).published;
  limit : l.self.limit ≡ l.initial.self.limit;
}

abbrev pub decreases-loop-self : goal.decreases-loop-self
decreases-loop-self g l = cond l.self.ended 0 (1 + (l.self.limit - l.self.reached))

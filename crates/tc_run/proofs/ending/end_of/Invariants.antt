use Rattle.std.proofs.Common.{◌≡◌, ℕ, ◌<◌, ◌≤◌, length, vec_capacity, All, Any}
use Rattle.clock_board.specs.View.{back, IsMaker}
use Rattle.clock_board.specs.Board.{IsPassOf}
use Rattle.global_step.specs.PlainRun.{Every}
use Rattle.tc_run.specs.Final.{IsFinalCore}
use Rattle.tc_run.specs.Worked.{HasWorker, IsThroughWith, IsPast}
use Rattle.tc_run.proofs.ending.end_of.Given as goal

abbrev pub invariant-loop-core : goal.invariant-loop-core
invariant-loop-core l = record {
  of : IsPassOf l.board l.maker;
  maker : IsMaker l.maker.view;
  through : All (IsThroughWith l.machine l.board) l.workers.items;
  left : (k : ℕ) → l.core ≤ k → k < length l.machine.cores → HasWorker l.workers.items k;
  final : Every (IsFinalCore l.machine) l.cores.items;
  count : length l.cores.items ≡ l.core;
  room : length l.machine.cores ≤ vec_capacity l.cores;
  past : (k : ℕ) → k < l.core → Any (IsPast l.machine k) (back l.maker.view);
}

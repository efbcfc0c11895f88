use Rattle.std.proofs.Common.{ℕ, ◌+◌, ◌≤◌, drop, length}
use Rattle.sp_shape.specs.Shown.{functions_of}
use Rattle.cycle_bound.specs.Known.{AreHeld, Knows}
use Rattle.cycle_bound.specs.Nodes.{functions_nodes}
use Rattle.cycle_bound.proofs.functions.cycles_of_functions.Given as goal

abbrev pub invariant-loop-number : goal.invariant-loop-number
invariant-loop-number g l = record {
  known : (fill : ℕ → ℕ) → AreHeld fill (length l.functions) l.fills → Knows (functions_of l.functions) l.each fill
      (length l.functions) l.number l.known;
  steps : l.steps + functions_nodes (functions_of (drop l.number l.functions)) ≤ l.initial.steps
      + functions_nodes (functions_of l.functions);
  forward : l.initial.steps ≤ l.steps;
}

use Rattle.std.proofs.Common.{◌≡◌, ◌+◌, ◌≤◌, drop, length}
use Rattle.sp_shape.specs.Shown.{functions_of}
use Rattle.sp_tree.specs.declared.limits.TheConstants.{MOST_FUNCTIONS}
use Rattle.cycle_bound.specs.Bound.{fill_bound}
use Rattle.cycle_bound.specs.Known.{AreHeld}
use Rattle.cycle_bound.specs.Nodes.{functions_nodes}
use Rattle.cycle_bound.proofs.functions.fills_of_functions.Given as goal

abbrev pub invariant-loop-number : goal.invariant-loop-number
invariant-loop-number g l = record {
  room : length l.fills ≡ MOST_FUNCTIONS;
  fills : AreHeld (fill_bound l.each (functions_of l.functions)) l.number l.fills;
  steps : l.steps + functions_nodes (functions_of (drop l.number l.functions)) ≤ l.initial.steps
      + functions_nodes (functions_of l.functions);
  forward : l.initial.steps ≤ l.steps;
}

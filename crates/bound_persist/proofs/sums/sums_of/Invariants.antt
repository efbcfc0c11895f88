use Rattle.std.proofs.Common.{◌+◌, ◌≤◌, drop}
use Rattle.sp_shape.specs.Shown.{functions_of}
use Rattle.cycle_bound.specs.Nodes.{functions_nodes}
use Rattle.bound_persist.specs.Marks.{is_marked}
use Rattle.bound_persist.specs.Reached.{picked}
use Rattle.bound_persist.specs.Sums.{AreSums}
use Rattle.bound_persist.proofs.sums.sums_of.Given as goal

abbrev pub invariant-loop-number : goal.invariant-loop-number
invariant-loop-number g l = record {
  few : l.sums.count ≤ l.number;
  sums : AreSums (functions_of l.functions) l.each (picked (is_marked l.marks.set) l.number) l.sums;
  steps : l.steps + functions_nodes (functions_of (drop l.number l.functions)) ≤ l.initial.steps
      + functions_nodes (functions_of l.functions);
  forward : l.initial.steps ≤ l.steps;
}

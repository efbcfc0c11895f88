use Rattle.std.proofs.Common.{◌+◌, ◌-◌, ◌≤◌, drop, length}
use Rattle.sp_shape.specs.Shown.{functions_of}
use Rattle.bound_persist.specs.Marks.{AreMarks}
use Rattle.cycle_bound.specs.Nodes.{functions_nodes}
use Rattle.bound_persist.proofs.marks.mark_all.Given as goal

abbrev pub invariant-loop-done : goal.invariant-loop-done
invariant-loop-done g l = record {
  marks : AreMarks (functions_of l.functions) l.entry (length l.functions - l.done) l.marks.set;
  steps : l.steps ≤ l.initial.steps + functions_nodes (functions_of (drop (length l.functions - l.done) l.functions));
  forward : l.initial.steps ≤ l.steps;
}

use Rattle.std.proofs.Common.{◌≡◌, ℕ, ◌+◌, ◌*◌, ◌≤◌, ◌==◌, ◌||◌, drop}
use Rattle.sp_shape.specs.Shown.{plain_part, parts_of}
use Rattle.cycle_bound.specs.Nodes.{part_nodes, parts_nodes}
use Rattle.bound_persist.specs.Marks.{is_marked}
use Rattle.bound_persist.specs.Reached.{parts_reach}
use Rattle.bound_persist.proofs.marks.+mark.Given as goal

abbrev pub invariant-mark_parts-loop-part : goal.invariant-mark_parts-loop-part
invariant-mark_parts-loop-part g l = record {
  marks : (j : ℕ) → (is_marked l.marks.set j || parts_reach (λ k. k == j) (parts_of (drop l.part-index l.parts)))
      ≡ (is_marked l.initial.marks.set j || parts_reach (λ k. k == j) (parts_of l.parts));
  steps : l.steps + parts_nodes (parts_of (drop l.part-index l.parts)) ≤ l.initial.steps
      + parts_nodes (parts_of l.parts);
  forward : l.initial.steps ≤ l.steps;
}

abbrev pub decreases-mark_part : goal.decreases-mark_part
decreases-mark_part g l = 2 * part_nodes (plain_part l.part.now)

abbrev pub decreases-mark_parts : goal.decreases-mark_parts
decreases-mark_parts g l = 2 * parts_nodes (parts_of l.parts.now) + 1

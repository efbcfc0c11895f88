use Rattle.std.proofs.Common.{◌≡◌, ℕ, ◌+◌, ◌*◌, ◌^◌, ◌≤◌, List, drop}
use Rattle.sp_shape.specs.Parts.{PlainParts}
use Rattle.sp_shape.specs.Shown.{plain_part, parts_of}
use Rattle.cycle_bound.specs.Bound.{parts_bound, bounds}
use Rattle.cycle_bound.specs.Held.{held}
use Rattle.cycle_bound.specs.Known.{Knows}
use Rattle.cycle_bound.specs.Nodes.{part_nodes, parts_nodes}
use Rattle.cycle_bound.proofs.parts.+cycles.Given as goal

abbrev pub invariant-cycles_of_parts-loop-part : goal.invariant-cycles_of_parts-loop-part
invariant-cycles_of_parts-loop-part g l = record {
  cycles : (fs : List PlainParts) (fill : ℕ → ℕ) → Knows fs l.each fill (l.number + 1) l.number l.known
      → held (l.cycles + parts_bound l.each fill (bounds fs l.each fill l.number) l.number (parts_of
      (drop l.part-index l.parts)))
      ≡ held (parts_bound l.each fill (bounds fs l.each fill l.number) l.number (parts_of l.parts));
  small : l.cycles ≤ 2 ^ 62 + 1;
  steps : l.steps + parts_nodes (parts_of (drop l.part-index l.parts)) ≡ l.initial.steps
      + parts_nodes (parts_of l.parts);
}

abbrev pub decreases-cycles_of_part : goal.decreases-cycles_of_part
decreases-cycles_of_part g l = 2 * part_nodes (plain_part l.part.now)

abbrev pub decreases-cycles_of_parts : goal.decreases-cycles_of_parts
decreases-cycles_of_parts g l = 2 * parts_nodes (parts_of l.parts.now) + 1

use Rattle.std.proofs.Common.{◌≡◌, ◌+◌, ◌*◌, ◌++◌, drop, slice_index}
use Rattle.std.specs.List.{All}
use Rattle.patmos_instr.specs.Bundles.{FitsBundle}
use Rattle.sp_shape.specs.Shown.{plain_part, parts_of}
use Rattle.tc_link.specs.Flat.{flat_parts}
use Rattle.tc_link.specs.Placed.{codes}
use Rattle.tc_link.proofs.Bodies.{part_size, parts_size}
use Rattle.tc_link.proofs.words.+push.Given as goal

abbrev pub invariant-push_parts-loop-part : goal.invariant-push_parts-loop-part
invariant-push_parts-loop-part l = record {
  words : l.words.items ++ codes (flat_parts (slice_index l.places) (parts_of (drop l.part-index l.parts)))
      ≡ l.initial.words.items ++ codes (flat_parts (slice_index l.places) (parts_of l.parts));
  fit : All FitsBundle (flat_parts (slice_index l.places) (parts_of (drop l.part-index l.parts)))
      → All FitsBundle (flat_parts (slice_index l.places) (parts_of l.parts));
}

abbrev pub decreases-push_part : goal.decreases-push_part
decreases-push_part l = 2 * part_size (plain_part l.part.now)

abbrev pub decreases-push_parts : goal.decreases-push_parts
decreases-push_parts l = 2 * parts_size (parts_of l.parts.now) + 1

use Rattle.std.proofs.Common.{◌≡◌, ◌+◌, ◌*◌, ◌++◌, string_bytes, drop}
use Rattle.sp_shape.specs.Shown.{plain_part, parts_of}
use Rattle.sp_shape.specs.Words.{parts_words}
use Rattle.tc_link.proofs.Bodies.{part_size, parts_size}
use Rattle.code_text.specs.Lines.{lines_text}
use Rattle.code_text.specs.Listing.{parts_lines, parts_loops}
use Rattle.code_text.proofs.parts.+write.Given as goal

abbrev pub invariant-write_parts-loop-part : goal.invariant-write_parts-loop-part
invariant-write_parts-loop-part l = record {
  text : string_bytes l.text ++ lines_text (parts_lines l.names l.words l.spot.at l.spot.loop_number
      (parts_of (drop l.part-index l.parts)))
      ≡ string_bytes l.initial.text ++ lines_text (parts_lines l.names l.words l.initial.spot.at
      l.initial.spot.loop_number (parts_of l.parts));
  at : l.spot.at + parts_words (parts_of (drop l.part-index l.parts)) ≡ l.initial.spot.at
      + parts_words (parts_of l.parts);
  loop_number : l.spot.loop_number + parts_loops (parts_of (drop l.part-index l.parts)) ≡ l.initial.spot.loop_number
      + parts_loops (parts_of l.parts);
}

abbrev pub decreases-write_part : goal.decreases-write_part
decreases-write_part l = 2 * part_size (plain_part l.part.now)

abbrev pub decreases-write_parts : goal.decreases-write_parts
decreases-write_parts l = 2 * parts_size (parts_of l.parts.now) + 1

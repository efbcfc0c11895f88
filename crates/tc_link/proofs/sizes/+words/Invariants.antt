use Rattle.std.proofs.Common.{◌≡◌, ◌+◌, ◌*◌, drop}
use Rattle.sp_shape.specs.Shown.{plain_part, parts_of}
use Rattle.sp_shape.specs.Words.{parts_words}
use Rattle.tc_link.proofs.Bodies.{part_size, parts_size}
use Rattle.tc_link.proofs.sizes.+words.Given as goal

abbrev pub invariant-words_of_parts-loop-part : goal.invariant-words_of_parts-loop-part
invariant-words_of_parts-loop-part l =
    l.words + parts_words (parts_of (drop l.part-index l.parts)) ≡ parts_words (parts_of l.parts)

abbrev pub decreases-words_of_part : goal.decreases-words_of_part
decreases-words_of_part l = 2 * part_size (plain_part l.part.now)

abbrev pub decreases-words_of_parts : goal.decreases-words_of_parts
decreases-words_of_parts l = 2 * parts_size (parts_of l.parts.now) + 1

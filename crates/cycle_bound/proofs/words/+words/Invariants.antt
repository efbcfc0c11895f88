use Rattle.std.proofs.Common.{◌≡◌, ◌+◌, ◌^◌, ◌≤◌, drop}
use Rattle.sp_shape.specs.Shown.{parts_of}
use Rattle.sp_shape.specs.Words.{parts_words}
use Rattle.cycle_bound.specs.Held.{held}
use Rattle.cycle_bound.specs.Nodes.{parts_nodes}
use Rattle.cycle_bound.proofs.words.+words.Given as goal

abbrev pub invariant-words_of_parts-loop-part : goal.invariant-words_of_parts-loop-part
invariant-words_of_parts-loop-part g l = record {
  words : held (l.words + parts_words (parts_of (drop l.part-index l.parts))) ≡ held (parts_words (parts_of l.parts));
  small : l.words ≤ 2 ^ 62 + 1;
  steps : l.steps + parts_nodes (parts_of (drop l.part-index l.parts)) ≡ l.initial.steps
      + parts_nodes (parts_of l.parts);
}

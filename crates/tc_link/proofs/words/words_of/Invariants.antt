use Rattle.std.proofs.Common.{◌≡◌, ℕ, ◌<◌, ◌∷◌, slice_index, slice_index_or}
use Rattle.std.specs.List.{All, flat_map}
use Rattle.patmos_instr.specs.Bundles.{FitsBundle}
use Rattle.sp_shape.specs.Parts.{no_part}
use Rattle.sp_shape.specs.Shown.{functions_of}
use Rattle.tc_link.specs.Flat.{flat_parts}
use Rattle.tc_link.specs.Placed.{others, function_words}
use Rattle.tc_link.proofs.words.words_of.Given as goal

abbrev pub invariant-loop-k : goal.invariant-loop-k
invariant-loop-k l = record {
  words : l.words.items ≡ flat_map (λ k. function_words (slice_index l.places)
      (slice_index_or (functions_of l.functions) k no_part)) (l.entry ∷ others l.entry l.k);
  entry : All FitsBundle (flat_parts (slice_index l.places) (slice_index_or (functions_of l.functions)
      l.entry no_part));
  fit : (j : ℕ) → j < l.k → All FitsBundle (flat_parts (slice_index l.places)
      (slice_index_or (functions_of l.functions) j no_part));
}

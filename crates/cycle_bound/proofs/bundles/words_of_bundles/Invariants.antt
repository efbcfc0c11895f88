use Rattle.std.proofs.Common.{◌≡◌, ◌+◌, ◌^◌, ◌≤◌, drop}
use Rattle.sp_shape.specs.Words.{bundles_words}
use Rattle.cycle_bound.specs.Held.{held}
use Rattle.cycle_bound.proofs.bundles.words_of_bundles.Given as goal

abbrev pub invariant-loop-bundle : goal.invariant-loop-bundle
invariant-loop-bundle g l = record {
  words : held (l.words + bundles_words (drop l.bundle-index l.bundles)) ≡ held (bundles_words l.bundles);
  small : l.words ≤ 2 ^ 62 + 1;
  steps : l.steps ≡ l.initial.steps + l.bundle-index;
}

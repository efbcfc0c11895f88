use Rattle.std.proofs.Common.{◌≡◌, ◌+◌, drop}
use Rattle.sp_shape.specs.Words.{bundles_words}
use Rattle.tc_link.proofs.sizes.words_of_bundles.Given as goal

abbrev pub invariant-loop-bundle : goal.invariant-loop-bundle
invariant-loop-bundle l = l.words + bundles_words (drop l.bundle-index l.bundles) ≡ bundles_words l.bundles

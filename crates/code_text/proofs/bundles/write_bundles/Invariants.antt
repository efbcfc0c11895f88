use Rattle.std.proofs.Common.{◌≡◌, ◌+◌, ◌++◌, string_bytes, drop}
use Rattle.sp_shape.specs.Words.{bundles_words}
use Rattle.code_text.specs.Lines.{lines_text}
use Rattle.code_text.specs.Listing.{bundle_lines}
use Rattle.code_text.proofs.bundles.write_bundles.Given as goal

abbrev pub invariant-loop-bundle : goal.invariant-loop-bundle
invariant-loop-bundle l = record {
  text : string_bytes l.text ++ lines_text (bundle_lines l.names l.words l.aim l.at (drop l.bundle-index l.bundles))
      ≡ string_bytes l.initial.text ++ lines_text (bundle_lines l.names l.words l.aim l.at-2 l.bundles);
  at : l.at + bundles_words (drop l.bundle-index l.bundles) ≡ l.at-2 + bundles_words l.bundles;
}

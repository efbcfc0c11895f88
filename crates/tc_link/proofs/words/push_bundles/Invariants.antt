use Rattle.std.proofs.Common.{◌≡◌, ◌++◌, drop}
use Rattle.std.specs.List.{All}
use Rattle.patmos_instr.specs.Bundles.{FitsBundle}
use Rattle.tc_link.specs.Placed.{codes}
use Rattle.tc_link.proofs.words.push_bundles.Given as goal

abbrev pub invariant-loop-bundle : goal.invariant-loop-bundle
invariant-loop-bundle l = record {
  words : l.words.items ++ codes (drop l.bundle-index l.bundles) ≡ l.initial.words.items ++ codes l.bundles;
  fit : All FitsBundle (drop l.bundle-index l.bundles) → All FitsBundle l.bundles;
}

use Rattle.std.proofs.Common.{◌≡◌, ◌+◌, ◌++◌, drop}
use Rattle.std.specs.List.{All}
use Rattle.patmos_instr.specs.Bundles.{FitsBundle}
use Rattle.sp_shape.specs.Words.{bundles_words}
use Rattle.tc_link.specs.Flat.{turned}
use Rattle.tc_link.specs.Placed.{codes}
use Rattle.tc_link.proofs.words.push_iteration.Given as goal

abbrev pub invariant-loop-bundle : goal.invariant-loop-bundle
invariant-loop-bundle l = record {
  words : l.words.items ++ codes (turned l.behind (drop l.bundle-index l.tail)) ≡ l.initial.words.items
      ++ codes (turned l.body l.tail);
  behind : l.behind + bundles_words (drop l.bundle-index l.tail) ≡ l.body + bundles_words l.tail;
  fit : All FitsBundle (turned l.behind (drop l.bundle-index l.tail)) → All FitsBundle (turned l.body l.tail);
}

use Rattle.std.proofs.Common.{◌≡◌, ◌++◌, [], drop}
use Rattle.patmos_asm.specs.Assembly.{place_of, words_from}
use Rattle.patmos_asm.specs.Names.{place_in}
use Rattle.patmos_syntax.specs.Shown.{shown_items}
use Rattle.patmos_asm.proofs.Faultless.{Faultless}
use Rattle.patmos_asm.proofs.words.words_of.Given as goal

abbrev pub invariant-loop-i : goal.invariant-loop-i
invariant-loop-i l =
    (l.words.items ++ words_from (place_in l.functions) (place_in l.labels) l.at (shown_items (drop l.i l.items))
    ≡ words_from (place_in l.functions) (place_of []) 0 (shown_items l.items))
    × Faultless (place_in l.functions) (place_in l.labels) l.at (shown_items (drop l.i l.items))

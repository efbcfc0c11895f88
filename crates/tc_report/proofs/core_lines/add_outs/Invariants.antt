use Rattle.std.proofs.Common.{◌≡◌, ◌++◌, drop}
use Rattle.tc_report.specs.Line.{outs_from}
use Rattle.tc_report.proofs.core_lines.add_outs.Given as goal

abbrev pub invariant-loop-index : goal.invariant-loop-index
invariant-loop-index l =
    l.text.items ++ outs_from l.core l.unsigned l.index (drop l.index l.words) ≡ l.initial.text.items
    ++ outs_from l.core l.unsigned 0 l.words

use Rattle.std.proofs.Common.{◌≡◌, ◌++◌, drop}
use Rattle.std.specs.List.{flat_map}
use Rattle.tc_report.specs.Line.{access_line}
use Rattle.tc_report.proofs.core_lines.put_accesses.Given as goal

abbrev pub invariant-loop-access : goal.invariant-loop-access
invariant-loop-access l =
    l.text.items ++ flat_map (access_line l.core) (drop l.access-index l.accesses) ≡ l.initial.text.items
    ++ flat_map (access_line l.core) l.accesses

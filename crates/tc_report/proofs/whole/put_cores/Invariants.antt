use Rattle.std.proofs.Common.{◌≡◌, ◌++◌, drop}
use Rattle.tc_report.specs.Report.{cores_from}
use Rattle.tc_report.proofs.whole.put_cores.Given as goal

abbrev pub invariant-loop-core : goal.invariant-loop-core
invariant-loop-core l =
    l.text.items ++ cores_from l.core (drop l.core l.rows) ≡ l.initial.text.items ++ cores_from 0 l.rows

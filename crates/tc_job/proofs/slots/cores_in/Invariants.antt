use Rattle.std.proofs.Common.{◌≡◌, drop}
use Rattle.tc_job.specs.SlotTable.{core_of}
use Rattle.tc_toml.specs.Values.{each_of}
use Rattle.tc_toml.proofs.Each.{behind}
use Rattle.tc_job.proofs.slots.cores_in.Given as goal

abbrev pub invariant-loop-integer : goal.invariant-loop-integer
invariant-loop-integer l =
    behind l.entries.items (each_of (core_of l.cores) (drop l.integer-index l.integers))
    ≡ each_of (core_of l.cores) l.integers

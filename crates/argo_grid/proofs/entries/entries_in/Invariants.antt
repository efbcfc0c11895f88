use Rattle.std.proofs.Common.{◌≡◌, drop, length}
use Rattle.tc_toml.specs.Values.{each_of}
use Rattle.tc_toml.proofs.Each.{behind}
use Rattle.argo_grid.specs.Read.{entry_of}
use Rattle.argo_grid.proofs.entries.entries_in.Given as goal

abbrev pub invariant-loop-list : goal.invariant-loop-list
invariant-loop-list l =
    (behind l.entries.items (each_of entry_of (drop l.list-index l.lists)) ≡ each_of entry_of l.lists)
    × (length l.entries.items ≡ l.list-index)

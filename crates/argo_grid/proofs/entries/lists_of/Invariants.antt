use Rattle.std.proofs.Common.{◌≡◌, drop}
use Rattle.toml.specs.View.{items_view}
use Rattle.tc_toml.specs.Values.{each_item}
use Rattle.tc_toml.proofs.Each.{behind}
use Rattle.argo_grid.specs.Read.{integers_at}
use Rattle.argo_grid.proofs.entries.lists_of.Given as goal

abbrev pub invariant-loop-item : goal.invariant-loop-item
invariant-loop-item l =
    behind l.lists.items (each_item integers_at (items_view (drop l.item-index l.items)))
    ≡ each_item integers_at (items_view l.items)

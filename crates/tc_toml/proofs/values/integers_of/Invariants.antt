use Rattle.std.proofs.Common.{◌≡◌, drop}
use Rattle.toml.specs.Data.{as_integer}
use Rattle.toml.specs.View.{items_view}
use Rattle.tc_toml.specs.Values.{each_item}
use Rattle.tc_toml.proofs.Each.{behind}
use Rattle.tc_toml.proofs.values.integers_of.Given as goal

abbrev pub invariant-loop-item : goal.invariant-loop-item
invariant-loop-item l =
    behind l.integers.items (each_item as_integer (items_view (drop l.item-index l.items)))
    ≡ each_item as_integer (items_view l.items)

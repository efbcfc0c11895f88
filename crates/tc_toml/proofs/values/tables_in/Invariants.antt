use Rattle.std.proofs.Common.{◌≡◌, drop, map}
use Rattle.toml.specs.Data.{as_table}
use Rattle.toml.specs.View.{items_view, table_view}
use Rattle.tc_toml.specs.Values.{each_item}
use Rattle.tc_toml.proofs.Each.{behind}
use Rattle.tc_toml.proofs.values.tables_in.Given as goal

abbrev pub invariant-loop-item : goal.invariant-loop-item
invariant-loop-item l =
    behind (map (λ t. table_view t.now) l.tables.items) (each_item as_table (items_view (drop l.item-index l.items)))
    ≡ each_item as_table (items_view l.items)

use Rattle.std.proofs.Common.{◌≡◌}
use Rattle.std.specs.List.Sorted.{IsStrictlySortedBy}
use Rattle.std.specs.Map.{keys_of}
use Rattle.std.specs.String.{string_cmp}
use Rattle.toml.specs.View.{members_view}
use Rattle.argo_grid.specs.Read.{known_keys}
use Rattle.argo_grid.proofs.read.knows_keys.Given as goal

abbrev pub invariant-keys : goal.invariant-keys
invariant-keys l =
    (goal.iterator-keys).can_next l.key-iterator
    × (goal.iterator-keys).is_finite l.key-iterator
    × (known_keys (members_view l.key-iterator) ≡ known_keys (members_view l.top.table.now.entries))
    × IsStrictlySortedBy string_cmp (keys_of l.key-iterator)

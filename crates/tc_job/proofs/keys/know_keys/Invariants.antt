use Rattle.std.proofs.Common.{◌≡◌}
use Rattle.std.specs.List.Sorted.{IsStrictlySortedBy}
use Rattle.std.specs.Map.{keys_of}
use Rattle.std.specs.String.{string_cmp}
use Rattle.toml.specs.View.{members_view}
use Rattle.tc_job.specs.Keys.{known_keys}
use Rattle.tc_job.proofs.keys.know_keys.Given as goal

abbrev pub invariant-keys : goal.invariant-keys
invariant-keys l =
    (goal.iterator-keys).can_next l.key-iterator
    × (goal.iterator-keys).is_finite l.key-iterator
    × (known_keys l.level l.section.task (members_view l.key-iterator)
    ≡ known_keys l.level l.section.task (members_view l.section.table.now.entries))
    × IsStrictlySortedBy string_cmp (keys_of l.key-iterator)

use Rattle.std.proofs.Common.{ap, ◌∙◌}
use Rattle.slot_arbiter.specs.Table.{has_entry}
use Rattle.slot_arbiter.proofs.Entries.{owner_has_entry}
use Rattle.slot_arbiter.proofs.start.start_of.Goals as goal

pub next_start-requires-clause-owner : goal.next_start-requires-clause-owner
next_start-requires-clause-owner c =
    let place = c.args.place.now in
    ap (λ table. has_entry table place.core) c.as_slice.ensures.entries
    ∙ owner_has_entry place.cores place.core place.table place.owned place.in_range.among

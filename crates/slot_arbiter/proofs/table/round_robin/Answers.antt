use Rattle.std.proofs.Common.{ap, ◌∙◌}
use Rattle.slot_arbiter.specs.Table.{is_table}
use Rattle.slot_arbiter.proofs.Entries.{in_turn_is_table, take-range}
use Rattle.slot_arbiter.proofs.table.round_robin.Goals as goal

pub returns-clause-order : goal.returns-clause-order
returns-clause-order c = c.padded.ensures ∙ c.split_at.ensures.front ∙ take-range 0 c.args.cores 16 c.requires.most

pub returns-clause-table : goal.returns-clause-table
returns-clause-table c =
    ap (is_table c.args.cores) (returns-clause-order c) ∙ in_turn_is_table c.args.cores c.requires.some c.requires.most

use Rattle.slot_arbiter.proofs.Entries.{padded_copy}
use Rattle.slot_arbiter.proofs.table.padded.Goals as goal

pub invariant_of-result : goal.invariant_of-result
invariant_of-result c =
    padded_copy c.args.entries.now c.copy_from_slice.new.self c.split_at_mut-prefix.result.1.now c.requires.some
    c.requires.most c.copy_from_slice.ensures.after c.split_at_mut-prefix.ensures.back

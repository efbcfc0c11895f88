use Rattle.std.proofs.Common.{[], ap, ◌∙◌, length, slice_index}
use Rattle.sp_tree.specs.Begun.{laid}
use Rattle.sp_tree.specs.Shown.{plain_unit}
use Rattle.sp_tree.proofs.Begins.{begun_shown}
use Rattle.sp_tree.proofs.outcome.begin.Goals as goal

pub returns-clause-world : goal.returns-clause-world
returns-clause-world c =
    begun_shown c.in_ok-memory.memory (plain_unit c.args.unit.now) c.args.input.now c.lay.new.into.items
    c.lay-2.new.into.items (c.in_ok-memory.ensures.world [])
    (λ k. c.lay.ensures.words k ∙ ap (λ words. laid 4 (length words) words
    (slice_index c.in_ok-memory.memory.private.items) k) c.as_slice-initial.ensures)
    (λ k. c.lay-2.ensures.words k)

use Rattle.std.proofs.Common.{◌-◌, false, slice_index_or, arith}
use Rattle.c_mentions.proofs.Flagged.{room_below, at_most_one}
use Rattle.c_mentions.proofs.mentioned.bits_of.Goals as goal

pub overflow_mul-word : goal.overflow_mul-word
overflow_mul-word c = let room = room_below c.loop-done.word c.loop-done.done c.loop-done.invariant.small
    c.loop-done-test.true in omega (arith, room)

pub overflow_add-word : goal.overflow_add-word
overflow_add-word c =
    let room = room_below c.loop-done.word c.loop-done.done c.loop-done.invariant.small c.loop-done-test.true in
    let one = at_most_one (slice_index_or c.args.flags (15 - c.loop-done.done) false) c.from-flag.result
    c.from-flag.ensures in
    omega (arith, room, one)

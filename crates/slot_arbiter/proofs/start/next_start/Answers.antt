use Rattle.std.proofs.Common.{length, ◌+◌, ◌<◌, arith}
use Rattle.slot_arbiter.proofs.Cycles.{ceiling, start_of_slot, start_near}
use Rattle.slot_arbiter.proofs.start.next_start.Goals as goal

pub returns-clause-next : goal.returns-clause-next
returns-clause-next c =
    let edge = ceiling c.args.t c.args.slot c.div_ceil-first.result c.requires.slot_some c.div_ceil-first.ensures in
    start_of_slot c.args.entries.now c.args.slot c.args.core c.args.t c.div_ceil-first.result
    (c.div_ceil-first.result + c.slots_to.result) edge c.slots_to.ensures.next

pub returns-clause-near : goal.returns-clause-near
returns-clause-near c =
    let edge = ceiling c.args.t c.args.slot c.div_ceil-first.result c.requires.slot_some c.div_ceil-first.ensures in
    start_near c.args.t c.args.slot c.div_ceil-first.result c.slots_to.result (length c.args.entries.now) edge
    c.slots_to.ensures.within

pub returns-clause-bounded : goal.returns-clause-bounded
returns-clause-bounded c =
    let edge = ceiling c.args.t c.args.slot c.div_ceil-first.result c.requires.slot_some c.div_ceil-first.ensures in
    let few : c.slots_to.result < 64 = omega arith in
    omega (arith, start_near c.args.t c.args.slot c.div_ceil-first.result c.slots_to.result 64 edge few)

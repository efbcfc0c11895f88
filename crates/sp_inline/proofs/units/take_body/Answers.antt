use Rattle.std.proofs.Common.{arith}
use Rattle.sp_inline.proofs.InOrder.{taken_walk, whole_some, walk_asks}
use Rattle.sp_inline.proofs.units.take_body.Goals as goal

pub first_room-room-requires : goal.first_room-room-requires
first_room-room-requires c = whole_some _ c.args.own.now c.requires

pub take_statements-requires : goal.take_statements-requires
take_statements-requires c =
    let asks = walk_asks _ c.args.own.now c.first_room-room.result c.as_slice-statements.result.now c.args.most
    c.requires c.first_room-room.ensures
    c.as_slice-statements.ensures in
    let few = c.args.own.now.few (whole_some _ c.args.own.now c.requires) in
    record { levels = asks.0; words = asks.1; word = omega (arith, few); frame = omega arith }

pub returns : goal.returns
returns c =
    taken_walk c.args.earlier.now c.args.most c.args.frame c.args.own.now c.first_room-room.result c.in_ok-left.left
    c.as_slice-statements.result.now
    c.new-body.result.items c.take_statements.new.out.items c.first_room-room.ensures c.as_slice-statements.ensures
    c.new-body.ensures.items c.in_ok-left.ensures

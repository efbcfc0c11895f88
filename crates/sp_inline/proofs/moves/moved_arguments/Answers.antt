use Rattle.std.proofs.Common.{arith}
use Rattle.sp_inline.proofs.Parts.{part_reach}
use Rattle.sp_inline.proofs.moves.moved_arguments.Goals as goal

pub moved-requires : goal.moved-requires
moved-requires c =
    let part = part_reach c.args.args.now c.loop-e.e-index c.e-item.result (omega arith) c.e-item.is in
    omega (arith, part, c.requires)

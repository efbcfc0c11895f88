use Rattle.std.proofs.Common.{arith}
use Rattle.sp_inline.proofs.Parts.{args_cost_done}
use Rattle.sp_inline.proofs.costs.arguments.Goals as goal

pub returns : goal.returns
returns c = args_cost_done c.loop-e.total _ c.args.args.now c.loop-e.e-index (omega arith) c.loop-e.invariant.fits
    c.loop-e.invariant.so_far

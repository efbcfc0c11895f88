use Rattle.std.proofs.Common.{[], arith}
use Rattle.std.specs.Prelude.{◌-◌}
use Rattle.sp_tree.specs.Shown.{stmts_of}
use Rattle.sp_tree.specs.Statements.{joined}
use Rattle.sp_inline.specs.Taken.{begun_words}
use Rattle.sp_inline.proofs.Steps.{next_zero, no_zero}
use Rattle.sp_inline.proofs.calls.add_zeros.Goals as goal

pub loop-slot-preserved : goal.loop-slot-preserved
loop-slot-preserved c = record {
  so_far = next_zero c.loop-slot.slot c.args.to (stmts_of c.loop-slot.out.items) (stmts_of c.add_zero.new.out.items)
      (joined (stmts_of c.args.out.now.items) (begun_words c.args.from (c.args.to - c.args.from) []))
      (omega arith) c.in_ok-add_zero.ensures
      c.loop-slot.invariant.so_far;
  within = omega arith;
}

pub returns : goal.returns
returns c =
    no_zero c.loop-slot.slot c.args.to (stmts_of c.loop-slot.out.items) (joined (stmts_of c.args.out.now.items)
    (begun_words c.args.from (c.args.to - c.args.from) []))
    (omega arith) c.loop-slot.invariant.so_far

use Rattle.std.proofs.Common.{◌+◌, arith}
use Rattle.patmos_alone.proofs.Stretches.{goes_on}
use Rattle.patmos_alone.proofs.run.run_bundles.Goals as goal

pub loop-cycle-preserved-in-On : goal.loop-cycle-preserved-in-On
loop-cycle-preserved-in-On c = record {
  goes = goes_on c.args.from c.loop-cycle.cycle (c.loop-cycle.cycle + 1) c.args.body.now c.loop-cycle.body
      c.do_next.new.body c.loop-cycle.invariant.goes c.in-On.ensures.went.0;
  begins = c.in-On.ensures.went.1;
  within = omega (arith, c.loop-cycle-test.true);
}

pub loop-cycle-preserved : goal.loop-cycle-preserved
loop-cycle-preserved c = record {
  goes = goes_on c.args.from c.loop-cycle.cycle c.in-Until.next c.args.body.now c.loop-cycle.body c.do_next.new.body
      c.loop-cycle.invariant.goes c.in-Until.ensures.went.2;
  begins = c.can_begin-in-Until.ensures c.if-not-can_begin-2.false;
  within = c.in-Until.ensures.went.1;
}

pub returns-then-not-can_begin-2-clause-goes : goal.returns-then-not-can_begin-2-clause-goes
returns-then-not-can_begin-2-clause-goes c =
    goes_on c.args.from c.loop-cycle.cycle c.in-Until.next c.args.body.now c.loop-cycle.body c.do_next.new.body
    c.loop-cycle.invariant.goes c.in-Until.ensures.went.2

pub returns-then-not-can_begin-2-clause-due : goal.returns-then-not-can_begin-2-clause-due
returns-then-not-can_begin-2-clause-due c = λ further. c.in-Until.ensures.went.3

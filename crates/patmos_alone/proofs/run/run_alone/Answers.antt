use Rattle.patmos_alone.proofs.Stretches.{goes_on}
use Rattle.patmos_alone.proofs.run.run_alone.Goals as goal

pub returns-then-body-gt0-clause-goes : goal.returns-then-body-gt0-clause-goes
returns-then-body-gt0-clause-goes c =
    goes_on c.args.from c.loop-cycle.cycle c.run_bundles-next.result c.args.body.now c.loop-cycle.body
    c.run_bundles-next.new.body c.loop-cycle.invariant.goes c.run_bundles-next.ensures.goes

pub returns-then-after-next-clause-goes : goal.returns-then-after-next-clause-goes
returns-then-after-next-clause-goes c =
    goes_on c.args.from c.run_bundles-next.result c.wait_alone-after.result c.args.body.now c.run_bundles-next.new.body
    c.wait_alone-after.new.body
    (goes_on c.args.from c.loop-cycle.cycle c.run_bundles-next.result c.args.body.now c.loop-cycle.body
    c.run_bundles-next.new.body c.loop-cycle.invariant.goes c.run_bundles-next.ensures.goes)
    c.wait_alone-after.ensures.goes

pub loop-cycle-preserved : goal.loop-cycle-preserved
loop-cycle-preserved c = record {
  goes = goes_on c.args.from c.run_bundles-next.result c.wait_alone-after.result c.args.body.now
      c.run_bundles-next.new.body c.wait_alone-after.new.body
      (goes_on c.args.from c.loop-cycle.cycle c.run_bundles-next.result c.args.body.now c.loop-cycle.body
      c.run_bundles-next.new.body c.loop-cycle.invariant.goes c.run_bundles-next.ensures.goes)
      c.wait_alone-after.ensures.goes;
  within = c.wait_alone-after.ensures.within;
}

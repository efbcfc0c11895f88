use Rattle.std.proofs.Common.{arith}
use Rattle.patmos_step.specs.Shown.{plain_of}
use Rattle.patmos_alone.proofs.Sleeping.{sleeps_moving}
use Rattle.patmos_alone.proofs.next_active.active.Goals as goal

pub returns-then-body-gt0-clause-asleep : goal.returns-then-body-gt0-clause-asleep
returns-then-body-gt0-clause-asleep c = λ d u same from below.
    sleeps_moving (plain_of c.args.body.now) d u c.max.result c.start_of.result c.if-body-gt0.true
    (λ free. omega (arith, free, from, c.max.ensures)) below c.start_of.ensures.next same

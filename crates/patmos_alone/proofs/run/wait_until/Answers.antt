use Rattle.std.proofs.Common.{refl, arith}
use Rattle.patmos_step.specs.Shown.{core_of, plain_of}
use Rattle.patmos_alone.proofs.AtOnce.{some_due}
use Rattle.patmos_alone.proofs.Sleeping.{sleeps_first}
use Rattle.patmos_alone.proofs.Stretches.{waits, goes_on}
use Rattle.patmos_alone.proofs.run.wait_until.Goals as goal

pub returns-then-limit-start-clause-goes : goal.returns-then-limit-start-clause-goes
returns-then-limit-start-clause-goes c =
    waits c.args.from c.args.limit c.args.body.now c.requires.can c.requires.within
    (λ h u from below. sleeps_first (plain_of c.args.body.now) (core_of c.args.body.now h) u c.args.from c.args.start
    (some_due c.args.start (plain_of c.args.body.now) c.requires.first.due)
    c.requires.first from (omega (arith, below, c.if-limit-start.true)) refl)

pub returns-clause-goes : goal.returns-clause-goes
returns-clause-goes c =
    goes_on c.args.from c.args.start c.move_at.result c.args.body.now c.args.body.now c.move_at.new.body
    (waits c.args.from c.args.start c.args.body.now c.requires.can c.requires.first.ahead
    (λ h u from below. sleeps_first (plain_of c.args.body.now) (core_of c.args.body.now h) u c.args.from c.args.start
    (some_due c.args.start (plain_of c.args.body.now) c.requires.first.due)
    c.requires.first from below refl))
    c.move_at.ensures.goes

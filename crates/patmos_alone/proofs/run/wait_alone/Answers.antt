use Rattle.std.proofs.Common.{refl, arith}
use Rattle.patmos_step.specs.Shown.{core_of}
use Rattle.patmos_alone.proofs.Stretches.{waits, goes_on}
use Rattle.patmos_alone.proofs.run.wait_alone.Goals as goal

pub returns-then-active-limit-clause-goes : goal.returns-then-active-limit-clause-goes
returns-then-active-limit-clause-goes c =
    waits c.args.from c.min-active.result c.args.body.now c.requires.can
    (omega (arith, c.min-active.ensures, c.active.ensures.from, c.requires.within))
    (λ h u from below. c.active.ensures.asleep (core_of c.args.body.now h) u refl from
    (omega (arith, below, c.min-active.ensures)))

pub returns-clause-goes : goal.returns-clause-goes
returns-clause-goes c =
    goes_on c.args.from c.min-active.result c.move_at.result c.args.body.now c.args.body.now c.move_at.new.body
    (waits c.args.from c.min-active.result c.args.body.now c.requires.can
    (omega (arith, c.min-active.ensures, c.active.ensures.from, c.requires.within))
    (λ h u from below. c.active.ensures.asleep (core_of c.args.body.now h) u refl from
    (omega (arith, below, c.min-active.ensures))))
    c.move_at.ensures.goes

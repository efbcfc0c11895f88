use Rattle.std.proofs.Common.{◌+◌, refl, arith}
use Rattle.patmos_step.specs.Shown.{core_of}
use Rattle.patmos_alone.proofs.Stretches.{waits, goes_on}
use Rattle.patmos_alone.proofs.run.move_at.Goals as goal

pub returns-then-not-moves_own-clause-goes : goal.returns-then-not-moves_own-clause-goes
returns-then-not-moves_own-clause-goes c =
    waits c.args.from c.args.from c.args.body.now c.requires.can (omega arith)
    (λ h u from below. absurd (omega (arith, from, below)))

pub returns-clause-goes : goal.returns-clause-goes
returns-clause-goes c =
    goes_on c.args.from (c.args.from + 1) c.min.result c.args.body.now c.move_own.new.body c.move_own.new.body
    c.move_own.ensures.goes
    (waits (c.args.from + 1) c.min.result c.move_own.new.body c.move_own.ensures.goes.can
    (omega (arith, c.min.ensures, c.active.ensures.from, c.requires.within))
    (λ h u from below. c.active.ensures.asleep (core_of c.move_own.new.body h) u refl from
    (omega (arith, below, c.min.ensures))))

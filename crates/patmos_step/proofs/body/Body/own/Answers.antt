use Rattle.patmos_step.specs.Shown.{core_of}
use Rattle.patmos_step.proofs.Own.{own_in_parts}
use Rattle.patmos_step.proofs.body.Body.own.Goals as goal

pub returns-clause-done : goal.returns-clause-done
returns-clause-done c = λ s h shows.
    own_in_parts s c.args.cycle (core_of c.args.self.now h) c.args.values.now
    c.plan-plan.result c.settle.new.self c.carry_out.new.self c.carry_out.result
    (c.settle.ensures.at h shows) c.settle.ensures.settled c.plan-plan.ensures.plan (c.carry_out.ensures.done s)

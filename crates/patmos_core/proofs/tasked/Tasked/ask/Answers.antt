use Rattle.patmos_step.specs.Shown.{core_of}
use Rattle.patmos_core.proofs.SecondPhase.{own_asks}
use Rattle.patmos_core.proofs.tasked.Tasked.ask.Goals as goal

pub returns-clause-follows : goal.returns-clause-follows
returns-clause-follows c = λ h i shows same.
    own_asks c.args.self.now.cycle (core_of c.args.self.now.body h) i c.args.plan.now c.ask.result c.requires.plan
    c.requires.settled (c.ask.ensures.follows h i shows same)

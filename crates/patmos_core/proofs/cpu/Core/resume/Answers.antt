use Rattle.std.proofs.Common.{List, ◌++◌}
use Rattle.shared_order.specs.declared.operation.Operation.{Operation}
use Rattle.shared_order.specs.Event.{asked_by}
use Rattle.patmos_model.specs.State.{Core}
use Rattle.patmos_core.specs.Events.{if_found}
use Rattle.patmos_core.specs.Position.{StandsAt}
use Rattle.patmos_core.proofs.ResumedOf.{waits_for, keeps_limit, if_waits}
use Rattle.patmos_core.proofs.cpu.Core.resume.Goals as goal

pub resume-requires : goal.resume-requires
resume-requires c = record {
  asked = waits_for c.args.self.now.kind
      (if_found c.args.self.now.waits c.args.self.now.event) c.requires.waiting c.args.self.now.asked;
}

pub invariant_of-self : goal.invariant_of-self
invariant_of-self c = record {
  kept = keeps_limit c.args.self.now.kind c.resume.new.self (if_found c.args.self.now.waits c.args.self.now.event)
      c.args.self.now.limit c.requires.waiting c.args.self.now.kept c.resume.ensures.kept;
  asked = tt;
}

pub returns-clause-stands : goal.returns-clause-stands
returns-clause-stands c =
    if_waits (λ e. (x : Core) (made : List Operation) → StandsAt c.args.self.now.kind x made
    → StandsAt c.resume.new.self x (made ++ asked_by e c.args.values))
    c.args.self.now.kind (if_found c.args.self.now.waits c.args.self.now.event) c.args.self.now.asked
    c.resume.ensures.stands

use Rattle.std.proofs.Common.{sym, subst, ◌∙◌}
use Rattle.shared_order.specs.Program.{fed}
use Rattle.patmos_step.specs.Plan.{carried_out}
use Rattle.patmos_step.specs.Shown.{IsActed, core_of, plain_of}
use Rattle.patmos_step.proofs.Short.{done_and_moved, does_unmoved}
use Rattle.patmos_step.proofs.body.Body.carry_out.Goals as goal

pub returns-in-Does-clause-done : goal.returns-in-Does-clause-done
returns-in-Does-clause-done c = λ s h shows.
    subst (λ plan. IsActed c.move_due-in-Does.new.self c.move_due-in-Does.result
    (fed s (carried_out plan c.args.cycle (core_of c.args.self.now h)) c.args.values.now).core)
    (sym c.in-Does.is)
    (done_and_moved s c.args.cycle c.in-Does.fetched (core_of c.args.self.now h) c.args.values.now
    c.do_fetched-pending_store.new.self c.move_due-in-Does.new.self c.do_fetched-pending_store.result
    c.move_due-in-Does.result
    (does_unmoved c.in-Does.fetched c.args.cycle (plain_of c.args.self.now) (sym c.in-Does.is ∙ c.requires.plan))
    (c.do_fetched-pending_store.ensures.done s h shows) (c.move_due-in-Does.ensures.done s))

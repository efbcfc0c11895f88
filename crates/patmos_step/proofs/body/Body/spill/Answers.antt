use Rattle.std.proofs.Common.{ap, ◌∙◌, rules}
use Rattle.stack_cache.specs.Stack.{with_spilled}
use Rattle.patmos_step.proofs.Spills.{spilled_into}
use Rattle.patmos_step.proofs.body.Body.spill.Goals as goal

pub returns-clause-private : goal.returns-clause-private
returns-clause-private c =
    spilled_into c.args.count c.args.self.now.stack c.args.self.now.store.private c.reserve.new.private
    c.requires.stack c.requires.room (search rules)
    (c.in-Ok.ensures.spilled ∙ ap (with_spilled c.args.count c.args.self.now.stack) c.private-private.ensures.words)

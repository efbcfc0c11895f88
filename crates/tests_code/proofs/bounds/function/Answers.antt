use Rattle.std.proofs.Common.{◌∙◌}
use Rattle.tests_code.proofs.Building.{returning_formed}
use Rattle.tests_code.proofs.bounds.function.Goals as goal

pub returns : goal.returns
returns c =
    λ n. returning_formed n c.args.body c.in_ok-leave.leave c.of.result (c.of.ensures ∙ c.in_ok-vec.ensures.items)
    c.in_ok-leave.ensures (c.requires.body n)

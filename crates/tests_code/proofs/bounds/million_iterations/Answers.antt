use Rattle.std.proofs.Common.{◌∙◌, arith}
use Rattle.tests_code.proofs.Building.{iterations_formed}
use Rattle.tests_code.proofs.bounds.million_iterations.Goals as goal

pub returns : goal.returns
returns c =
    λ n. iterations_formed n 1_000_000 c.of.result c.args.body c.in_ok-tail.tail
    (c.of.ensures ∙ c.in_ok-vec.ensures.items) c.in_ok-tail.ensures (omega arith) (c.requires.body n)

use Rattle.std.proofs.Common.{arith}
use Rattle.std.proofs.lemmas.Grind.{common_steps}
use Rattle.c_check.specs.Open.{names_of}
use Rattle.c_check.proofs.Next.{args_next}
use Rattle.c_check.proofs.expressions.arguments.Goals as goal

pub loop-e-preserved : goal.loop-e-preserved
loop-e-preserved c =
    let next = args_next c.loop-e.walk.least (names_of c.args.names.now) c.loop-e.walk.at c.args.args.now
    c.loop-e.e-index c.e-item.result
    (omega arith) c.e-item.is in
    record {
      at = grind (arith, common_steps);
      least = cc (
        next,
        c.in_ok-argument.ensures.at,
        c.in_ok-argument.ensures.least,
        c.loop-e.invariant.least,
      );
    }

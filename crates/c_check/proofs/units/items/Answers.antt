use Rattle.std.proofs.Common.{arith}
use Rattle.std.proofs.lemmas.Grind.{common_steps}
use Rattle.c_check.specs.Open.{names_of}
use Rattle.c_check.proofs.Next.{items_next}
use Rattle.c_check.proofs.units.items.Goals as goal

pub loop-i-preserved : goal.loop-i-preserved
loop-i-preserved c =
    let next = items_next c.loop-i.walk.least c.args.place.now.cores c.args.place.now.core (names_of c.loop-i.names)
    c.loop-i.walk.at c.args.items.now c.loop-i.i-index c.i-item.result
    (omega arith) c.i-item.is in
    record {
      at = grind (arith, common_steps);
      least = cc (
        next,
        c.in_ok-item.ensures.at,
        c.in_ok-item.ensures.least,
        c.in_ok-item.ensures.names,
        c.loop-i.invariant.least,
      );
    }

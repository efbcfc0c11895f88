use Rattle.std.proofs.Common.{◌+◌, subst, sym, arith}
use Rattle.global_step.proofs.PlainLeast.{IsFirst, first_first, first_moves, first_stays}
use Rattle.global_step.proofs.plain.least.Goals as goal
use Rattle.global_step.proofs.plain.least.Goals.{then-is_before, else-is_before}

pub loop-k-init : goal.loop-k-init
loop-k-init c = record { within = c.requires.some; least = first_first c.args.cores.now }

pub loop-k-preserved : goal.loop-k-preserved
loop-k-preserved c =
    let cores = c.args.cores.now in
    elim c.if-is_before.branch [
      | then-is_before w ↦ record {
        within = omega arith;
        least = subst (IsFirst cores (c.loop-k.k + 1)) (sym w.least-is)
            (first_moves cores c.loop-k.k c.loop-k.least c.index-cores-k.result c.index-cores-least.result
            c.loop-k-test.true c.loop-k.invariant.within c.index-cores-k.is c.index-cores-least.is
            (c.is_before.ensures.before w.if-is_before.true) c.loop-k.invariant.least);
      }
      | else-is_before w ↦ record {
        within = omega arith;
        least = subst (IsFirst cores (c.loop-k.k + 1)) (sym w.least-is)
            (first_stays cores c.loop-k.k c.loop-k.least c.index-cores-k.result c.index-cores-least.result
            c.loop-k-test.true c.loop-k.invariant.within c.index-cores-k.is c.index-cores-least.is
            (c.is_before.ensures.not_before w.if-is_before.false) c.loop-k.invariant.least);
      }
    ]

use Rattle.std.proofs.Common.{arith}
use Rattle.slot_arbiter.specs.Table.{is_owned}
use Rattle.slot_arbiter.proofs.Turns.{all_waits, gap_from_waits, more_waits, longer_reached}
use Rattle.slot_arbiter.proofs.start.longest_wait.Goals as goal

pub loop-first-preserved : goal.loop-first-preserved
loop-first-preserved c = record {
  some = c.loop-first.invariant.some;
  within = omega (arith, c.max-longest.ensures, c.slots_to.ensures.within, c.loop-first.invariant.within);
  most = more_waits (is_owned c.args.entries.now c.args.core) c.loop-first.first c.loop-first.longest c.slots_to.result
      c.max-longest.result c.max-longest.ensures c.slots_to.ensures.next c.loop-first.invariant.most;
  reached = longer_reached (is_owned c.args.entries.now c.args.core) c.loop-first.first c.loop-first.longest
      c.slots_to.result c.max-longest.result c.max-longest.ensures c.slots_to.ensures.next
      c.loop-first.invariant.reached;
}

pub returns-clause-wait : goal.returns-clause-wait
returns-clause-wait c =
    all_waits c.args.entries.now c.args.core c.loop-first.longest c.loop-first.invariant.some
    (λ j v within. c.loop-first.invariant.most j v (omega arith))

pub returns-clause-gap : goal.returns-clause-gap
returns-clause-gap c =
    gap_from_waits c.args.entries.now c.args.core c.loop-first.longest c.loop-first.invariant.some
    (returns-clause-wait c) c.loop-first.invariant.reached

use Rattle.std.proofs.Common.{◌≡◌, ◌+◌, length, false, below_more, arith, ◌∙◌}
use Rattle.slot_arbiter.specs.Table.{is_owned}
use Rattle.slot_arbiter.proofs.Turns.{found, owned_here, other_here, wraps, moves, none_passed}
use Rattle.slot_arbiter.proofs.start.slots_to.Goals as goal
use Rattle.slot_arbiter.proofs.start.slots_to.Goals.{then-at-entries, else-at-entries}

pub returns-then-entries-at-clause-next : goal.returns-then-entries-at-clause-next
returns-then-entries-at-clause-next c =
    found (is_owned c.args.entries.now c.args.core) c.args.first c.loop-slots.slots
    (owned_here c.args.entries.now c.args.core (c.args.first + c.loop-slots.slots) c.loop-slots.at
    c.loop-slots.invariant.place c.if-entries-at.true)
    c.loop-slots.invariant.passed

pub loop-slots-preserved : goal.loop-slots-preserved
loop-slots-preserved c = record {
  place = elim c.if-at-entries.branch [
    | then-at-entries w ↦ w.at-is ∙ wraps (length c.args.entries.now) c.args.first c.loop-slots.slots c.loop-slots.at
        c.loop-slots.invariant.place w.if-at-entries.true
    | else-at-entries w ↦ w.at-is ∙ moves (length c.args.entries.now) c.args.first c.loop-slots.slots c.loop-slots.at
        c.loop-slots.invariant.some c.loop-slots.invariant.place w.if-at-entries.false
  ];
  some = c.loop-slots.invariant.some;
  passed = below_more (λ k. is_owned c.args.entries.now c.args.core (c.args.first + k) ≡ false) _
      c.loop-slots.invariant.passed
      (other_here c.args.entries.now c.args.core (c.args.first + c.loop-slots.slots) c.loop-slots.at
      c.loop-slots.invariant.place c.if-entries-at.false);
}

pub unreachable-requires : goal.unreachable-requires
unreachable-requires c =
    none_passed c.args.entries.now c.args.core c.args.first c.requires.owner (λ k within. c.loop-slots.invariant.passed
    k (omega arith))

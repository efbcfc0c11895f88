use Rattle.std.proofs.Common.{sym, ap, ◌∙◌, arith}
use Rattle.sp_shape.specs.Shown.{parts_of}
use Rattle.bundle_sched.specs.Legal.{has_legal_flow, parts_legal}
use Rattle.bundle_sched.specs.Packing.{from_branch, iteration_packed, left_over, parts_merged}
use Rattle.bundle_sched.proofs.PackingParts.{repeat_packed, repeat_legal, call_left, leave_left, parts_done}
use Rattle.bundle_sched.proofs.packing.+packed.Goals as goal

pub parts_packed-returns-clause-parts : goal.parts_packed-returns-clause-parts
parts_packed-returns-clause-parts t c =
    parts_done c.args.parts.now c.loop-part.part-index c.loop-part.list.items c.loop-part.held.items
    (parts_merged c.args.held.now.items (parts_of c.args.parts.now)) (omega arith) c.loop-part.invariant.parts

pub push_packed-returns-in_ok-push-in-Repeat-clause-out : goal.push_packed-returns-in_ok-push-in-Repeat-clause-out
push_packed-returns-in_ok-push-in-Repeat-clause-out t c = λ rest.
    repeat_packed c.args.part.now c.in-Repeat.count c.in-Repeat.body c.of.result c.in-Repeat.tail
    c.in_ok-tail-in-Repeat.tail c.args.held.now.items
    c.push_held.new.held.items c.args.out.now.items c.push_held.new.out.items c.push.new.self.items rest c.in-Repeat.is
    c.in_ok-push_held-in-Repeat.ensures.held
    c.in_ok-push_held-in-Repeat.ensures.out
    (ap parts_of c.of.ensures ∙ c.in_ok-body-in-Repeat.ensures.parts ∙ (λ k. parts_merged (c.new-end.ensures.items k)
    (parts_of (c.as_slice-in-Repeat.ensures k))))
    (c.in_ok-tail-in-Repeat.ensures.iteration
    ∙ (λ k. iteration_packed (c.as_slice-in-Repeat-2.ensures.value k) (c.as_slice-in-Repeat-3.ensures k))
    ∙ (λ k. iteration_packed (c.in_ok-body-in-Repeat.ensures.left k) c.in-Repeat.tail)
    ∙ (λ k. iteration_packed (left_over (c.new-end.ensures.items k) (parts_of (c.as_slice-in-Repeat.ensures k)))
    c.in-Repeat.tail))
    c.in_ok-push-in-Repeat.ensures.items

pub push_packed-returns-in_ok-push-in-Repeat-clause-legal : goal.push_packed-returns-in_ok-push-in-Repeat-clause-legal
push_packed-returns-in_ok-push-in-Repeat-clause-legal t c =
    repeat_legal c.args.part.now c.in-Repeat.count c.in-Repeat.body c.in-Repeat.tail c.in-Repeat.is
    (ap (λ ps. parts_legal (parts_of ps)) (sym c.as_slice-in-Repeat.ensures) ∙ c.in_ok-body-in-Repeat.ensures.legal)
    (ap (λ bs. has_legal_flow (from_branch bs)) (sym c.as_slice-in-Repeat-3.ensures)
    ∙ c.in_ok-tail-in-Repeat.ensures.legal)

pub push_packed-returns-in_ok-push-in-CallTo-clause-left : goal.push_packed-returns-in_ok-push-in-CallTo-clause-left
push_packed-returns-in_ok-push-in-CallTo-clause-left t c = λ rest.
    call_left c.args.part.now c.in-CallTo.function c.in-CallTo.tail c.args.held.now.items c.push_before.new.held.items
    rest c.in-CallTo.is c.in_ok-tail-in-CallTo.ensures.held

pub push_packed-returns-in_ok-push-in-Leave-clause-left : goal.push_packed-returns-in_ok-push-in-Leave-clause-left
push_packed-returns-in_ok-push-in-Leave-clause-left t c = λ rest.
    leave_left c.args.part.now c.in-Leave.tail c.args.held.now.items c.push_before-in-Leave.new.held.items rest
    c.in-Leave.is c.in_ok-tail-in-Leave.ensures.held

use Rattle.std.proofs.Common.{rules, ◌<◌, ◌==◌, ◌||◌, length, ap, sym, ◌∙◌, subst, arith}
use Rattle.sp_shape.specs.Shown.{parts_of}
use Rattle.sp_shape.proofs.Plain.{straight_said, repeat_said, call_said, leave_said}
use Rattle.cycle_bound.specs.Calls.{CallsBelow}
use Rattle.cycle_bound.specs.Nodes.{part_nodes, parts_nodes}
use Rattle.cycle_bound.proofs.Bodies.{body_nodes}
use Rattle.cycle_bound.proofs.Earlier.{body_below, item_below, called_below}
use Rattle.cycle_bound.proofs.Sums.{item_nodes}
use Rattle.bound_persist.specs.Marks.{is_marked}
use Rattle.bound_persist.specs.Reached.{part_reaches, parts_reach}
use Rattle.bound_persist.proofs.Marking.{marked_one, or_none}
use Rattle.bound_persist.proofs.marks.+mark.Goals as goal

pub mark_part-mark_parts-requires : goal.mark_part-mark_parts-requires
mark_part-mark_parts-requires g t c κs within =
    let less = body_nodes c.args.part.now c.in-Repeat.count c.in-Repeat.body c.in-Repeat.tail c.in-Repeat.is in
    let body = ap (λ ps. parts_nodes (parts_of ps)) c.as_slice.ensures in
    let below = subst (λ ps. CallsBelow c.args.number (parts_of ps)) (sym c.as_slice.ensures)
    (body_below c.args.number c.args.part.now c.in-Repeat.count c.in-Repeat.body c.in-Repeat.tail c.in-Repeat.is
    c.requires.earlier) in
    (omega (arith, c.decreases, less, body), (search rules, (below, c.requires.number)))

pub mark_part-bounds-marks-function : goal.mark_part-bounds-marks-function
mark_part-bounds-marks-function g t c =
    let less = called_below c.args.number c.args.part.now c.in-CallTo.function c.in-CallTo.tail c.in-CallTo.is
    c.requires.earlier in
    let few = c.requires.number in
    omega (arith, less, few)

pub mark_part-returns-in-Straight-clause-marks : goal.mark_part-returns-in-Straight-clause-marks
mark_part-returns-in-Straight-clause-marks g t c =
    λ j.
    let is = ap (part_reaches (λ k. k == j)) (straight_said c.args.part.now c.in-Straight.bundles c.in-Straight.is) in
    sym (or_none (is_marked c.args.marks.now.set j)) ∙ ap (λ b. is_marked c.args.marks.now.set j || b) (sym is)

pub mark_part-returns-in-Straight-clause-steps : goal.mark_part-returns-in-Straight-clause-steps
mark_part-returns-in-Straight-clause-steps g t c =
    let is = ap part_nodes (straight_said c.args.part.now c.in-Straight.bundles c.in-Straight.is) in
    omega (arith, c.tick.ensures, is)

pub mark_part-returns-in-Repeat-clause-marks : goal.mark_part-returns-in-Repeat-clause-marks
mark_part-returns-in-Repeat-clause-marks g t c =
    λ j.
    let is = ap (part_reaches (λ k. k == j)) (repeat_said c.args.part.now c.in-Repeat.count c.in-Repeat.body
    c.in-Repeat.tail c.in-Repeat.is) in
    c.mark_parts.ensures.marks j
    ∙ ap (λ ps. is_marked c.args.marks.now.set j || parts_reach (λ k. k == j) (parts_of ps)) c.as_slice.ensures
    ∙ ap (λ b. is_marked c.args.marks.now.set j || b) (sym is)

pub mark_part-returns-in-Repeat-clause-steps : goal.mark_part-returns-in-Repeat-clause-steps
mark_part-returns-in-Repeat-clause-steps g t c =
    let is = ap part_nodes (repeat_said c.args.part.now c.in-Repeat.count c.in-Repeat.body c.in-Repeat.tail
    c.in-Repeat.is) in
    let body = ap (λ ps. parts_nodes (parts_of ps)) c.as_slice.ensures in
    let most = c.mark_parts.ensures.steps in
    omega (arith, c.tick.ensures, is, body, most)

pub mark_part-returns-in-CallTo-clause-marks : goal.mark_part-returns-in-CallTo-clause-marks
mark_part-returns-in-CallTo-clause-marks g t c =
    λ j.
    let is = ap (part_reaches (λ k. k == j)) (call_said c.args.part.now c.in-CallTo.function c.in-CallTo.tail
    c.in-CallTo.is) in
    let few = mark_part-bounds-marks-function g t c in
    let room : c.in-CallTo.function < length c.args.marks.now.set = omega (arith, few) in
    marked_one c.args.marks.now.set c.in-CallTo.function j room
    ∙ ap (λ b. is_marked c.args.marks.now.set j || b) (sym is)

pub mark_part-returns-in-CallTo-clause-steps : goal.mark_part-returns-in-CallTo-clause-steps
mark_part-returns-in-CallTo-clause-steps g t c =
    let is = ap part_nodes (call_said c.args.part.now c.in-CallTo.function c.in-CallTo.tail c.in-CallTo.is) in
    omega (arith, c.tick.ensures, is)

pub mark_part-returns-in-Leave-clause-marks : goal.mark_part-returns-in-Leave-clause-marks
mark_part-returns-in-Leave-clause-marks g t c =
    λ j.
    let is = ap (part_reaches (λ k. k == j)) (leave_said c.args.part.now c.in-Leave.tail c.in-Leave.is) in
    sym (or_none (is_marked c.args.marks.now.set j)) ∙ ap (λ b. is_marked c.args.marks.now.set j || b) (sym is)

pub mark_part-returns-in-Leave-clause-steps : goal.mark_part-returns-in-Leave-clause-steps
mark_part-returns-in-Leave-clause-steps g t c =
    let is = ap part_nodes (leave_said c.args.part.now c.in-Leave.tail c.in-Leave.is) in
    omega (arith, c.tick.ensures, is)

pub mark_parts-mark_part-requires : goal.mark_parts-mark_part-requires
mark_parts-mark_part-requires g t c κs within =
    let least = item_nodes c.args.parts.now c.loop-part.part-index c.part-item.result (omega arith) c.part-item.is in
    let below = item_below c.args.number c.args.parts.now c.loop-part.part-index c.part-item.result
    (omega arith) c.part-item.is c.requires.earlier in
    (omega (arith, c.decreases, least), (search rules, (below, c.requires.number)))

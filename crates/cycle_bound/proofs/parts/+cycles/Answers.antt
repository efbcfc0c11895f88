use Rattle.std.proofs.Common.{◌+◌, ◌*◌, length, ap, sym, ◌∙◌, subst, arith, rules}
use Rattle.sp_shape.specs.Shown.{parts_of}
use Rattle.cycle_bound.specs.Bound.{bundles_bound, part_bound, parts_bound, bounds}
use Rattle.cycle_bound.specs.Calls.{CallsBelow}
use Rattle.cycle_bound.specs.Held.{held}
use Rattle.cycle_bound.specs.Nodes.{part_nodes, parts_nodes}
use Rattle.cycle_bound.proofs.Earlier.{body_below, item_below}
use Rattle.cycle_bound.proofs.Holding.{held_sum, held_times}
use Rattle.cycle_bound.proofs.Sums.{item_nodes}
use Rattle.cycle_bound.proofs.Bodies.{body_nodes}
use Rattle.sp_shape.proofs.Plain.{straight_said, repeat_said, call_said, leave_said}
use Rattle.cycle_bound.proofs.parts.+cycles.Goals as goal

pub cycles_of_part-returns-in-Straight-clause-cycles : goal.cycles_of_part-returns-in-Straight-clause-cycles
cycles_of_part-returns-in-Straight-clause-cycles g t c =
    λ fs fill knows.
    c.cycles_of_bundles.ensures.cycles ∙ ap (λ bs. held (bundles_bound c.args.each bs)) c.as_slice.ensures
    ∙ ap (λ p. held (part_bound c.args.each fill (bounds fs c.args.each fill c.args.number) c.args.number p)) (sym
    (straight_said c.args.part.now c.in-Straight.bundles c.in-Straight.is))

pub cycles_of_part-returns-in-Straight-clause-steps : goal.cycles_of_part-returns-in-Straight-clause-steps
cycles_of_part-returns-in-Straight-clause-steps g t c =
    let is = ap part_nodes (straight_said c.args.part.now c.in-Straight.bundles c.in-Straight.is) in
    let bundles = ap (λ bs. length bs) c.as_slice.ensures in
    omega (arith, c.tick.ensures, c.cycles_of_bundles.ensures.steps, is, bundles)

pub cycles_of_part-returns-in-Repeat-clause-cycles : goal.cycles_of_part-returns-in-Repeat-clause-cycles
cycles_of_part-returns-in-Repeat-clause-cycles g t c =
    λ fs fill knows.
    let body = parts_bound c.args.each fill (bounds fs c.args.each fill c.args.number) c.args.number
    (parts_of c.in-Repeat.body) in
    let tail = bundles_bound c.args.each c.in-Repeat.tail in
    let iteration = held_sum c.plus-iteration.result c.cycles_of_parts-once.result c.cycles_of_bundles-in-Repeat.result
    body tail c.plus-iteration.ensures
    (c.cycles_of_parts-once.ensures.cycles fs fill knows
    ∙ ap (λ ps. held (parts_bound c.args.each fill (bounds fs c.args.each fill c.args.number) c.args.number
    (parts_of ps))) c.as_slice-in-Repeat.ensures)
    (c.cycles_of_bundles-in-Repeat.ensures.cycles
    ∙ ap (λ bs. held (bundles_bound c.args.each bs)) c.as_slice-in-Repeat-2.ensures) in
    held_times c.times.result c.in-Repeat.count c.plus-iteration.result (body + tail) (c.times.ensures
    ∙ ap (λ n. held (n * c.plus-iteration.result)) c.from.ensures) iteration
    ∙ ap (λ p. held (part_bound c.args.each fill (bounds fs c.args.each fill c.args.number) c.args.number p))
    (sym (repeat_said c.args.part.now c.in-Repeat.count c.in-Repeat.body c.in-Repeat.tail c.in-Repeat.is))

pub cycles_of_part-returns-in-Repeat-clause-steps : goal.cycles_of_part-returns-in-Repeat-clause-steps
cycles_of_part-returns-in-Repeat-clause-steps g t c =
    let is = ap part_nodes (repeat_said c.args.part.now c.in-Repeat.count c.in-Repeat.body c.in-Repeat.tail
    c.in-Repeat.is) in
    let body = ap (λ ps. parts_nodes (parts_of ps)) c.as_slice-in-Repeat.ensures in
    let tail = ap (λ bs. length bs) c.as_slice-in-Repeat-2.ensures in
    omega (
      arith,
      c.tick.ensures,
      c.cycles_of_parts-once.ensures.steps,
      c.cycles_of_bundles-in-Repeat.ensures.steps,
      is,
      body,
      tail,
    )

pub cycles_of_part-returns-in-CallTo-clause-cycles : goal.cycles_of_part-returns-in-CallTo-clause-cycles
cycles_of_part-returns-in-CallTo-clause-cycles g t c =
    λ fs fill knows.
    let call = fill c.in-CallTo.function + fill c.args.number + bounds fs c.args.each fill c.args.number
    c.in-CallTo.function in
    held_sum c.plus.result c.cycles_of_bundles-way.result c.cycles_of_call.result
    (bundles_bound c.args.each c.in-CallTo.tail) call c.plus.ensures
    (c.cycles_of_bundles-way.ensures.cycles
    ∙ ap (λ bs. held (bundles_bound c.args.each bs)) c.as_slice-in-CallTo.ensures)
    (c.cycles_of_call.ensures fs c.args.each fill knows)
    ∙ ap (λ p. held (part_bound c.args.each fill (bounds fs c.args.each fill c.args.number) c.args.number p))
    (sym (call_said c.args.part.now c.in-CallTo.function c.in-CallTo.tail c.in-CallTo.is))

pub cycles_of_part-returns-in-CallTo-clause-steps : goal.cycles_of_part-returns-in-CallTo-clause-steps
cycles_of_part-returns-in-CallTo-clause-steps g t c =
    let is = ap part_nodes (call_said c.args.part.now c.in-CallTo.function c.in-CallTo.tail c.in-CallTo.is) in
    let tail = ap (λ bs. length bs) c.as_slice-in-CallTo.ensures in
    omega (arith, c.tick.ensures, c.cycles_of_bundles-way.ensures.steps, is, tail)

pub cycles_of_part-returns-in-Leave-clause-cycles : goal.cycles_of_part-returns-in-Leave-clause-cycles
cycles_of_part-returns-in-Leave-clause-cycles g t c =
    λ fs fill knows.
    c.cycles_of_bundles-in-Leave.ensures.cycles
    ∙ ap (λ bs. held (bundles_bound c.args.each bs)) c.as_slice-in-Leave.ensures
    ∙ ap (λ p. held (part_bound c.args.each fill (bounds fs c.args.each fill c.args.number) c.args.number p)) (sym
    (leave_said c.args.part.now c.in-Leave.tail c.in-Leave.is))

pub cycles_of_part-returns-in-Leave-clause-steps : goal.cycles_of_part-returns-in-Leave-clause-steps
cycles_of_part-returns-in-Leave-clause-steps g t c =
    let is = ap part_nodes (leave_said c.args.part.now c.in-Leave.tail c.in-Leave.is) in
    let tail = ap (λ bs. length bs) c.as_slice-in-Leave.ensures in
    omega (arith, c.tick.ensures, c.cycles_of_bundles-in-Leave.ensures.steps, is, tail)

pub cycles_of_part-cycles_of_parts-once-requires : goal.cycles_of_part-cycles_of_parts-once-requires
cycles_of_part-cycles_of_parts-once-requires g t c κs within =
    let less = body_nodes c.args.part.now c.in-Repeat.count c.in-Repeat.body c.in-Repeat.tail c.in-Repeat.is in
    let body = ap (λ ps. parts_nodes (parts_of ps)) c.as_slice-in-Repeat.ensures in
    let below = subst (λ ps. CallsBelow c.args.number (parts_of ps)) (sym c.as_slice-in-Repeat.ensures)
    (body_below c.args.number c.args.part.now c.in-Repeat.count c.in-Repeat.body c.in-Repeat.tail c.in-Repeat.is
    c.requires.earlier) in
    (omega (arith, c.decreases, less, body), (search rules, (below, (c.requires.number, c.requires.few))))

pub cycles_of_parts-cycles_of_part-requires : goal.cycles_of_parts-cycles_of_part-requires
cycles_of_parts-cycles_of_part-requires g t c κs within =
    let least = item_nodes c.args.parts.now c.loop-part.part-index c.part-item.result (omega arith) c.part-item.is in
    let below = item_below c.args.number c.args.parts.now c.loop-part.part-index c.part-item.result
    (omega arith) c.part-item.is c.requires.earlier in
    (omega (arith, c.decreases, least), (search rules, (below, (c.requires.number, c.requires.few))))

use Rattle.std.proofs.Common.{length, ap, sym, ◌∙◌, arith}
use Rattle.sp_shape.specs.Shown.{parts_of}
use Rattle.sp_shape.specs.Words.{bundles_words, part_words, parts_words}
use Rattle.cycle_bound.specs.Held.{held}
use Rattle.cycle_bound.specs.Nodes.{part_nodes, parts_nodes}
use Rattle.cycle_bound.proofs.Holding.{held_sum}
use Rattle.sp_shape.proofs.Plain.{straight_said, repeat_said, call_said, leave_said}
use Rattle.cycle_bound.proofs.words.+words.Goals as goal

pub words_of_part-returns-in-Straight-clause-words : goal.words_of_part-returns-in-Straight-clause-words
words_of_part-returns-in-Straight-clause-words g t c =
    c.words_of_bundles.ensures.words ∙ ap (λ bs. held (bundles_words bs)) c.as_slice.ensures
    ∙ ap (λ p. held (part_words p)) (sym (straight_said c.args.part.now c.in-Straight.bundles c.in-Straight.is))

pub words_of_part-returns-in-Straight-clause-steps : goal.words_of_part-returns-in-Straight-clause-steps
words_of_part-returns-in-Straight-clause-steps g t c =
    let is = ap part_nodes (straight_said c.args.part.now c.in-Straight.bundles c.in-Straight.is) in
    let bundles = ap (λ bs. length bs) c.as_slice.ensures in
    omega (arith, c.tick.ensures, c.words_of_bundles.ensures.steps, is, bundles)

pub words_of_part-returns-in-Repeat-clause-words : goal.words_of_part-returns-in-Repeat-clause-words
words_of_part-returns-in-Repeat-clause-words g t c =
    held_sum c.plus.result c.words_of_parts-once.result c.words_of_bundles-in-Repeat.result
    (parts_words (parts_of c.in-Repeat.body)) (bundles_words c.in-Repeat.tail)
    c.plus.ensures
    (c.words_of_parts-once.ensures.words ∙ ap (λ ps. held (parts_words (parts_of ps))) c.as_slice-in-Repeat.ensures)
    (c.words_of_bundles-in-Repeat.ensures.words ∙ ap (λ bs. held (bundles_words bs)) c.as_slice-in-Repeat-2.ensures)
    ∙ ap (λ p. held (part_words p)) (sym (repeat_said c.args.part.now c.in-Repeat.count c.in-Repeat.body
    c.in-Repeat.tail c.in-Repeat.is))

pub words_of_part-returns-in-Repeat-clause-steps : goal.words_of_part-returns-in-Repeat-clause-steps
words_of_part-returns-in-Repeat-clause-steps g t c =
    let is = ap part_nodes (repeat_said c.args.part.now c.in-Repeat.count c.in-Repeat.body c.in-Repeat.tail
    c.in-Repeat.is) in
    let body = ap (λ ps. parts_nodes (parts_of ps)) c.as_slice-in-Repeat.ensures in
    let tail = ap (λ bs. length bs) c.as_slice-in-Repeat-2.ensures in
    omega (
      arith,
      c.tick.ensures,
      c.words_of_parts-once.ensures.steps,
      c.words_of_bundles-in-Repeat.ensures.steps,
      is,
      body,
      tail,
    )

pub words_of_part-returns-in-CallTo-clause-words : goal.words_of_part-returns-in-CallTo-clause-words
words_of_part-returns-in-CallTo-clause-words g t c =
    c.words_of_bundles-in-CallTo.ensures.words ∙ ap (λ bs. held (bundles_words bs)) c.as_slice-in-CallTo.ensures
    ∙ ap (λ p. held (part_words p)) (sym (call_said c.args.part.now c.in-CallTo.function c.in-CallTo.tail
    c.in-CallTo.is))

pub words_of_part-returns-in-CallTo-clause-steps : goal.words_of_part-returns-in-CallTo-clause-steps
words_of_part-returns-in-CallTo-clause-steps g t c =
    let is = ap part_nodes (call_said c.args.part.now c.in-CallTo.function c.in-CallTo.tail c.in-CallTo.is) in
    let tail = ap (λ bs. length bs) c.as_slice-in-CallTo.ensures in
    omega (arith, c.tick.ensures, c.words_of_bundles-in-CallTo.ensures.steps, is, tail)

pub words_of_part-returns-in-Leave-clause-words : goal.words_of_part-returns-in-Leave-clause-words
words_of_part-returns-in-Leave-clause-words g t c =
    c.words_of_bundles-in-Leave.ensures.words ∙ ap (λ bs. held (bundles_words bs)) c.as_slice-in-Leave.ensures
    ∙ ap (λ p. held (part_words p)) (sym (leave_said c.args.part.now c.in-Leave.tail c.in-Leave.is))

pub words_of_part-returns-in-Leave-clause-steps : goal.words_of_part-returns-in-Leave-clause-steps
words_of_part-returns-in-Leave-clause-steps g t c =
    let is = ap part_nodes (leave_said c.args.part.now c.in-Leave.tail c.in-Leave.is) in
    let tail = ap (λ bs. length bs) c.as_slice-in-Leave.ensures in
    omega (arith, c.tick.ensures, c.words_of_bundles-in-Leave.ensures.steps, is, tail)

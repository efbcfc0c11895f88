use Rattle.std.proofs.Common.{◌≡◌, ◌+◌, ◌++◌, ◌∙◌, string_bytes, refl, sym, ap, arith}
use Rattle.tc_word.proofs.Items.{drop_item}
use Rattle.sp_shape.specs.Shown.{parts_of}
use Rattle.sp_shape.specs.Words.{bundles_words, part_words, parts_words}
use Rattle.sp_shape.proofs.Plain.{straight_said, repeat_said, call_said, leave_said}
use Rattle.tc_link.proofs.Bodies.{part_size, parts_size, body_size, item_of}
use Rattle.code_text.specs.Lines.{lines_text, marks}
use Rattle.code_text.specs.Listing.{bundle_lines, part_loops, parts_loops, part_lines, parts_lines, loop_begin, loop_end}
use Rattle.code_text.specs.declared.aims.Aim.TheVariants.{Onward, Loop, Entry}
use Rattle.code_text.proofs.Writing.{loop_text, next_text}
use Rattle.code_text.proofs.parts.+write.Goals as goal

pub write_part-write_bundles-requires : goal.write_part-write_bundles-requires
write_part-write_bundles-requires t c =
    let is = ap part_words (straight_said c.args.part.now c.in-Straight.bundles c.in-Straight.is) in
    omega (arith, is, ap bundles_words c.as_slice.ensures, c.requires.small)

pub write_part-returns-in_ok-at-in-Straight-clause-text : goal.write_part-returns-in_ok-at-in-Straight-clause-text
write_part-returns-in_ok-at-in-Straight-clause-text t c =
    let old = string_bytes c.args.text.now in
    c.in_ok-at-in-Straight.ensures.text
    ∙ ap (λ bs. old ++ lines_text (bundle_lines c.args.names.now c.args.words.now Onward c.args.spot.at bs))
    c.as_slice.ensures
    ∙ ap (λ p. old ++ lines_text (part_lines c.args.names.now c.args.words.now c.args.spot.at c.args.spot.loop_number
    p)) (sym (straight_said c.args.part.now c.in-Straight.bundles c.in-Straight.is))

pub write_part-returns-in_ok-at-in-Straight-clause-at : goal.write_part-returns-in_ok-at-in-Straight-clause-at
write_part-returns-in_ok-at-in-Straight-clause-at t c =
    let is = ap part_words (straight_said c.args.part.now c.in-Straight.bundles c.in-Straight.is) in
    omega (arith, is, ap bundles_words c.as_slice.ensures, c.in_ok-at-in-Straight.ensures.next)

pub write_part-returns-in_ok-at-in-Straight-clause-loop_number : goal.write_part-returns-in_ok-at-in-Straight-clause-loop_number
write_part-returns-in_ok-at-in-Straight-clause-loop_number t c =
    let is = ap part_loops (straight_said c.args.part.now c.in-Straight.bundles c.in-Straight.is) in
    omega (arith, is)

pub write_part-write_bundles-requires-in-CallTo : goal.write_part-write_bundles-requires-in-CallTo
write_part-write_bundles-requires-in-CallTo t c =
    let is = ap part_words (call_said c.args.part.now c.in-CallTo.function c.in-CallTo.tail c.in-CallTo.is) in
    omega (arith, is, ap bundles_words c.as_slice-in-CallTo.ensures, c.requires.small)

pub write_part-returns-in_ok-at-in-CallTo-clause-text : goal.write_part-returns-in_ok-at-in-CallTo-clause-text
write_part-returns-in_ok-at-in-CallTo-clause-text t c =
    let old = string_bytes c.args.text.now in
    c.in_ok-at-in-CallTo.ensures.text
    ∙ ap (λ bs. old ++ lines_text (bundle_lines c.args.names.now c.args.words.now (Entry c.in-CallTo.function)
    c.args.spot.at bs)) c.as_slice-in-CallTo.ensures
    ∙ ap (λ p. old ++ lines_text (part_lines c.args.names.now c.args.words.now c.args.spot.at c.args.spot.loop_number
    p)) (sym (call_said c.args.part.now c.in-CallTo.function c.in-CallTo.tail c.in-CallTo.is))

pub write_part-returns-in_ok-at-in-CallTo-clause-at : goal.write_part-returns-in_ok-at-in-CallTo-clause-at
write_part-returns-in_ok-at-in-CallTo-clause-at t c =
    let is = ap part_words (call_said c.args.part.now c.in-CallTo.function c.in-CallTo.tail c.in-CallTo.is) in
    omega (arith, is, ap bundles_words c.as_slice-in-CallTo.ensures, c.in_ok-at-in-CallTo.ensures.next)

pub write_part-returns-in_ok-at-in-CallTo-clause-loop_number : goal.write_part-returns-in_ok-at-in-CallTo-clause-loop_number
write_part-returns-in_ok-at-in-CallTo-clause-loop_number t c =
    let is = ap part_loops (call_said c.args.part.now c.in-CallTo.function c.in-CallTo.tail c.in-CallTo.is) in
    omega (arith, is)

pub write_part-write_bundles-requires-in-Leave : goal.write_part-write_bundles-requires-in-Leave
write_part-write_bundles-requires-in-Leave t c =
    let is = ap part_words (leave_said c.args.part.now c.in-Leave.tail c.in-Leave.is) in
    omega (arith, is, ap bundles_words c.as_slice-in-Leave.ensures, c.requires.small)

pub write_part-returns-in_ok-at-in-Leave-clause-text : goal.write_part-returns-in_ok-at-in-Leave-clause-text
write_part-returns-in_ok-at-in-Leave-clause-text t c =
    let old = string_bytes c.args.text.now in
    c.in_ok-at-in-Leave.ensures.text
    ∙ ap (λ bs. old ++ lines_text (bundle_lines c.args.names.now c.args.words.now Onward c.args.spot.at bs))
    c.as_slice-in-Leave.ensures
    ∙ ap (λ p. old ++ lines_text (part_lines c.args.names.now c.args.words.now c.args.spot.at c.args.spot.loop_number
    p)) (sym (leave_said c.args.part.now c.in-Leave.tail c.in-Leave.is))

pub write_part-returns-in_ok-at-in-Leave-clause-at : goal.write_part-returns-in_ok-at-in-Leave-clause-at
write_part-returns-in_ok-at-in-Leave-clause-at t c =
    let is = ap part_words (leave_said c.args.part.now c.in-Leave.tail c.in-Leave.is) in
    omega (arith, is, ap bundles_words c.as_slice-in-Leave.ensures, c.in_ok-at-in-Leave.ensures.next)

pub write_part-returns-in_ok-at-in-Leave-clause-loop_number : goal.write_part-returns-in_ok-at-in-Leave-clause-loop_number
write_part-returns-in_ok-at-in-Leave-clause-loop_number t c =
    let is = ap part_loops (leave_said c.args.part.now c.in-Leave.tail c.in-Leave.is) in
    omega (arith, is)

pub write_part-write_parts-requires : goal.write_part-write_parts-requires
write_part-write_parts-requires t c =
    let less = body_size c.args.part.now c.in-Repeat.count c.in-Repeat.body c.in-Repeat.tail c.in-Repeat.is in
    let body = ap (λ ps. parts_size (parts_of ps)) c.as_slice-in-Repeat.ensures in
    let words = ap part_words (repeat_said c.args.part.now c.in-Repeat.count c.in-Repeat.body c.in-Repeat.tail
    c.in-Repeat.is) in
    let loops = ap part_loops (repeat_said c.args.part.now c.in-Repeat.count c.in-Repeat.body c.in-Repeat.tail
    c.in-Repeat.is) in
    let inner = ap (λ ps. parts_words (parts_of ps)) c.as_slice-in-Repeat.ensures in
    let iterations = ap (λ ps. parts_loops (parts_of ps)) c.as_slice-in-Repeat.ensures in (
      omega (arith, c.decreases, less, body),
      (
        omega (arith, words, inner, c.requires.small),
        omega (arith, loops, iterations, c.requires.few),
      ),
    )

pub write_part-write_bundles-requires-in-Repeat : goal.write_part-write_bundles-requires-in-Repeat
write_part-write_bundles-requires-in-Repeat t c =
    let words = ap part_words (repeat_said c.args.part.now c.in-Repeat.count c.in-Repeat.body c.in-Repeat.tail
    c.in-Repeat.is) in
    let inner = ap (λ ps. parts_words (parts_of ps)) c.as_slice-in-Repeat.ensures in
    omega (
      arith,
      words,
      inner,
      ap bundles_words c.as_slice-in-Repeat-2.ensures,
      c.in_ok-next-in-Repeat.ensures.at,
      c.requires.small,
    )

pub write_part-returns-in_ok-write_end-in-Repeat-clause-text : goal.write_part-returns-in_ok-write_end-in-Repeat-clause-text
write_part-returns-in_ok-write_end-in-Repeat-clause-text t c =
    let names = c.args.names.now in
    let words = c.args.words.now in
    let old = string_bytes c.args.text.now in
    let at = c.args.spot.at in
    let loop_number = c.args.spot.loop_number in
    let inner = parts_lines names words at (loop_number + 1) (parts_of c.in-Repeat.body) in
    let behind : c.in_ok-next-in-Repeat.next.at ≡ at + parts_words (parts_of c.in-Repeat.body) =
    c.in_ok-next-in-Repeat.ensures.at ∙ ap (λ ps. at + parts_words (parts_of ps)) c.as_slice-in-Repeat.ensures in
    let way = bundle_lines names words (Loop loop_number) (at + parts_words (parts_of c.in-Repeat.body))
    c.in-Repeat.tail in
    loop_text old (string_bytes c.write_begin.new.text) (string_bytes c.write_parts.new.text)
    (string_bytes c.write_bundles-in-Repeat.new.text) (string_bytes c.write_end.new.text)
    (loop_begin loop_number c.in-Repeat.count) (marks loop_number) (loop_end loop_number) inner way
    c.in_ok-write_begin-in-Repeat.ensures
    (c.in_ok-next-in-Repeat.ensures.text ∙ ap (λ ps. string_bytes c.write_begin.new.text
    ++ lines_text (parts_lines names words at (loop_number + 1) (parts_of ps))) c.as_slice-in-Repeat.ensures)
    (c.in_ok-at-in-Repeat.ensures.text
    ∙ ap (λ n. string_bytes c.write_parts.new.text ++ lines_text (bundle_lines names words (Loop loop_number) n
    c.as_slice-in-Repeat-2.result.now)) behind
    ∙ ap (λ bs. string_bytes c.write_parts.new.text ++ lines_text (bundle_lines names words (Loop loop_number)
    (at + parts_words (parts_of c.in-Repeat.body)) bs)) c.as_slice-in-Repeat-2.ensures)
    c.in_ok-write_end-in-Repeat.ensures
    ∙ ap (λ p. old ++ lines_text (part_lines names words at loop_number p)) (sym
    (repeat_said c.args.part.now c.in-Repeat.count c.in-Repeat.body c.in-Repeat.tail c.in-Repeat.is))

pub write_part-returns-in_ok-write_end-in-Repeat-clause-at : goal.write_part-returns-in_ok-write_end-in-Repeat-clause-at
write_part-returns-in_ok-write_end-in-Repeat-clause-at t c =
    let words = ap part_words (repeat_said c.args.part.now c.in-Repeat.count c.in-Repeat.body c.in-Repeat.tail
    c.in-Repeat.is) in
    let inner = ap (λ ps. parts_words (parts_of ps)) c.as_slice-in-Repeat.ensures in
    omega (
      arith,
      words,
      inner,
      ap bundles_words c.as_slice-in-Repeat-2.ensures,
      c.in_ok-next-in-Repeat.ensures.at,
      c.in_ok-at-in-Repeat.ensures.next,
    )

pub write_part-returns-in_ok-write_end-in-Repeat-clause-loop_number : goal.write_part-returns-in_ok-write_end-in-Repeat-clause-loop_number
write_part-returns-in_ok-write_end-in-Repeat-clause-loop_number t c =
    let loops = ap part_loops (repeat_said c.args.part.now c.in-Repeat.count c.in-Repeat.body c.in-Repeat.tail
    c.in-Repeat.is) in
    let iterations = ap (λ ps. parts_loops (parts_of ps)) c.as_slice-in-Repeat.ensures in
    omega (arith, loops, iterations, c.in_ok-next-in-Repeat.ensures.loop_number)

pub write_parts-write_part-requires : goal.write_parts-write_part-requires
write_parts-write_part-requires t c =
    let parts = c.args.parts.now in
    let i = c.loop-part.part-index in
    let least = item_of part_size parts_size (λ p rest. refl) parts i c.part-item.result (omega arith) c.part-item.is in
    let front = drop_item parts i c.part-item.result (omega arith) c.part-item.is in
    let words = ap (λ ps. parts_words (parts_of ps)) front in
    let loops = ap (λ ps. parts_loops (parts_of ps)) front in (
      omega (arith, c.decreases, least),
      (
        omega (arith, words, c.loop-part.invariant.at, c.requires.small),
        omega (arith, loops, c.loop-part.invariant.loop_number, c.requires.few),
      ),
    )

pub write_parts-loop-part-preserved : goal.write_parts-loop-part-preserved
write_parts-loop-part-preserved t c =
    let parts = c.args.parts.now in
    let i = c.loop-part.part-index in
    let front = drop_item parts i c.part-item.result (omega arith) c.part-item.is in
    record {
      text = next_text c.args.names.now c.args.words.now (string_bytes c.loop-part.text)
          (string_bytes c.write_part.new.text) c.loop-part.spot.at c.loop-part.spot.loop_number c.in_ok-spot.spot.at
          c.in_ok-spot.spot.loop_number
          parts i c.part-item.result (omega arith) c.part-item.is c.in_ok-spot.ensures.text c.in_ok-spot.ensures.at
          c.in_ok-spot.ensures.loop_number ∙ c.loop-part.invariant.text;
      at = omega (arith, c.in_ok-spot.ensures.at, ap (λ ps. parts_words (parts_of ps)) front, c.loop-part.invariant.at);
      loop_number = omega (
        arith,
        c.in_ok-spot.ensures.loop_number,
        ap (λ ps. parts_loops (parts_of ps)) front,
        c.loop-part.invariant.loop_number,
      );
    }

use Rattle.std.proofs.Common.{◌≡◌, ◌+◌, ◌-◌, OnOk, drop, slice_index, refl, ap, subst, arith}
use Rattle.std.specs.List.{All}
use Rattle.std.proofs.lemmas.Grind.{common_steps}
use Rattle.std.proofs.lemmas.List.Elements.{All-append}
use Rattle.std.proofs.lemmas.Result.{on_ok_weaker}
use Rattle.patmos_instr.specs.Bundles.{FitsBundle}
use Rattle.sp_shape.specs.Shown.{plain_part, parts_of}
use Rattle.tc_link.specs.Flat.{turned, flat_part, flat_parts}
use Rattle.sp_shape.specs.Words.{bundles_words, part_words, parts_words}
use Rattle.tc_link.proofs.Counted.{body_small, body_length, repeat_words, iteration_bundles, added_after}
use Rattle.tc_link.proofs.Fitting.{fit_from}
use Rattle.tc_link.proofs.Bodies.{part_size, parts_size, body_size, item_of}
use Rattle.tc_link.proofs.words.+push.Goals as goal

pub push_part-push_parts-requires : goal.push_part-push_parts-requires
push_part-push_parts-requires t c =
    let less = body_size c.args.part.now c.in-Repeat.count c.in-Repeat.body c.in-Repeat.tail c.in-Repeat.is in
    let body = ap (λ ps. parts_size (parts_of ps)) c.as_slice-in-Repeat.ensures in (
      omega (arith, c.decreases, less, body),
      body_small c.args.part.now c.in-Repeat.count c.in-Repeat.body c.as_slice-in-Repeat.result.now c.in-Repeat.tail _
          c.in-Repeat.is c.as_slice-in-Repeat.ensures c.requires,
    )

pub push_part-overflow_cast-body : goal.push_part-overflow_cast-body
push_part-overflow_cast-body t c =
    let more = body_length (slice_index c.args.places.now) (parts_of c.as_slice-in-Repeat.result.now)
    c.args.words.now.items c.push_parts.new.words.items c.in_ok-push_parts-in-Repeat.ensures.words in
    let body = ap (λ ps. parts_words (parts_of ps)) c.as_slice-in-Repeat.ensures in
    let whole = repeat_words c.args.part.now c.in-Repeat.count c.in-Repeat.body c.in-Repeat.tail c.in-Repeat.is in
    omega (arith, more, body, whole, c.requires, c.len.ensures, c.len-begin.ensures)

pub push_part-push_iteration-requires : goal.push_part-push_iteration-requires
push_part-push_iteration-requires t c =
    let more = body_length (slice_index c.args.places.now) (parts_of c.as_slice-in-Repeat.result.now)
    c.args.words.now.items c.push_parts.new.words.items c.in_ok-push_parts-in-Repeat.ensures.words in
    let body = ap (λ ps. parts_words (parts_of ps)) c.as_slice-in-Repeat.ensures in
    let tail = ap bundles_words c.as_slice-in-Repeat-2.ensures in
    let whole = repeat_words c.args.part.now c.in-Repeat.count c.in-Repeat.body c.in-Repeat.tail c.in-Repeat.is in
    omega (arith, more, body, tail, whole, c.requires, c.len.ensures, c.len-begin.ensures)

pub push_part-returns-in_ok-push_parts-in-Repeat-clause-words : goal.push_part-returns-in_ok-push_parts-in-Repeat-clause-words
push_part-returns-in_ok-push_parts-in-Repeat-clause-words t c =
    let start = slice_index c.args.places.now in
    let body = flat_parts start (parts_of c.as_slice-in-Repeat.result.now) in
    let words = c.len.result - c.len-begin.result in
    let iteration = turned words c.as_slice-in-Repeat-2.result.now in
    let is = iteration_bundles start c.args.part.now c.in-Repeat.count c.in-Repeat.body c.as_slice-in-Repeat.result.now
    c.in-Repeat.tail c.as_slice-in-Repeat-2.result.now
    c.args.words.now.items c.push_parts.new.words.items words c.in-Repeat.is c.as_slice-in-Repeat.ensures
    c.as_slice-in-Repeat-2.ensures
    c.in_ok-push_parts-in-Repeat.ensures.words (omega (arith, c.len.ensures, c.len-begin.ensures)) in
    subst (λ ws. OnOk c.push_iteration.result (c.push_iteration.new.words.items ≡ ws))
    (added_after c.args.words.now.items c.push_parts.new.words.items body iteration
    (flat_part start (plain_part c.args.part.now)) c.in_ok-push_parts-in-Repeat.ensures.words is)
    c.push_iteration.ensures.words

pub push_part-returns-in_ok-push_parts-in-Repeat-clause-fit : goal.push_part-returns-in_ok-push_parts-in-Repeat-clause-fit
push_part-returns-in_ok-push_parts-in-Repeat-clause-fit t c =
    let start = slice_index c.args.places.now in
    let body = flat_parts start (parts_of c.as_slice-in-Repeat.result.now) in
    let words = c.len.result - c.len-begin.result in
    let iteration = turned words c.as_slice-in-Repeat-2.result.now in
    let is = iteration_bundles start c.args.part.now c.in-Repeat.count c.in-Repeat.body c.as_slice-in-Repeat.result.now
    c.in-Repeat.tail c.as_slice-in-Repeat-2.result.now
    c.args.words.now.items c.push_parts.new.words.items words c.in-Repeat.is c.as_slice-in-Repeat.ensures
    c.as_slice-in-Repeat-2.ensures
    c.in_ok-push_parts-in-Repeat.ensures.words (omega (arith, c.len.ensures, c.len-begin.ensures)) in
    on_ok_weaker c.push_iteration.result (λ fits. subst (All FitsBundle) is
    (All-append FitsBundle body iteration c.in_ok-push_parts-in-Repeat.ensures.fit fits))
    c.push_iteration.ensures.fit

pub push_parts-loop-part-preserved : goal.push_parts-loop-part-preserved
push_parts-loop-part-preserved t c =
    let start = slice_index c.args.places.now in
    let parts = c.args.parts.now in
    let i = c.loop-part.part-index in
    record {
      words = grind (arith, common_steps);
      fit = λ rest. c.loop-part.invariant.fit (fit_from (λ ps. flat_parts start (parts_of ps)) parts i
          c.part-item.result (omega arith) c.part-item.is
          (All-append FitsBundle (flat_part start (plain_part c.part-item.result))
          (flat_parts start (parts_of (drop (i + 1) parts))) c.in_ok-push_part.ensures.fit rest));
    }

pub push_parts-push_part-requires : goal.push_parts-push_part-requires
push_parts-push_part-requires t c =
    let least = item_of part_size parts_size (λ p rest. refl) c.args.parts.now c.loop-part.part-index c.part-item.result
    (omega arith) c.part-item.is in
    let words = item_of part_words parts_words (λ p rest. refl) c.args.parts.now c.loop-part.part-index
    c.part-item.result (omega arith) c.part-item.is in
    (omega (arith, c.decreases, least), omega (arith, c.requires, words))

use Rattle.std.proofs.Common.{arith, refl, ap}
use Rattle.sp_shape.specs.Shown.{parts_of}
use Rattle.sp_shape.specs.Words.{part_words, parts_words}
use Rattle.tc_link.proofs.Counted.{body_small}
use Rattle.tc_link.proofs.Bodies.{part_size, parts_size, body_size, item_of}
use Rattle.tc_link.proofs.sizes.+words.Goals as goal

pub words_of_part-words_of_parts-requires : goal.words_of_part-words_of_parts-requires
words_of_part-words_of_parts-requires t c =
    let less = body_size c.args.part.now c.in-Repeat.count c.in-Repeat.body c.in-Repeat.tail c.in-Repeat.is in
    let body = ap (λ ps. parts_size (parts_of ps)) c.as_slice-in-Repeat.ensures in (
      omega (arith, c.decreases, less, body),
      body_small c.args.part.now c.in-Repeat.count c.in-Repeat.body c.as_slice-in-Repeat.result.now c.in-Repeat.tail _
          c.in-Repeat.is c.as_slice-in-Repeat.ensures c.requires,
    )

pub words_of_parts-words_of_part-words-requires : goal.words_of_parts-words_of_part-words-requires
words_of_parts-words_of_part-words-requires t c =
    let least = item_of part_size parts_size (λ p rest. refl) c.args.parts.now c.loop-part.part-index c.part-item.result
    (omega arith) c.part-item.is in
    let words = item_of part_words parts_words (λ p rest. refl) c.args.parts.now c.loop-part.part-index
    c.part-item.result (omega arith) c.part-item.is in
    (omega (arith, c.decreases, least), omega (arith, c.requires, words))

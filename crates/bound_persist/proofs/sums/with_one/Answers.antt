use Rattle.std.proofs.Common.{◌+◌, ◌*◌, ap, sym, ◌∙◌}
use Rattle.sp_shape.specs.Shown.{parts_of}
use Rattle.sp_shape.specs.Words.{parts_words}
use Rattle.cycle_bound.specs.Bound.{transactions}
use Rattle.cycle_bound.specs.Held.{held}
use Rattle.bound_persist.proofs.Summing.{sums_more}
use Rattle.bound_persist.proofs.sums.with_one.Goals as goal

pub returns-clause-sums : goal.returns-clause-sums
returns-clause-sums g c =
    λ fs own told.
    sums_more fs c.args.each c.args.number c.args.marks.now.set c.args.sums c.words_of_parts-own.result
    c.cycles_of_fill.result c.plus-words.result c.plus-fills.result
    c.if-not-marks-number.false (c.words_of_parts-own.ensures.words ∙ ap (λ ps. held (parts_words ps)) (sym own))
    (c.cycles_of_fill.ensures (parts_words (parts_of c.args.parts.now)) c.words_of_parts-own.ensures.words
    ∙ ap (λ ps. held (c.args.each * transactions (1 + parts_words ps))) (sym own))
    c.plus-words.ensures c.plus-fills.ensures told

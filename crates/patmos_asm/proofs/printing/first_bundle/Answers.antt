use Rattle.patmos_asm.proofs.Targets.{one_word_first, two_words_first}
use Rattle.patmos_asm.proofs.printing.first_bundle.Goals as goal

pub returns-in-len2-up-clause-bundle : goal.returns-in-len2-up-clause-bundle
returns-in-len2-up-clause-bundle c = λ at.
    one_word_first c.args.words.now _ at c.in-len2-up.len_at_least c.if-first.true c.decode-in-len2-up.ensures.computed

pub returns-in-len2-up-2-clause-bundle : goal.returns-in-len2-up-2-clause-bundle
returns-in-len2-up-2-clause-bundle c = λ at.
    two_words_first c.args.words.now _ at c.in-len2-up.len_at_least c.if-first.false
    c.decode-in-len2-up-2.ensures.computed

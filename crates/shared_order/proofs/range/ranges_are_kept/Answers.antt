use Rattle.shared_order.proofs.RangesApart.{apart_keeps, loads_fit}
use Rattle.shared_order.proofs.Fits.{good_kept, words_kept, operations_fit, fit-then}
use Rattle.shared_order.proofs.range.ranges_are_kept.Goals as goal

pub returns-clause-good : goal.returns-clause-good
returns-clause-good g c = λ turn n words. good_kept turn n g.X.Ranged.in_range words

pub returns-clause-words : goal.returns-clause-words
returns-clause-words g c = λ turn n words. words_kept turn n g.X.Ranged.in_range words

pub returns-clause-operations : goal.returns-clause-operations
returns-clause-operations g c = λ turn n words. operations_fit turn n g.X.Ranged.in_range words

pub returns-clause-in_parts : goal.returns-clause-in_parts
returns-clause-in_parts g c = λ words prefix back. fit-then g.X.Ranged.in_range g.X.Ranged.in_range words prefix back

pub returns-clause-read : goal.returns-clause-read
returns-clause-read g c = loads_fit

pub returns-clause-apart : goal.returns-clause-apart
returns-clause-apart g c = λ turn n core words x values t keep good given.
    (apart_keeps turn n core words g.X.Ranged.in_range x values t keep good given).good

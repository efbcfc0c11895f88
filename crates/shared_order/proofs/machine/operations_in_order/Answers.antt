use Rattle.shared_order.proofs.ByCycles.{all_rising, all_low, all_reads, words_are_stored, word_is_stored}
use Rattle.shared_order.proofs.machine.operations_in_order.Goals as goal

pub returns-clause-rising : goal.returns-clause-rising
returns-clause-rising g c = λ turn n. all_rising turn n

pub returns-clause-below : goal.returns-clause-below
returns-clause-below g c = λ turn n. all_low turn n

pub returns-clause-reads : goal.returns-clause-reads
returns-clause-reads g c = λ turn n. all_reads turn n

pub returns-clause-words : goal.returns-clause-words
returns-clause-words g c = λ turn n. words_are_stored turn n

pub returns-clause-word : goal.returns-clause-word
returns-clause-word g c = λ turn n. word_is_stored turn n

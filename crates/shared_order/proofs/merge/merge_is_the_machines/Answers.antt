use Rattle.shared_order.proofs.ByCycles.{merge_is_all, merge_words, merge_core, machine_is_merge}
use Rattle.shared_order.proofs.merge.merge_is_the_machines.Goals as goal

pub returns-clause-operations : goal.returns-clause-operations
returns-clause-operations g c = λ turn n. merge_is_all turn n

pub returns-clause-words : goal.returns-clause-words
returns-clause-words g c = λ turn n. merge_words turn n

pub returns-clause-cores : goal.returns-clause-cores
returns-clause-cores g c = λ turn n. merge_core turn n

pub returns-clause-own : goal.returns-clause-own
returns-clause-own g c = λ turn n. machine_is_merge turn n

use Rattle.shared_order.proofs.Merging.{begins, next, played_reads, operations_grow, operations_stay, ends}
use Rattle.shared_order.proofs.merge.merge_goes_on.Goals as goal

pub returns-clause-begins : goal.returns-clause-begins
returns-clause-begins g c = begins

pub returns-clause-next : goal.returns-clause-next
returns-clause-next g c = next

pub returns-clause-played : goal.returns-clause-played
returns-clause-played g c = λ made s p. played_reads made s p

pub returns-clause-own : goal.returns-clause-own
returns-clause-own g c = operations_grow

pub returns-clause-others : goal.returns-clause-others
returns-clause-others g c = operations_stay

pub returns-clause-ends : goal.returns-clause-ends
returns-clause-ends g c = λ turn n. ends turn n

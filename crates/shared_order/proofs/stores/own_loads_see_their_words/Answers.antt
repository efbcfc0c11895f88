use Rattle.std.proofs.Common.{[], refl}
use Rattle.shared_order.specs.SomeWords.{IsSome}
use Rattle.shared_order.proofs.SomeWords.{on_all, all_on, part_sees}
use Rattle.shared_order.proofs.Words.{sees_from}
use Rattle.shared_order.proofs.stores.own_loads_see_their_words.Goals as goal

pub returns-clause-zeros : goal.returns-clause-zeros
returns-clause-zeros c = sees_from []

pub returns-clause-some : goal.returns-clause-some
returns-clause-some c = λ among. on_all (IsSome among)

pub returns-clause-own : goal.returns-clause-own
returns-clause-own c =
    λ among n core words os leave h. part_sees (IsSome among) n core words words os (λ word here. refl) leave h

pub returns-clause-all : goal.returns-clause-all
returns-clause-all c = λ among. all_on (IsSome among)

use Rattle.shared_order.specs.SomeWords.{IsSome}
use Rattle.core_pace.proofs.Packets.{OwnSees, made_so, own_sees}
use Rattle.core_pace.proofs.stores.packets_are_all_besides.Goals as goal

pub returns-clause-stores : goal.returns-clause-stores
returns-clause-stores c =
    λ n core x values among cycles coming h. made_so n core x values (IsSome among) cycles coming h

pub returns-clause-sees : goal.returns-clause-sees
returns-clause-sees c =
    λ n core x values among words cycles coming h. (own_sees n core x values (IsSome among) words cycles coming h).sees

use Rattle.shared_order.proofs.Parts.{then-done, played-then, fed-then}
use Rattle.shared_order.proofs.program.turn_in_parts.Goals as goal

pub returns-clause-whole : goal.returns-clause-whole
returns-clause-whole g c = then-done

pub returns-clause-played : goal.returns-clause-played
returns-clause-played g c = λ s prefix back words. played-then s prefix back words

pub returns-clause-fed : goal.returns-clause-fed
returns-clause-fed g c = λ s prefix back values. fed-then s prefix back values

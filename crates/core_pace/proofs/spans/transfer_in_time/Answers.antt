use Rattle.core_pace.proofs.Moves.{moves_all}
use Rattle.core_pace.proofs.spans.transfer_in_time.Goals as goal

pub returns-clause-passes : goal.returns-clause-passes
returns-clause-passes c = λ n core x values m due passes. (moves_all n core x values m due passes).passes

pub returns-clause-free : goal.returns-clause-free
returns-clause-free c = λ n core x values m due passes. (moves_all n core x values m due passes).cycle

pub returns-clause-pace : goal.returns-clause-pace
returns-clause-pace c = λ n core x values m due passes. (moves_all n core x values m due passes).left.pace

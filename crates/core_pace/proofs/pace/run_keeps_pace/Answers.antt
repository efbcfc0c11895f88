use Rattle.std.proofs.Common.{arith}
use Rattle.core_pace.specs.Run.{starting}
use Rattle.core_pace.proofs.Bundlewise.{all_passed, clock_cycle}
use Rattle.core_pace.proofs.Longest.{clock_within}
use Rattle.core_pace.proofs.pace.run_keeps_pace.Goals as goal

pub returns-clause-pace : goal.returns-clause-pace
returns-clause-pace c = λ n core site input values count slots. (all_passed n core site input values count slots).pace

pub returns-clause-cycle : goal.returns-clause-cycle
returns-clause-cycle c = λ n core site input values count slots. clock_cycle n core site input values count slots

pub returns-clause-bound : goal.returns-clause-bound
returns-clause-bound c = λ site events slots. omega (arith, clock_within site events (starting site) slots)

use Rattle.core_pace.proofs.Bundlewise.{all_passed, runs_later}
use Rattle.core_pace.proofs.run.run_by_bundles.Goals as goal

pub returns-clause-passes : goal.returns-clause-passes
returns-clause-passes c =
    λ n core site input values count slots. (all_passed n core site input values count slots).passes

pub returns-clause-comes : goal.returns-clause-comes
returns-clause-comes c = λ n core site input values count slots. (all_passed n core site input values count slots).comes

pub returns-clause-free : goal.returns-clause-free
returns-clause-free c = λ n core site input values count slots. (all_passed n core site input values count slots).free

pub returns-clause-later : goal.returns-clause-later
returns-clause-later c =
    λ n core site input values count slots runs. runs_later n core site input values count slots runs

use Rattle.core_pace.proofs.Bundlewise.{cut_accesses, cut_bundles, cut_ended, cut_ended_there}
use Rattle.core_pace.proofs.Growing.{told_before}
use Rattle.core_pace.proofs.run.run_cut_at_a_cycle.Goals as goal

pub returns-clause-run : goal.returns-clause-run
returns-clause-run c = told_before

pub returns-clause-accesses : goal.returns-clause-accesses
returns-clause-accesses c =
    λ n core site input values count cycles slots early. cut_accesses n core site input values count cycles slots early

pub returns-clause-bundles : goal.returns-clause-bundles
returns-clause-bundles c =
    λ n core site input values count cycles slots early. cut_bundles n core site input values count cycles slots early

pub returns-clause-ended : goal.returns-clause-ended
returns-clause-ended c = λ n core site input values count cycles slots still later. cut_ended n core site input values
    count cycles slots still later

pub returns-clause-ended_there : goal.returns-clause-ended_there
returns-clause-ended_there c =
    λ n core site input values count slots runs still. cut_ended_there n core site input values count slots runs still

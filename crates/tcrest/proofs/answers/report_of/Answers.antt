use Rattle.std.proofs.Common.{map, sym, subst, ap, ◌∙◌}
use Rattle.global_step.specs.Machine.{at_limit}
use Rattle.global_step.specs.Range.{board_words}
use Rattle.tc_run.specs.Final.{AreFinal}
use Rattle.job_tasks.specs.Coding.{runs, all_shown}
use Rattle.job_rows.specs.Machine.{cores_from}
use Rattle.job_rows.specs.Rows.{rows_of}
use Rattle.job_rows.proofs.RowsFound.{begin_in_range}
use Rattle.tcrest.proofs.ReportFound.{report_is}
use Rattle.tcrest.proofs.Telling.{always, report_tells}
use Rattle.tcrest.proofs.answers.report_of.Goals as goal

pub returns-clause-answer : goal.returns-clause-answer
returns-clause-answer g c =
    let m = c.in_ok-loaded.loaded in
    let rows = c.in_ok-rows.ensures m (subst (AreFinal m) (sym c.as_slice.ensures) c.in_ok-end.ensures.cores)
    ∙ ap (λ ts. rows_of m.limit m.trace (map runs ts) (at_limit m)) c.deref.ensures.value in
    report_is c.args.job.now (all_shown c.args.coded.items) c.in_ok-loaded.tasks.items m c.in_ok-rows.rows.items
    c.reported.result
    c.in_ok-loaded.ensures.loaded c.in_ok-loaded.ensures.runs rows c.reported.ensures

pub returns-clause-reported : goal.returns-clause-reported
returns-clause-reported g c =
    let m = c.in_ok-loaded.loaded in
    let job = c.args.job.now in
    let coded = all_shown c.args.coded.items in
    let fits = begin_in_range job (cores_from job 0 coded) m (board_words m) c.in_ok-loaded.ensures.loaded
    (λ core. c.machine_keeps_ranges.ensures.cores m 0 core c.loaded_with_words.ensures) in
    always c.reported.result (report_tells job c.keeps_ranges.ensures coded c.requires.made (board_words m) fits)

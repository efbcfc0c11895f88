-- For proofs. What `pipe` tells of its core, as the code makes it.
use Rattle.std.specs.Prelude.{ℕ, [], ◌∷◌, Some}
use Rattle.c_mentions.specs.Alone.{is_alone}
use Rattle.patmos_model.specs.Outcome.{state_at}
use Rattle.patmos_model.specs.State.{Core}
use Rattle.patmos_model.specs.declared.state.CoreState.{CoreState}
use Rattle.pipe_five.specs.Steps.{core_before}
use Rattle.tc_job.specs.declared.job.Job.{Job}
use Rattle.tc_report.specs.declared.rows.Row.{Row}
use Rattle.job_tasks.specs.declared.answers.Answer.{Answer}
use Rattle.job_tasks.specs.Tasks.{Runs, nothing, assembly, program}
use Rattle.tcrest.specs.Pipe.{pipe_of}
use Rattle.job_rows.specs.Rows.{bare_row, is_flagged, running}

-- the row has no words, starts or transactions
abbrev pub told_row : Runs → CoreState → Row
told_row nothing s = bare_row s
told_row assembly s = bare_row s
told_row (program p) s = record (bare_row s) {
  bound = Some p.bound;
  alone = is_alone 0 (running (program p) ∷ []);
  overrun = is_flagged s;
}

-- the core at the limit
abbrev pub end_row : ℕ → Runs → Core → Row
end_row limit r x = told_row r (state_at limit (core_before x limit).plain)

-- the answer with that row
abbrev pub pipe_told : Job → Runs → Core → Answer
pipe_told job r x = pipe_of job (end_row job.cycles r x ∷ []) x

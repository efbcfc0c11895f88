-- The steps of a pipeline, one after another.
use Rattle.std.proofs.Common.{◌≡◌, ℕ, zero, suc, ◌+◌, ◌<◌, ◌≤◌, arith, Bool, true, false, List, [], ◌∷◌, ◌++◌, length, min, sym, ap, ◌∙◌, append_assoc, Option, None, Some}
use Rattle.std.specs.Prelude.{◌&&◌, Result, Ok, Err, IfOk}
use Rattle.std.proofs.Math.ListN.{length-append}
use Rattle.slot_arbiter.specs.Slot.{period}
use Rattle.patmos_model.specs.State.{Core, is_running, is_free}
use Rattle.core_pace.specs.Moment.{Done, done_by, landed, passes, fetched_in}
use Rattle.pipe_five.specs.Pipe.{IsStep}
use Rattle.pipe_five.specs.Stages.{stages_of}
use Rattle.pipe_five.specs.Steps.{core_before, done_below, first_of}
use Rattle.tc_job.specs.declared.job.Job.{Job}
use Rattle.tc_report.specs.declared.rows.Row.{Row}
use Rattle.tc_report.specs.Line.{step_line}
use Rattle.tc_report.specs.Report.{platform_line, state_line}
use Rattle.job_tasks.specs.declared.answers.Answer.{Answer}
use Rattle.tcrest.specs.PipeTold.{end_row, pipe_told}
use Rattle.tcrest.specs.Pipe.{step_text, steps_text}
use Rattle.job_rows.specs.Rows.{status_of}
use Rattle.job_tasks.specs.Tasks.{Runs}

-- in each cycle there is at most one bundle
one_at_most : (cycle : ℕ) (c : Core) → length (done_by cycle c) ≤ 1
one_at_most cycle c = by (is_running c.plain && (is_free cycle c.plain && passes (fetched_in c.plain) c.plain))
  where
    by : (does : Bool)
        → length (elim does as (λ _. List Done) [
          | true ↦ record {
            base = c.plain.base;
            offset = c.plain.offset;
            cycle = cycle;
          } ∷ []
          | false ↦ []
        ]) ≤ 1
    by true = omega arith
    by false = omega arith

few_bundles : (x : Core) (t : ℕ) → length (done_below x t) ≤ t
few_bundles x zero = omega arith
few_bundles x (suc t) = let before = few_bundles x t in
    omega (
      arith,
      length-append (done_by t (landed t (core_before x t))) (done_below x t),
      one_at_most t (landed t (core_before x t)),
      before,
    )

-- so there are no more than the limit
pub no_more : (x : Core) (limit count : ℕ) → count ≤ length (done_below x limit) → limit < count → ⊥
no_more x limit count few more = omega (arith, few, more, few_bundles x limit)

step_told : (x : Core) (limit k cycle : ℕ) (places : List (Option ℕ)) → IsStep x limit k cycle places
    → step_text x limit k ≡ step_line cycle places
step_told x limit k cycle places is =
    let told : Option ℕ → List ℕ = λ o. elim o as (λ _. List ℕ) [
      | None ↦ []
      | Some t ↦ step_line t
          (stages_of x (first_of (k + 1) (done_below x limit)))
    ] in
    ap told is.bundle ∙ ap (step_line cycle) (sym is.stages)

-- one more step is told
pub next_step : (x : Core) (limit k trace cycle : ℕ) (places : List (Option ℕ)) (first text more : List ℕ)
    → IsStep x limit k cycle places → k < trace
    → more ≡ text ++ step_line cycle places → text ≡ first ++ steps_text x limit (min trace k) → more ≡ first
    ++ steps_text x limit (min trace (k + 1))
next_step x limit k trace cycle places first text more is below grown so_far =
    let before : min trace k ≡ k = omega (arith, below) in
    let behind : suc k ≡ min trace (k + 1) = omega (arith, below) in
    grown ∙ ap (λ t. t ++ step_line cycle places) (so_far ∙ ap (λ n. first ++ steps_text x limit n) before)
    ∙ append_assoc first (steps_text x limit k) (step_line cycle places)
    ∙ ap (λ l. first ++ (steps_text x limit k ++ l)) (sym (step_told x limit k cycle places is))
    ∙ ap (λ n. first ++ steps_text x limit n) behind

-- or it is not, where enough were told
pub untold_step : (x : Core) (limit k trace : ℕ) (first text : List ℕ) → trace ≤ k
    → text ≡ first ++ steps_text x limit (min trace k) → text ≡ first ++ steps_text x limit (min trace (k + 1))
untold_step x limit k trace first text enough so_far =
    let same : min trace k ≡ min trace (k + 1) = omega (arith, enough) in
    so_far ∙ ap (λ n. first ++ steps_text x limit n) same

-- the platform and the steps, with the line of the core's state after them, are all that is told
pub told_whole : {E : Type 0} (job : Job) (r : Runs) (x : Core) (row : Row) (text : List ℕ) (result : Result Answer E)
    → row ≡ end_row job.cycles r x
    → text ≡ platform_line job.cores job.slot (period job.table job.slot)
    ++ steps_text x job.cycles (min job.trace (length (done_below x job.cycles)))
    → IfOk result (λ a. a ≡ record { status = status_of (row ∷ []); text = text ++ state_line 0 row })
    → IfOk result (λ a. a ≡ pipe_told job r x)
told_whole job r x row text (Err e) is so_far answer = tt
told_whole job r x row text (Ok a) is so_far answer =
    let end = end_row job.cycles r x in
    answer ∙ ap (λ w. record { status = status_of (w ∷ []); text = text ++ state_line 0 w }) is
    ∙ ap (λ t. record { status = status_of (end ∷ []); text = t }) (ap (λ t. t ++ state_line 0 end) so_far
    ∙ append_assoc (platform_line job.cores job.slot (period job.table job.slot)) (steps_text x job.cycles
    (min job.trace (length (done_below x job.cycles)))) (state_line 0 end))

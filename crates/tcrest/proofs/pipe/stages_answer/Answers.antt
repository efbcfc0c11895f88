use Rattle.std.proofs.Common.{◌≡◌, ◌++◌, ◌∙◌, ap, sym, subst, length, min, IfOk}
use Rattle.slot_arbiter.specs.Slot.{period}
use Rattle.patmos_model.specs.Apart.{site_of}
use Rattle.patmos_model.specs.Begin.{begun}
use Rattle.patmos_model.specs.Outcome.{state_at}
use Rattle.patmos_model.specs.State.{Core}
use Rattle.pipe_five.specs.Steps.{core_before, done_below}
use Rattle.tc_report.specs.Report.{platform_line}
use Rattle.job_tasks.specs.Coding.{runs}
use Rattle.tcrest.specs.PipeTold.{pipe_told, told_row}
use Rattle.tcrest.specs.Pipe.{steps_text}
use Rattle.tcrest.proofs.Piped.{told_whole}
use Rattle.tcrest.proofs.pipe.stages_answer.Goals as goal

pub returns : goal.returns
returns c =
    let read = c.job-read.result.now in
    let same = c.job-read.ensures.same in
    let x : Core = begun (site_of c.args.place c.args.image.now) c.args.input.now in
    let count = length (done_below x read.cycles) in
    let platform : c.put_platform_line.new.text.items
    ≡ platform_line read.cores read.slot (period read.table read.slot) = c.in_ok-put_platform_line.ensures.appended
    ∙ ap (λ t. t ++ platform_line read.cores read.slot c.period.result) c.new-text.ensures.items
    ∙ ap (platform_line read.cores read.slot) (c.period.ensures ∙ sym (ap (λ j. period j.table j.slot) same)) in
    subst (λ j. IfOk c.ended.result (λ a. a ≡ pipe_told j (runs c.args.task.now) x)) same
    (told_whole read (runs c.args.task.now) x c.in_ok-row.row c.put_steps.new.text.items c.ended.result
    (c.in_ok-row.ensures
    ∙ ap (told_row (runs c.args.task.now)) (c.state.ensures x count (c.in_ok-put_steps.ensures.stands x
    c.in_ok-core.ensures.stands)
    ∙ ap (λ t. state_at t (core_before x t).plain) c.in_ok-put_steps.ensures.limit))
    (c.in_ok-put_steps.ensures.reported x c.in_ok-core.ensures.stands
    ∙ ap (λ t. t ++ steps_text x read.cycles (min read.trace count)) platform) c.ended.ensures)

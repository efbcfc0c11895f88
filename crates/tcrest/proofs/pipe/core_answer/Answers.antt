use Rattle.std.proofs.Common.{◌≡◌, ◌∙◌, Some, ap, subst, rules, IfOk}
use Rattle.patmos_model.specs.Begin.{begun}
use Rattle.patmos_model.specs.Apart.{site_of}
use Rattle.job_tasks.specs.Sites.{site_on}
use Rattle.global_step.specs.declared.loaded.LoadedCore.{LoadedCore}
use Rattle.job_tasks.specs.Coding.{coded_of, made_of, runs}
use Rattle.tcrest.specs.PipeTold.{pipe_told}
use Rattle.job_tasks.specs.Tasks.{Coded, runs_made}
use Rattle.tcrest.proofs.Lines.{task_runs, told_as_reported}
use Rattle.tcrest.proofs.pipe.core_answer.Goals as goal

pub returns : goal.returns
returns c =
    let task = c.in-Some.field-0.task.now in
    let image = c.in-Some.field-0.made.image in
    let input = c.as_slice.result.now in
    let begins : begun (site_of c.place_of-place.result image) input
    ≡ begun (site_on c.args.job.now 0 task.start image) task.input =
    ap (λ site. begun site input) (c.place_of-place.ensures.site image)
    ∙ ap (begun (site_on c.args.job.now 0 task.start image)) (search rules) in
    let run : runs c.of-runs.result ≡ runs_made (made_of c.in-Some.field-0.made) = ap runs c.of-runs.ensures
    ∙ task_runs c.in-Some.field-0.made.program in
    let told = subst (λ x. IfOk c.stages_answer.result (λ a. a ≡ pipe_told c.args.job.now (runs c.of-runs.result) x))
    begins c.stages_answer.ensures in
    let whole = subst (λ r. IfOk c.stages_answer.result
    (λ a. a ≡ pipe_told c.args.job.now r (begun (site_on c.args.job.now 0 task.start image) task.input))) run
    told in
    let coded : Coded = coded_of c.in-Some.field-0 in
    let loaded : LoadedCore = record { place = c.place_of-place.result; image = Some image; input = input } in
    let reported = subst (λ answer. IfOk c.stages_answer.result (λ a. a ≡ answer))
    (told_as_reported c.args.job.now coded loaded c.requires.lone begins) whole in
    search (rules, reported)

use Rattle.std.proofs.Common.{sym, subst}
use Rattle.core_worker.specs.Worker.{face}
use Rattle.core_worker.specs.Runs.{listed, Makes}
use Rattle.global_step.specs.Machine.{core_among}
use Rattle.tc_run.specs.Worked.{number, IsWorkerOf}
use Rattle.tc_run.proofs.Workers.{first_stands, makes_listed, new_worker}
use Rattle.tc_run.proofs.making.worker_of.Goals as goal

pub new-requires-clause-course : goal.new-requires-clause-course
new-requires-clause-course c =
    let m = c.args.machine.now in let core = c.args.core in let v = c.args.pass.view in let q = c.requires in (
      core_among m.cores (number core),
      first_stands m c.limit.ensures.kept.platform core v q.first q.fresh q.cores q.course,
      subst (Makes (core_among m.cores (number core)) (listed v)) (sym c.limit.ensures.value)
          (makes_listed m c.limit.ensures.kept.platform core v q.first q.fresh q.cores q.course),
    )

pub returns-clause-of : goal.returns-clause-of
returns-clause-of c =
    let m = c.args.machine.now in let core = c.args.core in let p = c.args.pass in let q = c.requires in
    subst (IsWorkerOf m) (sym c.new.ensures)
    (subst (λ t. IsWorkerOf m (face core p t)) (sym c.limit.ensures.value)
    (new_worker m core p c.limit.ensures.kept.platform q.first q.fresh q.cores q.course))

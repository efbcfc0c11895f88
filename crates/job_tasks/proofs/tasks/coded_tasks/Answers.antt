use Rattle.std.proofs.Common.{◌≡◌, ◌+◌, ◌-◌, ◌++◌, ◌∷◌, [], ◌∙◌, ap, refl, sym, subst, arith, rules, All}
use Rattle.std.specs.Prelude.{Ok}
use Rattle.std.proofs.lemmas.List.Elements.{All-push}
use Rattle.job_tasks.specs.Tasks.{task_on, coded_on, coded_from}
use Rattle.job_tasks.specs.Coding.{shown, all_shown, HasShapeOn, IsAmong}
use Rattle.job_tasks.proofs.TasksFound.{found_task, found_core}
use Rattle.job_tasks.proofs.TasksCoded.{next_coded, next_made, stopped_coding, coded_among}
use Rattle.job_tasks.proofs.tasks.coded_tasks.Goals as goal

pub coded_on-requires-clause-among : goal.coded_on-requires-clause-among
coded_on-requires-clause-among c =
    found_task c.args.job.now.cores c.args.job.now.tasks c.loop-core.core _ (c.task_on.ensures
    ∙ ap (λ j. task_on j.tasks c.loop-core.core) c.job-read.ensures.same) c.job-read.ensures.ranges.tasks

pub coded_on-requires-clause-core : goal.coded_on-requires-clause-core
coded_on-requires-clause-core c = found_core c.args.job.now.tasks c.loop-core.core _ (c.task_on.ensures
    ∙ ap (λ j. task_on j.tasks c.loop-core.core) c.job-read.ensures.same)

pub returns-in-Err-clause-coded : goal.returns-in-Err-clause-coded
returns-in-Err-clause-coded c =
    stopped_coding c.args.job.now c.loop-core.core (c.args.job.now.cores - c.loop-core.core)
    (c.args.job.now.cores - (c.loop-core.core + 1)) (all_shown c.loop-core.coded.items) c.in-Err.halt
    (coded_from c.args.job.now 0 c.args.job.now.cores) (omega (arith, ap (λ j. j.cores) c.job-read.ensures.same))
    (rw (c.task_on.ensures ∙ ap (λ j. task_on j.tasks c.loop-core.core) c.job-read.ensures.same) at
    c.in-Err.ensures.coded) c.loop-core.invariant.so_far

pub loop-core-preserved : goal.loop-core-preserved
loop-core-preserved c =
    let found = c.task_on.ensures ∙ ap (λ j. task_on j.tasks c.loop-core.core) c.job-read.ensures.same in
    let push : c.push.new.self.items ≡ c.loop-core.coded.items ++ c.in-Ok.one ∷ [] = search rules in
    record {
      so_far = next_coded c.args.job.now c.loop-core.core (c.args.job.now.cores - c.loop-core.core)
          (c.args.job.now.cores - (c.loop-core.core + 1)) c.loop-core.coded.items c.push.new.self.items c.in-Ok.one
          (coded_from c.args.job.now 0 c.args.job.now.cores) (omega (arith, ap (λ j. j.cores) c.job-read.ensures.same))
          push
          (subst (λ t. coded_on c.args.job.now c.loop-core.core t ≡ Ok (shown c.in-Ok.one)) found c.in-Ok.ensures.coded)
          c.loop-core.invariant.so_far;
      count = search rules;
      made = next_made c.args.job.now c.loop-core.core c.loop-core.coded.items c.push.new.self.items c.in-Ok.one
          c.loop-core.invariant.count push c.in-Ok.ensures.made c.loop-core.invariant.made;
      shapes = subst (All HasShapeOn) (sym push) (All-push HasShapeOn c.loop-core.coded.items c.in-Ok.one
          c.loop-core.invariant.shapes c.in-Ok.ensures.shape);
      among = subst (All (IsAmong c.args.job.now.cores)) (sym push)
          (All-push (IsAmong c.args.job.now.cores) c.loop-core.coded.items c.in-Ok.one c.loop-core.invariant.among
          (coded_among c.args.job.now.cores c.in-Ok.one (task_on c.args.job.now.tasks c.loop-core.core)
          (c.in-Ok.ensures.same ∙ found)
          (found_task c.args.job.now.cores c.args.job.now.tasks c.loop-core.core
          (task_on c.args.job.now.tasks c.loop-core.core) refl c.job-read.ensures.ranges.tasks)));
    }

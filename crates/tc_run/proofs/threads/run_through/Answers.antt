use Rattle.std.proofs.Common.{sym, ◌∙◌, subst, All}
use Rattle.std.proofs.lemmas.List.{with_items_is}
use Rattle.core_worker.specs.Worker.{AreLater, IsDone}
use Rattle.tc_run.specs.Carried.{Carries}
use Rattle.tc_run.proofs.Carried.{later_carried}
use Rattle.tc_run.proofs.threads.run_through.Goals as goal

pub returns-clause-carries : goal.returns-clause-carries
returns-clause-carries g c =
    let ws = c.args.workers.now.items in let ws' = c.run_all.new.workers in
    subst (Carries c.args.common.board.now ws) (sym (with_items_is c.args.workers.now ws' (c.run_all.ensures.later.count
    ∙ c.as_mut_slice.ensures.len)))
    (later_carried c.args.common.board.now ws ws' (subst (λ xs. AreLater xs ws') c.as_mut_slice.ensures.value
    c.run_all.ensures.later) c.run_all.ensures.of)

pub returns-clause-done : goal.returns-clause-done
returns-clause-done g c =
    subst (All IsDone) (sym (with_items_is c.args.workers.now c.run_all.new.workers (c.run_all.ensures.later.count
    ∙ c.as_mut_slice.ensures.len))) c.run_all.ensures.ended

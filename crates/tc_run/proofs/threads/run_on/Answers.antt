use Rattle.std.proofs.Common.{sym, ◌∙◌, subst}
use Rattle.std.proofs.lemmas.List.{with_items_is}
use Rattle.core_worker.specs.Worker.{AreLater}
use Rattle.tc_run.specs.Carried.{Carries}
use Rattle.tc_run.proofs.Carried.{later_carried}
use Rattle.tc_run.proofs.threads.run_on.Goals as goal

pub returns-clause-carries : goal.returns-clause-carries
returns-clause-carries g c =
    let ws = c.args.workers.now.items in let ws' = c.run_some.new.workers in
    subst (Carries c.args.common.board.now ws)
    (sym (with_items_is c.args.workers.now ws' (c.run_some.ensures.later.count ∙ c.as_mut_slice.ensures.len)))
    (later_carried c.args.common.board.now ws ws' (subst (λ xs. AreLater xs ws') c.as_mut_slice.ensures.value
    c.run_some.ensures.later) c.run_some.ensures.of)

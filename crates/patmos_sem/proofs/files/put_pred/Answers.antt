use Rattle.std.proofs.Common.{arith}
use Rattle.std.proofs.lemmas.Grind.{common_steps}
use Rattle.std.proofs.lemmas.Bool.{cases_eq}
use Rattle.patmos_sem.specs.declared.writes.Write.TheVariants as write
use Rattle.patmos_sem.proofs.files.put_pred.Goals as goal
use Rattle.patmos_sem.proofs.Told.{set_pred, kept_preds}

pub returns-then-number-ne0 : goal.returns-then-number-ne0
returns-then-number-ne0 c = rw c.number-then-number-ne0.ensures.value (set_pred c.args.preds.now c.args.pd c.args.value
    (omega arith) (omega arith) c.requires)

pub returns-else-number-ne0 : goal.returns-else-number-ne0
returns-else-number-ne0 c =
    kept_preds (write.Predicate c.args.pd c.args.value) c.args.preds.now c.requires
    (λ r old ne. grind (arith, common_steps, cases_eq c.args.pd r))

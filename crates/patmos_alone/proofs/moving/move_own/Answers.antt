use Rattle.std.proofs.Common.{sym, subst, ap, ◌∙◌}
use Rattle.patmos_model.specs.Transaction.{accessed}
use Rattle.patmos_alone.specs.Moving.{moved_by}
use Rattle.patmos_step.specs.Ready.{CanMove}
use Rattle.patmos_alone.proofs.OwnWords.{moved_alone}
use Rattle.patmos_step.proofs.Rests.{can_at_rest}
use Rattle.patmos_alone.proofs.Stretches.{keeps_both, goes_one}
use Rattle.patmos_alone.proofs.moving.move_own.Goals as goal

pub returns : goal.returns
returns c = record {
  goes =
      goes_one c.args.cycle c.args.body.now c.move_then.new.body (accessed c.args.body.now.transfer c.args.cycle)
      (λ h. moved_alone c.args.cycle c.args.body.now c.move_then.new.body h c.requires.moves
      (c.move_then.ensures.plain ∙ ap (moved_by c.args.body.now.transfer.then) c.count.ensures.plain)
      (c.move_then.ensures.only.keeps.ni ∙ c.count.ensures.keeps.ni))
      (λ h shows. c.move_then.ensures.only.shows _ (c.count.ensures.shows h shows))
      (can_at_rest c.move_then.new.body (c.move_then.ensures.rest c.count.ensures.rest))
      (keeps_both c.args.body.now c.count.new.self c.move_then.new.body c.count.ensures.keeps
      c.move_then.ensures.only.keeps);
}

pub move_then-requires-clause-can : goal.move_then-requires-clause-can
move_then-requires-clause-can c =
    subst (λ regs. CanMove regs c.args.body.now.transfer.then) (sym c.count.ensures.regs) c.requires.can.can

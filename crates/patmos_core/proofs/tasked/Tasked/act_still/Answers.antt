use Rattle.std.proofs.Common.{◌≡◌, ◌≢◌, true, sym, subst, arith}
use Rattle.patmos_model.specs.Transaction.{is_due}
use Rattle.patmos_step.specs.declared.ask.Ask.TheVariants as asks
use Rattle.patmos_step.specs.Shown.{plain_of}
use Rattle.patmos_core.specs.Progress.{IsAloneAt}
use Rattle.patmos_core.proofs.tasked.Tasked.act_still.Goals as goal

pub act_moving-requires : goal.act_moving-requires
act_moving-requires c =
    let alone : IsAloneAt c.pass.new.self.body c.pass.new.self.cycle =
    subst (λ b. IsAloneAt b c.pass.new.self.cycle) (sym c.pass.ensures.body) (subst (IsAloneAt c.args.self.now.body)
    (sym c.pass.ensures.cycle) c.requires.alone) in
    let some : c.ask_of_moved.result ≢ asks.Nothing = c.in_default.not-Nothing in
    let due : is_due c.pass.new.self.cycle (plain_of c.pass.new.self.body) ≡ true =
    alone.due (c.ask_of_moved.ensures.some some).words in
    record {
      act = c.pass.ensures.act;
      alone = alone;
      moves = record { status = (c.ask_of_moved.ensures.some some).status; due = due };
      early = omega (arith, c.pass.ensures.cycle, c.requires.early);
      follows = λ h i. c.ask_of_moved.ensures.follows some c.pass.new.self.cycle h i due;
      within = c.ask_of_moved.ensures.within;
      some = some;
    }

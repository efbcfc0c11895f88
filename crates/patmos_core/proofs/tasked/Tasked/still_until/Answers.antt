use Rattle.std.proofs.Common.{◌<◌, ◌*◌, IfSome, sym, subst, arith}
use Rattle.patmos_step.specs.Ready.{IsUpTo}
use Rattle.patmos_core.proofs.Stillness.{still_before, up_to_cycle}
use Rattle.patmos_core.proofs.tasked.Tasked.still_until.Goals as goal

pub returns-in-Some-clause-still : goal.returns-in-Some-clause-still
returns-in-Some-clause-still c = λ u from below.
    let up : IsUpTo (2 * c.args.self.now.cycle) c.args.self.now.body.ni =
    up_to_cycle c.args.self.now.body.ni c.args.self.now.cycle c.args.self.now.phase c.requires.delivery
    c.args.self.now.sound.ni in
    still_before c.args.self.now.body.ni c.args.next u c.requires.next (omega (arith, up.after, from))
    (subst (λ next. IfSome next (λ e. u < e.cycle)) (sym c.in-Some.is) (omega (arith, below, c.min.ensures)))

pub returns-in-None-clause-still : goal.returns-in-None-clause-still
returns-in-None-clause-still c = λ u from below.
    let up : IsUpTo (2 * c.args.self.now.cycle) c.args.self.now.body.ni =
    up_to_cycle c.args.self.now.body.ni c.args.self.now.cycle c.args.self.now.phase c.requires.delivery
    c.args.self.now.sound.ni in
    still_before c.args.self.now.body.ni c.args.next u c.requires.next (omega (arith, up.after, from))
    (subst (λ next. IfSome next (λ e. u < e.cycle)) (sym c.in-None.is) tt)

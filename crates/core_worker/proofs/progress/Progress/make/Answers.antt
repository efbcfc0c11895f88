use Rattle.std.proofs.Common.{◌≡◌, ℕ, List, ◌++◌, IfSome, option_copied, sym, ap, ◌∙◌, subst}
use Rattle.shared_order.specs.Event.{asked_by}
use Rattle.clock_board.specs.View.{own, HasSeen}
use Rattle.core_worker.proofs.Going.{begins_left, kept_resumed}
use Rattle.core_worker.proofs.progress.Progress.make.Goals as goal

pub perform-values-requires-clause-seen : goal.perform-values-requires-clause-seen
perform-values-requires-clause-seen g c = subst (λ w. IfSome w (λ e. HasSeen c.args.self.now.pass.view e.stamp))
    (sym c.event.ensures ∙ ap option_copied c.in-Some.is) c.requires.seen

pub perform-values-requires-clause-next : goal.perform-values-requires-clause-next
perform-values-requires-clause-next g c = begins_left c.args.self.now.limit c.args.self.now.reached
    c.args.self.now.ended c.args.self.now.core c.args.self.now.pass.view c.requires.kept
    c.in-Some.event.now (sym c.event.ensures ∙ ap option_copied c.in-Some.is)

pub returns-clause-kept : goal.returns-clause-kept
returns-clause-kept g c = (kept_resumed c.args.self.now.limit c.args.self.now.reached c.args.self.now.ended
    c.args.self.now.core c.args.self.now.pass.view c.requires.kept
    c.in-Some.event.now (sym c.event.ensures ∙ ap option_copied c.in-Some.is)
    c.resume.new.self c.perform-values.new.pass.view c.perform-values.result c.perform-values.ensures.given
    c.perform-values.ensures.same c.perform-values.ensures.made c.perform-values.ensures.left
    c.resume.ensures.stands c.resume.ensures.waiting c.resume.ensures.limit c.resume.ensures.place
    c.resume.ensures.room).0

pub returns-clause-goes_on : goal.returns-clause-goes_on
returns-clause-goes_on g c = (kept_resumed c.args.self.now.limit c.args.self.now.reached c.args.self.now.ended
    c.args.self.now.core c.args.self.now.pass.view c.requires.kept
    c.in-Some.event.now (sym c.event.ensures ∙ ap option_copied c.in-Some.is)
    c.resume.new.self c.perform-values.new.pass.view c.perform-values.result c.perform-values.ensures.given
    c.perform-values.ensures.same c.perform-values.ensures.made c.perform-values.ensures.left
    c.resume.ensures.stands c.resume.ensures.waiting c.resume.ensures.limit c.resume.ensures.place
    c.resume.ensures.room).1

pub returns-clause-made : goal.returns-clause-made
returns-clause-made g c =
    subst (λ w. IfSome w (λ e. (values : List ℕ) × ((own c.perform-values.new.pass.view).made
    ≡ (own c.args.self.now.pass.view).made ++ asked_by e values)))
    (sym (sym c.event.ensures ∙ ap option_copied c.in-Some.is)) (c.perform-values.result, c.perform-values.ensures.made)

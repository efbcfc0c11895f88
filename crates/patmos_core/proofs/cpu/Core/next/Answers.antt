use Rattle.std.proofs.Common.{◌≡◌, List, IfSome, is_some, sym, ap, ◌∙◌, subst}
use Rattle.shared_order.specs.declared.operation.Operation.{Operation}
use Rattle.shared_order.specs.Operation.{loads}
use Rattle.patmos_model.specs.State.{Core}
use Rattle.patmos_model.specs.Apart.{apart_from}
use Rattle.patmos_model.specs.Outcome.{state_at}
use Rattle.patmos_core.specs.Position.{StandsFor, IsNextOf, IsWholeOf, EventFits, place_of, rest_as}
use Rattle.patmos_core.proofs.cpu.Core.next.Goals as goal

pub returns-in-Some-clause-event : goal.returns-in-Some-clause-event
returns-in-Some-clause-event c =
    subst (λ w. IfSome w (λ e. (x : Core) (made : List Operation) → StandsFor c.args.self.now x made
    → IsNextOf x made c.args.limit e)) (sym c.waiting.ensures ∙ c.in-Some.is) c.go_on.ensures.event

pub returns-in-Some-clause-whole : goal.returns-in-Some-clause-whole
returns-in-Some-clause-whole c =
    subst (λ w. IfSome w (λ e. (x : Core) (made : List Operation) → StandsFor c.args.self.now x made
    → IsWholeOf x made c.args.limit e)) (sym c.waiting.ensures ∙ c.in-Some.is) c.go_on.ensures.whole

pub returns-in-Some-clause-fits : goal.returns-in-Some-clause-fits
returns-in-Some-clause-fits c = subst (λ w. IfSome w (EventFits (place_of c.args.self.now) c.args.limit))
    (sym c.waiting.ensures ∙ c.in-Some.is) c.go_on.ensures.fits

pub returns-in-None-clause-rest : goal.returns-in-None-clause-rest
returns-in-None-clause-rest c = λ none x made on.
    subst (λ t. c.rest.result ≡ rest_as (state_at t (apart_from x (loads made) t).core.plain)) c.go_on.ensures.at
    (c.rest.ensures.rest (c.go_on.ensures.through (ap is_some (sym c.waiting.ensures ∙ c.in-None.is))) x made
    (c.go_on.ensures.stands x made on))

use Rattle.std.proofs.Common.{◌≡◌, ℕ, List, ◌++◌, None, Some, IfSome, Option, slice_index, sym, subst, ◌∙◌}
use Rattle.std.proofs.lemmas.Option.{same_Some}
use Rattle.slot_arbiter.specs.declared.event.Event.{Event}
use Rattle.shared_order.specs.declared.operation.Operation.{Operation}
use Rattle.shared_order.specs.Event.{asked_by}
use Rattle.patmos_model.specs.State.{Core}
use Rattle.patmos_core.specs.declared.cpu.Core.{Core as Cpu}
use Rattle.patmos_core.specs.Position.{StandsFor, waiting_of}
use Rattle.global_step.specs.PlainEvent.{made_on}
use Rattle.global_step.specs.PlainRun.{HasNext}
use Rattle.global_step.proofs.plain.make.Goals as goal

-- what a core that was told its event asks for next
resumed : (k k' k'' : Cpu) (most : ℕ) (r : Option Event) (e : Event) (values : List ℕ) (words : ℕ → ℕ) → r ≡ Some e
    → asked_by e values ≡ made_on e words
    → IfSome r (λ e. (x : Core) (made : List Operation) → StandsFor k x made
    → StandsFor k' x (made ++ asked_by e values))
    → ((x : Core) (made : List Operation) → StandsFor k' x made → HasNext x made most k'')
    → IfSome r (λ e. (x : Core) (made : List Operation) → StandsFor k x made
    → HasNext x (made ++ made_on e words) most k'')
resumed k k' k'' most None e values words is asked stands next = tt
resumed k k' k'' most (Some f) e values words is asked stands next = λ x made at.
    let here : asked_by f values ≡ made_on f words =
    subst (λ g. asked_by g values ≡ made_on g words) (sym (same_Some f e is)) asked in
    subst (λ l. HasNext x (made ++ l) most k'') here (next x (made ++ asked_by f values) (stands x made at))

pub returns-clause-next : goal.returns-clause-next
returns-clause-next c =
    resumed c.args.core.now c.resume.new.self c.ask.new.core c.args.limit (waiting_of c.args.core.now) c.in-Some.event
    c.perform-values.result (slice_index c.args.words.now)
    (sym c.waiting.ensures ∙ c.in-Some.is) c.perform-values.ensures.asked c.resume.ensures.stands c.ask.ensures.next

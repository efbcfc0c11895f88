use Rattle.std.proofs.Common.{ℕ, List, None, Some, IsNone, IfSome, Option, sym, subst}
use Rattle.slot_arbiter.specs.declared.event.Event.{Event}
use Rattle.shared_order.specs.declared.operation.Operation.{Operation}
use Rattle.patmos_model.specs.State.{Core}
use Rattle.patmos_core.specs.declared.cpu.Core.{Core as Cpu}
use Rattle.patmos_core.specs.Position.{StandsFor, event_of, IsNextOf, HasMadeAll}
use Rattle.global_step.proofs.plain.ask.Goals as goal

-- what is asked next, where the core stands for this
asked : (k : Cpu) (most : ℕ) (x : Core) (made : List Operation) (r : Option Event)
    → IfSome r (λ e. (x : Core) (made : List Operation) → StandsFor k x made → IsNextOf x made most e)
    → StandsFor k x made → IfSome r (IsNextOf x made most)
asked k most x made None h stands = tt
asked k most x made (Some e) h stands = h x made stands

pub returns-clause-next : goal.returns-clause-next
returns-clause-next c = λ x made stands. record {
  stands = c.next.ensures.stands x made stands;
  next = subst (λ r. IfSome r (IsNextOf x made c.args.limit)) (sym c.next.ensures.waiting)
      (asked c.args.core.now c.args.limit x made (event_of c.next.result) c.next.ensures.event stands);
  all = subst (λ r. IsNone r → HasMadeAll x made c.args.limit) (sym c.next.ensures.waiting)
      (λ none. c.next.ensures.all none x made stands);
}

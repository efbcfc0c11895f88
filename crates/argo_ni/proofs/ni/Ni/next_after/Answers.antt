use Rattle.std.proofs.Common.{Option, Some, None, IfSome}
use Rattle.argo_ni.specs.declared.event.NiEvent.{NiEvent}
use Rattle.argo_ni.specs.Interface.{Standing}
use Rattle.argo_ni.specs.Event.{half_of, IsQuiet, IsNextAct}
use Rattle.argo_ni.proofs.Acts.{quiet_before}
use Rattle.argo_ni.proofs.ni.Ni.next_after.Goals as goal

quiet_until : (s : Standing) (event : Option NiEvent) → IfSome event (λ e. IsNextAct s (half_of e))
    → IfSome event (λ e. IsQuiet s.interface s.from (half_of e))
quiet_until s None h = tt
quiet_until s (Some e) h = quiet_before s.interface s.from (half_of e) h

pub returns-clause-between : goal.returns-clause-between
returns-clause-between c = quiet_until c.args.self.now c.next.result c.next.ensures.next

use Rattle.std.proofs.Common.{rules}
use Rattle.argo_ni.specs.Event.{half_of}
use Rattle.argo_ni.proofs.Acts.{comes_alone, comes_before, sent_before}
use Rattle.argo_ni.proofs.ni.Ni.next.Goals as goal

pub returns-in-None-Some-clause-next : goal.returns-in-None-Some-clause-next
returns-in-None-Some-clause-next c =
    comes_alone c.args.self.now c.in-None-Some.packet (half_of c.delivery_of.result) c.delivery_of.ensures.half
    c.in-None-Some.ensures.first (c.next_send.ensures.none (search rules))

pub returns-then-cycle-packet-clause-next : goal.returns-then-cycle-packet-clause-next
returns-then-cycle-packet-clause-next c =
    sent_before c.args.self.now c.in-Some-Some.packet (half_of c.injection_in-then-cycle-packet.result)
    c.in-Some-Some.cycle
    c.injection_in-then-cycle-packet.ensures.half c.in-Some-Some.ensures.next c.in-Some-Some.ensures'.first
    c.if-cycle-packet.true

pub returns-else-cycle-packet-clause-next : goal.returns-else-cycle-packet-clause-next
returns-else-cycle-packet-clause-next c =
    comes_before c.args.self.now c.in-Some-Some.packet (half_of c.delivery_of-else-cycle-packet.result)
    c.in-Some-Some.cycle
    c.delivery_of-else-cycle-packet.ensures.half c.in-Some-Some.ensures'.first c.in-Some-Some.ensures.next
    c.if-cycle-packet.false

use Rattle.std.proofs.Common.{sym, ◌∙◌, ap}
use Rattle.argo_ni.specs.Interface.{Standing}
use Rattle.argo_ni.specs.Seen.{seen}
use Rattle.argo_ni.proofs.Acts.{some_under_way, takes_first, heard_delivery}
use Rattle.argo_ni.proofs.Kept.{kept_delivered}
use Rattle.argo_ni.proofs.Queue.{is_first}
use Rattle.argo_ni.proofs.ni.Ni.deliver.Goals as goal

pub unreachable-requires : goal.unreachable-requires
unreachable-requires c =
    some_under_way c.args.self.now c.requires.next (rw (← c.self.view_is) (sym c.first.ensures ∙ c.in_default.is))

pub returns-clause-state : goal.returns-clause-state
returns-clause-state c = rw (← c.self.view_is) (λ cycle next.
    takes_first (seen c.self.inside) c.in-Some.packet cycle c.arrive.new.self
    (is_first c.self.inside.cores c.self.inside.core c.self.inside.from c.self.inside.under_way c.in-Some.packet
    c.self.invariant.sound.queue (sym c.first.ensures ∙ c.in-Some.is))
    next c.arrive.ensures)

pub returns-clause-heard : goal.returns-clause-heard
returns-clause-heard c = λ cycle stamp values next.
    heard_delivery (seen c.self.inside) c.args.self.now c.in-Some.packet cycle stamp values c.self.view_is
    (is_first c.self.inside.cores c.self.inside.core c.self.inside.from c.self.inside.under_way c.in-Some.packet
    c.self.invariant.sound.queue (sym c.first.ensures ∙ c.in-Some.is)) next
    ∙ sym (ap (λ (s : Standing). s.interface) (returns-clause-state c cycle next))

pub invariant_of-self : goal.invariant_of-self
invariant_of-self c =
    kept_delivered (seen c.self.inside) c.args.self.now c.in-Some.packet c.arrive.new.self c.self.inside.sending
    c.self.view_is c.self.invariant
    (is_first c.self.inside.cores c.self.inside.core c.self.inside.from c.self.inside.under_way c.in-Some.packet
    c.self.invariant.sound.queue (sym c.first.ensures ∙ c.in-Some.is))
    c.requires.next c.arrive.ensures

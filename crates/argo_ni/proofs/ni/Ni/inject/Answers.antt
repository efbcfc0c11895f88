use Rattle.std.proofs.Common.{◌≡◌, ◌+◌, ◌*◌, sym, ◌∙◌, subst, ap, rules}
use Rattle.argo_ni.specs.Interface.{Standing}
use Rattle.argo_ni.specs.Seen.{seen}
use Rattle.argo_ni.specs.Sound.{IsSoundAt}
use Rattle.argo_ni.specs.Turn.{injected}
use Rattle.argo_ni.proofs.Acts.{some_sent, next_sends, heard_next}
use Rattle.argo_ni.proofs.Kept.{carried_out, injects}
use Rattle.argo_ni.proofs.ni.Ni.inject.Goals as goal

pub unreachable-requires : goal.unreachable-requires
unreachable-requires c =
    some_sent c.args.self.now c.requires.next (c.next_send.ensures.none (search rules))

pub send-requires : goal.send-requires
send-requires c = record {
  room = (carried_out (seen c.self.inside) c.args.self.now c.in-Some.cycle c.args.values c.self.view_is
      c.self.invariant.sound c.requires.next c.in-Some.ensures.next c.in-Some.ensures.near).room;
}

pub invariant_of-self : goal.invariant_of-self
invariant_of-self c = record {
  sound =
      let parts = injects (seen c.self.inside) c.in-Some.cycle c.target_in-target.result c.args.values
      c.move_on.new.self c.packet.result c.send.new.self
      c.target_in-target.ensures.target c.move_on.ensures c.packet.ensures c.send.ensures in
      subst IsSoundAt (sym parts)
      (carried_out (seen c.self.inside) c.args.self.now c.in-Some.cycle c.args.values c.self.view_is
      c.self.invariant.sound c.requires.next c.in-Some.ensures.next c.in-Some.ensures.near).sound;
  next = c.next_send-self-inside.ensures.next;
  near = c.next_send-self-inside.ensures.near;
  none = c.next_send-self-inside.ensures.none;
}

pub returns-clause-state : goal.returns-clause-state
returns-clause-state c = λ cycle next.
    let parts = injects (seen c.self.inside) c.in-Some.cycle c.target_in-target.result c.args.values c.move_on.new.self
    c.packet.result c.send.new.self
    c.target_in-target.ensures.target c.move_on.ensures c.packet.ensures c.send.ensures in
    let same : c.in-Some.cycle ≡ cycle =
    next_sends c.args.self.now.from cycle c.in-Some.cycle c.args.self.now.interface next c.in-Some.ensures.next in
    let seen_now : ◌≡◌ {A = Standing} (record {
      interface = injected c.in-Some.cycle c.args.values
          (seen c.self.inside).interface;
      from = 2 * c.in-Some.cycle + 2;
    })
    (record { interface = injected cycle c.args.values c.args.self.now.interface; from = 2 * cycle + 2 }) =
    λ i. record { interface = injected (same i) c.args.values (c.self.view_is i).interface; from = 2 * same i + 2 } in
    parts ∙ seen_now

pub returns-clause-heard : goal.returns-clause-heard
returns-clause-heard c = λ cycle stamp next.
    heard_next c.args.self.now cycle stamp c.args.values next
    ∙ ap (λ (s : Standing). s.interface) (sym (returns-clause-state c cycle next))

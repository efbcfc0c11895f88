use Rattle.std.proofs.Common.{sym, ◌∙◌}
use Rattle.argo_ni.specs.Seen.{seen}
use Rattle.argo_ni.proofs.Kept.{begins}
use Rattle.argo_ni.proofs.ni.Ni.start.Goals as goal

pub invariant_of-self : goal.invariant_of-self
invariant_of-self c = record {
  sound =
      begins (seen c.self.inside) c.args.self.now c.args.d c.args.count c.args.cycle c.begin.new.self c.self.view_is
      c.self.invariant.sound
      c.requires.target c.requires.most c.requires.after c.requires.none_left
      (sym c.answer_to-answer.ensures ∙ c.in-Begun.is) c.begin.ensures;
  next = c.next_send-self-inside.ensures.next;
  near = c.next_send-self-inside.ensures.near;
  none = c.next_send-self-inside.ensures.none;
}

use Rattle.std.proofs.Common.{◌≡◌, ◌%◌, ◌++◌, take, sym, subst, ap, ◌∙◌, arith}
use Rattle.argo_ni.specs.Packet.{comm_word}
use Rattle.patmos_core.specs.Events.{asked_of, stores_from}
use Rattle.patmos_step.specs.Shown.{core_of}
use Rattle.patmos_core.specs.Waiting.{stamp_phase}
use Rattle.patmos_core.proofs.AskedFor.{delivery_asks, delivery_leaves, stamp_of_phase}
use Rattle.patmos_core.proofs.LoadsFirst.{delivery_loads_first}
use Rattle.patmos_core.proofs.tasked.Tasked.delivery.Goals as goal

pub returns-clause-asked : goal.returns-clause-asked
returns-clause-asked c = record {
  stamp = stamp_of_phase c.args.self.now.body.place.cores c.args.self.now.body.place.core c.args.self.now.cycle 0
      c.ask_delivery.new.event.stamp c.args.self.now.phase
      (ap stamp_phase c.requires.delivery) (c.ask_delivery.ensures.stamp ∙ c.begin_at.ensures.stamp
      ∙ c.stamp_of.ensures.number);
  asks = λ h shows. delivery_asks c.args.self.now.cycle (core_of c.args.self.now.body h) c.ask_delivery.new.event
      c.args.packet.now.target c.args.packet.now.first
      c.args.packet.now.count c.args.packet.now.values c.args.self.now.phase c.requires.delivery c.requires.packet
      (c.ask_delivery.ensures.asks
      ∙ ap (λ l. l ++ stores_from c.comm_word-word.result (take c.args.packet.now.count c.args.packet.now.values))
      c.begin_at.ensures.asks
      ∙ ap (λ word. stores_from word (take c.args.packet.now.count c.args.packet.now.values)) c.comm_word-word.ensures);
  leaves = λ h shows. delivery_leaves c.args.self.now.cycle (core_of c.args.self.now.body h) c.ask_delivery.new.event
      c.args.self.now.phase c.requires.delivery;
  early = c.requires.early;
  delivers = λ is. c.requires.due;
}

pub returns-clause-fits : goal.returns-clause-fits
returns-clause-fits c = record {
  core = subst (λ s. s % c.args.self.now.body.place.cores ≡ c.args.self.now.body.place.core)
      (sym (c.ask_delivery.ensures.stamp ∙ c.begin_at.ensures.stamp)) c.stamp_of.ensures.core;
  some = omega (arith, c.ask_delivery.ensures.count, c.requires.packet.piece.some);
  words = c.ask_delivery.ensures.below (comm_word c.args.self.now.body.place.cores 0)
      (c.begin_at.ensures.below (comm_word c.args.self.now.body.place.cores 0))
      (omega (
        arith,
        c.comm_word-word.ensures,
        c.requires.packet.piece.other.among,
        c.args.self.now.body.port.cores,
        c.requires.packet.piece.within,
      ));
  unread = c.ask_delivery.ensures.unread c.begin_at.ensures.unread;
  loads_first = delivery_loads_first c.comm_word-word.result (take c.args.packet.now.count c.args.packet.now.values)
      (asked_of c.ask_delivery.new.event)
      (c.ask_delivery.ensures.asks
      ∙ ap (λ l. l ++ stores_from c.comm_word-word.result (take c.args.packet.now.count c.args.packet.now.values))
      c.begin_at.ensures.asks);
}

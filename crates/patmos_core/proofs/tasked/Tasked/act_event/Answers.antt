use Rattle.std.proofs.Common.{rules, ◌≡◌, ◌++◌, sym, ap, ◌∙◌, subst}
use Rattle.argo_ni.specs.Packet.{comm_word}
use Rattle.patmos_step.specs.Asks.{ops_of}
use Rattle.patmos_core.specs.Events.{asked_of, window_asks, AllBelow, AllUnread}
use Rattle.patmos_step.specs.Shown.{core_of}
use Rattle.patmos_core.specs.Waiting.{stamp_phase}
use Rattle.patmos_core.proofs.AskedFor.{act_asks, act_leaves, not_delivery, stamp_of_phase}
use Rattle.patmos_core.proofs.LoadsFirst.{act_loads_first}
use Rattle.patmos_core.proofs.tasked.Tasked.act_event.Goals as goal

pub returns-clause-asked : goal.returns-clause-asked
returns-clause-asked c =
    let all : asked_of c.ask_own.new.event ≡ window_asks c.args.self.now.body.place.core c.args.window
    ++ ops_of c.args.ask =
    c.ask_own.ensures.asks ∙ ap (λ l. l ++ ops_of c.args.ask) (c.ask_window.ensures.asks
    ∙ ap (λ l. l ++ window_asks c.args.self.now.body.place.core c.args.window) c.begin_at.ensures.asks) in
    record {
      stamp = stamp_of_phase c.args.self.now.body.place.cores c.args.self.now.body.place.core c.args.self.now.cycle 1
          c.ask_own.new.event.stamp c.args.self.now.phase
          (ap stamp_phase c.requires.act) (c.ask_own.ensures.stamp ∙ c.ask_window.ensures.stamp
          ∙ c.begin_at.ensures.stamp ∙ c.stamp_of.ensures.number);
      asks = λ h shows. act_asks c.args.self.now.cycle (core_of c.args.self.now.body h) c.ask_own.new.event
          c.args.window c.args.ask c.args.self.now.phase c.requires.act c.requires.sends
          (λ i same. c.requires.follows h i shows same) c.args.self.now.body.port.core all;
      leaves = λ h shows. act_leaves c.args.self.now.cycle (core_of c.args.self.now.body h) c.ask_own.new.event
          c.args.window c.args.ask c.args.self.now.phase c.requires.act c.requires.sends
          (λ i same. c.requires.follows h i shows same) all;
      early = c.requires.early;
      delivers = λ is. absurd (not_delivery c.args.self.now.phase c.requires.act is);
    }

pub returns-clause-fits : goal.returns-clause-fits
returns-clause-fits c = record {
  core = search rules;
  some = search rules;
  words = c.ask_own.ensures.below (comm_word c.args.self.now.body.place.cores 0)
      (c.ask_window.ensures.below (subst (AllBelow (comm_word c.args.self.now.body.place.cores 0))
      (sym c.begin_at.ensures.asks) tt)) c.requires.within;
  unread = c.ask_own.ensures.unread (c.ask_window.ensures.unread (subst AllUnread (sym c.begin_at.ensures.asks) tt));
  loads_first = act_loads_first c.args.self.now.body.place.core c.args.window c.args.ask (asked_of c.ask_own.new.event)
      (c.ask_own.ensures.asks ∙ ap (λ l. l ++ ops_of c.args.ask) (c.ask_window.ensures.asks
      ∙ ap (λ l. l ++ window_asks c.args.self.now.body.place.core c.args.window) c.begin_at.ensures.asks));
}

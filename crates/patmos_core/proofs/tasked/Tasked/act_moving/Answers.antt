use Rattle.std.proofs.Common.{refl, arith}
use Rattle.patmos_core.specs.Waiting.{IsAskedAt}
use Rattle.patmos_core.proofs.tasked.Tasked.act_moving.Goals as goal

pub act_event-requires-clause-follows : goal.act_event-requires-clause-follows
act_event-requires-clause-follows c = λ h i shows same. c.requires.follows h i

pub returns-clause-goes_on : goal.returns-clause-goes_on
returns-clause-goes_on c = record {
  stands = λ x made on. record { seen = on.seen; shows = on.shows; cores = on.cores; core = on.core; there = on.there };
  frame = record { place = refl; room = refl };
  phases = omega arith;
}

pub returns-clause-asked : goal.returns-clause-asked
returns-clause-asked c =
    let asked : IsAskedAt c.args.self.now c.act_event.new.event = c.act_event.ensures.asked in
    record {
      stamp = asked.stamp;
      asks = asked.asks;
      leaves = asked.leaves;
      early = asked.early;
      delivers = asked.delivers;
    }

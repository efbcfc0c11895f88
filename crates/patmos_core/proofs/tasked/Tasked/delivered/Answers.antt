use Rattle.slot_arbiter.specs.Stamp.{stamp}
use Rattle.patmos_step.specs.Shown.{core_of}
use Rattle.patmos_core.proofs.Resumed.{there_delivered}
use Rattle.patmos_core.proofs.tasked.Tasked.delivered.Goals as goal

pub returns-clause-stands : goal.returns-clause-stands
returns-clause-stands c = λ values e asked x made on. record {
  seen = on.seen;
  shows = record { misses = on.shows.misses; cached = on.shows.cached; trace = on.shows.trace };
  cores = on.cores;
  core = on.core;
  there = there_delivered c.args.self.now.body.place.cores c.args.self.now.body.place.core x made
      (core_of c.args.self.now.body on.seen) c.deliver.new.self.interface
      c.args.self.now.cycle c.args.self.now.phase e values c.requires.delivery c.args.self.now.body.place.in_range.among
      asked.stamp (asked.asks on.seen on.shows)
      (c.deliver.ensures.heard c.args.self.now.cycle
      (stamp c.args.self.now.body.place.cores c.args.self.now.body.place.core c.args.self.now.cycle 0) values
      (asked.delivers c.requires.delivery)) on.there;
}

use Rattle.patmos_step.specs.Shown.{core_of}
use Rattle.patmos_core.proofs.Resumed.{there_stored}
use Rattle.patmos_core.proofs.tasked.Tasked.stored.Goals as goal

pub returns-clause-stands : goal.returns-clause-stands
returns-clause-stands c = λ values e asked x made on. record {
  seen = on.seen;
  shows = on.shows;
  cores = on.cores;
  core = on.core;
  there = there_stored c.args.self.now.body.place.cores c.args.self.now.body.place.core x made
      (core_of c.args.self.now.body on.seen)
      c.args.self.now.cycle c.args.self.now.phase c.requires.pending_store.0 e values c.requires.pending_store.1
      c.args.self.now.body.place.in_range.among asked.stamp
      (asked.asks on.seen on.shows) on.there;
}

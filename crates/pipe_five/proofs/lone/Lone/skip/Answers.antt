use Rattle.std.proofs.Common.{◌∙◌}
use Rattle.patmos_step.specs.Shown.{core_of}
use Rattle.pipe_five.proofs.Cycles.{IsAsBefore}
use Rattle.pipe_five.proofs.Skipped.{skipped}
use Rattle.pipe_five.proofs.lone.Lone.skip.Goals as goal

pub returns-clause-runs : goal.returns-clause-runs
returns-clause-runs c = λ x runs.
    let after : IsAsBefore x (core_of c.args.self.now.body runs.seen) c.args.self.now.cycle c.next_active-self.result =
    skipped x c.args.self.now c.next_active-self.result runs c.next_active-self.ensures.from
    c.next_active-self.ensures.sleeps in
    record {
      seen = runs.seen;
      shows = runs.shows;
      core = after.core;
      words = λ w. after.words w ∙ runs.words w;
      placed = runs.placed;
    }

pub returns-clause-none : goal.returns-clause-none
returns-clause-none c = λ x runs.
    let after : IsAsBefore x (core_of c.args.self.now.body runs.seen) c.args.self.now.cycle c.next_active-self.result =
    skipped x c.args.self.now c.next_active-self.result runs c.next_active-self.ensures.from
    c.next_active-self.ensures.sleeps in
    after.bundles

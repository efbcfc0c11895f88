use Rattle.std.proofs.Common.{ℕ, ◌++◌, sym, ap, ◌∙◌}
use Rattle.slot_arbiter.specs.Stamp.{stamp}
use Rattle.shared_order.specs.Event.{asked_by}
use Rattle.shared_order.specs.Program.{fed}
use Rattle.patmos_model.specs.Cycle.{own, with_interface}
use Rattle.patmos_core.specs.Progress.{cycle_after, phase_after}
use Rattle.patmos_step.specs.Shown.{IsActed, core_of}
use Rattle.patmos_core.proofs.Resumed.{there_acted, there_as}
use Rattle.patmos_core.proofs.tasked.Tasked.acted.Goals as goal

pub returns-clause-stands : goal.returns-clause-stands
returns-clause-stands c = λ e asked x made on.
    let n : ℕ = c.args.self.now.body.place.cores in
    let core : ℕ = c.args.self.now.body.place.core in
    let s : ℕ = stamp n core c.args.self.now.cycle 1 in
    let done : IsActed c.own-pending_store.new.self c.own-pending_store.result
    (fed s (own c.args.self.now.cycle (with_interface (core_of c.args.self.now.body on.seen)
    c.inject-taken.new.ni.interface)) _).core =
    c.own-pending_store.ensures.done s on.seen (record {
      misses = on.shows.misses;
      cached = on.shows.cached;
      trace = on.shows.trace;
    }) in
    record {
      seen = done.at.seen;
      shows = done.at.shows;
      cores = on.cores ∙ ap (λ p. p.cores) (sym c.own-pending_store.ensures.frame.place);
      core = on.core ∙ ap (λ p. p.core) (sym c.own-pending_store.ensures.frame.place);
      there = there_as c.args.self.now.body.place c.own-pending_store.new.self.place x
          (made ++ asked_by e c.args.values.now) (core_of c.own-pending_store.new.self done.at.seen)
          (cycle_after c.args.self.now.cycle c.own-pending_store.result) c.after_act-cycle.result.0
          (phase_after c.own-pending_store.result) c.after_act-cycle.result.1
          c.own-pending_store.ensures.frame.place c.after_act-cycle.ensures.cycle c.after_act-cycle.ensures.phase
          (there_acted n core x made (core_of c.args.self.now.body on.seen)
          (core_of c.own-pending_store.new.self done.at.seen) c.inject-taken.new.ni.interface c.args.self.now.cycle
          c.args.self.now.phase c.own-pending_store.result e c.args.values.now _ c.requires.act
          c.args.self.now.body.place.in_range.among asked.stamp (asked.asks on.seen on.shows)
          (c.inject-taken.ensures.sent s) (c.inject-taken.ensures.left s ∙ sym c.split_at.ensures.back)
          (λ i. record { core = done.at.same i; pending_store = done.leaves i }) on.there);
    }

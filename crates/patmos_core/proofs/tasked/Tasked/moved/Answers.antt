use Rattle.std.proofs.Common.{◌≡◌, ℕ, ◌++◌, sym, ap, ◌∙◌, subst}
use Rattle.slot_arbiter.specs.Stamp.{stamp}
use Rattle.shared_order.specs.Event.{asked_by}
use Rattle.shared_order.specs.Program.{done, fed}
use Rattle.argo_ni.specs.Turn.{injection}
use Rattle.patmos_model.specs.State.{Core}
use Rattle.patmos_model.specs.Transaction.{transaction}
use Rattle.patmos_step.specs.Ready.{IsUpTo}
use Rattle.patmos_step.specs.Shown.{IsActed, core_of}
use Rattle.patmos_step.proofs.Moves.{own_moves}
use Rattle.patmos_core.specs.Progress.{half_at, cycle_after, phase_after, IsMoving}
use Rattle.patmos_core.proofs.Resumed.{there_acted, there_as}
use Rattle.patmos_core.proofs.WordsMoving.{sends_none}
use Rattle.patmos_core.proofs.tasked.Tasked.moved.Goals as goal

pub returns-clause-stands : goal.returns-clause-stands
returns-clause-stands c = λ e asked x made on.
    let n : ℕ = c.args.self.now.body.place.cores in
    let core : ℕ = c.args.self.now.body.place.core in
    let s : ℕ = stamp n core c.args.self.now.cycle 1 in
    let y : Core = core_of c.args.self.now.body on.seen in
    let moving : IsMoving c.args.self.now.body c.args.self.now.cycle c.args.self.now.phase =
    c.args.self.now.moving c.requires.moves in
    let quiet : injection c.args.self.now.cycle c.args.self.now.body.ni.interface
    ≡ done c.args.self.now.body.ni.interface =
    sends_none c.args.self.now.body.ni c.args.self.now.cycle
    (subst (λ p. IsUpTo (half_at c.args.self.now.cycle p) c.args.self.now.body.ni) moving.act
    c.args.self.now.sound.ni).after moving.ni in
    let left : IsActed c.transact-pending_store.new.self c.transact-pending_store.result
    (fed s (transaction c.args.self.now.cycle y) c.args.values.now).core =
    c.transact-pending_store.ensures.done s on.seen on.shows in
    record {
      seen = left.at.seen;
      shows = left.at.shows;
      cores = on.cores ∙ ap (λ p. p.cores) (sym c.transact-pending_store.ensures.frame.place);
      core = on.core ∙ ap (λ p. p.core) (sym c.transact-pending_store.ensures.frame.place);
      there = there_as c.args.self.now.body.place c.transact-pending_store.new.self.place x
          (made ++ asked_by e c.args.values.now) (core_of c.transact-pending_store.new.self left.at.seen)
          (cycle_after c.args.self.now.cycle c.transact-pending_store.result) c.after_act-cycle.result.0
          (phase_after c.transact-pending_store.result) c.after_act-cycle.result.1
          c.transact-pending_store.ensures.frame.place c.after_act-cycle.ensures.cycle c.after_act-cycle.ensures.phase
          (there_acted n core x made y (core_of c.transact-pending_store.new.self left.at.seen)
          c.args.self.now.body.ni.interface c.args.self.now.cycle
          c.args.self.now.phase c.transact-pending_store.result e c.args.values.now c.args.values.now moving.act
          c.args.self.now.body.place.in_range.among asked.stamp (asked.asks on.seen on.shows)
          (ap (λ p. (fed s p c.args.values.now).core) quiet) (ap (λ p. (fed s p c.args.values.now).left) quiet)
          (ap (λ p. (fed s p c.args.values.now).core) (own_moves c.args.self.now.cycle y moving.moves)
          ∙ (λ i. record { core = left.at.same i; pending_store = left.leaves i })) on.there);
    }

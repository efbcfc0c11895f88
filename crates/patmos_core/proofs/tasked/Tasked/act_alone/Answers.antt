use Rattle.std.proofs.Common.{◌≡◌, ℕ, ◌<◌, [], sym, ap, ◌∙◌, arith}
use Rattle.slot_arbiter.specs.Stamp.{stamp}
use Rattle.shared_order.specs.Program.{Prog, and_then, fed}
use Rattle.patmos_step.specs.declared.ask.Ask.TheVariants as asks
use Rattle.patmos_model.specs.State.{Core}
use Rattle.patmos_model.specs.Cells.{Acted}
use Rattle.patmos_model.specs.Cycle.{with_interface, own, acted}
use Rattle.patmos_step.specs.Plan.{carried_out}
use Rattle.patmos_core.specs.Position.{phases_done}
use Rattle.patmos_step.specs.Shown.{IsActed, core_of}
use Rattle.patmos_step.proofs.Own.{own_is_planned}
use Rattle.patmos_step.proofs.Asked.{asked_ops}
use Rattle.patmos_core.proofs.AskedFor.{same_registers}
use Rattle.patmos_core.proofs.SecondPhase.{on_moved, there_at, alone_resumed, further}
use Rattle.patmos_core.proofs.tasked.Tasked.act_alone.Goals as goal

pub returns-clause-goes_on : goal.returns-clause-goes_on
returns-clause-goes_on c = record {
  stands = λ x made on.
      let y : Core = core_of c.args.self.now.body on.seen in
      let s : ℕ = stamp c.args.self.now.body.place.cores c.args.self.now.body.place.core c.args.self.now.cycle 1 in
      let program : Prog Acted = carried_out c.args.plan.now c.args.self.now.cycle y in
      let left : IsActed c.carry_out-pending_store.new.self c.carry_out-pending_store.result (fed s program []).core =
      c.carry_out-pending_store.ensures.done s on.seen on.shows in
      let is : acted c.args.self.now.cycle y ≡ program =
      ap (λ p. and_then p (λ i. own c.args.self.now.cycle (with_interface y i))) c.requires.sends
      ∙ own_is_planned c.args.self.now.cycle y c.requires.settled ∙ ap (λ p. carried_out p c.args.self.now.cycle y)
      (sym c.requires.plan) in
      let asks : (fed s (own c.args.self.now.cycle y) []).ops ≡ [] =
      asked_ops asks.Nothing (own c.args.self.now.cycle y) s []
      (c.requires.follows on.seen y.plain.interface on.shows (same_registers y.plain.interface)) in
      on_moved c.args.self.now _ x made made c.carry_out-pending_store.ensures.frame on left.at.seen left.at.shows
      (there_at c.args.self.now.body.place.cores c.args.self.now.body.place.core x made c.args.self.now.cycle
      c.after_act-cycle.result.0 c.after_act-cycle.result.1
      (core_of c.carry_out-pending_store.new.self left.at.seen) c.carry_out-pending_store.result
      c.after_act-cycle.ensures.cycle c.after_act-cycle.ensures.phase
      (alone_resumed c.args.self.now.body.place.cores c.args.self.now.body.place.core x made c.args.self.now.cycle
      c.args.self.now.phase y
      (core_of c.carry_out-pending_store.new.self left.at.seen) c.carry_out-pending_store.result program
      c.args.self.now.body.place.in_range.among c.requires.act is
      (ap (λ p. (fed s p []).ops) (ap (λ p. carried_out p c.args.self.now.cycle y) c.requires.plan
      ∙ sym (own_is_planned c.args.self.now.cycle y c.requires.settled)) ∙ asks)
      (λ i. record { core = left.at.same i; pending_store = left.leaves i }) on.there));
  frame = c.carry_out-pending_store.ensures.frame;
  phases = let more : phases_done c.args.self.now.cycle c.args.self.now.phase
      < phases_done c.after_act-cycle.result.0 c.after_act-cycle.result.1 =
      further c.args.self.now.cycle c.after_act-cycle.result.0 c.args.self.now.phase c.after_act-cycle.result.1
      c.carry_out-pending_store.result c.requires.act
      c.after_act-cycle.ensures.cycle c.after_act-cycle.ensures.phase in omega (arith, more);
}

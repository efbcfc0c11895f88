use Rattle.std.proofs.Common.{sym, ap, ◌∙◌}
use Rattle.std.specs.Prelude.{option_map}
use Rattle.patmos_sem.specs.Bundles.{slot_begun, after_bundle}
use Rattle.patmos_sem.proofs.Loads.{begins_nothing}
use Rattle.patmos_sem.proofs.execution.write_back.Goals as goal

pub returns-in-None-clause-registers : goal.returns-in-None-clause-registers
returns-in-None-clause-registers c =
    c.write_single.ensures.registers
    ∙ (λ i. after_bundle c.args.st c.args.ss (record {
      first = c.first_slot.ensures.value i;
      second = (ap (option_map (λ i. i.now)) (sym c.in-None.is) ∙ c.second_slot.ensures.value) i;
    }) c.args.regs.now)

pub returns-in-None-clause-load : goal.returns-in-None-clause-load
returns-in-None-clause-load c =
    begins_nothing c.args.bundle.now c.args.regs.now c.write_single.new.regs.pending
    (c.write_single.ensures.pending ∙ ap (slot_begun c.args.regs.now) c.first_slot.ensures.value)

pub returns-in-Some-clause-registers : goal.returns-in-Some-clause-registers
returns-in-Some-clause-registers c =
    c.write_pair.ensures.registers
    ∙ (λ i. after_bundle c.args.st c.args.ss (record {
      first = c.first_slot-in-Some.ensures.value i;
      second = (ap (option_map (λ i. i.now)) (sym c.in-Some.is) ∙ c.second_slot.ensures.value) i;
    }) c.args.regs.now)

pub returns-in-Some-clause-load : goal.returns-in-Some-clause-load
returns-in-Some-clause-load c =
    begins_nothing c.args.bundle.now c.args.regs.now c.write_pair.new.regs.pending
    (c.write_pair.ensures.pending ∙ ap (slot_begun c.args.regs.now) c.first_slot-in-Some.ensures.value)

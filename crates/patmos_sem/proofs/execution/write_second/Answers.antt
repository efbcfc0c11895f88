use Rattle.std.proofs.Common.{◌∷◌, [], sym, ap, ◌∙◌}
use Rattle.std.specs.Prelude.{option_map}
use Rattle.patmos_sem.specs.Writes.{after_writes, came}
use Rattle.patmos_sem.specs.Bundles.{slot_begun, second_write, after_bundle}
use Rattle.patmos_sem.proofs.Loads.{asking_writes, asking_begins}
use Rattle.patmos_sem.proofs.execution.write_second.Goals as goal

pub returns-in-None-clause-registers : goal.returns-in-None-clause-registers
returns-in-None-clause-registers c =
    c.settle.ensures
    ∙ (λ i. record (after_writes (came c.args.regs.now.pending
    ∷ sym (asking_writes c.args.st c.args.ss c.args.regs.now c.args.bundle.now.first c.requires.asks) i
    ∷ second_write c.args.st c.args.ss c.args.regs.now ((ap (option_map (λ i. i.now)) (sym c.in-None.is)
    ∙ c.second_slot.ensures.value) i)
    ∷ []) c.args.regs.now) {
      pending = sym (asking_begins c.args.regs.now c.args.bundle.now.first c.requires.asks) i;
    })

pub returns-in-Some-clause-registers : goal.returns-in-Some-clause-registers
returns-in-Some-clause-registers c =
    c.write_pair.ensures.registers
    ∙ (λ i. after_bundle c.args.st c.args.ss (record {
      first = c.first_slot.ensures.value i;
      second = (ap (option_map (λ i. i.now)) (sym c.in-Some.is) ∙ c.second_slot.ensures.value) i;
    }) c.args.regs.now)

pub returns-in-Some-clause-nothing : goal.returns-in-Some-clause-nothing
returns-in-Some-clause-nothing c =
    c.write_pair.ensures.pending ∙ ap (slot_begun c.args.regs.now) c.first_slot.ensures.value
    ∙ asking_begins c.args.regs.now c.args.bundle.now.first c.requires.asks

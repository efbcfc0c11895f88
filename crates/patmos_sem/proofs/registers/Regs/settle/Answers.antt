use Rattle.std.proofs.Common.{◌≡◌, [], ◌∷◌, refl, sym, ◌∙◌}
use Rattle.patmos_sem.specs.Registers.{Registers}
use Rattle.patmos_sem.specs.declared.pending.Pending.TheVariants as pending
use Rattle.patmos_sem.specs.declared.writes.Write.TheVariants as write
use Rattle.patmos_sem.specs.contracts.registers.Regs.{the_view}
use Rattle.patmos_sem.specs.Writes.{after_writes, came}
use Rattle.patmos_sem.proofs.Unnamed.{quiet}
use Rattle.patmos_sem.proofs.registers.Regs.settle.Goals as goal

pub returns-in-Nothing : goal.returns-in-Nothing
returns-in-Nothing c =
    let regs : Registers = the_view c.self.inside in
    let same : regs ≡ after_writes (write.Nothing ∷ []) regs =
    quiet write.Nothing c.self.inside c.self.invariant (λ n old. refl) (λ n old. refl) in
    rw (← c.self.view_is) ((λ i. record (same i) { pending = c.in-Nothing.is i })
    ∙ (λ i. record (after_writes (came (sym c.in-Nothing.is i) ∷ []) regs) { pending = pending.Nothing }))

use Rattle.std.proofs.Common.{◌≡◌, [], ◌∷◌, refl, sym, subst}
use Rattle.patmos_sem.specs.declared.writes.Write.TheVariants as write
use Rattle.patmos_sem.specs.contracts.registers.Regs.{the_view}
use Rattle.patmos_sem.specs.Writes.{after_writes, came}
use Rattle.patmos_sem.proofs.Unnamed.{quiet}
use Rattle.patmos_sem.proofs.registers.Regs.come.Goals as goal

pub returns-in-Nothing : goal.returns-in-Nothing
returns-in-Nothing c = rw (← c.self.view_is)
    (subst (λ p. the_view c.self.inside ≡ after_writes (came p ∷ []) (the_view c.self.inside)) (sym c.in-Nothing.is)
    (quiet write.Nothing c.self.inside c.self.invariant (λ n old. refl) (λ n old. refl)))

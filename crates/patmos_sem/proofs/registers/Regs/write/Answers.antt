use Rattle.std.proofs.Common.{refl}
use Rattle.patmos_instr.specs.declared.specials.WritableSpecial.TheVariants as special
use Rattle.patmos_sem.specs.declared.writes.Write.TheVariants as write
use Rattle.patmos_sem.specs.contracts.registers.Regs.{the_view}
use Rattle.patmos_sem.proofs.Told.{parts_after, kept_registers, kept_preds}
use Rattle.patmos_sem.proofs.Unnamed.{quiet}
use Rattle.patmos_sem.proofs.registers.Regs.write.Goals as goal

pub returns-in-Nothing : goal.returns-in-Nothing
returns-in-Nothing c = rw (c.in-Nothing.is, ← c.self.view_is) (quiet write.Nothing c.self.inside c.self.invariant
    (λ n old. refl) (λ n old. refl))

pub returns-in-Register : goal.returns-in-Register
returns-in-Register c = rw (c.in-Register.is, ← c.self.view_is)
    (parts_after (write.Register c.in-Register.rd c.in-Register.value) (the_view c.self.inside)
    c.put_register.new.general c.self.inside.preds c.put_register.ensures
    (kept_preds (write.Register c.in-Register.rd c.in-Register.value) c.self.inside.preds c.self.invariant.always
    (λ n old _. refl)))

pub returns-in-Predicate : goal.returns-in-Predicate
returns-in-Predicate c = rw (c.in-Predicate.is, ← c.self.view_is)
    (parts_after (write.Predicate c.in-Predicate.pd c.in-Predicate.value) (the_view c.self.inside) c.self.inside.general
    c.put_pred.new.preds
    (kept_registers (write.Predicate c.in-Predicate.pd c.in-Predicate.value) c.self.inside.general c.self.invariant.zero
    (λ n old _. refl)) c.put_pred.ensures)

pub returns-in-S0 : goal.returns-in-S0
returns-in-S0 c = rw (c.in-Special.is, c.in-S0.is, ← c.self.view_is)
    (parts_after (write.Special special.S0 c.in-Special.value) (the_view c.self.inside) c.self.inside.general
    c.put_preds.new.preds
    (kept_registers (write.Special special.S0 c.in-Special.value) c.self.inside.general c.self.invariant.zero
    (λ n old _. refl)) c.put_preds.ensures)

pub returns-in-Sl : goal.returns-in-Sl
returns-in-Sl c = rw (c.in-Special.is, c.in-Sl.is, ← c.self.view_is)
    (quiet (write.Special special.Sl c.in-Special.value) c.self.inside c.self.invariant (λ n old. refl) (λ n old. refl))

pub returns-in-Sh : goal.returns-in-Sh
returns-in-Sh c = rw (c.in-Special.is, c.in-Sh.is, ← c.self.view_is)
    (quiet (write.Special special.Sh c.in-Special.value) c.self.inside c.self.invariant (λ n old. refl) (λ n old. refl))

pub returns-in-Srb : goal.returns-in-Srb
returns-in-Srb c = rw (c.in-Special.is, c.in-Srb.is, ← c.self.view_is)
    (quiet (write.Special special.Srb c.in-Special.value) c.self.inside c.self.invariant (λ n old. refl)
    (λ n old. refl))

pub returns-in-Sro : goal.returns-in-Sro
returns-in-Sro c = rw (c.in-Special.is, c.in-Sro.is, ← c.self.view_is)
    (quiet (write.Special special.Sro c.in-Special.value) c.self.inside c.self.invariant (λ n old. refl)
    (λ n old. refl))

pub returns-in-Product : goal.returns-in-Product
returns-in-Product c = rw (c.in-Product.is, ← c.self.view_is) (quiet (write.Product c.in-Product.low c.in-Product.high)
    c.self.inside c.self.invariant (λ n old. refl) (λ n old. refl))

use Rattle.std.proofs.Common.{◌≡◌, ap, ◌∙◌}
use Rattle.patmos_sem.specs.declared.effects.Effect.TheVariants as effect
use Rattle.patmos_model.specs.Bundle.{ends}
use Rattle.patmos_step.specs.Shown.{plain_of}
use Rattle.patmos_step.specs.Plan.{passed}
use Rattle.patmos_alone.specs.Alone.{landed}
use Rattle.patmos_alone.proofs.ByItself.{done_alone}
use Rattle.patmos_alone.proofs.AtOnce.{begins_next}
use Rattle.patmos_alone.proofs.quick.do_silent.Goals as goal

pub returns-clause-alone : goal.returns-clause-alone
returns-clause-alone c = λ h.
    done_alone c.args.cycle c.args.body.now (plain_of c.go_by.new.body)
    (record { offset = c.args.offset; words = c.args.words; effect = effect.Nothing }) h c.requires.next
    (c.go_by.ensures.plain ∙ ap (λ x. ends c.args.cycle (passed c.args.words effect.Nothing (landed c.args.offset x)))
    (c.write_registers.ensures.plain c.requires.next.here.bundle c.args.words c.requires.next.here.fetched))
    (ap (λ s. s.interface) (c.go_by.ensures.only.keeps.ni ∙ c.write_registers.ensures.only.keeps.ni))

pub returns-clause-begins : goal.returns-clause-begins
returns-clause-begins c =
    let written : plain_of c.write_registers.new.body ≡ _ =
    c.write_registers.ensures.plain c.requires.next.here.bundle c.args.words c.requires.next.here.fetched in
    begins_next c.args.cycle (plain_of c.args.body.now) (plain_of c.go_by.new.body) c.requires.next.begins
    (ap (λ x. x.status) c.go_by.ensures.plain ∙ ap (λ x. x.status) written)
    (ap (λ x. x.transfer) c.go_by.ensures.plain ∙ ap (λ x. x.transfer) written)
    (ap (λ x. x.free) c.go_by.ensures.plain)

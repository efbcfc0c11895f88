use Rattle.std.proofs.Common.{◌+◌, sym, subst, ap, ◌∙◌, arith}
use Rattle.slot_arbiter.specs.Slot.{is_slot_start}
use Rattle.patmos_instr.specs.declared.memories.Mem.TheVariants as mem
use Rattle.patmos_step.specs.Ready.{IsGranted}
use Rattle.patmos_alone.specs.Alone.{finished_load}
use Rattle.patmos_step.specs.Shown.{plain_of}
use Rattle.patmos_alone.proofs.ByItself.{load_alone, granted_after}
use Rattle.patmos_alone.proofs.Sleeping.{starts_later}
use Rattle.patmos_alone.proofs.Stretches.{only_both, goes_on, goes_by}
use Rattle.patmos_alone.proofs.Waits.{load_waits}
use Rattle.patmos_alone.proofs.bundles.load_main.Goals as goal

pub returns : goal.returns
returns c = record {
  went = (
    omega (arith, c.wait_until.ensures.goes.ahead),
    c.wait_until.ensures.within,
    goes_on c.args.cycle (c.args.cycle + 1) c.wait_until.result c.args.body.now c.finish_load.new.body
        c.wait_until.new.body
        (goes_by c.args.cycle c.args.body.now c.finish_load.new.body
        (λ h. load_alone c.args.cycle c.args.body.now (plain_of c.finish_load.new.body) c.args.next.now
        mem.M c.args.width
        c.args.rd c.args.address h c.requires.begins.begins c.requires.next c.requires.asks
        tt c.requires.granted
        (starts_later (is_slot_start c.args.body.now.place.table c.args.body.now.place.slot c.args.body.now.place.core)
        c.args.cycle c.start_of-start.result c.start_of-start.ensures.next c.if-start-cycle.false)
        (c.finish_load.ensures.plain ∙ ap (finished_load mem.M c.args.width c.args.rd c.args.address c.args.cycle)
        (c.go_through.ensures.plain c.requires.next.bundle c.requires.next.fetched))
        (ap (λ s. s.interface) (c.finish_load.ensures.only.keeps.ni ∙ c.go_through.ensures.only.keeps.ni)))
        c.finish_load.ensures.can
        (only_both c.args.body.now c.go_through.new.body c.finish_load.new.body c.go_through.ensures.only
        c.finish_load.ensures.only))
        c.wait_until.ensures.goes,
    c.wait_until.ensures.due,
  );
}

pub wait_until-requires-clause-first : goal.wait_until-requires-clause-first
wait_until-requires-clause-first c =
    load_waits c.args.width c.args.rd c.args.address c.args.cycle c.start_of-start.result c.args.next.now.words
    c.args.next.now.offset c.args.next.now.effect c.requires.next.bundle
    (plain_of c.args.body.now) (plain_of c.go_through.new.body) (plain_of c.finish_load.new.body)
    c.requires.begins.begins
    (c.go_through.ensures.plain c.requires.next.bundle c.requires.next.fetched) c.finish_load.ensures.plain
    (omega (arith, c.start_of-start.ensures.next.from, c.if-start-cycle.false)) c.start_of-start.ensures.next

pub finish_load-requires-clause-granted : goal.finish_load-requires-clause-granted
finish_load-requires-clause-granted c =
    subst (λ e. IsGranted e (plain_of c.go_through.new.body)) c.requires.asks
    (granted_after c.args.next.now.effect c.args.next.now.words c.args.next.now.offset c.requires.next.bundle
    (plain_of c.args.body.now) (plain_of c.go_through.new.body)
    (subst (λ e. IsGranted e (plain_of c.args.body.now)) (sym c.requires.asks) c.requires.granted)
    (c.go_through.ensures.plain c.requires.next.bundle c.requires.next.fetched))

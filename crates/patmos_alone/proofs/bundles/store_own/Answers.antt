use Rattle.std.proofs.Common.{sym, subst, ap, ◌∙◌}
use Rattle.patmos_step.specs.Ready.{IsGranted}
use Rattle.patmos_alone.specs.Alone.{finished_store}
use Rattle.patmos_step.specs.Shown.{plain_of}
use Rattle.patmos_alone.proofs.ByItself.{store_alone, granted_after}
use Rattle.patmos_alone.proofs.Waits.{local_waits, store_begins}
use Rattle.patmos_alone.proofs.bundles.store_own.Goals as goal

pub returns-clause-alone : goal.returns-clause-alone
returns-clause-alone c = λ h.
    store_alone c.args.cycle c.args.body.now (plain_of c.finish_store.new.body) c.args.next.now c.args.space
    c.args.width c.args.address c.args.value h c.requires.begins c.requires.next c.requires.asks
    c.requires.own c.requires.granted (local_waits c.args.space c.args.cycle (plain_of c.args.body.now).site
    c.requires.local)
    (c.finish_store.ensures.plain ∙ ap (finished_store c.args.space c.args.width c.args.address c.args.value
    c.args.cycle) (c.go_through.ensures.plain c.requires.next.bundle c.requires.next.fetched))
    (ap (λ s. s.interface) (c.finish_store.ensures.only.keeps.ni ∙ c.go_through.ensures.only.keeps.ni))

pub returns-clause-begins : goal.returns-clause-begins
returns-clause-begins c =
    store_begins c.args.space c.args.width c.args.address c.args.value c.args.cycle c.args.next.now.words
    c.args.next.now.offset c.args.next.now.effect c.requires.next.bundle
    (plain_of c.args.body.now) (plain_of c.go_through.new.body) (plain_of c.finish_store.new.body) c.requires.begins
    c.requires.local
    (c.go_through.ensures.plain c.requires.next.bundle c.requires.next.fetched) c.finish_store.ensures.plain

pub finish_store-requires-clause-granted : goal.finish_store-requires-clause-granted
finish_store-requires-clause-granted c =
    subst (λ e. IsGranted e (plain_of c.go_through.new.body)) c.requires.asks
    (granted_after c.args.next.now.effect c.args.next.now.words c.args.next.now.offset c.requires.next.bundle
    (plain_of c.args.body.now) (plain_of c.go_through.new.body)
    (subst (λ e. IsGranted e (plain_of c.args.body.now)) (sym c.requires.asks) c.requires.granted)
    (c.go_through.ensures.plain c.requires.next.bundle c.requires.next.fetched))

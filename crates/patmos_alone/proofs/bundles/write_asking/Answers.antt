use Rattle.std.proofs.Common.{◌≡◌, ◌≢◌, sym, subst, ◌∙◌}
use Rattle.patmos_sem.specs.Bundles.{after_bundle, effect_of}
use Rattle.patmos_sem.specs.declared.effects.Effect.TheVariants as effect
use Rattle.patmos_step.specs.Shown.{plain_of}
use Rattle.patmos_step.proofs.Fetching.{there_is, none_there}
use Rattle.patmos_alone.proofs.bundles.write_asking.Goals as goal

pub returns-clause-plain : goal.returns-clause-plain
returns-clause-plain c = λ b words fetched.
    let same : c.in-Some.bundle ≡ b = there_is c.args.body.now c.args.offset words c.index-found.result.now
    c.index-found.result.now c.in-Some.bundle b
    c.requires.there.inside c.index-found.ensures fetched c.in-Some.is in
    let written : c.write_second.new.regs ≡ after_bundle c.args.body.now.stack.st c.args.body.now.stack.ss b
    c.args.body.now.regs =
    c.write_second.ensures.registers ∙ (λ i. after_bundle (c.st.ensures.value i) (c.ss.ensures.value i)
    (same i) c.args.body.now.regs) in
    (λ i. record (plain_of c.args.body.now) { regs = written i })

pub write_second-requires : goal.write_second-requires
write_second-requires c =
    let same : c.in-Some.bundle ≡ c.requires.there.bundle =
    there_is c.args.body.now c.args.offset c.requires.there.words c.index-found.result.now c.index-found.result.now
    c.in-Some.bundle c.requires.there.bundle
    c.requires.there.inside c.index-found.ensures c.requires.there.fetched c.in-Some.is in
    record {
      asks = subst (λ b. effect_of b c.args.body.now.regs ≢ effect.Nothing) (sym same)
          (c.requires.asks c.requires.there.bundle c.requires.there.words c.requires.there.fetched);
    }

pub unreachable-requires : goal.unreachable-requires
unreachable-requires c =
    none_there c.args.body.now c.args.offset c.requires.there.words c.index-found.result.now c.index-found.result.now
    c.requires.there.bundle
    c.requires.there.inside c.index-found.ensures c.requires.there.fetched c.in_default.is

use Rattle.std.proofs.Common.{◌≡◌, ◌∙◌}
use Rattle.patmos_sem.specs.Bundles.{after_bundle}
use Rattle.patmos_step.specs.Shown.{plain_of}
use Rattle.patmos_step.proofs.Fetching.{there_is, none_there}
use Rattle.patmos_alone.proofs.quick.write_registers.Goals as goal

pub returns-clause-plain : goal.returns-clause-plain
returns-clause-plain c = λ b words fetched.
    let same : c.in-Some.bundle ≡ b = there_is c.args.body.now c.args.offset words c.index-found.result.now
    c.index-found.result.now c.in-Some.bundle b
    c.requires.there.inside c.index-found.ensures fetched c.in-Some.is in
    let written : c.write_back.new.regs ≡ after_bundle c.args.body.now.stack.st c.args.body.now.stack.ss b
    c.args.body.now.regs =
    c.write_back.ensures.registers ∙ (λ i. after_bundle (c.st.ensures.value i) (c.ss.ensures.value i)
    (same i) c.args.body.now.regs) in
    (λ i. record (plain_of c.args.body.now) { regs = written i })

pub unreachable-requires : goal.unreachable-requires
unreachable-requires c =
    none_there c.args.body.now c.args.offset c.requires.there.words c.index-found.result.now c.index-found.result.now
    c.requires.there.bundle
    c.requires.there.inside c.index-found.ensures c.requires.there.fetched c.in_default.is

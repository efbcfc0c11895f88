use Rattle.std.proofs.Common.{ap, ◌∙◌}
use Rattle.patmos_step.specs.Plan.{passed}
use Rattle.patmos_alone.specs.Alone.{landed}
use Rattle.patmos_alone.proofs.bundles.go_through.Goals as goal

pub returns-clause-plain : goal.returns-clause-plain
returns-clause-plain c = λ b fetched.
    c.pass.ensures.plain ∙ ap (passed c.args.next.now.words c.args.next.now.effect)
    (c.land.ensures.plain ∙ ap (landed c.args.next.now.offset) (c.write_asking.ensures.plain b
    c.args.next.now.words fetched))

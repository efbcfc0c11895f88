use Rattle.std.proofs.Common.{◌+◌, drop, arith}
use Rattle.std.proofs.lemmas.Grind.{common_steps}
use Rattle.std.proofs.lemmas.List.Elements.{All-nil, All-cons}
use Rattle.patmos_instr.specs.Bundles.{FitsBundle}
use Rattle.tc_link.proofs.Fitting.{fit_from, fit_past}
use Rattle.tc_link.proofs.words.push_bundles.Goals as goal

pub loop-bundle-preserved : goal.loop-bundle-preserved
loop-bundle-preserved c =
    let bundles = c.args.bundles.now in
    let i = c.loop-bundle.bundle-index in
    record {
      words = grind (arith, common_steps);
      fit = λ rest. c.loop-bundle.invariant.fit (fit_from (λ bs. bs) bundles i c.bundle-item.result
          (omega arith) c.bundle-item.is
          (All-cons FitsBundle c.bundle-item.result (drop (i + 1) bundles) c.push_bundle.ensures.fit rest));
    }

pub returns-clause-fit : goal.returns-clause-fit
returns-clause-fit c = c.loop-bundle.invariant.fit (fit_past (λ bs. bs) c.args.bundles.now c.loop-bundle.bundle-index
    (omega arith) (All-nil FitsBundle))

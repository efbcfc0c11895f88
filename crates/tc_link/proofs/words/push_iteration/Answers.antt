use Rattle.std.proofs.Common.{◌+◌, drop, subst, arith}
use Rattle.std.specs.List.{All}
use Rattle.std.proofs.lemmas.Grind.{common_steps}
use Rattle.std.proofs.lemmas.List.Elements.{All-cons}
use Rattle.patmos_instr.specs.Bundles.{FitsBundle}
use Rattle.sp_shape.specs.Words.{bundle_words}
use Rattle.tc_link.specs.Flat.{branch_back, turned}
use Rattle.tc_link.proofs.Fitting.{fit_from}
use Rattle.tc_link.proofs.words.push_iteration.Goals as goal

pub loop-bundle-preserved : goal.loop-bundle-preserved
loop-bundle-preserved c =
    let tail = c.args.tail.now in
    let i = c.loop-bundle.bundle-index in
    let behind = c.loop-bundle.behind in
    let b = c.bundle-item.result in
    record {
      words = grind (arith, common_steps);
      behind = grind (arith, common_steps);
      fit = λ rest. c.loop-bundle.invariant.fit (fit_from (turned behind) tail i b (omega arith) c.bundle-item.is
          (All-cons FitsBundle (branch_back behind b) (turned (behind + bundle_words b) (drop (i + 1) tail))
          (subst FitsBundle c.branch_back.ensures c.push_bundle.ensures.fit)
          (subst (λ n. All FitsBundle (turned (behind + n) (drop (i + 1) tail))) c.words_of_bundle-behind.ensures
          rest)));
    }

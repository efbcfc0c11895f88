use Rattle.std.proofs.Common.{arith, ◌≡◌, [], ◌∙◌}
use Rattle.std.proofs.lemmas.Grind.{common_steps}
use Rattle.c_parse.proofs.Declared.{items_grown, all_read}
use Rattle.c_parse.proofs.Growing.{each_grown}
use Rattle.c_parse.proofs.units.items.Goals as goal

pub loop-rest-preserved : goal.loop-rest-preserved
loop-rest-preserved c = record {
  written = items_grown _ _ _ _ _ _ c.loop-rest.invariant.written c.in_ok-push.ensures.items
      c.in_ok-item.ensures.written;
  fits = each_grown _ _ _ _ c.loop-rest.invariant.fits c.in_ok-push.ensures.items c.in_ok-item.ensures.fits;
  passes = c.loop-rest.invariant.passes ∙ c.in_ok-item.ensures.passes;
}

pub returns-clause-read : goal.returns-clause-read
returns-clause-read c = let none : c.loop-rest.rest.now ≡ [] = grind (arith, common_steps) in
    all_read _ _ c.loop-rest.invariant.passes none

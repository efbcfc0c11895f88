use Rattle.std.proofs.Common.{arith}
use Rattle.std.proofs.lemmas.Grind.{common_steps}
use Rattle.c_parse.proofs.Declared.{consts_grown}
use Rattle.c_parse.proofs.Growing.{not_empty}
use Rattle.c_parse.proofs.Starts.{constants_next, constants_done, no_more_constants}
use Rattle.c_parse.proofs.globals.constants.Goals as goal

pub loop-behind-preserved : goal.loop-behind-preserved
loop-behind-preserved c = record {
  written = consts_grown _ _ _ _ _ _ _ c.loop-behind.invariant.written c.loop-behind.invariant.some
      c.in_ok-push-2.ensures.items c.in-Some.ensures c.in_ok-further.ensures.written;
  some = not_empty _ _ _ c.in_ok-push-2.ensures.items;
  passes = grind (arith, common_steps, constants_next);
  shorter = grind (arith, common_steps);
}

pub returns-in_err-further-clause-refuses : goal.returns-in_err-further-clause-refuses
returns-in_err-further-clause-refuses c = grind (arith, common_steps, constants_next)

pub returns-in_err-rest-clause-refuses : goal.returns-in_err-rest-clause-refuses
returns-in_err-rest-clause-refuses c = grind (arith, common_steps, no_more_constants)

pub returns-clause-passes : goal.returns-clause-passes
returns-clause-passes c = grind (arith, common_steps, constants_done)

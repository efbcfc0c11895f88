use Rattle.std.proofs.Common.{arith}
use Rattle.std.proofs.lemmas.Grind.{common_steps}
use Rattle.c_parse.proofs.Growing.{args_grown, each_grown, not_empty}
use Rattle.c_parse.proofs.Starts.{arguments_next, arguments_done, arguments_operand, no_more_arguments}
use Rattle.c_parse.proofs.rights.arguments.Goals as goal

pub loop-behind-preserved : goal.loop-behind-preserved
loop-behind-preserved c = record {
  written = args_grown _ _ _ _ _ _ _ c.loop-behind.invariant.written c.loop-behind.invariant.some
      c.in_ok-push-2.ensures.items c.in-Some-after.ensures c.in_ok-arg.ensures.written;
  some = not_empty _ _ _ c.in_ok-push-2.ensures.items;
  fits = each_grown _ _ _ _ c.loop-behind.invariant.fits c.in_ok-push-2.ensures.items c.in_ok-arg.ensures.fits;
  passes = grind (arith, common_steps, arguments_next);
  shorter = grind (arith, common_steps);
}

pub returns-in_err-first-clause-refuses : goal.returns-in_err-first-clause-refuses
returns-in_err-first-clause-refuses c = grind (arith, common_steps, arguments_operand)

pub returns-in_err-arg-clause-refuses : goal.returns-in_err-arg-clause-refuses
returns-in_err-arg-clause-refuses c = grind (arith, common_steps, arguments_next)

pub returns-in_err-rest-clause-refuses : goal.returns-in_err-rest-clause-refuses
returns-in_err-rest-clause-refuses c = grind (arith, common_steps, no_more_arguments)

pub returns-clause-passes : goal.returns-clause-passes
returns-clause-passes c = grind (arith, common_steps, arguments_done)

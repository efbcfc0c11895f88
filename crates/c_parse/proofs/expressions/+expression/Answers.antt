use Rattle.std.proofs.Common.{arith, rules}
use Rattle.std.proofs.lemmas.Grind.{common_steps}
use Rattle.c_parse.proofs.Growing.{chain_grown, steps_grown, chain_written, chain_fitting, prefixes_grown}
use Rattle.c_parse.proofs.Steps.{sign_read, no_sign, tail_operator, no_tail, operand_number, operand_name, operand_paren, operand_prefix, no_operand, index_bracket, no_index}
use Rattle.c_parse.proofs.expressions.+expression.Goals as goal

pub chain-loop-op-preserved : goal.chain-loop-op-preserved
chain-loop-op-preserved t c = record {
  written = chain_grown _ _ _ _ _ _ _ _ c.loop-op.invariant.written c.in_ok-push.ensures.items (search rules)
      c.in_ok-operand.ensures.written;
  fits = c.loop-op.invariant.fits;
  above = c.loop-op.invariant.above;
  steps = steps_grown _ _ _ _ c.loop-op.invariant.steps c.in_ok-push.ensures.items (search rules)
      c.in_ok-operand.ensures.above c.in_ok-operand.ensures.fits;
  ends = omega (arith, c.in_ok-operand.ensures.ends);
  passes = grind (arith, common_steps, tail_operator);
  shorter = grind (arith, common_steps);
}

pub chain-returns-clause-written : goal.chain-returns-clause-written
chain-returns-clause-written t c =
    chain_written _ _ _ _ _ _ _ c.loop-op.invariant.written c.in_ok-first-2.ensures.ok c.of.ensures

pub chain-returns-clause-fits : goal.chain-returns-clause-fits
chain-returns-clause-fits t c = chain_fitting _ _ _ _ _ c.requires.low (omega (arith, c.if-level-gt10.false))
    c.loop-op.invariant.above c.loop-op.invariant.fits c.loop-op.invariant.steps (grind (arith, common_steps))
    c.in_ok-first-2.ensures.ok c.of.ensures

pub operand-loop-op-preserved : goal.operand-loop-op-preserved
operand-loop-op-preserved t c = record {
  written = prefixes_grown _ _ _ _ _ _ c.loop-op.invariant.written c.in_ok-push.ensures.items (search rules);
  passes = grind (arith, common_steps, operand_prefix);
  shorter = grind (arith, common_steps);
}

pub expression-returns-clause-passes : goal.expression-returns-clause-passes
expression-returns-clause-passes t c = grind (arith, common_steps, no_tail)

pub chain-returns-in_err-operand-clause-refuses : goal.chain-returns-in_err-operand-clause-refuses
chain-returns-in_err-operand-clause-refuses t c = grind (arith, common_steps, tail_operator)

pub primary-returns-in-Some-clause-passes : goal.primary-returns-in-Some-clause-passes
primary-returns-in-Some-clause-passes t c = grind (arith, common_steps, operand_number)

pub primary-returns-in-Some-name_at-clause-passes : goal.primary-returns-in-Some-name_at-clause-passes
primary-returns-in-Some-name_at-clause-passes t c = grind (arith, common_steps, operand_name)

pub primary-returns-in-Some-name_at-clause-refuses : goal.primary-returns-in-Some-name_at-clause-refuses
primary-returns-in-Some-name_at-clause-refuses t c = grind (arith, common_steps, operand_name)

pub primary-returns-in_default-opened-clause-refuses : goal.primary-returns-in_default-opened-clause-refuses
primary-returns-in_default-opened-clause-refuses t c = grind (arith, common_steps, no_operand)

pub primary-returns-in_err-inner-clause-refuses : goal.primary-returns-in_err-inner-clause-refuses
primary-returns-in_err-inner-clause-refuses t c = grind (arith, common_steps, operand_paren)

pub primary-returns-in_err-rest-clause-refuses : goal.primary-returns-in_err-rest-clause-refuses
primary-returns-in_err-rest-clause-refuses t c = grind (arith, common_steps, operand_paren, no_sign)

pub primary-returns-clause-passes : goal.primary-returns-clause-passes
primary-returns-clause-passes t c = grind (arith, common_steps, operand_paren, sign_read)

pub variable-returns-in_default-clause-passes : goal.variable-returns-in_default-clause-passes
variable-returns-in_default-clause-passes t c = grind (arith, common_steps, no_index)

pub variable-returns-in_err-index-clause-refuses : goal.variable-returns-in_err-index-clause-refuses
variable-returns-in_err-index-clause-refuses t c = grind (arith, common_steps, index_bracket)

pub variable-returns-clause-passes : goal.variable-returns-clause-passes
variable-returns-clause-passes t c = grind (arith, common_steps, index_bracket)

pub index-returns-in_err-rest-clause-refuses : goal.index-returns-in_err-rest-clause-refuses
index-returns-in_err-rest-clause-refuses t c = grind (arith, common_steps, no_sign)

pub index-returns-clause-passes : goal.index-returns-clause-passes
index-returns-clause-passes t c = grind (arith, common_steps, sign_read)

use Rattle.std.proofs.Common.{arith, refl, ◌∷◌, Some, None}
use Rattle.std.proofs.lemmas.Grind.{common_steps}
use Rattle.c_parse.proofs.Growing.{arms_passed, body_grown, each_grown, arms_grown, not_empty, arms_fitting, if_written, loop_written, inner_written, otherwise_written}
use Rattle.c_parse.specs.Expected.{Else}
use Rattle.c_parse.proofs.Starts.{statements_end, statements_statement, block_open, no_block, else_more, branch_if, branch_block, no_else, statement_if, statement_bound, statement_brace}
use Rattle.c_parse.proofs.statements.+statement.Goals as goal

pub statements-loop-behind-preserved : goal.statements-loop-behind-preserved
statements-loop-behind-preserved t c = record {
  written = body_grown _ _ _ _ _ _ c.loop-behind.invariant.written c.in_ok-push.ensures.items
      c.in_ok-statement.ensures.written;
  fits = each_grown _ _ _ _ c.loop-behind.invariant.fits c.in_ok-push.ensures.items c.in_ok-statement.ensures.fits;
  passes = grind (arith, common_steps, statements_statement);
  shorter = grind (arith, common_steps);
}

pub conditional-loop-behind-preserved : goal.conditional-loop-behind-preserved
conditional-loop-behind-preserved t c = record {
  written = arms_grown _ _ _ _ _ _ _ _ c.loop-behind.invariant.written c.loop-behind.invariant.some
      c.in_ok-push-2.ensures.items c.in-Some.ensures c.in-Some-after_word.ensures c.in_ok-further.ensures.written;
  some = not_empty _ _ _ c.in_ok-push-2.ensures.items;
  fits = each_grown _ _ _ _ c.loop-behind.invariant.fits c.in_ok-push-2.ensures.items (
    c.in_ok-further.ensures.fits,
    c.in_ok-further.ensures.body_fits,
  );
  passes = λ xs. arms_passed _ _ _ _ _ _ xs (c.loop-behind.invariant.passes xs) c.in-Some.ensures
      c.in-Some-after_word.ensures (c.in_ok-further.ensures.passes (Else ∷ xs));
  shorter = grind (arith, common_steps);
}

pub conditional-returns-in_default-after_word-clause-written : goal.conditional-returns-in_default-after_word-clause-written
conditional-returns-in_default-after_word-clause-written t c =
    otherwise_written _ _ _ _ _ _ _ c.loop-behind.invariant.written c.in-Some.ensures c.in_ok-body.ensures.written
    c.of.ensures

pub conditional-returns-in_default-after_word-clause-fits : goal.conditional-returns-in_default-after_word-clause-fits
conditional-returns-in_default-after_word-clause-fits t c = arms_fitting _ _ (Some _) c.of.ensures
    c.loop-behind.invariant.some c.loop-behind.invariant.fits c.in_ok-body.ensures.fits

pub conditional-returns-clause-written : goal.conditional-returns-clause-written
conditional-returns-clause-written t c = if_written _ _ _ _ None c.of-2.ensures c.loop-behind.invariant.written

pub conditional-returns-clause-fits : goal.conditional-returns-clause-fits
conditional-returns-clause-fits t c =
    arms_fitting _ _ None c.of-2.ensures c.loop-behind.invariant.some c.loop-behind.invariant.fits tt

pub looped-returns-clause-written : goal.looped-returns-clause-written
looped-returns-clause-written t c =
    loop_written _ _ _ _ c.args.bound _ _ refl c.in_ok-head.ensures.written c.in_ok-body.ensures.written

pub inner-returns-clause-written : goal.inner-returns-clause-written
inner-returns-clause-written t c = inner_written _ _ _ _ refl c.in_ok-body.ensures.written

pub statements-returns-in-Some-clause-passes : goal.statements-returns-in-Some-clause-passes
statements-returns-in-Some-clause-passes t c = grind (arith, common_steps, statements_end)

pub statements-returns-in_err-statement-clause-refuses : goal.statements-returns-in_err-statement-clause-refuses
statements-returns-in_err-statement-clause-refuses t c = grind (arith, common_steps, statements_statement)

pub block-returns-in_err-behind-clause-refuses : goal.block-returns-in_err-behind-clause-refuses
block-returns-in_err-behind-clause-refuses t c = grind (arith, common_steps, no_block)

pub block-returns-in_err-body-clause-refuses : goal.block-returns-in_err-body-clause-refuses
block-returns-in_err-body-clause-refuses t c = grind (arith, common_steps, block_open)

pub block-returns-clause-passes : goal.block-returns-clause-passes
block-returns-clause-passes t c = grind (arith, common_steps, block_open)

pub conditional-returns-in_err-further-clause-refuses : goal.conditional-returns-in_err-further-clause-refuses
conditional-returns-in_err-further-clause-refuses t c = grind (arith, common_steps, else_more, branch_if)

pub conditional-returns-in_err-body-clause-refuses : goal.conditional-returns-in_err-body-clause-refuses
conditional-returns-in_err-body-clause-refuses t c = grind (arith, common_steps, else_more, branch_block)

pub conditional-returns-in_default-after_word-clause-passes : goal.conditional-returns-in_default-after_word-clause-passes
conditional-returns-in_default-after_word-clause-passes t c = grind (arith, common_steps, else_more, branch_block)

pub conditional-returns-clause-passes : goal.conditional-returns-clause-passes
conditional-returns-clause-passes t c = grind (arith, common_steps, no_else)

pub statement-returns-in-Some-clause-passes : goal.statement-returns-in-Some-clause-passes
statement-returns-in-Some-clause-passes t c = grind (arith, common_steps, statement_if)

pub statement-returns-in-Some-clause-refuses : goal.statement-returns-in-Some-clause-refuses
statement-returns-in-Some-clause-refuses t c = grind (arith, common_steps, statement_if)

pub statement-returns-in-Some-bound_at-clause-passes : goal.statement-returns-in-Some-bound_at-clause-passes
statement-returns-in-Some-bound_at-clause-passes t c = grind (arith, common_steps, statement_bound)

pub statement-returns-in-Some-bound_at-clause-refuses : goal.statement-returns-in-Some-bound_at-clause-refuses
statement-returns-in-Some-bound_at-clause-refuses t c = grind (arith, common_steps, statement_bound)

pub statement-returns-in-Some-opened-clause-passes : goal.statement-returns-in-Some-opened-clause-passes
statement-returns-in-Some-opened-clause-passes t c = grind (arith, common_steps, statement_brace)

pub statement-returns-in-Some-opened-clause-refuses : goal.statement-returns-in-Some-opened-clause-refuses
statement-returns-in-Some-opened-clause-refuses t c = grind (arith, common_steps, statement_brace)

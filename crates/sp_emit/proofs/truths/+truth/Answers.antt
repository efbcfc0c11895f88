use Rattle.std.proofs.Common.{◌≡◌, ap, sym, ◌∙◌, subst, arith}
use Rattle.sp_tree.proofs.Boxes.{plain_binary}
use Rattle.sp_tree.specs.Plain.{plain_sp, between_two}
use Rattle.sp_emit.specs.Fits.{ExprFits}
use Rattle.sp_emit.specs.declared.registers.TheConstants.{FIRST}
use Rattle.sp_emit.proofs.Needs.{first_fits, second_fits}
use Rattle.sp_emit.proofs.TreeSizes.{some_size, operands_less}
use Rattle.sp_emit.proofs.truths.+truth.Goals as goal

pub first_truth-truth-requires : goal.first_truth-truth-requires
first_truth-truth-requires t c = (
  omega (arith, c.decreases, some_size (plain_sp c.args.b.now)),
  first_fits c.args.op (plain_sp c.args.a.now)
      (plain_sp c.args.b.now) c.requires,
)

pub second_truth-truth-requires : goal.second_truth-truth-requires
second_truth-truth-requires t c = (
  omega (arith, c.decreases, some_size (plain_sp c.args.a.now)),
  second_fits c.args.op (plain_sp c.args.a.now)
      (plain_sp c.args.b.now) c.requires,
)

pub truth-second_truth-requires : goal.truth-second_truth-requires
truth-second_truth-requires t c =
    let a = plain_sp c.deref-in-Binary.result.now in
    let b = plain_sp c.deref-in-Binary-2.result.now in
    let is : plain_sp c.args.e.now ≡ between_two c.in-Binary.op a b =
    ap plain_sp c.in-Binary.is ∙ plain_binary c.in-Binary.op c.deref-in-Binary.result.now c.deref-in-Binary-2.result.now
    c.in-Binary.a c.in-Binary.b (sym c.deref-in-Binary.ensures) (sym c.deref-in-Binary-2.ensures) in (
      omega (arith, c.decreases, operands_less (plain_sp c.args.e.now) c.in-Binary.op a b is),
      subst (λ e. ExprFits e FIRST) is c.requires,
    )

pub truth-first_truth-requires : goal.truth-first_truth-requires
truth-first_truth-requires t c =
    let a = plain_sp c.deref-in-Binary-2-3.result.now in
    let b = plain_sp c.deref-in-Binary-2-2.result.now in
    let is : plain_sp c.args.e.now ≡ between_two c.in-Binary-2.op a b =
    ap plain_sp c.in-Binary-2.is ∙ plain_binary c.in-Binary-2.op c.deref-in-Binary-2-3.result.now
    c.deref-in-Binary-2-2.result.now c.in-Binary-2.a c.in-Binary-2.b (sym c.deref-in-Binary-2-3.ensures)
    (sym c.deref-in-Binary-2-2.ensures) in (
      omega (arith, c.decreases, operands_less (plain_sp c.args.e.now) c.in-Binary-2.op a b is),
      subst (λ e. ExprFits e FIRST) is c.requires,
    )

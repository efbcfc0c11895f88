use Rattle.std.proofs.Common.{◌≡◌, ◌+◌, ◌∙◌, ap, sym, arith}
use Rattle.c_tree.specs.Weight.{expr_weight, steps_weight}
use Rattle.c_tree.specs.Plain.{plain_expr}
use Rattle.c_tree.specs.Plains.{steps_of}
use Rattle.c_tree.proofs.Plains.{plain_chain}
use Rattle.c_check.specs.Capped.{capped}
use Rattle.std.specs.Prelude.{sum_by}
use Rattle.std.proofs.lemmas.List.{take_all}
use Rattle.c_check.proofs.Sums.{step_weight, steps_weighed}
use Rattle.c_check.proofs.weights.+expression.Goals as goal

pub expr-returns-in-Chain : goal.expr-returns-in-Chain
unfolding expr_weight
expr-returns-in-Chain t c =
    let whole : expr_weight (plain_expr c.args.e.now) ≡ expr_weight (plain_expr c.in-Chain.first.value)
    + steps_weight (steps_of c.in-Chain.rest) =
    ap (λ e. expr_weight (plain_expr e)) c.in-Chain.is ∙ ap expr_weight (plain_chain _ _ _) in
    let first : c.expr.result ≡ capped (expr_weight (plain_expr c.in-Chain.first.value)) =
    c.expr.ensures ∙ ap (λ e. capped (expr_weight (plain_expr e))) c.deref.ensures in
    let rest : c.steps.result ≡ capped (steps_weight (steps_of c.in-Chain.rest)) =
    c.steps.ensures ∙ ap (λ steps. capped (steps_weight (steps_of steps))) c.as_slice.ensures in
    rw whole (omega arith)

pub steps-returns : goal.steps-returns
steps-returns t c =
    c.loop-step.invariant ∙ ap (λ xs. capped (sum_by step_weight xs)) (take_all c.loop-step.step-index c.args.steps.now
    c.loop-step-test.false)
    ∙ ap (λ n. capped n) (sym (steps_weighed c.args.steps.now))

use Rattle.std.proofs.Common.{◌≡◌, ◌∙◌, max, ap, arith}
use Rattle.c_tree.specs.Depth.{expr_depth, steps_depth}
use Rattle.c_tree.specs.Plain.{plain_expr}
use Rattle.c_tree.specs.Plains.{steps_of}
use Rattle.c_tree.proofs.Plains.{plain_chain}
use Rattle.c_check.specs.Capped.{capped}
use Rattle.c_check.proofs.depths.+expression.Goals as goal

pub depth-returns-in-Chain : goal.depth-returns-in-Chain
unfolding expr_depth
depth-returns-in-Chain t c =
    let whole : expr_depth (plain_expr c.args.e.now) ≡ max (expr_depth (plain_expr c.in-Chain.first.value)) (steps_depth
    (steps_of c.in-Chain.rest)) =
    ap (λ e. expr_depth (plain_expr e)) c.in-Chain.is ∙ ap expr_depth (plain_chain _ _ _) in
    let first : c.depth.result ≡ capped (expr_depth (plain_expr c.in-Chain.first.value)) =
    c.depth.ensures ∙ ap (λ e. capped (expr_depth (plain_expr e))) c.deref.ensures in
    let rest : c.deepest.result ≡ capped (steps_depth (steps_of c.in-Chain.rest)) =
    c.deepest.ensures ∙ ap (λ steps. capped (steps_depth (steps_of steps))) c.as_slice.ensures in
    rw whole (omega (arith, c.max.ensures))

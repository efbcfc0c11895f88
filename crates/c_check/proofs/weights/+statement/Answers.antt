use Rattle.std.proofs.Common.{◌≡◌, ◌+◌, ◌∙◌, ap, sym, arith}
use Rattle.c_tree.specs.Weight.{stmt_weight, block_weight, arms_weight, head_weight, otherwise_weight}
use Rattle.c_tree.specs.Plain.{plain_stmt, plain_head}
use Rattle.c_tree.specs.Plains.{block_of, arms_of, otherwise_of}
use Rattle.c_tree.proofs.Plains.{plain_if, plain_loop}
use Rattle.c_check.specs.Capped.{capped}
use Rattle.std.specs.Prelude.{sum_by}
use Rattle.std.proofs.lemmas.List.{take_all}
use Rattle.c_check.proofs.Sums.{statement_weight, arm_weight, block_weighed, arms_weighed}
use Rattle.c_check.proofs.weights.+statement.Goals as goal

pub stmt-returns-in-None : goal.stmt-returns-in-None
unfolding stmt_weight otherwise_weight
stmt-returns-in-None t c =
    let whole : stmt_weight (plain_stmt c.args.s.now) ≡ arms_weight (arms_of c.in-If.arms) + 0 =
    ap (λ s. stmt_weight (plain_stmt s)) c.in-If.is ∙ ap stmt_weight (plain_if _ _)
    ∙ ap (λ o. arms_weight (arms_of c.in-If.arms) + otherwise_weight (otherwise_of o)) c.in-None.is in
    let arms : c.branches-total.result ≡ capped (arms_weight (arms_of c.in-If.arms)) =
    c.branches-total.ensures ∙ ap (λ arms. capped (arms_weight (arms_of arms))) c.as_slice-in-If.ensures in
    rw whole (omega arith)

pub stmt-returns-in-Some : goal.stmt-returns-in-Some
unfolding stmt_weight otherwise_weight
stmt-returns-in-Some t c =
    let whole : stmt_weight (plain_stmt c.args.s.now) ≡ arms_weight (arms_of c.in-If.arms)
    + block_weight (block_of c.in-Some.body) =
    ap (λ s. stmt_weight (plain_stmt s)) c.in-If.is ∙ ap stmt_weight (plain_if _ _)
    ∙ ap (λ o. arms_weight (arms_of c.in-If.arms) + otherwise_weight (otherwise_of o)) c.in-Some.is in
    let arms : c.branches-total.result ≡ capped (arms_weight (arms_of c.in-If.arms)) =
    c.branches-total.ensures ∙ ap (λ arms. capped (arms_weight (arms_of arms))) c.as_slice-in-If.ensures in
    let body : c.block.result ≡ capped (block_weight (block_of c.in-Some.body)) =
    c.block.ensures ∙ ap (λ body. capped (block_weight (block_of body))) c.as_slice-in-Some.ensures in
    rw whole (omega arith)

pub stmt-returns-in-Loop : goal.stmt-returns-in-Loop
unfolding stmt_weight
stmt-returns-in-Loop t c =
    let whole : stmt_weight (plain_stmt c.args.s.now) ≡ head_weight (plain_head c.in-Loop.h)
    + block_weight (block_of c.in-Loop.body) =
    ap (λ s. stmt_weight (plain_stmt s)) c.in-Loop.is ∙ ap stmt_weight (plain_loop _ _ _) in
    let body : c.block-in-Loop.result ≡ capped (block_weight (block_of c.in-Loop.body)) =
    c.block-in-Loop.ensures ∙ ap (λ body. capped (block_weight (block_of body))) c.as_slice-in-Loop.ensures in
    rw whole (omega arith)

pub block-returns : goal.block-returns
block-returns t c =
    c.loop-s.invariant ∙ ap (λ xs. capped (sum_by statement_weight xs)) (take_all c.loop-s.s-index c.args.body.now
    c.loop-s-test.false)
    ∙ ap (λ n. capped n) (sym (block_weighed c.args.body.now))

pub branches-returns : goal.branches-returns
branches-returns t c =
    c.loop-arm.invariant ∙ ap (λ xs. capped (sum_by arm_weight xs)) (take_all c.loop-arm.arm-index c.args.arms.now
    c.loop-arm-test.false)
    ∙ ap (λ n. capped n) (sym (arms_weighed c.args.arms.now))

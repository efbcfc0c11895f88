use Rattle.std.proofs.Common.{◌≡◌, ◌+◌, ◌∙◌, ap, sym, arith}
use Rattle.c_tree.specs.Frame.{stmt_frame, block_frame, arms_frame, otherwise_frame}
use Rattle.c_tree.specs.Plain.{plain_stmt}
use Rattle.c_tree.specs.Plains.{block_of, arms_of, otherwise_of}
use Rattle.c_tree.proofs.Plains.{plain_if, plain_loop}
use Rattle.c_check.specs.Capped.{capped}
use Rattle.std.specs.Prelude.{sum_by}
use Rattle.std.proofs.lemmas.List.{take_all}
use Rattle.c_check.proofs.Sums.{statement_frame, arm_frame, block_framed, arms_framed}
use Rattle.c_check.proofs.frames.+statement.Goals as goal

pub stmt-returns-in-None : goal.stmt-returns-in-None
unfolding stmt_frame otherwise_frame
stmt-returns-in-None t c =
    let whole : stmt_frame (plain_stmt c.args.s.now) ≡ arms_frame (arms_of c.in-If.arms) + 0 =
    ap (λ s. stmt_frame (plain_stmt s)) c.in-If.is ∙ ap stmt_frame (plain_if _ _)
    ∙ ap (λ o. arms_frame (arms_of c.in-If.arms) + otherwise_frame (otherwise_of o)) c.in-None.is in
    let arms : c.branches-total.result ≡ capped (arms_frame (arms_of c.in-If.arms)) =
    c.branches-total.ensures ∙ ap (λ arms. capped (arms_frame (arms_of arms))) c.as_slice.ensures in
    rw whole (omega arith)

pub stmt-returns-in-Some : goal.stmt-returns-in-Some
unfolding stmt_frame otherwise_frame
stmt-returns-in-Some t c =
    let whole : stmt_frame (plain_stmt c.args.s.now) ≡ arms_frame (arms_of c.in-If.arms)
    + block_frame (block_of c.in-Some.body) =
    ap (λ s. stmt_frame (plain_stmt s)) c.in-If.is ∙ ap stmt_frame (plain_if _ _)
    ∙ ap (λ o. arms_frame (arms_of c.in-If.arms) + otherwise_frame (otherwise_of o)) c.in-Some.is in
    let arms : c.branches-total.result ≡ capped (arms_frame (arms_of c.in-If.arms)) =
    c.branches-total.ensures ∙ ap (λ arms. capped (arms_frame (arms_of arms))) c.as_slice.ensures in
    let body : c.block.result ≡ capped (block_frame (block_of c.in-Some.body)) =
    c.block.ensures ∙ ap (λ body. capped (block_frame (block_of body))) c.as_slice-in-Some.ensures in
    rw whole (omega arith)

pub stmt-returns-in-Loop : goal.stmt-returns-in-Loop
unfolding stmt_frame
stmt-returns-in-Loop t c =
    let whole : stmt_frame (plain_stmt c.args.s.now) ≡ 2 + block_frame (block_of c.in-Loop.body) =
    ap (λ s. stmt_frame (plain_stmt s)) c.in-Loop.is ∙ ap stmt_frame (plain_loop _ _ _) in
    let body : c.block-in-Loop.result ≡ capped (block_frame (block_of c.in-Loop.body)) =
    c.block-in-Loop.ensures ∙ ap (λ body. capped (block_frame (block_of body))) c.as_slice-in-Loop.ensures in
    rw whole (omega arith)

pub block-returns : goal.block-returns
block-returns t c =
    c.loop-s.invariant ∙ ap (λ xs. capped (sum_by statement_frame xs)) (take_all c.loop-s.s-index c.args.body.now
    c.loop-s-test.false)
    ∙ ap (λ n. capped n) (sym (block_framed c.args.body.now))

pub branches-returns : goal.branches-returns
branches-returns t c =
    c.loop-arm.invariant ∙ ap (λ xs. capped (sum_by arm_frame xs)) (take_all c.loop-arm.arm-index c.args.arms.now
    c.loop-arm-test.false)
    ∙ ap (λ n. capped n) (sym (arms_framed c.args.arms.now))

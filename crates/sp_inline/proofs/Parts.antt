-- Parts of what is moved name no more words.
use Rattle.std.proofs.Common.{◌≡◌, ℕ, zero, suc, ◌+◌, ◌<◌, ◌≤◌, ◌^◌, List, [], ◌∷◌, ◌++◌, length, map, get_or, drop, refl, sym, ◌∙◌, ap, arith}
use Rattle.std.proofs.lemmas.List.{drop_all}
use Rattle.tc_word.proofs.Items.{drop_item}
use Rattle.sp_tree.specs.declared.expressions.SpExpr.{SpExpr}
use Rattle.sp_tree.specs.Plain.{plain_sp}
use Rattle.sp_tree.specs.Shown.{plain_stmt, stmts_of}
use Rattle.sp_tree.specs.Statements.{PlainStmts, no_stmt, stmt, one, joined, iterations}
use Rattle.sp_tree.specs.declared.statements.SpStmt.{SpStmt}
use Rattle.sp_tree.specs.declared.statements.SpStmt.TheViews.{Iterations}
use Rattle.sp_tree.proofs.Forms.{plain_iterations}
use Rattle.sp_tree.proofs.Joins.{joined_shown}
use Rattle.sp_tree.specs.Cost.{args_cost, stmts_cost}
use Rattle.sp_inline.specs.Capped.{capped}
use Rattle.sp_inline.specs.Moved.{stmt_moved, stmts_moved}
use Rattle.sp_inline.specs.Reach.{expr_reach, args_reach, stmt_reach, stmts_reach}

pub part_reach : (args : List SpExpr) (i : ℕ) (e : SpExpr) → i < length args → e ≡ get_or args i e
    → expr_reach (plain_sp e) ≤ args_reach (map plain_sp args)
part_reach [] i e within is = absurd (omega (arith, within))
part_reach (x ∷ args) zero e within is = let same = ap (λ y. expr_reach (plain_sp y)) is in omega (arith, same)
part_reach (x ∷ args) (suc i) e within is =
    let rest = part_reach args i e (omega (arith, within)) is in omega (arith, rest)

-- ---- statements

pub stmt_part : (body : List SpStmt) (i : ℕ) (t : SpStmt) → i < length body → t ≡ get_or body i t
    → stmt_reach (plain_stmt t) ≤ stmts_reach (stmts_of body)
stmt_part [] i t within is = absurd (omega (arith, within))
stmt_part (x ∷ body) zero t within is = let same = ap (λ y. stmt_reach (plain_stmt y)) is in omega (arith, same)
stmt_part (x ∷ body) (suc i) t within is =
    let rest = stmt_part body i t (omega (arith, within)) is in omega (arith, rest)

pub joined_joined : (xs ys zs : PlainStmts) → joined (joined xs ys) zs ≡ joined xs (joined ys zs)
joined_joined no_stmt ys zs = refl
joined_joined (stmt t xs) ys zs = ap (stmt t) (joined_joined xs ys zs)

pub joined_none : (xs : PlainStmts) → joined xs no_stmt ≡ xs
joined_none no_stmt = refl
joined_none (stmt t xs) = ap (stmt t) (joined_none xs)

-- one statement more
pub next_moved : (place : ℕ) (out : List SpStmt) (whole : PlainStmts) (body : List SpStmt) (i : ℕ) (t m : SpStmt)
    → i < length body → t ≡ get_or body i t
    → plain_stmt m ≡ stmt_moved place (plain_stmt t) → joined (stmts_of out) (stmts_moved place
    (stmts_of (drop i body))) ≡ whole
    → joined (stmts_of (out ++ m ∷ [])) (stmts_moved place (stmts_of (drop (i + 1) body))) ≡ whole
next_moved place out whole body i t m within is moved so_far =
    let rest = stmts_moved place (stmts_of (drop (i + 1) body)) in
    ap (λ xs. joined xs rest) (joined_shown out (m ∷ [])) ∙ joined_joined (stmts_of out) (one (plain_stmt m)) rest
    ∙ ap (λ x. joined (stmts_of out) (stmt x rest)) moved
    ∙ sym (ap (λ ts. joined (stmts_of out) (stmts_moved place (stmts_of ts))) (drop_item body i t within is)) ∙ so_far

pub none_moved : (place : ℕ) (out whole : PlainStmts) (body : List SpStmt) (i : ℕ) → length body ≤ i
    → joined out (stmts_moved place (stmts_of (drop i body))) ≡ whole → out ≡ whole
none_moved place out whole body i past so_far =
    sym (joined_none out) ∙ ap (λ ts. joined out (stmts_moved place (stmts_of ts))) (sym (drop_all i body past))
    ∙ so_far

-- iterations by the list of their statements
pub iterations_is : (t : SpStmt) (count : ℕ) (body body' : List SpStmt) → t ≡ Iterations count body → body' ≡ body
    → iterations count (stmts_of body') ≡ plain_stmt t
iterations_is t count body body' is same =
    ap (λ b. iterations count (stmts_of b)) same ∙ sym (plain_iterations count body) ∙ ap plain_stmt (sym is)

-- ---- words of code, and levels of iterations

pub cost_done : (total n : ℕ) (body : List SpStmt) (i : ℕ) → length body ≤ i → total < 2 ^ 64
    → capped (total + stmts_cost (stmts_of (drop i body))) ≡ n → total ≡ n
cost_done total n body i past fits so_far =
    let none = ap (λ ts. stmts_cost (stmts_of ts)) (drop_all i body past) in
    omega (arith, none, fits, so_far)

pub args_cost_done : (total n : ℕ) (args : List SpExpr) (i : ℕ) → length args ≤ i → total < 2 ^ 64
    → capped (total + args_cost (map plain_sp (drop i args))) ≡ n → total ≡ n
args_cost_done total n args i past fits so_far =
    let none = ap (λ es. args_cost (map plain_sp es)) (drop_all i args past) in
    omega (arith, none, fits, so_far)

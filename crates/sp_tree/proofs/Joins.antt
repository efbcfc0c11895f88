-- Statements after others.
use Rattle.std.proofs.Common.{◌≡◌, ℕ, ◌+◌, Bool, true, false, List, [], ◌∷◌, ◌++◌, refl, ap, sym, ◌∙◌, arith}
use Rattle.std.proofs.lemmas.List.{append_assoc}
use Rattle.std.specs.Prelude.{◌&&◌, max}
use Rattle.sp_tree.specs.declared.statements.SpStmt.{SpStmt}
use Rattle.sp_tree.specs.Cost.{stmts_cost}
use Rattle.sp_tree.specs.Formed.{stmt_formed, stmts_formed, stmts_levels}
use Rattle.sp_tree.specs.Shown.{plain_stmt, stmts_of}
use Rattle.sp_tree.specs.Statements.{PlainStmts, no_stmt, stmt, PlainFunction, joined}
use Rattle.sp_tree.specs.Straight.{State, Serves, stmt_done, stmts_done}
use Rattle.sp_tree.specs.Uses.{stmt_uses, stmts_uses}

pub joined_done : (g : Serves) (xs ys : PlainStmts) (s : State) → stmts_done g (joined xs ys) s
    ≡ stmts_done g ys (stmts_done g xs s)
joined_done g no_stmt ys s = refl
joined_done g (stmt t rest) ys s = joined_done g rest ys (stmt_done g t s)

both_again : (a b c : Bool) → (a && (b && c)) ≡ ((a && b) && c)
both_again true b c = refl
both_again false b c = refl

pub joined_formed : (fs : List PlainFunction) (number slots : ℕ) (xs ys : PlainStmts)
    → stmts_formed fs number slots (joined xs ys) ≡ (stmts_formed fs number slots xs && stmts_formed fs number slots ys)
joined_formed fs number slots no_stmt ys = refl
joined_formed fs number slots (stmt t rest) ys =
    ap (λ b. stmt_formed fs number slots t && b) (joined_formed fs number slots rest ys)
    ∙ both_again (stmt_formed fs number slots t) (stmts_formed fs number slots rest) (stmts_formed fs number slots ys)

pub joined_cost : (xs ys : PlainStmts) → stmts_cost (joined xs ys) ≡ stmts_cost xs + stmts_cost ys
joined_cost no_stmt ys = omega arith
joined_cost (stmt t rest) ys = let more = joined_cost rest ys in omega (arith, more)

pub joined_levels : (xs ys : PlainStmts) → stmts_levels (joined xs ys) ≡ max (stmts_levels xs) (stmts_levels ys)
joined_levels no_stmt ys = omega arith
joined_levels (stmt t rest) ys = let more = joined_levels rest ys in omega (arith, more)

pub joined_uses : (xs ys : PlainStmts) → stmts_uses (joined xs ys) ≡ stmts_uses xs ++ stmts_uses ys
joined_uses no_stmt ys = refl
joined_uses (stmt t rest) ys =
    ap (λ us. stmt_uses t ++ us) (joined_uses rest ys) ∙ sym (append_assoc (stmt_uses t) (stmts_uses rest)
    (stmts_uses ys))

pub joined_shown : (xs ys : List SpStmt) → stmts_of (xs ++ ys) ≡ joined (stmts_of xs) (stmts_of ys)
joined_shown [] ys = refl
joined_shown (x ∷ xs) ys = ap (stmt (plain_stmt x)) (joined_shown xs ys)

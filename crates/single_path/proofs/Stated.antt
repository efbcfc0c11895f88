-- Statements after others, as they are added one by one.
use Rattle.std.proofs.Common.{◌≡◌, List, [], ◌∷◌, ◌++◌, refl, ap, ◌∙◌}
use Rattle.sp_tree.specs.declared.statements.SpStmt.{SpStmt}
use Rattle.sp_tree.specs.Shown.{plain_stmt, stmts_of}
use Rattle.sp_tree.specs.Statements.{PlainStmt, PlainStmts, no_stmt, stmt, one, joined}
use Rattle.sp_tree.proofs.Joins.{joined_shown}

pub stmts_push : (xs : List SpStmt) (t : SpStmt) → stmts_of (xs ++ t ∷ []) ≡ joined (stmts_of xs) (one (plain_stmt t))
stmts_push xs t = joined_shown xs (t ∷ [])

pub joined_none : (xs : PlainStmts) → joined xs no_stmt ≡ xs
joined_none no_stmt = refl
joined_none (stmt t xs) = ap (stmt t) (joined_none xs)

pub joined_joined : (xs ys zs : PlainStmts) → joined (joined xs ys) zs ≡ joined xs (joined ys zs)
joined_joined no_stmt ys zs = refl
joined_joined (stmt t xs) ys zs = ap (stmt t) (joined_joined xs ys zs)

pub joined_twice : (xs : PlainStmts) (a b : PlainStmt) → joined (joined xs (one a)) (one b) ≡ joined xs (stmt a (one b))
joined_twice xs a b = joined_joined xs (one a) (one b)

pub joined_one : (xs ys : PlainStmts) (a : PlainStmt) → joined (joined xs ys) (one a) ≡ joined xs (joined ys (one a))
joined_one xs ys a = joined_joined xs ys (one a)

pub joined_two : (xs ys : PlainStmts) (a b : PlainStmt) → joined (joined (joined xs ys) (one a)) (one b)
    ≡ joined xs (joined ys (stmt a (one b)))
joined_two xs ys a b = joined_twice (joined xs ys) a b ∙ joined_joined xs ys (stmt a (one b))

pub three_more : (xs ys : PlainStmts) (a b c : PlainStmt) → joined (joined (joined (joined xs (one a)) (one b))
    (one c)) ys ≡ joined xs (stmt a (stmt b (stmt c ys)))
three_more xs ys a b c =
    joined_joined (joined (joined xs (one a)) (one b)) (one c) ys
    ∙ joined_joined (joined xs (one a)) (one b) (stmt c ys)
    ∙ joined_joined xs (one a) (stmt b (stmt c ys))

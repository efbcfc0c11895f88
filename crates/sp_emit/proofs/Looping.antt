-- One more statement, and one more argument.
use Rattle.std.proofs.Common.{◌≡◌, ℕ, ◌+◌, ◌<◌, ◌≤◌, List, length, drop, get_or, map, ap, sym, ◌∙◌, subst}
use Rattle.std.proofs.lemmas.List.{drop_all}
use Rattle.tc_word.proofs.Items.{drop_item}
use Rattle.sp_tree.specs.Plain.{plain_sp}
use Rattle.sp_tree.specs.Shown.{plain_stmt, stmts_of}
use Rattle.sp_tree.specs.declared.expressions.SpExpr.{SpExpr}
use Rattle.sp_tree.specs.declared.statements.SpStmt.{SpStmt}
use Rattle.sp_shape.proofs.Joins.{joined-assoc, joined-nothing}
use Rattle.sp_shape.specs.Parts.{PlainParts, joined}
use Rattle.sp_emit.specs.Expressions.{expr_code}
use Rattle.sp_emit.specs.Fits.{ArgsFit}
use Rattle.sp_emit.specs.Statements.{args_code, stmt_code, stmts_code}
use Rattle.sp_emit.proofs.Fitting.{other_arguments}
use Rattle.sp_emit.specs.declared.stands.Homes.{Homes}

-- what was added goes over to what is there
moved : (out next code rest whole : PlainParts) → joined out (joined code rest) ≡ whole → next ≡ joined out code
    → joined next rest ≡ whole
moved out next code rest whole before added = ap (λ p. joined p rest) added ∙ joined-assoc out code rest ∙ before

pub statement_added : (homes : Homes) (frame counter : ℕ) (body : List SpStmt) (i : ℕ) (t : SpStmt)
    (out next whole : PlainParts) → i < length body → t ≡ get_or body i t
    → joined out (stmts_code homes frame counter (stmts_of (drop i body))) ≡ whole → next
    ≡ joined out (stmt_code homes frame counter (plain_stmt t))
    → joined next (stmts_code homes frame counter (stmts_of (drop (i + 1) body))) ≡ whole
statement_added homes frame counter body i t out next whole within is before added =
    moved out next (stmt_code homes frame counter (plain_stmt t)) (stmts_code homes frame counter
    (stmts_of (drop (i + 1) body))) whole
    (ap (λ ts. joined out (stmts_code homes frame counter (stmts_of ts))) (sym (drop_item body i t within is))
    ∙ before) added

pub statements_done : (homes : Homes) (frame counter : ℕ) (body : List SpStmt) (i : ℕ) (out whole : PlainParts)
    → length body ≤ i → joined out (stmts_code homes frame counter (stmts_of (drop i body))) ≡ whole → out ≡ whole
statements_done homes frame counter body i out whole past before =
    sym (joined-nothing out) ∙ ap (λ ts. joined out (stmts_code homes frame counter (stmts_of ts))) (sym
    (drop_all i body past)) ∙ before

pub argument_added : (homes : Homes) (args : List SpExpr) (i rd : ℕ) (e : SpExpr) (out next whole : PlainParts)
    → i < length args → e ≡ get_or args i e
    → joined out (args_code homes (map plain_sp (drop i args)) rd) ≡ whole → next
    ≡ joined out (expr_code homes (plain_sp e) rd)
    → joined next (args_code homes (map plain_sp (drop (i + 1) args)) (rd + 1)) ≡ whole
argument_added homes args i rd e out next whole within is before added =
    moved out next (expr_code homes (plain_sp e) rd) (args_code homes (map plain_sp (drop (i + 1) args)) (rd + 1)) whole
    (ap (λ es. joined out (args_code homes (map plain_sp es) rd)) (sym (drop_item args i e within is)) ∙ before) added

pub arguments_done : (homes : Homes) (args : List SpExpr) (i rd : ℕ) (out whole : PlainParts) → length args ≤ i
    → joined out (args_code homes (map plain_sp (drop i args)) rd) ≡ whole → out ≡ whole
arguments_done homes args i rd out whole past before =
    sym (joined-nothing out) ∙ ap (λ es. joined out (args_code homes (map plain_sp es) rd)) (sym (drop_all i args past))
    ∙ before

pub others_fit : (args : List SpExpr) (i rd : ℕ) (e : SpExpr) → i < length args → e ≡ get_or args i e
    → ArgsFit (map plain_sp (drop i args)) rd
    → ArgsFit (map plain_sp (drop (i + 1) args)) (rd + 1)
others_fit args i rd e within is fits =
    other_arguments (plain_sp e) (map plain_sp (drop (i + 1) args)) (subst (λ es. ArgsFit (map plain_sp es) rd)
    (drop_item args i e within is) fits)

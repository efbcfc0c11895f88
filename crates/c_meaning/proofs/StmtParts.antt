-- Statements, resolved, by their parts.
use Rattle.std.proofs.Common.{◌≡◌, ℕ, ◌+◌, ◌<◌, ◌≤◌, Bool, List, [], ◌∷◌, ◌++◌, length, get_or, take, drop, map, Option, None, Some, refl, ap, ◌∙◌, arith}
use Rattle.std.specs.Prelude.{option_map}
use Rattle.std.proofs.lemmas.List.{take-append-le, length-take}
use Rattle.tc_word.proofs.Items.{drop_item}
use Rattle.c_tree.specs.declared.expressions.Expr.{Expr}
use Rattle.c_tree.specs.declared.statements.Arm.{Arm}
use Rattle.c_tree.specs.declared.statements.Bound.{Bound}
use Rattle.c_tree.specs.declared.statements.Head.{Head}
use Rattle.c_tree.specs.declared.statements.Kind.{Kind}
use Rattle.c_tree.specs.declared.statements.Right.{Right}
use Rattle.c_tree.specs.declared.statements.Stmt.{Stmt, Declare, Set, SetElement, Call, Send, Break, Continue, Return}
use Rattle.c_tree.specs.declared.statements.Stmt.TheViews.{If, Loop, Inner}
use Rattle.c_tree.specs.Plain.{PlainStmt, plain_expr, plain_right, plain_head, plain_stmt}
use Rattle.c_tree.specs.Plain as tree
use Rattle.c_tree.specs.Plains.{block_of, arms_of, otherwise_of}
use Rattle.c_tree.proofs.Plains.{plain_inner, plain_loop, plain_if}
use Rattle.c_meaning.specs.Actions.{no_action, transfers, iterations, breaks, continues, returns, branch, one, joined}
use Rattle.c_meaning.specs.Meaning.{with_variable, names_after, most_iterations}
use Rattle.c_meaning.specs.Open.{closed}
use Rattle.c_tree.specs.Names.{number_of}
use Rattle.c_meaning.specs.Resolve.{resolved, resolved_args, variable_target, element_target, maybe_sets, numbered_call, resolved_right, resolved_declaration, resolved_condition, resolved_begin, resolved_next, resolved_return, choice, resolved_stmt, resolved_block, resolved_arms, resolved_otherwise, resolved_body}
use Rattle.c_meaning.specs.Scope.{Variable}
use Rattle.c_meaning.specs.Values.{Names, named}

-- ---- what a statement is resolved to

pub declare_resolved : (fs : List (List ℕ)) (names : Names) (s : Stmt) (kind : Kind) (text : List ℕ) (r : Option Right)
    → s ≡ Declare kind text r
    → resolved_stmt fs names (plain_stmt s) ≡ resolved_declaration fs (with_variable names kind text)
    (length names.variables) (option_map plain_right r)
unfolding plain_stmt
declare_resolved fs names s kind text r is = ap (λ x. resolved_stmt fs names (plain_stmt x)) is

pub set_resolved : (fs : List (List ℕ)) (names : Names) (s : Stmt) (text : List ℕ) (r : Right) → s ≡ Set text r
    → resolved_stmt fs names (plain_stmt s) ≡ resolved_right fs names None (variable_target (named names text))
    (plain_right r)
unfolding plain_stmt
set_resolved fs names s text r is = ap (λ x. resolved_stmt fs names (plain_stmt x)) is

pub set_element_resolved : (fs : List (List ℕ)) (names : Names) (s : Stmt) (text : List ℕ) (index : Expr) (r : Right)
    → s ≡ SetElement text index r
    → resolved_stmt fs names (plain_stmt s)
    ≡ resolved_right fs names None (element_target (named names text) (resolved names None (plain_expr index)))
    (plain_right r)
unfolding plain_stmt
set_element_resolved fs names s text index r is = ap (λ x. resolved_stmt fs names (plain_stmt x)) is

pub call_resolved : (fs : List (List ℕ)) (names : Names) (s : Stmt) (text : List ℕ) (args : List Expr) → s
    ≡ Call text args
    → resolved_stmt fs names (plain_stmt s) ≡ numbered_call (number_of text fs) (resolved_args names None
    (map plain_expr args)) None
unfolding plain_stmt
call_resolved fs names s text args is = ap (λ x. resolved_stmt fs names (plain_stmt x)) is

pub send_resolved : (fs : List (List ℕ)) (names : Names) (s : Stmt) (core : ℕ) (u : Bool) (a : Expr) (b : Expr)
    (c : Expr) → s ≡ Send core u a b c
    → resolved_stmt fs names (plain_stmt s)
    ≡ one (transfers core (resolved names None (plain_expr a)) (resolved names None (plain_expr b))
    (resolved names None (plain_expr c)))
unfolding plain_stmt
send_resolved fs names s core u a b c is = ap (λ x. resolved_stmt fs names (plain_stmt x)) is

pub if_resolved : (fs : List (List ℕ)) (names : Names) (s : Stmt) (arms : List Arm) (otherwise : Option (List Stmt)) → s
    ≡ If arms otherwise
    → otherwise ≡ None → resolved_stmt fs names (plain_stmt s)
    ≡ choice (resolved_arms fs names (arms_of arms)) no_action
if_resolved fs names s arms otherwise is none =
    ap (λ x. resolved_stmt fs names (plain_stmt x)) is ∙ ap (resolved_stmt fs names) (plain_if arms otherwise)
    ∙ ap (λ o. choice (resolved_arms fs names (arms_of arms)) (resolved_otherwise fs names (otherwise_of o))) none

pub if_else_resolved : (fs : List (List ℕ)) (names : Names) (s : Stmt) (arms : List Arm)
    (otherwise : Option (List Stmt)) (body : List Stmt)
    → s ≡ If arms otherwise → otherwise ≡ Some body
    → resolved_stmt fs names (plain_stmt s) ≡ choice (resolved_arms fs names (arms_of arms)) (resolved_block fs names
    (block_of body))
if_else_resolved fs names s arms otherwise body is some =
    ap (λ x. resolved_stmt fs names (plain_stmt x)) is ∙ ap (resolved_stmt fs names) (plain_if arms otherwise)
    ∙ ap (λ o. choice (resolved_arms fs names (arms_of arms)) (resolved_otherwise fs names (otherwise_of o))) some

pub loop_resolved : (fs : List (List ℕ)) (names : Names) (s : Stmt) (bound : Option Bound) (head : Head)
    (body : List Stmt) → s ≡ Loop bound head body
    → resolved_stmt fs names (plain_stmt s)
    ≡ joined (maybe_sets (resolved_begin names (plain_head head)))
    (one (iterations (most_iterations bound) (resolved_condition names (plain_head head))
    (resolved_block fs names (block_of body)) (resolved_next names (plain_head head))))
loop_resolved fs names s bound head body is =
    ap (λ x. resolved_stmt fs names (plain_stmt x)) is ∙ ap (resolved_stmt fs names) (plain_loop bound head body)

pub break_resolved : (fs : List (List ℕ)) (names : Names) (s : Stmt) → s ≡ Break → resolved_stmt fs names (plain_stmt s)
    ≡ one breaks
unfolding plain_stmt
break_resolved fs names s is = ap (λ x. resolved_stmt fs names (plain_stmt x)) is

pub continue_resolved : (fs : List (List ℕ)) (names : Names) (s : Stmt) → s ≡ Continue
    → resolved_stmt fs names (plain_stmt s) ≡ one continues
unfolding plain_stmt
continue_resolved fs names s is = ap (λ x. resolved_stmt fs names (plain_stmt x)) is

pub return_resolved : (fs : List (List ℕ)) (names : Names) (s : Stmt) (e : Option Expr) → s ≡ Return e
    → resolved_stmt fs names (plain_stmt s) ≡ one (returns (resolved_return names (option_map plain_expr e)))
unfolding plain_stmt
return_resolved fs names s e is = ap (λ x. resolved_stmt fs names (plain_stmt x)) is

pub inner_resolved : (fs : List (List ℕ)) (names : Names) (s : Stmt) (body : List Stmt) → s ≡ Inner body
    → resolved_stmt fs names (plain_stmt s) ≡ resolved_block fs names (block_of body)
inner_resolved fs names s body is =
    ap (λ x. resolved_stmt fs names (plain_stmt x)) is ∙ ap (resolved_stmt fs names) (plain_inner body)

-- ---- the names after a statement

pub declare_named : (names : Names) (s : Stmt) (kind : Kind) (text : List ℕ) (r : Option Right) → s
    ≡ Declare kind text r
    → names_after names (plain_stmt s) ≡ with_variable names kind text
unfolding plain_stmt
declare_named names s kind text r is = ap (λ x. names_after names (plain_stmt x)) is

pub set_named : (names : Names) (s : Stmt) (text : List ℕ) (r : Right) → s ≡ Set text r
    → names_after names (plain_stmt s) ≡ names
unfolding plain_stmt
set_named names s text r is = ap (λ x. names_after names (plain_stmt x)) is

pub set_element_named : (names : Names) (s : Stmt) (text : List ℕ) (index : Expr) (r : Right) → s
    ≡ SetElement text index r → names_after names (plain_stmt s) ≡ names
unfolding plain_stmt
set_element_named names s text index r is = ap (λ x. names_after names (plain_stmt x)) is

pub call_named : (names : Names) (s : Stmt) (text : List ℕ) (args : List Expr) → s ≡ Call text args
    → names_after names (plain_stmt s) ≡ names
unfolding plain_stmt
call_named names s text args is = ap (λ x. names_after names (plain_stmt x)) is

pub send_named : (names : Names) (s : Stmt) (core : ℕ) (u : Bool) (a : Expr) (b : Expr) (c : Expr) → s
    ≡ Send core u a b c → names_after names (plain_stmt s) ≡ names
unfolding plain_stmt
send_named names s core u a b c is = ap (λ x. names_after names (plain_stmt x)) is

pub if_named : (names : Names) (s : Stmt) (arms : List Arm) (otherwise : Option (List Stmt)) → s ≡ If arms otherwise
    → names_after names (plain_stmt s) ≡ names
if_named names s arms otherwise is =
    ap (λ x. names_after names (plain_stmt x)) is ∙ ap (names_after names) (plain_if arms otherwise)

pub loop_named : (names : Names) (s : Stmt) (bound : Option Bound) (head : Head) (body : List Stmt) → s
    ≡ Loop bound head body
    → names_after names (plain_stmt s) ≡ names
loop_named names s bound head body is =
    ap (λ x. names_after names (plain_stmt x)) is ∙ ap (names_after names) (plain_loop bound head body)

pub break_named : (names : Names) (s : Stmt) → s ≡ Break → names_after names (plain_stmt s) ≡ names
unfolding plain_stmt
break_named names s is = ap (λ x. names_after names (plain_stmt x)) is

pub continue_named : (names : Names) (s : Stmt) → s ≡ Continue → names_after names (plain_stmt s) ≡ names
unfolding plain_stmt
continue_named names s is = ap (λ x. names_after names (plain_stmt x)) is

pub return_named : (names : Names) (s : Stmt) (e : Option Expr) → s ≡ Return e → names_after names (plain_stmt s)
    ≡ names
unfolding plain_stmt
return_named names s e is = ap (λ x. names_after names (plain_stmt x)) is

pub inner_named : (names : Names) (s : Stmt) (body : List Stmt) → s ≡ Inner body → names_after names (plain_stmt s)
    ≡ names
inner_named names s body is = ap (λ x. names_after names (plain_stmt x)) is ∙ ap (names_after names) (plain_inner body)

-- ---- lists, from an item on

pub block_next : (fs : List (List ℕ)) (names : Names) (body : List Stmt) (i : ℕ) (s : Stmt) → i < length body → s
    ≡ get_or body i s
    → resolved_block fs names (block_of (drop i body))
    ≡ joined (resolved_stmt fs names (plain_stmt s)) (resolved_block fs (names_after names (plain_stmt s))
    (block_of (drop (i + 1) body)))
block_next fs names body i s within is = ap (λ ss. resolved_block fs names (block_of ss)) (drop_item body i s within is)

pub arms_next : (fs : List (List ℕ)) (names : Names) (arms : List Arm) (i : ℕ) (a : Arm) → i < length arms → a
    ≡ get_or arms i a
    → resolved_arms fs names (arms_of (drop i arms))
    ≡ branch (resolved names None (plain_expr a.condition)) (resolved_block fs names (block_of a.body))
    (resolved_arms fs names (arms_of (drop (i + 1) arms)))
arms_next fs names arms i a within is = ap (λ as'. resolved_arms fs names (arms_of as')) (drop_item arms i a within is)

-- a function's block is a block
pub body_is_block : (fs : List (List ℕ)) (names : Names) (body : List Stmt) → resolved_block fs names (block_of body)
    ≡ resolved_body fs names (map plain_stmt body)
body_is_block fs names [] = refl
body_is_block fs names (s ∷ body) =
    ap (joined (resolved_stmt fs names (plain_stmt s))) (body_is_block fs (names_after names (plain_stmt s)) body)

-- ---- names that stay open

kept_behind : (first names : Names) (more : List Variable) → closed (length first.variables) names ≡ first
    → closed (length first.variables) (record names { variables = names.variables ++ more }) ≡ first
kept_behind first names more kept =
    let variables : take (length first.variables) names.variables ≡ first.variables =
    ap (λ (n : Names). n.variables) kept in
    let within : length first.variables ≤ length names.variables =
    omega (arith, length-take (length first.variables) names.variables, ap length variables) in
    ap (λ vs. let n : Names = record names { variables = vs } in n) (take-append-le (length first.variables)
    names.variables more within) ∙ kept

pub kept_after : (first names : Names) (s : PlainStmt) → closed (length first.variables) names ≡ first
    → closed (length first.variables) (names_after names s) ≡ first
kept_after first names (tree.declared kind text r) kept = kept_behind first names _ kept
kept_after first names _ kept = kept

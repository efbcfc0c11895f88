-- The uses of expressions and statements, by their parts.
use Rattle.std.proofs.Common.{◌≡◌, ℕ, ◌+◌, ◌<◌, Bool, List, [], ◌∷◌, ◌++◌, length, get_or, drop, map, Option, refl, ap, ◌∙◌}
use Rattle.std.specs.Prelude.{option_map}
use Rattle.std.specs.declared.boxed.Box.{Box}
use Rattle.std.specs.Global.{Global}
use Rattle.tc_word.proofs.Items.{drop_item}
use Rattle.c_tree.specs.declared.expressions.Expr.{Expr, Number, Name}
use Rattle.c_tree.specs.declared.expressions.Expr.TheViews.{Chain, Unary, Element, Paren}
use Rattle.c_tree.specs.declared.expressions.Step.{Step}
use Rattle.c_tree.specs.declared.expressions.UnaryOp.{UnaryOp}
use Rattle.c_tree.specs.declared.statements.Arm.{Arm}
use Rattle.c_tree.specs.declared.statements.Bound.{Bound}
use Rattle.c_tree.specs.declared.statements.Head.{Head}
use Rattle.c_tree.specs.declared.statements.Kind.{Kind}
use Rattle.c_tree.specs.declared.statements.Right.{Right}
use Rattle.c_tree.specs.declared.statements.Stmt.{Stmt, Declare, Set, SetElement, Call, Send, Break, Continue, Return}
use Rattle.c_tree.specs.declared.statements.Stmt.TheViews.{If, Loop, Inner}
use Rattle.c_tree.specs.Plain.{plain_expr, plain_right, plain_head, plain_stmt}
use Rattle.c_tree.specs.Plains.{steps_of, block_of, arms_of, otherwise_of}
use Rattle.c_tree.proofs.Plains.{plain_chain, plain_inner, plain_loop, plain_if}
use Rattle.c_meaning.specs.Meaning.{with_variable, names_after}
use Rattle.c_meaning.specs.Values.{Names, named}
use Rattle.c_mentions.specs.Uses.{reads, sets, sends, expr_uses, steps_uses, args_uses, right_uses, first_uses, returned_uses, head_uses, stmt_uses, block_uses, arms_uses, otherwise_uses, body_uses}

-- ---- expressions

pub chain_used : (names : Names) (e : Expr) (at : ℕ) (b : Box Expr Global) (steps : List Step) → e ≡ Chain at b steps
    → expr_uses names (plain_expr e) ≡ expr_uses names (plain_expr b.value) ++ steps_uses names (steps_of steps)
chain_used names e at b steps is =
    ap (λ x. expr_uses names (plain_expr x)) is ∙ ap (expr_uses names) (plain_chain at b steps)

pub unary_used : (names : Names) (e : Expr) (ops : List UnaryOp) (b : Box Expr Global) → e ≡ Unary ops b
    → expr_uses names (plain_expr e) ≡ expr_uses names (plain_expr b.value)
unfolding plain_expr
unary_used names e ops b is = ap (λ x. expr_uses names (plain_expr x)) is

pub number_used : (names : Names) (e : Expr) (n : ℕ) (unsigned : Bool) → e ≡ Number n unsigned
    → expr_uses names (plain_expr e) ≡ []
unfolding plain_expr
number_used names e n unsigned is = ap (λ x. expr_uses names (plain_expr x)) is

pub name_used : (names : Names) (e : Expr) (text : List ℕ) → e ≡ Name text → expr_uses names (plain_expr e)
    ≡ reads (named names text) ∷ []
unfolding plain_expr
name_used names e text is = ap (λ x. expr_uses names (plain_expr x)) is

pub element_used : (names : Names) (e : Expr) (text : List ℕ) (b : Box Expr Global) → e ≡ Element text b
    → expr_uses names (plain_expr e) ≡ reads (named names text) ∷ expr_uses names (plain_expr b.value)
unfolding plain_expr
element_used names e text b is = ap (λ x. expr_uses names (plain_expr x)) is

pub paren_used : (names : Names) (e : Expr) (b : Box Expr Global) → e ≡ Paren b → expr_uses names (plain_expr e)
    ≡ expr_uses names (plain_expr b.value)
unfolding plain_expr
paren_used names e b is = ap (λ x. expr_uses names (plain_expr x)) is

pub steps_next : (names : Names) (steps : List Step) (i : ℕ) (s : Step) → i < length steps → s ≡ get_or steps i s
    → steps_uses names (steps_of (drop i steps)) ≡ expr_uses names (plain_expr s.operand)
    ++ steps_uses names (steps_of (drop (i + 1) steps))
steps_next names steps i s within is = ap (λ ss. steps_uses names (steps_of ss)) (drop_item steps i s within is)

pub args_next : (names : Names) (args : List Expr) (i : ℕ) (e : Expr) → i < length args → e ≡ get_or args i e
    → args_uses names (map plain_expr (drop i args)) ≡ expr_uses names (plain_expr e)
    ++ args_uses names (map plain_expr (drop (i + 1) args))
args_next names args i e within is = ap (λ es. args_uses names (map plain_expr es)) (drop_item args i e within is)

-- ---- statements

pub declare_used : (names : Names) (s : Stmt) (kind : Kind) (text : List ℕ) (r : Option Right) → s ≡ Declare kind text r
    → stmt_uses names (plain_stmt s) ≡ first_uses (with_variable names kind text) (option_map plain_right r)
unfolding plain_stmt
declare_used names s kind text r is = ap (λ x. stmt_uses names (plain_stmt x)) is

pub set_used : (names : Names) (s : Stmt) (text : List ℕ) (r : Right) → s ≡ Set text r
    → stmt_uses names (plain_stmt s) ≡ sets (named names text) ∷ right_uses names (plain_right r)
unfolding plain_stmt
set_used names s text r is = ap (λ x. stmt_uses names (plain_stmt x)) is

pub set_element_used : (names : Names) (s : Stmt) (text : List ℕ) (index : Expr) (r : Right) → s
    ≡ SetElement text index r
    → stmt_uses names (plain_stmt s) ≡ sets (named names text) ∷ (expr_uses names (plain_expr index)
    ++ right_uses names (plain_right r))
unfolding plain_stmt
set_element_used names s text index r is = ap (λ x. stmt_uses names (plain_stmt x)) is

pub call_used : (names : Names) (s : Stmt) (text : List ℕ) (args : List Expr) → s ≡ Call text args
    → stmt_uses names (plain_stmt s) ≡ args_uses names (map plain_expr args)
unfolding plain_stmt
call_used names s text args is = ap (λ x. stmt_uses names (plain_stmt x)) is

pub send_used : (names : Names) (s : Stmt) (core : ℕ) (u : Bool) (a : Expr) (b : Expr) (c : Expr) → s
    ≡ Send core u a b c
    → stmt_uses names (plain_stmt s)
    ≡ sends core ∷ (expr_uses names (plain_expr a) ++ (expr_uses names (plain_expr b)
    ++ expr_uses names (plain_expr c)))
unfolding plain_stmt
send_used names s core u a b c is = ap (λ x. stmt_uses names (plain_stmt x)) is

pub if_used : (names : Names) (s : Stmt) (arms : List Arm) (otherwise : Option (List Stmt)) → s ≡ If arms otherwise
    → stmt_uses names (plain_stmt s) ≡ arms_uses names (arms_of arms) ++ otherwise_uses names (otherwise_of otherwise)
if_used names s arms otherwise is =
    ap (λ x. stmt_uses names (plain_stmt x)) is ∙ ap (stmt_uses names) (plain_if arms otherwise)

pub loop_used : (names : Names) (s : Stmt) (bound : Option Bound) (head : Head) (body : List Stmt) → s
    ≡ Loop bound head body
    → stmt_uses names (plain_stmt s) ≡ head_uses names (plain_head head) ++ block_uses names (block_of body)
loop_used names s bound head body is =
    ap (λ x. stmt_uses names (plain_stmt x)) is ∙ ap (stmt_uses names) (plain_loop bound head body)

pub break_used : (names : Names) (s : Stmt) → s ≡ Break → stmt_uses names (plain_stmt s) ≡ []
unfolding plain_stmt
break_used names s is = ap (λ x. stmt_uses names (plain_stmt x)) is

pub continue_used : (names : Names) (s : Stmt) → s ≡ Continue → stmt_uses names (plain_stmt s) ≡ []
unfolding plain_stmt
continue_used names s is = ap (λ x. stmt_uses names (plain_stmt x)) is

pub return_used : (names : Names) (s : Stmt) (e : Option Expr) → s ≡ Return e
    → stmt_uses names (plain_stmt s) ≡ returned_uses names (option_map plain_expr e)
unfolding plain_stmt
return_used names s e is = ap (λ x. stmt_uses names (plain_stmt x)) is

pub inner_used : (names : Names) (s : Stmt) (body : List Stmt) → s ≡ Inner body → stmt_uses names (plain_stmt s)
    ≡ block_uses names (block_of body)
inner_used names s body is = ap (λ x. stmt_uses names (plain_stmt x)) is ∙ ap (stmt_uses names) (plain_inner body)

pub block_next : (names : Names) (body : List Stmt) (i : ℕ) (s : Stmt) → i < length body → s ≡ get_or body i s
    → block_uses names (block_of (drop i body))
    ≡ stmt_uses names (plain_stmt s) ++ block_uses (names_after names (plain_stmt s)) (block_of (drop (i + 1) body))
block_next names body i s within is = ap (λ ss. block_uses names (block_of ss)) (drop_item body i s within is)

pub arms_next : (names : Names) (arms : List Arm) (i : ℕ) (a : Arm) → i < length arms → a ≡ get_or arms i a
    → arms_uses names (arms_of (drop i arms))
    ≡ expr_uses names (plain_expr a.condition) ++ (block_uses names (block_of a.body)
    ++ arms_uses names (arms_of (drop (i + 1) arms)))
arms_next names arms i a within is = ap (λ xs. arms_uses names (arms_of xs)) (drop_item arms i a within is)

pub body_is_block : (names : Names) (body : List Stmt) → body_uses names (map plain_stmt body)
    ≡ block_uses names (block_of body)
body_is_block names [] = refl
body_is_block names (s ∷ body) =
    ap (λ us. stmt_uses names (plain_stmt s) ++ us) (body_is_block (names_after names (plain_stmt s)) body)

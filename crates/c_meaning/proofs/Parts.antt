-- Expressions, resolved, by their parts.
use Rattle.std.proofs.Common.{◌≡◌, ℕ, ◌+◌, ◌<◌, Bool, List, length, get_or, drop, Option, ap, ◌∙◌}
use Rattle.std.specs.declared.boxed.Box.{Box}
use Rattle.std.specs.Global.{Global}
use Rattle.tc_word.proofs.Items.{drop_item}
use Rattle.c_tree.specs.declared.expressions.Expr.{Expr, Number, Name}
use Rattle.c_tree.specs.declared.expressions.Expr.TheViews.{Chain, Unary, Element, Paren}
use Rattle.c_tree.specs.declared.expressions.Step.{Step}
use Rattle.c_tree.specs.declared.expressions.UnaryOp.{UnaryOp}
use Rattle.c_tree.specs.Plain.{plain_expr}
use Rattle.c_tree.specs.Plains.{steps_of}
use Rattle.c_tree.proofs.Plains.{plain_chain}
use Rattle.sp_tree.specs.Plain.{PlainSp, constant}
use Rattle.c_meaning.specs.Operators.{signs_unsigned, works_unsigned, gives_unsigned}
use Rattle.c_meaning.specs.Resolve.{resolved, resolved_steps, resolved_signs, resolved_variable, resolved_element, resolved_between}
use Rattle.c_meaning.specs.Scope.{stands_unsigned}
use Rattle.c_meaning.specs.Values.{Names, named, expr_unsigned, steps_unsigned}

pub chain_resolved : (names : Names) (fresh : Option ℕ) (e : Expr) (level : ℕ) (b : Box Expr Global) (steps : List Step)
    → e ≡ Chain level b steps
    → resolved names fresh (plain_expr e)
    ≡ resolved_steps names fresh (expr_unsigned names (plain_expr b.value)) (resolved names fresh (plain_expr b.value))
    (steps_of steps)
chain_resolved names fresh e level b steps is =
    ap (λ x. resolved names fresh (plain_expr x)) is ∙ ap (resolved names fresh) (plain_chain level b steps)

pub chain_typed : (names : Names) (e : Expr) (level : ℕ) (b : Box Expr Global) (steps : List Step) → e
    ≡ Chain level b steps
    → expr_unsigned names (plain_expr e) ≡ steps_unsigned names (expr_unsigned names (plain_expr b.value))
    (steps_of steps)
chain_typed names e level b steps is =
    ap (λ x. expr_unsigned names (plain_expr x)) is ∙ ap (expr_unsigned names) (plain_chain level b steps)

pub unary_resolved : (names : Names) (fresh : Option ℕ) (e : Expr) (ops : List UnaryOp) (b : Box Expr Global)
    → e ≡ Unary ops b
    → resolved names fresh (plain_expr e) ≡ resolved_signs ops (resolved names fresh (plain_expr b.value))
unfolding plain_expr
unary_resolved names fresh e ops b is = ap (λ x. resolved names fresh (plain_expr x)) is

pub unary_typed : (names : Names) (e : Expr) (ops : List UnaryOp) (b : Box Expr Global) → e ≡ Unary ops b
    → expr_unsigned names (plain_expr e) ≡ signs_unsigned ops (expr_unsigned names (plain_expr b.value))
unfolding plain_expr
unary_typed names e ops b is = ap (λ x. expr_unsigned names (plain_expr x)) is

pub number_resolved : (names : Names) (fresh : Option ℕ) (e : Expr) (n : ℕ) (unsigned : Bool) → e ≡ Number n unsigned
    → resolved names fresh (plain_expr e) ≡ constant n
unfolding plain_expr
number_resolved names fresh e n unsigned is = ap (λ x. resolved names fresh (plain_expr x)) is

pub number_typed : (names : Names) (e : Expr) (n : ℕ) (unsigned : Bool) → e ≡ Number n unsigned
    → expr_unsigned names (plain_expr e) ≡ unsigned
unfolding plain_expr
number_typed names e n unsigned is = ap (λ x. expr_unsigned names (plain_expr x)) is

pub name_resolved : (names : Names) (fresh : Option ℕ) (e : Expr) (text : List ℕ) → e ≡ Name text
    → resolved names fresh (plain_expr e) ≡ resolved_variable fresh (named names text)
unfolding plain_expr
name_resolved names fresh e text is = ap (λ x. resolved names fresh (plain_expr x)) is

pub name_typed : (names : Names) (e : Expr) (text : List ℕ) → e ≡ Name text → expr_unsigned names (plain_expr e)
    ≡ stands_unsigned (named names text)
unfolding plain_expr
name_typed names e text is = ap (λ x. expr_unsigned names (plain_expr x)) is

pub element_resolved : (names : Names) (fresh : Option ℕ) (e : Expr) (text : List ℕ) (b : Box Expr Global) → e
    ≡ Element text b
    → resolved names fresh (plain_expr e) ≡ resolved_element (named names text) (resolved names fresh
    (plain_expr b.value))
unfolding plain_expr
element_resolved names fresh e text b is = ap (λ x. resolved names fresh (plain_expr x)) is

pub element_typed : (names : Names) (e : Expr) (text : List ℕ) (b : Box Expr Global) → e ≡ Element text b
    → expr_unsigned names (plain_expr e) ≡ stands_unsigned (named names text)
unfolding plain_expr
element_typed names e text b is = ap (λ x. expr_unsigned names (plain_expr x)) is

pub paren_resolved : (names : Names) (fresh : Option ℕ) (e : Expr) (b : Box Expr Global) → e ≡ Paren b
    → resolved names fresh (plain_expr e) ≡ resolved names fresh (plain_expr b.value)
unfolding plain_expr
paren_resolved names fresh e b is = ap (λ x. resolved names fresh (plain_expr x)) is

pub paren_typed : (names : Names) (e : Expr) (b : Box Expr Global) → e ≡ Paren b
    → expr_unsigned names (plain_expr e) ≡ expr_unsigned names (plain_expr b.value)
unfolding plain_expr
paren_typed names e b is = ap (λ x. expr_unsigned names (plain_expr x)) is

-- ---- lists, from an item on

pub steps_resolved_next : (names : Names) (fresh : Option ℕ) (u : Bool) (a : PlainSp) (steps : List Step) (i : ℕ)
    (s : Step) → i < length steps → s ≡ get_or steps i s
    → resolved_steps names fresh u a (steps_of (drop i steps))
    ≡ resolved_steps names fresh (gives_unsigned s.op u (expr_unsigned names (plain_expr s.operand)))
    (resolved_between s.op (works_unsigned s.op u (expr_unsigned names (plain_expr s.operand))) a
    (resolved names fresh (plain_expr s.operand)))
    (steps_of (drop (i + 1) steps))
steps_resolved_next names fresh u a steps i s within is =
    ap (λ ss. resolved_steps names fresh u a (steps_of ss)) (drop_item steps i s within is)

pub steps_typed_next : (names : Names) (u : Bool) (steps : List Step) (i : ℕ) (s : Step) → i < length steps → s
    ≡ get_or steps i s
    → steps_unsigned names u (steps_of (drop i steps))
    ≡ steps_unsigned names (gives_unsigned s.op u (expr_unsigned names (plain_expr s.operand))) (steps_of
    (drop (i + 1) steps))
steps_typed_next names u steps i s within is =
    ap (λ ss. steps_unsigned names u (steps_of ss)) (drop_item steps i s within is)

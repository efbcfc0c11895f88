-- The faults and the size of each kind of expression, by its parts.
use Rattle.std.proofs.Common.{◌≡◌, ℕ, ◌+◌, Bool, List, length, Option, ◌∙◌, ap}
use Rattle.std.specs.declared.boxed.Box.{Box}
use Rattle.std.specs.Global.{Global}
use Rattle.c_tree.specs.declared.checks.Fault.{Fault}
use Rattle.c_tree.specs.declared.expressions.Expr.{Expr, Number, Name}
use Rattle.c_tree.specs.declared.expressions.Expr.TheViews.{Chain, Unary, Element, Paren}
use Rattle.c_tree.specs.declared.expressions.Step.{Step}
use Rattle.c_tree.specs.declared.expressions.UnaryOp.{UnaryOp}
use Rattle.c_tree.specs.Checks.{expr_faults, steps_faults, scalar_faults, array_faults}
use Rattle.c_tree.specs.Least.{least_with}
use Rattle.c_tree.specs.Names.{Named}
use Rattle.c_tree.specs.Plain.{plain_expr}
use Rattle.c_tree.specs.Sizes.{expr_size, steps_size}
use Rattle.c_tree.proofs.Leasts.{least_of_both}
use Rattle.c_tree.specs.Plains.{steps_of}
use Rattle.c_tree.proofs.Plains.{plain_chain}

pub chain_faulted : (least : Option Fault) (names : List Named) (at : ℕ) (e : Expr) (level : ℕ) (b : Box Expr Global)
    (steps : List Step) → e ≡ Chain level b steps
    → least_with least (expr_faults names at (plain_expr e))
    ≡ least_with (least_with least (expr_faults names at (plain_expr b.value))) (steps_faults names
    (at + expr_size (plain_expr b.value)) (steps_of steps))
unfolding expr_faults
chain_faulted least names at e level b steps is =
    ap (λ x. least_with least (expr_faults names at (plain_expr x))) is
    ∙ ap (λ p. least_with least (expr_faults names at p)) (plain_chain level b steps)
    ∙ least_of_both least (expr_faults names at (plain_expr b.value)) (steps_faults names
    (at + expr_size (plain_expr b.value)) (steps_of steps))

pub chain_sized : (e : Expr) (level : ℕ) (b : Box Expr Global) (steps : List Step) → e ≡ Chain level b steps
    → expr_size (plain_expr e) ≡ expr_size (plain_expr b.value) + steps_size (steps_of steps)
unfolding expr_size
chain_sized e level b steps is = ap (λ x. expr_size (plain_expr x)) is ∙ ap expr_size (plain_chain level b steps)

pub unary_faulted : (least : Option Fault) (names : List Named) (at : ℕ) (e : Expr) (ops : List UnaryOp)
    (b : Box Expr Global) → e ≡ Unary ops b
    → least_with least (expr_faults names at (plain_expr e)) ≡ least_with least (expr_faults names (at + length ops)
    (plain_expr b.value))
unfolding expr_faults plain_expr
unary_faulted least names at e ops b is = ap (λ x. least_with least (expr_faults names at (plain_expr x))) is

pub unary_sized : (e : Expr) (ops : List UnaryOp) (b : Box Expr Global) → e ≡ Unary ops b → expr_size (plain_expr e)
    ≡ length ops + expr_size (plain_expr b.value)
unfolding expr_size plain_expr
unary_sized e ops b is = ap (λ x. expr_size (plain_expr x)) is

pub number_faulted : (least : Option Fault) (names : List Named) (at : ℕ) (e : Expr) (value : ℕ) (unsigned : Bool) → e
    ≡ Number value unsigned
    → least_with least (expr_faults names at (plain_expr e)) ≡ least
unfolding expr_faults plain_expr
number_faulted least names at e value unsigned is = ap (λ x. least_with least (expr_faults names at (plain_expr x))) is

pub number_sized : (e : Expr) (value : ℕ) (unsigned : Bool) → e ≡ Number value unsigned → expr_size (plain_expr e) ≡ 1
unfolding expr_size plain_expr
number_sized e value unsigned is = ap (λ x. expr_size (plain_expr x)) is

pub name_faulted : (least : Option Fault) (names : List Named) (at : ℕ) (e : Expr) (name : List ℕ) → e ≡ Name name
    → least_with least (expr_faults names at (plain_expr e)) ≡ least_with least (scalar_faults names at name)
unfolding expr_faults plain_expr
name_faulted least names at e name is = ap (λ x. least_with least (expr_faults names at (plain_expr x))) is

pub name_sized : (e : Expr) (name : List ℕ) → e ≡ Name name → expr_size (plain_expr e) ≡ 1
unfolding expr_size plain_expr
name_sized e name is = ap (λ x. expr_size (plain_expr x)) is

pub element_faulted : (least : Option Fault) (names : List Named) (at : ℕ) (e : Expr) (name : List ℕ)
    (b : Box Expr Global) → e ≡ Element name b
    → least_with least (expr_faults names at (plain_expr e))
    ≡ least_with (least_with least (array_faults names at name)) (expr_faults names (at + 2) (plain_expr b.value))
unfolding expr_faults plain_expr
element_faulted least names at e name b is = ap (λ x. least_with least (expr_faults names at (plain_expr x))) is
    ∙ least_of_both least (array_faults names at name) (expr_faults names (at + 2) (plain_expr b.value))

pub element_sized : (e : Expr) (name : List ℕ) (b : Box Expr Global) → e ≡ Element name b → expr_size (plain_expr e)
    ≡ expr_size (plain_expr b.value) + 3
unfolding expr_size plain_expr
element_sized e name b is = ap (λ x. expr_size (plain_expr x)) is

pub paren_faulted : (least : Option Fault) (names : List Named) (at : ℕ) (e : Expr) (b : Box Expr Global) → e ≡ Paren b
    → least_with least (expr_faults names at (plain_expr e)) ≡ least_with least (expr_faults names (at + 1)
    (plain_expr b.value))
unfolding expr_faults plain_expr
paren_faulted least names at e b is = ap (λ x. least_with least (expr_faults names at (plain_expr x))) is

pub paren_sized : (e : Expr) (b : Box Expr Global) → e ≡ Paren b → expr_size (plain_expr e)
    ≡ expr_size (plain_expr b.value) + 2
unfolding expr_size plain_expr
paren_sized e b is = ap (λ x. expr_size (plain_expr x)) is

-- all of them
pub ruleset expression_rows = (
  chain_faulted,
  chain_sized,
  unary_faulted,
  unary_sized,
  number_faulted,
  number_sized,
  name_faulted,
  name_sized,
  element_faulted,
  element_sized,
  paren_faulted,
  paren_sized,
)

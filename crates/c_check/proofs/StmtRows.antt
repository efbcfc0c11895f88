-- The faults, the size and the names of each kind of statement, by its parts.
use Rattle.std.proofs.Common.{◌≡◌, ℕ, ◌+◌, Bool, false, List, [], length, Option, None, Some, ◌∙◌, ap}
use Rattle.std.specs.Prelude.{not, map, option_map}
use Rattle.c_tree.specs.declared.checks.CheckFault.TheVariants as fault
use Rattle.c_tree.specs.declared.checks.Fault.{Fault}
use Rattle.c_tree.specs.declared.checks.Meaning.TheVariants as meaning
use Rattle.c_tree.specs.declared.checks.Within.{Within}
use Rattle.c_tree.specs.declared.expressions.Expr.{Expr}
use Rattle.c_tree.specs.declared.statements.Arm.{Arm}
use Rattle.c_tree.specs.declared.statements.Bound.{Bound}
use Rattle.c_tree.specs.declared.statements.Head.{Head}
use Rattle.c_tree.specs.declared.statements.Kind.{Kind}
use Rattle.c_tree.specs.declared.statements.Right.{Right}
use Rattle.c_tree.specs.declared.statements.Stmt.{Stmt, Declare, Set, SetElement, Call, Send, Break, Continue, Return}
use Rattle.c_tree.specs.declared.statements.Stmt.TheViews.{If, Loop, Inner}
use Rattle.c_tree.specs.Checks.{stmt_faults, block_faults, arms_faults, otherwise_faults, bound_faults, head_faults, declare_faults, set_faults, set_element_faults, call_faults, send_faults, return_faults, target_faults, whole_faults, opened, looped, after}
use Rattle.c_tree.specs.Least.{least_with, where_so}
use Rattle.c_tree.specs.Names.{Named, declared}
use Rattle.c_tree.specs.Plain.{PlainExpr, plain_expr, plain_right, plain_head, plain_stmt}
use Rattle.c_tree.specs.Sizes.{expr_size, argument_size, call_size, bound_size, head_size, stmt_size, arms_size, block_size, otherwise_size}
use Rattle.c_tree.proofs.StmtSizes.{inner_sized, loop_sized}
use Rattle.c_tree.proofs.Leasts.{least_of_both}
use Rattle.c_tree.specs.Plains.{block_of, arms_of}
use Rattle.c_tree.proofs.Plains.{plain_inner, plain_loop, plain_if}

pub declare_faulted : (least : Option Fault) (w : Within) (names : List Named) (at : ℕ) (s : Stmt) (kind : Kind)
    (name : List ℕ) (r : Option Right) → s ≡ Declare kind name r
    → least_with least (stmt_faults w names at (plain_stmt s)) ≡ least_with least (declare_faults w.outer names at kind
    name (option_map plain_right r))
unfolding stmt_faults plain_stmt
declare_faulted least w names at s kind name r is =
    ap (λ x. least_with least (stmt_faults w names at (plain_stmt x))) is

pub declare_sized : (s : Stmt) (kind : Kind) (name : List ℕ) (r : Option Right) → s ≡ Declare kind name r
    → stmt_size (plain_stmt s) ≡ stmt_size (plain_stmt (Declare kind name r))
unfolding stmt_size plain_stmt
declare_sized s kind name r is = ap (λ x. stmt_size (plain_stmt x)) is

pub declare_named : (names : List Named) (s : Stmt) (kind : Kind) (name : List ℕ) (r : Option Right) → s
    ≡ Declare kind name r → after names (plain_stmt s) ≡ declared names name meaning.Scalar
unfolding plain_stmt
declare_named names s kind name r is = ap (λ x. after names (plain_stmt x)) is

pub set_faulted : (least : Option Fault) (w : Within) (names : List Named) (at : ℕ) (s : Stmt) (name : List ℕ)
    (r : Right) → s ≡ Set name r
    → least_with least (stmt_faults w names at (plain_stmt s)) ≡ least_with least (set_faults names at name
    (plain_right r))
unfolding stmt_faults plain_stmt
set_faulted least w names at s name r is = ap (λ x. least_with least (stmt_faults w names at (plain_stmt x))) is

pub set_sized : (s : Stmt) (name : List ℕ) (r : Right) → s ≡ Set name r → stmt_size (plain_stmt s)
    ≡ stmt_size (plain_stmt (Set name r))
unfolding stmt_size plain_stmt
set_sized s name r is = ap (λ x. stmt_size (plain_stmt x)) is

pub set_named : (names : List Named) (s : Stmt) (name : List ℕ) (r : Right) → s ≡ Set name r
    → after names (plain_stmt s) ≡ names
unfolding plain_stmt
set_named names s name r is = ap (λ x. after names (plain_stmt x)) is

pub set_element_faulted : (least : Option Fault) (w : Within) (names : List Named) (at : ℕ) (s : Stmt) (name : List ℕ)
    (index : Expr) (r : Right) → s ≡ SetElement name index r
    → least_with least (stmt_faults w names at (plain_stmt s)) ≡ least_with least (set_element_faults names at name
    (plain_expr index) (plain_right r))
unfolding stmt_faults plain_stmt
set_element_faulted least w names at s name index r is =
    ap (λ x. least_with least (stmt_faults w names at (plain_stmt x))) is

pub set_element_sized : (s : Stmt) (name : List ℕ) (index : Expr) (r : Right) → s ≡ SetElement name index r
    → stmt_size (plain_stmt s) ≡ stmt_size (plain_stmt (SetElement name index r))
unfolding stmt_size plain_stmt
set_element_sized s name index r is = ap (λ x. stmt_size (plain_stmt x)) is

pub set_element_named : (names : List Named) (s : Stmt) (name : List ℕ) (index : Expr) (r : Right) → s
    ≡ SetElement name index r → after names (plain_stmt s) ≡ names
unfolding plain_stmt
set_element_named names s name index r is = ap (λ x. after names (plain_stmt x)) is

pub call_faulted : (least : Option Fault) (w : Within) (names : List Named) (at : ℕ) (s : Stmt) (name : List ℕ)
    (args : List Expr) → s ≡ Call name args
    → least_with least (stmt_faults w names at (plain_stmt s)) ≡ least_with least (call_faults false names at name
    (map plain_expr args))
unfolding stmt_faults plain_stmt
call_faulted least w names at s name args is = ap (λ x. least_with least (stmt_faults w names at (plain_stmt x))) is

pub call_sized : (s : Stmt) (name : List ℕ) (args : List Expr) → s ≡ Call name args → stmt_size (plain_stmt s)
    ≡ call_size (map plain_expr args) + 1
unfolding stmt_size plain_stmt
call_sized s name args is = ap (λ x. stmt_size (plain_stmt x)) is

pub call_named : (names : List Named) (s : Stmt) (name : List ℕ) (args : List Expr) → s ≡ Call name args
    → after names (plain_stmt s) ≡ names
unfolding plain_stmt
call_named names s name args is = ap (λ x. after names (plain_stmt x)) is

pub send_faulted : (least : Option Fault) (w : Within) (names : List Named) (at : ℕ) (s : Stmt) (core : ℕ)
    (core_unsigned : Bool) (a b c : Expr) → s ≡ Send core core_unsigned a b c
    → least_with least (stmt_faults w names at (plain_stmt s))
    ≡ least_with least (send_faults w.cores w.own names at core (plain_expr a) (plain_expr b) (plain_expr c))
unfolding stmt_faults plain_stmt
send_faulted least w names at s core core_unsigned a b c is =
    ap (λ x. least_with least (stmt_faults w names at (plain_stmt x))) is

pub send_sized : (s : Stmt) (core : ℕ) (core_unsigned : Bool) (a b c : Expr) → s ≡ Send core core_unsigned a b c
    → stmt_size (plain_stmt s) ≡ expr_size (plain_expr a) + expr_size (plain_expr b) + expr_size (plain_expr c) + 8
unfolding stmt_size plain_stmt
send_sized s core core_unsigned a b c is = ap (λ x. stmt_size (plain_stmt x)) is

pub send_named : (names : List Named) (s : Stmt) (core : ℕ) (core_unsigned : Bool) (a b c : Expr) → s
    ≡ Send core core_unsigned a b c → after names (plain_stmt s) ≡ names
unfolding plain_stmt
send_named names s core core_unsigned a b c is = ap (λ x. after names (plain_stmt x)) is

pub break_faulted : (least : Option Fault) (w : Within) (names : List Named) (at : ℕ) (s : Stmt) → s ≡ Break
    → least_with least (stmt_faults w names at (plain_stmt s))
    ≡ least_with least (where_so (not w.in_loop) at fault.WrongType)
unfolding stmt_faults plain_stmt
break_faulted least w names at s is = ap (λ x. least_with least (stmt_faults w names at (plain_stmt x))) is

pub break_sized : (s : Stmt) → s ≡ Break → stmt_size (plain_stmt s) ≡ 2
unfolding stmt_size plain_stmt
break_sized s is = ap (λ x. stmt_size (plain_stmt x)) is

pub break_named : (names : List Named) (s : Stmt) → s ≡ Break → after names (plain_stmt s) ≡ names
unfolding plain_stmt
break_named names s is = ap (λ x. after names (plain_stmt x)) is

pub continue_faulted : (least : Option Fault) (w : Within) (names : List Named) (at : ℕ) (s : Stmt) → s ≡ Continue
    → least_with least (stmt_faults w names at (plain_stmt s))
    ≡ least_with least (where_so (not w.in_loop) at fault.WrongType)
unfolding stmt_faults plain_stmt
continue_faulted least w names at s is = ap (λ x. least_with least (stmt_faults w names at (plain_stmt x))) is

pub continue_sized : (s : Stmt) → s ≡ Continue → stmt_size (plain_stmt s) ≡ 2
unfolding stmt_size plain_stmt
continue_sized s is = ap (λ x. stmt_size (plain_stmt x)) is

pub continue_named : (names : List Named) (s : Stmt) → s ≡ Continue → after names (plain_stmt s) ≡ names
unfolding plain_stmt
continue_named names s is = ap (λ x. after names (plain_stmt x)) is

pub return_faulted : (least : Option Fault) (w : Within) (names : List Named) (at : ℕ) (s : Stmt) (value : Option Expr)
    → s ≡ Return value
    → least_with least (stmt_faults w names at (plain_stmt s)) ≡ least_with least (return_faults w.gives names at
    (option_map plain_expr value))
unfolding stmt_faults plain_stmt
return_faulted least w names at s value is = ap (λ x. least_with least (stmt_faults w names at (plain_stmt x))) is

pub return_sized : (s : Stmt) (value : Option Expr) → s ≡ Return value → stmt_size (plain_stmt s)
    ≡ stmt_size (plain_stmt (Return value))
unfolding stmt_size plain_stmt
return_sized s value is = ap (λ x. stmt_size (plain_stmt x)) is

pub return_named : (names : List Named) (s : Stmt) (value : Option Expr) → s ≡ Return value → after names (plain_stmt s)
    ≡ names
unfolding plain_stmt
return_named names s value is = ap (λ x. after names (plain_stmt x)) is

pub inner_faulted : (least : Option Fault) (w : Within) (names : List Named) (at : ℕ) (s : Stmt) (body : List Stmt)
    → s ≡ Inner body
    → least_with least (stmt_faults w names at (plain_stmt s))
    ≡ least_with least (block_faults (opened w (length names)) names (at + 1) (block_of body))
unfolding stmt_faults
inner_faulted least w names at s body is =
    ap (λ x. least_with least (stmt_faults w names at (plain_stmt x))) is
    ∙ ap (λ p. least_with least (stmt_faults w names at p)) (plain_inner body)

pub inner_named : (names : List Named) (s : Stmt) (body : List Stmt) → s ≡ Inner body → after names (plain_stmt s)
    ≡ names
inner_named names s body is = ap (λ x. after names (plain_stmt x)) is ∙ ap (after names) (plain_inner body)

pub loop_faulted : (least : Option Fault) (w : Within) (names : List Named) (at : ℕ) (s : Stmt) (bound : Option Bound)
    (head : Head) (body : List Stmt) → s ≡ Loop bound head body
    → least_with least (stmt_faults w names at (plain_stmt s))
    ≡ least_with (least_with (least_with least (bound_faults at bound)) (head_faults names (at + bound_size bound)
    (plain_head head)))
    (block_faults (looped w (length names)) names (at + bound_size bound + head_size (plain_head head) + 1)
    (block_of body))
unfolding stmt_faults
loop_faulted least w names at s bound head body is =
    ap (λ x. least_with least (stmt_faults w names at (plain_stmt x))) is
    ∙ ap (λ p. least_with least (stmt_faults w names at p)) (plain_loop bound head body)
    ∙ least_of_both least (bound_faults at bound) _
    ∙ least_of_both (least_with least (bound_faults at bound)) (head_faults names (at + bound_size bound)
    (plain_head head)) _

pub loop_named : (names : List Named) (s : Stmt) (bound : Option Bound) (head : Head) (body : List Stmt) → s
    ≡ Loop bound head body → after names (plain_stmt s) ≡ names
loop_named names s bound head body is =
    ap (λ x. after names (plain_stmt x)) is ∙ ap (after names) (plain_loop bound head body)

pub if_faulted : (least : Option Fault) (w : Within) (names : List Named) (at : ℕ) (s : Stmt) (arms : List Arm)
    (otherwise : Option (List Stmt))
    → s ≡ If arms otherwise → otherwise ≡ None → least_with least (stmt_faults w names at (plain_stmt s))
    ≡ least_with least (arms_faults w names at (arms_of arms))
unfolding stmt_faults otherwise_faults
if_faulted least w names at s arms otherwise is no_else =
    ap (λ x. least_with least (stmt_faults w names at (plain_stmt x))) (is ∙ ap (If arms) no_else)
    ∙ ap (λ p. least_with least (stmt_faults w names at p)) (plain_if arms None)
    ∙ least_of_both least (arms_faults w names at (arms_of arms)) []

pub if_else_faulted : (least : Option Fault) (w : Within) (names : List Named) (at : ℕ) (s : Stmt) (arms : List Arm)
    (otherwise : Option (List Stmt)) (body : List Stmt)
    → s ≡ If arms otherwise → otherwise ≡ Some body → least_with least (stmt_faults w names at (plain_stmt s))
    ≡ least_with (least_with least (arms_faults w names at (arms_of arms)))
    (block_faults (opened w (length names)) names (at + arms_size (arms_of arms) + 1 + 1) (block_of body))
unfolding stmt_faults otherwise_faults
if_else_faulted least w names at s arms otherwise body is has_else =
    ap (λ x. least_with least (stmt_faults w names at (plain_stmt x))) (is ∙ ap (If arms) has_else)
    ∙ ap (λ p. least_with least (stmt_faults w names at p)) (plain_if arms (Some body))
    ∙ least_of_both least (arms_faults w names at (arms_of arms)) _

pub if_sized : (s : Stmt) (arms : List Arm) (otherwise : Option (List Stmt)) → s ≡ If arms otherwise → otherwise ≡ None
    → stmt_size (plain_stmt s) ≡ arms_size (arms_of arms) + 0
unfolding stmt_size otherwise_size
if_sized s arms otherwise is no_else =
    ap (λ x. stmt_size (plain_stmt x)) (is ∙ ap (If arms) no_else) ∙ ap stmt_size (plain_if arms None)

pub if_else_sized : (s : Stmt) (arms : List Arm) (otherwise : Option (List Stmt)) (body : List Stmt) → s
    ≡ If arms otherwise → otherwise ≡ Some body
    → stmt_size (plain_stmt s) ≡ arms_size (arms_of arms) + (3 + block_size (block_of body))
unfolding stmt_size otherwise_size
if_else_sized s arms otherwise body is has_else =
    ap (λ x. stmt_size (plain_stmt x)) (is ∙ ap (If arms) has_else) ∙ ap stmt_size (plain_if arms (Some body))

pub if_named : (names : List Named) (s : Stmt) (arms : List Arm) (otherwise : Option (List Stmt)) → s
    ≡ If arms otherwise → after names (plain_stmt s) ≡ names
if_named names s arms otherwise is =
    ap (λ x. after names (plain_stmt x)) is ∙ ap (after names) (plain_if arms otherwise)

pub send_told : (least : Option Fault) (cores own : ℕ) (names : List Named) (at core : ℕ) (a b c : PlainExpr)
    → least_with least (send_faults cores own names at core a b c)
    ≡ least_with (least_with (least_with (least_with least (target_faults cores own (at + 2) core))
    (whole_faults names (at + 2 + 2) a))
    (whole_faults names (at + 2 + 2 + argument_size a) b))
    (whole_faults names (at + 2 + 2 + argument_size a + argument_size b) c)
send_told least cores own names at core a b c =
    least_of_both least (target_faults cores own (at + 2) core) _
    ∙ least_of_both (least_with least (target_faults cores own (at + 2) core)) (whole_faults names (at + 2 + 2) a) _
    ∙ least_of_both _ (whole_faults names (at + 2 + 2 + argument_size a) b) _
    ∙ least_of_both _ (whole_faults names (at + 2 + 2 + argument_size a + argument_size b) c) []

-- all that the walk over statements asks for
pub ruleset statement_rows = (
  declare_faulted,
  declare_sized,
  declare_named,
  set_faulted,
  set_sized,
  set_named,
  set_element_faulted,
  set_element_sized,
  set_element_named,
  call_faulted,
  call_sized,
  call_named,
  send_faulted,
  send_sized,
  send_named,
  loop_faulted,
  loop_sized,
  loop_named,
  break_faulted,
  break_sized,
  break_named,
  continue_faulted,
  continue_sized,
  continue_named,
  return_faulted,
  return_sized,
  return_named,
  inner_faulted,
  inner_sized,
  inner_named,
  if_faulted,
  if_else_faulted,
  if_sized,
  if_else_sized,
  if_named,
)

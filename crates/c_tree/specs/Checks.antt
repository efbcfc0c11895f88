-- To be believed. The faults of a program's parts, each with its place: the number of tokens
-- before it (our subset of C99 6.5 to 6.9).
use Rattle.std.specs.Prelude.{ℕ, ◌==◌, ◌+◌, nat_lt, Bool, true, false, not, ◌&&◌, ◌||◌, List, [], ◌∷◌, ◌++◌, length, Option, None, Some}
use Rattle.c_tree.specs.declared.checks.CheckFault.TheVariants as fault
use Rattle.c_tree.specs.declared.checks.Fault.{Fault}
use Rattle.c_tree.specs.declared.checks.Meaning.{Meaning}
use Rattle.c_tree.specs.declared.checks.Meaning.TheVariants as meaning
use Rattle.c_tree.specs.declared.checks.Within.{Within}
use Rattle.c_tree.specs.declared.limits.TheConstants.{MOST_DEPTH, MOST_ITERATIONS}
use Rattle.c_tree.specs.declared.statements.Bound.{Bound}
use Rattle.c_tree.specs.declared.statements.Kind.{Kind}
use Rattle.c_tree.specs.Plain.{PlainExpr, PlainSteps, chain, unary, number, name, element, paren, no_step, step, PlainRight, value, call, PlainHead, iterations_while, iterations_for, PlainStmt, PlainBlock, PlainArms, PlainOtherwise, declared as declares, set, set_element, called, sent, chosen, looped as loops, broken, continued, returned, inner, no_stmt, stmt, no_arm, arm, no_else, or_else}
use Rattle.c_tree.specs.Sizes.{kind_size, expr_size, argument_size, bound_size, head_size, stmt_size, arms_size, block_size}
use Rattle.c_tree.specs.Depth.{expr_depth}
use Rattle.c_tree.specs.Least.{where_so}
use Rattle.c_tree.specs.Names.{Named, found, is_declared, declared}

-- ---- names in use

abbrev pub is_scalar : Meaning → Bool
is_scalar m = elim m as (λ _. Bool) [ meaning.Scalar ↦ true | _ ↦ false ]

abbrev pub is_array : Meaning → Bool
is_array m = elim m as (λ _. Bool) [ meaning.Array ↦ true | _ ↦ false ]

-- a name that is to be declared as something
abbrev pub use_faults : (Meaning → Bool) → ℕ → Option Meaning → List Fault
use_faults fits at None = where_so true at fault.Unknown
use_faults fits at (Some m) = where_so (not (fits m)) at fault.WrongType

abbrev pub scalar_faults : List Named → ℕ → List ℕ → List Fault
scalar_faults names at text = use_faults is_scalar at (found text names)

abbrev pub array_faults : List Named → ℕ → List ℕ → List Fault
array_faults names at text = use_faults is_array at (found text names)

-- a name that is called with so many arguments; a right side wants a value
abbrev pub meant_faults : Bool → ℕ → ℕ → Meaning → List Fault
meant_faults is_right at arguments m = elim m as (λ _. List Fault) [
  | meaning.Function parameters gives inside ↦
      where_so (is_right && not gives) at fault.WrongType ++ (where_so inside at fault.Recursion
      ++ where_so (not (arguments == parameters)) at fault.Params)
  | _ ↦ where_so true at fault.WrongType
]

abbrev pub callee_faults : Bool → ℕ → ℕ → Option Meaning → List Fault
callee_faults is_right at arguments None = where_so true at fault.Unknown
callee_faults is_right at arguments (Some m) = meant_faults is_right at arguments m

-- ---- expressions

unfoldable mutual
  pub expr_faults : List Named → ℕ → PlainExpr → List Fault
  expr_faults names at (chain level first rest) =
      expr_faults names at first ++ steps_faults names (at + expr_size first) rest
  expr_faults names at (unary ops of) = expr_faults names (at + length ops) of
  expr_faults names at (number n unsigned) = []
  expr_faults names at (name text) = scalar_faults names at text
  expr_faults names at (element text index) = array_faults names at text ++ expr_faults names (at + 2) index
  expr_faults names at (paren e) = expr_faults names (at + 1) e

  -- each step begins with its operator
  pub steps_faults : List Named → ℕ → PlainSteps → List Fault
  steps_faults names at no_step = []
  steps_faults names at (step op operand rest) =
      expr_faults names (at + 1) operand ++ steps_faults names (at + (1 + expr_size operand)) rest

-- an expression by itself, which may be only so deep
abbrev pub whole_faults : List Named → ℕ → PlainExpr → List Fault
whole_faults names at e = where_so (nat_lt MOST_DEPTH (expr_depth e)) at fault.Deep ++ expr_faults names at e

-- arguments, each with one token after it
abbrev pub args_faults : List Named → ℕ → List PlainExpr → List Fault
args_faults names at [] = []
args_faults names at (e ∷ args) = whole_faults names at e ++ args_faults names (at + argument_size e) args

abbrev pub call_faults : Bool → List Named → ℕ → List ℕ → List PlainExpr → List Fault
call_faults is_right names at text args =
    callee_faults is_right at (length args) (found text names) ++ args_faults names (at + 2) args

abbrev pub right_faults : List Named → ℕ → PlainRight → List Fault
right_faults names at (value of) = whole_faults names at of
right_faults names at (call text args) = call_faults true names at text args

-- ---- statements

-- in a block, and in a loop's block, where so many names are open
abbrev pub opened : Within → ℕ → Within
opened w open_names = record w { outer = open_names }

abbrev pub looped : Within → ℕ → Within
looped w open_names = record w { in_loop = true; outer = open_names }

-- the names after a statement
abbrev pub after : List Named → PlainStmt → List Named
after names (declares kind text r) = declared names text meaning.Scalar
after names _ = names

-- a name that is declared where so many names are declared outside of the block
abbrev pub twice_faults : ℕ → List Named → ℕ → List ℕ → List Fault
twice_faults outer names at text = where_so (is_declared text outer names) at fault.Twice

-- a declaration, whose name is known in its own first value
abbrev pub declare_faults : ℕ → List Named → ℕ → Kind → List ℕ → Option PlainRight → List Fault
declare_faults outer names at kind text None = twice_faults outer names (at + kind_size kind) text
declare_faults outer names at kind text (Some r) =
    twice_faults outer names (at + kind_size kind) text
    ++ right_faults (declared names text meaning.Scalar) (at + kind_size kind + 2) r

-- a variable and what it is set to
abbrev pub set_faults : List Named → ℕ → List ℕ → PlainRight → List Fault
set_faults names at text r = scalar_faults names at text ++ right_faults names (at + 2) r

-- an element and what it is set to
abbrev pub set_element_faults : List Named → ℕ → List ℕ → PlainExpr → PlainRight → List Fault
set_element_faults names at text index r =
    array_faults names at text ++ (whole_faults names (at + 2) index
    ++ right_faults names (at + 2 + expr_size index + 2) r)

-- a variable that a `for` sets to an expression
abbrev pub assigned_faults : List Named → ℕ → List ℕ → PlainExpr → List Fault
assigned_faults names at text e = scalar_faults names at text ++ whole_faults names (at + 2) e

-- a bound, or the loop's keyword where there is none
abbrev pub bound_faults : ℕ → Option Bound → List Fault
bound_faults at None = where_so true at fault.NoBound
bound_faults at (Some b) = where_so (nat_lt b.max b.min || nat_lt MOST_ITERATIONS b.max) at fault.BoundRange

-- the head of a loop, whose first token is its keyword
abbrev pub head_faults : List Named → ℕ → PlainHead → List Fault
head_faults names at (iterations_while condition) = whole_faults names (at + 2) condition
head_faults names at (iterations_for first from condition next to) =
    let second = at + 2 + 2 + expr_size from + 1 in
    let third = second + expr_size condition + 1 in
    assigned_faults names (at + 2) first from
    ++ (whole_faults names second condition ++ assigned_faults names third next to)

-- the core of a send is one of the platform's cores, and not the own
abbrev pub target_faults : ℕ → ℕ → ℕ → ℕ → List Fault
target_faults cores own at core = where_so (not (nat_lt core cores) || core == own) at fault.Target

abbrev pub send_faults : ℕ → ℕ → List Named → ℕ → ℕ → PlainExpr → PlainExpr → PlainExpr → List Fault
send_faults cores own names at core source target count =
    target_faults cores own (at + 2) core ++ args_faults names (at + 2 + 2) (source ∷ target ∷ count ∷ [])

-- `return` with or without a value
abbrev pub return_faults : Bool → List Named → ℕ → Option PlainExpr → List Fault
return_faults gives names at None = where_so gives at fault.WrongType
return_faults gives names at (Some e) = where_so (not gives) at fault.WrongType ++ whole_faults names (at + 1) e

unfoldable mutual
  pub stmt_faults : Within → List Named → ℕ → PlainStmt → List Fault
  stmt_faults w names at (declares kind text r) = declare_faults w.outer names at kind text r
  stmt_faults w names at (set text r) = set_faults names at text r
  stmt_faults w names at (set_element text index r) = set_element_faults names at text index r
  stmt_faults w names at (called text args) = call_faults false names at text args
  stmt_faults w names at (sent core core_unsigned source target count) =
      send_faults w.cores w.own names at core source target count
  stmt_faults w names at (chosen arms otherwise) =
      arms_faults w names at arms ++ otherwise_faults w names (at + arms_size arms) otherwise
  stmt_faults w names at (loops bound head body) =
      bound_faults at bound ++ (head_faults names (at + bound_size bound) head
      ++ block_faults (looped w (length names)) names (at + bound_size bound + head_size head + 1) body)
  stmt_faults w names at broken = where_so (not w.in_loop) at fault.WrongType
  stmt_faults w names at continued = where_so (not w.in_loop) at fault.WrongType
  stmt_faults w names at (returned e) = return_faults w.gives names at e
  stmt_faults w names at (inner body) = block_faults (opened w (length names)) names (at + 1) body

  -- statements one after another, from the first token of the first
  pub block_faults : Within → List Named → ℕ → PlainBlock → List Fault
  block_faults w names at no_stmt = []
  block_faults w names at (stmt s rest) =
      stmt_faults w names at s ++ block_faults w (after names s) (at + stmt_size s) rest

  -- arms, from the first one's `if`; `else` stands before the next
  pub arms_faults : Within → List Named → ℕ → PlainArms → List Fault
  arms_faults w names at no_arm = []
  arms_faults w names at (arm condition body rest) =
      (whole_faults names (at + 2) condition
      ++ block_faults (opened w (length names)) names (at + 2 + expr_size condition + 2) body)
      ++ arms_faults w names (at + (expr_size condition + block_size body + 5 + 1)) rest

  pub otherwise_faults : Within → List Named → ℕ → PlainOtherwise → List Fault
  otherwise_faults w names at no_else = []
  otherwise_faults w names at (or_else body) = block_faults (opened w (length names)) names (at + 1 + 1) body

-- a function's block
abbrev pub body_faults : Within → List Named → ℕ → List PlainStmt → List Fault
body_faults w names at [] = []
body_faults w names at (s ∷ rest) = stmt_faults w names at s ++ body_faults w (after names s) (at + stmt_size s) rest

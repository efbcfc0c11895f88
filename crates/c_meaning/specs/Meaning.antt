-- To be believed. What a C task means (C99 6.8 and 6.9, and our subset): what its statements do to the words of its
-- variables and memories. All that C leaves undefined is decided here.
use Rattle.std.specs.Prelude.{ℕ, suc, zero, Bool, true, false, if◌then◌else◌, List, [], ◌∷◌, ◌++◌, length, Option, None, Some, bytes_eq, codes, slice_index}
use Rattle.shared_order.specs.Words.{put}
use Rattle.c_world.specs.Numbers.{is_true}
use Rattle.c_world.specs.World.{World, with_word, with_element, with_overrun, with_send}
use Rattle.c_tree.specs.declared.layout.Slot.{Slot}
use Rattle.c_tree.specs.declared.statements.Bound.{Bound}
use Rattle.c_tree.specs.declared.statements.Kind.{Kind}
use Rattle.c_tree.specs.declared.units.Parameter.{Parameter}
use Rattle.c_tree.specs.Layout.{is_unsigned, layout_of}
use Rattle.c_tree.specs.Plain.{PlainExpr, PlainRight, PlainHead, PlainStmt, PlainBlock, PlainArms, PlainOtherwise, PlainItem}
use Rattle.c_tree.specs.Plain as plain
use Rattle.c_meaning.specs.declared.ways.Way.{Way}
use Rattle.c_meaning.specs.declared.ways.Way.TheVariants as way
use Rattle.c_meaning.specs.Scope.{Variable, Stands, level, outside, nothing, slot_region, slot_word}
use Rattle.c_meaning.specs.Values.{State, Names, named, expr_value, args_value}

-- ---- how a statement ends

-- the way on, and the words after it
pub record Done : Type 0 where
  pub way : Way
  pub state : State

-- what a function gives, and the world after it
pub record Outcome : Type 0 where
  pub value : ℕ
  pub world : World

-- what the earlier functions of a program give: of a name and arguments, in a world
abbrev pub Calls : Type 0
Calls = List ℕ → List ℕ → World → Outcome

abbrev pub goes_on : State → Done
goes_on s = record { way = way.On; state = s }

-- ---- variables

-- the names after a declaration
abbrev pub with_variable : Names → Kind → List ℕ → Names
with_variable names kind text =
    record names { variables = names.variables ++ record { name = text; unsigned = is_unsigned kind } ∷ [] }

-- the word of a level, of what a name stands for, and of an element
abbrev pub with_level : ℕ → ℕ → State → State
with_level at value s = record s { locals = put at value s.locals }

abbrev pub with_variable_set : Stands → ℕ → State → State
with_variable_set (level at unsigned) value s = with_level at value s
with_variable_set (outside slot) value s =
    record s { world = with_word (slot_region slot) (slot_word slot) value s.world }
with_variable_set nothing value s = s

abbrev pub with_element_set : Stands → ℕ → ℕ → State → State
with_element_set (level at unsigned) index value s = s
with_element_set (outside slot) index value s =
    record s { world = with_element (slot_region slot) (slot_word slot) slot.length index value s.world }
with_element_set nothing index value s = s

-- ---- right sides

abbrev pub in_world : State → World → State
in_world s world = record s { world = world }

-- what a right side gives: a value, and the world after it where a function was called
abbrev pub call_outcome : Calls → Names → State → List ℕ → List PlainExpr → Outcome
call_outcome calls names s text args = calls text (args_value names s args) s.world

abbrev pub right_outcome : Calls → Names → State → PlainRight → Outcome
right_outcome calls names s (plain.value e) = record { value = expr_value names s e; world = s.world }
right_outcome calls names s (plain.call text args) = call_outcome calls names s text args

-- a declaration: the new variable is 0, and so it stands in its own first value
abbrev pub declare_done : Calls → Names → ℕ → Option PlainRight → State → State
declare_done calls names at None s = with_level at 0 s
declare_done calls names at (Some r) s =
    let fresh = with_level at 0 s in
    let given = right_outcome calls names fresh r in
    with_level at given.value (in_world fresh given.world)

abbrev pub set_done : Calls → Names → List ℕ → PlainRight → State → State
set_done calls names text r s =
    let given = right_outcome calls names s r in with_variable_set (named names text) given.value (in_world s given.world)

-- the right side comes before the index
abbrev pub set_element_done : Calls → Names → List ℕ → PlainExpr → PlainRight → State → State
set_element_done calls names text index r s =
    let given = right_outcome calls names s r in
    let behind = in_world s given.world in
    with_element_set (named names text) (expr_value names behind index) given.value behind

abbrev pub assigned : Names → List ℕ → PlainExpr → State → State
assigned names text e s = with_variable_set (named names text) (expr_value names s e) s

-- ---- loops

-- the condition of a loop, what stands before its first iteration, and what stands after each
abbrev pub head_condition : PlainHead → PlainExpr
head_condition (plain.iterations_while condition) = condition
head_condition (plain.iterations_for first from condition to_set to) = condition

abbrev pub head_begun : Names → PlainHead → State → State
head_begun names (plain.iterations_while condition) s = s
head_begun names (plain.iterations_for first from condition to_set to) s = assigned names first from s

abbrev pub head_stepped : Names → PlainHead → State → State
head_stepped names (plain.iterations_while condition) s = s
head_stepped names (plain.iterations_for first from condition to_set to) s = assigned names to_set to s

-- so many iterations at most: before each the condition is tested. Where it still holds after the last, the loop ends and
-- the flag is set; a loop that is left otherwise sets nothing. `continue` goes to the step
abbrev pub iteration_done : (State → Done) → (State → State) → Done → Done
iteration_done more step d = elim d.way as (λ _. Done) [
  | way.On ↦ more (step d.state)
  | way.Broken ↦ goes_on d.state
  | way.Continued ↦ more (step d.state)
  | way.Returned value ↦ d
]

abbrev pub iterations_done : (State → Bool) → (State → Done) → (State → State) → ℕ → State → Done
iterations_done holds body step zero s = goes_on (in_world s (with_overrun (holds s) s.world))
iterations_done holds body step (suc n) s =
    elim (holds s) as (λ _. Done) [ true ↦ iteration_done (iterations_done holds body step n) step (body s) | false ↦ goes_on s ]

abbrev pub most_iterations : Option Bound → ℕ
most_iterations None = 0
most_iterations (Some b) = b.max

-- ---- statements

-- after a statement the next one, where it goes on
abbrev pub then_done : (State → Done) → Done → Done
then_done next d = elim d.way as (λ _. Done) [
  | way.On ↦ next d.state
  | way.Broken ↦ d
  | way.Continued ↦ d
  | way.Returned value ↦ d
]

abbrev pub send_done : Names → ℕ → PlainExpr → PlainExpr → PlainExpr → State → State
send_done names core source target count s =
    in_world s (with_send core (expr_value names s source) (expr_value names s target)
    (expr_value names s count) s.world)

abbrev pub return_value : Names → State → Option PlainExpr → ℕ
return_value names s None = 0
return_value names s (Some e) = expr_value names s e

-- the names after a statement in its block
abbrev pub names_after : Names → PlainStmt → Names
names_after names (plain.declared kind text r) = with_variable names kind text
names_after names _ = names

abbrev mutual
  pub stmt_done : Calls → Names → PlainStmt → State → Done
  stmt_done calls names (plain.declared kind text r) s =
      goes_on (declare_done calls (with_variable names kind text) (length names.variables) r s)
  stmt_done calls names (plain.set text r) s = goes_on (set_done calls names text r s)
  stmt_done calls names (plain.set_element text index r) s = goes_on (set_element_done calls names text index r s)
  stmt_done calls names (plain.called text args) s = goes_on (in_world s (call_outcome calls names s text args).world)
  stmt_done calls names (plain.sent core core_unsigned source target count) s =
      goes_on (send_done names core source target count s)
  stmt_done calls names (plain.chosen arms otherwise) s =
      arms_done calls names arms (otherwise_done calls names otherwise) s
  stmt_done calls names (plain.looped bound head body) s =
      iterations_done (λ t. is_true (expr_value names t (head_condition head))) (block_done calls names body)
      (head_stepped names head) (most_iterations bound)
      (head_begun names head s)
  stmt_done calls names plain.broken s = record { way = way.Broken; state = s }
  stmt_done calls names plain.continued s = record { way = way.Continued; state = s }
  stmt_done calls names (plain.returned e) s = record { way = way.Returned (return_value names s e); state = s }
  stmt_done calls names (plain.inner body) s = block_done calls names body s

  -- statements one after another, up to one that goes elsewhere
  pub block_done : Calls → Names → PlainBlock → State → Done
  block_done calls names plain.no_stmt s = goes_on s
  block_done calls names (plain.stmt t rest) s =
      then_done (block_done calls (names_after names t) rest) (stmt_done calls names t s)

  -- the first arm whose condition holds, or else the last block
  pub arms_done : Calls → Names → PlainArms → (State → Done) → State → Done
  arms_done calls names plain.no_arm otherwise s = otherwise s
  arms_done calls names (plain.arm condition body rest) otherwise s =
      elim (is_true (expr_value names s condition)) as (λ _. Done) [
        | true ↦ block_done calls names body s
        | false ↦ arms_done calls names rest otherwise s
      ]

  pub otherwise_done : Calls → Names → PlainOtherwise → State → Done
  otherwise_done calls names plain.no_else s = goes_on s
  otherwise_done calls names (plain.or_else body) s = block_done calls names body s

-- the statements of a function's block
abbrev pub body_done : Calls → Names → List PlainStmt → State → Done
body_done calls names [] s = goes_on s
body_done calls names (t ∷ rest) s = then_done (body_done calls (names_after names t) rest) (stmt_done calls names t s)

-- ---- functions

abbrev pub parameter_variables : List Parameter → List Variable
parameter_variables [] = []
parameter_variables (p ∷ ps) = record { name = p.name; unsigned = is_unsigned p.kind } ∷ parameter_variables ps

-- a function that ends without a return gives 0
abbrev pub way_value : Way → ℕ
way_value (way.Returned value) = value
way_value _ = 0

-- the parameters have the arguments' words, by their levels
abbrev pub function_outcome : List Slot → Calls → List Parameter → List PlainStmt → List ℕ → World → Outcome
function_outcome slots calls parameters body args world =
    let done = body_done calls (record { slots = slots; variables = parameter_variables parameters }) body
    (record { locals = slice_index args; world = world }) in
    record { value = way_value done.way; world = done.state.world }

-- no function: it gives 0 and changes nothing
abbrev pub no_calls : Calls
no_calls text args world = record { value = 0; world = world }

-- the functions of the items, each with the ones before it; of two with one name the later
abbrev pub calls_with : List Slot → Calls → PlainItem → Calls
calls_with slots calls (plain.global of) text args world = calls text args world
calls_with slots calls (plain.function kind its_name void_word parameters body) text args world =
    if bytes_eq its_name text then function_outcome slots calls parameters body args world else calls text args world

abbrev pub calls_of : List Slot → Calls → List PlainItem → Calls
calls_of slots calls [] = calls
calls_of slots calls (i ∷ items) = calls_of slots (calls_with slots calls i) items

-- ---- programs

-- what `main` gives in a world
abbrev pub program_outcome : List PlainItem → World → Outcome
program_outcome items world = calls_of (layout_of items) no_calls items (codes "main") [] world

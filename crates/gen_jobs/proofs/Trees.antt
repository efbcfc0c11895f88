-- The tree of a generated C text.
use Rattle.std.specs.Prelude.{ℕ, zero, suc, ◌+◌, ◌%◌, List, [], ◌∷◌, ◌++◌, false, Some, codes}
use Rattle.std.specs.declared.boxed.Box.{Box}
use Rattle.std.specs.Global.{Global as Heap}
use Rattle.std.specs.Fmt.{decimal}
use denote.RawPtr.{null_ptr}
use Rattle.job_gen.specs.Generator.{after, draw, next}
use Rattle.job_gen.specs.declared.task.TheConstants.{FUNCTIONS, MASKS, VALUES}
use Rattle.c_tree.specs.declared.expressions.BinaryOp.{BinaryOp}
use Rattle.c_tree.specs.declared.expressions.BinaryOp.TheVariants as binary
use Rattle.c_tree.specs.declared.expressions.Expr.{Expr, Number, Name}
use Rattle.c_tree.specs.declared.expressions.Expr.TheViews.{Chain, Element, Paren}
use Rattle.c_tree.specs.declared.statements.Head.TheVariants as head
use Rattle.c_tree.specs.declared.statements.Kind.TheVariants as kind
use Rattle.c_tree.specs.declared.statements.Right.TheVariants as right
use Rattle.c_tree.specs.declared.statements.Stmt.{Stmt, Declare, Set, SetElement, Return}
use Rattle.c_tree.specs.declared.statements.Stmt.TheViews.{If, Loop}
use Rattle.c_tree.specs.declared.units.Global.{Global}
use Rattle.c_tree.specs.declared.units.Function.{Function}
use Rattle.c_tree.specs.declared.units.Item.{Item}
use Rattle.c_tree.specs.declared.units.Item.TheVariants as item
use Rattle.c_tree.specs.declared.units.Unit.{Unit as Program}

-- in a box, wherever that stands
abbrev pub boxed : Expr → Box Expr Heap
boxed e = record { ptr = null_ptr; alloc = record { memory = record { seal = tt } }; value = e }

-- two operands with an operator of a level between them
abbrev pub between : ℕ → Expr → BinaryOp → Expr → Expr
between level first op operand = Chain level (boxed first) (record { op = op; operand = operand } ∷ [])

abbrev pub variable : List ℕ → Expr
variable text = Name text

abbrev pub number : ℕ → Expr
number n = Number n false

abbrev pub sets : List ℕ → Expr → Stmt
sets text e = Set text (right.Value e)

abbrev pub function_name : ℕ → List ℕ
function_name index = codes "f" ++ decimal index

-- `(x & mask) == 0`
abbrev pub masked : ℕ → Expr
masked mask = between 5 (variable (codes "x")) binary.BitAnd (number mask)

abbrev pub test : ℕ → Expr
test mask = between 6 (Paren (boxed (masked mask))) binary.Equal (number 0)

-- `x * factor + term`
abbrev pub scaled : ℕ → Expr
scaled factor = between 10 (variable (codes "x")) binary.Times (number factor)

abbrev pub moved_up : ℕ → ℕ → Expr
moved_up factor term = between 9 (scaled factor) binary.Plus (number term)

-- `(x ^ term) - factor`
abbrev pub mixed : ℕ → Expr
mixed term = between 4 (variable (codes "x")) binary.BitXor (number term)

abbrev pub moved_down : ℕ → ℕ → Expr
moved_down factor term = between 9 (Paren (boxed (mixed term))) binary.Minus (number factor)

-- a function's choice by its test
abbrev pub choice : ℕ → ℕ → ℕ → Stmt
choice mask factor term =
    If (record { condition = test mask; body = sets (codes "y") (moved_up factor term) ∷ [] } ∷ [])
    (Some (sets (codes "y") (moved_down factor term) ∷ []))

abbrev pub function_of : ℕ → ℕ → ℕ → ℕ → Function
function_of index mask factor term = record {
  kind = Some kind.Int;
  name = function_name index;
  void_word = false;
  parameters = record { kind = kind.Int; name = codes "x" } ∷ [];
  body = Declare kind.Int (codes "y") (Some (right.Value (variable (codes "x")))) ∷ choice mask factor term
      ∷ Return (Some (variable (codes "y"))) ∷ [];
}

-- `i = i + 1`, `s + in[i]` and `i < 16`
abbrev pub next_place : Expr
next_place = between 9 (variable (codes "i")) binary.Plus (number 1)

abbrev pub next_sum : Expr
next_sum = between 9 (variable (codes "s")) binary.Plus (Element (codes "in") (boxed (variable (codes "i"))))

abbrev pub in_array : Expr
in_array = between 7 (variable (codes "i")) binary.Less (number 16)

-- the loop's block from the call of a function on, where so many are called
abbrev pub turn_from : ℕ → ℕ → List Stmt
turn_from zero index = sets (codes "i") next_place ∷ []
turn_from (suc left) index =
    Set (codes "s") (right.Call (function_name index) (variable (codes "s") ∷ [])) ∷ turn_from left (index + 1)

abbrev pub turn : List Stmt
turn = sets (codes "s") next_sum ∷ turn_from FUNCTIONS 0

abbrev pub main : Function
main = record {
  kind = Some kind.Int;
  name = codes "main";
  void_word = false;
  parameters = [];
  body =
      Declare kind.Int (codes "s") (Some (right.Value (number 0))) ∷ Declare kind.Int (codes "i") (Some
      (right.Value (number 0)))
      ∷ Loop (Some (record { min = 16; max = 16 })) (head.While in_array) turn
      ∷ SetElement (codes "out") (number 0) (right.Value (variable (codes "s"))) ∷ Return (Some (variable (codes "s")))
      ∷ [];
}

-- an array of words
abbrev pub array : List ℕ → ℕ → Global
array text length = record {
  scratch = false;
  kind = kind.Int;
  name = text;
  length = Some (record { value = length; unsigned = false });
  initial = [];
}

-- the functions from an index on, whose draws begin at a state, and `main`
abbrev pub functions_from : ℕ → ℕ → ℕ → List Item
functions_from zero index x = item.Function main ∷ []
functions_from (suc left) index x =
    item.Function (function_of index (draw x % MASKS) (draw (next x) % VALUES) (draw (next (next x)) % VALUES))
    ∷ functions_from left (index + 1) (after 3 x)

-- the tree of the C text whose draws begin at a state
abbrev pub tree_of : ℕ → Program
tree_of x = record {
  items = item.Global (array (codes "in") 16) ∷ item.Global (array (codes "out") 1)
      ∷ functions_from FUNCTIONS 0 x;
}

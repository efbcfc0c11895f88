-- For worked rows. Small programs to show meanings on.
use Rattle.std.specs.Prelude.{ℕ, true, false, List, [], ◌∷◌, Some, codes}
use Rattle.c_tree.specs.declared.expressions.BinaryOp.{BinaryOp}
use Rattle.c_tree.specs.declared.expressions.BinaryOp.TheVariants as binary
use Rattle.c_tree.specs.declared.expressions.UnaryOp.TheVariants as unary
use Rattle.c_tree.specs.declared.statements.Kind.TheVariants as kind
use Rattle.c_tree.specs.Plain.{PlainExpr, PlainStmt, PlainBlock, PlainItem}
use Rattle.c_tree.specs.Plain as plain
use Rattle.c_tree.specs.Small.{function_of, variable_of, array_of, const_of}

abbrev pub number : ℕ → PlainExpr
number n = plain.number n false

abbrev pub variable : List ℕ → PlainExpr
variable text = plain.name text

-- `X OP Y` at a level of operators, `-X`, and an element
abbrev pub between : ℕ → BinaryOp → PlainExpr → PlainExpr → PlainExpr
between level op x y = plain.chain level x (plain.step op y plain.no_step)

abbrev pub minus : PlainExpr → PlainExpr
minus x = plain.unary (unary.Minus ∷ []) x

abbrev pub at_index : List ℕ → PlainExpr → PlainExpr
at_index text index = plain.element text index

-- `int NAME = VALUE;`, `NAME = VALUE;`, `return VALUE;`
abbrev pub declared : List ℕ → PlainExpr → PlainStmt
declared text e = plain.declared kind.Int text (Some (plain.value e))

abbrev pub set_to : List ℕ → PlainExpr → PlainStmt
set_to text e = plain.set text (plain.value e)

abbrev pub returned : PlainExpr → PlainStmt
returned e = plain.returned (Some e)

abbrev pub block_of : List PlainStmt → PlainBlock
block_of [] = plain.no_stmt
block_of (s ∷ body) = plain.stmt s (block_of body)

-- a loop of so many iterations at most: `for (i = 0; i < 10; i = i + 1) { BODY }`
abbrev pub ten_iterations : ℕ → List PlainStmt → PlainStmt
ten_iterations most body =
    plain.looped (Some (record { min = 0; max = most }))
    (plain.iterations_for (codes "i") (number 0) (between 7 binary.Less (variable (codes "i")) (number 10)) (codes "i")
    (between 9 binary.Plus (variable (codes "i")) (number 1)))
    (block_of body)

abbrev pub main_of : List PlainStmt → PlainItem
main_of body = function_of (codes "main") [] body

-- `int main() { int s = 0; int i = 0; for (i = 0; i < 10; i = i + 1) { s = s + i; } return s; }`
abbrev pub sum_program : ℕ → List PlainItem
sum_program most = main_of (
    declared (codes "s") (number 0) ∷ declared (codes "i") (number 0)
    ∷ ten_iterations most (set_to (codes "s") (between 9 binary.Plus (variable (codes "s")) (variable (codes "i"))) ∷ [])
    ∷ returned (variable (codes "s")) ∷ []) ∷ []

-- `int main() { int i = 0; for (i = 0; i < 10; i = i + 1) { continue; i = 20; } return i; }`
abbrev pub continue_program : List PlainItem
continue_program = main_of (
    declared (codes "i") (number 0) ∷ ten_iterations 10 (plain.continued ∷ set_to (codes "i") (number 20) ∷ [])
    ∷ returned (variable (codes "i")) ∷ []) ∷ []

-- `int main() { while (1) { BODY } }`, of so many iterations at most
abbrev pub iterating_program : ℕ → List PlainStmt → List PlainItem
iterating_program most body =
    main_of (plain.looped (Some (record { min = 0; max = most })) (plain.iterations_while (number 1)) (block_of body) ∷ [])
    ∷ []

-- `int x = 7; int main() { int x = VALUE; return x; }`
abbrev pub hiding_program : PlainExpr → List PlainItem
hiding_program e =
    variable_of false (codes "x") (const_of 7 ∷ [])
    ∷ main_of (declared (codes "x") e ∷ returned (variable (codes "x")) ∷ []) ∷ []

-- `int a[3]; int main() { if (CONDITION) { a[INDEX] = 5; } return a[READ]; }`
abbrev pub store_program : PlainExpr → PlainExpr → PlainExpr → List PlainItem
store_program condition index read =
    array_of false (codes "a") 3 []
    ∷ main_of (plain.chosen (plain.arm condition
    (block_of (plain.set_element (codes "a") index (plain.value (number 5)) ∷ [])) plain.no_arm) plain.no_else
    ∷ returned (at_index (codes "a") read) ∷ []) ∷ []

-- `int i; int a[2]; int f() { i = 1; return 5; } int main() { a[i] = f(); return a[1]; }`
abbrev pub order_program : List PlainItem
order_program =
    variable_of false (codes "i") [] ∷ array_of false (codes "a") 2 []
    ∷ function_of (codes "f") [] (set_to (codes "i") (number 1) ∷ returned (number 5) ∷ [])
    ∷ main_of (plain.set_element (codes "a") (variable (codes "i")) (plain.call (codes "f") [])
    ∷ returned (at_index (codes "a") (number 1)) ∷ []) ∷ []

-- `int in[2]; int main() { return in[1]; }`, and the same with `in` in the scratchpad
abbrev pub input_program : List PlainItem
input_program = array_of false (codes "in") 2 [] ∷ main_of (returned (at_index (codes "in") (number 1)) ∷ []) ∷ []

abbrev pub scratch_input_program : List PlainItem
scratch_input_program =
    array_of true (codes "in") 2 [] ∷ main_of (returned (at_index (codes "in") (number 1)) ∷ []) ∷ []

-- `int main() { send(1, 3, 4, 2); }`
abbrev pub send_program : List PlainItem
send_program = main_of (plain.sent 1 false (number 3) (number 4) (number 2) ∷ []) ∷ []

-- To be believed. How many words the code of a function takes at most: its size word, its instructions, and one word
-- more for each load and each product, whose value is there only after the next bundle.
use Rattle.std.specs.Prelude.{ℕ, ◌+◌, nat_lt, Bool, false, if◌then◌else◌, List, [], ◌∷◌}
use Rattle.sp_tree.specs.declared.operators.SpBinary.{SpBinary}
use Rattle.sp_tree.specs.declared.operators.SpBinary.TheVariants as binary
use Rattle.sp_tree.specs.declared.operators.SpUnary.{SpUnary}
use Rattle.sp_tree.specs.declared.operators.SpUnary.TheVariants as unary
use Rattle.sp_tree.specs.Plain.{PlainSp, constant, frame_word, cell_word, array_word, before_one, between_two}
use Rattle.sp_tree.specs.Statements.{PlainSpTarget, to_slot, to_cell, to_array, PlainStmt, masks, writes, calls, transfers, overruns, iterations, PlainStmts, no_stmt, stmt, PlainFunction}

-- ---- expressions

-- `!` compares with 0, sets 0 and, under the predicate, 1
abbrev pub unary_cost : SpUnary → ℕ
unary_cost unary.Minus = 1
unary_cost unary.Complement = 1
unary_cost unary.Not = 3

-- `||` and `&&` compare both operands with 0, and join what comes of it; a comparison sets 0 and, under its predicate,
-- 1; a product is fetched from a register of its own; quotients and remainders are taken digit by digit, four in
-- each iteration
abbrev pub binary_cost : SpBinary → ℕ
binary_cost binary.Or = 5
binary_cost binary.And = 5
binary_cost binary.Equal = 3
binary_cost binary.NotEqual = 3
binary_cost binary.Less = 3
binary_cost binary.LessUnsigned = 3
binary_cost binary.LessEqual = 3
binary_cost binary.LessEqualUnsigned = 3
binary_cost binary.Times = 3
binary_cost binary.Divide = 43
binary_cost binary.DivideUnsigned = 43
binary_cost binary.Remainder = 43
binary_cost binary.RemainderUnsigned = 43
binary_cost _ = 1

-- the constants that an instruction holds as its second operand are those below this number: a masking has 12 bits for
-- it, a comparison 5
abbrev pub held_below : SpBinary → ℕ
held_below binary.BitAnd = 4096
held_below binary.Equal = 32
held_below binary.NotEqual = 32
held_below binary.Less = 32
held_below binary.LessUnsigned = 32
held_below binary.LessEqual = 32
held_below binary.LessEqualUnsigned = 32
held_below _ = 0

abbrev pub is_held : SpBinary → PlainSp → Bool
is_held op (constant n) = nat_lt n (held_below op)
is_held op _ = false

-- a constant is an instruction, which has 12 bits for it in its one word, or a second word
abbrev pub constant_cost : ℕ → ℕ
constant_cost n = if nat_lt n 4096 then 1 else 2

-- a word of the frame is a load; a word of a memory its address and a load; an element the test of its index, its address
-- and a load, with 0 in its place where the test fails
abbrev pub expr_cost : PlainSp → ℕ
expr_cost (constant n) = constant_cost n
expr_cost (frame_word slot) = 2
expr_cost (cell_word cell) = 4
expr_cost (array_word array index) = 12 + expr_cost index
expr_cost (before_one op of) = unary_cost op + expr_cost of
expr_cost (between_two op a b) = binary_cost op + expr_cost a + (if is_held op b then 0 else expr_cost b)

abbrev pub args_cost : List PlainSp → ℕ
args_cost [] = 0
args_cost (e ∷ args) = expr_cost e + args_cost args

-- ---- statements

-- the test of the mask takes three words; then comes a store, with its address, and the test of an index
abbrev pub target_cost : PlainSpTarget → ℕ
target_cost (to_slot slot) = 4
target_cost (to_cell cell) = 7
target_cost (to_array array index) = 16 + expr_cost index

abbrev mutual
  pub stmt_cost : PlainStmt → ℕ
  stmt_cost (masks slot e) = 1 + expr_cost e
  stmt_cost (writes mask target e) = target_cost target + expr_cost e
  stmt_cost (calls mask k args result) = 16 + args_cost args
  stmt_cost (transfers mask core source target count) = 20 + expr_cost source + expr_cost target + expr_cost count
  stmt_cost (overruns mask e) = 6 + expr_cost e
  stmt_cost (iterations count body) = 11 + stmts_cost body

  pub stmts_cost : PlainStmts → ℕ
  stmts_cost no_stmt = 0
  stmts_cost (stmt t rest) = stmt_cost t + stmts_cost rest

-- a function has its size word, takes and frees its frame, keeps its parameters, its mask and the place to which it
-- returns, sets the words to 0 that stand in registers, and gives its result
abbrev pub cost : PlainFunction → ℕ
cost f = 56 + stmts_cost f.body

-- To be believed. What a unit does with memories: the words and arrays that it reads
-- and writes, and the cores that it sends to.
use Rattle.std.specs.Prelude.{ℕ, ◌+◌, nat_lt, nat_le, Bool, true, false, not, ◌&&◌, List, [], ◌∷◌, ◌++◌}
use Rattle.std.specs.List.{list_all}
use Rattle.c_world.specs.declared.region.Region.{Region}
use Rattle.c_world.specs.declared.region.Region.TheVariants as region
use Rattle.sp_tree.specs.declared.expressions.SpArray.{SpArray}
use Rattle.sp_tree.specs.declared.expressions.SpCell.{SpCell}
use Rattle.sp_tree.specs.Plain.{PlainSp, constant, frame_word, cell_word, array_word, before_one, between_two}
use Rattle.sp_tree.specs.Statements.{PlainSpTarget, to_slot, to_cell, to_array, PlainStmt, masks, writes, calls, transfers, overruns, iterations, PlainStmts, no_stmt, stmt, PlainFunction, PlainUnit}

pub data Use : Type 0 where
  reads_cell : SpCell → Use
  reads_array : SpArray → Use
  writes_cell : SpCell → Use
  writes_array : SpArray → Use
  sends_to : ℕ → Use

abbrev pub expr_uses : PlainSp → List Use
expr_uses (constant n) = []
expr_uses (frame_word slot) = []
expr_uses (cell_word cell) = reads_cell cell ∷ []
expr_uses (array_word array index) = reads_array array ∷ expr_uses index
expr_uses (before_one op of) = expr_uses of
expr_uses (between_two op a b) = expr_uses a ++ expr_uses b

abbrev pub args_uses : List PlainSp → List Use
args_uses [] = []
args_uses (e ∷ args) = expr_uses e ++ args_uses args

abbrev pub target_uses : PlainSpTarget → List Use
target_uses (to_slot slot) = []
target_uses (to_cell cell) = writes_cell cell ∷ []
target_uses (to_array array index) = writes_array array ∷ expr_uses index

abbrev mutual
  pub stmt_uses : PlainStmt → List Use
  stmt_uses (masks slot e) = expr_uses e
  stmt_uses (writes mask target e) = target_uses target ++ expr_uses e
  stmt_uses (calls mask k args result) = args_uses args
  stmt_uses (transfers mask core source target count) =
      sends_to core ∷ (expr_uses source ++ (expr_uses target ++ expr_uses count))
  stmt_uses (overruns mask e) = expr_uses e
  stmt_uses (iterations count body) = stmts_uses body

  pub stmts_uses : PlainStmts → List Use
  stmts_uses no_stmt = []
  stmts_uses (stmt t rest) = stmt_uses t ++ stmts_uses rest

abbrev pub functions_uses : List PlainFunction → List Use
functions_uses [] = []
functions_uses (f ∷ fs) = stmts_uses f.body ++ functions_uses fs

abbrev pub uses_of : PlainUnit → List Use
uses_of u = functions_uses u.functions

-- ---- private variables and private arrays

abbrev pub is_private : Region → Bool
is_private region.Private = true
is_private _ = false

-- a private variable that stands inside a private array
abbrev pub stands_inside : SpCell → SpArray → Bool
stands_inside c a =
    is_private c.region && (is_private a.region && (nat_le a.first c.word && nat_lt c.word (a.first + a.length)))

abbrev pub cell_apart : SpCell → Use → Bool
cell_apart c (reads_array array) = not (stands_inside c array)
cell_apart c (writes_array array) = not (stands_inside c array)
cell_apart c _ = true

abbrev pub use_apart : List Use → Use → Bool
use_apart uses (reads_cell cell) = list_all (cell_apart cell) uses
use_apart uses (writes_cell cell) = list_all (cell_apart cell) uses
use_apart uses _ = true

-- no private variable stands inside a private array: variables are read through the data cache, of which stores to
-- elements know nothing
abbrev pub are_apart : List Use → Bool
are_apart uses = list_all (use_apart uses) uses

-- To be believed. Functions without loops and calls, and functions that have no more of both than others.
use Rattle.std.specs.Prelude.{ℕ, ◌<◌, ◌≤◌, List, slice_index_or}
use Rattle.sp_tree.specs.Statements.{PlainFunction, no_function}
use Rattle.weight_bounds.specs.Trees.{stmts_iterations, stmts_call_count}

pub record IsLeaf (f : PlainFunction) : Type 0 where
  pub iterations : stmts_iterations f.body ≤ 1
  pub calls : stmts_call_count f.body ≤ 0

-- the first so many functions
abbrev pub AreLeaves : List PlainFunction → ℕ → Type 0
AreLeaves fs n = (k : ℕ) → k < n → IsLeaf (slice_index_or fs k no_function)

-- the second has no more than the first
pub record HasNoMore (f g : PlainFunction) : Type 0 where
  pub iterations : stmts_iterations g.body ≤ stmts_iterations f.body
  pub calls : stmts_call_count g.body ≤ stmts_call_count f.body

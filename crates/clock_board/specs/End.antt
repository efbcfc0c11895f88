-- To be believed. What a board that was closed tells.
use Rattle.std.specs.Prelude.{◌≡◌, ℕ, ◌<◌, ◌≤◌, List, ◌++◌, slice_index, Any}
use Rattle.std.specs.List.{AllByRecursion as Each}
use Rattle.shared_order.specs.declared.operation.Operation.{Operation}
use Rattle.shared_order.specs.Operation.{operations_of}
use Rattle.shared_order.specs.Words.{stored_last}
use Rattle.clock_board.specs.declared.known.Record.{Record}
use Rattle.clock_board.specs.Record.{clock_of}
use Rattle.clock_board.specs.Board.{BoardFace}

-- the course was made up to some operation: each record that came back has its core's operations of it, and
-- each word has what was stored last in it
pub record IsEnd (b : BoardFace) (back : List Record) (answer : List ℕ) : Type 0 where
  pub done : List Operation
  pub rest : List Operation
  pub order : b.course ≡ done ++ rest
  pub made : Each (λ r. r.made ≡ operations_of b.cores r.core done) back
  pub words : (w : ℕ) → w < b.words → slice_index answer w ≡ stored_last w done 0

-- the record of each core came back, and each has published a stamp past the whole course
pub record AllPast (b : BoardFace) (back : List Record) (limit : ℕ) : Type 0 where
  pub below : Each (λ o. o.stamp < limit) b.course
  pub past : (core : ℕ) → core < b.cores →
      Any (λ r. (r.core ≡ core) × (limit ≤ clock_of r.published)) back

-- For worked rows. A small course of two cores, for worked values. Core 0 stores 7 in word 5 at stamp 8; core 1 loads
-- word 5 at stamps 5 and 13, before and after it.
use Rattle.std.specs.Prelude.{◌≡◌, ℕ, zero, suc, List, [], ◌∷◌}
use Rattle.shared_order.specs.declared.operation.Operation.{Operation}
use Rattle.shared_order.specs.Operation.{load, store}
use Rattle.shared_order.specs.Program.{first, others}
use Rattle.clock_board.specs.Record.{clock_of}
use Rattle.clock_board.specs.View.{own, todo, IsGiven}
use Rattle.clock_board.specs.Board.{BoardFace, PassFace}

-- the operations of both
abbrev pub two : List Operation
two = load 5 5 0 ∷ store 8 5 7 ∷ load 13 5 7 ∷ []

-- what each core asks for when its loads give these values
abbrev pub asks : ℕ → List ℕ → List Operation
asks zero values = store 8 5 7 ∷ []
asks (suc zero) values = load 5 5 (first values) ∷ load 13 5 (first (others values)) ∷ []
asks (suc (suc core)) values = []

-- the board follows the course, on six words
pub record IsBoardOfTwo (b : BoardFace) : Type 0 where
  pub cores : b.cores ≡ 2
  pub words : b.words ≡ 6
  pub course : b.course ≡ two

-- the pass is the core's, which has these operations still to make, and its clock shows this stamp
pub record Stands (p : PassFace) (core : ℕ) (left : List Operation) (shows : ℕ) : Type 0 where
  pub given : IsGiven p.view
  pub cores : p.view.cores ≡ 2
  pub own_core : (own p.view).core ≡ core
  pub next : todo p.view ≡ left
  pub clock : clock_of (own p.view).published ≡ shows

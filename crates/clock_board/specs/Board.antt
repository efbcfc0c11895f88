-- To be believed. What contracts see of a board and of a pass.
use Rattle.std.specs.Prelude.{◌≡◌, ℕ, ◌+◌, ◌<◌, ◌≤◌, List, [], slice_index}
use Rattle.std.specs.List.{AllByRecursion as Each}
use Rattle.atomic_table.specs.Seated.{TableId}
use Rattle.shared_order.specs.declared.operation.Operation.{Operation}
use Rattle.shared_order.specs.Fit.{Fits}
use Rattle.clock_board.specs.declared.known.Holding.{Holding}
use Rattle.clock_board.specs.declared.known.Holding.TheVariants.{Maker, Claiming, Given, Spent}
use Rattle.clock_board.specs.declared.known.View.{View}
use Rattle.clock_board.specs.Record.{greatest}
use Rattle.clock_board.specs.Plays.{Place}

-- a board: which one it is, how many cores and shared words it has, and the course that it follows,
-- all its operations in their order
pub record BoardFace : Type 0 where
  pub id : TableId
  pub cores : ℕ
  pub words : ℕ
  pub course : List Operation

-- a pass: of which board it is, and what it knows
pub record PassFace : Type 0 where
  pub board : TableId
  pub view : View

-- the pass is of the board, and knows of the same course
pub record IsPassOf (b : BoardFace) (p : PassFace) : Type 0 where
  pub board : p.board ≡ b.id
  pub cores : p.view.cores ≡ b.cores
  pub course : p.view.course ≡ b.course

-- what a board keeps: the table has a clock and a claim word for each core and the shared words, the
-- course has as many cores and names only these words, and there is room to give the words back
pub record IsSized (id : TableId) (of_course : ℕ) (all : List Operation) (cores words : ℕ)
    (kept : List ℕ) (capacity : ℕ) : Type 0 where
  pub table : id.words ≡ cores + cores + words
  pub slots : id.slots ≡ 0
  pub few : cores ≤ 16
  pub course : of_course ≡ cores
  pub fits : Each (Fits words) all
  pub spare : kept ≡ []
  pub room : words ≤ capacity

-- a pass's own number and array are those of its record: its core, and the greatest look at each
-- core
abbrev pub Remembers : Holding → ℕ → List ℕ → Type 0
Remembers (Given r) core seen =
    (r.core ≡ core) × ((d : ℕ) → d < 16 → slice_index seen d ≡ greatest d r.looks)
Remembers (Maker back) core seen = Unit {0}
Remembers Claiming core seen = Unit {0}
Remembers Spent core seen = Unit {0}

-- what a pass keeps
pub record IsSeated (me : Place) (core : ℕ) (seen : List ℕ) : Type 0 where
  pub no_slot : me.1 ≡ []
  pub few : me.0.cores ≤ 16
  pub array : Remembers me.0.holding core seen

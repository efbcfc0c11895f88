-- To be believed. Words of a core's own memory that move in a slot: nothing of the board is asked for.
use Rattle.std.specs.Prelude.{ℕ, true, false, Option, None, Some}
use Rattle.shared_order.specs.Words.{put}
use Rattle.local_store.specs.declared.map.Space.TheVariants.{Main}
use Rattle.local_store.specs.declared.map.Cell.{Cell}
use Rattle.local_store.specs.declared.map.Cell.TheVariants as cell
use Rattle.patmos_instr.specs.declared.memories.StoreWidth.{StoreWidth}
use Rattle.patmos_sem.specs.Narrow.{merged}
use Rattle.patmos_model.specs.declared.transfer.Then.{Then}
use Rattle.patmos_model.specs.declared.transfer.Then.TheVariants as then_on
use Rattle.patmos_model.specs.State.{Plain}
use Rattle.patmos_model.specs.Cells.{cell_of, with_value}
use Rattle.patmos_step.specs.Moving.{MovesIn}

-- a cell of private memory
abbrev pub IsPrivateCell : Option Cell → Type 0
IsPrivateCell place = elim place [
  | None ↦ ⊥
  | Some found ↦ elim found [
    | cell.Scratch word ↦ ⊥
    | cell.Comm word ↦ ⊥
    | cell.Port core register ↦ ⊥
    | cell.Private word ↦ Unit {0}
    | cell.Shared word ↦ ⊥
  ]
]

-- words of a method or of the stack, or one word of private memory past the data cache
abbrev pub MovesOwn : Then → Type 0
MovesOwn then = elim then [
  | then_on.Nothing ↦ Unit {0}
  | then_on.Load rd width address ↦ IsPrivateCell (cell_of Main address)
  | then_on.Line rd width address ↦ ⊥
  | then_on.Store cached width address value ↦ elim cached [ true ↦ ⊥ | false ↦ IsPrivateCell (cell_of Main address) ]
]

-- they move in the cycle
pub record CanMoveIn (cycle : ℕ) (x : Plain) : Type 0 where
  pub moves : MovesIn cycle x
  pub own : MovesOwn x.transfer.then

-- the word in a cell of private memory, and the core with a value stored in it
abbrev pub private_at : Option Cell → Plain → ℕ
private_at place x = elim place [
  | None ↦ 0
  | Some found ↦ elim found [
    | cell.Scratch word ↦ 0
    | cell.Comm word ↦ 0
    | cell.Port core register ↦ 0
    | cell.Private word ↦ x.private word
    | cell.Shared word ↦ 0
  ]
]

abbrev pub private_set : Option Cell → StoreWidth → ℕ → ℕ → Plain → Plain
private_set place width address value x = elim place [
  | None ↦ x
  | Some found ↦ elim found [
    | cell.Scratch word ↦ x
    | cell.Comm word ↦ x
    | cell.Port core register ↦ x
    | cell.Private word ↦ record x { private = put word (merged width address (x.private word) value) x.private }
    | cell.Shared word ↦ x
  ]
]

-- what comes of the words that moved
abbrev pub moved_by : Then → Plain → Plain
moved_by then x = elim then [
  | then_on.Nothing ↦ x
  | then_on.Load rd width address ↦ with_value rd width address (private_at (cell_of Main address) x) x
  | then_on.Line rd width address ↦ x
  | then_on.Store cached width address value ↦ private_set (cell_of Main address) width address value x
]

-- To be believed. What names stand for (C99 6.2.1): variables of a function by their
-- levels, and what is declared outside functions.
use Rattle.std.specs.Prelude.{ℕ, Bool, false, if◌then◌else◌, List, [], ◌∷◌, Option, None, Some, bytes_eq}
use Rattle.local_store.specs.declared.map.Cell.TheVariants as cell
use Rattle.c_world.specs.declared.region.Region.{Region}
use Rattle.c_world.specs.declared.region.Region.TheVariants as region
use Rattle.c_tree.specs.declared.layout.Slot.{Slot}
use Rattle.c_tree.specs.Names.{Found, last_named}

-- a variable that is open in a function
pub record Variable : Type 0 where
  pub name : List ℕ
  pub unsigned : Bool

-- what a name stands for: the variable of a level, which is the number of variables open before it; or what has a slot
-- outside functions; or nothing
pub data Stands : Type 0 where
  level : ℕ → Bool → Stands
  outside : Slot → Stands
  nothing : Stands

-- what is declared outside functions: the first slot so called
abbrev pub among_slots : List ℕ → List Slot → Stands
among_slots name [] = nothing
among_slots name (s ∷ slots) = if bytes_eq s.name name then outside s else among_slots name slots

-- the last variable so called hides those before it, and what is declared outside functions
abbrev pub among_variables : List ℕ → List Variable → Option (Found Variable)
among_variables name variables = last_named (λ v. v.name) 0 name variables

abbrev pub stands : List Slot → List Variable → List ℕ → Stands
stands slots variables name =
    elim (among_variables name variables) [ Some v ↦ level v.at v.is.unsigned | None ↦ among_slots name slots ]

abbrev pub stands_unsigned : Stands → Bool
stands_unsigned (level at unsigned) = unsigned
stands_unsigned (outside slot) = slot.unsigned
stands_unsigned nothing = false

-- where a slot's words are: a memory and the number of its first word there
abbrev pub slot_region : Slot → Region
slot_region s = elim s.cell [
  | cell.Scratch word ↦ region.Scratch
  | cell.Comm word ↦ region.Comm
  | cell.Port core register ↦ region.Scratch
  | cell.Private word ↦ region.Private
  | cell.Shared word ↦ region.Shared
]

abbrev pub slot_word : Slot → ℕ
slot_word s = elim s.cell [
  | cell.Scratch word ↦ word
  | cell.Comm word ↦ word
  | cell.Port core register ↦ 0
  | cell.Private word ↦ word
  | cell.Shared word ↦ word
]

-- To be believed. What of a core never changes: its place on the platform, and the code of its task. Places and
-- offsets count words of code.
use Rattle.std.specs.Prelude.{ℕ, ◌+◌, ◌-◌, ◌^◌, Bool, true, false, ◌&&◌, ◌==◌, nat_lt, nat_le, List, slice_index}
use Rattle.std.specs.List.{list_any}
use Rattle.method_cache.specs.declared.cache.Method.{Method}
use Rattle.patmos_code.specs.Images.{Parts}

-- how many cores there are, which one this is, how many cycles a slot has, the slot table, the cycle
-- at which the task starts, and the image of its code
pub record Site : Type 0 where
  pub cores : ℕ
  pub core : ℕ
  pub slot : ℕ
  pub table : List ℕ
  pub start : ℕ
  pub image : Parts

-- the size in words of the function that starts at a place: it stands in the word before
abbrev pub size_at : Parts → ℕ → ℕ
size_at image base = slice_index image.words (base - 1)

-- a function starts at the place, and has a word at the offset
abbrev pub has_place : Parts → ℕ → ℕ → Bool
has_place image base offset =
    list_any (λ start. base == start) image.starts && nat_lt offset (size_at image base)

-- the function that starts at a place, as the method cache knows it
abbrev pub method_at : Parts → ℕ → Method
method_at image base = record { function = base; words = size_at image base }

-- the word at an offset of a function
abbrev pub word_at : Parts → ℕ → ℕ → ℕ
word_at image base offset = slice_index image.words (base + offset)

-- how many words a bundle has, by bit 31 of the first
abbrev pub bundle_words : ℕ → ℕ
bundle_words first = elim (nat_lt first (2 ^ 31)) [ true ↦ 1 | false ↦ 2 ]

-- the bundle at an offset lies inside the function
abbrev pub is_inside : Parts → ℕ → ℕ → Bool
is_inside image base offset =
    nat_le (offset + bundle_words (word_at image base offset)) (size_at image base)

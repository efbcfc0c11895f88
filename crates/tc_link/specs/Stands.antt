-- To be believed. What stands in a list of words from a place on.
use Rattle.std.specs.Prelude.{◌≡◌, ℕ, ◌+◌, List, [], ◌∷◌, length, take, drop}
use Rattle.patmos_instr.specs.Bundles.{PlainBundle}
use Rattle.patmos_code.specs.Codes.{code}
use Rattle.sp_shape.specs.Parts.{PlainPart, straight, repeats, calls_to, leaves, PlainParts, no_part, part}
use Rattle.sp_shape.specs.Words.{bundle_words, part_words, parts_words}
use Rattle.tc_link.specs.Flat.{called, turned}

-- these words
abbrev pub StandAt : List ℕ → ℕ → List ℕ → Type 0
StandAt words at piece = take (length piece) (drop at words) ≡ piece

-- these bundles, one after another
abbrev pub HasAt : List ℕ → ℕ → List PlainBundle → Type 0
HasAt words at [] = Unit {0}
HasAt words at (b ∷ bs) = StandAt words at (code b) × HasAt words (at + bundle_words b) bs

-- these parts, over the words at which functions start
abbrev mutual
  pub PartAt : List ℕ → (ℕ → ℕ) → ℕ → PlainPart → Type 0
  PartAt words start at (straight bs) = HasAt words at bs
  PartAt words start at (repeats count body tail) =
      PartsAt words start at body × HasAt words (at + parts_words body) (turned (parts_words body) tail)
  PartAt words start at (calls_to k tail) = HasAt words at (called (start k) tail)
  PartAt words start at (leaves tail) = HasAt words at tail

  pub PartsAt : List ℕ → (ℕ → ℕ) → ℕ → PlainParts → Type 0
  PartsAt words start at no_part = Unit {0}
  PartsAt words start at (part p rest) = PartAt words start at p × PartsAt words start (at + part_words p) rest

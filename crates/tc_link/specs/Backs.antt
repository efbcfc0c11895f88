-- To be believed. The places to which the calls of a shape return, in the order of its trail.
use Rattle.std.specs.Prelude.{ℕ, zero, suc, ◌+◌, ◌==◌, List, [], ◌∷◌, ◌++◌, length, slice_index_or, if◌then◌else◌}
use Rattle.sp_shape.specs.Parts.{PlainPart, straight, repeats, calls_to, leaves, PlainParts, no_part, part, PlainShape}
use Rattle.sp_shape.specs.Run.{Back}
use Rattle.sp_shape.specs.Trail.{copies}
use Rattle.sp_shape.specs.Words.{bundles_words, part_words}
use Rattle.tc_link.specs.Placed.{start_of}

abbrev pub back : ℕ → ℕ → Back
back base offset = record { base = base; offset = offset }

-- of parts that stand at an offset of the function that starts at a place, over those of functions by their
-- number: a call returns to the place after its delay slots
abbrev mutual
  pub part_backs : (ℕ → List Back) → ℕ → ℕ → PlainPart → List Back
  part_backs f base at (straight bs) = []
  part_backs f base at (repeats count body tail) = copies count (parts_backs f base at body)
  part_backs f base at (calls_to k tail) = back base (at + bundles_words tail) ∷ f k
  part_backs f base at (leaves tail) = []

  pub parts_backs : (ℕ → List Back) → ℕ → ℕ → PlainParts → List Back
  parts_backs f base at no_part = []
  parts_backs f base at (part p rest) = part_backs f base at p ++ parts_backs f base (at + part_words p) rest

-- functions in order, each over the earlier ones, with the places at which they start
abbrev pub backs : (ℕ → ℕ) → List PlainParts → ℕ → ℕ → List Back
backs start fs zero k = []
backs start fs (suc n) k =
    if k == n then parts_backs (backs start fs n) (start n) 0 (slice_index_or fs n no_part) else backs start fs n k

abbrev pub backs_of : PlainShape → List Back
backs_of s = backs (start_of s) s.functions (length s.functions) s.entry

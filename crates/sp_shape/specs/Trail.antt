-- To be believed. The trail of a shape: what is run, in its order, which no input and no value changes.
use Rattle.std.specs.Prelude.{ℕ, zero, suc, ◌==◌, List, [], ◌∷◌, ◌++◌, length, map, slice_index_or, if◌then◌else◌}
use Rattle.patmos_instr.specs.Bundles.{PlainBundle}
use Rattle.sp_shape.specs.Parts.{PlainPart, straight, repeats, calls_to, leaves, PlainParts, no_part, part, PlainShape}

-- a bundle, or what a call does after its last delay slot: the function that it calls begins
pub data Step : Type 0 where
  does : PlainBundle → Step
  begins : Step

abbrev pub all_done : List PlainBundle → List Step
all_done bs = map does bs

-- a list, so many times
abbrev pub copies : {A : Type 0} → ℕ → List A → List A
copies zero xs = []
copies (suc n) xs = xs ++ copies n xs

-- over the trails of functions by their number: after a call and its delay slots comes the function that was called
abbrev mutual
  pub part_trail : (ℕ → List Step) → PlainPart → List Step
  part_trail f (straight bs) = all_done bs
  part_trail f (repeats count body tail) = copies count (parts_trail f body ++ all_done tail)
  part_trail f (calls_to k tail) = all_done tail ++ begins ∷ f k
  part_trail f (leaves tail) = all_done tail

  pub parts_trail : (ℕ → List Step) → PlainParts → List Step
  parts_trail f no_part = []
  parts_trail f (part p rest) = part_trail f p ++ parts_trail f rest

-- functions in order, each over the earlier ones; a number that none of the first so many has runs nothing
abbrev pub trails : List PlainParts → ℕ → ℕ → List Step
trails fs zero k = []
trails fs (suc n) k = if k == n then parts_trail (trails fs n) (slice_index_or fs n no_part) else trails fs n k

abbrev pub trail : PlainShape → List Step
trail s = trails s.functions (length s.functions) s.entry

-- To be believed. What takes effect after the bundles of a trail, and where it goes: no register says so.
use Rattle.std.specs.Prelude.{ℕ, zero, suc, ◌+◌, ◌==◌, List, [], ◌∷◌, ◌++◌, Option, None, length, slice_index_or, if◌then◌else◌}
use Rattle.patmos_instr.specs.Bundles.{PlainBundle}
use Rattle.patmos_model.specs.declared.flow.Goal.{Goal}
use Rattle.patmos_model.specs.declared.flow.Goal.TheVariants as goal
use Rattle.sp_shape.specs.Formed.{is_branch}
use Rattle.sp_shape.specs.Parts.{PlainPart, straight, repeats, calls_to, leaves, PlainParts, no_part, part, PlainShape}
use Rattle.sp_shape.specs.Run.{Back}
use Rattle.sp_shape.specs.Words.{bundles_words, part_words}
use Rattle.tc_link.specs.Backs.{back}
use Rattle.tc_link.specs.Placed.{start_of}
use Rattle.tc_link.specs.Walk.{due_in}

-- bundles without a flow
abbrev pub undue : List PlainBundle → List (Option Goal)
undue [] = []
undue (b ∷ bs) = None ∷ undue bs

-- a flow and its delay slots: it is due after the last of them
abbrev pub way_dues : Goal → List PlainBundle → List (Option Goal)
way_dues goal [] = []
way_dues goal (b ∷ bs) = due_in (length bs) goal ∷ way_dues goal bs

-- the tail of an iteration after which comes another
abbrev pub iteration_dues : Goal → List PlainBundle → List (Option Goal)
iteration_dues goal [] = []
iteration_dues goal (b ∷ bs) = if is_branch b.first.op then way_dues goal (b ∷ bs) else None ∷ iteration_dues goal bs

-- so many iterations, of their body, a tail, and the last one's
abbrev pub iterations_dues : List (Option Goal) → List (Option Goal) → List (Option Goal) → ℕ → List (Option Goal)
iterations_dues body again last zero = []
iterations_dues body again last (suc zero) = body ++ last
iterations_dues body again last (suc (suc n)) = (body ++ again) ++ iterations_dues body again last (suc n)

-- parts that stand at an offset of the function that starts at a place and returns to another, over those of
-- functions by their number and the place to which they return
abbrev mutual
  pub part_dues : (ℕ → ℕ) → (ℕ → Back → List (Option Goal)) → Back → ℕ → ℕ → PlainPart → List (Option Goal)
  part_dues start f home base at (straight bs) = undue bs
  part_dues start f home base at (repeats count body tail) =
      iterations_dues (parts_dues start f home base at body) (iteration_dues (goal.Within at) tail) (undue tail) count
  part_dues start f home base at (calls_to k tail) =
      way_dues (goal.Call (start k)) tail ++ f k (back base (at + bundles_words tail))
  part_dues start f home base at (leaves tail) = way_dues (goal.Return home.base home.offset) tail

  pub parts_dues : (ℕ → ℕ) → (ℕ → Back → List (Option Goal)) → Back → ℕ → ℕ → PlainParts → List (Option Goal)
  parts_dues start f home base at no_part = []
  parts_dues start f home base at (part p rest) =
      part_dues start f home base at p ++ parts_dues start f home base (at + part_words p) rest

-- functions in order, each over the earlier ones
abbrev pub dues : (ℕ → ℕ) → List PlainParts → ℕ → ℕ → Back → List (Option Goal)
dues start fs zero k home = []
dues start fs (suc n) k home =
    if k == n then parts_dues start (dues start fs n) home (start n) 0 (slice_index_or fs n no_part)
    else dues start fs n k home

abbrev pub dues_of : PlainShape → Back → List (Option Goal)
dues_of s home = dues (start_of s) s.functions (length s.functions) s.entry home

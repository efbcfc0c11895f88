-- What the events of a trail cost without the method cache: what its bundles take at most.
use Rattle.std.proofs.Common.{◌≡◌, ℕ, zero, suc, ◌+◌, ◌*◌, ◌≤◌, ◌==◌, if◌then◌else◌, Bool, true, false, List, [], ◌∷◌, ◌++◌, slice_index_or, Option, None, Some, refl, ap, ◌∙◌, arith}
use Rattle.patmos_code.specs.Images.{Parts}
use Rattle.patmos_instr.specs.Bundles.{PlainBundle}
use Rattle.patmos_instr.specs.declared.instructions.Op.{Op}
use Rattle.patmos_instr.specs.declared.instructions.Op.TheVariants.{Load, Store, Stack}
use Rattle.patmos_instr.specs.declared.memories.Mem.TheVariants as mem
use Rattle.patmos_model.specs.Site.{method_at}
use Rattle.patmos_model.specs.declared.flow.Goal.{Goal}
use Rattle.patmos_model.specs.declared.flow.Goal.TheVariants as goal
use Rattle.core_pace.specs.Pace.{Event, came}
use Rattle.sp_shape.specs.Parts.{PlainPart, straight, repeats, calls_to, leaves, PlainParts, no_part, part}
use Rattle.sp_shape.specs.Run.{first_load, other_loads}
use Rattle.sp_shape.specs.Trail.{Step, does, begins, all_done, copies, part_trail, parts_trail, trails}
use Rattle.cycle_bound.specs.Bound.{bundle_bound, bundles_bound, part_bound, parts_bound}
use Rattle.code_core.specs.Fixed.{kind_of, is_cached, fixed_events}
use Rattle.code_core.specs.Goes.{goal_events}
use Rattle.bound_persist.specs.Persist.{runs}
use Rattle.code_times.specs.Costs.{cost}
use Rattle.code_times.proofs.Bounded.{kind_cost}
use Rattle.code_persist.specs.Events.{bare, bares}

-- ---- what the events of a trail cost without the method cache

abbrev pub steps_bound : ℕ → List Step → ℕ
steps_bound each [] = 0
steps_bound each (does b ∷ steps) = bundle_bound each b + steps_bound each steps
steps_bound each (begins ∷ steps) = steps_bound each steps

kind_bare : (each address : ℕ) (op : Op) → bare each (kind_of op address) ≡ cost each (kind_of op address)
kind_bare each address (Load mem.S width rd ra imm) = refl
kind_bare each address (Load _ width rd ra imm) = refl
kind_bare each address (Store mem.S width ra rs imm) = refl
kind_bare each address (Store mem.L width ra rs imm) = refl
kind_bare each address (Store mem.C width ra rs imm) = refl
kind_bare each address (Store mem.M width ra rs imm) = refl
kind_bare each address (Stack func count) = refl
kind_bare each address _ = refl

module _ (image : Parts) (each : ℕ) where
  goal_bare : (d : Option Goal) (es : List Event) → bares each (goal_events image d ++ es) ≡ bares each es
  goal_bare None es = refl
  goal_bare (Some (goal.Within offset)) es = refl
  goal_bare (Some (goal.Call target)) es = omega arith
  goal_bare (Some (goal.Fill target)) es = omega arith
  goal_bare (Some (goal.Return base offset)) es = by (base == 0)
    where
      by : (b : Bool) → bares each ((if b then [] else came (method_at image base) ∷ []) ++ es) ≡ bares each es
      by true = refl
      by false = omega arith

  pub fixed_bare : (steps : List Step) (ds : List (Option Goal)) (addresses : List ℕ)
      → bares each (fixed_events image steps ds addresses) ≤ steps_bound each steps
  fixed_bare [] ds addresses = omega arith
  fixed_bare (does b ∷ steps) [] addresses = omega arith
  fixed_bare (does b ∷ steps) (d ∷ ds) addresses =
      let more : List ℕ = if is_cached b.first.op then other_loads addresses else addresses in
      let first = kind_bare each (first_load addresses) b.first.op ∙ kind_cost each (first_load addresses) b.first.op in
      let goals = goal_bare d (fixed_events image steps ds more) in
      let rest = fixed_bare steps ds more in
      omega (arith, first, goals, rest)
  fixed_bare (begins ∷ steps) ds addresses = fixed_bare steps ds addresses

-- ---- and that is what is counted where no fetch is

module _ (each : ℕ) where
  joined_bound : (xs ys : List Step) → steps_bound each (xs ++ ys) ≡ steps_bound each xs + steps_bound each ys
  joined_bound [] ys = omega arith
  joined_bound (does b ∷ xs) ys = let rest = joined_bound xs ys in omega (arith, rest)
  joined_bound (begins ∷ xs) ys = joined_bound xs ys

  done_bound : (bs : List PlainBundle) → steps_bound each (all_done bs) ≡ bundles_bound each bs
  done_bound [] = refl
  done_bound (b ∷ bs) = let rest = done_bound bs in omega (arith, rest)

  copies_bound : (count : ℕ) (xs : List Step) → steps_bound each (copies count xs) ≡ count * steps_bound each xs
  copies_bound zero xs = omega arith
  copies_bound (suc n) xs =
      let rest = copies_bound n xs in let e = joined_bound xs (copies n xs) in omega (arith, rest, e)

  module _ (own : ℕ) (f : ℕ → List Step) (g : ℕ → ℕ) (same : (k : ℕ) → steps_bound each (f k) ≡ g k) where
    mutual
      part_is : (p : PlainPart) → steps_bound each (part_trail f p) ≡ part_bound each (λ _. 0) g own p
      part_is (straight bs) = done_bound bs
      part_is (repeats count body tail) =
          copies_bound count (parts_trail f body ++ all_done tail)
          ∙ ap (λ n. count * n) (joined_bound (parts_trail f body) (all_done tail)
          ∙ (λ i. parts_is body i + done_bound tail i))
      part_is (calls_to k tail) = let parts = joined_bound (all_done tail) (begins ∷ f k) in let way =
          done_bound tail in let callee = same k in omega (arith, parts, way, callee)
      part_is (leaves tail) = done_bound tail

      parts_is : (ps : PlainParts) → steps_bound each (parts_trail f ps) ≡ parts_bound each (λ _. 0) g own ps
      parts_is no_part = refl
      parts_is (part p rest) = joined_bound (part_trail f p) (parts_trail f rest) ∙ (λ i. part_is p i + parts_is rest i)

  pub runs_is : (fs : List PlainParts) (n k : ℕ) → steps_bound each (trails fs n k) ≡ runs fs each n k
  runs_is fs zero k = refl
  runs_is fs (suc n) k = by (runs_is fs n) (k == n)
    where
      by : ((j : ℕ) → steps_bound each (trails fs n j) ≡ runs fs each n j) → (b : Bool)
          → steps_bound each (if b then parts_trail (trails fs n) (slice_index_or fs n no_part) else trails fs n k)
          ≡ (if b then parts_bound each (λ _. 0) (runs fs each n) n (slice_index_or fs n no_part) else
          runs fs each n k)
      by earlier true = parts_is n (trails fs n) (runs fs each n) earlier (slice_index_or fs n no_part)
      by earlier false = earlier k

-- Small shapes that fit, and a walk over one.
use Rattle.std.proofs.Common.{ℕ, zero, suc, ◌<◌, ◌≤◌, refl, arith, rules}
use Rattle.std.specs.List.{All}
use Rattle.std.proofs.lemmas.List.Elements.{All-from_recursion}
use Rattle.patmos_instr.specs.Bundles.{FitsBundle}
use Rattle.patmos_code.specs.declared.images.TheConstants.{MOST_IN_FUNCTION}
use Rattle.sp_shape.specs.Run.{by_words, run_late}
use Rattle.sp_shape.specs.Trail.{trail}
use Rattle.sp_shape.specs.Iterating.{ShapeIterations, back_of}
use Rattle.tc_link.specs.Dues.{dues_of}
use Rattle.tc_link.specs.Examples.{second_run, one_call, task_of}
use Rattle.tc_link.specs.Fits.{FitsImage}
use Rattle.tc_link.specs.Placed.{size_of, flat, linked}
use Rattle.tc_link.specs.Walk.{walk_from, Follows}
use Rattle.tc_link.proofs.Followed.{shape_followed}

each_small : (k : ℕ) → k < 2 → size_of second_run k ≤ MOST_IN_FUNCTION
each_small zero within = omega arith
each_small (suc zero) within = omega arith
each_small (suc (suc k)) within = absurd (omega (arith, within))

pub second_run_fits : FitsImage second_run
second_run_fits = record {
  small = each_small;
  within = omega arith;
  initial = omega arith;
  input_from = omega arith;
  input_room = omega arith;
}

-- ---- a walk

one_small : (k : ℕ) → k < 2 → size_of one_call k ≤ MOST_IN_FUNCTION
one_small zero within = omega arith
one_small (suc zero) within = omega arith
one_small (suc (suc k)) within = absurd (omega (arith, within))

one_fit : (k : ℕ) → k < 2 → All FitsBundle (flat one_call k)
one_fit zero within = All-from_recursion FitsBundle (flat one_call 0) (search rules)
one_fit (suc zero) within = All-from_recursion FitsBundle (flat one_call 1) (search rules)
one_fit (suc (suc k)) within = absurd (omega (arith, within))

one_iteration : ShapeIterations (run_late by_words) one_call (task_of one_call)
one_iteration = search rules

pub one_followed : Follows (linked one_call) by_words (trail one_call) (dues_of one_call (back_of (task_of one_call)))
    (walk_from 1 (task_of one_call))
one_followed =
    shape_followed one_call by_words (task_of one_call) refl
    (record {
      small = one_small;
      within = omega arith;
      initial = omega arith;
      input_from = omega arith;
      input_room = omega arith;
    }) one_fit
    (record { count = refl; pred_count = refl; zero = refl; always = refl }) refl one_iteration

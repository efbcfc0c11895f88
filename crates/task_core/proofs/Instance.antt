-- What is wanted of tasks can be met.
use Rattle.std.proofs.Common.{◌≡◌, ℕ, zero, suc, ◌<◌, ◌≤◌, [], ◌∷◌, refl, ap, arith}
use Rattle.std.specs.List.{All, Contains}
use Rattle.slot_arbiter.specs.declared.place.Place.{Place}
use Rattle.patmos_instr.specs.Bundles.{FitsBundle}
use Rattle.patmos_code.specs.declared.images.TheConstants.{MOST_IN_FUNCTION}
use Rattle.sp_tree.specs.Uses.{Use, sends_to}
use Rattle.tc_link.specs.Placed.{size_of, flat}
use Rattle.task_core.specs.Tasks.{code_of, IsRunnable, IsCode}
use Rattle.task_core.specs.Worked.{sender}
use Rattle.sp_emit.specs.Instructions.{number_op}
use Rattle.sp_emit.specs.Places.{flag_of, read_op, fetch_op, set_op, cleared_in, seek_op, match_op}
use Rattle.task_core.proofs.Ranges.{all_fit}

small : (k : ℕ) → k < 1 → size_of (code_of sender) k ≤ MOST_IN_FUNCTION
unfolding flag_of read_op fetch_op set_op cleared_in seek_op match_op number_op
small zero within = omega arith
small (suc k) within = absurd (omega (arith, within))

fit : (k : ℕ) → k < 1 → All FitsBundle (flat (code_of sender) k)
unfolding flag_of read_op fetch_op set_op cleared_in seek_op match_op number_op
fit zero within = all_fit (flat (code_of sender) 0) refl
fit (suc k) within = absurd (omega (arith, within))

pub sender_code : IsCode sender
unfolding flag_of read_op fetch_op set_op cleared_in seek_op match_op number_op
sender_code = record {
  formed = refl;
  fits = record {
    small = small;
    within = omega arith;
    initial = omega arith;
    input_from = omega arith;
    input_room = omega arith;
  };
  bundles = fit;
  initial = tt;
}

abbrev target_of : Use → ℕ
target_of (sends_to core) = core
target_of _ = 0

-- on the first of two cores
pub sender_runs : (place : Place) → place.cores ≡ 2 → place.core ≡ 0 → IsRunnable sender place
sender_runs place two first = record { formed = refl; stack = omega arith; few = omega (arith, two); targets = targets }
  where
    targets : (core : ℕ) → Contains (sends_to 1 ∷ []) (sends_to core) → (core < place.cores) × (core ≡ place.core → ⊥)
    targets core (zero, low, is) =
        let one : 1 ≡ core = ap target_of is in (omega (arith, one, two), λ same. omega (arith, one, first, same))
    targets core (suc k, low, is) = absurd (omega (arith, low))

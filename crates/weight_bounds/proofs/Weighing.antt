-- The code of a tree keeps to the weights and the counts of its functions.
use Rattle.std.proofs.Common.{◌≡◌, ℕ, ◌<◌, ◌≤◌, true, List, length, slice_index, slice_index_or, refl, sym, ◌∙◌, subst, arith}
use Rattle.sp_tree.specs.Cost.{cost}
use Rattle.sp_tree.specs.Formed.{is_formed}
use Rattle.sp_tree.specs.Statements.{PlainUnit, no_function}
use Rattle.sp_shape.specs.Parts.{no_part}
use Rattle.sp_emit.specs.Functions.{places_of, emitted}
use Rattle.sp_emit.proofs.Codes.{codes_at, codes_length}
use Rattle.sp_emit.proofs.Formed as emit_formed
use Rattle.sp_emit.proofs.Kept as emit
use Rattle.bundle_sched.specs.Scheduled.{scheduled}
use Rattle.bundle_sched.proofs.Kept as schedule
use Rattle.bundle_sched.proofs.WellFormed as schedule_formed
use Rattle.weight_bounds.proofs.Bounding.{IsFewOf, IsWeighed}
use Rattle.weight_bounds.proofs.Emission.{function_few}
use Rattle.weight_bounds.proofs.Scheduling.{scheduled_has_no_more}

module _ (u : PlainUnit) (weights : List ℕ) (formed : is_formed u ≡ true)
    (light : (k : ℕ) → k < length u.functions → cost (slice_index_or u.functions k no_function)
    ≤ slice_index weights k) where
  as_many : length (scheduled (emitted u)).functions ≡ length u.functions
  as_many = schedule.functions_stay (emitted u) ∙ codes_length u.functions

  few : (k : ℕ) → k < length u.functions → IsFewOf (slice_index_or u.functions k no_function) (slice_index_or
      (scheduled (emitted u)).functions k no_part)
  few k below =
      let f = slice_index_or u.functions k no_function in
      let ps = slice_index_or (emitted u).functions k no_part in
      let x = subst (IsFewOf f) (sym (codes_at u.functions k below)) (function_few (places_of u.functions k) f
      (emit.window u formed k below).parts) in
      let y = scheduled_has_no_more ps in
      subst (IsFewOf f) (sym (schedule.scheduled_at (emitted u) (scheduled (emitted u)) refl k))
      (record {
        iterations = omega (arith, x.iterations, y.iterations);
        calls = omega (arith, x.calls, y.calls);
        past = omega (arith, x.past, y.past);
      })

  pub tree_weighed : IsWeighed (scheduled (emitted u)) weights u.functions
  tree_weighed = record {
    formed = schedule_formed.formed_as (emitted u) (scheduled (emitted u)) refl
        (emit_formed.formed_as (emitted u) u refl formed)
        (λ k below. emit.idle_as (emitted u) u refl formed k (omega (arith, below, codes_length u.functions)));
    size = λ k below.
        (let there : k < length u.functions = omega (arith, below, as_many) in
        omega (
          arith,
          schedule.room_as (emitted u) (scheduled (emitted u)) refl k,
          emit.room_as (emitted u) u refl
              formed k there,
          light k there,
        ));
    few = λ k below. few k (omega (arith, below, as_many));
  }

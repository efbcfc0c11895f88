-- To be believed. The code of a task, and what is wanted of its tree, of its code and of the
-- platform so that no check of a core stops it.
use Rattle.std.specs.Prelude.{◌≡◌, ℕ, ◌+◌, ◌<◌, ◌≤◌, true, length}
use Rattle.std.specs.List.{All, Contains, AllByRecursion as Each}
use Rattle.slot_arbiter.specs.declared.place.Place.{Place}
use Rattle.stack_cache.specs.declared.stack.TheConstants.{STACK_END, STACK_LOWEST}
use Rattle.patmos_instr.specs.Bundles.{FitsBundle}
use Rattle.patmos_model.specs.Range.{IsWord}
use Rattle.sp_tree.specs.Formed.{is_formed}
use Rattle.sp_tree.specs.Statements.{PlainUnit}
use Rattle.sp_tree.specs.Uses.{sends_to, uses_of}
use Rattle.sp_shape.specs.Formed as shape
use Rattle.sp_shape.specs.Parts.{PlainShape}
use Rattle.sp_emit.specs.Chains.{chains}
use Rattle.sp_emit.specs.Functions.{emitted}
use Rattle.bundle_sched.specs.Scheduled.{scheduled}
use Rattle.core_pace.specs.Times.{Times}
use Rattle.code_times.specs.Times.{bound_at, times_at}
use Rattle.tc_link.specs.Fits.{FitsImage}
use Rattle.tc_link.specs.Placed.{flat}

-- the code of a task's tree
abbrev pub code_of : PlainUnit → PlainShape
code_of u = scheduled (emitted u)

-- the tree is well formed, its frames fit the stack, and it sends to other cores of the platform
pub record IsRunnable (u : PlainUnit) (place : Place) : Type 0 where
  pub formed : is_formed u ≡ true
  pub stack : STACK_LOWEST + chains u.functions (length u.functions) u.entry ≤ STACK_END
  pub few : place.cores ≤ 16
  pub targets : (core : ℕ) → Contains (uses_of u) (sends_to core) → (core < place.cores) × (core ≡ place.core → ⊥)

-- what the contracts of convert, emit, schedule and link tell of the code besides
pub record IsCode (u : PlainUnit) : Type 0 where
  pub formed : shape.is_formed (code_of u) ≡ true
  pub fits : FitsImage (code_of u)
  pub bundles : (k : ℕ) → k < length (code_of u).functions → All FitsBundle (flat (code_of u) k)
  pub initial : Each IsWord u.initial

-- the cycle by which the task has ended, and its times
abbrev pub bound_of : PlainUnit → Place → ℕ
bound_of u place = bound_at place (code_of u)

abbrev pub times_of : PlainUnit → Place → Times
times_of u place = times_at place (code_of u)

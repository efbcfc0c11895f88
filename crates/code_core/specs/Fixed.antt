-- To be believed. The events of a trail, told by nothing but the addresses of its loads by the data cache.
use Rattle.std.specs.Prelude.{◌≡◌, ℕ, ◌<◌, true, false, Bool, List, [], ◌∷◌, ◌++◌, Option, length, if◌then◌else◌}
use Rattle.std.specs.List.{All, AllByRecursion as Each}
use Rattle.slot_arbiter.specs.declared.place.Place.{Place}
use Rattle.patmos_code.specs.Images.{Parts}
use Rattle.patmos_instr.specs.Bundles.{FitsBundle}
use Rattle.patmos_instr.specs.declared.instructions.Op.{Op}
use Rattle.patmos_instr.specs.declared.instructions.Op.TheVariants.{Load, Store, Stack}
use Rattle.patmos_instr.specs.declared.memories.Mem.TheVariants as mem
use Rattle.patmos_sem.specs.Bundles.{effect_of}
use Rattle.patmos_sem.specs.declared.effects.Effect.{Effect}
use Rattle.patmos_sem.specs.declared.effects.Effect.TheVariants as effect
use Rattle.patmos_model.specs.declared.flow.Goal.{Goal}
use Rattle.patmos_model.specs.Apart.{site_of}
use Rattle.patmos_model.specs.Range.{IsWord, HasCode}
use Rattle.core_pace.specs.Pace.{Event, quick, load, cached, store, stack}
use Rattle.sp_shape.specs.Bundles.{is_steady, parts_all}
use Rattle.sp_shape.specs.Formed.{is_formed}
use Rattle.sp_shape.specs.Memory.{Memory}
use Rattle.sp_shape.specs.Parts.{PlainShape}
use Rattle.sp_shape.specs.Run.{Run, Sources, first_load, other_loads, late, run_late, begun, at_begin}
use Rattle.sp_shape.specs.Trail.{Step, does, begins, trail}
use Rattle.sp_shape.specs.Iterating.{ShapeIterations}
use Rattle.tc_link.specs.Backs.{backs_of}
use Rattle.tc_link.specs.Fits.{FitsImage}
use Rattle.tc_link.specs.Placed.{function, flat, linked}
use Rattle.code_core.specs.Goes.{by_stack, goal_events}
use Rattle.code_core.specs.Sound.{AreSound}

-- the event of an operation that is done, where it is a load by the data cache at this address
abbrev pub kind_of : Op → ℕ → Event
kind_of (Load mem.S width rd ra imm) address = quick
kind_of (Load mem.L width rd ra imm) address = quick
kind_of (Load mem.C width rd ra imm) address = cached address
kind_of (Load mem.M width rd ra imm) address = load
kind_of (Store mem.S width ra rs imm) address = quick
kind_of (Store mem.L width ra rs imm) address = quick
kind_of (Store mem.C width ra rs imm) address = store
kind_of (Store mem.M width ra rs imm) address = store
kind_of (Stack func count) address = stack func count
kind_of _ address = quick

abbrev pub is_cached : Op → Bool
is_cached (Load mem.C width rd ra imm) = true
is_cached _ = false

-- the address of a load by the data cache
abbrev pub cached_in : Effect → List ℕ
cached_in (effect.Load mem.C width rd address) = address ∷ []
cached_in _ = []

-- those of a trail that is read late
abbrev pub addresses_in : Sources → List Step → Run → List ℕ
addresses_in from [] m = []
addresses_in from (does b ∷ steps) m = cached_in (effect_of b m.regs) ++ addresses_in from steps (late from b m)
addresses_in from (begins ∷ steps) m = addresses_in from steps (begun m)

abbrev pub fixed_events : Parts → List Step → List (Option Goal) → List ℕ → List Event
fixed_events image [] ds addresses = []
fixed_events image (does b ∷ steps) [] addresses = []
fixed_events image (does b ∷ steps) (d ∷ ds) addresses =
    (kind_of b.first.op (first_load addresses) ∷ goal_events image d)
    ++ fixed_events image steps ds (if is_cached b.first.op then other_loads addresses else addresses)
fixed_events image (begins ∷ steps) ds addresses = fixed_events image steps ds addresses

-- what has transactions is always done
abbrev pub AreSteady : List Step → Type 0
AreSteady [] = Unit {0}
AreSteady (does b ∷ steps) = (is_steady b ≡ true) × AreSteady steps
AreSteady (begins ∷ steps) = AreSteady steps

-- ---- shapes

-- a shape that can be an image, of words, and whose transactions depend on no predicate
pub record IsLinkable (s : PlainShape) : Type 0 where
  pub formed : is_formed s ≡ true
  pub fits : FitsImage s
  pub bundles : (k : ℕ) → k < length s.functions → All FitsBundle (flat s k)
  pub steady : (k : ℕ) → k < length s.functions → parts_all is_steady (function s k) ≡ true
  pub words : HasCode (linked s)
  pub initial : Each IsWord s.initial

-- no word was set
abbrev pub no_memory : Memory
no_memory = record {
  scratch = λ _. 0;
  comm = λ _. 0;
  private = λ _. 0;
  shared = λ _. 0;
  source = λ _. 0;
  target = λ _. 0;
  starts = [];
}

abbrev pub begun_run : PlainShape → List ℕ → Run
begun_run s loads = at_begin no_memory loads (backs_of s)

-- whatever words stand in its memories and its loads from outside the stack give, it makes its iterations, asks for nothing
-- that a check stops, and loads by the data cache at these addresses
pub record Behaves (s : PlainShape) (place : Place) (addresses : List ℕ) : Type 0 where
  pub iterations : (memory : Memory) (loads : List ℕ) → Each IsWord loads
      → ShapeIterations (run_late by_stack) s (at_begin memory loads (backs_of s))
  pub sound : (memory : Memory) (loads : List ℕ) → Each IsWord loads
      → AreSound (site_of place (linked s)) by_stack (trail s) (at_begin memory loads (backs_of s))
  pub same : (memory : Memory) (loads : List ℕ) → Each IsWord loads
      → addresses_in by_stack (trail s) (at_begin memory loads (backs_of s)) ≡ addresses

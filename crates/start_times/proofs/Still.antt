-- What code may ask for does not depend on the start.
use Rattle.std.proofs.Common.{◌≡◌, ℕ, ◌==◌, ◌&&◌, not, nat_lt, List, [], ◌∷◌, Option, Some, ◌∙◌}
use Rattle.slot_arbiter.specs.declared.place.Place.{Place}
use Rattle.local_store.specs.declared.map.Cell.{Cell}
use Rattle.local_store.specs.declared.map.Cell.TheVariants as cell
use Rattle.patmos_instr.specs.declared.memories.Mem.TheVariants as mem
use Rattle.patmos_sem.specs.Bundles.{effect_of}
use Rattle.patmos_sem.specs.declared.effects.Effect.{Effect}
use Rattle.patmos_sem.specs.declared.effects.Effect.TheVariants as effect
use Rattle.patmos_model.specs.Apart.{site_of}
use Rattle.patmos_model.specs.Checks.{is_other}
use Rattle.patmos_model.specs.Site.{Site}
use Rattle.sp_shape.specs.Memory.{Memory, cell_of}
use Rattle.sp_shape.specs.Parts.{PlainShape}
use Rattle.sp_shape.specs.Pointers.{Pointers, pointers_of}
use Rattle.sp_shape.specs.Run.{Run, Sources, late, begun, at_begin}
use Rattle.sp_shape.specs.Trail.{Step, does, begins, trail}
use Rattle.tc_link.specs.Backs.{backs_of}
use Rattle.tc_link.specs.Placed.{linked}
use Rattle.code_core.specs.Fixed.{Behaves}
use Rattle.code_core.specs.Goes.{by_stack}
use Rattle.code_core.specs.Sound.{IsLocalStorable, IsSound, AreSound}
use Rattle.start_times.specs.Later.{IsSameCore}

module _ (site other : Site) (cores : other.cores ≡ site.cores) (core : other.core ≡ site.core) where
  storable_still : (m : Memory) (value : ℕ) (c : Option Cell) → IsLocalStorable site m value c
      → IsLocalStorable other m value c
  storable_still m value (Some (cell.Port target register)) h =
      let same : is_other other target ≡ is_other site target =
      λ i. nat_lt target (cores i) && not (target == core i) in
      (h.0, (same ∙ h.1.0, h.1.1))
  storable_still m value _ h = h

  sound_still : (e : Effect) (p : Pointers) (m : Memory) → IsSound site e p m → IsSound other e p m
  sound_still (effect.Load mem.S width rd address) p m h = h
  sound_still (effect.Load _ width rd address) p m h = h
  sound_still (effect.Store mem.L width address value) p m h =
      (h.0, h.1, storable_still m value (cell_of mem.L address) h.2)
  sound_still _ p m h = h

  all_still : (from : Sources) (steps : List Step) (m : Run) → AreSound site from steps m → AreSound other from steps m
  all_still from [] m h = h
  all_still from (does b ∷ steps) m h =
      (sound_still (effect_of b m.regs) (pointers_of m) m.memory h.0, all_still from steps (late from b m) h.1)
  all_still from (begins ∷ steps) m h = all_still from steps (begun m) h

-- code that behaves does so from each start
pub behaves_still : (place other : Place) (s : PlainShape) (addresses : List ℕ) → IsSameCore place other
    → Behaves s place addresses → Behaves s other addresses
behaves_still place other s addresses same behaves = record {
  iterations = behaves.iterations;
  sound = λ memory loads words.
      all_still (site_of place (linked s)) (site_of other (linked s)) same.cores same.core by_stack (trail s)
      (at_begin memory loads (backs_of s)) (behaves.sound memory loads words);
  same = behaves.same;
}

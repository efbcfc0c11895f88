-- A run whose loads give what it has itself is the run by words.
use Rattle.std.proofs.Common.{◌≡◌, ℕ, List, [], ◌∷◌, ◌++◌, Option, Some, refl, ap, ◌∙◌}
use Rattle.local_store.specs.declared.map.Cell.{Cell}
use Rattle.local_store.specs.declared.map.Cell.TheVariants as cell
use Rattle.patmos_instr.specs.declared.functions.StackFunc.TheVariants.{Sres, Sens, Sfree}
use Rattle.patmos_instr.specs.declared.memories.Mem.TheVariants as mem
use Rattle.patmos_sem.specs.Bundles.{after_bundle, effect_of, arrived}
use Rattle.patmos_sem.specs.Narrow.{picked}
use Rattle.patmos_sem.specs.declared.effects.Effect.{Effect}
use Rattle.patmos_sem.specs.declared.effects.Effect.TheVariants as effect
use Rattle.patmos_model.specs.Site.{Site}
use Rattle.sp_shape.specs.Memory.{Memory, cell_of, word_at}
use Rattle.sp_shape.specs.Pointers.{pointers_of}
use Rattle.sp_shape.specs.Run.{Run, by_words, first_load, other_loads, effected, late, run_late, begun}
use Rattle.sp_shape.specs.Trail.{Step, does, begins}
use Rattle.code_core.specs.Goes.{by_stack}
use Rattle.code_words.proofs.Saying.{IsOwnWord, IsBoardWord, OfLoad, OfLoads}
use Rattle.code_core.specs.Sound.{IsSound, AreSound, IsLocalLoadable, IsMainLoadable}

local_told : (place : Option Cell) (m : Memory) (value : ℕ) → IsLocalLoadable place → IsOwnWord place m value
    → IsBoardWord place m value → value ≡ word_at place m
local_told (Some (cell.Scratch word)) m value s own board = own
local_told (Some (cell.Comm word)) m value s own board = board
local_told _ m value s own board = absurd s

main_told : (place : Option Cell) (m : Memory) (value : ℕ) → IsMainLoadable place → IsOwnWord place m value
    → IsBoardWord place m value → value ≡ word_at place m
main_told (Some (cell.Private word)) m value s own board = own
main_told (Some (cell.Shared word)) m value s own board = board
main_told _ m value s own board = absurd s

effected_told : (site : Site) (e : Effect) (m : Run) → IsSound site e (pointers_of m) m.memory
    → OfLoad IsOwnWord e m.memory (first_load m.loads) → OfLoad IsBoardWord e m.memory (first_load m.loads)
    → effected by_stack e m ≡ effected by_words e m
effected_told site (effect.Load mem.L width rd address) m s own board =
    ap (λ v. record m {
      regs = arrived rd (picked width address v) m.regs;
      loads = other_loads m.loads;
      asked = m.asked
          ++ effect.Load mem.L width rd address ∷ [];
    }) (local_told (cell_of mem.L address) m.memory
    (first_load m.loads) s.2 own board)
effected_told site (effect.Load mem.C width rd address) m s own board =
    ap (λ v. record m {
      regs = arrived rd (picked width address v) m.regs;
      loads = other_loads m.loads;
      asked = m.asked
          ++ effect.Load mem.C width rd address ∷ [];
    }) (main_told (cell_of mem.C address) m.memory
    (first_load m.loads) s.2 own board)
effected_told site (effect.Load mem.M width rd address) m s own board =
    ap (λ v. record m {
      regs = arrived rd (picked width address v) m.regs;
      loads = other_loads m.loads;
      asked = m.asked
          ++ effect.Load mem.M width rd address ∷ [];
    }) (main_told (cell_of mem.M address) m.memory
    (first_load m.loads) s.2 own board)
effected_told site (effect.Store mem.S width address value) m s own board = refl
effected_told site (effect.Store _ width address value) m s own board = refl
effected_told site (effect.StackOp Sres count) m s own board = refl
effected_told site (effect.StackOp Sens count) m s own board = refl
effected_told site (effect.StackOp Sfree count) m s own board = refl
effected_told site _ m s own board = refl

pub told : (site : Site) (steps : List Step) (m : Run) → AreSound site by_stack steps m
    → OfLoads IsOwnWord by_stack steps m → OfLoads IsBoardWord by_stack steps m → run_late by_stack steps m
    ≡ run_late by_words steps m
told site [] m s own board = refl
told site (does b ∷ steps) m s own board =
    told site steps (late by_stack b m) s.1 own.1 board.1
    ∙ ap (run_late by_words steps) (effected_told site (effect_of b m.regs)
    (record m { regs = after_bundle m.st m.ss b m.regs }) s.0 own.0 board.0)
told site (begins ∷ steps) m s own board = told site steps (begun m) s own board

-- by words, the list of what loads give is nothing but popped
pub record ButLoads (m t : Run) : Type 0 where
  pub loads : List ℕ
  pub is : m ≡ record t { loads = loads }

effected_but : (e : Effect) (m : Run) (loads : List ℕ) → ButLoads (effected by_words e (record m { loads = loads }))
    (effected by_words e m)
effected_but effect.Nothing m loads = record { loads = loads; is = refl }
effected_but (effect.Flow flow) m loads = record { loads = loads; is = refl }
effected_but (effect.Load mem.S width rd address) m loads = record { loads = other_loads loads; is = refl }
effected_but (effect.Load _ width rd address) m loads = record { loads = other_loads loads; is = refl }
effected_but (effect.Store mem.S width address value) m loads = record { loads = loads; is = refl }
effected_but (effect.Store mem.L width address value) m loads = record { loads = loads; is = refl }
effected_but (effect.Store mem.C width address value) m loads = record { loads = loads; is = refl }
effected_but (effect.Store mem.M width address value) m loads = record { loads = loads; is = refl }
effected_but (effect.StackOp Sres count) m loads = record { loads = loads; is = refl }
effected_but (effect.StackOp Sens count) m loads = record { loads = loads; is = refl }
effected_but (effect.StackOp Sfree count) m loads = record { loads = loads; is = refl }

pub but_loads : (steps : List Step) (m : Run) (loads : List ℕ)
    → ButLoads (run_late by_words steps (record m { loads = loads })) (run_late by_words steps m)
but_loads [] m loads = record { loads = loads; is = refl }
but_loads (does b ∷ steps) m loads =
    let one = effected_but (effect_of b m.regs) (record m { regs = after_bundle m.st m.ss b m.regs }) loads in
    let rest = but_loads steps (late by_words b m) one.loads in
    record { loads = rest.loads; is = ap (run_late by_words steps) one.is ∙ rest.is }
but_loads (begins ∷ steps) m loads = but_loads steps (begun m) loads

-- For proofs. What a trail that is read late asks for, bundle by bundle.
use Rattle.std.specs.Prelude.{ℕ, List, [], ◌∷◌, ◌++◌, Option, Some}
use Rattle.local_store.specs.declared.map.Cell.{Cell}
use Rattle.local_store.specs.declared.map.Cell.TheVariants as cell
use Rattle.patmos_instr.specs.declared.memories.Mem.TheVariants as mem
use Rattle.patmos_sem.specs.Bundles.{effect_of}
use Rattle.patmos_sem.specs.declared.effects.Effect.{Effect}
use Rattle.patmos_sem.specs.declared.effects.Effect.TheVariants as effect
use Rattle.patmos_model.specs.Site.{Site}
use Rattle.sp_shape.specs.Memory.{Memory, cell_of}
use Rattle.sp_shape.specs.Run.{Run, Sources, late, begun}
use Rattle.sp_shape.specs.Trail.{Step, does, begins}
use Rattle.code_core.specs.Sound.{IsLocalStorable}

-- a load, a store or a stack instruction
abbrev pub asked_of : Effect → List Effect
asked_of effect.Nothing = []
asked_of (effect.Flow flow) = []
asked_of (effect.Load space width rd address) = effect.Load space width rd address ∷ []
asked_of (effect.Store space width address value) = effect.Store space width address value ∷ []
asked_of (effect.StackOp func count) = effect.StackOp func count ∷ []

abbrev pub asks_in : Sources → List Step → Run → List Effect
asks_in from [] m = []
asks_in from (does b ∷ steps) m = asked_of (effect_of b m.regs) ++ asks_in from steps (late from b m)
asks_in from (begins ∷ steps) m = asks_in from steps (begun m)

-- what is stored in a register of the interface can be
abbrev pub MaySendAt : Site → Memory → ℕ → Option Cell → Type 0
MaySendAt site m value (Some (cell.Port core register)) = IsLocalStorable site m value (Some (cell.Port core register))
MaySendAt site m value _ = Unit {0}

abbrev pub MaySend : Site → Effect → Memory → Type 0
MaySend site (effect.Store mem.L width address value) m = MaySendAt site m value (cell_of mem.L address)
MaySend site _ m = Unit {0}

abbrev pub AllSend : Site → Sources → List Step → Run → Type 0
AllSend site from [] m = Unit {0}
AllSend site from (does b ∷ steps) m =
    MaySend site (effect_of b m.regs) m.memory × AllSend site from steps (late from b m)
AllSend site from (begins ∷ steps) m = AllSend site from steps (begun m)

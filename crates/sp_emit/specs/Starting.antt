-- To be believed. A transfer over the network is started only as the registers that were set for it allow.
use Rattle.std.specs.Prelude.{◌≡◌, ℕ, ◌<◌, ◌^◌, true, List, [], ◌∷◌, Option, Some}
use Rattle.c_world.specs.World.{may_start}
use Rattle.local_store.specs.declared.map.Cell.{Cell}
use Rattle.local_store.specs.declared.map.Cell.TheVariants.{Port}
use Rattle.patmos_instr.specs.declared.memories.Mem.TheVariants as mem
use Rattle.patmos_sem.specs.Bundles.{effect_of}
use Rattle.patmos_sem.specs.declared.effects.Effect.{Effect}
use Rattle.patmos_sem.specs.declared.effects.Effect.TheVariants as effect
use Rattle.sp_shape.specs.Memory.{Memory, cell_of}
use Rattle.sp_shape.specs.Run.{Run, Sources, once, begun}
use Rattle.sp_shape.specs.Trail.{Step, does, begins}
use Rattle.sp_emit.specs.Holding.{held}

abbrev pub StartsAt : Memory → ℕ → Option Cell → Type 0
StartsAt m value (Some (Port core register)) = register ≡ 8 → may_start (m.source core) (m.target core) value ≡ true
StartsAt m value _ = Unit {0}

abbrev pub StartsWell : Effect → Memory → Type 0
StartsWell (effect.Store mem.L width address value) m = StartsAt m value (cell_of mem.L address)
StartsWell _ m = Unit {0}

abbrev pub AllStart : Sources → List Step → Run → Type 0
AllStart from [] m = Unit {0}
AllStart from (does b ∷ steps) m = StartsWell (effect_of b m.regs) m.memory × AllStart from steps (once from b m)
AllStart from (begins ∷ steps) m = AllStart from steps (begun m)

-- each register holds a word before each bundle
abbrev pub AllWords : Sources → List Step → Run → Type 0
AllWords from [] m = Unit {0}
AllWords from (does b ∷ steps) m = ((r : ℕ) → held r m < 2 ^ 32) × AllWords from steps (once from b m)
AllWords from (begins ∷ steps) m = AllWords from steps (begun m)

-- To be believed. What a bundle may ask for so that no check of a core stops it, told of the
-- run alone; and what the loads of a core gave.
use Rattle.std.specs.Prelude.{◌≡◌, ℕ, suc, ◌+◌, ◌%◌, ◌<◌, ◌==◌, ◌&&◌, nat_lt, nat_le, Bool, true, false, List, [], ◌∷◌, Option, None, Some}
use Rattle.stack_cache.specs.declared.stack.TheConstants.{STACK_LOWEST}
use Rattle.local_store.specs.declared.map.Cell.{Cell}
use Rattle.local_store.specs.declared.map.Cell.TheVariants as cell
use Rattle.patmos_instr.specs.declared.memories.Mem.TheVariants as mem
use Rattle.patmos_instr.specs.declared.memories.Width.TheVariants as load
use Rattle.patmos_instr.specs.declared.memories.StoreWidth.TheVariants as store
use Rattle.patmos_sem.specs.Bundles.{effect_of}
use Rattle.patmos_sem.specs.Effects.{width_bytes, store_bytes}
use Rattle.patmos_sem.specs.declared.effects.Effect.{Effect}
use Rattle.patmos_sem.specs.declared.effects.Effect.TheVariants as effect
use Rattle.local_store.specs.declared.map.TheConstants.{COMM_WORDS}
use Rattle.patmos_model.specs.Checks.{is_other}
use Rattle.patmos_model.specs.Site.{Site}
use Rattle.sp_shape.specs.Memory.{Memory, cell_of}
use Rattle.sp_shape.specs.Pointers.{Pointers, pointers_of, IsWithinStack}
use Rattle.sp_shape.specs.Run.{Run, Sources, late, begun}
use Rattle.sp_shape.specs.Trail.{Step, does, begins}

-- a word that a task's own load may name: no register of the interface
abbrev pub IsLocalLoadable : Option Cell → Type 0
IsLocalLoadable None = ⊥
IsLocalLoadable (Some (cell.Scratch word)) = Unit {0}
IsLocalLoadable (Some (cell.Comm word)) = Unit {0}
IsLocalLoadable (Some (cell.Port core register)) = ⊥
IsLocalLoadable (Some (cell.Private word)) = ⊥
IsLocalLoadable (Some (cell.Shared word)) = ⊥

abbrev pub IsMainLoadable : Option Cell → Type 0
IsMainLoadable None = ⊥
IsMainLoadable (Some (cell.Scratch word)) = ⊥
IsMainLoadable (Some (cell.Comm word)) = ⊥
IsMainLoadable (Some (cell.Port core register)) = ⊥
IsMainLoadable (Some (cell.Private word)) = Unit {0}
IsMainLoadable (Some (cell.Shared word)) = Unit {0}

-- so many words can be sent by the registers that were set for a core
abbrev pub may_send : Memory → ℕ → ℕ → Bool
may_send m core count =
    nat_lt 0 count && nat_le (m.source core + count) COMM_WORDS && nat_le (m.target core + count) COMM_WORDS

-- a word that its store may name: a register of the interface for another core; of private memory none of the stack's
abbrev pub IsLocalStorable : Site → Memory → ℕ → Option Cell → Type 0
IsLocalStorable site m value None = ⊥
IsLocalStorable site m value (Some (cell.Scratch word)) = Unit {0}
IsLocalStorable site m value (Some (cell.Comm word)) = Unit {0}
IsLocalStorable site m value (Some (cell.Port core register)) =
    (core < 16) × ((is_other site core ≡ true)
    × (((register == 12) ≡ false) × (((register == 8) ≡ true → may_send m core value ≡ true))))
IsLocalStorable site m value (Some (cell.Private word)) = ⊥
IsLocalStorable site m value (Some (cell.Shared word)) = ⊥

abbrev pub IsMainStorable : Option Cell → Type 0
IsMainStorable None = ⊥
IsMainStorable (Some (cell.Scratch word)) = ⊥
IsMainStorable (Some (cell.Comm word)) = ⊥
IsMainStorable (Some (cell.Port core register)) = ⊥
IsMainStorable (Some (cell.Private word)) = word < STACK_LOWEST
IsMainStorable (Some (cell.Shared word)) = Unit {0}

-- what may be asked for at a place, with the stack's pointers and the registers of the interface that were set
abbrev pub IsSound : Site → Effect → Pointers → Memory → Type 0
IsSound site effect.Nothing p m = Unit {0}
IsSound site (effect.Flow kind) p m = Unit {0}
IsSound site (effect.Load mem.S width rd address) p m =
    (address % width_bytes width ≡ 0) × IsWithinStack (effect.Load mem.S width rd address) p
IsSound site (effect.Load mem.L width rd address) p m =
    (width ≡ load.Word) × (address % 4 ≡ 0) × IsLocalLoadable (cell_of mem.L address)
IsSound site (effect.Load space width rd address) p m =
    (width ≡ load.Word) × (address % 4 ≡ 0) × IsMainLoadable (cell_of space address)
IsSound site (effect.Store mem.S width address value) p m =
    (address % store_bytes width ≡ 0) × IsWithinStack (effect.Store mem.S width address value) p
IsSound site (effect.Store mem.L width address value) p m =
    (width ≡ store.Word) × (address % 4 ≡ 0) × IsLocalStorable site m value (cell_of mem.L address)
IsSound site (effect.Store space width address value) p m =
    (width ≡ store.Word) × (address % 4 ≡ 0) × IsMainStorable (cell_of space address)
IsSound site (effect.StackOp func count) p m = IsWithinStack (effect.StackOp func count) p

-- each bundle of a trail, where it is read late
abbrev pub AreSound : Site → Sources → List Step → Run → Type 0
AreSound site from [] m = Unit {0}
AreSound site from (does b ∷ steps) m =
    IsSound site (effect_of b m.regs) (pointers_of m) m.memory × AreSound site from steps (late from b m)
AreSound site from (begins ∷ steps) m = AreSound site from steps (begun m)

-- how many bundles there are
abbrev pub bundles_in : List Step → ℕ
bundles_in [] = 0
bundles_in (does b ∷ steps) = suc (bundles_in steps)
bundles_in (begins ∷ steps) = bundles_in steps

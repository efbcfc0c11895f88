-- To be believed. The words that only the core itself can reach, against a run's: the scratchpad, private memory below
-- the stack, and the lines of the data cache, which hold what memory holds at the addresses that are loaded by it.
use Rattle.std.specs.Prelude.{◌≡◌, ℕ, ◌/◌, ◌<◌, Option, Some, List, [], ◌∷◌, map}
use Rattle.data_cache.specs.Accesses as cache
use Rattle.local_store.specs.declared.map.Cell.{Cell}
use Rattle.local_store.specs.declared.map.Cell.TheVariants as cell
use Rattle.stack_cache.specs.declared.stack.TheConstants.{STACK_LOWEST}
use Rattle.patmos_instr.specs.declared.memories.Mem.TheVariants as mem
use Rattle.patmos_sem.specs.Bundles.{effect_of}
use Rattle.patmos_sem.specs.declared.effects.Effect.{Effect}
use Rattle.patmos_sem.specs.declared.effects.Effect.TheVariants as effect
use Rattle.patmos_model.specs.State.{Core, Sending}
use Rattle.sp_shape.specs.Memory.{Memory, Start, cell_of}
use Rattle.sp_shape.specs.Run.{Run, Sources, late, begun}
use Rattle.sp_shape.specs.Trail.{Step, does, begins}

-- a transfer that was started, as the core keeps it
abbrev pub sending_of : Start → Sending
sending_of s = record { target = s.core; from = s.source; to = s.target; count = s.count }

-- over the addresses that are loaded by the data cache; and the transfers that it started
pub record HoldsOwn (Cached : ℕ → Type 0) (m : Memory) (c : Core) : Type 0 where
  pub scratch : (word : ℕ) → c.plain.scratch word ≡ m.scratch word
  pub private : (word : ℕ) → word < STACK_LOWEST → c.plain.private word ≡ m.private word
  pub fresh : (address word : ℕ) → Cached address → cache.cached_word c.seen.cached address ≡ Some word
      → word ≡ c.plain.private (address / 4)
  pub sent : c.seen.sendings ≡ map sending_of m.starts

-- those addresses are of private words below the stack
abbrev pub AreOwn : (ℕ → Type 0) → Type 0
AreOwn Cached = (address : ℕ) → Cached address → address / 4 < STACK_LOWEST

-- a word that may be loaded past the data cache, and stored past it
abbrev pub IsBelow : Option Cell → Type 0
IsBelow (Some (cell.Private word)) = word < STACK_LOWEST
IsBelow _ = Unit {0}

abbrev pub IsUncached : (ℕ → Type 0) → Option Cell → Type 0
IsUncached Cached (Some (cell.Private word)) = (address : ℕ) → Cached address → address / 4 ≡ word → ⊥
IsUncached Cached _ = Unit {0}

abbrev pub KeepsApart : (ℕ → Type 0) → Effect → Type 0
KeepsApart Cached (effect.Load mem.C width rd address) = Cached address
KeepsApart Cached (effect.Load mem.M width rd address) = IsBelow (cell_of mem.M address)
KeepsApart Cached (effect.Store mem.C width address value) = address / 4 < STACK_LOWEST
KeepsApart Cached (effect.Store mem.M width address value) = IsUncached Cached (cell_of mem.M address)
KeepsApart Cached _ = Unit {0}

-- each bundle of a trail, read late, asks for what passes
abbrev pub AllPass : (Effect → Type 0) → Sources → List Step → Run → Type 0
AllPass Passes from [] m = Unit {0}
AllPass Passes from (does b ∷ steps) m = Passes (effect_of b m.regs) × AllPass Passes from steps (late from b m)
AllPass Passes from (begins ∷ steps) m = AllPass Passes from steps (begun m)

abbrev pub AllApart : (ℕ → Type 0) → Sources → List Step → Run → Type 0
AllApart Cached = AllPass (KeepsApart Cached)

-- To be believed. What the code of a task may ask for: outside the stack it reads and stores whole words of the
-- variables and arrays that the tree names, word 0 of a memory in the place of an element past the end, word 0 of main
-- memory in the place of what is masked, and it sets the registers of the interface for cores that the tree sends to.
use Rattle.std.specs.Prelude.{◌≡◌, ℕ, true, ◌+◌, ◌*◌, ◌%◌, ◌<◌, ◌⊎◌, List, [], ◌∷◌, ◌++◌}
use Rattle.std.specs.List.{All}
use Rattle.patmos_instr.specs.declared.memories.Mem.{Mem}
use Rattle.patmos_instr.specs.declared.memories.Mem.TheVariants as mem
use Rattle.patmos_instr.specs.declared.memories.StoreWidth.{StoreWidth}
use Rattle.patmos_instr.specs.declared.memories.StoreWidth.TheVariants as store
use Rattle.patmos_instr.specs.declared.memories.Width.{Width}
use Rattle.patmos_instr.specs.declared.memories.Width.TheVariants as load
use Rattle.patmos_sem.specs.declared.effects.Effect.{Effect}
use Rattle.patmos_sem.specs.declared.effects.Effect.TheVariants as effect
use Rattle.sp_tree.specs.Formed.{cell_formed, array_formed}
use Rattle.sp_tree.specs.Uses.{Use, reads_cell, reads_array, writes_cell, writes_array, sends_to}
use Rattle.sp_tree.specs.declared.expressions.SpArray.{SpArray}
use Rattle.sp_tree.specs.declared.expressions.SpCell.{SpCell}
use Rattle.sp_shape.specs.Run.{Run, IsWhole, Sources, run}
use Rattle.sp_shape.specs.Trail.{Step}
use Rattle.sp_emit.specs.Expressions.{address_of, cell_space, array_space}
use Rattle.sp_emit.specs.Starting.{AllStart, AllWords}

-- ---- places

-- the space and the address of a variable, which lies where variables stand
pub record IsVariable (c : SpCell) (space : Mem) (address : ℕ) : Type 0 where
  pub formed : cell_formed c ≡ true
  pub space_is : space ≡ cell_space c.region
  pub address_is : address ≡ address_of c.region c.word

-- of an element of an array
pub record IsElement (a : SpArray) (space : Mem) (address : ℕ) : Type 0 where
  pub formed : array_formed a ≡ true
  pub index : ℕ
  pub within : index < a.length
  pub space_is : space ≡ array_space a.region
  pub address_is : address ≡ address_of a.region (a.first + index)

-- of word 0, which is taken in the place of an element past the end
pub record IsNoElement (a : SpArray) (space : Mem) (address : ℕ) : Type 0 where
  pub space_is : space ≡ array_space a.region
  pub address_is : address ≡ 0

-- of word 0 of main memory, past the data cache or by it
pub record IsSpare (space : Mem) (address : ℕ) : Type 0 where
  pub space_is : (space ≡ mem.C) ⊎ (space ≡ mem.M)
  pub address_is : address ≡ 0

-- of a register of the interface for a core: source, target or count
pub record IsPort (core : ℕ) (space : Mem) (address : ℕ) : Type 0 where
  pub register : ℕ
  pub within : register < 3
  pub space_is : space ≡ mem.L
  pub address_is : address ≡ 0x20000 + 16 * core + 4 * register

-- ---- loads and stores, where these uses are named

abbrev pub IsReadPlace : (Use → Type 0) → Mem → ℕ → Type 0
IsReadPlace Named space address =
    ((c : SpCell) × Named (reads_cell c) × IsVariable c space address)
    ⊎ (((a : SpArray) × Named (reads_array a) × IsElement a space address)
    ⊎ ((a : SpArray) × Named (reads_array a) × IsNoElement a space address))

abbrev pub IsStoredPlace : (Use → Type 0) → Mem → ℕ → Type 0
IsStoredPlace Named space address =
    ((c : SpCell) × Named (writes_cell c) × IsVariable c space address)
    ⊎ (((a : SpArray) × Named (writes_array a) × IsElement a space address)
    ⊎ (IsSpare space address ⊎ ((core : ℕ) × Named (sends_to core) × IsPort core space address)))

abbrev pub MayLoad : (Use → Type 0) → Mem → Width → ℕ → Type 0
MayLoad Named mem.S width address = (width ≡ load.Word) × (address % 4 ≡ 0)
MayLoad Named mem.L width address = (width ≡ load.Word) × IsReadPlace Named mem.L address
MayLoad Named mem.C width address = (width ≡ load.Word) × IsReadPlace Named mem.C address
MayLoad Named mem.M width address = (width ≡ load.Word) × IsReadPlace Named mem.M address

abbrev pub MayStore : (Use → Type 0) → Mem → StoreWidth → ℕ → Type 0
MayStore Named mem.S width address = (width ≡ store.Word) × (address % 4 ≡ 0)
MayStore Named mem.L width address = (width ≡ store.Word) × IsStoredPlace Named mem.L address
MayStore Named mem.C width address = (width ≡ store.Word) × IsStoredPlace Named mem.C address
MayStore Named mem.M width address = (width ≡ store.Word) × IsStoredPlace Named mem.M address

abbrev pub MayAsk : (Use → Type 0) → Effect → Type 0
MayAsk Named (effect.Load space width rd address) = MayLoad Named space width address
MayAsk Named (effect.Store space width address value) = MayStore Named space width address
MayAsk Named _ = Unit {0}

-- ---- loads by the data cache

abbrev pub cached_address : Effect → List ℕ
cached_address (effect.Load mem.C width rd address) = address ∷ []
cached_address _ = []

-- their addresses, in their order
abbrev pub cached_addresses : List Effect → List ℕ
cached_addresses [] = []
cached_addresses (e ∷ es) = cached_address e ++ cached_addresses es

-- ---- what a run has asked for more, beside the stack only what it may; and at which addresses by the data cache

pub record Asks (Named : Use → Type 0) (cached : List ℕ) (m t : Run) : Type 0 where
  pub news : List Effect
  pub is : t.asked ≡ m.asked ++ news
  pub may : All (MayAsk Named) news
  pub loads : cached_addresses news ≡ cached

-- steps that ask for no more than they may, and load by the data cache at the same addresses, from each state and
-- whatever loads give; and, where registers hold words, start a transfer only where its registers allow it
pub record AsksOnly (Named : Use → Type 0) (steps : List Step) : Type 0 where
  pub cached : List ℕ
  pub asks : (from : Sources) (m : Run) → IsWhole m → Asks Named cached m (run from steps m)
  pub starts : (from : Sources) (m : Run) → IsWhole m → AllWords from steps m → AllStart from steps m

-- To be believed. Ranges of a core: what it holds are words of 32 bits, and its interface's transfers lie within the
-- communication memories.
use Rattle.std.specs.Prelude.{ℕ, ◌≡◌, ◌<◌, ◌≤◌, ◌^◌, Option, None, Some, slice_index, IfSome}
use Rattle.std.specs.List.{AllByRecursion as Each}
use Rattle.data_cache.specs.Accesses as cache
use Rattle.argo_ni.specs.Packet.{comm_word}
use Rattle.argo_ni.specs.Range as ni
use Rattle.patmos_instr.specs.Bundles.{PlainBundle}
use Rattle.patmos_instr.specs.declared.instructions.Op.{Op}
use Rattle.patmos_instr.specs.declared.instructions.Op.TheVariants.{AluImm, AluLong}
use Rattle.patmos_code.specs.Images.{Parts}
use Rattle.patmos_sem.specs.declared.pending.Pending.{Pending}
use Rattle.patmos_sem.specs.declared.pending.Pending.TheVariants as pending
use Rattle.patmos_sem.specs.Registers.{Registers, word_in}
use Rattle.patmos_model.specs.declared.pending_store.PendingStore.{PendingStore}
use Rattle.patmos_model.specs.declared.transfer.Then.{Then}
use Rattle.patmos_model.specs.declared.transfer.Then.TheVariants as then_on
use Rattle.patmos_model.specs.Site.{Site}
use Rattle.patmos_model.specs.State.{Plain, Core}
use Rattle.patmos_model.specs.Cells.{Acted}

-- a word of 32 bits
abbrev pub IsWord : ℕ → Type 0
IsWord word = word < 2 ^ 32

-- what is on its way into a register is words
abbrev pub PendingFits : Pending → Type 0
PendingFits pending.Nothing = Unit {0}
PendingFits (pending.Value rd value) = IsWord value
PendingFits (pending.Product low high) = IsWord low × IsWord high

-- the registers hold words
pub record HasWords (regs : Registers) : Type 0 where
  pub general : (r : ℕ) → IsWord (word_in regs r)
  pub sl : IsWord regs.sl
  pub sh : IsWord regs.sh
  pub srb : IsWord regs.srb
  pub sro : IsWord regs.sro
  pub pending : PendingFits regs.pending

-- the constant of an operation, or 0 where it has none
abbrev pub constant_of : Op → ℕ
constant_of (AluImm func rd ra imm) = imm
constant_of (AluLong func rd ra constant) = constant
constant_of _ = 0

-- the constants of a bundle are words
pub record ConstantsFit (b : PlainBundle) : Type 0 where
  pub first : IsWord (constant_of b.first.op)
  pub second : IfSome b.second (λ i. IsWord (constant_of i.op))

-- a cached access is one of words
abbrev pub AccessFits : cache.Access → Type 0
AccessFits (cache.Load address None) = Unit {0}
AccessFits (cache.Load address (Some words)) = Each IsWord words
AccessFits (cache.Store address value) = IsWord value

-- what is stored once words have moved is a word
abbrev pub ThenFits : Then → Type 0
ThenFits (then_on.Store cached width address value) = IsWord value
ThenFits _ = Unit {0}

-- the code is words, and its functions start at places that a word can tell
pub record HasCode (image : Parts) : Type 0 where
  pub words : (place : ℕ) → IsWord (slice_index image.words place)
  pub starts : Each IsWord image.starts

-- a core can begin at the site: it is one of the cores of a board of so many words, and its code is words
pub record SiteFits (words : ℕ) (site : Site) : Type 0 where
  pub among : site.core < site.cores
  pub room : comm_word site.cores 0 ≤ words
  pub code : HasCode site.image

-- the plain part of a core in range, on a board of so many words
pub record PlainFits (words : ℕ) (x : Plain) : Type 0 where
  pub room : comm_word x.site.cores 0 ≤ words
  pub code : HasCode x.site.image
  pub regs : HasWords x.regs
  pub stack : Each IsWord x.stack.words
  pub scratch : (word : ℕ) → IsWord (x.scratch word)
  pub private : (word : ℕ) → IsWord (x.private word)
  pub interface : ni.InRange x.interface
  pub core : x.interface.core ≡ x.site.core
  pub cores : x.interface.cores ≡ x.site.cores
  pub base : IsWord x.base
  pub offset : IsWord x.offset
  pub transfer : ThenFits x.transfer.then

-- a core in range
pub record InRange (words : ℕ) (c : Core) : Type 0 where
  pub plain : PlainFits words c.plain
  pub cached : Each AccessFits c.seen.cached

-- what a core still has to store is in range
abbrev pub PendingStoreFits : ℕ → Option PendingStore → Type 0
PendingStoreFits words pending_store = IfSome pending_store (λ o. (o.word < words) × IsWord o.value)

pub record ActedFits (words : ℕ) (a : Acted) : Type 0 where
  pub core : InRange words a.core
  pub pending_store : PendingStoreFits words a.pending_store

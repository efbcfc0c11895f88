-- To be believed. What the core may do at a point of its run.
use Rattle.std.specs.Prelude.{◌≡◌, ℕ, ◌+◌, ◌*◌, ◌%◌, ◌≤◌, ◌<◌, ◌≢◌, true, None, Option, IfSome}
use Rattle.slot_arbiter.specs.declared.place.TheConstants.{MOST_CYCLES}
use Rattle.slot_arbiter.specs.declared.place.Place.{Place}
use Rattle.local_store.specs.declared.store.TheConstants.{PRIVATE_WORDS}
use Rattle.local_store.specs.declared.map.Cell.{Cell}
use Rattle.local_store.specs.declared.map.Cell.TheVariants as cell
use Rattle.local_store.specs.Map.{IsInRange}
use Rattle.argo_ni.specs.Interface.{Interface, Standing, port_to}
use Rattle.argo_ni.specs.Turn.{acts}
use Rattle.argo_ni.specs.Event.{IsPast}
use Rattle.patmos_sem.specs.declared.effects.Effect.{Effect}
use Rattle.patmos_sem.specs.declared.effects.Effect.TheVariants as effect
use Rattle.patmos_sem.specs.declared.pending.Pending.TheVariants as pending
use Rattle.patmos_sem.specs.Effects.{width_bytes, store_bytes}
use Rattle.patmos_sem.specs.Registers.{Registers}
use Rattle.argo_ni.specs.Packet.{comm_word}
use Rattle.patmos_model.specs.declared.pending_store.PendingStore.{PendingStore}
use Rattle.patmos_model.specs.declared.transfer.Then.{Then}
use Rattle.patmos_model.specs.declared.transfer.Then.TheVariants as moved
use Rattle.patmos_step.specs.declared.body.Body.{Body}
use Rattle.patmos_model.specs.State.{Plain}
use Rattle.patmos_model.specs.Checks.{load_fault, store_fault, has_room}

-- another core of the platform
pub record IsOther (place : Place) (target : ℕ) : Type 0 where
  pub among : target < place.cores
  pub other : target ≢ place.core

-- a cell that there is; of the interface's registers those for another core
abbrev pub IsReadable : Place → Cell → Type 0
IsReadable place c = IsInRange c × elim c [
  | cell.Scratch word ↦ Unit {0}
  | cell.Comm word ↦ Unit {0}
  | cell.Port target register ↦ IsOther place target
  | cell.Private word ↦ Unit {0}
  | cell.Shared word ↦ Unit {0}
]

-- all that the interface did before the own act in a cycle is done
pub record IsReady (cycle : ℕ) (ni : Standing) : Type 0 where
  pub early : cycle ≤ MOST_CYCLES
  pub after : ni.from ≤ 2 * cycle + 2
  pub past : IsPast ni cycle

-- all that the interface does before a half-cycle is done, and nothing is left for the very first one
pub record IsUpTo (half : ℕ) (ni : Standing) : Type 0 where
  pub after : ni.from ≤ half
  pub past : (h : ℕ) → ni.from ≤ h → acts ni.interface h ≡ true → half ≤ h
  pub some : (h : ℕ) → ni.from ≤ h → acts ni.interface h ≡ true → 1 ≤ h

-- no check on what a bundle asks for fails, but for that on flows
abbrev pub IsGranted : Effect → Plain → Type 0
IsGranted asked x = elim asked [
  | effect.Nothing ↦ Unit {0}
  | effect.Flow kind ↦ Unit {0}
  | effect.Load space width rd address ↦ load_fault x space width address ≡ None
  | effect.Store space width address value ↦ store_fault x space width address value ≡ None
  | effect.StackOp func count ↦ has_room func count x.stack ≡ true
]

-- a load's value can come into its register: nothing else is on its way, and the address is a multiple of
-- the load's bytes
pub record IsAwaited (regs : Registers) (bytes address : ℕ) : Type 0 where
  pub pending : regs.pending ≡ pending.Nothing
  pub aligned : address % bytes ≡ 0

-- what comes of words that are moved can be done
abbrev pub CanMove : Registers → Then → Type 0
CanMove regs then_on = elim then_on [
  | moved.Nothing ↦ Unit {0}
  | moved.Load rd width address ↦ IsAwaited regs (width_bytes width) address
  | moved.Line rd width address ↦ IsAwaited regs (width_bytes width) address
  | moved.Store cached width address value ↦ address % store_bytes width ≡ 0
]

-- nothing comes of words that are still to be moved, and the core waits for no later cycle than one can
-- reach
pub record IsAtRest (b : Body) : Type 0 where
  pub idle : b.transfer.then ≡ moved.Nothing
  pub near : b.free ≤ MOST_CYCLES + 64

-- what is to be moved can be: what comes of the words can be done, nothing comes where no words are left,
-- and the core waits for no later cycle than one can reach
pub record CanGoOn (b : Body) : Type 0 where
  pub can : CanMove b.regs b.transfer.then
  pub idle : b.transfer.words ≡ 0 → b.transfer.then ≡ moved.Nothing
  pub near : b.free ≤ MOST_CYCLES + 64

-- a pending store is one in a word of the board
abbrev pub StoresWithin : Place → Option PendingStore → Type 0
StoresWithin place pending_store = IfSome pending_store (λ o. o.word < comm_word place.cores 0)

-- the first cell of a line: all four of its words are there
abbrev pub IsLine : Cell → Type 0
IsLine c = elim c [
  | cell.Scratch word ↦ Unit {0}
  | cell.Comm word ↦ Unit {0}
  | cell.Port target register ↦ Unit {0}
  | cell.Private word ↦ word + 3 < PRIVATE_WORDS
  | cell.Shared word ↦ Unit {0}
]

-- the interfaces are those of the same core, and have the same registers for each target; what their
-- channels have still to send, and which packets are under way, may differ
pub record HasRegisters (x y : Interface) : Type 0 where
  pub cores : x.cores ≡ y.cores
  pub core : x.core ≡ y.core
  pub source : (d : ℕ) → (port_to x d).source ≡ (port_to y d).source
  pub target : (d : ℕ) → (port_to x d).target ≡ (port_to y d).target

-- For proofs. How far a core with a task has come in a cycle, and what its fields keep there.
use Rattle.std.specs.Prelude.{◌≡◌, ℕ, ◌+◌, ◌*◌, ◌≤◌, ◌<◌, true, false, Option, None, Some, IfSome, IsNone}
use Rattle.slot_arbiter.specs.declared.place.TheConstants.{MOST_CYCLES}
use Rattle.argo_ni.specs.Interface.{Interface, Standing}
use Rattle.argo_ni.specs.Turn.{acts, delivery, injection}
use Rattle.argo_ni.specs.Event.{half_of, IsNextAct, IsDone, IsQuiet}
use Rattle.argo_ni.specs.declared.event.NiEvent.{NiEvent}
use Rattle.shared_order.specs.Program.{done}
use Rattle.patmos_step.specs.declared.body.Body.{Body}
use Rattle.patmos_model.specs.declared.pending_store.PendingStore.{PendingStore}
use Rattle.patmos_core.specs.declared.phase.Phase.{Phase}
use Rattle.patmos_core.specs.declared.phase.Phase.TheVariants.{Delivery, Act, Completion}
use Rattle.patmos_model.specs.Transaction.{is_due}
use Rattle.patmos_step.specs.Moving.{MovesIn}
use Rattle.patmos_step.specs.Ready.{CanGoOn, StoresWithin, IsUpTo}
use Rattle.patmos_step.specs.Shown.{plain_of}

-- the half-cycle that comes next
abbrev pub half_at : ℕ → Phase → ℕ
half_at cycle phase = elim phase [
  | Delivery ↦ 2 * cycle
  | Act ↦ 2 * cycle + 1
  | Completion pending_store ↦ 2 * cycle + 2
]

-- where a second phase leaves the core with this store pending: before the next cycle, if none
abbrev pub cycle_after : ℕ → Option PendingStore → ℕ
cycle_after cycle pending_store = elim pending_store [ None ↦ cycle + 1 | Some o ↦ cycle ]

abbrev pub phase_after : Option PendingStore → Phase
phase_after pending_store = elim pending_store [ None ↦ Delivery | Some o ↦ Completion o ]

-- the store that is pending in a phase
abbrev pub pending_in : Phase → Option PendingStore
pending_in phase = elim phase [ Delivery ↦ None | Act ↦ None | Completion pending_store ↦ Some pending_store ]

-- what the fields of a core with a task keep
pub record IsSound (b : Body) (cycle : ℕ) (phase : Phase) : Type 0 where
  pub early : cycle ≤ MOST_CYCLES
  pub can : CanGoOn b
  pub ni : IsUpTo (half_at cycle phase) b.ni
  pub leaves : StoresWithin b.place (pending_in phase)

-- in the second phase of the cycle words are to be moved, and the interface does nothing in it
pub record IsMoving (b : Body) (cycle : ℕ) (phase : Phase) : Type 0 where
  pub act : phase ≡ Act
  pub moves : MovesIn cycle (plain_of b)
  pub ni : IsUpTo (2 * cycle + 2) b.ni

-- what the interface does next, if anything: nothing happens before it, or ever
pub record TellsNext (s : Standing) (next : Option NiEvent) : Type 0 where
  pub is : IfSome next (λ e. IsNextAct s (half_of e))
  pub does : IfSome next (IsDone s.interface)
  pub between : IfSome next (λ e. IsQuiet s.interface s.from (half_of e))
  pub never : IsNone next → (half : ℕ) → acts s.interface half ≡ false
  pub quiet : IsNone next → (to : ℕ) → IsQuiet s.interface s.from to

-- in both phases of the cycle the interface does nothing
pub record IsStillIn (x : Interface) (cycle : ℕ) : Type 0 where
  pub delivery : delivery cycle x ≡ done x
  pub injection : injection cycle x ≡ done x

-- the interface does nothing in the cycle, and words that are to be moved can be
pub record IsAloneAt (b : Body) (cycle : ℕ) : Type 0 where
  pub still : IsStillIn b.ni.interface cycle
  pub ni : IsUpTo (2 * cycle + 2) b.ni
  pub due : 0 < b.transfer.words → is_due cycle (plain_of b) ≡ true

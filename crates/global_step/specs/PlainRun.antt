-- To be believed. All cores of a platform on one thread, from event to event.
use Rattle.std.specs.Prelude.{◌≡◌, ℕ, ◌*◌, ◌<◌, ◌≤◌, List, [], Option, None, Some, IsSome, IsNone, IfSome, slice_get}
use Rattle.shared_order.specs.declared.operation.Operation.{Operation}
use Rattle.patmos_core.specs.declared.cpu.Core.{Core as Cpu}
use Rattle.patmos_model.specs.State.{Core}
use Rattle.patmos_core.specs.Position.{StandsFor, waiting_of, limit_of, place_of, phases_of, IsThrough, IsNextOf, HasMadeAll, EventFits}

-- each of the cores, by its number
abbrev pub Every : (ℕ → Cpu → Type 0) → List Cpu → Type 0
Every P cores = (k : ℕ) → IfSome (slice_get cores k) (P k)

-- the core is at place k of n
pub record IsSeated (n k : ℕ) (c : Cpu) : Type 0 where
  pub cores : (place_of c).cores ≡ n
  pub core : (place_of c).core ≡ k

-- it was asked for no event yet, and for none at or past the limit
pub record IsFree (most : ℕ) (c : Cpu) : Type 0 where
  pub waiting : waiting_of c ≡ None
  pub limit : limit_of c ≤ most

-- each core stands for the one that began as x of its number, and made nothing
abbrev pub Begins : (ℕ → Core) → List Cpu → Type 0
Begins x cores = Every (λ k c. StandsFor c (x k) []) cores

-- it was asked for its next event before the limit: it waits to be told it, or is through
pub record IsReady (most : ℕ) (c : Cpu) : Type 0 where
  pub limit : limit_of c ≡ most
  pub fits : IfSome (waiting_of c) (EventFits (place_of c) most)
  pub before : IsSome (waiting_of c) → phases_of c < 3 * most
  pub through : IsNone (waiting_of c) → IsThrough c

-- so it is of the core that began as x and made these operations
pub record HasNext (x : Core) (made : List Operation) (limit : ℕ) (c : Cpu) : Type 0 where
  pub stands : StandsFor c x made
  pub next : IfSome (waiting_of c) (IsNextOf x made limit)
  pub all : IsNone (waiting_of c) → HasMadeAll x made limit

-- one stamp is not after the other: where there is none, it is the last
abbrev pub Precedes : Option ℕ → Option ℕ → Type 0
Precedes one other = elim other [
  | None ↦ Unit {0}
  | Some later ↦ elim one [ None ↦ ⊥ | Some first ↦ first ≤ later ]
]

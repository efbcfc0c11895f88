-- To be believed. Events of an interface: the next injection or delivery.
use Rattle.std.specs.Prelude.{◌≡◌, ℕ, ◌+◌, ◌*◌, ◌<◌, ◌≤◌, true, List, [], take}
use Rattle.slot_arbiter.specs.Order.{IsNext}
use Rattle.shared_order.specs.Program.{done, gets, sets}
use Rattle.argo_ni.specs.declared.event.NiEvent.{NiEvent}
use Rattle.argo_ni.specs.declared.event.NiKind.TheVariants.{Inject, Deliver}
use Rattle.local_store.specs.declared.map.TheConstants.{COMM_WORDS}
use Rattle.argo_ni.specs.Packet.{comm_word}
use Rattle.argo_ni.specs.Interface.{Interface, Standing, IsTarget, port_to}
use Rattle.argo_ni.specs.Turn.{injection, injected, delivery, delivered, turn, acts}

-- the half-cycle of an event
abbrev pub half_of : NiEvent → ℕ
half_of e = elim e.kind [
  | Inject target first count ↦ 2 * e.cycle + 1
  | Deliver target first count values ↦ 2 * e.cycle
]

-- the stamp of what core number `core`, of n, does in a half-cycle: that of phase p of cycle q is in
-- half-cycle 2 * q + p
abbrev pub stamp_in : ℕ → ℕ → ℕ → ℕ
stamp_in n core half = half * n + core

-- one or two words of a communication memory, and the target is another core
pub record IsPiece (x : Interface) (target first count : ℕ) : Type 0 where
  pub other : IsTarget x target
  pub some : 1 ≤ count
  pub most : count ≤ 2
  pub within : first + count ≤ COMM_WORDS

-- in the cycle the interface reads those words of its own communication memory and sends them
pub record IsInjection (x : Interface) (cycle target first count : ℕ) : Type 0 where
  pub piece : IsPiece x target first count
  pub program : injection cycle x
      ≡ gets count (comm_word x.core first) (λ values. done (injected cycle values x))

-- in the cycle the values come to those words of the target's communication memory
pub record IsDelivery (x : Interface) (cycle target first count : ℕ) (values : List ℕ) : Type 0 where
  pub piece : IsPiece x target first count
  pub program : delivery cycle x
      ≡ sets (comm_word target first) (take count values) (done (delivered cycle x))

-- the event is what the interface does in its cycle
abbrev pub IsDone : Interface → NiEvent → Type 0
IsDone x e = elim e.kind [
  | Inject target first count ↦ IsInjection x e.cycle target first count
  | Deliver target first count values ↦ IsDelivery x e.cycle target first count values
]

-- nothing happens in the half-cycles from `from` on and before `to`: the interface stays as it is
abbrev pub IsQuiet : Interface → ℕ → ℕ → Type 0
IsQuiet x from to = (cycle phase : ℕ) → phase ≤ 1
    → from ≤ 2 * cycle + phase → 2 * cycle + phase < to → turn phase cycle x ≡ done x

-- the next half-cycle in which something happens
abbrev pub IsNextAct : Standing → ℕ → Type 0
IsNextAct s half = IsNext (acts s.interface) s.from half

-- all that is left to inject or to deliver is above a stamp
abbrev pub IsClear : Standing → ℕ → Type 0
IsClear s at = (half : ℕ) → s.from ≤ half → acts s.interface half ≡ true
    → at < stamp_in s.interface.cores s.interface.core half

-- all that is left to inject or to deliver comes after a cycle
abbrev pub IsPast : Standing → ℕ → Type 0
IsPast s cycle = (half : ℕ) → s.from ≤ half → acts s.interface half ≡ true → 2 * cycle + 1 < half

-- nothing is left to inject or to deliver
pub record IsIdle (x : Interface) : Type 0 where
  pub channels : (d : ℕ) → IsTarget x d → (port_to x d).channel.left ≡ 0
  pub under_way : x.under_way ≡ []

-- For proofs. What an interface keeps from call to call.
use Rattle.std.specs.Prelude.{◌≡◌, ◌≢◌, ℕ, ◌+◌, ◌*◌, ◌/◌, ◌%◌, ◌<◌, ◌≤◌, false, Option, IfSome, IsNone, List, [], ◌∷◌, length, drop}
use Rattle.std.specs.List.{AllByRecursion as Each}
use Rattle.slot_arbiter.specs.Order.{IsNext}
use Rattle.argo_ni.specs.declared.port.Port.{Port}
use Rattle.argo_ni.specs.declared.packet.Packet.{Packet}
use Rattle.local_store.specs.declared.map.TheConstants.{COMM_WORDS}
use Rattle.argo_ni.specs.Port.{port_at, words_left, IsWithin}
use Rattle.argo_ni.specs.Packet.{carried}
use Rattle.argo_ni.specs.Interface.{Standing}
use Rattle.argo_ni.specs.Turn.{sends}

-- a packet for words that the target has, due in a cycle in which a window begins
pub record IsSent (n core : ℕ) (p : Packet) : Type 0 where
  pub among : p.target < n
  pub other : p.target ≢ core
  pub within : p.first + length (carried p.payload) ≤ COMM_WORDS
  pub window : p.due % 3 ≡ 0

-- the packets are due one after another, from half-cycle `from` on
abbrev pub IsQueue : ℕ → ℕ → ℕ → List Packet → Type 0
IsQueue n core from [] = Unit {0}
IsQueue n core from (p ∷ ps) =
    (from ≤ 2 * p.due) × IsSent n core p × IsQueue n core (2 * p.due + 1) ps

-- the first packet of the queue is this one
pub record IsFirst (n core from : ℕ) (ps : List Packet) (p : Packet) : Type 0 where
  pub whole : ps ≡ p ∷ drop 1 ps
  pub after : from ≤ 2 * p.due
  pub sent : IsSent n core p
  pub rest : IsQueue n core (2 * p.due + 1) (drop 1 ps)

-- the first of the packets under way is this one
abbrev pub IsFirstOf : Standing → Packet → Type 0
IsFirstOf s p = IsFirst s.interface.cores s.interface.core s.from s.interface.under_way p

-- Each channel lies within the communication memories. No packet is late, and each was sent before
-- half-cycle `from`. A packet is sent at most 45 cycles after the act before it and delivered at most
-- nine after that, so all that is left is done in time.
pub record IsSound (n core : ℕ) (ports : List Port) (packets : List Packet) (from : ℕ) : Type 0 where
  pub among : core < n
  pub most : n ≤ 16
  pub targets : length ports ≡ 16
  pub channels : (d : ℕ) → IsWithin (port_at ports d).channel
  pub in_time : from + 17 * length packets + 108 * words_left ports ≤ 40884789
  pub queue : IsQueue n core from packets
  pub sent : Each (λ p. 2 * p.due ≤ from + 16) packets

-- an interface is sound: its parts are
abbrev pub IsSoundAt : Standing → Type 0
IsSoundAt s =
    IsSound s.interface.cores s.interface.core s.interface.ports s.interface.under_way s.from

-- A sound interface whose cycle of the next injection is kept: it comes soon, and where there is none nothing is ever
-- injected.
pub record IsKept (s : Standing) (sending : Option ℕ) : Type 0 where
  pub sound : IsSoundAt s
  pub next : IfSome sending (IsNext (sends s.interface) (s.from / 2))
  pub near : IfSome sending (λ cycle. 2 * cycle + 1 < s.from + 90)
  pub none : IsNone sending → (cycle : ℕ) → sends s.interface cycle ≡ false

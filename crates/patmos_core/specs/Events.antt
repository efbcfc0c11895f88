-- To be believed. Events: what a core asks for at one stamp.
use Rattle.std.specs.Prelude.{◌≡◌, ℕ, zero, suc, ◌+◌, ◌<◌, Bool, true, false, List, [], ◌∷◌, ◌++◌, take, Option, None, Some}
use Rattle.std.specs.List.{AllByRecursion as Each}
use Rattle.slot_arbiter.specs.declared.event.WordOp.{WordOp}
use Rattle.slot_arbiter.specs.declared.event.Event.{Event}
use Rattle.shared_order.specs.Program.{done}
use Rattle.argo_ni.specs.Interface.{Interface}
use Rattle.argo_ni.specs.Packet.{comm_word}
use Rattle.argo_ni.specs.Turn.{injection}
use Rattle.argo_ni.specs.Event.{IsInjection}
use Rattle.patmos_model.specs.declared.pending_store.PendingStore.{PendingStore}
use Rattle.patmos_core.specs.declared.window.Window.{Window}
use Rattle.patmos_step.specs.Asks.{loading}

-- a value is stored in a word
abbrev pub storing : ℕ → ℕ → WordOp
storing word value = record { word = word; write = true; value = value }

-- so many words are loaded by rising number from this one on, or these values stored
abbrev pub loads_from : ℕ → ℕ → List WordOp
loads_from word zero = []
loads_from word (suc count) = loading word ∷ loads_from (word + 1) count

abbrev pub stores_from : ℕ → List ℕ → List WordOp
stores_from word [] = []
stores_from word (value ∷ values) = storing word value ∷ stores_from (word + 1) values

-- the event, if one was found
abbrev pub if_found : Bool → Event → Option Event
if_found found e = elim found [ true ↦ Some e | false ↦ None ]

-- what an event asks for
abbrev pub asked_of : Event → List WordOp
asked_of e = take e.count e.ops

-- the last of the accesses, if there are any
abbrev pub last_of : List WordOp → Option WordOp
last_of [] = None
last_of (o ∷ []) = Some o
last_of (o ∷ p ∷ acts) = last_of (p ∷ acts)

-- where a store is still pending at the event's stamp, the last thing that the event asks for is a load of the
-- word that is to be stored
abbrev pub EndsBefore : Event → Option PendingStore → Type 0
EndsBefore e pending_store = elim pending_store [
  | None ↦ Unit {0}
  | Some o ↦ last_of (asked_of e) ≡ Some (loading o.word)
]

-- its words are below a number
abbrev pub AllBelow : ℕ → List WordOp → Type 0
AllBelow words acts = Each (λ o. o.word < words) acts

-- what its loads will give is not known yet, and stands as 0
abbrev pub AllUnread : List WordOp → Type 0
AllUnread acts = Each (λ o. o.write ≡ false → o.value ≡ 0) acts

-- Loads stand before stores. So the values that the loads give are handed back in order, and none is for a store.
pub record LoadsFirst (acts : List WordOp) : Type 0 where
  pub loads : List WordOp
  pub stores : List WordOp
  pub whole : acts ≡ loads ++ stores
  pub all_loads : Each (λ o. o.write ≡ false) loads
  pub all_stores : Each (λ o. o.write ≡ true) stores

-- the words of a packet that is sent, of a core's own communication memory
abbrev pub window_asks : ℕ → Option Window → List WordOp
window_asks core window = elim window [ None ↦ [] | Some w ↦ loads_from (comm_word core w.first) w.count ]

-- so the interface sends a packet in the cycle, or none
abbrev pub SendsIn : Interface → ℕ → Option Window → Type 0
SendsIn x cycle window = elim window [
  | None ↦ injection cycle x ≡ done x
  | Some w ↦ IsInjection x cycle w.target w.first w.count
]

-- To be believed. Who stores where: of the words that cores share, a task stores into its own communication memory and
-- shared memory, and its packets go to cores that it asked for.
use Rattle.std.specs.Prelude.{◌≡◌, ℕ, ◌+◌, ◌<◌, ◌==◌, Bool, true, ◌⊎◌, List, length}
use Rattle.std.specs.List.{list_any, AllByRecursion as Each}
use Rattle.shared_order.specs.declared.operation.Operation.{Operation}
use Rattle.local_store.specs.declared.map.TheConstants.{COMM_WORDS, SHARED_WORDS}
use Rattle.argo_ni.specs.declared.packet.Packet.{Packet}
use Rattle.argo_ni.specs.Packet.{carried, comm_word}
use Rattle.argo_ni.specs.Interface.{Interface, port_to}
use Rattle.patmos_model.specs.State.{Sending}

-- a word of shared memory, or of the core's own communication memory
abbrev pub IsOwnWord : ℕ → ℕ → Type 0
IsOwnWord core word = (word < SHARED_WORDS) ⊎ ((k : ℕ) × ((k < COMM_WORDS) × (word ≡ comm_word core k)))

-- the operation, if it is a store, is one in such a word
abbrev pub StoresOwn : ℕ → Operation → Type 0
StoresOwn core o = o.act.write ≡ true → IsOwnWord core o.act.word

-- a transfer to the core was asked for
abbrev pub is_sent_to : List Sending → ℕ → Bool
is_sent_to sendings target = list_any (λ s. s.target == target) sendings

-- words are left to send, and packets are under way, only to cores to which a transfer was asked for
pub record SendsAsAsked (x : Interface) (sendings : List Sending) : Type 0 where
  pub channels : (d : ℕ) → 0 < (port_to x d).channel.left → is_sent_to sendings d ≡ true
  pub packets : Each (λ p. is_sent_to sendings p.target ≡ true) x.under_way

-- the packet comes to such words, and so do all that are under way
abbrev pub Comes : (ℕ → Type 0) → Packet → Type 0
Comes W p = (i : ℕ) → i < length (carried p.payload) → W (comm_word p.target p.first + i)

abbrev pub ComesAll : (ℕ → Type 0) → Interface → Type 0
ComesAll W x = Each (Comes W) x.under_way

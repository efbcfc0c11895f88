-- To be believed. What a core's own act in a cycle asks of the board: the words that it loads or stores, known before
-- its loads give their values.
use Rattle.std.specs.Prelude.{◌≡◌, ℕ, ◌+◌, ◌<◌, true, false, List, [], ◌∷◌, Option, None, Some, Bool}
use Rattle.slot_arbiter.specs.declared.event.WordOp.{WordOp}
use Rattle.shared_order.specs.Program.{Prog, done, get, set}
use Rattle.patmos_model.specs.declared.pending_store.PendingStore.{PendingStore}
use Rattle.patmos_step.specs.declared.ask.Ask.{Ask}
use Rattle.patmos_model.specs.Cells.{Acted, cell_of}
use Rattle.slot_arbiter.specs.Slot.{is_slot_start}
use Rattle.local_store.specs.declared.map.Space.TheVariants.{Local, Main}
use Rattle.local_store.specs.declared.map.Cell.{Cell}
use Rattle.local_store.specs.declared.map.Cell.TheVariants as cell
use Rattle.argo_ni.specs.Packet.{comm_word}
use Rattle.patmos_instr.specs.Bundles.{PlainBundle}
use Rattle.patmos_instr.specs.declared.instructions.Op.{Op}
use Rattle.patmos_instr.specs.declared.instructions.Op.TheVariants as op
use Rattle.patmos_instr.specs.declared.memories.Mem.{Mem}
use Rattle.patmos_instr.specs.declared.memories.Mem.TheVariants as mem
use Rattle.patmos_instr.specs.declared.memories.Width.{Width}
use Rattle.patmos_instr.specs.declared.memories.StoreWidth.{StoreWidth}
use Rattle.patmos_instr.specs.declared.memories.StoreWidth.TheVariants as store
use Rattle.patmos_sem.specs.declared.effects.Effect.{Effect}
use Rattle.patmos_sem.specs.declared.effects.Effect.TheVariants as effect
use Rattle.patmos_sem.specs.Bundles.{effect_of}
use Rattle.patmos_step.specs.declared.ask.Ask.TheVariants as asks
use Rattle.patmos_model.specs.declared.fetched.Fetched.{Fetched}
use Rattle.patmos_model.specs.declared.fetched.Fetched.TheVariants.{Outside, NoBundle, Found}
use Rattle.patmos_step.specs.declared.plan.Plan.{Plan}
use Rattle.patmos_step.specs.declared.plan.Plan.TheVariants.{Nothing, Waits, Does}
use Rattle.patmos_model.specs.declared.transfer.Then.{Then}
use Rattle.patmos_model.specs.declared.transfer.Then.TheVariants as then_on
use Rattle.patmos_model.specs.Site.{Site}
use Rattle.patmos_model.specs.State.{Plain}
use Rattle.patmos_model.specs.Checks.{fault_of}
use Rattle.patmos_model.specs.Transaction.{line_address, is_due}

-- a word is loaded, whose value is not known yet
abbrev pub loading : ℕ → WordOp
loading word = record { word = word; write = false; value = 0 }

-- the accesses that are asked for, in their order
abbrev pub ops_of : Ask → List WordOp
ops_of asked = elim asked [
  | asks.Nothing ↦ []
  | asks.Load word ↦ loading word ∷ []
  | asks.Line word ↦ loading word ∷ loading (word + 1) ∷ loading (word + 2) ∷ loading (word + 3) ∷ []
  | asks.Store word value ↦ record { word = word; write = true; value = value } ∷ []
  | asks.Change word ↦ loading word ∷ []
]

-- a store to the word is pending
abbrev pub StoresTo : ℕ → Option PendingStore → Type 0
StoresTo word pending_store = elim pending_store [ None ↦ ⊥ | Some o ↦ o.word ≡ word ]

-- the store that is pending once it was done: none, but where a part of a word is stored
abbrev pub LeavesPending : Ask → Option PendingStore → Type 0
LeavesPending asked pending_store = elim asked [
  | asks.Nothing ↦ pending_store ≡ None
  | asks.Load word ↦ pending_store ≡ None
  | asks.Line word ↦ pending_store ≡ None
  | asks.Store word value ↦ pending_store ≡ None
  | asks.Change word ↦ StoresTo word pending_store
]

-- the program asks for nothing more, and what it leaves is such
abbrev pub Ends : (Acted → Type 0) → Prog Acted → Type 0
Ends Is (done a) = Is a
Ends Is (get word go_on) = ⊥
Ends Is (set word value rest) = ⊥

-- the program loads this word, and goes on so, whatever its value is
abbrev pub Loads : ℕ → (Prog Acted → Type 0) → Prog Acted → Type 0
Loads word GoesOn (done a) = ⊥
Loads word GoesOn (get asked go_on) = (asked ≡ word) × ((value : ℕ) → GoesOn (go_on value))
Loads word GoesOn (set asked value rest) = ⊥

-- the program stores this value in this word, and goes on so
abbrev pub Stores : ℕ → ℕ → (Prog Acted → Type 0) → Prog Acted → Type 0
Stores word value GoesOn (done a) = ⊥
Stores word value GoesOn (get asked go_on) = ⊥
Stores word value GoesOn (set asked stored rest) = (asked ≡ word) × (stored ≡ value) × GoesOn rest

-- the program asks for exactly this, whatever its loads give, and what it leaves is such
abbrev pub AsksFor : (Acted → Type 0) → Ask → Prog Acted → Type 0
AsksFor Is asked p = elim asked [
  | asks.Nothing ↦ Ends Is p
  | asks.Load word ↦ Loads word (Ends Is) p
  | asks.Line word ↦ Loads word (Loads (word + 1) (Loads (word + 2) (Loads (word + 3) (Ends Is)))) p
  | asks.Store word value ↦ Stores word value (Ends Is) p
  | asks.Change word ↦ Loads word (Ends Is) p
]

-- the program asks for exactly this, and at its end the store is pending that this leaves
abbrev pub FollowsAsk : Ask → Prog Acted → Type 0
FollowsAsk asked p = AsksFor (λ a. LeavesPending asked a.pending_store) asked p

-- every word that is named is one of the first so many
abbrev pub AskFits : ℕ → Ask → Type 0
AskFits words asked = elim asked [
  | asks.Nothing ↦ Unit {0}
  | asks.Load word ↦ word < words
  | asks.Line word ↦ word + 3 < words
  | asks.Store word value ↦ word < words
  | asks.Change word ↦ word < words
]

-- ---- what a plan asks for, known from the state before it is carried out

-- a load from a cell asks for its word, where that is on the board
abbrev pub load_ask : Site → Option Cell → Ask
load_ask site place = elim place [
  | None ↦ asks.Nothing
  | Some found ↦ elim found [
    | cell.Scratch word ↦ asks.Nothing
    | cell.Private word ↦ asks.Nothing
    | cell.Comm word ↦ asks.Load (comm_word site.core word)
    | cell.Shared word ↦ asks.Load word
    | cell.Port core register ↦ asks.Nothing
  ]
]

-- a line is on the board where its first cell is in shared memory
abbrev pub line_ask : Option Cell → Ask
line_ask place = elim place [
  | None ↦ asks.Nothing
  | Some found ↦ elim found [
    | cell.Scratch word ↦ asks.Nothing
    | cell.Private word ↦ asks.Nothing
    | cell.Comm word ↦ asks.Nothing
    | cell.Shared word ↦ asks.Line word
    | cell.Port core register ↦ asks.Nothing
  ]
]

-- a store in a word of the board: a byte or a half changes a part of it
abbrev pub word_ask : ℕ → StoreWidth → ℕ → Ask
word_ask word width value = elim width [
  | store.Word ↦ asks.Store word value
  | store.Half ↦ asks.Change word
  | store.Byte ↦ asks.Change word
]

-- a store in a cell asks for its word, where that is on the board
abbrev pub store_ask : Site → Option Cell → StoreWidth → ℕ → Ask
store_ask site place width value = elim place [
  | None ↦ asks.Nothing
  | Some found ↦ elim found [
    | cell.Scratch word ↦ asks.Nothing
    | cell.Private word ↦ asks.Nothing
    | cell.Comm word ↦ word_ask (comm_word site.core word) width value
    | cell.Shared word ↦ word_ask word width value
    | cell.Port core register ↦ asks.Nothing
  ]
]

-- what words that are moved ask for
abbrev pub then_ask : Site → Then → Ask
then_ask site moved = elim moved [
  | then_on.Nothing ↦ asks.Nothing
  | then_on.Load rd width address ↦ load_ask site (cell_of Main address)
  | then_on.Line rd width address ↦ line_ask (cell_of Main (line_address address))
  | then_on.Store cached width address value ↦ store_ask site (cell_of Main address) width value
]

-- words that a bundle leaves to be moved are moved in its own cycle where a slot of the core starts in it
abbrev pub slot_ask : ℕ → Site → Then → Ask
slot_ask cycle site moved = elim (is_slot_start site.table site.slot site.core cycle) [
  | true ↦ then_ask site moved
  | false ↦ asks.Nothing
]

-- a cached load asks for its line, where the cache does not have it
abbrev pub cached_ask : ℕ → Site → Option ℕ → ℕ → Width → ℕ → Ask
cached_ask cycle site present rd width address = elim present [
  | None ↦ slot_ask cycle site (then_on.Line rd width address)
  | Some word ↦ asks.Nothing
]

-- what a load asks for; the cache is told by the word that it has at each address
abbrev pub loaded_ask : ℕ → Site → (ℕ → Option ℕ) → Mem → Width → ℕ → ℕ → Ask
loaded_ask cycle site cached space width rd address = elim space [
  | mem.S ↦ asks.Nothing
  | mem.L ↦ load_ask site (cell_of Local address)
  | mem.C ↦ cached_ask cycle site (cached address) rd width address
  | mem.M ↦ slot_ask cycle site (then_on.Load rd width address)
]

-- what a store asks for
abbrev pub stored_ask : ℕ → Site → Mem → StoreWidth → ℕ → ℕ → Ask
stored_ask cycle site space width address value = elim space [
  | mem.S ↦ asks.Nothing
  | mem.L ↦ store_ask site (cell_of Local address) width value
  | mem.C ↦ slot_ask cycle site (then_on.Store true width address value)
  | mem.M ↦ slot_ask cycle site (then_on.Store false width address value)
]

-- what comes of a bundle that passes its checks
abbrev pub effect_ask : ℕ → Site → (ℕ → Option ℕ) → Effect → Ask
effect_ask cycle site cached asked = elim asked [
  | effect.Nothing ↦ asks.Nothing
  | effect.Flow kind ↦ asks.Nothing
  | effect.Load space width rd address ↦ loaded_ask cycle site cached space width rd address
  | effect.Store space width address value ↦ stored_ask cycle site space width address value
  | effect.StackOp func count ↦ asks.Nothing
]

-- what a bundle asks for: nothing where a check fails
abbrev pub bundle_ask : ℕ → Plain → (ℕ → Option ℕ) → PlainBundle → Ask
bundle_ask cycle x cached b = elim (fault_of x (effect_of b x.regs)) [
  | None ↦ effect_ask cycle x.site cached (effect_of b x.regs)
  | Some fault ↦ asks.Nothing
]

-- what was fetched asks for
abbrev pub fetched_ask : Fetched → ℕ → Plain → (ℕ → Option ℕ) → Ask
fetched_ask fetched cycle x cached = elim fetched [
  | Outside ↦ asks.Nothing
  | NoBundle ↦ asks.Nothing
  | Found b words ↦ bundle_ask cycle x cached b
]

-- words that are still to be moved ask for it where they move
abbrev pub wait_ask : ℕ → Plain → Ask
wait_ask cycle x = elim (is_due cycle x) [ true ↦ then_ask x.site x.transfer.then | false ↦ asks.Nothing ]

-- what a plan asks for
abbrev pub plan_ask : Plan → ℕ → Plain → (ℕ → Option ℕ) → Ask
plan_ask plan cycle x cached = elim plan [
  | Nothing ↦ asks.Nothing
  | Waits ↦ wait_ask cycle x
  | Does fetched ↦ fetched_ask fetched cycle x cached
]

-- a load or a store: no other operation of a bundle's first slot can ask for anything
abbrev pub is_access : Op → Bool
is_access (op.Load space width rd ra imm) = true
is_access (op.Store space width ra rs imm) = true
is_access _ = false

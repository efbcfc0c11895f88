-- For worked rows. A small machine of two cores, for worked values. Each core follows a list of steps, one a cycle,
-- and sends one packet: the values of two words, which come to two other words three cycles later.
use Rattle.std.specs.Prelude.{ℕ, zero, suc, true, false, ◌+◌, ◌*◌, ◌/◌, ◌==◌, List, [], ◌∷◌, slice_index_or}
use Rattle.shared_order.specs.Program.{Prog, done, get, set, and_then, gets, sets}

-- what a core does by itself in a cycle: it rests, loads a word, stores a value in a word, or stores
-- a byte, which takes the word and puts it back with its lowest byte changed
pub data Step : Type 0 where
  rest : Step
  take : ℕ → Step
  give : ℕ → ℕ → Step
  give_byte : ℕ → ℕ → Step

-- where a packet is under way: the cycle at which it comes, the first of the words that it comes to,
-- and the values
pub data Packet : Type 0 where
  nothing : Packet
  due : ℕ → ℕ → List ℕ → Packet

-- the steps by cycle, the cycle at which the packet is taken, the first word that it is taken from
-- and that it goes to, the packet under way, and the values that the core's own loads gave, the last
-- one first
pub record Small : Type 0 where
  pub steps : List Step
  pub sends : ℕ
  pub source : ℕ
  pub target : ℕ
  pub packet : Packet
  pub seen : List ℕ

-- the packet comes to its words at its cycle
abbrev pub deliver : ℕ → Small → Prog Small
deliver cycle x = elim x.packet [
  | nothing ↦ done x
  | due at word values ↦ elim (at == cycle) [
    | true ↦ sets word values (done (record x { packet = nothing }))
    | false ↦ done x
  ]
]

-- the packet is taken from its words at its cycle
abbrev pub inject : ℕ → Small → Prog Small
inject cycle x = elim (x.sends == cycle) [
  | true ↦ gets 2 x.source (λ values. done (record x { packet = due (cycle + 3) x.target values }))
  | false ↦ done x
]

-- the step of the cycle: a byte store is a load and then a store
abbrev pub own : ℕ → Small → Prog Small
own cycle x = elim (slice_index_or x.steps cycle rest) [
  | rest ↦ done x
  | take word ↦ get word (λ value. done (record x { seen = value ∷ x.seen }))
  | give word value ↦ set word value (done x)
  | give_byte word byte ↦ and_then (get word done) (λ value. set word (value / 256 * 256 + byte) (done x))
]

-- phase 0 and phase 1 of a cycle
abbrev pub turn : ℕ → ℕ → Small → Prog Small
turn zero cycle x = deliver cycle x
turn (suc phase) cycle x = and_then (inject cycle x) (own cycle)

-- core 0 stores 259 in word 5, and loads word 7 in the cycle in which the packet comes there and in
-- the next
abbrev pub core_0 : Small
core_0 = record {
  steps = give 5 259 ∷ rest ∷ rest ∷ rest ∷ take 7 ∷ take 7 ∷ [];
  sends = 9;
  source = 0;
  target = 0;
  packet = nothing;
  seen = [];
}

-- core 1 loads word 5, sends words 4 and 5 to words 6 and 7 and then changes word 5's byte in one
-- cycle, and stores 8 in word 7 in the cycle in which the packet comes there
abbrev pub core_1 : Small
core_1 = record {
  steps = take 5 ∷ give_byte 5 7 ∷ rest ∷ rest ∷ give 7 8 ∷ rest ∷ [];
  sends = 1;
  source = 4;
  target = 6;
  packet = nothing;
  seen = [];
}

-- the cores by their numbers
abbrev pub two : ℕ → Small
two zero = core_0
two (suc core) = core_1

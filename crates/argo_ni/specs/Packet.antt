-- To be believed. A packet of the network, which carries one or two words from one communication memory to another
-- (Argo: Schoeberl et al., 2015; sizes and times are our own profile TP1's).
use Rattle.std.specs.Prelude.{ℕ, ◌+◌, ◌*◌, true, false, ◌==◌, List, [], ◌∷◌}
use Rattle.shared_order.specs.Program.{Prog, sets, first, others}
use Rattle.argo_ni.specs.declared.packet.Payload.{Payload}
use Rattle.argo_ni.specs.declared.packet.Payload.TheVariants.{One, Two}
use Rattle.argo_ni.specs.declared.packet.Packet.{Packet}
use Rattle.local_store.specs.declared.map.TheConstants.{COMM_WORDS, SHARED_WORDS}

-- the number, among all shared words, of a word of a core's communication memory: the words of
-- shared memory come first, and then those of each core
abbrev pub comm_word : ℕ → ℕ → ℕ
comm_word core word = SHARED_WORDS + COMM_WORDS * core + word

-- the words that are carried, in their order
abbrev pub carried : Payload → List ℕ
carried (One word) = word ∷ []
carried (Two word next) = word ∷ next ∷ []

-- what is carried where so many words are left and these were read: the last word goes alone
abbrev pub payload : ℕ → List ℕ → Payload
payload left values = elim (left == 1) [
  | true ↦ One (first values)
  | false ↦ Two (first values) (first (others values))
]

-- the packets come to their words, one after another
abbrev pub written : {X : Type 0} → List Packet → Prog X → Prog X
written [] rest = rest
written (p ∷ ps) rest = sets (comm_word p.target p.first) (carried p.payload) (written ps rest)

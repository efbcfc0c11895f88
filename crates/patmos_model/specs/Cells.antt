-- To be believed. The cells of memory that an address names: reading and writing them. Words of shared memory and of
-- the communication memories are on the board, where other cores reach them too; all else is the
-- core's own.
use Rattle.std.specs.Prelude.{ℕ, ◌+◌, ◌*◌, ◌/◌, true, false, ◌==◌, List, [], ◌∷◌, ◌++◌, Option, None, Some}
use Rattle.shared_order.specs.Words.{put}
use Rattle.shared_order.specs.Program.{Prog, done, get, set, gets}
use Rattle.local_store.specs.declared.map.Space.{Space}
use Rattle.local_store.specs.declared.map.Cell.{Cell}
use Rattle.local_store.specs.declared.map.Cell.TheVariants as cell
use Rattle.local_store.specs.Map.{cell_at}
use Rattle.argo_ni.specs.Interface.{port_to}
use Rattle.argo_ni.specs.Packet.{comm_word}
use Rattle.argo_ni.specs.Start.{with_source, with_target, started}
use Rattle.patmos_instr.specs.declared.memories.Width.{Width}
use Rattle.patmos_instr.specs.declared.memories.StoreWidth.{StoreWidth}
use Rattle.patmos_instr.specs.declared.memories.StoreWidth.TheVariants as store
use Rattle.patmos_sem.specs.Bundles.{arrived}
use Rattle.patmos_sem.specs.Narrow.{picked, merged}
use Rattle.patmos_model.specs.declared.pending_store.PendingStore.{PendingStore}
use Rattle.patmos_model.specs.State.{Plain, Core, with_plain}

-- the address of the word that holds an address
abbrev pub word_address : ℕ → ℕ
word_address address = address / 4 * 4

-- the cell of the word that holds an address, where there is one
abbrev pub cell_of : Space → ℕ → Option Cell
cell_of space address = cell_at space (word_address address)

-- the core, and what it still has to store at the same stamp
pub record Acted : Type 0 where
  pub core : Core
  pub pending_store : Option PendingStore

-- the act is done
abbrev pub now : Core → Prog Acted
now c = done (record { core = c; pending_store = None })

-- a load's value, taken from the word that holds its address, is on its way into a register
abbrev pub with_value : ℕ → Width → ℕ → ℕ → Plain → Plain
with_value rd width address word x =
    record x { regs = arrived rd (picked width address word) x.regs }

-- goes on with the word in a cell; of the interface's registers it is the words not yet injected
abbrev pub reading : Option Cell → Plain → (ℕ → Prog Acted) → Prog Acted
reading place x go_on = elim place [
  | None ↦ go_on 0
  | Some c ↦ elim c [
    | cell.Scratch word ↦ go_on (x.scratch word)
    | cell.Private word ↦ go_on (x.private word)
    | cell.Comm word ↦ get (comm_word x.site.core word) go_on
    | cell.Shared word ↦ get word go_on
    | cell.Port core register ↦ go_on (port_to x.interface core).channel.left
  ]
]

-- four words of nothing
abbrev pub no_line : List ℕ
no_line = 0 ∷ 0 ∷ 0 ∷ 0 ∷ []

-- goes on with the four words of a line, of which this is the first cell
abbrev pub reading_line : Option Cell → Plain → (List ℕ → Prog Acted) → Prog Acted
reading_line place x go_on = elim place [
  | None ↦ go_on no_line
  | Some c ↦ elim c [
    | cell.Scratch word ↦ go_on no_line
    | cell.Private word ↦
        go_on (x.private word ∷ x.private (word + 1) ∷ x.private (word + 2) ∷ x.private (word + 3) ∷ [])
    | cell.Comm word ↦ go_on no_line
    | cell.Shared word ↦ gets 4 word go_on
    | cell.Port core register ↦ go_on no_line
  ]
]

-- stores in a word of the board: a whole word at once; a byte or a half after the word was loaded, so
-- that the rest of it stays
abbrev pub storing : ℕ → StoreWidth → ℕ → ℕ → Core → Prog Acted
storing word width address value c = elim width [
  | store.Word ↦ set word value (now c)
  | store.Half ↦ get word (λ old. done (record {
    core = c;
    pending_store = Some (record { word = word; value = merged store.Half address old value });
  }))
  | store.Byte ↦ get word (λ old. done (record {
    core = c;
    pending_store = Some (record { word = word; value = merged store.Byte address old value });
  }))
]

-- stores in a register of the interface: the source word, the target word, or the count, which starts
-- a transfer
abbrev pub port_set : ℕ → ℕ → ℕ → Core → Core
port_set target register value c = elim (register == 0) [
  | true ↦ with_plain (λ x. record x { interface = with_source target value x.interface }) c
  | false ↦ elim (register == 4) [
    | true ↦ with_plain (λ x. record x { interface = with_target target value x.interface }) c
    | false ↦ record {
      plain = record c.plain { interface = started target value c.plain.interface };
      seen = record c.seen {
        sendings = c.seen.sendings ++ record {
          target = target;
          from = (port_to c.plain.interface target).source;
          to = (port_to c.plain.interface target).target;
          count = value;
        } ∷ [];
      };
    }
  ]
]

-- stores in a cell
abbrev pub writing : Option Cell → StoreWidth → ℕ → ℕ → Core → Prog Acted
writing place width address value c = elim place [
  | None ↦ now c
  | Some found ↦ elim found [
    | cell.Scratch word ↦ now (with_plain
        (λ x. record x { scratch = put word (merged width address (x.scratch word) value) x.scratch }) c)
    | cell.Private word ↦ now (with_plain
        (λ x. record x { private = put word (merged width address (x.private word) value) x.private }) c)
    | cell.Comm word ↦ storing (comm_word c.plain.site.core word) width address value c
    | cell.Shared word ↦ storing word width address value c
    | cell.Port target register ↦ now (port_set target register value c)
  ]
]

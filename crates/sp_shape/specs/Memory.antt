-- To be believed. The words that a task reaches, and the transfers over the network that it starts.
use Rattle.std.specs.Prelude.{ℕ, ◌/◌, ◌*◌, ◌==◌, List, [], ◌∷◌, ◌++◌, Option, None, Some, if◌then◌else◌}
use Rattle.shared_order.specs.Words.{put}
use Rattle.local_store.specs.Map.{cell_at}
use Rattle.local_store.specs.declared.map.Space.TheVariants.{Local, Main}
use Rattle.local_store.specs.declared.map.Cell.{Cell}
use Rattle.local_store.specs.declared.map.Cell.TheVariants.{Scratch, Comm, Port, Private, Shared}
use Rattle.patmos_instr.specs.declared.memories.Mem.{Mem}
use Rattle.patmos_instr.specs.declared.memories.Mem.TheVariants as mem

-- a transfer that was started: so many words, from a word of the own communication memory to a word of another core's
pub record Start : Type 0 where
  pub core : ℕ
  pub source : ℕ
  pub target : ℕ
  pub count : ℕ

-- the words of each memory by their numbers; the source and the target register of the interface for each core; and the
-- transfers that were started, in their order
pub record Memory : Type 0 where
  pub scratch : ℕ → ℕ
  pub comm : ℕ → ℕ
  pub private : ℕ → ℕ
  pub shared : ℕ → ℕ
  pub source : ℕ → ℕ
  pub target : ℕ → ℕ
  pub starts : List Start

-- the cell of the word that holds an address; the stack is no memory of cells
abbrev pub cell_of : Mem → ℕ → Option Cell
cell_of mem.S address = None
cell_of mem.L address = cell_at Local (address / 4 * 4)
cell_of mem.C address = cell_at Main (address / 4 * 4)
cell_of mem.M address = cell_at Main (address / 4 * 4)

-- the word in a cell; how many words a channel has left to send is not told
abbrev pub cell_word : Cell → Memory → ℕ
cell_word (Scratch word) m = m.scratch word
cell_word (Comm word) m = m.comm word
cell_word (Port core register) m = 0
cell_word (Private word) m = m.private word
cell_word (Shared word) m = m.shared word

-- a register of the interface is set: the source word, the target word, or the count, which starts a transfer
abbrev pub with_port : ℕ → ℕ → ℕ → Memory → Memory
with_port core register value m =
    if register == 0 then record m { source = put core value m.source }
    else if register == 4 then record m { target = put core value m.target }
    else record m {
      starts = m.starts
          ++ record { core = core; source = m.source core; target = m.target core; count = value } ∷ [];
    }

abbrev pub with_cell : Cell → ℕ → Memory → Memory
with_cell (Scratch word) value m = record m { scratch = put word value m.scratch }
with_cell (Comm word) value m = record m { comm = put word value m.comm }
with_cell (Port core register) value m = with_port core register value m
with_cell (Private word) value m = record m { private = put word value m.private }
with_cell (Shared word) value m = record m { shared = put word value m.shared }

-- where nothing stands, 0 is read and nothing is set
abbrev pub word_at : Option Cell → Memory → ℕ
word_at None m = 0
word_at (Some cell) m = cell_word cell m

abbrev pub with_word : Option Cell → ℕ → Memory → Memory
with_word None value m = m
with_word (Some cell) value m = with_cell cell value m

-- To be believed. The memory map, in bytes (our own profile TP1, after the address
-- spaces of the Patmos Reference Handbook).
use Rattle.std.specs.Prelude.{◌≡◌, ℕ, ◌<◌, ◌+◌, ◌-◌, ◌*◌, ◌/◌, ◌%◌, ◌&&◌, nat_le, nat_lt, if◌then◌else◌, List, [], ◌∷◌, Option, Some, None}
use Rattle.local_store.specs.declared.map.Space.{Space}
use Rattle.local_store.specs.declared.map.Space.TheVariants.{Local, Main}
use Rattle.local_store.specs.declared.map.Cell.{Cell}
use Rattle.local_store.specs.declared.map.Cell.TheVariants.{Scratch, Comm, Port, Private, Shared}
use Rattle.local_store.specs.declared.map.TheConstants.{COMM_WORDS, SHARED_WORDS}
use Rattle.local_store.specs.declared.store.TheConstants.{PRIVATE_WORDS, SCRATCH_WORDS}

-- so many bytes from an address on, and what stands at a place among them
pub record Region : Type 0 where
  pub first : ℕ
  pub bytes : ℕ
  pub cell : ℕ → Cell

-- the scratchpad, the communication memory, 16 bytes of interface registers for each of 16 targets;
-- private memory and shared memory; a word has 4 bytes
abbrev pub regions : Space → List Region
regions Local =
    record { first = 0; bytes = 4 * SCRATCH_WORDS; cell = λ place. Scratch (place / 4) }
    ∷ record { first = 0x10000; bytes = 4 * COMM_WORDS; cell = λ place. Comm (place / 4) }
    ∷ record { first = 0x20000; bytes = 16 * 16; cell = λ place. Port (place / 16) (place % 16) }
    ∷ []
regions Main =
    record { first = 0; bytes = 4 * PRIVATE_WORDS; cell = λ place. Private (place / 4) }
    ∷ record { first = 0x1000000; bytes = 4 * SHARED_WORDS; cell = λ place. Shared (place / 4) }
    ∷ []

-- what stands at the address in the first region that holds it
abbrev pub cell_among : List Region → ℕ → Option Cell
cell_among [] address = None
cell_among (region ∷ others) address =
    if nat_le region.first address
    && nat_lt address (region.first + region.bytes) then Some (region.cell (address - region.first))
    else cell_among others address

abbrev pub cell_at : Space → ℕ → Option Cell
cell_at space address = cell_among (regions space) address

-- the cell's numbers are those of a word that is there; a register stands at a multiple of 4 bytes
abbrev pub IsInRange : Cell → Type 0
IsInRange (Scratch word) = word < SCRATCH_WORDS
IsInRange (Comm word) = word < COMM_WORDS
IsInRange (Port core register) = (core < 16) × (register < 16) × (register % 4 ≡ 0)
IsInRange (Private word) = word < PRIVATE_WORDS
IsInRange (Shared word) = word < SHARED_WORDS

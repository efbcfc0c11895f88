-- To be believed. Bytes and halves of a word. A word's bytes count from the most significant, at an address that is a
-- multiple of 4 (Patmos Reference Handbook, load and store; Patmos is big-endian).
use Rattle.std.specs.Prelude.{ℕ, ◌+◌, ◌-◌, ◌*◌, ◌/◌, ◌%◌, ◌^◌, nat_lt, if◌then◌else◌, slice_index, slice_set}
use Rattle.std.specs.Int.{w32, to_be_bytes, from_be_bytes}
use Rattle.patmos_instr.specs.declared.memories.Width.{Width}
use Rattle.patmos_instr.specs.declared.memories.Width.TheVariants as load
use Rattle.patmos_instr.specs.declared.memories.StoreWidth.{StoreWidth}
use Rattle.patmos_instr.specs.declared.memories.StoreWidth.TheVariants as store

-- the byte of a word at an address
abbrev pub byte_at : ℕ → ℕ → ℕ
byte_at address word = slice_index (to_be_bytes w32 word) (address % 4)

-- the half of a word at an address, which is a multiple of 2: two bytes, the first the higher
abbrev pub half_at : ℕ → ℕ → ℕ
half_at address word = byte_at address word * 2 ^ 8 + byte_at (address + 1) word

-- a number of some bits as a word, copies of its top bit put before it
abbrev pub extended : ℕ → ℕ → ℕ
extended bits n = if nat_lt n (2 ^ (bits - 1)) then n else n + (2 ^ 32 - 2 ^ bits)

-- a load's value, of the word that holds its address
abbrev pub picked : Width → ℕ → ℕ → ℕ
picked load.Word address word = word
picked load.Half address word = extended 16 (half_at address word)
picked load.Byte address word = extended 8 (byte_at address word)
picked load.HalfUnsigned address word = half_at address word
picked load.ByteUnsigned address word = byte_at address word

-- the word with the byte at an address replaced
abbrev pub with_byte : ℕ → ℕ → ℕ → ℕ
with_byte address byte word = from_be_bytes w32 (slice_set (to_be_bytes w32 word) (address % 4) byte)

-- the word that a store leaves of one that held its address: the low bits of the value in their place
abbrev pub merged : StoreWidth → ℕ → ℕ → ℕ → ℕ
merged store.Word address word value = value
merged store.Half address word value =
    with_byte (address + 1) (value % 2 ^ 8) (with_byte address (value / 2 ^ 8 % 2 ^ 8) word)
merged store.Byte address word value = with_byte address (value % 2 ^ 8) word

-- What a load picks of a word and what a store makes of one are words.
use Rattle.std.proofs.Common.{ℕ, zero, suc, ◌+◌, ◌/◌, ◌%◌, ◌<◌, ◌^◌, [], ◌∷◌, slice_index, slice_set, w32, arith}
use Rattle.std.specs.Int.{from_be_bytes}
use Rattle.std.proofs.lemmas.Bool.Decides.{nat_tests}
use Rattle.patmos_instr.specs.declared.memories.Width.{Width}
use Rattle.patmos_instr.specs.declared.memories.Width.TheVariants as load
use Rattle.patmos_instr.specs.declared.memories.StoreWidth.{StoreWidth}
use Rattle.patmos_instr.specs.declared.memories.StoreWidth.TheVariants as store
use Rattle.patmos_sem.specs.Narrow.{byte_at, half_at, extended, picked, with_byte, merged}
use Rattle.patmos_model.specs.Range.{IsWord}

-- one of four bytes
byte_of : (a b c d i : ℕ) → a < 256 → b < 256 → c < 256 → d < 256 → slice_index (a ∷ b ∷ c ∷ d ∷ []) i < 256
byte_of a b c d zero h k l m = h
byte_of a b c d (suc zero) h k l m = k
byte_of a b c d (suc (suc zero)) h k l m = l
byte_of a b c d (suc (suc (suc zero))) h k l m = m
byte_of a b c d (suc (suc (suc (suc i)))) h k l m = omega arith

-- a byte of a word
byte_small : (address word : ℕ) → byte_at address word < 256
byte_small address word =
    byte_of (word / 256 ^ 3 % 256) (word / 256 ^ 2 % 256) (word / 256 % 256) (word % 256) (address % 4) (omega arith)
    (omega arith) (omega arith) (omega arith)

-- a number of 16 bits as a word
half_extended : (n : ℕ) → n < 2 ^ 16 → IsWord (extended 16 n)
half_extended n h = grind (arith, nat_tests)

-- a number of 8 bits as a word
byte_extended : (n : ℕ) → n < 2 ^ 8 → IsWord (extended 8 n)
byte_extended n h = grind (arith, nat_tests)

-- a half of a word
half_small : (address word : ℕ) → half_at address word < 2 ^ 16
half_small address word = omega (arith, byte_small address word, byte_small (address + 1) word)

-- what a load picks
pub picked_word : (width : Width) (address word : ℕ) → IsWord word → IsWord (picked width address word)
picked_word load.Word address word h = h
picked_word load.Half address word h = half_extended (half_at address word) (half_small address word)
picked_word load.Byte address word h = byte_extended (byte_at address word) (byte_small address word)
picked_word load.HalfUnsigned address word h = omega (arith, half_small address word)
picked_word load.ByteUnsigned address word h = omega (arith, byte_small address word)

-- four bytes as a word, one of them replaced
replaced_word : (a b c d i byte : ℕ) → a < 256 → b < 256 → c < 256 → d < 256 → byte < 256
    → IsWord (from_be_bytes w32 (slice_set (a ∷ b ∷ c ∷ d ∷ []) i byte))
replaced_word a b c d zero byte h k l m n = omega arith
replaced_word a b c d (suc zero) byte h k l m n = omega arith
replaced_word a b c d (suc (suc zero)) byte h k l m n = omega arith
replaced_word a b c d (suc (suc (suc zero))) byte h k l m n = omega arith
replaced_word a b c d (suc (suc (suc (suc i)))) byte h k l m n = omega arith

-- a word with a byte replaced
with_byte_word : (address byte word : ℕ) → byte < 256 → IsWord (with_byte address byte word)
with_byte_word address byte word h =
    replaced_word (word / 256 ^ 3 % 256) (word / 256 ^ 2 % 256) (word / 256 % 256) (word % 256) (address % 4) byte
    (omega arith) (omega arith) (omega arith) (omega arith) h

-- what a store makes
pub merged_word : (width : StoreWidth) (address word value : ℕ) → IsWord word → IsWord value
    → IsWord (merged width address word value)
merged_word store.Word address word value h k = k
merged_word store.Half address word value h k =
    with_byte_word (address + 1) (value % 2 ^ 8) (with_byte address (value / 2 ^ 8 % 2 ^ 8) word) (omega arith)
merged_word store.Byte address word value h k = with_byte_word address (value % 2 ^ 8) word (omega arith)

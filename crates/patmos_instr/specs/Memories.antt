-- To be believed. The numbers of the memories and widths of loads and stores, and each list in the order of its
-- numbers (Patmos Reference Handbook, load and store types).
use Rattle.std.specs.Prelude.{ℕ, ◌%◌, List, [], ◌∷◌, slice_index_or}
use Rattle.patmos_instr.specs.declared.memories.Mem.{Mem}
use Rattle.patmos_instr.specs.declared.memories.Mem.TheVariants as mem
use Rattle.patmos_instr.specs.declared.memories.Width.{Width}
use Rattle.patmos_instr.specs.declared.memories.Width.TheVariants as load
use Rattle.patmos_instr.specs.declared.memories.StoreWidth.{StoreWidth}
use Rattle.patmos_instr.specs.declared.memories.StoreWidth.TheVariants as store

-- a memory
abbrev pub mem_number : Mem → ℕ
mem_number mem.S = 0
mem_number mem.L = 1
mem_number mem.C = 2
mem_number mem.M = 3

abbrev pub mems : List Mem
mems = mem.S ∷ mem.L ∷ mem.C ∷ mem.M ∷ []

-- the memory that a number's low two bits name
abbrev pub mem_of : ℕ → Mem
mem_of n = slice_index_or mems (n % 4) mem.S

-- the width of a load
abbrev pub width_number : Width → ℕ
width_number load.Word = 0
width_number load.Half = 1
width_number load.Byte = 2
width_number load.HalfUnsigned = 3
width_number load.ByteUnsigned = 4

abbrev pub widths : List Width
widths = load.Word ∷ load.Half ∷ load.Byte ∷ load.HalfUnsigned ∷ load.ByteUnsigned ∷ []

-- the width of a store: the first three widths, under the same numbers
abbrev pub store_width_number : StoreWidth → ℕ
store_width_number store.Word = 0
store_width_number store.Half = 1
store_width_number store.Byte = 2

abbrev pub store_widths : List StoreWidth
store_widths = store.Word ∷ store.Half ∷ store.Byte ∷ []

-- Which cell stands at the address of a variable or an element, and what is in it.
use Rattle.std.proofs.Common.{◌≡◌, ℕ, ◌+◌, ◌-◌, ◌*◌, ◌/◌, ◌%◌, ◌^◌, ◌<◌, ◌≤◌, Some, refl, ap, ◌∙◌, arith}
use Rattle.std.proofs.lemmas.Bool.{le-leb, lt-ltb, le-ltb}
use Rattle.local_store.specs.Map.{cell_at}
use Rattle.local_store.specs.declared.map.Cell.{Cell}
use Rattle.local_store.specs.declared.map.Cell.TheVariants as cell
use Rattle.local_store.specs.declared.map.Space.TheVariants.{Local, Main}
use Rattle.local_store.proofs.Cells.{private_at}
use Rattle.c_world.specs.Shown.{room_in}
use Rattle.c_world.specs.World as world
use Rattle.c_world.specs.declared.region.Region.{Region}
use Rattle.c_world.specs.declared.region.Region.TheVariants as region
use Rattle.patmos_sem.specs.Effects.{address_of as address_by}
use Rattle.sp_tree.specs.Formed.{all_rooms, first_of}
use Rattle.sp_shape.specs.Memory.{Memory, cell_of, cell_word, word_at}
use Rattle.sp_shape.specs.Run.{Run, by_words, word_given}
use Rattle.sp_emit.specs.Expressions.{address_of, cell_space, array_space}
use Rattle.sp_emit.specs.Means.{HasWords}

-- the cell of a word of a memory
abbrev pub cell_in : Region → ℕ → Cell
cell_in region.Scratch word = cell.Scratch word
cell_in region.Comm word = cell.Comm word
cell_in region.Private word = cell.Private word
cell_in region.Shared word = cell.Shared word

-- ---- the cell at an address, memory by memory

scratch_at : (word at : ℕ) → at ≡ 4 * word → word < 2048 → cell_at Local at ≡ Some (cell.Scratch word)
scratch_at word at is few =
    rw (le-leb 0 at (omega arith), lt-ltb at (0 + 4 * 2048) (omega (arith, is, few))) (ap (λ n. Some (cell.Scratch n))
    (let e : (at - 0) / 4 ≡ word = omega (arith, is) in e))

comm_at : (word at : ℕ) → at ≡ 0x10000 + 4 * word → word < 512 → cell_at Local at ≡ Some (cell.Comm word)
comm_at word at is few =
    rw (
      le-leb 0 at (omega arith),
      le-ltb at (0 + 4 * 2048) (omega (arith, is)),
      le-leb 0x10000 at (omega (arith, is)),
      lt-ltb at (0x10000 + 4 * 512) (omega (arith, is, few)),
    )
    (ap (λ n. Some (cell.Comm n)) (let e : (at - 0x10000) / 4 ≡ word = omega (arith, is) in e))

shared_at : (word at : ℕ) → at ≡ 0x1000000 + 4 * word → word < 4096 → cell_at Main at ≡ Some (cell.Shared word)
shared_at word at is few =
    rw (
      le-leb 0 at (omega arith),
      le-ltb at (0 + 4 * 65536) (omega (arith, is)),
      le-leb 0x1000000 at
          (omega (arith, is)),
      lt-ltb at (0x1000000 + 4 * 4096) (omega (arith, is, few)),
    )
    (ap (λ n. Some (cell.Shared n)) (let e : (at - 0x1000000) / 4 ≡ word = omega (arith, is) in e))

-- ---- the same, where code looks for it

pub cell_found : (r : Region) (word : ℕ) → word < room_in r all_rooms → cell_of (cell_space r) (address_of r word)
    ≡ Some (cell_in r word)
cell_found region.Scratch word few = scratch_at word ((0 + 4 * word) / 4 * 4) (omega arith) few
cell_found region.Comm word few = comm_at word ((0x10000 + 4 * word) / 4 * 4) (omega arith) few
cell_found region.Private word few = private_at word ((0 + 4 * word) / 4 * 4) (omega arith) (omega (arith, few))
cell_found region.Shared word few = shared_at word ((0x1000000 + 4 * word) / 4 * 4) (omega arith) few

pub element_found : (r : Region) (word : ℕ) → word < room_in r all_rooms → cell_of (array_space r) (address_of r word)
    ≡ Some (cell_in r word)
element_found region.Scratch word few = cell_found region.Scratch word few
element_found other word few = cell_found other word few

pub few_words : (r : Region) → room_in r all_rooms ≤ 49152
few_words region.Scratch = omega arith
few_words _ = omega arith

pub first_small : (r : Region) (word : ℕ) → word ≤ room_in r all_rooms → address_of r word < 2 ^ 32
first_small region.Scratch word few = omega (arith, few)
first_small _ word few = omega (arith, few)

-- so many words after the first
pub element_address : (r : Region) (first index : ℕ) → first + index < room_in r all_rooms
    → address_by ((4 * index + address_of r first) % 2 ^ 32) 0 4 ≡ address_of r (first + index)
element_address region.Scratch first index few = omega (arith, few)
element_address _ first index few = omega (arith, few)

-- ---- what is in it

shown_word : (r : Region) (word : ℕ) (w : world.World) (m : Memory) → HasWords w m → first_of r ≤ word
    → cell_word (cell_in r word) m ≡ world.word_at r word w
shown_word region.Scratch word w m shows from = shows.scratch word
shown_word region.Comm word w m shows from = shows.comm word
shown_word region.Private word w m shows from = shows.private word (omega (arith, from))
shown_word region.Shared word w m shows from = shows.shared word

given_cell : (r : Region) (address : ℕ) (m : Run) → word_given by_words (cell_space r) address m
    ≡ word_at (cell_of (cell_space r) address) m.memory
given_cell region.Scratch address m = refl
given_cell _ address m = refl

given_element : (r : Region) (address : ℕ) (m : Run) → word_given by_words (array_space r) address m
    ≡ word_at (cell_of (array_space r) address) m.memory
given_element region.Scratch address m = refl
given_element _ address m = refl

pub cell_given : (r : Region) (word : ℕ) (w : world.World) (m : Run) → HasWords w m.memory → first_of r ≤ word
    → word < room_in r all_rooms
    → word_given by_words (cell_space r) (address_of r word) m ≡ world.word_at r word w
cell_given r word w m shows from few = given_cell r (address_of r word) m
    ∙ ap (λ c. word_at c m.memory) (cell_found r word few) ∙ shown_word r word w m.memory shows from

pub element_given : (r : Region) (word : ℕ) (w : world.World) (m : Run) → HasWords w m.memory → first_of r ≤ word
    → word < room_in r all_rooms
    → word_given by_words (array_space r) (address_of r word) m ≡ world.word_at r word w
element_given r word w m shows from few = given_element r (address_of r word) m
    ∙ ap (λ c. word_at c m.memory) (element_found r word few) ∙ shown_word r word w m.memory shows from

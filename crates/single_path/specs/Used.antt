-- To be believed. What a tree does with memories, and what of its program that comes from: a name stands for a slot
-- outside functions, and the tree reads or writes the slot's words there.
use Rattle.std.specs.Prelude.{◌≡◌, ◌⊎◌, ℕ, ◌==◌, Bool, true, false, List, [], ◌∷◌}
use Rattle.c_tree.specs.declared.layout.Slot.{Slot}
use Rattle.c_world.specs.declared.region.Region.{Region}
use Rattle.c_world.specs.declared.region.Region.TheVariants as region
use Rattle.sp_tree.specs.Uses.{Use, reads_cell, reads_array, writes_cell, writes_array, sends_to}
use Rattle.c_meaning.specs.Resolve.{slot_cell, slot_array}
use Rattle.c_meaning.specs.Scope.{outside}
use Rattle.c_mentions.specs.Mentions.{Array, comm_array, shared_array}
use Rattle.c_mentions.specs.Uses.{reads, sets, sends}
use Rattle.c_mentions.specs.Uses as source

-- ---- from uses of the program

-- a use of the program, and one of the tree that it is made to
abbrev pub IsMadeTo : source.Use → Use → Type 0
IsMadeTo s (reads_cell cell) = (slot : Slot) × (s ≡ reads (outside slot)) × (cell ≡ slot_cell slot)
IsMadeTo s (reads_array array) = (slot : Slot) × (s ≡ reads (outside slot)) × (array ≡ slot_array slot)
IsMadeTo s (writes_cell cell) = (slot : Slot) × (s ≡ sets (outside slot)) × (cell ≡ slot_cell slot)
IsMadeTo s (writes_array array) = (slot : Slot) × (s ≡ sets (outside slot)) × (array ≡ slot_array slot)
IsMadeTo s (sends_to core) = s ≡ sends core

-- one of these is made to a use of the tree
abbrev pub ComesFrom : List source.Use → Use → Type 0
ComesFrom [] u = ⊥
ComesFrom (s ∷ ss) u = IsMadeTo s u ⊎ ComesFrom ss u

-- ---- memories that are read and written, and cores that are sent to

abbrev pub same_region : Region → Region → Bool
same_region region.Scratch region.Scratch = true
same_region region.Comm region.Comm = true
same_region region.Private region.Private = true
same_region region.Shared region.Shared = true
same_region _ _ = false

abbrev pub reads_region : Region → Use → Bool
reads_region r (reads_cell cell) = same_region r cell.region
reads_region r (reads_array array) = same_region r array.region
reads_region r _ = false

abbrev pub writes_region : Region → Use → Bool
writes_region r (writes_cell cell) = same_region r cell.region
writes_region r (writes_array array) = same_region r array.region
writes_region r _ = false

abbrev pub is_send_to : ℕ → Use → Bool
is_send_to core (sends_to to) = to == core
is_send_to core _ = false

-- the memory in which each array that a task is given stands
abbrev pub memory_of : Array → Region
memory_of comm_array = region.Comm
memory_of shared_array = region.Shared

-- To be believed. Which words that other cores reach a tree names, and which cores.
use Rattle.std.specs.Prelude.{◌≡◌, ℕ, ◌<◌, ◌⊎◌}
use Rattle.c_world.specs.declared.region.Region.{Region}
use Rattle.c_world.specs.declared.region.Region.TheVariants as region
use Rattle.argo_ni.specs.Packet.{comm_word}
use Rattle.local_store.specs.declared.map.TheConstants.{COMM_WORDS, SHARED_WORDS}
use Rattle.sp_tree.specs.Uses.{Use, reads_cell, reads_array, writes_cell, writes_array, sends_to}
use Rattle.sp_tree.specs.declared.expressions.SpArray.{SpArray}
use Rattle.sp_tree.specs.declared.expressions.SpCell.{SpCell}

module _ (Named : Use → Type 0) where
  -- a variable or an element of the region is read, or written
  abbrev pub ReadsIn : Region → Type 0
  ReadsIn r =
      ((c : SpCell) × (Named (reads_cell c) × (c.region ≡ r)))
      ⊎ ((a : SpArray) × (Named (reads_array a) × (a.region ≡ r)))

  abbrev pub WritesIn : Region → Type 0
  WritesIn r =
      ((c : SpCell) × (Named (writes_cell c) × (c.region ≡ r)))
      ⊎ ((a : SpArray) × (Named (writes_array a) × (a.region ≡ r)))

  -- a word of shared memory, where the tree reads one; or one of the own
  -- communication memory, where it reads one of these
  abbrev pub MayLoadWord : ℕ → ℕ → Type 0
  MayLoadWord core word =
      ((word < SHARED_WORDS) × ReadsIn region.Shared)
      ⊎ ((k : ℕ) × ((k < COMM_WORDS) × ((word ≡ comm_word core k) × ReadsIn region.Comm)))

  abbrev pub MayStoreWord : ℕ → ℕ → Type 0
  MayStoreWord core word =
      ((word < SHARED_WORDS) × WritesIn region.Shared)
      ⊎ ((k : ℕ) × ((k < COMM_WORDS) × ((word ≡ comm_word core k) × WritesIn region.Comm)))

  abbrev pub MaySendTo : ℕ → Type 0
  MaySendTo core = Named (sends_to core)

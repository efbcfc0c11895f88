-- To be believed. A slot table gives each slot of the period to a core (time-division multiplexing of main memory:
-- Schoeberl et al., T-CREST, 2015; the numbers are those of our own profile TP1).
use Rattle.std.specs.Prelude.{◌≡◌, ℕ, ◌-◌, ◌%◌, ◌≤◌, Bool, ◌&&◌, ◌==◌, nat_lt, nat_le, List, ◌++◌, length, take, replicate, slice_index}
use Rattle.std.specs.List.{list_all, list_any, range_with_len}

-- whether the core has an entry in the table
abbrev pub has_entry : List ℕ → ℕ → Bool
has_entry table core = list_any (λ entry. entry == core) table

-- whether a platform may have that many cores, 1 to 16, and its table that many entries, 1 to 64
abbrev pub is_size : ℕ → ℕ → Bool
is_size cores entries = nat_le 1 cores && nat_le cores 16 && nat_le 1 entries && nat_le entries 64

-- whether the list is a slot table for that many cores: each entry is a core, and each core has
-- an entry
abbrev pub is_table : ℕ → List ℕ → Bool
is_table cores table =
    is_size cores (length table)
    && list_all (λ entry. nat_lt entry cores) table
    && list_all (has_entry table) (range_with_len 0 cores)

-- the table of a platform that states none: the cores in their order, each with one slot
abbrev pub in_turn : ℕ → List ℕ
in_turn cores = range_with_len 0 cores

-- whether the k-th slot, counted from cycle 0, is the core's: the table repeats for ever
abbrev pub is_owned : List ℕ → ℕ → ℕ → Bool
is_owned table core k = slice_index table (k % length table) == core

-- a table's 64 places: the first of them, 1 to 64, are its entries, and the others are 0
pub record IsPadded (len : ℕ) (places : List ℕ) : Type 0 where
  pub some : 1 ≤ len
  pub most : len ≤ 64
  pub held : len ≤ length places
  pub rest : places ≡ take len places ++ replicate (64 - len) 0

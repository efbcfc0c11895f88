-- To be believed. The slots of a core in cycles (Schoeberl et al., T-CREST, 2015; slot tables are our own profile
-- TP1). A slot lasts the same number of cycles whoever owns it.
use Rattle.std.specs.Prelude.{ℕ, ◌*◌, ◌/◌, ◌%◌, Bool, ◌&&◌, ◌==◌, List, length}
use Rattle.slot_arbiter.specs.Table.{is_owned}

-- whether a slot of the core starts at the cycle
abbrev pub is_slot_start : List ℕ → ℕ → ℕ → ℕ → Bool
is_slot_start table slot core cycle = (cycle % slot == 0) && is_owned table core (cycle / slot)

-- the cycles after which the table begins again
abbrev pub period : List ℕ → ℕ → ℕ
period table slot = length table * slot

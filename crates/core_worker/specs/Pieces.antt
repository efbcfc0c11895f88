-- To be believed. The pieces in which a worker runs its core: each ends at a multiple of 1,024 cycles or
-- at the limit, and its end is published as a stamp.
use Rattle.std.specs.Prelude.{◌≡◌, ℕ, ◌+◌, ◌*◌, ◌<◌, min, List, [], ◌∷◌, ◌++◌}
use Rattle.std.specs.List.{Contains}
use Rattle.clock_board.specs.Record.{clock_of}

-- the end of the piece after a cycle
abbrev pub piece_end : ℕ → ℕ → ℕ
piece_end limit reached = min limit (reached + 1024)

-- the stamp of a cycle's beginning, of n cores
abbrev pub stamp_from : ℕ → ℕ → ℕ
stamp_from n cycle = 2 * cycle * n

-- the list ends with the stamp
abbrev pub EndsWith : ℕ → List ℕ → Type 0
EndsWith stamp list = (prefix : List ℕ) × (list ≡ prefix ++ stamp ∷ [])

-- the end of each piece that lies before the clock was published
abbrev pub ShowsPieces : ℕ → List ℕ → Type 0
ShowsPieces n published = (h : ℕ) → 0 < h → stamp_from n (1024 * h) < clock_of published
    → Contains published (stamp_from n (1024 * h))

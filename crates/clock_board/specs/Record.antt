-- To be believed. The record of one core: what it has made, published and seen.
use Rattle.std.specs.Prelude.{ℕ, ◌-◌, ◌==◌, max, if◌then◌else◌, List, [], ◌∷◌, ◌++◌, length, slice_index}
use Rattle.shared_order.specs.declared.operation.Operation.{Operation}
use Rattle.clock_board.specs.declared.known.Look.{Look}
use Rattle.clock_board.specs.declared.known.Record.{Record}

-- what a clock shows whose core has published these numbers: the last of them, or 0 where there is
-- none
abbrev pub clock_of : List ℕ → ℕ
clock_of published = slice_index published (length published - 1)

-- the greatest look at core d, or 0 where there is none
abbrev pub greatest : ℕ → List Look → ℕ
greatest d [] = 0
greatest d (l ∷ ls) = max (if l.core == d then l.seen else 0) (greatest d ls)

-- the record of a core that has made, published and seen nothing
abbrev pub empty : ℕ → Record
empty core = record { core = core; made = []; published = []; looks = [] }

-- the record with one look more
abbrev pub with_look : Record → ℕ → ℕ → Record
with_look r d seen = record r { looks = r.looks ++ record { core = d; seen = seen } ∷ [] }

-- the record with one published stamp more
abbrev pub with_stamp : Record → ℕ → Record
with_stamp r stamp = record r { published = r.published ++ stamp ∷ [] }

-- the record with one operation more
abbrev pub with_operation : Record → Operation → Record
with_operation r o = record r { made = r.made ++ o ∷ [] }

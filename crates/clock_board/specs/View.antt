-- To be believed. What a pass knows: how many cores there are, the course, and the records that it has.
use Rattle.std.specs.Prelude.{◌≡◌, ◌≢◌, ℕ, ◌<◌, ◌≤◌, List, [], ◌∷◌, ◌++◌, length, drop}
use Rattle.shared_order.specs.declared.operation.Operation.{Operation}
use Rattle.shared_order.specs.Operation.{operations_of}
use Rattle.clock_board.specs.declared.known.Record.{Record}
use Rattle.clock_board.specs.declared.known.Holding.{Holding}
use Rattle.clock_board.specs.declared.known.Holding.TheVariants.{Maker, Claiming, Given, Spent}
use Rattle.clock_board.specs.declared.known.View.{View}
use Rattle.clock_board.specs.Record.{empty, greatest}

-- the records that it has: the maker's are those that came back
abbrev pub records_of : Holding → List Record
records_of (Maker back) = back
records_of Claiming = []
records_of (Given r) = r ∷ []
records_of Spent = []

-- the record of a core's pass, or an empty one where it is no core's
abbrev pub own_of : Holding → Record
own_of (Given r) = r
own_of (Maker back) = empty 0
own_of Claiming = empty 0
own_of Spent = empty 0

-- the pass's own record
abbrev pub own : View → Record
own v = own_of v.holding

-- the records that came back to the maker, or none where it is not the maker
abbrev pub back_of : Holding → List Record
back_of (Maker back) = back
back_of Claiming = []
back_of (Given r) = []
back_of Spent = []

-- the records that came back to the maker's pass
abbrev pub back : View → List Record
back v = back_of v.holding

-- the view of the maker's pass of a new board
abbrev pub maker : ℕ → List Operation → View
maker cores course = record { cores = cores; course = course; holding = Maker [] }

-- the view of the same course with other records
abbrev pub with_holding : View → Holding → View
with_holding v h = record { cores = v.cores; course = v.course; holding = h }

-- the view of a pass that was split off and has no core yet
abbrev pub claiming : View → View
claiming v = with_holding v Claiming

-- the view of a core's pass with this record
abbrev pub given : View → Record → View
given v r = with_holding v (Given r)

-- the maker's view with one record more
abbrev pub with_back : View → Record → View
with_back v r = with_holding v (Maker (back v ++ r ∷ []))

-- the maker's view with the records of a pass that is taken back
abbrev pub joined : View → View → View
joined v w = with_holding v (Maker (back v ++ records_of w.holding))

-- the view of a pass that was taken back
abbrev pub spent : View
spent = record { cores = 0; course = []; holding = Spent }

-- the operations of the pass's core that it has still to make
abbrev pub todo : View → List Operation
todo v = drop (length (own v).made) (operations_of v.cores (own v).core v.course)

-- it is the pass that the board was made with
abbrev pub IsMaker : View → Type 0
IsMaker v = v.holding ≡ Maker (back v)

-- it is a core's pass, and what it has made begins the course's list of that core
pub record IsGiven (v : View) : Type 0 where
  pub role : v.holding ≡ Given (own v)
  pub among : (own v).core < v.cores
  pub whole : operations_of v.cores (own v).core v.course ≡ (own v).made ++ todo v

-- this is the operation that it has to make next
abbrev pub IsNext : View → Operation → Type 0
IsNext v o = (left : List Operation) × (todo v ≡ o ∷ left)

-- it has seen the clock of every other core at or past the stamp
abbrev pub HasSeen : View → ℕ → Type 0
HasSeen v stamp = (d : ℕ) → d < v.cores → d ≢ (own v).core → stamp ≤ greatest d (own v).looks

-- To be believed. The rule of the board in words: what holds of it between any two steps.
use Rattle.std.specs.Prelude.{◌≡◌, ◌≢◌, ◌⊎◌, ℕ, ◌+◌, ◌<◌, ◌≤◌, List, [], ◌++◌, length}
use Rattle.std.specs.List.{AllByRecursion as Each}
use Rattle.std.specs.List.Sorted.{IsNonDecreasing}
use mathlib.Core.Option.{some}
use lib.ListN.{get_elem?}
use Rattle.shared_order.specs.declared.operation.Operation.{Operation}
use Rattle.shared_order.specs.Operation.{operations_of}
use Rattle.shared_order.specs.Order.{GoesOn}
use Rattle.shared_order.specs.Words.{stored_last}
use Rattle.clock_board.specs.declared.known.Look.{Look}
use Rattle.clock_board.specs.declared.known.Record.{Record}
use Rattle.clock_board.specs.declared.known.View.{View}
use Rattle.clock_board.specs.Record.{clock_of}
use Rattle.clock_board.specs.View.{records_of}
use Rattle.clock_board.specs.Rule.{clock, claim, cell}

-- the list begins with these
abbrev pub IsPrefix : List Operation → List Operation → Type 0
IsPrefix prefix whole = (rest : List Operation) × (whole ≡ prefix ++ rest)

-- the k-th record of view number id is r: a core's pass has one record, the maker's those that came
-- back, and a pass that has no core yet or was taken back has none
pub record IsAt (seats : List View) (id k : ℕ) (r : Record) : Type 0 where
  pub view : View
  pub seat : get_elem? seats id ≡ some view
  pub entry : get_elem? (records_of view.holding) k ≡ some r

-- the core's pass was not given: claim word and clock are 0, no view has a record of the core, and of
-- what was made, `done`, nothing is its
pub record IsFree (n : ℕ) (words : List ℕ) (seats : List View) (done : List Operation) (core : ℕ) :
    Type 0 where
  pub bit : claim n words core ≡ 0
  pub shows : clock words core ≡ 0
  pub made : operations_of n core done ≡ []
  pub none : (id k : ℕ) (r : Record) → IsAt seats id k r → r.core ≢ core

-- the core's pass was given: its claim word is 1, and one view has its record, in one place
pub record IsHeld (n : ℕ) (words : List ℕ) (seats : List View) (core : ℕ) : Type 0 where
  pub bit : claim n words core ≡ 1
  pub id : ℕ
  pub place : ℕ
  pub kept : Record
  pub at : IsAt seats id place kept
  pub own : kept.core ≡ core
  pub only : (id' k : ℕ) (r : Record) → IsAt seats id' k r → r.core ≡ core →
      (id' ≡ id) × (k ≡ place)

-- What a record tells. The clock shows the stamp that its core has published last, or 0, and the
-- stamps that it has published do not fall. What the core has made begins its list, and all that is
-- left of the list is at or past its clock. No look showed more than the clock that was looked at
-- shows now. Each operation that it has made is at or before the clock of every other core.
pub record Tells (n : ℕ) (all : List Operation) (words : List ℕ) (r : Record) : Type 0 where
  pub among : r.core < n
  pub shows : clock words r.core ≡ clock_of r.published
  pub climbs : IsNonDecreasing r.published
  pub list : GoesOn (clock words r.core) r.made (operations_of n r.core all)
  pub looks : Each (λ (l : Look). (l.core < n) × (l.seen ≤ clock words l.core)) r.looks
  pub behind : Each (λ (o : Operation). (d : ℕ) → d < n → d ≢ r.core → o.stamp ≤ clock words d)
      r.made

-- What all passes have made, `done`, begins the course, values included; each record has its core's
-- part of it; and each shared word has the value of the last store to it among them, or 0.
pub record HoldsInWords (n : ℕ) (all : List Operation) (words : List ℕ) (seats : List View) : Type 0 where
  pub done : List Operation
  pub begins : IsPrefix done all
  pub claims : (core : ℕ) → core < n → IsFree n words seats done core ⊎ IsHeld n words seats core
  pub made : (id k : ℕ) (r : Record) → IsAt seats id k r → r.made ≡ operations_of n r.core done
  pub records : (id k : ℕ) (r : Record) → IsAt seats id k r → Tells n all words r
  pub cells : (w : ℕ) → n + n + w < length words → cell n words w ≡ stored_last w done 0

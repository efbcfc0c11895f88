-- To be believed. The rule of the board, in the form in which each step keeps it: what holds of the words and of all
-- views between any two steps. Core c's clock is word c, its claim word n + c, and shared word w is
-- word n + n + w.
use Rattle.std.specs.Prelude.{◌≡◌, ◌≢◌, ℕ, ◌+◌, ◌%◌, ◌==◌, ◌<◌, ◌≤◌, if◌then◌else◌, List, [], ◌++◌, length, slice_index, sum_by}
use Rattle.std.specs.List.{AllByRecursion as Each}
use Rattle.std.specs.List.Sorted.{IsNonDecreasing}
use mathlib.Core.Option.{some}
use lib.ListN.{get_elem?}
use Rattle.shared_order.specs.declared.operation.Operation.{Operation}
use Rattle.shared_order.specs.Operation.{operations_of}
use Rattle.shared_order.specs.Words.{stored_last}
use Rattle.shared_order.specs.Course.{IsCourse}
use Rattle.clock_board.specs.declared.known.Look.{Look}
use Rattle.clock_board.specs.declared.known.Record.{Record}
use Rattle.clock_board.specs.declared.known.Holding.TheVariants.{Spent}
use Rattle.clock_board.specs.declared.known.View.{View}
use Rattle.clock_board.specs.Record.{clock_of}
use Rattle.clock_board.specs.View.{records_of}

-- the clock of a core
abbrev pub clock : List ℕ → ℕ → ℕ
clock words core = slice_index words core

-- the claim word of a core, of n cores: 1 where its pass was given
abbrev pub claim : ℕ → List ℕ → ℕ → ℕ
claim n words core = slice_index words (n + core)

-- a shared word
abbrev pub cell : ℕ → List ℕ → ℕ → ℕ
cell n words w = slice_index words (n + n + w)

-- 1 for a record of the core
abbrev pub is_of : ℕ → Record → ℕ
is_of core r = if r.core == core then 1 else 0

-- how many records of the core a view has
abbrev pub in_view : ℕ → View → ℕ
in_view core v = sum_by (is_of core) (records_of v.holding)

-- how many records of the core all views have
abbrev pub holders : ℕ → List View → ℕ
holders core views = sum_by (in_view core) views

-- a record tells what its core has made, published and seen, where `done` is all that was made
pub record IsTrueRecord (n : ℕ) (words : List ℕ) (done : List Operation) (r : Record) : Type 0 where
  pub among : r.core < n
  pub made : r.made ≡ operations_of n r.core done
  pub shows : clock words r.core ≡ clock_of r.published
  pub climbs : IsNonDecreasing r.published
  pub looks : Each (λ (l : Look). (l.core < n) × (l.seen ≤ clock words l.core)) r.looks

-- a view of the course: its records tell what is so
pub record IsTrueView (n : ℕ) (all : List Operation) (words : List ℕ) (done : List Operation)
    (v : View) : Type 0 where
  pub cores : v.holding ≢ Spent → v.cores ≡ n
  pub course : v.holding ≢ Spent → v.course ≡ all
  pub records : Each (IsTrueRecord n words done) (records_of v.holding)

-- a core whose claim word is 1 has one record; one whose claim word is 0 has none, and has published
-- and made nothing
pub record IsClaimedOnce (n : ℕ) (words : List ℕ) (done : List Operation) (views : List View)
    (core : ℕ) : Type 0 where
  pub bit : claim n words core ≤ 1
  pub one : holders core views ≡ claim n words core
  pub idle_clock : claim n words core ≡ 0 → clock words core ≡ 0
  pub idle_made : claim n words core ≡ 0 → operations_of n core done ≡ []

-- the rule, for a course of n cores: all its operations are those that were made, `done`, and then
-- the rest
pub record Kept (n : ℕ) (all : List Operation) (asked : ℕ → List ℕ → List Operation)
    (words : List ℕ) (seats : List View) : Type 0 where
  pub done : List Operation
  pub rest : List Operation
  pub order : all ≡ done ++ rest
  pub shared : ℕ
  pub wide : length words ≡ n + n + shared
  pub course : IsCourse n shared all asked
  pub claims : (core : ℕ) → core < n → IsClaimedOnce n words done seats core
  pub views : (id : ℕ) (v : View) → get_elem? seats id ≡ some v → IsTrueView n all words done v
  -- no clock is past what its core has still to make
  pub clocks : Each (λ (o : Operation). clock words (o.stamp % n) ≤ o.stamp) rest
  -- all clocks but its own are at or past what was made
  pub passed : Each (λ (o : Operation). (d : ℕ) → d < n → d ≢ o.stamp % n → o.stamp ≤ clock words d) done
  pub cells : (w : ℕ) → w < shared → cell n words w ≡ stored_last w done 0

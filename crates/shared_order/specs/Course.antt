-- To be believed. A course: all operations of all cores in their order, and what each core asks for. A board that
-- lets the cores act in the order of their stamps needs to know no more of them.
use Rattle.std.specs.Prelude.{◌≡◌, ℕ, ◌<◌, Option, option_map, slice_get, List, [], ◌∷◌}
use Rattle.std.specs.List.{AllByRecursion as Each}
use Rattle.shared_order.specs.declared.operation.Operation.{Operation}
use Rattle.shared_order.specs.Operation.{loads, operations_of, asking}
use Rattle.shared_order.specs.Order.{Rising}
use Rattle.shared_order.specs.Words.{Reads}
use Rattle.shared_order.specs.Fit.{Fits}

-- What a core makes when its loads give these values and when they give those: it asks for the same
-- first operation; where that has one value in both, it asks for the same next one; and so on. So
-- what it asks for next depends on the values that were loaded before alone.
abbrev pub SameWhileRead : List Operation → List Operation → Type 0
SameWhileRead [] [] = Unit {0}
SameWhileRead [] (o' ∷ os') = ⊥
SameWhileRead (o ∷ os) [] = ⊥
SameWhileRead (o ∷ os) (o' ∷ os') = (asking o ≡ asking o') × (o ≡ o' → SameWhileRead os os')

-- what is asked for after the first k operations of a list: nothing where they are all
abbrev pub asked_next : ℕ → List Operation → Option Operation
asked_next k os = option_map asking (slice_get os k)

-- `all` is every operation of the n cores, and `asked core values` what the core asks for when its
-- loads give the values
pub record IsCourse (n words : ℕ) (all : List Operation)
    (asked : ℕ → List ℕ → List Operation) : Type 0 where
  pub some_core : 0 < n
  pub rising : Rising all
  pub fits : Each (Fits words) all
  pub reads : Reads [] all
  pub parts : (core : ℕ) → core < n → asked core (loads (operations_of n core all)) ≡ operations_of n core all
  pub determined : (core : ℕ) (values values' : List ℕ) → core < n →
      SameWhileRead (asked core values) (asked core values')

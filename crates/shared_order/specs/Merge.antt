-- To be believed. What makes a list of operations the machine's own: enough to know it without following the
-- machine from state to state.
use Rattle.std.specs.Prelude.{◌≡◌, ℕ, ◌<◌, ◌≤◌, List, []}
use Rattle.std.specs.List.{AllByRecursion as Each}
use Rattle.shared_order.specs.declared.operation.Operation.{Operation}
use Rattle.shared_order.specs.Operation.{loads, operations_of}
use Rattle.shared_order.specs.Order.{Rising}
use Rattle.shared_order.specs.Words.{Reads}
use Rattle.shared_order.specs.Program.{Prog}
use Rattle.shared_order.specs.Apart.{apart}

-- a list on the way to be one, up to stamp s
pub record IsMerging (made : List Operation) (s : ℕ) : Type 0 where
  pub rising : Rising made
  pub reads : Reads [] made
  pub low : Each (λ o. o.stamp ≤ s) made

-- the list does not fall, its loads have what was stored last, and the part of each core is what
-- that core makes apart when its loads give what they have there
pub record IsMerge {X : Type 0} (turn : ℕ → ℕ → X → Prog X) (n : ℕ) (cores : ℕ → X)
    (t : ℕ) (all : List Operation) : Type 0 where
  pub rising : Rising all
  pub reads : Reads [] all
  pub parts : (core : ℕ) → core < n →
      (apart turn n core (cores core) (loads (operations_of n core all)) t).made ≡ operations_of n core all

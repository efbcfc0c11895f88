-- To be believed. The order of operations: by stamp, and operations of one stamp in the order in which the core
-- makes them.
use Rattle.std.specs.Prelude.{◌≡◌, ℕ, ◌≤◌, List, [], ◌∷◌, ◌++◌}
use Rattle.std.specs.List.{AllByRecursion as Each}
use Rattle.shared_order.specs.declared.operation.Operation.{Operation}

-- the stamps do not fall along the list
abbrev pub Rising : List Operation → Type 0
Rising [] = Unit {0}
Rising (o ∷ os) = Each (λ later. o.stamp ≤ later.stamp) os × Rising os

-- the list is `made` and then operations at or after stamp s
pub record GoesOn (s : ℕ) (made all : List Operation) : Type 0 where
  pub later : List Operation
  pub whole : all ≡ made ++ later
  pub from : Each (λ o. s ≤ o.stamp) later

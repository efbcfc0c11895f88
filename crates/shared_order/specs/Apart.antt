-- To be believed. A core run apart from the others: what it would do if its loads gave the values of a list, one
-- after another. Nothing of the other cores is seen but by these values.
use Rattle.std.specs.Prelude.{ℕ, zero, suc, List, [], ◌++◌}
use Rattle.slot_arbiter.specs.Stamp.{stamp}
use Rattle.shared_order.specs.declared.operation.Operation.{Operation}
use Rattle.shared_order.specs.Program.{Prog, Fed, fed}

-- the core, the values that it has not used yet, and the operations that it made
pub record Alone (X : Type 0) : Type 0 where
  pub core : X
  pub left : List ℕ
  pub made : List Operation

-- before the first cycle
abbrev pub alone : {X : Type 0} → X → List ℕ → Alone X
alone x values = record { core = x; left = values; made = [] }

-- after one more program was fed, where these operations were made before
abbrev pub gone_on : {X : Type 0} → Fed X → List Operation → Alone X
gone_on p made = record { core = p.core; left = p.left; made = made ++ p.ops }

module _ {X : Type 0} (turn : ℕ → ℕ → X → Prog X) (n : ℕ) where
  -- the turn of a core in one phase of a cycle
  abbrev pub turn_apart : ℕ → ℕ → ℕ → Alone X → Alone X
  turn_apart cycle phase core a =
      gone_on (fed (stamp n core cycle phase) (turn phase cycle a.core) a.left) a.made

  -- core number `core`, that begins as x, after the cycles 0 to t - 1, where its loads give the
  -- values
  abbrev pub apart : ℕ → X → List ℕ → ℕ → Alone X
  apart core x values zero = alone x values
  apart core x values (suc t) = turn_apart t 1 core (turn_apart t 0 core (apart core x values t))

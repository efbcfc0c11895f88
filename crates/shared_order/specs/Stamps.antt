-- To be believed. The machine by stamps: the core that a stamp names takes its turn, in the order of the stamps.
-- It is the machine by cycles told one act at a time.
use Rattle.std.specs.Prelude.{ℕ, zero, suc, true, false, ◌/◌, ◌%◌, ◌==◌, List}
use Rattle.shared_order.specs.Program.{Prog, played, fed}
use Rattle.shared_order.specs.Machine.{State, start, moved}
use Rattle.shared_order.specs.Apart.{Alone, alone, gone_on}

-- what is done at a stamp: its cycle and its phase are read off
abbrev pub act_at : {X : Type 0} → (ℕ → ℕ → X → Prog X) → ℕ → ℕ → X → Prog X
act_at turn n s x = turn (s / n % 2) (s / n / 2) x

module _ {X : Type 0} (act : ℕ → X → Prog X) (n : ℕ) where
  -- `act s x` is what a core in state x does at stamp s, and n is the number of cores

  -- the turn at a stamp
  abbrev pub stepped : ℕ → State X → State X
  stepped s m = moved (s % n) (played s (act s (m.cores (s % n))) m.words) m

  -- the machine after the stamps below s
  abbrev pub machine : (ℕ → X) → ℕ → State X
  machine cores zero = start cores
  machine cores (suc s) = stepped s (machine cores s)

  -- a core's run apart: only its own stamps count
  abbrev pub stepped_apart : ℕ → ℕ → Alone X → Alone X
  stepped_apart core s a = elim (s % n == core) [
    | true ↦ gone_on (fed s (act s a.core) a.left) a.made
    | false ↦ a
  ]

  -- core number `core`, that begins as x, after the stamps below s, where its loads give the values
  abbrev pub run_apart : ℕ → X → List ℕ → ℕ → Alone X
  run_apart core x values zero = alone x values
  run_apart core x values (suc s) = stepped_apart core s (run_apart core x values s)

-- To be believed. The machine by cycles. In each cycle come first the deliveries of all packets, in the order of
-- the cores that sent them (phase 0), and then each core in order: its injection of a packet and
-- its own access to the words (phase 1). This is the order of the T-CREST platform (Schoeberl et
-- al., 2015) that our own profile TP1 fixes.
use Rattle.std.specs.Prelude.{ℕ, zero, suc, List, [], ◌++◌}
use Rattle.slot_arbiter.specs.Stamp.{stamp}
use Rattle.shared_order.specs.declared.operation.Operation.{Operation}
use Rattle.shared_order.specs.Words.{put, after, zeros}
use Rattle.shared_order.specs.Program.{Prog, Played, played}

-- the cores, the shared words, and all operations made so far
pub record State (X : Type 0) : Type 0 where
  pub cores : ℕ → X
  pub words : ℕ → ℕ
  pub made : List Operation

-- before the first cycle
abbrev pub start : {X : Type 0} → (ℕ → X) → State X
start cores = record { cores = cores; words = zeros; made = [] }

-- the state after one core's program was played on it
abbrev pub moved : {X : Type 0} → ℕ → Played X → State X → State X
moved core p m =
    record { cores = put core p.core m.cores; words = after p.ops m.words; made = m.made ++ p.ops }

module _ {X : Type 0} (turn : ℕ → ℕ → X → Prog X) (n : ℕ) where
  -- `turn phase cycle x` is what a core in state x does in a phase of a cycle, and n is the number
  -- of cores

  -- one core's turn
  abbrev pub turn_of : ℕ → ℕ → ℕ → State X → State X
  turn_of cycle phase core m =
      moved core (played (stamp n core cycle phase) (turn phase cycle (m.cores core)) m.words) m

  -- the turns of the cores below `core`, in order
  abbrev pub turns_below : ℕ → ℕ → ℕ → State X → State X
  turns_below zero cycle phase m = m
  turns_below (suc core) cycle phase m = turn_of cycle phase core (turns_below core cycle phase m)

  -- one cycle: all deliveries, then all injections and own accesses
  abbrev pub cycle_of : ℕ → State X → State X
  cycle_of cycle m = turns_below n cycle 1 (turns_below n cycle 0 m)

  -- the machine after the cycles 0 to t - 1
  abbrev pub cycled : (ℕ → X) → ℕ → State X
  cycled cores zero = start cores
  cycled cores (suc t) = cycle_of t (cycled cores t)

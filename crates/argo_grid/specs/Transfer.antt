-- To be believed. A transfer between two communication memories, from its start until its last word has come.
use Rattle.std.specs.Prelude.{◌≡◌, ℕ, zero, suc, ◌+◌, ◌-◌, ◌*◌, ◌/◌, ◌<◌, ◌≤◌, List, [], ◌∷◌, length, Contains}
use Rattle.shared_order.specs.Operation.{load, store}
use Rattle.shared_order.specs.Program.{Fed, fed}
use Rattle.argo_ni.specs.Packet.{comm_word}
use Rattle.argo_ni.specs.Interface.{Interface}
use Rattle.argo_ni.specs.Start.{with_source, with_target, started}
use Rattle.argo_ni.specs.Turn.{turn}
use Rattle.argo_ni.specs.Event.{stamp_in}

-- The bound for a transfer of so many words, of n cores: one packet of up to two words goes in each round of
-- n - 1 windows, which begin every third cycle, and the last packet is under way for nine cycles.
abbrev pub latency_of : ℕ → ℕ → ℕ
latency_of n count = 3 * (n - 1) * ((count + 1) / 2) + 9

-- the interface of one of n cores
pub record IsOneOf (n : ℕ) (x : Interface) : Type 0 where
  pub cores : x.cores ≡ n
  pub among : x.core < n
  pub targets : length x.ports ≡ 16

-- what a core may do to its interface: set a register for a target to a word, or start a transfer of so many
-- words to it
pub data Touch : Type 0 where
  set_source : ℕ → ℕ → Touch
  set_target : ℕ → ℕ → Touch
  start : ℕ → ℕ → Touch

abbrev pub touched : Touch → Interface → Interface
touched (set_source d word) x = with_source d word x
touched (set_target d word) x = with_target d word x
touched (start d count) x = started d count x

abbrev pub touched_by : List Touch → Interface → Interface
touched_by [] x = x
touched_by (t ∷ ts) x = touched_by ts (touched t x)

-- what comes to an interface in a cycle: the values of the words that it reads, and what its core does to it
pub record Cycle : Type 0 where
  pub values : List ℕ
  pub touches : List Touch

-- a turn of the interface: what it makes, and what it is then
abbrev pub heard : ℕ → ℕ → List ℕ → Interface → Fed Interface
heard phase cycle values x = fed (stamp_in x.cores x.core (2 * cycle + phase)) (turn phase cycle x) values

-- the deliveries of a cycle, and the injection that follows them
abbrev pub delivering : ℕ → Interface → Fed Interface
delivering cycle x = heard 0 cycle [] x

abbrev pub injecting : ℕ → Cycle → Interface → Fed Interface
injecting cycle c x = heard 1 cycle c.values (delivering cycle x).core

-- the interface after a cycle: both turns, and then what its core does to it
abbrev pub after_cycle : ℕ → Cycle → Interface → Interface
after_cycle cycle c x = touched_by c.touches (injecting cycle c x).core

-- the interface before cycle from + j, where it is x before cycle `from`
abbrev pub before : (ℕ → Cycle) → ℕ → Interface → ℕ → Interface
before cycles from x zero = x
before cycles from x (suc j) = after_cycle (from + j) (cycles (from + j)) (before cycles from x j)

-- In some cycle, not before cycle `from`, the interface reads the word `source` of its own communication
-- memory, and nine cycles later, at the latest in cycle `by`, it stores the value that it read in the word
-- `target` of core d's: so this word of a transfer has been sent and delivered.
pub record IsBrought (cycles : ℕ → Cycle) (from : ℕ) (x : Interface) (source d target by : ℕ) : Type 0 where
  pub wait : ℕ
  pub value : ℕ
  pub in_time : from + wait + 9 ≤ by
  pub read : Contains (injecting (from + wait) (cycles (from + wait)) (before cycles from x wait)).ops
      (load (stamp_in x.cores x.core (2 * (from + wait) + 1)) (comm_word x.core source) value)
  pub stored : Contains (delivering (from + wait + 9) (before cycles from x (wait + 9))).ops
      (store (stamp_in x.cores x.core (2 * (from + wait + 9) + 0)) (comm_word d target) value)

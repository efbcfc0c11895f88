-- To be believed. What a core does to its interface: it sets the source and the target word of a transfer, and
-- starts it by storing the number of words (our own profile TP1). The count is not kept: it goes
-- straight to the channel.
use Rattle.std.specs.Prelude.{ℕ, ◌+◌, ◌-◌, ◌*◌, ◌^◌, min, true, false, Bool, ◌&&◌, ◌==◌, nat_lt, nat_le, slice_set}
use Rattle.argo_ni.specs.declared.port.Port.{Port}
use Rattle.local_store.specs.declared.map.TheConstants.{COMM_WORDS}
use Rattle.argo_ni.specs.declared.event.Started.{Started}
use Rattle.argo_ni.specs.declared.event.Started.TheVariants.{Begun, Dropped, Refused}
use Rattle.argo_ni.specs.Interface.{Interface, Standing, port_to}

-- the interface with this port for target d
abbrev pub with_port : ℕ → Port → Interface → Interface
with_port d port x = record x { ports = slice_set x.ports d port }

-- the source register for target d is set
abbrev pub with_source : ℕ → ℕ → Interface → Interface
with_source d word x = with_port d (record (port_to x d) { source = word }) x

-- the target register for target d is set
abbrev pub with_target : ℕ → ℕ → Interface → Interface
with_target d word x = with_port d (record (port_to x d) { target = word }) x

-- whether so many words can be sent by the port's registers: some, and none past the words of a
-- communication memory
abbrev pub is_in_range : Port → ℕ → Bool
is_in_range port count =
    nat_lt 0 count && nat_le (port.source + count) COMM_WORDS && nat_le (port.target + count) COMM_WORDS

-- the answer to a start: it is refused where it is out of range, and dropped where the channel still
-- has words to inject
abbrev pub answer_to : Port → ℕ → Started
answer_to port count = elim (is_in_range port count) [
  | true ↦ elim (port.channel.left == 0) [ true ↦ Begun | false ↦ Dropped ]
  | false ↦ Refused
]

-- the port after a start that begins: the channel takes the registers over
abbrev pub begun : Port → ℕ → Port
begun port count =
    record port { channel = record { source = port.source; target = port.target; left = count } }

-- the interface after a start of that many words to target d, by its answer; the count of dropped
-- starts stands still at the greatest word
abbrev pub started_by : Started → ℕ → ℕ → Interface → Interface
started_by Begun d count x = with_port d (begun (port_to x d) count) x
started_by Dropped d count x = record x { dropped = min (x.dropped + 1) (2 ^ 32 - 1) }
started_by Refused d count x = x

-- the interface after a start of that many words to target d
abbrev pub started : ℕ → ℕ → Interface → Interface
started d count x = started_by (answer_to (port_to x d) count) d count x

-- the interface and how far it has come, after a start in a cycle by its answer: one that begins
-- comes after that cycle's injection
abbrev pub standing_by : Started → ℕ → ℕ → ℕ → Standing → Standing
standing_by Begun d count cycle s =
    record { interface = started_by Begun d count s.interface; from = 2 * cycle + 2 }
standing_by Dropped d count cycle s =
    record s { interface = started_by Dropped d count s.interface }
standing_by Refused d count cycle s = s

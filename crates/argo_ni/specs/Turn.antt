-- To be believed. The interface cycle by cycle: what it does in the two phases of a cycle, as programs on the shared
-- words. Packets are delivered nine cycles after their injection (our own profile TP1).
use Rattle.std.specs.Prelude.{ℕ, zero, suc, ◌+◌, ◌-◌, ◌/◌, ◌%◌, min, true, false, Bool, not, ◌==◌, List, [], ◌∷◌, ◌++◌, filter}
use Rattle.std.specs.List.{list_any}
use Rattle.shared_order.specs.Program.{Prog, done, gets}
use Rattle.argo_ni.specs.declared.port.Port.{Port}
use Rattle.argo_ni.specs.declared.packet.Payload.{Payload}
use Rattle.argo_ni.specs.declared.packet.Packet.{Packet}
use Rattle.argo_ni.specs.Packet.{comm_word, payload, written}
use Rattle.argo_ni.specs.Window.{target_in, sends_in}
use Rattle.argo_ni.specs.Interface.{Interface, port_to}
use Rattle.argo_ni.specs.Start.{with_port}

-- whether a packet is due in the cycle
abbrev pub comes : Interface → ℕ → Bool
comes x cycle = list_any (λ p. p.due == cycle) x.under_way

-- the packets under way without those due in the cycle
abbrev pub delivered : ℕ → Interface → Interface
delivered cycle x = record x { under_way = filter (λ p. not (p.due == cycle)) x.under_way }

-- phase 0 of a cycle: the packets that are due come to their words
abbrev pub delivery : ℕ → Interface → Prog Interface
delivery cycle x = elim (comes x cycle) [
  | true ↦ written (filter (λ p. p.due == cycle) x.under_way) (done (delivered cycle x))
  | false ↦ done x
]

-- whether a packet is injected in the cycle: a window begins, and its target's channel has words
abbrev pub sends : Interface → ℕ → Bool
sends x cycle = sends_in x.cores x.core x.ports cycle

-- the target of the window that begins in the cycle
abbrev pub target_at : Interface → ℕ → ℕ
target_at x cycle = target_in x.cores x.core (cycle / 3)

-- how many words one packet takes of those left
abbrev pub packet_size : ℕ → ℕ
packet_size left = min 2 left

-- the port after a packet was taken from its channel
abbrev pub moved_on : Port → Port
moved_on port = record port {
  channel = record {
    source = port.channel.source + packet_size port.channel.left;
    target = port.channel.target + packet_size port.channel.left;
    left = port.channel.left - packet_size port.channel.left;
  };
}

-- the packet that a port gives to the target in the cycle, with what it carries
abbrev pub packet_of : ℕ → ℕ → Payload → Port → Packet
packet_of cycle target load port =
    record { due = cycle + 9; target = target; first = port.channel.target; payload = load }

-- the interface after it injected a packet to the target in the cycle
abbrev pub injected_to : ℕ → ℕ → Payload → Interface → Interface
injected_to target cycle load x = record (with_port target (moved_on (port_to x target)) x) {
  under_way = x.under_way ++ packet_of cycle target load (port_to x target) ∷ [];
}

-- the interface after it injected the packet of the window in the cycle, with the values read
abbrev pub injected : ℕ → List ℕ → Interface → Interface
injected cycle values x = injected_to (target_at x cycle) cycle
    (payload (port_to x (target_at x cycle)).channel.left values) x

-- phase 1 of a cycle, before the core's own access: in a window the words are read and sent
abbrev pub injection : ℕ → Interface → Prog Interface
injection cycle x = elim (sends x cycle) [
  | true ↦ gets (packet_size (port_to x (target_at x cycle)).channel.left)
      (comm_word x.core (port_to x (target_at x cycle)).channel.source)
      (λ values. done (injected cycle values x))
  | false ↦ done x
]

-- both phases
abbrev pub turn : ℕ → ℕ → Interface → Prog Interface
turn zero cycle x = delivery cycle x
turn (suc phase) cycle x = injection cycle x

-- whether something is delivered or injected in a half-cycle
abbrev pub acts : Interface → ℕ → Bool
acts x half = elim (half % 2 == 0) [ true ↦ comes x (half / 2) | false ↦ sends x (half / 2) ]

-- To be believed. The network interface of one core.
use Rattle.std.specs.Prelude.{◌≢◌, ℕ, ◌<◌, List, []}
use Rattle.argo_ni.specs.declared.port.Port.{Port}
use Rattle.argo_ni.specs.declared.packet.Packet.{Packet}
use Rattle.argo_ni.specs.Port.{all_unused, port_at}

-- the core and how many there are, the port for each target, the packets that were injected and not
-- yet delivered, in the order of their injection, and how many starts were dropped
pub record Interface : Type 0 where
  pub cores : ℕ
  pub core : ℕ
  pub ports : List Port
  pub under_way : List Packet
  pub dropped : ℕ

-- An interface and how far it has come. Half-cycle 2 * q is that of the deliveries in cycle q, and
-- half-cycle 2 * q + 1 that of the injections; all before half-cycle `from` is done.
pub record Standing : Type 0 where
  pub interface : Interface
  pub from : ℕ

-- before the first cycle
abbrev pub new_interface : ℕ → ℕ → Interface
new_interface n core =
    record { cores = n; core = core; ports = all_unused; under_way = []; dropped = 0 }

-- one of the other cores
pub record IsTarget (x : Interface) (d : ℕ) : Type 0 where
  pub among : d < x.cores
  pub other : d ≢ x.core

-- the port for target d
abbrev pub port_to : Interface → ℕ → Port
port_to x d = port_at x.ports d

-- To be believed. Ranges of an interface: what it sends lies within the communication memories and is words of 32
-- bits.
use Rattle.std.specs.Prelude.{ℕ, ◌+◌, ◌^◌, ◌<◌, ◌≤◌, length}
use Rattle.std.specs.List.{AllByRecursion as Each}
use Rattle.argo_ni.specs.declared.packet.Packet.{Packet}
use Rattle.local_store.specs.declared.map.TheConstants.{COMM_WORDS}
use Rattle.argo_ni.specs.Port.{IsWithin}
use Rattle.argo_ni.specs.Packet.{carried}
use Rattle.argo_ni.specs.Interface.{Interface, port_to}

-- a packet carries words of 32 bits to words that its target, one of n cores, has
pub record IsBound (n : ℕ) (p : Packet) : Type 0 where
  pub among : p.target < n
  pub within : p.first + length (carried p.payload) ≤ COMM_WORDS
  pub words : Each (λ word. word < 2 ^ 32) (carried p.payload)

-- the interface of one of the cores, whose channels and packets are in range
pub record InRange (x : Interface) : Type 0 where
  pub among : x.core < x.cores
  pub channels : (d : ℕ) → IsWithin (port_to x d).channel
  pub packets : Each (IsBound x.cores) x.under_way

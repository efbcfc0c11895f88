-- To be believed. What a network interface has for one target: the registers that the core has set, and the channel
-- of words on their way out (Argo, the message-passing network of T-CREST: Schoeberl et al., 2015;
-- the registers and their ranges are our own profile TP1's).
use Rattle.std.specs.Prelude.{ℕ, ◌+◌, ◌≤◌, List, replicate, slice_index_or}
use Rattle.std.specs.List.{sum_by}
use Rattle.argo_ni.specs.declared.port.Channel.{Channel}
use Rattle.argo_ni.specs.declared.port.Port.{Port}
use Rattle.local_store.specs.declared.map.TheConstants.{COMM_WORDS}

-- a port that nothing was set in and nothing is sent through
abbrev pub unused : Port
unused =
    record { source = 0; target = 0; channel = record { source = 0; target = 0; left = 0 } }

-- the ports of an interface that nothing was done with: one for each of 16 targets
abbrev pub all_unused : List Port
all_unused = replicate 16 unused

-- the port for target d
abbrev pub port_at : List Port → ℕ → Port
port_at ports d = slice_index_or ports d unused

-- how many words all channels have to inject
abbrev pub words_left : List Port → ℕ
words_left ports = sum_by (λ p. p.channel.left) ports

-- the channel's words lie within the words of a communication memory, on both sides
pub record IsWithin (c : Channel) : Type 0 where
  pub source : c.source + c.left ≤ COMM_WORDS
  pub target : c.target + c.left ≤ COMM_WORDS

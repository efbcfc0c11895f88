-- To be believed. Stamps put what all cores do to shared and communication words into one order. The rule is our
-- own profile TP1's: in each cycle all deliveries of packets come first, by core (phase 0), and
-- then each core's own injection and access, by core (phase 1).
use Rattle.std.specs.Prelude.{ℕ, ◌+◌, ◌*◌, ◌<◌, ◌≤◌}

-- the stamp of a core's act at a cycle and a phase, of n cores
abbrev pub stamp : ℕ → ℕ → ℕ → ℕ → ℕ
stamp n core cycle phase = (2 * cycle + phase) * n + core

-- the core is one of n, and the phase is 0 or 1
pub record IsAct (n core phase : ℕ) : Type 0 where
  pub among : core < n
  pub in_phase : phase ≤ 1

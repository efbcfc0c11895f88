-- To be believed. The words that other cores reach too, against a run's.
use Rattle.std.specs.Prelude.{◌≡◌, ℕ, ◌<◌}
use Rattle.argo_ni.specs.Packet.{comm_word}
use Rattle.local_store.specs.declared.map.TheConstants.{COMM_WORDS, SHARED_WORDS}
use Rattle.sp_shape.specs.Memory.{Memory}

-- a run has the words of the board that its core may reach
pub record HoldsBoard (core : ℕ) (m : Memory) (words : ℕ → ℕ) : Type 0 where
  pub shared : (word : ℕ) → word < SHARED_WORDS → words word ≡ m.shared word
  pub comm : (word : ℕ) → word < COMM_WORDS → words (comm_word core word) ≡ m.comm word

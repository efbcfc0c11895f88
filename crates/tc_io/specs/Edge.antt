-- To be believed. A reader or a writer of std after a source or a sink.
use Rattle.std.specs.Prelude.{ℕ}

-- the reader or the writer itself, and how many of its calls failed, up to 2^64 - 1
pub record Counted (T : Type 0) : Type 0 where
  pub inner : T
  pub faults : ℕ

-- To be believed. Numbers of cycles as they are worked out: held at the first that is more than a bound
-- may be, which is enough to know that it is more.
use Rattle.std.specs.Prelude.{ℕ, ◌+◌, ◌^◌, min}

abbrev pub held : ℕ → ℕ
held n = min n (2 ^ 62 + 1)

-- To be believed. Numbers as a double word tells them.
use Rattle.std.specs.Prelude.{ℕ, ◌-◌, ◌^◌, min}

-- what passes 2^64 - 1 is counted as that
abbrev pub capped : ℕ → ℕ
capped n = min n (2 ^ 64 - 1)

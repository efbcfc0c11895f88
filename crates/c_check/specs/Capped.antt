-- To be believed. Numbers of a tree as a word can tell them: none above 2^32 - 1.
use Rattle.std.specs.Prelude.{ℕ, min}

abbrev pub capped : ℕ → ℕ
capped n = min n 4294967295

-- To be believed. What is answered of a number of cycles.
use Rattle.std.specs.Prelude.{ℕ, ◌^◌, ◌≤◌, OkIff, Result}

-- the number, or an error exactly where it is more than a bound may be
abbrev pub Answers : {E : Type 0} → Result ℕ E → ℕ → Type 0
Answers result n = OkIff result (n ≤ 2 ^ 62) n

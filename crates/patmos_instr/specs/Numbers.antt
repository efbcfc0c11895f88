-- To be believed. The numbers by which an instruction's word names the things of a list.
use Rattle.std.specs.Prelude.{◌≡◌, ◌≢◌, ℕ, Option, MatchOption}

-- an answer is the thing that has a number, or None where nothing has it
abbrev pub IsNumbered : {F : Type 0} → (F → ℕ) → ℕ → Option F → Type 0
IsNumbered {F} number_of number answer =
    MatchOption answer ((f : F) → number_of f ≢ number) (λ f. number_of f ≡ number)

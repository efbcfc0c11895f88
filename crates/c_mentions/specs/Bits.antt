-- To be believed. Flags as the bits of a word.
use Rattle.std.specs.Prelude.{ℕ, ◌+◌, ◌*◌, ◌/◌, ◌%◌, ◌^◌, ◌==◌, Bool, List, [], ◌∷◌}
use Rattle.c_world.specs.Numbers.{flag}

-- whether a bit of a number is 1, where bit 0 is the lowest
abbrev pub has_bit : ℕ → ℕ → Bool
has_bit k n = (n / 2 ^ k) % 2 == 1

-- the number of which flag k is bit k
abbrev pub bits : List Bool → ℕ
bits [] = 0
bits (b ∷ bs) = flag b + 2 * bits bs

-- Tests of numbers that are told as 2^32 - 1 where they pass it.
use Rattle.std.proofs.Common.{◌≡◌, ℕ, ◌<◌, min, nat_lt, arith}
use Rattle.std.proofs.lemmas.Bool.Decides.{nat_tests}

pub above : (most y x : ℕ) → y ≡ min x 4294967295 → most < 4294967295 → nat_lt most y ≡ nat_lt most x
above most y x e h = grind (arith, nat_tests)

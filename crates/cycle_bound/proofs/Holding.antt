-- Sums and products of held numbers.
use Rattle.std.proofs.Common.{◌≡◌, ℕ, ◌+◌, ◌*◌, ◌^◌, ◌≤◌, arith}
use Rattle.std.proofs.lemmas.Grind.{common_steps}
use Rattle.cycle_bound.specs.Held.{held}

-- one more of a sum, from its front
pub held_next : (s a x rest total : ℕ) → s ≡ held (a + x) → held (a + (x + rest)) ≡ total → held (s + rest) ≡ total
held_next s a x rest total e h = grind (arith, common_steps, e, h)

-- the same where the one is held
pub held_next_held : (s a x y rest total : ℕ) → s ≡ held (a + y) → y ≡ held x → held (a + (x + rest)) ≡ total
    → held (s + rest) ≡ total
held_next_held s a x y rest total e g h = grind (arith, common_steps, e, g, h)

pub held_at_end : (s total : ℕ) → s ≤ 2 ^ 62 + 1 → held (s + 0) ≡ held total → s ≡ held total
held_at_end s total small h = grind (arith, common_steps, small, h)

pub held_sum : (s a b x y : ℕ) → s ≡ held (a + b) → a ≡ held x → b ≡ held y → s ≡ held (x + y)
held_sum s a b x y h e f = grind (arith, common_steps, h, e, f)

pub held_times : (s n a x : ℕ) → s ≡ held (n * a) → a ≡ held x → s ≡ held (n * x)
held_times s n a x h e = grind (arith, common_steps, h, e)

-- a function that is called: two fetches, and what it takes itself
pub held_call : (s r a b c x y z : ℕ) → r ≡ held (s + c) → s ≡ held (a + b) → a ≡ held x → b ≡ held y → c ≡ held z → r
    ≡ held (x + y + z)
held_call s r a b c x y z h e f g k = held_sum r s c (x + y) z h (held_sum s a b x y e f g) k

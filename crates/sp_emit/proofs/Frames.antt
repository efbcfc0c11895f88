-- The words of a frame, where one of them is set.
use Rattle.std.proofs.Common.{◌≡◌, ℕ, ◌<◌, ◌==◌, Bool, true, false, cond, refl, ap, eq-eqb, ne_eqb}
use Rattle.shared_order.specs.Words.{put}

pub put_same : {Y : Type 0} (x : ℕ) (y : Y) (f : ℕ → Y) → put x y f x ≡ y
put_same x y f = ap (λ b. cond b y (f x)) (eq-eqb x x refl)

pub put_other : {Y : Type 0} (x u : ℕ) (y : Y) (f : ℕ → Y) → (x ≡ u → ⊥) → put x y f u ≡ f u
put_other x u y f other = ap (λ b. cond b y (f u)) (ne_eqb x u other)

pub put_word : (x y u : ℕ) (f : ℕ → ℕ) (bound : ℕ) → y < bound → f u < bound → put x y f u < bound
put_word x y u f bound below small = by (x == u)
  where
    by : (b : Bool) → cond b y (f u) < bound
    by true = below
    by false = small

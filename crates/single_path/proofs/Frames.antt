-- Words of frames that stand, where others are set.
use Rattle.std.proofs.Common.{◌≡◌, ◌≢◌, ℕ, zero, suc, ◌<◌, ◌≤◌, refl, ap, sym, ◌∙◌, arith, eq-eqb, ne_eqb, ◌⊎◌, inl, inr}
use Rattle.std.specs.Prelude.{cond}
use Rattle.std.proofs.lemmas.Bool.{cases_eq}
use Rattle.shared_order.specs.Words.{put}
use Rattle.sp_tree.specs.Straight.{State, with_slot, times}
use Rattle.single_path.specs.declared.part_words.PartWords.{PartWords}

pub put_here : (x y : ℕ) (f : ℕ → ℕ) → put x y f x ≡ y
put_here x y f = ap (λ b. cond b y (f x)) (eq-eqb x x refl)

pub put_there : (x y u : ℕ) (f : ℕ → ℕ) → x ≢ u → put x y f u ≡ f u
put_there x y u f other = ap (λ b. cond b y (f u)) (ne_eqb x u other)

-- after the words of so many variables stand the result, the masks from outer to inner ones, and the words that are
-- free
pub record Order (n : ℕ) (p : PartWords) : Type 0 where
  pub result : n ≤ p.result
  pub function : p.result < p.function
  pub loop : p.function ≤ p.iteration
  pub own : p.iteration ≤ p.own
  pub free : p.own < p.free

-- no word below the first so many is another, and no word of a memory
pub record Still (n : ℕ) (s t : State) : Type 0 where
  pub frame : (x : ℕ) → x < n → t.frame x ≡ s.frame x
  pub world : t.world ≡ s.world

pub still_here : (n : ℕ) (s : State) → Still n s s
still_here n s = record { frame = λ x below. refl; world = refl }

pub still_on : (n : ℕ) (s t u : State) → Still n s t → Still n t u → Still n s u
still_on n s t u h k = record { frame = λ x below. k.frame x below ∙ h.frame x below; world = k.world ∙ h.world }

pub fewer : (n k : ℕ) (s t : State) → k ≤ n → Still n s t → Still k s t
fewer n k s t within h = record { frame = λ x below. h.frame x (omega (arith, below, within)); world = h.world }

-- a word that is set after them
pub set_after : (n slot v : ℕ) (s : State) → n ≤ slot → Still n s (with_slot slot v s)
set_after n slot v s behind =
    record { frame = λ x below. put_there slot v x s.frame (omega (arith, below, behind)); world = refl }

-- a word that is set to what it was
pub set_same : (n slot v : ℕ) (s : State) → v ≡ s.frame slot → Still n s (with_slot slot v s)
set_same n slot v s same = record { frame = λ x below. by x (cases_eq slot x); world = refl }
  where
    by : (x : ℕ) → (slot ≡ x) ⊎ (slot ≢ x) → put slot v s.frame x ≡ s.frame x
    by x (inl here) = ap (λ y. put slot v s.frame y) (sym here) ∙ put_here slot v s.frame ∙ same ∙ ap s.frame here
    by x (inr there) = put_there slot v x s.frame there

-- so many iterations of which each leaves them
pub iterations_still : (n : ℕ) (change : State → State) (Kept : State → Type 0)
    → ((s : State) → Kept s → Still n s (change s))
    → ((s : State) → Kept s → Kept (change s)) → (k : ℕ) (s : State) → Kept s → Still n s (times k change s)
iterations_still n change Kept each on zero s kept = still_here n s
iterations_still n change Kept each on (suc k) s kept =
    still_on n s (change s) (times k change (change s)) (each s kept) (iterations_still n change Kept each on k
    (change s) (on s kept))

-- Names that are set once.
use Rattle.std.proofs.Common.{◌≡◌, ◌∙◌, ℕ, cond, Bool, true, false, List, refl, ap, Option, Some, None}
use Rattle.std.specs.Str.{bytes_eq}
use Rattle.std.specs.Option.{option_or}
use Rattle.std.specs.Map.{update}
use Rattle.std.proofs.lemmas.Slice.Eq.{bytes_eq-Decides}
use Rattle.tc_word.proofs.Items.{bytes_eq_sym}

-- the same name is equal, and equal names are the same
pub bytes_eq_same : (a b : List ℕ) → bytes_eq a b ≡ true → a ≡ b
bytes_eq_same a b e = (bytes_eq-Decides a b).0 e

set_when : (same : Bool) (q name : List ℕ) (place_of : List ℕ → Option ℕ) (place : ℕ) → bytes_eq q name ≡ same
    → place_of name ≡ None →
    cond same (Some place) (place_of q) ≡ option_or (place_of q) (cond same (Some place) None)
set_when true q name place_of place e free = let k : q ≡ name = bytes_eq_same q name e in rw (k, free) refl
set_when false q name place_of place e free = unset (place_of q)
  where
    unset : (o : Option ℕ) → o ≡ option_or o None
    unset None = refl
    unset (Some x) = refl

-- a name that had no place gets it, and the others keep theirs
pub set_now : (place_of : List ℕ → Option ℕ) (name : List ℕ) (place : ℕ) → place_of name ≡ None → (q : List ℕ) →
    update bytes_eq place_of name (Some place) q ≡ option_or (place_of q) (cond (bytes_eq q name) (Some place) None)
set_now place_of name place free q = ap (λ t. cond t (Some place) (place_of q)) (bytes_eq_sym name q)
    ∙ set_when (bytes_eq q name) q name place_of place refl free

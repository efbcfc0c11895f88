-- Lists of words that are read item by item, and texts that grow.
use Rattle.std.proofs.Common.{◌≡◌, ℕ, zero, suc, ◌+◌, ◌<◌, ◌≤◌, List, ◌∷◌, ◌++◌, length, drop, get_or, replicate, slice_index, refl, sym, ap, ◌∙◌, append_assoc, add-one}
use Rattle.std.specs.Str.{bytes_eq}
use Rattle.std.proofs.Math.Seq.{drop-cons}
use Rattle.std.specs.Bool.{one_answer}
use Rattle.std.proofs.lemmas.List.{get_or_past}
use Rattle.std.proofs.lemmas.Slice.Eq.{bytes_eq-Decides}

-- the items from one on are that one and those after it
pub drop_item : {A : Type 0} (xs : List A) (i : ℕ) (x : A) → i < length xs → x ≡ get_or xs i x → drop i xs
    ≡ x ∷ drop (i + 1) xs
drop_item xs i x within is =
    drop-cons xs i x within ∙ ap (λ y. y ∷ drop (suc i) xs) (sym is) ∙ ap (λ n. x ∷ drop n xs) (sym (add-one i))

-- a word that is not there is 0
pub past_all : (words : List ℕ) (k : ℕ) → length words ≤ k → slice_index words k ≡ 0
past_all words k past = get_or_past words k 0 past

-- and so is each of so many zeros
pub zero_at : (n k : ℕ) → slice_index (replicate n 0) k ≡ 0
zero_at zero k = refl
zero_at (suc n) zero = refl
zero_at (suc n) (suc k) = zero_at n k

-- bytes are compared either way
pub bytes_eq_sym : (a b : List ℕ) → bytes_eq a b ≡ bytes_eq b a
bytes_eq_sym a b =
    one_answer (bytes_eq a b) (bytes_eq b a) (bytes_eq-Decides a b) (
      (λ h. sym ((bytes_eq-Decides b a).0 h)),
      (λ e. (bytes_eq-Decides b a).1 (sym e)),
    )

-- a text with one more line, and what follows it
pub followed : (text more all line rest : List ℕ) → more ≡ text ++ line → text ++ (line ++ rest) ≡ all
    → more ++ rest ≡ all
followed text more all line rest appended held = ap (λ t. t ++ rest) appended ∙ append_assoc text line rest ∙ held

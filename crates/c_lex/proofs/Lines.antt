-- A list read backwards.
use Rattle.std.proofs.Common.{◌≡◌, ◌∙◌, ℕ, ◌-◌, ◌<◌, List, [], ◌∷◌, ◌++◌, length, get_or, take, reverse, refl, ap, arith}
use Rattle.std.proofs.lemmas.List.{reverse-append}

front_and_last : (b : ℕ) (bs : List ℕ) → b ∷ bs ≡ take (length bs) (b ∷ bs) ++ get_or (b ∷ bs) (length bs) 0 ∷ []
front_and_last b [] = refl
front_and_last b (c ∷ bs) = ap (λ xs. b ∷ xs) (front_and_last c bs)

-- its first element is the last, and then come those before it
pub reverse_last : (bs : List ℕ) → 0 < length bs → reverse bs ≡ get_or bs (length bs - 1) 0
    ∷ reverse (take (length bs - 1) bs)
reverse_last [] some = absurd (omega arith)
reverse_last (b ∷ bs) some =
    let last : length (b ∷ bs) - 1 ≡ length bs = omega arith in
    rw last (ap reverse (front_and_last b bs) ∙ reverse-append (take (length bs) (b ∷ bs))
    (get_or (b ∷ bs) (length bs) 0 ∷ []))

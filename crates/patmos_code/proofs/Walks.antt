-- What the walk over words of code finds: places that rise, and functions that lie inside the words.
use Rattle.std.proofs.Common.{arith, ◌≡◌, ℕ, zero, suc, ◌+◌, ◌-◌, ◌<◌, ◌≤◌, List, [], ◌∷◌, length, get_or, slice_index, ◌∙◌, ap, sym, refl, subst, Result, Ok, Err, MatchResult, inl, inr}
use Rattle.std.specs.List.{All, Contains}
use Rattle.std.proofs.lemmas.Bool.{cases_lt}
use Rattle.std.proofs.lemmas.List.{get_or_default}
use Rattle.std.specs.Ordering.{nat_cmp}
use Rattle.std.specs.List.Sorted.{IsBinarySearchResult}
use Rattle.std.proofs.lemmas.List.Sorted.{searched}
use Rattle.patmos_code.specs.Images.{IsFunction, IsRising, starts_from, starts_of, sizes_from, sizes_of, lacking_from, lacking}

-- the words that a function still wants stand in the list
not_lacking : (ws : List ℕ) (skip : ℕ) → lacking_from skip ws ≡ 0 → skip ≤ length ws
not_lacking [] skip e = omega arith
not_lacking (w ∷ ws) zero e = omega arith
not_lacking (w ∷ ws) (suc skip) e = omega (arith, not_lacking ws skip e)

after : (ws : List ℕ) (at skip k : ℕ) → k < length (starts_from at skip ws) → at < get_or (starts_from at skip ws) k 0
after [] at skip k h = omega arith
after (w ∷ ws) at zero zero h = omega arith
after (w ∷ ws) at zero (suc k) h = omega (arith, after ws (at + 1) w k (omega arith))
after (w ∷ ws) at (suc skip) k h = omega (arith, after ws (at + 1) skip k h)

rising : (ws : List ℕ) (at skip i j : ℕ) → i < j → j < length (starts_from at skip ws) →
    get_or (starts_from at skip ws) i 0 < get_or (starts_from at skip ws) j 0
rising [] at skip i j l h = omega arith
rising (w ∷ ws) at zero i zero l h = omega arith
rising (w ∷ ws) at zero zero (suc j) l h = after ws (at + 1) w j (omega arith)
rising (w ∷ ws) at zero (suc i) (suc j) l h = rising ws (at + 1) w i j (omega arith) (omega arith)
rising (w ∷ ws) at (suc skip) i j l h = rising ws (at + 1) skip i j l h

-- a word after the first of a list is a word of the rest, whose first word has the next place
next_word : (w : ℕ) (ws : List ℕ) (at s : ℕ) → at + 1 < s → get_or (w ∷ ws) (s - 1 - at) 0
    ≡ get_or ws (s - 1 - (at + 1)) 0
next_word w ws at s h =
    let e : s - 1 - at ≡ suc (s - 1 - (at + 1)) = omega arith in
    ap (λ k. get_or (w ∷ ws) k 0) e

inside : (ws : List ℕ) (at skip k : ℕ) → lacking_from skip ws ≡ 0 → k < length (starts_from at skip ws) →
    get_or (starts_from at skip ws) k 0 + get_or ws (get_or (starts_from at skip ws) k 0 - 1 - at) 0 ≤ at + length ws
inside [] at skip k e h = omega arith
inside (w ∷ ws) at zero zero e h =
    let z : at + 1 - 1 - at ≡ 0 = omega arith in
    rw z (omega (arith, not_lacking ws w e))
inside (w ∷ ws) at zero (suc k) e h =
    let l : k < length (starts_from (at + 1) w ws) = omega arith in
    rw (next_word w ws at (get_or (starts_from (at + 1) w ws) k 0) (after ws (at + 1) w k l))
    (omega (arith, inside ws (at + 1) w k e l))
inside (w ∷ ws) at (suc skip) k e h =
    rw (next_word w ws at (get_or (starts_from (at + 1) skip ws) k 0) (after ws (at + 1) skip k h))
    (omega (arith, inside ws (at + 1) skip k e h))

-- the word before a function's first is the size that the walk meets there
size_before : (ws : List ℕ) (at skip k : ℕ) → k < length (starts_from at skip ws) →
    get_or ws (get_or (starts_from at skip ws) k 0 - 1 - at) 0 ≡ get_or (sizes_from skip ws) k 0
size_before [] at skip k h = omega arith
size_before (w ∷ ws) at zero zero h =
    let z : at + 1 - 1 - at ≡ 0 = omega arith in
    rw z refl
size_before (w ∷ ws) at zero (suc k) h =
    let l : k < length (starts_from (at + 1) w ws) = omega arith in
    next_word w ws at (get_or (starts_from (at + 1) w ws) k 0) (after ws (at + 1) w k l) ∙ size_before ws (at + 1) w k l
size_before (w ∷ ws) at (suc skip) k h =
    next_word w ws at (get_or (starts_from (at + 1) skip ws) k 0) (after ws (at + 1) skip k h)
    ∙ size_before ws (at + 1) skip k h

as_many : (ws : List ℕ) (at skip : ℕ) → length (sizes_from skip ws) ≡ length (starts_from at skip ws)
as_many [] at skip = refl
as_many (w ∷ ws) at zero = ap suc (as_many ws (at + 1) w)
as_many (w ∷ ws) at (suc skip) = as_many ws (at + 1) skip

-- the places at which functions start rise
pub starts_rise : (words starts : List ℕ) → starts ≡ starts_of words → IsRising starts
starts_rise words starts e = subst IsRising (sym e) (record { rises = rising words 0 0 })

function_at : (words : List ℕ) → lacking words ≡ 0 → All (λ size. size ≤ 4096) (sizes_of words) →
    (k : ℕ) → k < length (starts_of words) → IsFunction words (slice_index (starts_of words) k)
function_at words whole sizes k l =
    let s : ℕ = get_or (starts_of words) k 0 in
    let z : s - 1 - 0 ≡ s - 1 = omega arith in
    let q : get_or words (s - 1 - 0) 0 ≡ get_or words (s - 1) 0 = ap (λ n. get_or words n 0) z in
    let m : k < length (sizes_of words) = omega (arith, as_many words 0 0) in
    record {
      after = after words 0 0 k l;
      inside = omega (arith, q, inside words 0 0 k whole l);
      small = omega (arith, q, size_before words 0 0 k l, sizes k 0 m);
    }

-- each place at which a function starts is the start of one inside the words
pub function_inside : (words starts : List ℕ) (start : ℕ) → starts ≡ starts_of words → lacking words ≡ 0 →
    All (λ size. size ≤ 4096) (sizes_of words) → Contains starts start → IsFunction words start
function_inside words starts start e whole sizes c =
    let found : slice_index starts c.0 ≡ start = get_or_default starts c.0 0 start c.1 ∙ c.2 in
    let at : IsFunction words (slice_index starts c.0) =
    subst (λ xs. IsFunction words (slice_index xs c.0)) (sym e) (function_at words whole sizes c.0
    (subst (λ xs. c.0 < length xs) e c.1)) in
    subst (IsFunction words) found at

not_found : (xs : List ℕ) (x i : ℕ) → ((k : ℕ) → k < i → get_or xs k 0 < x) → ((k : ℕ) → i ≤ k → k < length xs
    → x < get_or xs k 0) → ¬ Contains xs x
not_found xs x i before behind c =
    let e : get_or xs c.0 0 ≡ x = get_or_default xs c.0 0 x c.1 ∙ c.2 in
    elim (cases_lt c.0 i) [ inl l ↦ omega (arith, before c.0 l) | inr g ↦ omega (arith, behind c.0 g c.1) ]

never_falls : (xs : List ℕ) → IsRising xs → (i j : ℕ) → i ≤ j → j < length xs → get_or xs i 0 ≤ get_or xs j 0
never_falls xs rise i j l h =
    elim (cases_lt i j) [
      | inl p ↦ omega (arith, rise.rises i j p h)
      | inr p ↦ let e : i ≡ j = omega arith in
          rw e (omega arith)
    ]

-- a binary search among places that rise finds a place exactly where it is there
pub searched_start : (xs : List ℕ) (x : ℕ) (r : Result ℕ ℕ) → IsBinarySearchResult (λ y. nat_cmp y x) xs r
    → IsRising xs →
    MatchResult r (λ _. Contains xs x) (λ _. ¬ Contains xs x)
searched_start xs x (Ok i) s rise =
    let t : (i < length xs) × (get_or xs i 0 ≡ x) = searched xs x (Ok i) s (never_falls xs rise) in
    (i, t.0, get_or_default xs i x 0 t.0 ∙ t.1)
searched_start xs x (Err i) s rise =
    let t : (i ≤ length xs) × ((k : ℕ) → k < i → get_or xs k 0 < x) × ((k : ℕ) → i ≤ k → k < length xs
    → x < get_or xs k 0) =
    searched xs x (Err i) s (never_falls xs rise) in
    not_found xs x i t.1 t.2

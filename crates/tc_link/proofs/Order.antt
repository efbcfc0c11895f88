-- The order of functions, step by step, and the words before each.
use Rattle.std.proofs.Common.{◌≡◌, ◌≢◌, ℕ, zero, suc, ◌+◌, ◌<◌, ◌≤◌, if◌then◌else◌, List, [], ◌∷◌, ◌++◌, length, slice_index, refl, sym, ap, ◌∙◌, add-one, append-nil, arith, ne_eqb, below_more, inl, inr}
use Rattle.std.proofs.lemmas.Bool.{eq-eqb, cases_eq}
use Rattle.std.proofs.lemmas.List.{get_or_append_left, get_or_push}
use Rattle.tc_link.specs.Placed.{others, words_below, others_below, place}

-- ---- one function more

entry_passed : (entry k : ℕ) → k ≡ entry → others entry (k + 1) ≡ others entry k
entry_passed entry k is =
    ap (others entry) (add-one k) ∙ ap (λ b. others entry k ++ (if b then [] else k ∷ [])) (eq-eqb k entry is)
    ∙ append-nil (others entry k)

other_passed : (entry k : ℕ) → k ≢ entry → others entry (k + 1) ≡ others entry k ++ k ∷ []
other_passed entry k ne =
    ap (others entry) (add-one k) ∙ ap (λ b. others entry k ++ (if b then [] else k ∷ [])) (ne_eqb k entry ne)

pub entry_counted : (size : ℕ → ℕ) (entry k : ℕ) → k ≡ entry → others_below size entry (k + 1)
    ≡ others_below size entry k
entry_counted size entry k is =
    ap (others_below size entry) (add-one k) ∙ ap (λ b. others_below size entry k + (if b then 0 else 1 + size k))
    (eq-eqb k entry is) ∙ omega arith

pub other_counted : (size : ℕ → ℕ) (entry k : ℕ) → k ≢ entry → others_below size entry (k + 1)
    ≡ others_below size entry k + (1 + size k)
other_counted size entry k ne = ap (others_below size entry) (add-one k)
    ∙ ap (λ b. others_below size entry k + (if b then 0 else 1 + size k)) (ne_eqb k entry ne)

-- ---- places

pub entry_placed : (size : ℕ → ℕ) (entry k : ℕ) → k ≡ entry → place size entry k ≡ 1
entry_placed size entry k is =
    ap (λ b. if b then 1 else 1 + size entry + others_below size entry k + 1) (eq-eqb k entry is)

pub other_placed : (size : ℕ → ℕ) (entry k : ℕ) → k ≢ entry → place size entry k ≡ 1 + size entry
    + others_below size entry k + 1
other_placed size entry k ne =
    ap (λ b. if b then 1 else 1 + size entry + others_below size entry k + 1) (ne_eqb k entry ne)

-- ---- all words are those of the entry and those of the others

front_counted : (size : ℕ → ℕ) (entry n : ℕ) → n ≤ entry → others_below size entry n ≡ words_below size n
front_counted size entry zero before = refl
front_counted size entry (suc n) before =
    let one = ap (λ b. others_below size entry n + (if b then 0 else 1 + size n))
    (ne_eqb n entry (λ e. omega (arith, e))) in
    omega (arith, one, front_counted size entry n (omega arith))

pub all_counted : (size : ℕ → ℕ) (entry n : ℕ) → entry < n → 1 + size entry + others_below size entry n
    ≡ words_below size n
all_counted size entry zero within = absurd (omega arith)
all_counted size entry (suc n) within = elim (cases_eq n entry) [
  | inl is ↦
      let one = ap (λ b. others_below size entry n + (if b then 0 else 1 + size n)) (eq-eqb n entry is) in
      omega (arith, one, front_counted size entry n (omega arith), ap size is)
  | inr ne ↦
      let one = ap (λ b. others_below size entry n + (if b then 0 else 1 + size n)) (ne_eqb n entry ne) in
      omega (arith, one, all_counted size entry n (omega (arith, ne)))
]

-- fewer functions have no more words
pub fewer_words : (size : ℕ → ℕ) (entry k n : ℕ) → k ≤ n → others_below size entry k ≤ others_below size entry n
fewer_words size entry k zero few = let none : k ≡ 0 = omega arith in omega (arith, ap (others_below size entry) none)
fewer_words size entry k (suc n) few = elim (cases_eq k (suc n)) [
  | inl is ↦ omega (arith, ap (others_below size entry) is)
  | inr ne ↦ omega (arith, fewer_words size entry k n (omega (arith, ne)))
]

-- ---- loops over the functions

-- what is made of the functions passed, piece by piece
pub order_more : {A : Type 0} (made : List ℕ → List A) → ((xs ys : List ℕ) → made (xs ++ ys) ≡ made xs ++ made ys)
    → (entry k : ℕ) (done next : List A) → k ≢ entry
    → done ≡ made (entry ∷ others entry k) → next ≡ done ++ made (k ∷ []) → next ≡ made (entry ∷ others entry (k + 1))
order_more made joins entry k done next ne before added =
    added ∙ ap (λ xs. xs ++ made (k ∷ [])) before ∙ sym (joins (entry ∷ others entry k) (k ∷ []))
    ∙ ap (λ xs. made (entry ∷ xs)) (sym (other_passed entry k ne))

pub order_same : {A : Type 0} (made : List ℕ → List A) (entry k : ℕ) (done next : List A) → k ≡ entry
    → done ≡ made (entry ∷ others entry k) → next ≡ done → next ≡ made (entry ∷ others entry (k + 1))
order_same made entry k done next is before same =
    same ∙ before ∙ ap (λ xs. made (entry ∷ xs)) (sym (entry_passed entry k is))

pub place_more : (size : ℕ → ℕ) (entry k one : ℕ) (done next : List ℕ) → length done ≡ k → one ≡ place size entry k
    → next ≡ done ++ one ∷ []
    → ((j : ℕ) → j < k → slice_index done j ≡ place size entry j) → (j : ℕ) → j < k + 1 → slice_index next j
    ≡ place size entry j
place_more size entry k one done next count is added before = below_more _ _
    (λ j h. ap (λ xs. slice_index xs j) added ∙ get_or_append_left done (one ∷ []) 0 j (omega (arith, count))
    ∙ before j h)
    (ap (λ xs. slice_index xs k) added ∙ get_or_push done one 0 k count ∙ is)

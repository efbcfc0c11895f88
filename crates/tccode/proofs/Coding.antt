-- The codes of one core more.
use Rattle.std.proofs.Common.{◌≡◌, ◌∙◌, ℕ, zero, suc, ◌+◌, ◌<◌, ◌≤◌, List, [], ◌∷◌, ◌++◌, length, drop, get_or, Option, Some, IfSome, sym, ap, subst, append_assoc, arith}
use Rattle.std.specs.Prelude.{slice_get}
use Rattle.job_tasks.specs.Coding.{shown, all_shown}
use Rattle.job_tasks.specs.Tasks.{Coded, told_from}
use Rattle.job_tasks.specs.declared.tasks.CodedTask.{CodedTask}
use Rattle.tc_word.proofs.Items.{drop_item}

-- what a core runs is found under its number
pub shown_at : (cs : List (Option CodedTask)) (core : ℕ) (c : Option CodedTask) → core < length cs → c
    ≡ get_or cs core c → slice_get (all_shown cs) core ≡ Some (shown c)
shown_at [] core c within is = absurd (omega (arith, within))
shown_at (d ∷ cs) zero c within is = ap (λ x. Some (shown x)) (sym is)
shown_at (d ∷ cs) (suc core) c within is = shown_at cs core c (omega (arith, within)) is

-- the text of one core more
pub next_text : (tell : ℕ → Option Coded → List ℕ) (old new whole : List ℕ) (cs : List (Option CodedTask)) (core : ℕ)
    (c : Option CodedTask) → core < length cs → c ≡ get_or cs core c → new ≡ old ++ tell core (shown c)
    → old ++ told_from tell core (all_shown (drop core cs)) ≡ whole → new
    ++ told_from tell (core + 1) (all_shown (drop (core + 1) cs)) ≡ whole
next_text tell old new whole cs core c within is added so_far =
    let more = told_from tell (core + 1) (all_shown (drop (core + 1) cs)) in
    ap (λ text. text ++ more) added ∙ append_assoc old (tell core (shown c)) more
    ∙ ap (λ ds. old ++ told_from tell core (all_shown ds)) (sym (drop_item cs core c within is)) ∙ so_far

-- what holds of the first cores and of the next one holds of one core more
pub next_each : {X : Type 0} (P : ℕ → X → Type 0) (xs : List X) (k : ℕ) (x : X) → slice_get xs k ≡ Some x → P k x
    → ((j : ℕ) → j < k → IfSome (slice_get xs j) (P j)) → (j : ℕ) → j < k + 1 → IfSome (slice_get xs j) (P j)
next_each P [] k x is last each j below = tt
next_each P (y ∷ xs) zero x is last each zero below = subst (λ o. IfSome o (P 0)) (sym is) last
next_each P (y ∷ xs) zero x is last each (suc j) below = absurd (omega (arith, below))
next_each P (y ∷ xs) (suc k) x is last each zero below = each 0 (omega arith)
next_each P (y ∷ xs) (suc k) x is last each (suc j) below =
    next_each (λ i. P (suc i)) xs k x is last (λ i less. each (suc i) (omega (arith, less))) j (omega (arith, below))

-- what holds of all that are there holds at every number
pub at_all : {X : Type 0} (P : ℕ → X → Type 0) (xs : List X) (n : ℕ) → length xs ≤ n
    → ((j : ℕ) → j < n → IfSome (slice_get xs j) (P j)) → (j : ℕ) → IfSome (slice_get xs j) (P j)
at_all P [] n few each j = tt
at_all P (y ∷ xs) zero few each j = absurd (omega (arith, few))
at_all P (y ∷ xs) (suc n) few each zero = each 0 (omega arith)
at_all P (y ∷ xs) (suc n) few each (suc j) =
    at_all (λ i. P (suc i)) xs n (omega (arith, few)) (λ i less. each (suc i) (omega (arith, less))) j

-- The code of each function of a task.
use Rattle.std.proofs.Common.{◌≡◌, ℕ, zero, suc, ◌<◌, ◌≤◌, ◌⊎◌, inl, inr, Bool, true, false, if◌then◌else◌, List, [], ◌∷◌, ◌++◌, length, slice_index_or, refl, sym, ap, ◌∙◌, arith, ◌+◌, ◌-◌}
use Rattle.std.proofs.lemmas.Bool.{cases_lt}
use Rattle.sp_tree.specs.Statements.{PlainFunction, no_function}
use Rattle.sp_shape.specs.Parts.{PlainParts, no_part}
use Rattle.sp_shape.specs.Trail.{Step, trails}
use Rattle.patmos_instr.specs.Bundles.{PlainBundle}
use Rattle.patmos_instr.specs.declared.functions.StackFunc.TheVariants.{Sres, Sfree}
use Rattle.sp_emit.specs.Chains.{stmts_call}
use Rattle.sp_emit.specs.Instructions.{stack_op}
use Rattle.sp_emit.specs.Functions.{place_stored, place_loaded, place_kept, place_brought, function_code, places_of, functions_code, codes, words_taken, words_freed, base_slot, frame_words}
use Rattle.sp_emit.specs.Places.{tops, top_of}
use Rattle.sp_emit.proofs.WordPlaces.{Outside, outside}
use Rattle.sp_tree.specs.Formed.{slots_of}
use Rattle.sp_emit.specs.Flags.{flag_tops, flag_top_of}

-- ---- lists that grow by one

length_more : {A : Type 0} (xs : List A) (x : A) → length (xs ++ x ∷ []) ≡ suc (length xs)
length_more [] x = refl
length_more (y ∷ xs) x = ap suc (length_more xs x)

at_more : {A : Type 0} (xs : List A) (x d : A) (k : ℕ) → k < length xs → slice_index_or (xs ++ x ∷ []) k d
    ≡ slice_index_or xs k d
at_more [] x d k lt = absurd (omega (arith, lt))
at_more (y ∷ xs) x d zero lt = refl
at_more (y ∷ xs) x d (suc k) lt = at_more xs x d k (omega (arith, lt))

at_end : {A : Type 0} (xs : List A) (x d : A) → slice_index_or (xs ++ x ∷ []) (length xs) d ≡ x
at_end [] x d = refl
at_end (y ∷ xs) x d = at_end xs x d

grown_length : {A : Type 0} (xs : ℕ → List A) (x : ℕ → A) → xs 0 ≡ [] → ((n : ℕ) → xs (suc n) ≡ xs n ++ x n ∷ [])
    → (n : ℕ) → length (xs n) ≡ n
grown_length xs x none one zero = ap length none
grown_length xs x none one (suc n) =
    ap length (one n) ∙ length_more (xs n) (x n) ∙ ap suc (grown_length xs x none one n)

grown_at : {A : Type 0} (xs : ℕ → List A) (x : ℕ → A) → xs 0 ≡ [] → ((n : ℕ) → xs (suc n) ≡ xs n ++ x n ∷ [])
    → (d : A) (n k : ℕ) → k < n → slice_index_or (xs n) k d ≡ x k
grown_at xs x none one d zero k lt = absurd (omega (arith, lt))
grown_at {A} xs x none one d (suc n) k lt =
    ap (λ l. slice_index_or l k d) (one n) ∙ by (λ less. grown_at xs x none one d n k less) (cases_lt k n)
  where
    same : length (xs n) ≡ n
    same = grown_length xs x none one n

    by : (k < n → slice_index_or (xs n) k d ≡ x k) → (k < n) ⊎ (n ≤ k) → slice_index_or (xs n ++ x n ∷ []) k d ≡ x k
    by earlier (inl less) = at_more (xs n) (x n) d k (let long = same in omega (arith, long, less)) ∙ earlier less
    by earlier (inr more) =
        let here : k ≡ n = omega (arith, more, lt) in
        let is : k ≡ length (xs n) = let long = same in omega (arith, long, here) in
        ap (λ i. slice_index_or (xs n ++ x n ∷ []) i d) is ∙ at_end (xs n) (x n) d ∙ ap x (sym here)

-- ---- the code of each function

-- the steps of those that are called
abbrev pub code_of : List PlainFunction → ℕ → ℕ → List Step
code_of fs n = trails (codes fs) n

abbrev its_code : List PlainFunction → ℕ → PlainParts
its_code fs k = function_code (places_of fs k) (slice_index_or fs k no_function)

pub codes_length : (fs : List PlainFunction) → length (codes fs) ≡ length fs
codes_length fs = grown_length (functions_code fs) (its_code fs) refl (λ n. refl) (length fs)

pub codes_at : (fs : List PlainFunction) (k : ℕ) → k < length fs → slice_index_or (codes fs) k no_part
    ≡ function_code (places_of fs k) (slice_index_or fs k no_function)
codes_at fs k lt = grown_at (functions_code fs) (its_code fs) refl (λ n. refl) no_part (length fs) k lt

-- ---- where windows end

pub tops_at : (fs : List PlainFunction) (n k : ℕ) → k < n → slice_index_or (tops fs n) k 0 ≡ top_of fs k
tops_at fs = grown_at (tops fs) (top_of fs) refl (λ n. refl) 0

-- ---- how many of the four predicates code may set

pub flag_tops_at : (fs : List PlainFunction) (n k : ℕ) → k < n → slice_index_or (flag_tops fs n) k 4 ≡ flag_top_of fs k
flag_tops_at fs = grown_at (flag_tops fs) (flag_top_of fs) refl (λ n. refl) 4

-- those of no function are all
past_all : (xs : List ℕ) (k d : ℕ) → length xs ≤ k → slice_index_or xs k d ≡ d
past_all [] k d past = refl
past_all (x ∷ xs) zero d past = absurd (omega (arith, past))
past_all (x ∷ xs) (suc k) d past = past_all xs k d (omega (arith, past))

pub flag_tops_past : (fs : List PlainFunction) (n k : ℕ) → n ≤ k → slice_index_or (flag_tops fs n) k 4 ≡ 4
flag_tops_past fs n k past = past_all (flag_tops fs n) k 4 (let same = grown_length (flag_tops fs) (flag_top_of fs) refl
    (λ m. refl) n in omega (arith, same, past))

-- ---- the place to which a function returns is kept, or stays

pub kept_is : (P : List PlainBundle → Type 0) (homes : ℕ) (f : PlainFunction)
    → (stmts_call f.body ≡ true → P (place_stored homes f)) → P [] → P (place_kept homes f)
kept_is P homes f here there = by (stmts_call f.body) refl
  where
    by : (b : Bool) → stmts_call f.body ≡ b → P (if b then place_stored homes f else [])
    by true is = here is
    by false is = there

pub brought_is : (P : List PlainBundle → Type 0) (homes : ℕ) (f : PlainFunction)
    → (stmts_call f.body ≡ true → P (place_loaded homes f)) → P [] → P (place_brought homes f)
brought_is P homes f here there = by (stmts_call f.body) refl
  where
    by : (b : Bool) → stmts_call f.body ≡ b → P (if b then place_loaded homes f else [])
    by true is = here is
    by false is = there

-- ---- words of the stack are taken and freed, or there are none

pub taken_is : (P : List PlainBundle → Type 0) (n : ℕ) → P [] → P (stack_op Sres n ∷ []) → P (words_taken n)
taken_is P zero none some = none
taken_is P (suc n) none some = some

pub freed_is : (P : List PlainBundle → Type 0) (n : ℕ) → P [] → P (stack_op Sfree n ∷ []) → P (words_freed n)
freed_is P zero none some = none
freed_is P (suc n) none some = some

-- ---- how many there are

-- no more than the tree's frame has
pub words_few : (homes : ℕ) (f : PlainFunction) → 2 ≤ f.frame → frame_words homes f ≤ f.frame
words_few homes f some = by (stmts_call f.body)
  where
    by : (b : Bool) → base_slot homes f + (if b then 2 else 0) ≤ f.frame
    by true = omega (arith, some)
    by false = omega (arith, some)

-- two more where it calls others
pub words_called : (homes : ℕ) (f : PlainFunction) → stmts_call f.body ≡ true → frame_words homes f
    ≡ base_slot homes f + 2
words_called homes f has = ap (λ b. base_slot homes f + (if b then 2 else 0)) has

-- the words of a function that stand in no register stand among them, and before the place to which it returns
pub words_outside : (homes : ℕ) (f : PlainFunction) → slots_of f + 2 ≤ f.frame
    → Outside homes (slots_of f) (frame_words homes f)
words_outside homes f room =
    outside homes (slots_of f) (f.frame - 2) (frame_words homes f) (omega (arith, room)) (omega arith)

pub base_outside : (homes : ℕ) (f : PlainFunction) → slots_of f + 2 ≤ f.frame
    → Outside homes (slots_of f) (base_slot homes f)
base_outside homes f room =
    outside homes (slots_of f) (f.frame - 2) (base_slot homes f) (omega (arith, room)) (omega arith)

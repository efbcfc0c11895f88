-- The words after a list of operations, and what its loads see.
use Rattle.std.proofs.Common.{◌≡◌, ℕ, ◌<◌, Bool, true, false, cond, ◌&&◌, List, [], ◌∷◌, ◌++◌, ◌==◌, length, slice_index, slice_set, inl, inr, refl, sym, ap, ◌∙◌, subst, eq-eqb, ne_eqb, true≢false}
use Rattle.std.specs.List.{AllByRecursion as Each}
use Rattle.shared_order.specs.Operation.{store}
use Rattle.shared_order.specs.declared.operation.Operation.{Operation}
use Rattle.shared_order.specs.Words.{put, written, after, zeros, stored_last, LeavesWord, Sees, Reads}
use Rattle.shared_order.specs.Program.{Prog, done, get, set, played}
use Rattle.std.proofs.lemmas.Bool.{cases_eq}
use Rattle.std.proofs.lemmas.List.{get_or-set_same, get_or-set_other}

pub after-append : (xs ys : List Operation) (words : ℕ → ℕ) → after (xs ++ ys) words ≡ after ys (after xs words)
after-append [] ys words = refl
after-append (x ∷ xs) ys words = after-append xs ys (written x words)

pub stored_last-append : (word : ℕ) (xs ys : List Operation) (begun : ℕ) → stored_last word (xs ++ ys) begun
    ≡ stored_last word ys (stored_last word xs begun)
stored_last-append word [] ys begun = refl
stored_last-append word (x ∷ xs) ys begun =
    stored_last-append word xs ys (cond (x.act.write && (x.act.word == word)) x.act.value begun)

written_one : (o : Operation) (words : ℕ → ℕ) (word : ℕ) → written o words word
    ≡ cond (o.act.write && (o.act.word == word)) o.act.value (words word)
written_one o words word = by o.act.write
  where
    by : (b : Bool) → (elim b as (λ _. ℕ → ℕ) [ true ↦ put o.act.word o.act.value words | false ↦ words ]) word
        ≡ cond (b && (o.act.word == word)) o.act.value (words word)
    by true = refl
    by false = refl

-- a word has what was stored last in it
pub after_is_stored : (os : List Operation) (words : ℕ → ℕ) (word : ℕ) → after os words word
    ≡ stored_last word os (words word)
after_is_stored [] words word = refl
after_is_stored (o ∷ os) words word =
    after_is_stored os (written o words) word ∙ ap (stored_last word os) (written_one o words word)

-- stores in other words, and loads, leave what was stored last
pub stored_last-others : (word : ℕ) (os : List Operation) (begun : ℕ) → Each (LeavesWord word) os
    → stored_last word os begun ≡ begun
stored_last-others word [] begun h = refl
stored_last-others word (o ∷ os) begun h = rw (not_stored (o.act.write) refl) (stored_last-others word os begun h.1)
  where
    not_stored : (b : Bool) → o.act.write ≡ b → (o.act.write && (o.act.word == word)) ≡ false
    not_stored true e = ap (λ b. b && (o.act.word == word)) e ∙ ne_eqb o.act.word word (h.0 e)
    not_stored false e = ap (λ b. b && (o.act.word == word)) e

-- so what was stored last is the value of the last store in the word
pub stored_last-store : (word : ℕ) (earlier later : List Operation) (s value begun : ℕ) → Each (LeavesWord word) later
    → stored_last word (earlier ++ store s word value ∷ later) begun ≡ value
stored_last-store word earlier later s value begun h =
    stored_last-append word earlier (store s word value ∷ later) begun
    ∙ stored_last-others word later (cond (word == word) value (stored_last word earlier begun)) h
    ∙ rw (eq-eqb word word refl)

pub sees-append : (words : ℕ → ℕ) (xs ys : List Operation) → Sees words xs → Sees (after xs words) ys
    → Sees words (xs ++ ys)
sees-append words [] ys a b = b
sees-append words (x ∷ xs) ys a b = (a.0, sees-append (written x words) xs ys a.1 b)

pub sees_first : (words : ℕ → ℕ) (xs ys : List Operation) → Sees words (xs ++ ys) → Sees words xs
sees_first words [] ys h = tt
sees_first words (x ∷ xs) ys h = (h.0, sees_first (written x words) xs ys h.1)

pub sees_rest : (words : ℕ → ℕ) (xs ys : List Operation) → Sees words (xs ++ ys) → Sees (after xs words) ys
sees_rest words [] ys h = h
sees_rest words (x ∷ xs) ys h = sees_rest (written x words) xs ys h.1

-- this is what `Reads` says, which looks back for the last store
pub reads_from : (before os : List Operation) → Sees (after before zeros) os → Reads before os
reads_from before [] h = tt
reads_from before (o ∷ os) h = (
  λ loaded. h.0 loaded ∙ after_is_stored before zeros o.act.word,
  reads_from (before ++ o ∷ []) os (subst (λ words. Sees words os) (sym (after-append before (o ∷ []) zeros)) h.1),
)

pub sees_from : (before os : List Operation) → Reads before os → Sees (after before zeros) os
sees_from before [] h = tt
sees_from before (o ∷ os) h = (
  λ loaded. h.0 loaded ∙ sym (after_is_stored before zeros o.act.word),
  subst (λ words. Sees words os) (after-append before (o ∷ []) zeros) (sees_from (before ++ o ∷ []) os h.1),
)

-- a program's loads see the words that it is played on
pub played_sees : {X : Type 0} (s : ℕ) (p : Prog X) (words : ℕ → ℕ) → Sees words (played s p words).ops
played_sees s (done x) words = tt
played_sees s (get word go_on) words = (λ _. refl, played_sees s (go_on (words word)) words)
played_sees s (set word value rest) words = (λ e. absurd (true≢false e), played_sees s rest (put word value words))

-- ---- words as a list

pub word_put : (words : List ℕ) (at value : ℕ) → at < length words → (word : ℕ)
    → slice_index (slice_set words at value) word ≡ put at value (slice_index words) word
word_put words at value below word = elim (cases_eq word at) [
  | inl here ↦ ap (slice_index (slice_set words at value)) here ∙ get_or-set_same words at value 0 below
      ∙ sym (ap (λ b. cond b value (slice_index words word)) (eq-eqb at word (sym here)))
  | inr other ↦ get_or-set_other words at word value 0 other
      ∙ sym (ap (λ b. cond b value (slice_index words word)) (ne_eqb at word (λ same. other (sym same))))
]

-- a word changed in the list is the word put in the function
pub words_put : (words : List ℕ) (at value : ℕ) → at < length words → slice_index (slice_set words at value)
    ≡ put at value (slice_index words)
words_put words at value below = λ i word. word_put words at value below word i

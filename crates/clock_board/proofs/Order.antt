-- The order of operations: what a core makes next is next of all.
use Rattle.std.proofs.Common.{◌≡◌, ◌≢◌, ℕ, ◌%◌, ◌<◌, ◌≤◌, false, List, [], ◌∷◌, ◌++◌, length, drop, sym, refl, ap, ◌∙◌, subst, arith, inl, inr, eq-eqb, ne_eqb, append_assoc, append-nil}
use Rattle.std.specs.List.{AllByRecursion as Each}
use Rattle.std.proofs.lemmas.Bool.{cases_eq}
use Rattle.std.proofs.lemmas.Nat.{mod_below}
use Rattle.std.proofs.Math.Seq.{drop-append_seam}
use Rattle.shared_order.specs.declared.operation.Operation.{Operation}
use Rattle.shared_order.specs.Operation.{operations_of}
use Rattle.shared_order.specs.Order.{Rising}
use Rattle.shared_order.specs.Words.{stored_last, Reads}
use Rattle.shared_order.proofs.Lists.{operations_of-append}
use Rattle.clock_board.specs.Rule.{clock}

-- the operations of a core after an operation of its own
operations_of-cons : (n core : ℕ) (x : Operation) (xs : List Operation) → x.stamp % n ≡ core
    → operations_of n core (x ∷ xs) ≡ x ∷ operations_of n core xs
operations_of-cons n core x xs own = rw (eq-eqb (x.stamp % n) core own) refl

-- the operations of a core after an operation of another core
pub operations_skip : (n core : ℕ) (x : Operation) (xs : List Operation) → x.stamp % n ≢ core
    → operations_of n core (x ∷ xs) ≡ operations_of n core xs
operations_skip n core x xs other = rw (ne_eqb (x.stamp % n) core other) refl

-- one operation more is one more of its core
pub operations_of-push : (n core : ℕ) (xs : List Operation) (o : Operation) → o.stamp % n ≡ core
    → operations_of n core (xs ++ o ∷ []) ≡ operations_of n core xs ++ o ∷ []
operations_of-push n core xs o own = operations_of-append n core xs (o ∷ []) ∙ ap (λ l. operations_of n core xs
    ++ l) (operations_of-cons n core o [] own)

-- and none more of another core
pub operations_of-push_other : (n core : ℕ) (xs : List Operation) (o : Operation) → o.stamp % n ≢ core
    → operations_of n core (xs ++ o ∷ []) ≡ operations_of n core xs
operations_of-push_other n core xs o other = operations_of-append n core xs (o ∷ []) ∙ ap (λ l. operations_of n core xs
    ++ l) (operations_skip n core o [] other) ∙ append-nil (operations_of n core xs)

-- what holds of each operation of a core's operations holds of all that are the core's
pub each_of_core : (n core : ℕ) (P : Operation → Type 0) (os : List Operation) → Each P (operations_of n core os)
    → Each (λ o. o.stamp % n ≡ core → P o) os
each_of_core n core P [] h = tt
each_of_core n core P (x ∷ xs) h = elim (cases_eq (x.stamp % n) core) [
  | inl own ↦ let k : Each P (x ∷ operations_of n core xs) =
      subst (Each P) (operations_of-cons n core x xs own) h in (λ _. k.0, each_of_core n core P xs k.1)
  | inr other ↦ (
    λ own. absurd (other own),
    each_of_core n core P xs
        (subst (Each P) (operations_skip n core x xs other) h),
  )
]

-- what holds of each operation holds of each of the core's, and these are the core's
pub each_of_operations : (n core : ℕ) (P : Operation → Type 0) (os : List Operation) → Each P os
    → Each (λ o. P o × (o.stamp % n ≡ core)) (operations_of n core os)
each_of_operations n core P [] h = tt
each_of_operations n core P (x ∷ xs) h = elim (cases_eq (x.stamp % n) core) [
  | inl own ↦ subst (Each (λ o. P o × (o.stamp % n ≡ core))) (sym (operations_of-cons n core x xs own))
      ((h.0, own), each_of_operations n core P xs h.1)
  | inr other ↦ subst (Each (λ o. P o × (o.stamp % n ≡ core))) (sym (operations_skip n core x xs other))
      (each_of_operations n core P xs h.1)
]

-- an empty list has no first
pub nothing_first : (o : Operation) (left : List Operation) → [] ≡ o ∷ left → ⊥
nothing_first o left e = cc

-- two lists that are equal have one first and one rest
pub same_first : (x o : Operation) (xs left : List Operation) → x ∷ xs ≡ o ∷ left → (x ≡ o) × (xs ≡ left)
same_first x o xs left e = (cc, cc)

-- the operation is the first of these, and after it come `later`
pub record IsFirstOf (n core : ℕ) (o : Operation) (left rest : List Operation) : Type 0 where
  pub later : List Operation
  pub whole : rest ≡ o ∷ later
  pub others : operations_of n core later ≡ left
  pub own : o.stamp % n ≡ core

-- Where no clock is past what its core has still to make, and all clocks but its own are at or past
-- the stamp of what a core makes next, that is the next of all: an operation of another core before
-- it would have a lesser stamp than its core's clock, or the same stamp and so the same core.
pub is_next : (n core : ℕ) (words : List ℕ) (rest left : List Operation) (o : Operation) → 0 < n → Rising rest
    → Each (λ x. clock words (x.stamp % n) ≤ x.stamp) rest
    → operations_of n core rest ≡ o ∷ left → ((d : ℕ) → d < n → d ≢ core → o.stamp ≤ clock words d)
    → IsFirstOf n core o left rest
is_next n core words [] left o some rising clocks e seen = absurd (nothing_first o left e)
is_next n core words (x ∷ xs) left o some rising clocks e seen = elim (cases_eq (x.stamp % n) core) [
  | inl own ↦
      let same = same_first x o (operations_of n core xs) left (sym (operations_of-cons n core x xs own) ∙ e) in
      record {
        later = xs;
        whole = ap (λ y. y ∷ xs) same.0;
        others = same.1;
        own = subst (λ y. y.stamp % n
            ≡ core) same.0 own;
      }
  | inr other ↦
      let mine : Each (λ y. (x.stamp ≤ y.stamp) × (y.stamp % n ≡ core)) (o ∷ left) =
      subst (Each (λ y. (x.stamp ≤ y.stamp) × (y.stamp % n ≡ core))) (sym (operations_skip n core x xs other) ∙ e)
      (each_of_operations n core (λ y. x.stamp ≤ y.stamp) xs rising.0) in
      let lies : o.stamp ≤ clock words (x.stamp % n) = seen (x.stamp % n) (mod_below x.stamp n some) other in
      let level : x.stamp ≡ o.stamp = omega (arith, mine.0.0, lies, clocks.0) in
      absurd (other (ap (λ s. s % n) level ∙ mine.0.1))
]

-- what a core has still to make is its part of the rest
pub left_is_rest : (n core : ℕ) (all done rest made : List Operation) → all ≡ done ++ rest → made
    ≡ operations_of n core done → drop (length made) (operations_of n core all) ≡ operations_of n core rest
left_is_rest n core all done rest made order is =
    ap (λ l. drop (length made) (operations_of n core l)) order
    ∙ ap (λ l. drop (length made) l) (operations_of-append n core done rest)
    ∙ ap (λ l. drop (length l) (operations_of n core done ++ operations_of n core rest)) is
    ∙ drop-append_seam (operations_of n core done) (operations_of n core rest)

-- once more is made, less is left
pub left_goes_on : (made left whole : List Operation) (o : Operation) → whole ≡ made ++ o ∷ left
    → (drop (length (made ++ o ∷ [])) whole ≡ left) × (whole ≡ (made ++ o ∷ []) ++ left)
left_goes_on made left whole o e =
    let split : whole ≡ (made ++ o ∷ []) ++ left = e ∙ sym (append_assoc made (o ∷ []) left) in
    (ap (λ l. drop (length (made ++ o ∷ [])) l) split ∙ drop-append_seam (made ++ o ∷ []) left, split)

-- a load among the operations has what was stored last in its word before it
pub reads_at : (before done later : List Operation) (o : Operation) → Reads before (done ++ o ∷ later) → o.act.write
    ≡ false → o.act.value ≡ stored_last o.act.word (before ++ done) 0
reads_at before [] later o h loaded = h.0 loaded ∙ ap (λ l. stored_last o.act.word l 0) (sym (append-nil before))
reads_at before (x ∷ done) later o h loaded =
    reads_at (before ++ x ∷ []) done later o h.1 loaded
    ∙ ap (λ l. stored_last o.act.word l 0) (append_assoc before (x ∷ []) done)

-- what follows does not fall either
pub rising_rest : (xs ys : List Operation) → Rising (xs ++ ys) → Rising ys
rising_rest [] ys h = h
rising_rest (x ∷ xs) ys h = rising_rest xs ys h.1

-- Loads of some words, among operations of which others leave these words.
use Rattle.std.proofs.Common.{◌≡◌, ℕ, ◌%◌, ◌<◌, Bool, true, false, cond, List, [], ◌∷◌, ◌++◌, ◌==◌, refl, sym, ap, ◌∙◌, subst, eq-eqb, true≢false}
use Rattle.std.specs.List.{AllByRecursion as Each}
use Rattle.std.proofs.lemmas.Nat.{mod_below}
use Rattle.shared_order.specs.declared.operation.Operation.{Operation}
use Rattle.shared_order.specs.Operation.{operations_of}
use Rattle.shared_order.specs.SomeWords.{LoadsOnly, StoresOnly, Outside, SeesOn}
use Rattle.shared_order.specs.Words.{written, after, stored_last, LeavesWord, Sees}
use Rattle.shared_order.proofs.Lists.{each_map}
use Rattle.shared_order.proofs.Words.{after_is_stored, stored_last-others}

-- such words are the same in both
abbrev pub Agree : (ℕ → Type 0) → (ℕ → ℕ) → (ℕ → ℕ) → Type 0
Agree W f g = (word : ℕ) → W word → f word ≡ g word

module _ (W : ℕ → Type 0) where
  pub agree_after : (os : List Operation) (f g : ℕ → ℕ) → Agree W f g → Agree W (after os f) (after os g)
  agree_after os f g h word here =
      after_is_stored os f word ∙ ap (stored_last word os) (h word here) ∙ sym (after_is_stored os g word)

  pub leave_after : (os : List Operation) (f : ℕ → ℕ) → Each (StoresOnly (Outside W)) os → Agree W (after os f) f
  leave_after os f h word here =
      after_is_stored os f word
      ∙ stored_last-others word os (f word) (each_map (StoresOnly (Outside W)) (LeavesWord word)
      (λ o k is same. k is (subst W (sym same) here)) os h)

  pub agree_trans : (f g h : ℕ → ℕ) → Agree W f g → Agree W g h → Agree W f h
  agree_trans f g h a b word here = a word here ∙ b word here

  pub on_all : (f : ℕ → ℕ) (os : List Operation) → Sees f os → SeesOn W f os
  on_all f [] h = tt
  on_all f (o ∷ os) h = (λ loaded here. h.0 loaded, on_all (written o f) os h.1)

  pub all_on : (f : ℕ → ℕ) (os : List Operation) → Each (LoadsOnly W) os → SeesOn W f os → Sees f os
  all_on f [] only h = tt
  all_on f (o ∷ os) only h = (λ loaded. h.0 loaded (only.0 loaded), all_on (written o f) os only.1 h.1)

  pub on_agreed : (f g : ℕ → ℕ) (os : List Operation) → Agree W f g → SeesOn W f os → SeesOn W g os
  on_agreed f g [] a h = tt
  on_agreed f g (o ∷ os) a h = (
    λ loaded here. h.0 loaded here ∙ a o.act.word here,
    on_agreed (written o f)
        (written o g) os (agree_after (o ∷ []) f g a) h.1,
  )

  pub on-append : (f : ℕ → ℕ) (xs ys : List Operation) → SeesOn W f xs → SeesOn W (after xs f) ys
      → SeesOn W f (xs ++ ys)
  on-append f [] ys a b = b
  on-append f (x ∷ xs) ys a b = (a.0, on-append (written x f) xs ys a.1 b)

  pub on_first : (f : ℕ → ℕ) (xs ys : List Operation) → SeesOn W f (xs ++ ys) → SeesOn W f xs
  on_first f [] ys h = tt
  on_first f (x ∷ xs) ys h = (h.0, on_first (written x f) xs ys h.1)

  pub on_rest : (f : ℕ → ℕ) (xs ys : List Operation) → SeesOn W f (xs ++ ys) → SeesOn W (after xs f) ys
  on_rest f [] ys h = h
  on_rest f (x ∷ xs) ys h = on_rest (written x f) xs ys h.1

  -- the operations of a core, where those of the others leave the words
  pub part_sees : (n core : ℕ) (f g : ℕ → ℕ) (all : List Operation) → Agree W f g → Each (λ o. (o.stamp % n == core)
      ≡ false → StoresOnly (Outside W) o) all → SeesOn W f all → SeesOn W g (operations_of n core all)
  part_sees n core f g [] a leave h = tt
  part_sees n core f g (o ∷ os) a leave h =
      by (o.stamp % n == core) refl
      (part_sees n core (written o f) (written o g) os (agree_after (o ∷ []) f g a) leave.1 h.1)
      (λ other. part_sees n core (written o f) g os (agree_trans (written o f) f g
      (leave_after (o ∷ []) f (leave.0 other, tt)) a) leave.1 h.1)
    where
      by : (b : Bool) → (o.stamp % n == core) ≡ b → SeesOn W (written o g) (operations_of n core os)
          → ((o.stamp % n == core) ≡ false → SeesOn W g (operations_of n core os))
          → SeesOn W g (cond b (o ∷ operations_of n core os) (operations_of n core os))
      by true is own others = (λ loaded here. h.0 loaded here ∙ a o.act.word here, own)
      by false is own others = others is

-- what holds of the operations of each other core
each_after : (Q : Operation → Type 0) (b : Bool) (o : Operation) (os : List Operation) → Each Q (cond b (o ∷ os) os)
    → Each Q os
each_after Q true o os h = h.1
each_after Q false o os h = h

pub by_cores : (Q : Operation → Type 0) (n core : ℕ) (all : List Operation) → 0 < n
    → ((other : ℕ) → other < n → (other ≡ core → ⊥) → Each Q (operations_of n other all))
    → Each (λ o. (o.stamp % n == core) ≡ false → Q o) all
by_cores Q n core [] some h = tt
by_cores Q n core (o ∷ os) some h = (
  λ other. (subst (λ b. Each Q (cond b (o ∷ operations_of n (o.stamp % n) os) (operations_of n (o.stamp % n) os)))
      (eq-eqb (o.stamp % n) (o.stamp % n) refl)
      (h (o.stamp % n) (mod_below o.stamp n some)
      (λ same. true≢false (sym (eq-eqb (o.stamp % n) core same) ∙ other)))).0,
  by_cores Q n core os some (λ k below away. each_after Q (o.stamp % n == k) o (operations_of n k os) (h k below away)),
)

-- Lists of operations: their loads, the operations of a core, and their order.
use Rattle.std.proofs.Common.{◌≡◌, ℕ, zero, suc, ◌%◌, ◌<◌, ◌≤◌, Bool, true, false, cond, List, [], ◌∷◌, ◌++◌, ◌==◌, nat_lt, filter, length, get_or, set, take, drop, refl, sym, ap, ◌∙◌, arith, inl, inr, eq-eqb, lt-ltb, le-ltb, le-leb, nat_le, true≢false}
use Rattle.std.specs.List.{AllByRecursion as Each}
use Rattle.std.proofs.lemmas.Bool.{cases_eq, cases_lt, lt-leb}
use Rattle.std.proofs.lemmas.Nat.{mod_below}
use Rattle.std.proofs.lemmas.List.Elements.{filter-append}
use Rattle.shared_order.specs.declared.operation.Operation.{Operation}
use Rattle.shared_order.specs.Operation.{loads, operations_of}
use Rattle.shared_order.specs.Order.{Rising}

pub loads-append : (xs ys : List Operation) → loads (xs ++ ys) ≡ loads xs ++ loads ys
loads-append [] ys = refl
loads-append (o ∷ os) ys = elim o.act.write as (λ b. elim b [
  | true ↦ loads (os ++ ys)
  | false ↦ o.act.value
      ∷ loads (os ++ ys)
] ≡ elim b [ true ↦ loads os | false ↦ o.act.value ∷ loads os ] ++ loads ys) [
  | true ↦ loads-append os ys
  | false ↦ ap (λ l. o.act.value ∷ l) (loads-append os ys)
]

-- ---- filters

-- two filters, in either order
pub filter-filter : {Y : Type 0} (p q : Y → Bool) (xs : List Y) → filter p (filter q xs) ≡ filter q (filter p xs)
filter-filter p q [] = refl
filter-filter p q (x ∷ xs) = by (p x) (q x) refl refl (filter-filter p q xs)
  where
    by : (a b : Bool) → p x ≡ a → q x ≡ b → filter p (filter q xs) ≡ filter q (filter p xs)
        → filter p (cond b (x ∷ filter q xs) (filter q xs)) ≡ filter q (cond a (x ∷ filter p xs) (filter p xs))
    by true true e f rest = rw (e, f) (ap (λ l. x ∷ l) rest)
    by true false e f rest = rw f rest
    by false true e f rest = rw e rest
    by false false e f rest = rest

pub filter_all : {Y : Type 0} (test : Y → Bool) (xs : List Y) → Each (λ x. test x ≡ true) xs → filter test xs ≡ xs
filter_all test [] h = refl
filter_all test (x ∷ xs) h = rw h.0 (ap (λ l. x ∷ l) (filter_all test xs h.1))

pub filter_none : {Y : Type 0} (test : Y → Bool) (xs : List Y) → Each (λ x. test x ≡ false) xs → filter test xs ≡ []
filter_none test [] h = refl
filter_none test (x ∷ xs) h = rw h.0 (filter_none test xs h.1)

-- ---- what holds of each

pub each_map : {Y : Type 0} (P Q : Y → Type 0) → ((y : Y) → P y → Q y) → (xs : List Y) → Each P xs → Each Q xs
each_map P Q f [] h = tt
each_map P Q f (x ∷ xs) h = (f x h.0, each_map P Q f xs h.1)

pub each-append : {Y : Type 0} (P : Y → Type 0) (xs ys : List Y) → Each P xs → Each P ys → Each P (xs ++ ys)
each-append P [] ys h k = k
each-append P (x ∷ xs) ys h k = (h.0, each-append P xs ys h.1 k)

pub each_first : {Y : Type 0} (P : Y → Type 0) (xs ys : List Y) → Each P (xs ++ ys) → Each P xs
each_first P [] ys h = tt
each_first P (x ∷ xs) ys h = (h.0, each_first P xs ys h.1)

pub each_rest : {Y : Type 0} (P : Y → Type 0) (xs ys : List Y) → Each P (xs ++ ys) → Each P ys
each_rest P [] ys h = h
each_rest P (x ∷ xs) ys h = each_rest P xs ys h.1

-- from two facts of each element a third
pub each_zip : {Y : Type 0} (P Q R : Y → Type 0) → ((y : Y) → P y → Q y → R y) → (xs : List Y) → Each P xs
    → Each Q xs → Each R xs
each_zip P Q R f [] p q = tt
each_zip P Q R f (x ∷ xs) p q = (f x p.0 q.0, each_zip P Q R f xs p.1 q.1)

-- what holds of all holds of each
pub each_all : {Y : Type 0} (P : Y → Type 0) → ((y : Y) → P y) → (xs : List Y) → Each P xs
each_all P f [] = tt
each_all P f (x ∷ xs) = (f x, each_all P f xs)

-- of the element at an index
pub each_at : {Y : Type 0} (P : Y → Type 0) (xs : List Y) (i : ℕ) (d : Y) → Each P xs → i < length xs
    → P (get_or xs i d)
each_at P [] i d h below = absurd (omega (arith, below))
each_at P (x ∷ xs) zero d h below = h.0
each_at P (x ∷ xs) (suc i) d h below = each_at P xs i d h.1 (omega (arith, below))

-- of the first elements, of those past them, and of all with another one set at an index
pub each_take : {Y : Type 0} (P : Y → Type 0) (n : ℕ) (xs : List Y) → Each P xs → Each P (take n xs)
each_take P zero xs h = tt
each_take P (suc n) [] h = tt
each_take P (suc n) (x ∷ xs) h = (h.0, each_take P n xs h.1)

pub each_drop : {Y : Type 0} (P : Y → Type 0) (n : ℕ) (xs : List Y) → Each P xs → Each P (drop n xs)
each_drop P zero xs h = h
each_drop P (suc n) [] h = tt
each_drop P (suc n) (x ∷ xs) h = each_drop P n xs h.1

pub each_set : {Y : Type 0} (P : Y → Type 0) (xs : List Y) (i : ℕ) (y : Y) → Each P xs → P y → Each P (set xs i y)
each_set P [] i y h k = tt
each_set P (x ∷ xs) zero y h k = (k, h.1)
each_set P (x ∷ xs) (suc i) y h k = (h.0, each_set P xs i y h.1 k)

-- and of those that a test lets pass
pub each_filter : {Y : Type 0} (P : Y → Type 0) (test : Y → Bool) (xs : List Y) → Each P xs → Each P (filter test xs)
each_filter P test [] h = tt
each_filter P test (x ∷ xs) h = by (test x) refl (each_filter P test xs h.1)
  where
    by : (b : Bool) → test x ≡ b → Each P (filter test xs) → Each P (filter test (x ∷ xs))
    by true here rest = rw here (h.0, rest)
    by false other rest = rw other rest

-- ---- operations of one stamp, and a core's operations among them

pub operations_of-append : (n core : ℕ) (xs ys : List Operation) → operations_of n core (xs ++ ys)
    ≡ operations_of n core xs ++ operations_of n core ys
operations_of-append n core xs ys = filter-append (λ o. o.stamp % n == core) xs ys

-- operations of the core's own stamps are its part
pub own_operations : (n core s : ℕ) (os : List Operation) → (s % n == core) ≡ true → Each (λ o. o.stamp ≡ s) os
    → operations_of n core os ≡ os
own_operations n core s os own at =
    filter_all (λ o. o.stamp % n == core) os (each_map (λ o. o.stamp ≡ s) (λ o. (o.stamp % n == core) ≡ true)
    (λ o e. ap (λ u. u % n == core) e ∙ own) os at)

-- and of others' stamps, none is
pub other_operations : (n core s : ℕ) (os : List Operation) → (s % n == core) ≡ false → Each (λ o. o.stamp ≡ s) os
    → operations_of n core os ≡ []
other_operations n core s os other at =
    filter_none (λ o. o.stamp % n == core) os (each_map (λ o. o.stamp ≡ s) (λ o. (o.stamp % n == core) ≡ false)
    (λ o e. ap (λ u. u % n == core) e ∙ other) os at)

nil_of : {Y : Type 0} (b : Bool) (x : Y) (l : List Y) → cond b (x ∷ l) l ≡ [] → (b ≡ false) × (l ≡ [])
nil_of true x l e = cc
nil_of false x l e = (refl, e)

-- an operation is in the part of its core
never_other : (n : ℕ) (o : Operation) (os : List Operation) → operations_of n (o.stamp % n) (o ∷ os) ≡ [] → ⊥
never_other n o os none = true≢false (sym (eq-eqb (o.stamp % n) (o.stamp % n) refl)
    ∙ (nil_of (o.stamp % n == o.stamp % n) o (operations_of n (o.stamp % n) os) none).0)

-- so where no core has a part, there is no operation
pub no_operations : (n : ℕ) (os : List Operation) → 0 < n → ((core : ℕ) → core < n → operations_of n core os ≡ []) → os
    ≡ []
no_operations n [] some none = refl
no_operations n (o ∷ os) some none = absurd (never_other n o os (none (o.stamp % n) (mod_below o.stamp n some)))

-- where the other cores have no part, a core's operations is all
pub one_core_has_all : (n core : ℕ) (os : List Operation) → 0 < n → ((other : ℕ) → other < n → (other ≡ core → ⊥)
    → operations_of n other os ≡ []) → operations_of n core os ≡ os
one_core_has_all n core [] some none = refl
one_core_has_all n core (o ∷ os) some none = elim (cases_eq (o.stamp % n) core) [
  | inl own ↦ rw (eq-eqb (o.stamp % n) core own)
      (ap (λ l. o ∷ l) (one_core_has_all n core os some
      (λ other among away. (nil_of (o.stamp % n == other) o (operations_of n other os) (none other among away)).1)))
  | inr other ↦ absurd (never_other n o os (none (o.stamp % n) (mod_below o.stamp n some) other))
]

-- ---- lists that do not fall

pub rising_of_one : (s : ℕ) (os : List Operation) → Each (λ o. o.stamp ≡ s) os → Rising os
rising_of_one s [] at = tt
rising_of_one s (o ∷ os) at = (
  each_map (λ later. later.stamp ≡ s) (λ later. o.stamp ≤ later.stamp) (λ later e. omega (arith, e, at.0)) os at.1,
  rising_of_one s os at.1,
)

pub rising-append : (s : ℕ) (xs ys : List Operation) → Rising xs → Each (λ o. o.stamp ≤ s) xs → Rising ys
    → Each (λ o. s ≤ o.stamp) ys → Rising (xs ++ ys)
rising-append s [] ys rx bx ry by = ry
rising-append s (x ∷ xs) ys rx bx ry by = (
  each-append (λ later. x.stamp ≤ later.stamp) xs ys rx.0 (each_map (λ o. s ≤ o.stamp)
      (λ later. x.stamp ≤ later.stamp) (λ later h. omega (arith, h, bx.0)) ys by),
  rising-append s xs ys rx.1 bx.1 ry by,
)

pub rising_first : (xs ys : List Operation) → Rising (xs ++ ys) → Rising xs
rising_first [] ys r = tt
rising_first (x ∷ xs) ys r = (each_first (λ later. x.stamp ≤ later.stamp) xs ys r.0, rising_first xs ys r.1)

-- the operations of lesser stamps, and the others
abbrev pub early : ℕ → List Operation → List Operation
early s os = filter (λ o. nat_lt o.stamp s) os

abbrev pub late : ℕ → List Operation → List Operation
late s os = filter (λ o. nat_le s o.stamp) os

pub early_all : (s : ℕ) (os : List Operation) → Each (λ o. o.stamp < s) os → early s os ≡ os
early_all s os h = filter_all (λ o. nat_lt o.stamp s) os (each_map (λ o. o.stamp < s) (λ o. nat_lt o.stamp s ≡ true)
    (λ o l. lt-ltb o.stamp s l) os h)

pub early_none : (s : ℕ) (os : List Operation) → Each (λ o. s ≤ o.stamp) os → early s os ≡ []
early_none s os h = filter_none (λ o. nat_lt o.stamp s) os (each_map (λ o. s ≤ o.stamp) (λ o. nat_lt o.stamp s ≡ false)
    (λ o l. le-ltb o.stamp s l) os h)

pub late_all : (s : ℕ) (os : List Operation) → Each (λ o. s ≤ o.stamp) os → late s os ≡ os
late_all s os h = filter_all (λ o. nat_le s o.stamp) os (each_map (λ o. s ≤ o.stamp) (λ o. nat_le s o.stamp ≡ true)
    (λ o l. le-leb s o.stamp l) os h)

pub late_none : (s : ℕ) (os : List Operation) → Each (λ o. o.stamp < s) os → late s os ≡ []
late_none s os h = filter_none (λ o. nat_le s o.stamp) os (each_map (λ o. o.stamp < s) (λ o. nat_le s o.stamp ≡ false)
    (λ o l. lt-leb s o.stamp l) os h)

-- a list that does not fall is its early operations and then its late ones
pub early-late : (s : ℕ) (os : List Operation) → Rising os → early s os ++ late s os ≡ os
early-late s [] r = refl
early-late s (o ∷ os) r = elim (cases_lt o.stamp s) [
  | inl lesser ↦ rw (lt-ltb o.stamp s lesser, lt-leb s o.stamp lesser) (ap (λ l. o ∷ l) (early-late s os r.1))
  | inr from ↦
      let all_late : Each (λ later. s ≤ later.stamp) os = each_map (λ later. o.stamp ≤ later.stamp)
      (λ later. s ≤ later.stamp) (λ later h. omega (arith, h, from)) os r.0 in
      rw (le-ltb o.stamp s from, le-leb s o.stamp from) (ap (λ l. l ++ o ∷ late s os) (early_none s os all_late)
      ∙ ap (λ l. o ∷ l) (late_all s os all_late))
]

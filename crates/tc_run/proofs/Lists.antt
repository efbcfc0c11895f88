-- Lists that grow by one element, and lists that lose one.
use Rattle.std.proofs.Common.{ℕ, zero, suc, List, [], ◌∷◌, ◌++◌, length, refl, arith, Any, All, ◌⊎◌, inl, inr}
use Rattle.std.proofs.lemmas.List.Elements.{All-nil, All-cons, All-head, All-tail}
use Rattle.patmos_core.specs.declared.cpu.Core.{Core as Cpu}
use Rattle.global_step.specs.PlainRun.{Every}

-- what holds of all elements of two lists, holds of those of each
pub all_prefix : {X : Type 0} (P : X → Type 0) (xs ys : List X) → All P (xs ++ ys) → All P xs
all_prefix P [] ys h = All-nil P
all_prefix P (x ∷ xs) ys h =
    All-cons P x xs (All-head P x (xs ++ ys) h) (all_prefix P xs ys (All-tail P x (xs ++ ys) h))

pub all_back : {X : Type 0} (P : X → Type 0) (xs ys : List X) → All P (xs ++ ys) → All P ys
all_back P [] ys h = h
all_back P (x ∷ xs) ys h = all_back P xs ys (All-tail P x (xs ++ ys) h)

-- what holds of one element of the first or of the second list, holds of one of both, and the other way round
pub any_prefix : {X : Type 0} (P : X → Type 0) (xs ys : List X) → Any P xs → Any P (xs ++ ys)
any_prefix P [] ys (k, x, below, is, h) = absurd (omega (arith, below))
any_prefix P (x₀ ∷ xs) ys (zero, x, below, is, h) = (zero, x, omega arith, is, h)
any_prefix P (x₀ ∷ xs) ys (suc k, x, below, is, h) =
    let r = any_prefix P xs ys (k, x, omega (arith, below), is, h) in (suc r.0, r.1, omega (arith, r.2), r.3, r.4)

pub any_back : {X : Type 0} (P : X → Type 0) (xs ys : List X) → Any P ys → Any P (xs ++ ys)
any_back P [] ys h = h
any_back P (x ∷ xs) ys h = let r = any_back P xs ys h in (suc r.0, r.1, omega (arith, r.2), r.3, r.4)

pub any_apart : {X : Type 0} (P : X → Type 0) (xs ys : List X) → Any P (xs ++ ys) → Any P xs ⊎ Any P ys
any_apart P [] ys h = inr h
any_apart P (x₀ ∷ xs) ys (zero, x, below, is, h) = inl (zero, x, omega arith, is, h)
any_apart P (x₀ ∷ xs) ys (suc k, x, below, is, h) = elim (any_apart P xs ys (k, x, omega (arith, below), is, h)) [
  | inl r ↦ inl (suc r.0, r.1, omega (arith, r.2), r.3, r.4)
  | inr r ↦ inr r
]

-- one element of which it holds is a list of one
pub any_one : {X : Type 0} (P : X → Type 0) (x : X) → P x → Any P (x ∷ [])
any_one P x h = (zero, x, omega arith, refl, h)

-- what holds of each core by its number, holds of them and one more
pub every_more : (P : ℕ → Cpu → Type 0) (cs : List Cpu) (c : Cpu) → Every P cs → P (length cs) c
    → Every P (cs ++ c ∷ [])
every_more P [] c all one zero = one
every_more P [] c all one (suc k) = tt
every_more P (d ∷ cs) c all one zero = all zero
every_more P (d ∷ cs) c all one (suc k) = every_more (λ j. P (suc j)) cs c (λ j. all (suc j)) one k

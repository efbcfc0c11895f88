-- The least of the stamps of the cores.
use Rattle.std.proofs.Common.{◌≡◌, ℕ, ◌+◌, ◌<◌, List, None, Some, Option, length, get_or, sym, subst, subst₂, refl, inl, inr, arith}
use Rattle.std.proofs.lemmas.Bool.{cases_lt}
use Rattle.std.proofs.lemmas.Option.{slice_get_read, get_or_from_slice_get}
use Rattle.patmos_core.specs.declared.cpu.Core.{Core as Cpu}
use Rattle.patmos_core.specs.Position.{stamp_of}
use Rattle.global_step.specs.PlainRun.{Precedes}

pub precedes_itself : (a : Option ℕ) → Precedes a a
precedes_itself None = tt
precedes_itself (Some s) = omega arith

pub precedes_both : (a b c : Option ℕ) → Precedes a b → Precedes b c → Precedes a c
precedes_both a b None h k = tt
precedes_both a None (Some s) h k = absurd k
precedes_both None (Some t) (Some s) h k = absurd h
precedes_both (Some u) (Some t) (Some s) h k = omega (arith, h, k)

-- the core at an index, whatever stands for one past the end
pub at_index : (cores : List Cpu) (k : ℕ) (c d : Cpu) → k < length cores → c ≡ get_or cores k c → get_or cores k d ≡ c
at_index cores k c d below is =
    get_or_from_slice_get cores k c d (slice_get_read cores (length cores) k c refl below is)

abbrev pub IsFirst : List Cpu → ℕ → ℕ → Type 0
IsFirst cores below k =
    (j : ℕ) (d : Cpu) → j < below → Precedes (stamp_of (get_or cores k d)) (stamp_of (get_or cores j d))

pub first_first : (cores : List Cpu) → IsFirst cores 1 0
first_first cores j d below = let zero_is : 0 ≡ j = omega (arith, below) in
    subst (λ i. Precedes (stamp_of (get_or cores 0 d)) (stamp_of (get_or cores i d))) zero_is
    (precedes_itself (stamp_of (get_or cores 0 d)))

module _ (cores : List Cpu) (k least : ℕ) (a b : Cpu) (below : k < length cores) (within : least < length cores)
    (a_is : a ≡ get_or cores k a) (b_is : b ≡ get_or cores least b) where
  pub first_moves : Precedes (stamp_of a) (stamp_of b) → IsFirst cores k least → IsFirst cores (k + 1) k
  first_moves before first j d low = elim (cases_lt j k) [
    | inl lower ↦ precedes_both (stamp_of (get_or cores k d)) (stamp_of (get_or cores least d))
        (stamp_of (get_or cores j d))
        (subst₂ (λ x y. Precedes (stamp_of x) (stamp_of y)) (sym (at_index cores k a d below a_is))
        (sym (at_index cores least b d within b_is)) before) (first j d lower)
    | inr from ↦ let here : k ≡ j = omega (arith, from, low) in subst (λ i. Precedes (stamp_of (get_or cores k d))
        (stamp_of (get_or cores i d))) here (precedes_itself (stamp_of (get_or cores k d)))
  ]

  pub first_stays : Precedes (stamp_of b) (stamp_of a) → IsFirst cores k least → IsFirst cores (k + 1) least
  first_stays before first j d low = elim (cases_lt j k) [
    | inl lower ↦ first j d lower
    | inr from ↦ let here : k ≡ j = omega (arith, from, low) in subst (λ i. Precedes (stamp_of (get_or cores least d))
        (stamp_of (get_or cores i d))) here
        (subst₂ (λ x y. Precedes (stamp_of x) (stamp_of y)) (sym (at_index cores least b d within b_is))
        (sym (at_index cores k a d below a_is)) before)
  ]

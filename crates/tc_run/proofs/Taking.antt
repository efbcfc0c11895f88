-- One worker taken out of a list: the last takes its place.
use Rattle.std.proofs.Common.{◌≡◌, ◌≢◌, ℕ, ◌+◌, ◌-◌, ◌<◌, List, length, sym, ap, ◌∙◌, subst, arith, slice_index_or, All, inl, inr}
use Rattle.std.proofs.lemmas.Bool.{cases_lt}
use Rattle.core_worker.specs.Worker.{WorkerFace}
use Rattle.tc_run.specs.Worked.{number_of, HasWorker}

-- how the list of n is left: shorter by one, with the last in the place of the one that was taken
pub record IsLeft (xs xs' : List WorkerFace) (at : ℕ) : Type 0 where
  pub n : ℕ
  pub size : n ≡ length xs
  pub size' : length xs' + 1 ≡ n
  pub within : at < n
  pub here : (d : WorkerFace) → at + 1 < n → slice_index_or xs' at d ≡ slice_index_or xs (n - 1) d
  pub others : (k : ℕ) (d : WorkerFace) → k ≢ at → k + 1 < n → slice_index_or xs' k d ≡ slice_index_or xs k d

module _ (xs xs' : List WorkerFace) (at : ℕ) (left : IsLeft xs xs' at) where
  -- what holds of all holds of those that are left
  pub all_left : (P : WorkerFace → Type 0) → All P xs → All P xs'
  all_left P all k d below = elim (cases_lt k at) [
    | inl low ↦ subst P (sym (left.others k d (λ e. omega (arith, e, low)) (omega (arith, below, left.size'))))
        (all k d (omega (arith, below, left.size', left.size)))
    | inr high ↦ elim (cases_lt at k) [
      | inl more ↦ subst P (sym (left.others k d (λ e. omega (arith, e, more)) (omega (arith, below, left.size'))))
          (all k d (omega (arith, below, left.size', left.size)))
      | inr same ↦
          let e : at ≡ k = omega (arith, high, same) in
          subst (λ j. P (slice_index_or xs' j d)) e
          (subst P (sym (left.here d (omega (arith, e, below, left.size'))))
          (all (left.n - 1) d (omega (arith, left.size, left.within))))
    ]
  ]

  -- the workers of other cores are left
  pub others_left : (core k : ℕ) → ((d : WorkerFace) → number_of (slice_index_or xs at d) ≡ core) → k ≢ core
      → HasWorker xs k → HasWorker xs' k
  others_left core k taken other (j, w, below, is, h) = elim (cases_lt j at) [
    | inl low ↦ elim (cases_lt (j + 1) left.n) [
      | inl inner ↦ (j, w, omega (arith, inner, left.size'), left.others j w (λ e. omega (arith, e, low)) inner ∙ is, h)
      | inr outer ↦ absurd (omega (arith, outer, low, left.within))
    ]
    | inr high ↦ elim (cases_lt at j) [
      | inl more ↦ elim (cases_lt (j + 1) left.n) [
        | inl inner ↦ (
          j,
          w,
          omega (arith, inner, left.size'),
          left.others j w (λ e. omega (arith, e, more)) inner ∙ is,
          h,
        )
        | inr outer ↦
            let last : left.n - 1 ≡ j = omega (arith, outer, below, left.size) in (
              at,
              w,
              omega (arith, more, below, left.size, left.size'),
              left.here w (omega (arith, more, below, left.size)) ∙ ap (λ i. slice_index_or xs i w) last ∙ is,
              h,
            )
      ]
      | inr same ↦
          let e : j ≡ at = omega (arith, high, same) in
          absurd (other (sym h ∙ ap number_of (sym is ∙ ap (λ i. slice_index_or xs i w) e) ∙ taken w))
    ]
  ]

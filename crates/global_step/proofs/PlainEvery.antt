-- What holds of each core.
use Rattle.std.proofs.Common.{◌≡◌, ◌≢◌, ℕ, zero, suc, ◌+◌, ◌<◌, ◌≤◌, List, [], ◌∷◌, IfSome, slice_set, length, get_or, sym, ap, subst, ◌∙◌, refl, inl, inr, arith}
use Rattle.std.proofs.lemmas.Bool.{cases_lt, cases_eq}
use Rattle.std.proofs.lemmas.Option.{slice_get-get_or, slice_get_past}
use Rattle.std.proofs.lemmas.List.{length-set, get_or-set_same, get_or-set_other}
use Rattle.patmos_core.specs.declared.cpu.Core.{Core as Cpu}
use Rattle.shared_order.specs.declared.operation.Operation.{Operation}
use Rattle.patmos_model.specs.State.{Core}
use Rattle.patmos_core.specs.Position.{StandsFor}
use Rattle.global_step.specs.PlainRun.{Every, Begins, IsReady, HasNext}

-- at its index, whatever stands for a core past the end
pub every_at : (P : ℕ → Cpu → Type 0) (cores : List Cpu) (k : ℕ) (d : Cpu) → Every P cores → k < length cores
    → P k (get_or cores k d)
every_at P cores k d h below = subst (λ o. IfSome o (P k)) (slice_get-get_or cores k d below) (h k)

pub every_core : (P : ℕ → Cpu → Type 0) (cores : List Cpu) (k : ℕ) (c : Cpu) → Every P cores → k < length cores → c
    ≡ get_or cores k c → P k c
every_core P cores k c h below is = subst (P k) (sym is) (every_at P cores k c h below)

pub every_from : (P : ℕ → Cpu → Type 0) (cores : List Cpu) → ((k : ℕ) (d : Cpu) → k < length cores
    → P k (get_or cores k d)) → Every P cores
every_from P [] h k = tt
every_from P (c ∷ cs) h k = elim (cases_lt k (length (c ∷ cs))) [
  | inl below ↦ subst (λ o. IfSome o (P k)) (sym (slice_get-get_or (c ∷ cs) k c below)) (h k c below)
  | inr past ↦ subst (λ o. IfSome o (P k)) (sym (slice_get_past (c ∷ cs) k past)) tt
]

-- which core stands for one past the end makes no difference within
pub any : (cores : List Cpu) (j : ℕ) (d d' : Cpu) → j < length cores → get_or cores j d ≡ get_or cores j d'
any [] j d d' low = absurd (omega (arith, low))
any (c ∷ cs) zero d d' low = refl
any (c ∷ cs) (suc j) d d' low = any cs j d d' (omega (arith, low))

-- where one core changes: what holds of it, and what follows for the others
pub every_set : (P Q : ℕ → Cpu → Type 0) (cores : List Cpu) (k : ℕ) (c : Cpu) → k < length cores → Every P cores → Q k c
    → ((j : ℕ) (o : Cpu) → j < length cores → o ≡ get_or cores j o → j ≢ k → P j o → Q j o)
    → Every Q (slice_set cores k c)
every_set P Q cores k c below h here others = every_from Q (slice_set cores k c) by
  where
    by : (j : ℕ) (d : Cpu) → j < length (slice_set cores k c) → Q j (get_or (slice_set cores k c) j d)
    by j d within =
        let low : j < length cores = subst (λ n. j < n) (length-set cores k c) within in
        elim (cases_eq j k) [
          | inl same ↦ subst (λ i. Q i (get_or (slice_set cores k c) i d)) (sym same)
              (subst (Q k) (sym (get_or-set_same cores k c d below)) here)
          | inr other ↦ subst (Q j) (sym (get_or-set_other cores k j c d other))
              (others j (get_or cores j d) low (any cores j d (get_or cores j d) low) other
              (every_at P cores j d h low))
        ]

-- the cores below k were asked for their first event, and the others are as they were
pub record Asked (most k : ℕ) (begun cores : List Cpu) : Type 0 where
  pub ready : (j : ℕ) (d : Cpu) → j < k → IsReady most (get_or cores j d)
  pub next : (x : ℕ → Core) → Begins x begun → (j : ℕ) (d : Cpu) → j < k → HasNext (x j) [] most (get_or cores j d)
  pub same : (j : ℕ) (d : Cpu) → k ≤ j → get_or cores j d ≡ get_or begun j d

pub asked_more : (most k : ℕ) (begun cores : List Cpu) (c c' : Cpu) → k < length cores → length cores ≡ length begun
    → IsReady most c'
    → ((x : Core) (made : List Operation) → StandsFor (get_or cores k c) x made → HasNext x made most c')
    → Asked most k begun cores → Asked most (k + 1) begun (slice_set cores k c')
asked_more most k begun cores c c' below count ready next h = record {
  ready = λ j d low. elim (cases_lt j k) [
    | inl lower ↦ subst (IsReady most) (sym (get_or-set_other cores k j c' d (λ e. omega (arith, e, lower))))
        (h.ready j d lower)
    | inr from ↦ subst (IsReady most) (sym (here j d (omega (arith, low, from)))) ready
  ];
  next = λ x begins j d low. elim (cases_lt j k) [
    | inl lower ↦ subst (HasNext (x j) [] most) (sym (get_or-set_other cores k j c' d (λ e. omega (arith, e, lower))))
        (h.next x begins j d lower)
    | inr from ↦
        let at : k ≡ j = omega (arith, low, from) in
        subst (HasNext (x j) [] most) (sym (here j d (sym at))) (subst (λ i. HasNext (x i) [] most c') at (next (x k) []
        (subst (λ o. StandsFor o (x k) []) (sym (h.same k c (omega arith)))
        (every_at (λ i o. StandsFor o (x i) []) begun k c begins (omega (arith, below, count))))))
  ];
  same = λ j d from. get_or-set_other cores k j c' d (λ e. omega (arith, e, from)) ∙ h.same j d (omega (arith, from));
}
  where
    here : (j : ℕ) (d : Cpu) → j ≡ k → get_or (slice_set cores k c') j d ≡ c'
    here j d e = ap (λ i. get_or (slice_set cores k c') i d) e ∙ get_or-set_same cores k c' d below

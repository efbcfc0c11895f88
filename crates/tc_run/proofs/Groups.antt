-- How the groups of workers grow.
use Rattle.std.proofs.Common.{◌≡◌, ℕ, zero, suc, ◌+◌, ◌<◌, List, [], ◌∷◌, length, Some, slice_get, slice_index_or, slice_set, sym, ap, ◌∙◌, subst, arith, inl, inr}
use Rattle.std.proofs.lemmas.Bool.{cases_eq}
use Rattle.std.proofs.lemmas.List.{get_or-set_same, get_or-set_other}
use Rattle.std.proofs.lemmas.Option.{none-some, same_Some}
use Rattle.global_step.specs.declared.loaded.LoadedCore.{LoadedCore}
use Rattle.tc_run.specs.Groups.{tasks_of, tasks_before}

-- how many of the first cores have a task, and of one more
pub tasks_next : (ls : List LoadedCore) (k : ℕ) (l : LoadedCore) → slice_get ls k ≡ Some l → tasks_before ls (k + 1)
    ≡ tasks_before ls k + tasks_of l
tasks_next [] k l is = absurd (none-some l is)
tasks_next (x ∷ ls) zero l is = omega (arith, ap tasks_of (same_Some x l is))
tasks_next (x ∷ ls) (suc k) l is =
    let e : suc k + 1 ≡ suc (k + 1) = omega arith in
    ap (tasks_before (x ∷ ls)) e ∙ omega (arith, tasks_next ls k l is)

-- what holds of what stands in one place, still holds when another was put in the place of o, and holds of it if of o
pub kept_at : {X : Type 0} (P : X → Type 0) (xs : List X) (at k : ℕ) (o y d : X) → slice_index_or xs at o ≡ o
    → at < length xs → (P o → P y)
    → ((d : X) → P (slice_index_or xs k d)) → P (slice_index_or (slice_set xs at y) k d)
kept_at P xs at k o y d is within grow held = elim (cases_eq at k) [
  | inl same ↦
      subst (λ j. P (slice_index_or (slice_set xs at y) j d)) same
      (subst P (sym (get_or-set_same xs at y d within))
      (grow (subst P is (subst (λ j. P (slice_index_or xs j o)) (sym same) (held o)))))
  | inr other ↦ subst P (sym (get_or-set_other xs at k y d (λ e. other (sym e)))) (held d)
]

-- The task of a core is one of the job's.
use Rattle.std.proofs.Common.{◌≡◌, ℕ, List, [], ◌∷◌, Option, Some, IfSome, subst, sym, refl}
use Rattle.std.specs.Prelude.{All, Bool, true, false, ◌==◌, cond}
use Rattle.std.specs.List.{AllByRecursion as Each}
use Rattle.std.proofs.lemmas.Bool.{eqb-true}
use Rattle.std.proofs.lemmas.List.Elements.{recursion_from_All}
use Rattle.tc_job.specs.declared.task.Task.{Task}
use Rattle.tc_job.specs.Ranges.{IsTaskAmong}
use Rattle.job_tasks.specs.Tasks.{task_on}

pub found_among : (P : Task → Type 0) (tasks : List Task) (core : ℕ) → Each P tasks → IfSome (task_on tasks core) P
found_among P [] core each = tt
found_among P (t ∷ ts) core each = by (t.core == core) (found_among P ts core each.1)
  where
    by : (here : Bool) → IfSome (task_on ts core) P → IfSome (cond here (Some t) (task_on ts core)) P
    by true later = each.0
    by false later = later

pub found_task : (cores : ℕ) (tasks : List Task) (core : ℕ) (found : Option Task) → found ≡ task_on tasks core
    → All (IsTaskAmong cores) tasks → IfSome found (IsTaskAmong cores)
found_task cores tasks core found is all =
    subst (λ o. IfSome o (IsTaskAmong cores)) (sym is) (found_among (IsTaskAmong cores) tasks core
    (recursion_from_All (IsTaskAmong cores) tasks all))

-- it is of that core
core_found : (tasks : List Task) (core : ℕ) → IfSome (task_on tasks core) (λ t. t.core ≡ core)
core_found [] core = tt
core_found (t ∷ ts) core = by (t.core == core) refl (core_found ts core)
  where
    by : (here : Bool) → (t.core == core) ≡ here → IfSome (task_on ts core) (λ t. t.core ≡ core)
        → IfSome (cond here (Some t) (task_on ts core)) (λ t. t.core ≡ core)
    by true same later = eqb-true t.core core same
    by false other later = later

pub found_core : (tasks : List Task) (core : ℕ) (found : Option Task) → found ≡ task_on tasks core
    → IfSome found (λ t. t.core ≡ core)
found_core tasks core found is = subst (λ o. IfSome o (λ t. t.core ≡ core)) (sym is) (core_found tasks core)

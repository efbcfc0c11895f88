-- The tasks of a job get their codes, core after core.
use Rattle.std.proofs.Common.{◌≡◌, ℕ, zero, suc, ◌+◌, arith, List, [], ◌∷◌, ◌++◌, length, slice_get, refl, sym, ap, ◌∙◌, append_assoc, subst, Option, Some, None, IfSome, option_map}
use Rattle.std.specs.Prelude.{Result, Ok, Err}
use Rattle.std.proofs.lemmas.List.{length-map, map-append}
use Rattle.tc_job.specs.declared.job.Job.{Job}
use Rattle.tc_job.specs.declared.task.Task.{Task}
use Rattle.tc_job.specs.Ranges.{IsTaskAmong}
use Rattle.job_tasks.specs.declared.refusal.CoreRefusal.{CoreRefusal}
use Rattle.job_tasks.specs.declared.refusal.Halt.{Halt}
use Rattle.job_tasks.specs.declared.refusal.Halt.TheVariants.{Refused, Memory}
use Rattle.job_tasks.specs.declared.tasks.CodedTask.{CodedTask}
use Rattle.job_tasks.specs.Gives.{Refuses}
use Rattle.job_tasks.specs.Tasks.{◌>>=◌, Coded, task_on, coded_on, coded_from}
use Rattle.job_tasks.specs.Coding.{shown, all_shown, IsAmong}
use Rattle.job_tasks.specs.Making.{IsMadeOn, AreMade}

-- the tasks so far, before those of the cores to come
abbrev pub behind : List (Option Coded) → Result (List (Option Coded)) CoreRefusal
    → Result (List (Option Coded)) CoreRefusal
behind prefix later = later >>= λ cs. Ok (prefix ++ cs)

behind-more : (prefix : List (Option Coded)) (c : Option Coded) (later : Result (List (Option Coded)) CoreRefusal)
    → behind (prefix ++ c ∷ []) later ≡ behind prefix (later >>= λ cs. Ok (c ∷ cs))
behind-more prefix c (Ok cs) = ap Ok (append_assoc prefix (c ∷ []) cs)
behind-more prefix c (Err refusal) = refl

at_core : (job : Job) (core count more : ℕ) → count ≡ more + 1
    → coded_from job core count ≡ (coded_on job core (task_on job.tasks core) >>= λ c. coded_from job (core + 1) more
    >>= λ cs. Ok (c ∷ cs))
at_core job core count more is = ap (coded_from job core) (let e : count ≡ suc more = omega (arith, is) in e)

-- one more core's task has its code
pub next_coded : (job : Job) (core count more : ℕ) (prefix pushed : List (Option CodedTask)) (one : Option CodedTask)
    (whole : Result (List (Option Coded)) CoreRefusal) → count ≡ more + 1 → pushed ≡ prefix ++ one ∷ []
    → coded_on job core (task_on job.tasks core) ≡ Ok (shown one)
    → behind (all_shown prefix) (coded_from job core count) ≡ whole
    → behind (all_shown pushed) (coded_from job (core + 1) more) ≡ whole
next_coded job core count more prefix pushed one whole left push is so_far =
    ap (λ cs. behind cs (coded_from job (core + 1) more)) (ap all_shown push ∙ map-append shown prefix (one ∷ []))
    ∙ behind-more (all_shown prefix) (shown one) (coded_from job (core + 1) more)
    ∙ ap (behind (all_shown prefix)) (sym (at_core job core count more left
    ∙ ap (λ r. r >>= λ c. coded_from job (core + 1) more >>= λ cs. Ok (c ∷ cs)) is))
    ∙ so_far

-- where a call stops at a core, it stops as all of it is to
pub stopped_coding : (job : Job) (core count more : ℕ) (prefix : List (Option Coded)) (halt : Halt CoreRefusal)
    (whole : Result (List (Option Coded)) CoreRefusal) → count ≡ more + 1
    → Refuses halt (coded_on job core (task_on job.tasks core)) → behind prefix (coded_from job core count) ≡ whole
    → Refuses halt whole
stopped_coding job core count more prefix (Refused refusal) whole left is so_far =
    sym so_far ∙ ap (behind prefix) (at_core job core count more left
    ∙ ap (λ r. r >>= λ c. coded_from job (core + 1) more >>= λ cs. Ok (c ∷ cs)) is)
stopped_coding job core count more prefix Memory whole left is so_far = tt

-- a core's coded task is the job's
pub coded_among : (cores : ℕ) (one : Option CodedTask) (found : Option Task) → option_map (λ t. t.task.now) one ≡ found
    → IfSome found (IsTaskAmong cores) → IsAmong cores one
coded_among cores None found is among = tt
coded_among cores (Some t) found is among = subst (λ o. IfSome o (IsTaskAmong cores)) (sym is) among

-- one more is made for its core
push_at : {X : Type 0} (xs : List X) (x : X) (k : ℕ) (P : ℕ → X → Type 0) → ((j : ℕ) → IfSome (slice_get xs j) (P j))
    → P (length xs) x → IfSome (slice_get (xs ++ x ∷ []) k) (P k)
push_at [] x zero P each last = last
push_at [] x (suc k) P each last = tt
push_at (y ∷ xs) x zero P each last = each 0
push_at (y ∷ xs) x (suc k) P each last = push_at xs x k (λ j. P (suc j)) (λ j. each (suc j)) last

pub next_made : (job : Job) (core : ℕ) (prefix pushed : List (Option CodedTask)) (one : Option CodedTask)
    → length prefix ≡ core → pushed ≡ prefix ++ one ∷ [] → IsMadeOn job core (shown one)
    → AreMade job (all_shown prefix) → AreMade job (all_shown pushed)
next_made job core prefix pushed one count push is so_far = λ k.
    let number : length (all_shown prefix) ≡ core = omega (arith, length-map prefix shown, count) in
    subst (λ cs. IfSome (slice_get cs k) (IsMadeOn job k))
    (sym (ap all_shown push ∙ map-append shown prefix (one ∷ [])))
    (push_at (all_shown prefix) (shown one) k (IsMadeOn job) so_far (subst (λ n. IsMadeOn job n (shown one))
    (sym number) is))

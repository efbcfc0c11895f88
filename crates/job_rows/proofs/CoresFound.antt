-- The cores of a job, one after another.
use Rattle.std.proofs.Common.{◌≡◌, ℕ, zero, suc, ◌+◌, arith, List, [], ◌∷◌, ◌++◌, length, map, sym, ap, ◌∙◌, subst, Option, IfSome, slice_get}
use Rattle.std.proofs.lemmas.List.{map-append, length-map}
use Rattle.global_step.specs.declared.loaded.LoadedCore.{LoadedCore}
use Rattle.global_step.specs.Machine.{first_core}
use Rattle.tc_job.specs.declared.job.Job.{Job}
use Rattle.job_tasks.specs.declared.tasks.CodedTask.{CodedTask}
use Rattle.c_mentions.specs.declared.tasks.CoreTask.{CoreTask}
use Rattle.job_tasks.specs.declared.program.Program.{Program}
use Rattle.job_tasks.specs.Tasks.{Coded, runs_on}
use Rattle.job_tasks.specs.Coding.{runs, shown, all_shown}
use Rattle.job_rows.specs.Machine.{core_with, cores_from}
use Rattle.job_rows.specs.Loading.{IsPlaced}

-- one more core stands after the others
cores_from-push : (job : Job) (core : ℕ) (cs : List (Option Coded)) (c : Option Coded)
    → cores_from job core (cs ++ c ∷ []) ≡ cores_from job core cs ++ core_with job (core + length cs) c ∷ []
cores_from-push job core [] c = let here : core ≡ core + 0 = omega arith in ap (λ n. core_with job n c ∷ []) here
cores_from-push job core (b ∷ cs) c =
    let next : core + 1 + length cs ≡ core + suc (length cs) = omega arith in
    ap (λ xs. core_with job core b ∷ xs) (cores_from-push job (core + 1) cs c ∙ ap (λ n. cores_from job (core + 1) cs
    ++ core_with job n c ∷ []) next)

-- one more core is loaded
pub next_loaded : (job : Job) (core : ℕ) (prefix pushed : List LoadedCore) (l : LoadedCore)
    (coded more : List (Option CodedTask)) (one : Option CodedTask) → length coded ≡ core → pushed ≡ prefix ++ l ∷ []
    → more ≡ coded ++ one ∷ []
    → first_core l ≡ core_with job core (shown one) → map first_core prefix ≡ cores_from job 0 (all_shown coded)
    → map first_core pushed ≡ cores_from job 0 (all_shown more)
next_loaded job core prefix pushed l coded more one count push grown is so_far =
    let number : 0 + length (all_shown coded) ≡ core = omega (arith, length-map coded shown, count) in
    ap (map first_core) push ∙ map-append first_core prefix (l ∷ [])
    ∙ (λ i. so_far i ++ is i ∷ [])
    ∙ ap (λ n. cores_from job 0 (all_shown coded) ++ core_with job n (shown one) ∷ []) (sym number)
    ∙ sym (cores_from-push job 0 (all_shown coded) (shown one))
    ∙ ap (cores_from job 0) (sym (map-append shown coded (one ∷ [])) ∙ sym (ap all_shown grown))

-- what one more core runs stands after what the others run
pub next_run : (tasks pushed : List (CoreTask Program)) (t : CoreTask Program) (coded : List (Option CodedTask)) (one : Option CodedTask)
    → pushed ≡ tasks ++ t ∷ [] → runs t ≡ runs_on (shown one)
    → map runs tasks ≡ map runs_on (all_shown coded) → map runs pushed ≡ map runs_on (all_shown (coded ++ one ∷ []))
next_run tasks pushed t coded one push is so_far =
    ap (map runs) push ∙ map-append runs tasks (t ∷ [])
    ∙ (λ i. so_far i ++ is i ∷ [])
    ∙ sym (ap (map runs_on) (map-append shown coded (one ∷ [])) ∙ map-append runs_on (all_shown coded) (shown one ∷ []))

-- each of the cores is at its own place
abbrev pub ArePlaced : Job → List LoadedCore → Type 0
ArePlaced job ls = (k : ℕ) → IfSome (slice_get ls k) (IsPlaced job k)

get_push : (ls : List LoadedCore) (l : LoadedCore) (k : ℕ) (P : ℕ → LoadedCore → Type 0)
    → ((j : ℕ) → IfSome (slice_get ls j) (P j)) → P (length ls) l → IfSome (slice_get (ls ++ l ∷ []) k) (P k)
get_push [] l zero P each last = last
get_push [] l (suc k) P each last = tt
get_push (d ∷ ls) l zero P each last = each 0
get_push (d ∷ ls) l (suc k) P each last = get_push ls l k (λ j. P (suc j)) (λ j. each (suc j)) last

pub next_placed : (job : Job) (core : ℕ) (prefix pushed : List LoadedCore) (l : LoadedCore) → length prefix ≡ core
    → pushed ≡ prefix ++ l ∷ [] → IsPlaced job core l → ArePlaced job prefix → ArePlaced job pushed
next_placed job core prefix pushed l count push is so_far = λ k.
    subst (λ ls. IfSome (slice_get ls k) (IsPlaced job k)) (sym push) (get_push prefix l k (IsPlaced job) so_far
    (subst (λ n. IsPlaced job n l) (sym count) is))

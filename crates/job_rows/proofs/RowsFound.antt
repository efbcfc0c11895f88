-- The rows of a machine at its limit, and the machine that a job asks for.
use Rattle.std.proofs.Common.{◌≡◌, ℕ, zero, suc, ◌+◌, ◌<◌, List, [], ◌∷◌, ◌++◌, length, map, take, get_or, IfSome, refl, sym, ap, ◌∙◌, subst, arith, length-take}
use Rattle.std.proofs.lemmas.List.{length-map, map-append, take_all}
use Rattle.std.proofs.lemmas.Option.{slice_get_read}
use Rattle.c_mentions.specs.Alone.{Running, idle, assembly, program}
use Rattle.c_mentions.specs.Tasks.{running as mentioned}
use Rattle.c_mentions.specs.declared.tasks.CoreTask.TheVariants as tasks
use Rattle.c_tree.specs.Plain.{plain}
use Rattle.shared_order.specs.Machine.{State, cycled}
use Rattle.patmos_core.specs.declared.cpu.Core.{Core as Cpu}
use Rattle.patmos_model.specs.Range.{InRange}
use Rattle.patmos_model.specs.State.{Core}
use Rattle.patmos_model.specs.Cycle.{turn}
use Rattle.global_step.specs.declared.loaded.LoadedCore.{LoadedCore}
use Rattle.global_step.specs.Loaded.{Machine}
use Rattle.global_step.specs.Machine.{first_core, core_among, machine, at_limit}
use Rattle.tc_run.specs.Final.{IsFinalCore, AreFinal}
use Rattle.tc_job.specs.declared.job.Job.{Job}
use Rattle.tc_report.specs.declared.rows.Row.{Row}
use Rattle.c_mentions.specs.declared.tasks.CoreTask.{CoreTask}
use Rattle.job_tasks.specs.declared.program.Program.{Program}
use Rattle.job_tasks.specs.Coding.{runs}
use Rattle.job_rows.specs.Machine.{core_in, machine_of}
use Rattle.job_rows.specs.Rows.{row_of, rows_from, rows_of, running}
use Rattle.job_rows.specs.Loading.{IsLoadedFor}
use Rattle.job_tasks.specs.Tasks.{Runs}

-- what the cores run, as far as their data is concerned
pub same_running : (tasks : List (CoreTask Program))
    → map (mentioned (λ (p : Program). plain p.checked.unit)) tasks ≡ map running (map runs tasks)
same_running [] = refl
same_running (tasks.Idle ∷ rest) = ap (λ l. idle ∷ l) (same_running rest)
same_running (tasks.Assembly ∷ rest) = ap (λ l. assembly ∷ l) (same_running rest)
same_running (tasks.C p ∷ rest) = ap (λ l. program (plain p.checked.unit) ∷ l) (same_running rest)

-- one more row stands after the others
rows_from-push : (limit trace : ℕ) (all : List Running) (core : ℕ) (rs : List Runs) (r : Runs) (m : State Core)
    → rows_from limit trace all core (rs ++ r ∷ []) m ≡ rows_from limit trace all core rs m
    ++ row_of limit trace all (core + length rs) r (m.cores (core + length rs)) ∷ []
rows_from-push limit trace all core [] r m =
    let here : core ≡ core + 0 = omega arith in ap (λ n. row_of limit trace all n r (m.cores n) ∷ []) here
rows_from-push limit trace all core (q ∷ rs) r m =
    let next : core + 1 + length rs ≡ core + suc (length rs) = omega arith in
    ap (λ rows. row_of limit trace all core q (m.cores core) ∷ rows) (rows_from-push limit trace all (core + 1) rs r m
    ∙ ap (λ n. rows_from limit trace all (core + 1) rs m ++ row_of limit trace all n r (m.cores n) ∷ []) next)

-- the rows of the first cores, which run the first of these tasks
abbrev pub rows_below : List Running → List (CoreTask Program) → ℕ → Machine → List Row
rows_below all tasks n m = rows_from m.limit m.trace all 0 (map runs (take n tasks)) (at_limit m)

take_more : (tasks : List (CoreTask Program)) (n : ℕ) (t : CoreTask Program) → n < length tasks → t ≡ get_or tasks n t
    → take (suc n) tasks ≡ take n tasks ++ t ∷ []
take_more [] n t below is = absurd (omega (arith, below))
take_more (u ∷ tasks) zero t below is = ap (λ x. x ∷ []) (sym is)
take_more (u ∷ tasks) (suc n) t below is = ap (λ l. u ∷ l) (take_more tasks n t (omega (arith, below)) is)

-- one more row
pub next_row : (cores : List Cpu) (all : List Running) (tasks : List (CoreTask Program)) (i : ℕ) (c : Cpu) (t : CoreTask Program)
    (rows pushed : List Row) (row : Row) → i < length cores → length tasks ≡ length cores
    → c ≡ get_or cores i c → t ≡ get_or tasks i t → pushed ≡ rows ++ row ∷ []
    → ((m : Machine) → AreFinal m cores → rows ≡ rows_below all tasks i m)
    → ((m : Machine) (k : ℕ) → IsFinalCore m k c → row ≡ row_of m.limit m.trace all i (runs t) ((at_limit m).cores k))
    → (m : Machine) → AreFinal m cores → pushed ≡ rows_below all tasks (i + 1) m
next_row cores all tasks i c t rows pushed row below count item task push so_far is m final =
    let here : IsFinalCore m i c = subst (λ o. IfSome o (IsFinalCore m i)) (slice_get_read cores (length cores) i c refl
    below item) (final.each i) in
    let number : 0 + length (map runs (take i tasks)) ≡ i =
    omega (arith, length-map (take i tasks) runs, length-take i tasks, below, count) in
    push ∙ ap (λ prefix. prefix ++ row ∷ []) (so_far m final) ∙ ap (λ last. rows_below all tasks i m
    ++ last ∷ []) (is m i here)
    ∙ ap (λ n. rows_below all tasks i m ++ row_of m.limit m.trace all n (runs t) ((at_limit m).cores n)
    ∷ []) (sym number)
    ∙ sym (rows_from-push m.limit m.trace all 0 (map runs (take i tasks)) (runs t) (at_limit m))
    ∙ ap (λ l. rows_from m.limit m.trace all 0 l (at_limit m)) (sym (map-append runs (take i tasks) (t ∷ []))
    ∙ ap (map runs) (sym (take_more tasks i t (omega (arith, below, count)) task)))
    ∙ (let more : suc i ≡ i + 1 = omega arith in ap (λ n. rows_below all tasks n m) more)

-- after the last the rows are those of all cores
pub all_rows : (cores : List Cpu) (tasks : List (CoreTask Program)) (rows : List Row) → length tasks ≡ length cores
    → ((m : Machine) → AreFinal m cores → rows ≡ rows_below (map running (map runs tasks)) tasks (length cores) m)
    → (m : Machine) → AreFinal m cores → rows ≡ rows_of m.limit m.trace (map runs tasks) (at_limit m)
all_rows cores tasks rows count so_far m final =
    so_far m final ∙ ap (λ l. rows_from m.limit m.trace (map running (map runs tasks)) 0 (map runs l) (at_limit m))
    (take_all (length cores) tasks (omega (arith, count)))

-- the cores that were loaded are those that the job asks for
among_in : (ls : List LoadedCore) (k : ℕ) → core_among ls k ≡ core_in (map first_core ls) k
among_in [] k = refl
among_in (l ∷ ls) zero = refl
among_in (l ∷ ls) (suc k) = among_in ls k

same_cores : (ls : List LoadedCore) → core_among ls ≡ core_in (map first_core ls)
same_cores ls = λ i k. among_in ls k i

pub same_machine : (job : Job) (cores : List Core) (m : Machine) → IsLoadedFor job cores m → at_limit m
    ≡ machine_of job cores
unfolding machine machine_of
same_machine job cores m h =
    ap (λ n. cycled turn n (core_among m.cores) m.limit) h.count
    ∙ ap (λ xs. cycled turn job.cores xs m.limit) (same_cores m.cores ∙ ap core_in h.cores)
    ∙ ap (cycled turn job.cores (core_in cores)) h.limit

-- where the machine's cores are in range at first, so are those that the job asks for
pub begin_in_range : (job : Job) (cores : List Core) (m : Machine) (words : ℕ) → IsLoadedFor job cores m
    → ((core : ℕ) → InRange words ((machine m 0).cores core)) → (core : ℕ) → InRange words (core_in cores core)
unfolding machine
begin_in_range job cores m words h fits core =
    subst (λ (f : ℕ → Core). InRange words (f core)) (same_cores m.cores ∙ ap core_in h.cores) (fits core)

-- so their rows are those of the job's machine
pub same_rows : (job : Job) (cores : List Core) (rs : List Runs) (m : Machine) → IsLoadedFor job cores m
    → rows_of m.limit m.trace rs (at_limit m) ≡ rows_of job.cycles job.trace rs (machine_of job cores)
same_rows job cores rs m h =
    ap (λ t. rows_of t m.trace rs (at_limit m)) h.limit
    ∙ ap (λ n. rows_of job.cycles n rs (at_limit m)) h.trace
    ∙ ap (rows_of job.cycles job.trace rs) (same_machine job cores m h)

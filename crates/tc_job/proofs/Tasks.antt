-- The tasks that a loop has read, and the cores that they take.
use Rattle.std.proofs.Common.{◌≡◌, ◌≢◌, ℕ, ◌+◌, ◌<◌, ◌≤◌, Bool, true, false, ◌||◌, List, [], ◌∷◌, ◌++◌, length, get_or, drop, map, nat_eq, All, AllPairs, Some, Result, Ok, Err, String, BTreeMap, Global, Bor, refl, sym, ap, ◌∙◌, arith}
use Rattle.std.specs.List.{IsDistinct, AllByRecursion, list_any}
use Rattle.std.proofs.Math.ListN.{drop_of_length-le}
use Rattle.std.proofs.lemmas.Bool.{eqb-false, eqb-true}
use Rattle.std.proofs.lemmas.List.{drop_more, get_or-map, length-map, map-append}
use Rattle.std.proofs.lemmas.List.Elements.{All-push, recursion_from_All}
use Rattle.std.proofs.lemmas.Map.Keys.{apart_from_distinct}
use Rattle.std.proofs.lemmas.Map.Steps.{length-le_from_distinct_below}
use Rattle.toml.specs.Data.{Members}
use Rattle.toml.specs.View.{table_view}
use Rattle.toml.specs.declared.value.Value.{Value}
use Rattle.tc_job.specs.declared.task.Task.{Task}
use Rattle.tc_toml.specs.Fault.{Fault}
use Rattle.tc_job.specs.Ranges.{IsTaskAmong}
use Rattle.tc_job.specs.Task.{cores_of, task_in, tasks_from}

-- the tables of a text, as the loop sees them
abbrev pub Tables : Type 0
Tables = List (Bor (BTreeMap (String Global) Value))

abbrev pub members_of : Tables → List Members
members_of tables = map (λ t. table_view t.now) tables

-- the next task was read
pub more_tasks : (cores : ℕ) (tables : Tables) (i : ℕ) (d : Bor (BTreeMap (String Global) Value)) (earlier : List Task)
    (taken : List ℕ) (task : Task) (all : Result (List Task) Fault) → i < length tables
    → taken ≡ cores_of earlier → task_in cores taken (Some (length earlier)) (table_view (get_or tables i d).now)
    ≡ Ok task
    → tasks_from cores earlier (members_of (drop i tables)) ≡ all → tasks_from cores (earlier ++ task ∷ []) (members_of
    (drop (i + 1) tables)) ≡ all
unfolding tasks_from
more_tasks cores tables i d earlier taken task all within cores_are read held =
    let first : task_in cores (cores_of earlier) (Some (length earlier)) (table_view (get_or tables i d).now)
    ≡ Ok task = rw (← cores_are) read in
    sym (rw (drop_more tables i d within, first) refl) ∙ held

-- it was refused
pub no_task : (cores : ℕ) (tables : Tables) (i : ℕ) (d : Bor (BTreeMap (String Global) Value)) (earlier : List Task)
    (taken : List ℕ) (fault : Fault) (all : Result (List Task) Fault) → i < length tables
    → taken ≡ cores_of earlier → task_in cores taken (Some (length earlier)) (table_view (get_or tables i d).now)
    ≡ Err fault
    → tasks_from cores earlier (members_of (drop i tables)) ≡ all → all ≡ Err fault
unfolding tasks_from
no_task cores tables i d earlier taken fault all within cores_are read held =
    let first : task_in cores (cores_of earlier) (Some (length earlier)) (table_view (get_or tables i d).now)
    ≡ Err fault = rw (← cores_are) read in
    sym held ∙ rw (drop_more tables i d within, first) refl

-- no table is left
pub all_tasks : (cores : ℕ) (tables : Tables) (i : ℕ) (earlier : List Task) (all : Result (List Task) Fault)
    → length tables ≤ i → tasks_from cores earlier (members_of (drop i tables)) ≡ all → all ≡ Ok earlier
unfolding tasks_from
all_tasks cores tables i earlier all over held = sym held ∙ rw (drop_of_length-le tables over) refl

-- one more task takes one more core of the platform
pub cores_push : (tasks : List Task) (task : Task) (taken more : List ℕ) → taken ≡ cores_of tasks → more ≡ taken
    ++ task.core ∷ [] → more ≡ cores_of (tasks ++ task ∷ [])
cores_push tasks task taken more cores_are next =
    next ∙ ap (λ xs. xs ++ task.core ∷ []) cores_are ∙ sym (map-append (λ (t : Task). t.core) tasks (task ∷ []))

pub among_push : (cores : ℕ) (tasks : List Task) (task : Task) → All (IsTaskAmong cores) tasks → IsTaskAmong cores task
    → All (IsTaskAmong cores) (tasks ++ task ∷ [])
among_push cores tasks task among is = All-push (IsTaskAmong cores) tasks task among is

-- a taken core is one of the platform's
below : (cores core q : ℕ) (others : Bool) (same : Bool) → (nat_eq q core ≡ same) → core < cores
    → (others ≡ true → q < cores) → (same || others) ≡ true → q < cores
below cores core q others true is among more h = rw (eqb-true q core is) among
below cores core q others false is among more h = more h

taken_below : (cores : ℕ) (tasks : List Task) → AllByRecursion (IsTaskAmong cores) tasks → (q : ℕ)
    → list_any (nat_eq q) (cores_of tasks) ≡ true → q < cores
taken_below cores [] among q h = absurd (cc)
taken_below cores (t ∷ ts) among q h = below cores t.core q (list_any (nat_eq q) (cores_of ts)) (nat_eq q t.core) refl
    among.0.core (taken_below cores ts among.1 q) h

-- there are at most as many tasks as cores
pub few_tasks : (cores : ℕ) (tasks : List Task) → IsDistinct nat_eq (cores_of tasks) → All (IsTaskAmong cores) tasks
    → length tasks ≤ cores
few_tasks cores tasks apart among =
    rw (← length-map tasks (λ (t : Task). t.core))
    (length-le_from_distinct_below (cores_of tasks) cores apart
    (taken_below cores tasks (recursion_from_All (IsTaskAmong cores) tasks among)))

-- and no two of them are on one core
pub apart_tasks : (tasks : List Task) → IsDistinct nat_eq (cores_of tasks) → AllPairs (λ s t. s.core ≢ t.core) tasks
apart_tasks tasks apart i j d before within same =
    let core : Task → ℕ = λ t. t.core in
    let first : get_or (map core tasks) i 0 ≡ core (get_or tasks i d) = get_or-map core tasks i d 0 (omega arith) in
    let second : get_or (map core tasks) j 0 ≡ core (get_or tasks j d) = get_or-map core tasks j d 0 within in
    let inside : j < length (map core tasks) = rw (length-map tasks core) within in
    eqb-false _ _ (apart_from_distinct nat_eq (map core tasks) i j 0 apart before inside) (first ∙ same ∙ sym second)

-- The job that a generated text is.
use Rattle.std.proofs.Common.{◌≡◌, ℕ, zero, suc, ◌≤◌, ◌^◌, true, false, nat_eq, nat_lt, nat_le, List, [], ◌∷◌, ◌++◌, length, map, codes, refl, arith, pos, ap, Option, Some, Result, Ok}
use Rattle.std.proofs.lemmas.Bool.Decides.{nat_tests}
use Rattle.job_gen.specs.Generator.{after_functions, after_task, draw, generated, next, source}
use Rattle.job_gen.specs.declared.task.TheConstants.{WORDS}
use Rattle.toml.specs.Data.{array, as_integer, integer, string, Items, member, Members, no_members}
use Rattle.tc_toml.specs.Fault.{Fault}
use Rattle.std.specs.List.{list_any}
use Rattle.tc_job.specs.declared.task.Task.{Task}
use Rattle.tc_job.specs.declared.task.Lang.TheVariants.{C}
use Rattle.tc_job.specs.Input.{input_of, word_of}
use Rattle.tc_job.specs.Job.{job_in, job_of, platform_in}
use Rattle.tc_toml.specs.Tree.{tree_of}
use Rattle.tc_job.specs.Task.{core_in, cores_of, task_in, tasks_from}
use Rattle.tc_toml.specs.Values.{each_item, each_of, in_front}
use Rattle.gen_jobs.proofs.Ascii.{text_is_utf8}
use Rattle.gen_jobs.proofs.Documents.{document_is}
use Rattle.gen_jobs.proofs.Inputs.{draw_few, items_from}
use Rattle.gen_jobs.specs.Jobs.{job_with, task_with, words_from}

integers : (left x : ℕ) → each_item as_integer (items_from left x) ≡ Some (map pos (words_from left x))
integers zero x = refl
integers (suc left) x = ap (in_front (Some (pos (draw x)))) (integers left (next x))

words : (left x : ℕ) → each_of word_of (map pos (words_from left x)) ≡ Some (words_from left x)
words zero x = refl
words (suc left) x =
    let few = draw_few x in
    let fits : nat_lt (draw x) (2 ^ 32) ≡ true = grind (arith, nat_tests) in
    rw (fits, words left (next x)) refl

how_many : (left x : ℕ) → length (map pos (words_from left x)) ≡ left
how_many zero x = refl
how_many (suc left) x = let more = how_many left (next x) in omega (arith, more)

input_is : (left x : ℕ) → left ≤ 4096 → input_of (Some (array (items_from left x))) ≡ Ok (words_from left x)
input_is left x few =
    let fits : nat_le left 4096 ≡ true = grind (arith, nat_tests) in
    rw (integers left x, how_many left x, fits, words left x) refl

inputs_are : (x : ℕ) → input_of (Some (array (items_from WORDS x))) ≡ Ok (words_from WORDS x)
inputs_are x = input_is WORDS x (omega arith)

-- the table of a task, and the task that it is
abbrev members_of : ℕ → Items → List ℕ → Members
members_of core items text = member (codes "core") (integer (pos core)) (member (codes "input") (array items)
    (member (codes "lang") (string (codes "c")) (member (codes "source") (string text) no_members)))

task_is : (core : ℕ) (items : Items) (text input taken : List ℕ) (place : Option ℕ) → nat_le core 3 ≡ true
    → list_any (nat_eq core) taken ≡ false → input_of (Some (array items)) ≡ Ok input
    → task_in 4 taken place (members_of core items text)
    ≡ Ok (record { core = core; lang = C; source = text; input = input; start = 0 })
unfolding task_in core_in
task_is core items text input taken place few new read =
    let from : nat_le 0 core ≡ true = grind (arith, nat_tests) in rw (from, few, new, read) refl

-- the next of the tasks
next_task : (core : ℕ) (items : Items) (text input : List ℕ) (earlier : List Task) (others : List Members)
    (after : Result (List Task) Fault) → nat_le core 3 ≡ true
    → list_any (nat_eq core) (cores_of earlier) ≡ false → input_of (Some (array items)) ≡ Ok input
    → tasks_from 4 (earlier ++ record { core = core; lang = C; source = text; input = input; start = 0 } ∷ []) others
    ≡ after
    → tasks_from 4 earlier (members_of core items text ∷ others) ≡ after
unfolding tasks_from
next_task core items text input earlier others after few new read more =
    rw (task_is core items text input (cores_of earlier) (Some (length earlier)) few new read) more

-- the tables of tasks, and the tasks that they are
abbrev generated_table : ℕ → ℕ → Members
generated_table core x = members_of core (items_from WORDS (after_functions x)) (source x)

next_generated : (core x : ℕ) (earlier : List Task) (others : List Members) (after : Result (List Task) Fault)
    → nat_le core 3 ≡ true
    → list_any (nat_eq core) (cores_of earlier) ≡ false → tasks_from 4 (earlier ++ task_with core x ∷ []) others ≡ after
    → tasks_from 4 earlier (generated_table core x ∷ others) ≡ after
next_generated core x earlier others after few new more =
    next_task core (items_from WORDS (after_functions x)) (source x) (words_from WORDS (after_functions x)) earlier
    others after few new (inputs_are (after_functions x)) more

tasks_are : (x y z w : ℕ) → tasks_from 4 [] (generated_table 0 x ∷ generated_table 1 y ∷ generated_table 2 z
    ∷ generated_table 3 w ∷ []) ≡ Ok (task_with 0 x ∷ task_with 1 y ∷ task_with 2 z ∷ task_with 3 w ∷ [])
unfolding tasks_from
tasks_are x y z w =
    next_generated 0 x [] (generated_table 1 y ∷ generated_table 2 z ∷ generated_table 3 w ∷ []) _ refl refl
    (next_generated 1 y (task_with 0 x ∷ []) (generated_table 2 z ∷ generated_table 3 w ∷ []) _ refl refl
    (next_generated 2 z (task_with 0 x ∷ task_with 1 y ∷ []) (generated_table 3 w ∷ []) _ refl refl
    (next_generated 3 w (task_with 0 x ∷ task_with 1 y ∷ task_with 2 z ∷ []) []
    (Ok (task_with 0 x ∷ task_with 1 y ∷ task_with 2 z ∷ task_with 3 w ∷ [])) refl refl refl)))

pub job_is : (n : ℕ) → job_of (generated n) ≡ Ok (job_with n)
unfolding job_of tree_of job_in platform_in
job_is n =
    let a = after_task n in
    let b = after_task a in
    let c = after_task b in
    rw (text_is_utf8 n, document_is n, tasks_are n a b c) refl

-- The tasks of a generated job end within its cycles.
use Rattle.std.proofs.Common.{◌≡◌, ℕ, ◌+◌, ◌<◌, ◌≤◌, List, [], ◌∷◌, refl, ap, ◌∙◌, arith}
use Rattle.std.specs.Prelude.{Ok}
use Rattle.std.specs.List.{AllByRecursion as Each}
use Rattle.job_gen.specs.Generator.{after_task, source}
use Rattle.c_tree.specs.Plain.{PlainItem}
use Rattle.c_tree.specs.Tokens.{tokens_of}
use Rattle.c_tree.specs.Valid.{IsValid, faults_of}
use Rattle.c_lex.specs.Texts.{lexed}
use Rattle.c_parse.proofs.ReadWhole.{reads_programs}
use Rattle.c_check.proofs.First.{no_least}
use Rattle.c_task.specs.Translation.{bound_on}
use Rattle.c_compile.specs.Texts.{checked, program_on}
use Rattle.c_compile.proofs.Read.{program_read}
use Rattle.single_path.specs.Single.{weights_in, single}
use Rattle.weight_bounds.specs.Weights.{transaction_cycles, weight_bound}
use Rattle.weight_bounds.proofs.Programs.{program_bounded}
use Rattle.gen_jobs.specs.Jobs.{job_with, task_with}
use Rattle.gen_jobs.proofs.Fitting.{tree_fits}
use Rattle.gen_jobs.proofs.Sources.{source_lexed}
use Rattle.gen_jobs.proofs.Trees.{tree_of}
use Rattle.gen_jobs.proofs.Valid.{tree_is_valid}
use Rattle.gen_bounds.specs.Ends.{EndsInTime}
use Rattle.gen_bounds.proofs.Counts.{items_of}
use Rattle.gen_bounds.proofs.Sums.{bounded}

-- the program whose draws begin at a state, of which no more is used than what follows
items : ℕ → List PlainItem
items x = items_of x

items_valid : (core x : ℕ) → IsValid (items x) 4 core
unfolding items
items_valid core x = tree_is_valid x core

items_read : (core x : ℕ) → program_on 4 core (lexed (source x)) ≡ Ok (items x)
unfolding items
items_read core x =
    let ts = tokens_of (tree_of x) in
    ap (program_on 4 core) (source_lexed x)
    ∙ program_read ts (tree_of x) 4 core refl (tree_fits x) ((reads_programs ts).1
    (record { tree = tree_of x; fits = tree_fits x; written = refl }))
    ∙ ap (checked (items_of x)) (no_least (faults_of (items_of x) 4 core) (tree_is_valid x core))

items_bounded : (x : ℕ) → weight_bound 39 (weights_in (items x)) (single (items x)) ≤ 14142880
unfolding items
items_bounded x = bounded x

-- on a core whose transactions take 39 cycles
bound_few : (core x : ℕ) → transaction_cycles (0 ∷ 1 ∷ 2 ∷ 3 ∷ []) 8 core ≡ 39
    → bound_on (0 ∷ 1 ∷ 2 ∷ 3 ∷ []) 8 core (items x) ≤ 14142880
bound_few core x takes =
    within (bound_on (0 ∷ 1 ∷ 2 ∷ 3 ∷ []) 8 core (items x)) (λ each. weight_bound each (weights_in (items x))
    (single (items x))) (transaction_cycles (0 ∷ 1 ∷ 2 ∷ 3 ∷ []) 8 core) takes
    (program_bounded 4 core 8 (0 ∷ 1 ∷ 2 ∷ 3 ∷ []) (items x) (omega arith) (items_valid core x)) (items_bounded x)
  where
    within : (bound : ℕ) (by : ℕ → ℕ) (each : ℕ) → each ≡ 39 → bound ≤ by each → by 39 ≤ 14142880 → bound ≤ 14142880
    within bound by each is below few = let same = ap by is in omega (arith, below, few, same)

task_ends : (n core x : ℕ) → transaction_cycles (0 ∷ 1 ∷ 2 ∷ 3 ∷ []) 8 core ≡ 39
    → EndsInTime (job_with n) (task_with core x)
task_ends n core x takes = record {
  in_c = refl;
  items = items x;
  program = items_read core x;
  within = sooner (bound_on (0 ∷ 1 ∷ 2 ∷ 3 ∷ []) 8 core (items x)) (bound_few core x takes);
}
  where
    sooner : (bound : ℕ) → bound ≤ 14142880 → 0 + bound < 20000000
    sooner bound few = omega (arith, few)

pub tasks_end : (n : ℕ) → Each (EndsInTime (job_with n)) (job_with n).tasks
tasks_end n =
    let second = after_task n in
    let third = after_task second in (
      task_ends n 0 n refl,
      (task_ends n 1 second refl, (task_ends n 2 third refl, (task_ends n 3 (after_task third) refl, tt))),
    )

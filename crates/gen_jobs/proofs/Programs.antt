-- The tasks of a generated job are programs.
use Rattle.std.proofs.Common.{ℕ, zero, suc, ◌+◌, refl}
use Rattle.std.specs.List.{AllByRecursion as Each}
use Rattle.job_gen.specs.Generator.{after_task}
use Rattle.job_gen.specs.declared.whole.TheConstants.{CORES}
use Rattle.c_tree.specs.Tokens.{tokens_of}
use Rattle.gen_jobs.specs.Jobs.{task_with, tasks_with}
use Rattle.gen_jobs.specs.Programs.{IsProgramTask}
use Rattle.gen_jobs.proofs.Fitting.{tree_fits}
use Rattle.gen_jobs.proofs.Sources.{source_lexed}
use Rattle.gen_jobs.proofs.Trees.{tree_of}
use Rattle.gen_jobs.proofs.Valid.{tree_is_valid}

task_is_program : (core x : ℕ) → IsProgramTask CORES (task_with core x)
task_is_program core x = record {
  in_c = refl;
  tokens_in = tokens_of (tree_of x);
  lexed_is = source_lexed x;
  program = record { tree = tree_of x; fits = tree_fits x; written = refl };
  valid = tree_is_valid x core;
}

pub tasks_are_programs : (left core x : ℕ) → Each (IsProgramTask CORES) (tasks_with left core x)
tasks_are_programs zero core x = tt
tasks_are_programs (suc left) core x = (task_is_program core x, tasks_are_programs left (core + 1) (after_task x))

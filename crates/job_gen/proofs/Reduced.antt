-- A number and its low 32 bits give the same job: what follows depends on the next state alone.
use Rattle.std.proofs.Common.{◌≡◌, ℕ, ◌++◌, ap, refl, ◌/◌, ◌%◌}
use Rattle.job_gen.specs.declared.task.TheConstants.{FUNCTIONS}
use Rattle.job_gen.specs.declared.whole.TheConstants.{CORES}
use Rattle.job_gen.specs.Generator.{after, after_functions, draw, function_line, function_text, functions, next, source, task, tasks}

functions_same : (x y : ℕ) → next x ≡ next y → functions FUNCTIONS 0 x ≡ functions FUNCTIONS 0 y
unfolding functions function_line after
functions_same x y same = ap (λ first. function_text 0 (first / 65536 % 8) (draw first % 1000) (draw (next first)
    % 1000) ++ functions 23 1 (next (next first))) same

after_functions_same : (x y : ℕ) → next x ≡ next y → after_functions x ≡ after_functions y
unfolding after
after_functions_same x y same = ap (after 71) same

task_same : (core x y : ℕ) → next x ≡ next y → task core x ≡ task core y
unfolding task source
task_same core x y same = rw (functions_same x y same, after_functions_same x y same) refl

pub tasks_same : (x y : ℕ) → next x ≡ next y → tasks CORES 0 x ≡ tasks CORES 0 y
unfolding tasks
tasks_same x y same = rw (task_same 0 x y same, after_functions_same x y same) refl

-- To be believed. What comes of the code of a task.
use Rattle.std.specs.Prelude.{ℕ, List, []}
use Rattle.sp_tree.specs.Begun.{begun_private}
use Rattle.sp_tree.specs.Statements.{PlainUnit}
use Rattle.sp_shape.specs.Memory.{Memory}
use Rattle.sp_shape.specs.Run.{Run, Back, at_begin, by_words, run}
use Rattle.sp_shape.specs.Trail.{trail}
use Rattle.sp_emit.specs.Functions.{emitted}

-- the words before the task, where those that all cores share and those of communication memory are given
abbrev pub begun_memory : PlainUnit → List ℕ → (ℕ → ℕ) → (ℕ → ℕ) → Memory
begun_memory u input shared comm = record {
  scratch = λ _. 0;
  comm = comm;
  private = begun_private u input;
  shared = shared;
  source = λ _. 0;
  target = λ _. 0;
  starts = [];
}

-- its calls are given these places to return to
abbrev pub ran : PlainUnit → List ℕ → (ℕ → ℕ) → (ℕ → ℕ) → List Back → Run
ran u input shared comm backs = run by_words (trail (emitted u)) (at_begin (begun_memory u input shared comm) [] backs)

abbrev pub ran_alone : PlainUnit → List ℕ → Run
ran_alone u input = ran u input (λ _. 0) (λ _. 0) []

-- To be believed. The image of a task's tree, and what a walk over it leaves.
use Rattle.std.specs.Prelude.{ℕ, List, []}
use Rattle.patmos_code.specs.Images.{Parts}
use Rattle.patmos_model.specs.Begin.{entry}
use Rattle.sp_tree.specs.Begun.{straight}
use Rattle.sp_tree.specs.Statements.{PlainUnit}
use Rattle.sp_shape.specs.Run.{Run, at_begin, by_words}
use Rattle.sp_shape.specs.Trail.{trail}
use Rattle.sp_emit.specs.Ran.{begun_memory}
use Rattle.sp_emit.specs.Serving.{Answers}
use Rattle.task_core.specs.Tasks.{code_of}
use Rattle.tc_link.specs.Backs.{back, backs_of}
use Rattle.tc_link.specs.Dues.{dues_of}
use Rattle.tc_link.specs.Placed.{linked}
use Rattle.tc_link.specs.Walk.{Walk, walk_from, Follows}

-- the words of its code
abbrev pub image_of : PlainUnit → Parts
image_of u = linked (code_of u)

-- the task begins, where the words that all cores share and those of communication memory
-- are given; its calls return to after them
abbrev pub begun_run : PlainUnit → List ℕ → (ℕ → ℕ) → (ℕ → ℕ) → Run
begun_run u input shared comm = at_begin (begun_memory u input shared comm) [] (backs_of (code_of u))

abbrev pub begun_walk : PlainUnit → List ℕ → (ℕ → ℕ) → (ℕ → ℕ) → Walk
begun_walk u input shared comm = walk_from (entry (image_of u)) (begun_run u input shared comm)

-- a walk from there on does the bundles of its trail, one after another, and leaves what the tree means,
-- where each load gives what was stored last in its word
pub record CarriesOut (u : PlainUnit) (input : List ℕ) (shared comm : ℕ → ℕ) : Type 0 where
  pub follows : Follows (image_of u) by_words (trail (code_of u)) (dues_of (code_of u) (back 0 0))
      (begun_walk u input shared comm)
  pub answers : Answers (straight u input shared comm) (begun_run u input shared comm) follows.last.run

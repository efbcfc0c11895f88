use Rattle.std.proofs.Common.{◌≡◌, ℕ}
use Rattle.c_run.specs.Reported.{words_from}
use Rattle.c_world.specs.World.{words_in}
use Rattle.global_step.specs.Loaded.{Machine}
use Rattle.global_step.specs.Machine.{at_limit}
use Rattle.tc_run.specs.Final.{IsFinalCore}
use Rattle.job_rows.specs.Rows.{own_world}
use Rattle.job_rows.proofs.output.words_of.Given as goal

abbrev pub invariant-loop-at : goal.invariant-loop-at
invariant-loop-at l = (m : Machine) (k : ℕ) → IsFinalCore m k l.core
    → l.words.items ≡ words_from (words_in l.array.region (own_world ((at_limit m).cores k).plain)) l.array.first l.at

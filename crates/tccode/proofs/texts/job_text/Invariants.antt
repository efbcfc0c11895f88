use Rattle.std.proofs.Common.{◌≡◌, ℕ, ◌<◌, ◌++◌, drop, IfSome}
use Rattle.std.specs.Prelude.{slice_get}
use Rattle.job_tasks.specs.Coding.{all_shown}
use Rattle.job_tasks.specs.Tasks.{told_from}
use Rattle.tccode.specs.Codes.{core_text, job_text, TellsOn}
use Rattle.tccode.proofs.texts.job_text.Given as goal

abbrev pub invariant-loop-core : goal.invariant-loop-core
invariant-loop-core l = l.text.items ++ told_from (core_text l.job) l.core (all_shown (drop l.core l.coded))
    ≡ job_text l.job (all_shown l.coded)
    × ((k : ℕ) → k < l.core → IfSome (slice_get (all_shown l.coded) k) (TellsOn l.job k))

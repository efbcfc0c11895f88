-- To be believed. Which calls of a source or a sink in memory fail.
use Rattle.std.specs.Prelude.{ℕ, List, Bool, if◌then◌else◌}
use Rattle.tc_io.specs.Faults.{one_more}

-- the numbers of the calls that fail, counted from 0; how many calls came; how many of them failed
pub record Plan : Type 0 where
  pub failing : List ℕ
  pub calls : ℕ
  pub faults : ℕ

-- a plan that no call has met
abbrev pub fresh : List ℕ → Plan
fresh failing = record { failing = failing; calls = 0; faults = 0 }

-- the plan one call later, which failed or did not
abbrev pub counted : Plan → Bool → Plan
counted plan failed =
    record plan { calls = one_more plan.calls; faults = if failed then one_more plan.faults else plan.faults }

-- bytes to be read under a plan
pub record Planned : Type 0 where
  pub left : List ℕ
  pub plan : Plan

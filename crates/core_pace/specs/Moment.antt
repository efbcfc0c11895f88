-- To be believed. Moments of a run apart. A moment stands within a cycle, after the interface's part of it: what is
-- left of the cycle is the task's own part, or the rest of that.
use Rattle.std.specs.Prelude.{◌≡◌, ℕ, zero, suc, Bool, true, false, ◌&&◌, List, [], ◌∷◌, ◌++◌, is_none}
use Rattle.shared_order.specs.Apart.{alone}
use Rattle.patmos_sem.specs.Bundles.{effect_of}
use Rattle.patmos_model.specs.declared.fetched.Fetched.{Fetched}
use Rattle.patmos_model.specs.declared.fetched.Fetched.TheVariants.{Outside, NoBundle, Found}
use Rattle.patmos_model.specs.State.{Plain, Core, is_running, is_free}
use Rattle.patmos_model.specs.Flows.{flowed}
use Rattle.patmos_model.specs.Checks.{fault_of}
use Rattle.patmos_model.specs.Bundle.{fetched_at}
use Rattle.patmos_model.specs.Apart.{Followed, after_delivery, after_injection, after_own}

-- a bundle that was done: the function that it stands in, its first word's offset there, and the cycle
pub record Done : Type 0 where
  pub base : ℕ
  pub offset : ℕ
  pub cycle : ℕ

-- the cycle, the run until then, and the bundles that were done in it, in their order
pub record Moment : Type 0 where
  pub cycle : ℕ
  pub told : Followed
  pub bundles : List Done

-- the core at a moment
abbrev pub core_in : Moment → Core
core_in m = m.told.run.core

-- ---- the bundle of a cycle

-- what stands where the core is
abbrev pub fetched_in : Plain → Fetched
fetched_in x = fetched_at x.site.image x.base x.offset

-- what was fetched is a bundle, and no check on it fails
abbrev pub passes : Fetched → Plain → Bool
passes fetched x = elim fetched [
  | Outside ↦ false
  | NoBundle ↦ false
  | Found b words ↦ is_none (fault_of x (effect_of b x.regs))
]

-- the bundle that the core does in the cycle, no flow being due: one, or none
abbrev pub done_by : ℕ → Core → List Done
done_by cycle c = elim (is_running c.plain && (is_free cycle c.plain && passes (fetched_in c.plain) c.plain)) [
  | true ↦ record { base = c.plain.base; offset = c.plain.offset; cycle = cycle } ∷ []
  | false ↦ []
]

-- the core once a flow that is due in the cycle has taken effect
abbrev pub landed : ℕ → Core → Core
landed cycle c = elim (is_running c.plain) [ true ↦ flowed cycle c | false ↦ c ]

-- the bundle of the task's own part of the cycle
abbrev pub done_in : ℕ → Core → List Done
done_in cycle c = done_by cycle (landed cycle c)

-- ---- the run, cycle by cycle

module _ (n core : ℕ) where
  -- the interface's part of the cycle is done
  abbrev pub interfaced : Moment → Moment
  interfaced m = record m { told = after_injection n core m.cycle (after_delivery n core m.cycle m.told) }

  -- and the task's own part, or what is left of it: the next cycle begins
  abbrev pub finished : Moment → Moment
  finished m = record {
    cycle = suc m.cycle;
    told = after_own n core m.cycle m.told;
    bundles = m.bundles ++ done_in m.cycle (core_in m);
  }

  -- a core that begins as x, whose loads give the values, before a cycle
  abbrev pub before : Core → List ℕ → ℕ → Moment
  before x values zero = record { cycle = 0; told = record { run = alone x values; own = [] }; bundles = [] }
  before x values (suc t) = finished (interfaced (before x values t))

  -- the run passes through the moment: what is left of the cycle there brings it to the next cycle
  abbrev pub Passes : Core → List ℕ → Moment → Type 0
  Passes x values m = before x values (suc m.cycle) ≡ finished m

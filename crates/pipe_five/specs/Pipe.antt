-- To be believed. The pipeline of a core, and which run it stands for.
use Rattle.std.specs.Prelude.{◌≡◌, ℕ, ◌+◌, ◌<◌, List, [], ◌∷◌, Option, Some, option_map, length}
use Rattle.patmos_model.specs.State.{Core}
use Rattle.patmos_step.specs.Shown.{plain_of}
use Rattle.pipe_five.specs.declared.beat.Beat.{Beat}
use Rattle.pipe_five.specs.declared.beat.Beat.TheVariants.{Step, Stopped}
use Rattle.pipe_five.specs.declared.pipe.PipeCore.{PipeCore}
use Rattle.pipe_five.specs.Steps.{done_below, first_of, number}
use Rattle.pipe_five.specs.Stages.{stages_of, fetch_place, decode_place, point_of}
use Rattle.pipe_five.specs.Latches.{latched}
use Rattle.pipe_five.specs.Lone.{RunsAs}

-- the limit of the last call of `advance`
abbrev pub limit_of : PipeCore → ℕ
limit_of p = p.limit

-- the cycles below it are over
abbrev pub IsThrough : PipeCore → Type 0
IsThrough p = p.lone.cycle ≡ p.limit

-- The pipeline stands for the run of the machine whose only core began as x, after so many of its bundles.
pub record StandsFor (p : PipeCore) (x : Core) (steps : ℕ) : Type 0 where
  pub runs : RunsAs p.lone x
  pub count : length (done_below x p.lone.cycle) ≡ steps
  pub latches : p.latches ≡ latched x (done_below x p.lone.cycle)

-- how many steps were made, after an answer
abbrev pub steps_after : Beat → ℕ → ℕ
steps_after beat steps = elim beat [ Step cycle stages ↦ steps + 1 | Stopped ↦ steps ]

-- Step k of a run before a limit: bundle k is done in the cycle, and this stands in the stages.
pub record IsStep (x : Core) (limit k cycle : ℕ) (places : List (Option ℕ)) : Type 0 where
  pub below : cycle < limit
  pub among : k < length (done_below x limit)
  pub bundle : option_map (λ d. d.cycle) (number k (done_below x limit)) ≡ Some cycle
  pub stages : places ≡ stages_of x (first_of (k + 1) (done_below x limit))

-- the answer is a step, and its numbers are such
abbrev pub IfStep : Beat → (ℕ → List (Option ℕ) → Type 0) → Type 0
IfStep beat P = elim beat [ Step cycle stages ↦ P cycle stages | Stopped ↦ Unit {0} ]

-- the answer is that none comes before the limit
abbrev pub IsStopped : Beat → Type 0
IsStopped beat = elim beat [ Step cycle stages ↦ ⊥ | Stopped ↦ Unit {0} ]

-- the places in the stages, as the pipeline holds them
abbrev pub shown : PipeCore → List (Option ℕ)
shown p = fetch_place p.lone.body.image (point_of (plain_of p.lone.body))
    ∷ decode_place p.lone.body.image (point_of (plain_of p.lone.body))
    ∷ p.latches.execute ∷ option_map (λ latch. latch.place) p.latches.memory ∷ p.latches.write_back ∷ []

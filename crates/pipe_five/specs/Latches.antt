-- To be believed. What is held in the stages from execute on, and how it goes on.
use Rattle.std.specs.Prelude.{ℕ, List, [], ◌∷◌, Option, None, Some, option_map}
use Rattle.patmos_sem.specs.Registers.{Registers, at_start}
use Rattle.patmos_model.specs.State.{Core}
use Rattle.core_pace.specs.Moment.{Done}
use Rattle.pipe_five.specs.declared.latches.Latch.{Latch}
use Rattle.pipe_five.specs.declared.latches.Latches.{Latches}
use Rattle.pipe_five.specs.Steps.{place_of, found_by}
use Rattle.pipe_five.specs.Stages.{held, written_in}

-- no bundle in any stage
abbrev pub empty : Latches
empty = record { execute = None; memory = None; write_back = None; file = at_start }

-- the bundle that was in memory comes into write-back, and its results into the file
abbrev pub written_back : Option Latch → Latches → Latches
written_back memory s = elim memory [
  | None ↦ record s { write_back = None }
  | Some latch ↦ record s { write_back = Some latch.place; file = latch.results }
]

-- each bundle goes on by a stage, and the next one, which found these registers, comes into execute
abbrev pub shifted : Option ℕ → Registers → Latches → Latches
shifted place found s = record (written_back s.memory s) {
  execute = place;
  memory = option_map (λ at. record { place = at; results = found }) s.execute;
}

-- a register of the file, what is on its way written
abbrev pub word_in : Latches → ℕ → ℕ
word_in s r = written_in s.file r

-- what is held after these bundles of a core that began as x, from the latest back
abbrev pub latch_of : Core → List Done → Option Latch
latch_of x [] = None
latch_of x (latest ∷ []) = None
latch_of x (latest ∷ memory ∷ before) = Some (record { place = place_of memory; results = found_by x latest })

abbrev pub results_of : Core → List Done → Registers
results_of x [] = at_start
results_of x (latest ∷ []) = at_start
results_of x (latest ∷ memory ∷ []) = at_start
results_of x (latest ∷ memory ∷ write_back ∷ before) = found_by x memory

abbrev pub latched : Core → List Done → Latches
latched x bundles = record {
  execute = held 0 bundles;
  memory = latch_of x bundles;
  write_back = held 2 bundles;
  file = results_of x bundles;
}

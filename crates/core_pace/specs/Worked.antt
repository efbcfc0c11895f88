-- For worked rows. The only core of a platform by its bundles, for worked values.
use Rattle.std.specs.Prelude.{ℕ, ◌-◌, List, [], ◌∷◌, map, length, replicate}
use Rattle.method_cache.specs.declared.cache.Method.{Method}
use Rattle.patmos_instr.specs.Bundles.{PlainBundle}
use Rattle.patmos_instr.specs.declared.memories.Mem.TheVariants.{M}
use Rattle.shared_order.specs.declared.operation.Operation.{Operation}
use Rattle.patmos_model.specs.Apart.{followed}
use Rattle.patmos_model.specs.Programs.{core_of, addl, addi, sw, ret, nops}
use Rattle.shared_order.specs.Apart.{Alone, apart}
use Rattle.stack_cache.specs.declared.stack.TheConstants.{STACK_END}
use Rattle.stack_cache.specs.Stack.{Stack, reserved, spilled, freed}
use Rattle.patmos_model.specs.Bundle.{with_words, refilled}
use Rattle.patmos_model.specs.Cycle.{turn}
use Rattle.patmos_model.specs.State.{Core}
use Rattle.core_pace.specs.Moment.{Moment}
use Rattle.core_pace.specs.Task.{task_apart}
use Rattle.core_pace.specs.Pace.{Pace, Event, clock}
use Rattle.core_pace.specs.Run.{starting, after_bundles, past}

-- a task of these functions that starts at cycle 0, after so many bundles
abbrev pub bundled_so : List (List PlainBundle) → ℕ → Moment
bundled_so functions count = after_bundles 1 0 (core_of 1 0 0 functions) [] count

-- the cycles in which its first bundles are done
abbrev pub cycles_of : List (List PlainBundle) → ℕ → List ℕ
cycles_of functions count = map (λ d. d.cycle) (bundled_so functions count).bundles

-- the offsets of these bundles
abbrev pub offsets_of : List (List PlainBundle) → ℕ → List ℕ
offsets_of functions count = map (λ d. d.offset) (bundled_so functions count).bundles

-- its events
abbrev pub events_of : List (List PlainBundle) → ℕ → List Event
events_of functions count = past 1 0 (core_of 1 0 0 functions) [] count

-- what the clock makes of events for the only core, from cycle 0 on
abbrev pub told : List Event → Pace
told events = clock (core_of 1 0 0 []).plain.site events (starting (core_of 1 0 0 []).plain.site)

-- the function of so many words at a place
abbrev pub method : ℕ → ℕ → Method
method function words = record { function = function; words = words }

-- a task of these functions, after so many cycles of its run apart
abbrev pub run_of : List (List PlainBundle) → ℕ → Core
run_of functions cycles = (apart turn 1 0 (core_of 1 0 0 functions) [] cycles).core

-- the run of the task by itself, told these values
abbrev pub told_of : List (List PlainBundle) → List ℕ → ℕ → Alone Core
told_of functions values cycles = task_apart 1 0 (core_of 1 0 0 functions) values cycles

-- a stack that the cache holds whole: so many words of 5
abbrev pub fives : ℕ → Stack
fives count = record { st = STACK_END - count; ss = STACK_END; words = replicate count 5 }

-- the stack after a reserve, a free and an ensure, where all other words of private memory are 0
abbrev pub brought_back : ℕ → Stack → Stack
brought_back count s =
    refilled (length s.words) (with_words (reserved count s).ss (spilled count s) (λ _. 0))
    (freed count (reserved count s))

-- a task that stores 5 into the first word that all cores share
abbrev pub storing : List (List PlainBundle)
storing = (addl 2 0 0x1000000 ∷ addi 3 0 5 ∷ sw M 2 0 3 ∷ ret (nops 3)) ∷ []

-- the operations of a task of these functions in its run apart
abbrev pub operations_of : List (List PlainBundle) → ℕ → List Operation
operations_of functions cycles = (followed 1 0 (core_of 1 0 0 functions) [] cycles).own

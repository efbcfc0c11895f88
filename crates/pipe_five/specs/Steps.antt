-- To be believed. The bundles of a run: which of them the only core of a platform
-- does, in which cycle, and in which order.
use Rattle.std.specs.Prelude.{ℕ, zero, suc, ◌+◌, ◌-◌, List, [], ◌∷◌, ◌++◌, Option, None, Some, length, drop}
use Rattle.shared_order.specs.Machine.{State, cycled}
use Rattle.patmos_sem.specs.Registers.{Registers}
use Rattle.patmos_model.specs.State.{Core}
use Rattle.patmos_model.specs.Cycle.{turn}
use Rattle.core_pace.specs.Moment.{Done, landed, done_in}

-- the machine of one core that begins as x, after the cycles 0 to t - 1
abbrev pub machine_of : Core → ℕ → State Core
machine_of x t = cycled turn 1 (λ _. x) t

-- its core and the words of its board before a cycle
abbrev pub core_before : Core → ℕ → Core
core_before x t = (machine_of x t).cores 0

abbrev pub words_before : Core → ℕ → ℕ → ℕ
words_before x t = (machine_of x t).words

-- the bundles that are done in the cycles below t, from the latest back: each with its function, its offset there, and
-- its cycle
abbrev pub done_below : Core → ℕ → List Done
done_below x zero = []
done_below x (suc t) = done_in t (core_before x t) ++ done_below x t

-- Bundles have numbers from 0 in the order in which they are done. Of a list from the latest back, those with
-- the numbers below k, and the one with the number k.
abbrev pub first_of : ℕ → List Done → List Done
first_of k bundles = drop (length bundles - k) bundles

abbrev pub latest : List Done → Option Done
latest [] = None
latest (d ∷ before) = Some d

abbrev pub number : ℕ → List Done → Option Done
number k bundles = latest (first_of (k + 1) bundles)

-- the place of a bundle: the image word of its first word
abbrev pub place_of : Done → ℕ
place_of d = d.base + d.offset

-- the registers as a bundle finds them: those after the bundle before it, with all that it moved
abbrev pub found_by : Core → Done → Registers
found_by x d = (landed d.cycle (core_before x d.cycle)).plain.regs

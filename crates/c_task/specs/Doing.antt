-- To be believed. What a core does that runs an image apart from the others, whatever words are put in and read.
use Rattle.std.specs.Prelude.{◌≡◌, ℕ, ◌≤◌, List}
use Rattle.slot_arbiter.specs.declared.place.Place.{Place}
use Rattle.shared_order.specs.Words.{Sees}
use Rattle.c_tree.specs.Plain.{PlainItem}
use Rattle.patmos_code.specs.Images.{Parts}
use Rattle.patmos_model.specs.Apart.{apart_at, own_operations}
use Rattle.patmos_model.specs.Outcome.{state_at}
use Rattle.patmos_model.specs.declared.state.CoreState.TheVariants.{Trapped}
use Rattle.patmos_model.specs.declared.trap.Trap.{Trap}
use Rattle.code_core.specs.Words.{AreGiven}
use Rattle.task_machine.specs.Reported.{HasTimes}
use Rattle.c_task.specs.Programs.{HasProgramMeaning, Touches}
use Rattle.c_task.specs.Translation.{IsWorld, translation, times}

-- its transactions below each cycle are those of the program's times, it runs
-- until their end, and is done from there on
abbrev pub KeepsTimes : List PlainItem → Place → Parts → Type 0
KeepsTimes items place image =
    (input values : List ℕ) → AreGiven input values → (cycles : ℕ)
    → HasTimes (translation items).tree place cycles (apart_at place image input values cycles).core

-- no check stops it
abbrev pub NeverTraps : Place → Parts → Type 0
NeverTraps place image =
    (input values : List ℕ) → AreGiven input values → (cycles : ℕ) (fault : Trap) (at : ℕ)
    → state_at cycles (apart_at place image input values cycles).core.plain ≡ Trapped fault at → ⊥

-- from its end on it has the value, the flag, the words and the transfers that the program's text
-- comes to from a world, where each of the task's own loads of a word that others reach gives its
-- own last store there, else the world's word
abbrev pub ComesToMeaning : List PlainItem → Place → Parts → Type 0
ComesToMeaning items place image =
    (input values : List ℕ) (world : ℕ → ℕ) → AreGiven input values → IsWorld world → (cycles : ℕ)
    → (times place items).end ≤ cycles
    → Sees world (own_operations place image input values cycles)
    → HasProgramMeaning items place input world cycles (own_operations place image input values cycles)
    (apart_at place image input values cycles).core

-- of the words that others reach, and of the cores, it touches only those that the program's text mentions
abbrev pub TouchesMentioned : List PlainItem → Place → Parts → Type 0
TouchesMentioned items place image =
    (input values : List ℕ) → AreGiven input values → (cycles : ℕ) → Touches items place image input values cycles

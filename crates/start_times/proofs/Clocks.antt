-- The clocks of code and of C programs.
use Rattle.std.proofs.Common.{ℕ, List}
use Rattle.slot_arbiter.specs.declared.place.Place.{Place}
use Rattle.c_tree.specs.Plain.{PlainItem}
use Rattle.c_tree.specs.Valid.{IsValid}
use Rattle.core_pace.specs.Times.{Times}
use Rattle.sp_shape.specs.Parts.{PlainShape}
use Rattle.single_path.specs.Single.{single}
use Rattle.code_core.specs.Fixed.{IsLinkable, Behaves}
use Rattle.code_times.specs.Times.{times_at}
use Rattle.task_core.specs.Tasks.{code_of, IsCode}
use Rattle.task_core.proofs.Behaving.{link, asking, behaves}
use Rattle.c_task.specs.Translation.{times}
use Rattle.c_task.proofs.Runs.{program_runs}
use Rattle.start_times.proofs.Starting.{slotted, times_from, from_later, from_slot, times_are}
use Rattle.start_times.proofs.Worst.{HasClock}

pub code_clock : (place : Place) (s : PlainShape) (addresses : List ℕ) → IsLinkable s → Behaves s place addresses
    → HasClock place (λ p. times_at p s) (times_from place s addresses)
code_clock place s addresses fits same = record {
  slots = slotted place s;
  is = λ other core. times_are place other s addresses fits same core;
  later = λ periods t. from_later place s addresses periods t;
  slot = λ t u next. from_slot place s addresses t u next;
}

-- the times of a program that is valid on its core, from a start
abbrev pub times_on : (place : Place) (items : List PlainItem) → IsValid items place.cores place.core → ℕ → Times
times_on place items valid =
    times_from place (code_of (single items)) (asking (single items) (program_runs place items valid).formed).cached

pub program_clock : (place : Place) (items : List PlainItem) (valid : IsValid items place.cores place.core)
    → IsCode (single items) → HasClock place (λ p. times p items) (times_on place items valid)
program_clock place items valid code =
    code_clock place (code_of (single items)) (asking (single items) (program_runs place items valid).formed).cached
    (link (single items) code (program_runs place items valid).formed) (behaves (single items) place
    (program_runs place items valid) code)

-- The task of a valid program ends within its persistent bound, which is at most its bound.
use Rattle.std.proofs.Common.{◌+◌, ◌-◌, ◌≤◌, List}
use Rattle.slot_arbiter.specs.declared.place.Place.{Place}
use Rattle.c_tree.specs.Plain.{PlainItem}
use Rattle.c_tree.specs.Valid.{IsValid}
use Rattle.cycle_bound.specs.Gap.{gap}
use Rattle.bound_persist.proofs.Tighter.{persist_less}
use Rattle.tc_link.specs.Placed.{linked}
use Rattle.code_persist.proofs.Sooner.{ends_sooner}
use Rattle.single_path.specs.Single.{single}
use Rattle.task_core.specs.Tasks.{code_of, IsCode}
use Rattle.task_core.proofs.Behaving.{link, asking, behaves}
use Rattle.task_machine.proofs.Alone.{slotted}
use Rattle.c_task.specs.Translation.{times, bound, persist}
use Rattle.c_task.proofs.Runs.{program_runs}
use Rattle.c_task.proofs.Sizes.{program_formed}

pub program_sooner : (place : Place) (items : List PlainItem) → IsValid items place.cores place.core
    → IsCode (single items) → (times place items).end ≤ place.start + persist place items
program_sooner place items valid code =
    let u = single items in
    let runs = program_runs place items valid in
    ends_sooner place (code_of u) (asking u runs.formed).cached (link u code runs.formed) (behaves u place runs code)
    (slotted place (linked (code_of u))) place.in_range.among

pub program_tighter : (place : Place) (items : List PlainItem) → IsValid items place.cores place.core
    → persist place items ≤ bound place items
program_tighter place items valid = persist_less (gap place.table place.slot place.core + place.slot - 1)
    (code_of (single items)) (program_formed place items valid)

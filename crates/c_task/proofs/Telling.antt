-- A machine tells of its C tasks.
use Rattle.std.proofs.Common.{◌≡◌, ℕ, ◌+◌, ◌-◌, ◌≤◌, List, ap, arith}
use Rattle.slot_arbiter.specs.declared.place.Place.{Place}
use Rattle.slot_arbiter.specs.Slot.{is_slot_start}
use Rattle.c_tree.specs.Plain.{PlainItem}
use Rattle.c_tree.specs.Valid.{IsValid}
use Rattle.c_mentions.specs.Alone.{Running}
use Rattle.core_pace.specs.Starts.{gap_in}
use Rattle.core_pace.proofs.SlotStarts.{gap_is_greatest}
use Rattle.patmos_model.specs.State.{Core}
use Rattle.cycle_bound.specs.Bound.{shape_bound}
use Rattle.cycle_bound.specs.Gap.{gap}
use Rattle.cycle_bound.proofs.Gaps.{one_gap, place_gap}
use Rattle.tc_link.specs.Placed.{linked}
use Rattle.code_times.proofs.Exact.{end_within}
use Rattle.single_path.specs.Single.{single}
use Rattle.task_core.specs.Tasks.{bound_of, code_of, IsCode}
use Rattle.task_core.proofs.Behaving.{link, asking, behaves}
use Rattle.task_machine.specs.Machines.{machine_after}
use Rattle.task_machine.specs.Reported.{task_operations}
use Rattle.task_machine.proofs.Alone.{slotted, zeros_fit}
use Rattle.task_machine.proofs.Among.{task_whole}
use Rattle.task_machine.proofs.Reported.{times_there, meaning_there}
use Rattle.c_task.specs.Programs.{task_of, task_on}
use Rattle.c_task.specs.Telling.{HasProgram, Tells}
use Rattle.c_task.specs.Translation.{times, bound}
use Rattle.c_task.proofs.Alone.{alone_by_texts}
use Rattle.c_task.proofs.Meaning.{program_meaning}
use Rattle.c_task.proofs.Runs.{program_runs}
use Rattle.c_task.proofs.Worlds.{world_held}

-- the bound that is worked out from the slot table is that of the greatest gap
bound_is : (place : Place) (items : List PlainItem) → bound_of (single items) place ≡ place.start + bound place items
bound_is place items =
    let same : gap_in place.table place.slot place.core ≡ gap place.table place.slot place.core =
    one_gap (is_slot_start place.table place.slot place.core) (gap_in place.table place.slot place.core)
    (gap place.table place.slot place.core)
    (gap_is_greatest place.table place.slot place.core (slotted place (linked (code_of (single items)))))
    (place_gap place) in
    ap (λ far. place.start + shape_bound (far + place.slot - 1) (code_of (single items))) same

pub program_within : (place : Place) (items : List PlainItem) → IsValid items place.cores place.core
    → IsCode (single items) → (times place items).end ≤ place.start + bound place items
program_within place items valid code =
    let u = single items in
    let runs = program_runs place items valid in
    let most = end_within place (code_of u) (asking u runs.formed).cached (link u code runs.formed)
    (behaves u place runs code)
    (slotted place (linked (code_of u))) place.in_range.among in
    omega (arith, most, bound_is place items)

pub tells : (items : List PlainItem) (place : Place) (input : List ℕ) (words : ℕ) (cores : ℕ → Core)
    (tasks : List Running) (cycles : ℕ) → HasProgram items place input words cores tasks cycles
    → Tells items place input tasks (machine_after place.cores cores cycles) cycles
tells items place input words cores tasks cycles h =
    let m = machine_after place.cores cores cycles in
    let own = task_operations (single items) place input m cycles in
    record {
      keeps = times_there (single items) place input words cores cycles h.task;
      within = program_within place items h.valid h.task.code;
      own = task_whole (single items) place input cores cycles place.in_range.among h.task.begins;
      meaning = λ world holds fits enough. program_meaning place items h.valid input world cycles own
          (m.cores place.core)
          (meaning_there (single items) place input words cores cycles h.task world
          (world_held (single items) place input world h.task.code.initial h.task.given holds) enough fits);
      alone = λ is. zeros_fit (single items) place input words cores cycles h.task (λ k. task_of (task_on tasks k))
          h.begin (alone_by_texts items place.cores place.core tasks h.said is);
    }

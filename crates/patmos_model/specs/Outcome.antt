-- To be believed. How far a core has come at a cycle limit: what its state says once all cycles before the limit are
-- done.
use Rattle.std.specs.Prelude.{ℕ, ◌-◌, true, false, ◌&&◌, nat_le, slice_index}
use Rattle.local_store.specs.declared.map.Cell.{Cell}
use Rattle.local_store.specs.declared.map.Cell.TheVariants as cell
use Rattle.patmos_model.specs.declared.state.Status.TheVariants as status
use Rattle.patmos_model.specs.declared.state.CoreState.{CoreState}
use Rattle.patmos_model.specs.declared.state.CoreState.TheVariants.{Idle, Running, Done, Trapped}
use Rattle.patmos_model.specs.State.{Plain, has_ended}

-- the task is done where its end is at the limit or before it; a load of the last delay slot is not
-- seen, since it is still pending
abbrev pub state_at : ℕ → Plain → CoreState
state_at limit x = elim x.status [
  | status.Idle ↦ Idle
  | status.Running ↦ elim (has_ended x && nat_le x.free limit) [
    | true ↦ Done (slice_index x.regs.general 1) (slice_index x.regs.general 2) (x.free - x.site.start)
    | false ↦ Running
  ]
  | status.Trapped trap at ↦ Trapped trap at
]

-- the word of a cell of the core's own memories
abbrev pub word_in : Cell → Plain → ℕ
word_in c x = elim c [
  | cell.Scratch word ↦ x.scratch word
  | cell.Private word ↦ x.private word
  | cell.Comm word ↦ 0
  | cell.Port core register ↦ 0
  | cell.Shared word ↦ 0
]

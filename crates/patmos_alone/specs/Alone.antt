-- To be believed. Bundles that a core does by itself, one in each cycle: they ask for nothing but words of the core's
-- own stack and scratchpad, or leave a word of main memory to move in a later cycle.
use Rattle.std.specs.Prelude.{◌≡◌, ℕ, zero, suc, ◌+◌, ◌/◌, ◌<◌, ◌≤◌, ◌==◌, Bool, true, false, Option, None, Some, slice_index}
use Rattle.slot_arbiter.specs.declared.place.TheConstants.{MOST_CYCLES}
use Rattle.slot_arbiter.specs.Slot.{is_slot_start}
use Rattle.shared_order.specs.Words.{put}
use Rattle.local_store.specs.declared.map.Space.TheVariants.{Local}
use Rattle.local_store.specs.declared.map.Cell.{Cell}
use Rattle.local_store.specs.declared.map.Cell.TheVariants as cell
use Rattle.patmos_instr.specs.Bundles.{PlainBundle}
use Rattle.patmos_instr.specs.declared.memories.Mem.{Mem}
use Rattle.patmos_instr.specs.declared.memories.Mem.TheVariants as mem
use Rattle.patmos_instr.specs.declared.memories.Width.{Width}
use Rattle.patmos_instr.specs.declared.memories.StoreWidth.{StoreWidth}
use Rattle.patmos_sem.specs.declared.effects.Effect.{Effect}
use Rattle.patmos_sem.specs.declared.effects.Effect.TheVariants as effect
use Rattle.patmos_sem.specs.Bundles.{after_bundle, effect_of}
use Rattle.patmos_sem.specs.Narrow.{merged}
use Rattle.patmos_model.specs.declared.fetched.Fetched.TheVariants.{Found}
use Rattle.patmos_model.specs.declared.flow.Flow.{Flow}
use Rattle.patmos_model.specs.declared.flow.Goal.TheVariants.{Within}
use Rattle.patmos_model.specs.declared.state.Status.TheVariants.{Running}
use Rattle.patmos_model.specs.declared.transfer.Then.TheVariants as then_on
use Rattle.patmos_model.specs.Site.{Site, size_at}
use Rattle.patmos_model.specs.State.{Plain, Core, History, is_free}
use Rattle.patmos_model.specs.Cells.{cell_of, with_value, now}
use Rattle.patmos_model.specs.Transfers.{reads, writes}
use Rattle.patmos_model.specs.Bundle.{fetched_at, stack_set, ends, moves}
use Rattle.patmos_model.specs.Transaction.{is_due}
use Rattle.patmos_model.specs.Cycle.{own}
use Rattle.patmos_alone.specs.declared.run.NextBundle.{NextBundle}
use Rattle.patmos_alone.specs.declared.run.Went.{Went}
use Rattle.patmos_alone.specs.declared.run.Went.TheVariants as went
use Rattle.patmos_step.specs.declared.body.Body.{Body}
use Rattle.patmos_step.specs.Ready.{IsGranted, CanGoOn}
use Rattle.patmos_step.specs.Shown.{Shows, KeepsInterface, core_of, plain_of}

-- the core's next bundle comes in the cycle, if its task has not ended
pub record CanBegin (cycle : ℕ) (x : Plain) : Type 0 where
  pub status : x.status ≡ Running
  pub free : is_free cycle x ≡ true

-- the next bundle stands at the offset: the core's own, or that of a branch that is due
abbrev pub CanLand : ℕ → Plain → Type 0
CanLand offset x = elim x.flow [
  | None ↦ offset ≡ x.offset
  | Some f ↦ elim (f.slots == 0) [
    | true ↦ (f.goal ≡ Within offset) × (offset < size_at x.site.image x.base)
    | false ↦ offset ≡ x.offset
  ]
]

-- no flow has delay slots left
abbrev pub no_slot_left : Option Flow → Bool
no_slot_left flow = elim flow [ None ↦ true | Some f ↦ f.slots == 0 ]

-- the flow that is left, and the core at that offset, once a branch that was due has taken effect
abbrev pub left : Option Flow → Option Flow
left flow = elim (no_slot_left flow) [ true ↦ None | false ↦ flow ]

abbrev pub landed : ℕ → Plain → Plain
landed offset x = record x { offset = offset; flow = left x.flow }

-- the core with the registers as a bundle leaves them
abbrev pub with_registers : PlainBundle → Plain → Plain
with_registers b x = record x { regs = after_bundle x.stack.st x.stack.ss b x.regs }

-- an address in the scratchpad, and one of the core's own stack or scratchpad, or of main memory, whose words
-- move later
abbrev pub IsScratch : Option Cell → Type 0
IsScratch place = elim place [
  | None ↦ ⊥
  | Some found ↦ elim found [
    | cell.Scratch word ↦ Unit {0}
    | cell.Comm word ↦ ⊥
    | cell.Port core register ↦ ⊥
    | cell.Private word ↦ ⊥
    | cell.Shared word ↦ ⊥
  ]
]

abbrev pub IsOwn : Mem → ℕ → Type 0
IsOwn space address = elim space [
  | mem.S ↦ Unit {0}
  | mem.L ↦ IsScratch (cell_of Local address)
  | mem.C ↦ ⊥
  | mem.M ↦ Unit {0}
]

-- what a bundle asks for is no more than an access to these
abbrev pub AsksOwn : Effect → Type 0
AsksOwn asked = elim asked [
  | effect.Nothing ↦ Unit {0}
  | effect.Flow kind ↦ Unit {0}
  | effect.Load space width rd address ↦ IsOwn space address
  | effect.Store space width address value ↦ IsOwn space address
  | effect.StackOp func count ↦ ⊥
]

-- a memory whose words come or go in the bundle's own cycle
abbrev pub IsLocal : Mem → Type 0
IsLocal space = elim space [ mem.S ↦ Unit {0} | mem.L ↦ Unit {0} | mem.C ↦ ⊥ | mem.M ↦ ⊥ ]

-- a flow is asked for only where none has delay slots left
abbrev pub CanFlow : Plain → Effect → Type 0
CanFlow x asked = elim asked [
  | effect.Nothing ↦ Unit {0}
  | effect.Flow kind ↦ no_slot_left x.flow ≡ true
  | effect.Load space width rd address ↦ Unit {0}
  | effect.Store space width address value ↦ Unit {0}
  | effect.StackOp func count ↦ Unit {0}
]

-- the word in a cell of the scratchpad
abbrev pub scratch_at : Option Cell → Plain → ℕ
scratch_at place x = elim place [
  | None ↦ 0
  | Some found ↦ elim found [
    | cell.Scratch word ↦ x.scratch word
    | cell.Comm word ↦ 0
    | cell.Port core register ↦ 0
    | cell.Private word ↦ 0
    | cell.Shared word ↦ 0
  ]
]

-- the core with a value stored in it
abbrev pub scratch_set : Option Cell → StoreWidth → ℕ → ℕ → Plain → Plain
scratch_set place width address value x = elim place [
  | None ↦ x
  | Some found ↦ elim found [
    | cell.Scratch word ↦ record x { scratch = put word (merged width address (x.scratch word) value) x.scratch }
    | cell.Comm word ↦ x
    | cell.Port core register ↦ x
    | cell.Private word ↦ x
    | cell.Shared word ↦ x
  ]
]

-- the core once a bundle has done what it asked for: words of main memory are still to be moved
abbrev pub finished_load : Mem → Width → ℕ → ℕ → ℕ → Plain → Plain
finished_load space width rd address cycle x = elim space [
  | mem.S ↦ ends cycle (with_value rd width address (slice_index x.stack.words (address / 4)) x)
  | mem.L ↦ ends cycle (with_value rd width address (scratch_at (cell_of Local address) x) x)
  | mem.C ↦ x
  | mem.M ↦ moves (reads 1 (then_on.Load rd width address)) cycle x
]

abbrev pub finished_store : Mem → StoreWidth → ℕ → ℕ → ℕ → Plain → Plain
finished_store space width address value cycle x = elim space [
  | mem.S ↦ ends cycle (record x { stack = stack_set width address value x.stack })
  | mem.L ↦ ends cycle (scratch_set (cell_of Local address) width address value x)
  | mem.C ↦ x
  | mem.M ↦ moves (writes 1 (then_on.Store false width address value)) cycle x
]

abbrev pub finished : Effect → ℕ → Plain → Plain
finished asked cycle x = elim asked [
  | effect.Nothing ↦ ends cycle x
  | effect.Flow kind ↦ ends cycle x
  | effect.Load space width rd address ↦ finished_load space width rd address cycle x
  | effect.Store space width address value ↦ finished_store space width address value cycle x
  | effect.StackOp func count ↦ x
]

-- words are to be moved, and the first cycle from one on in which they can be is this
pub record CanFirstMove (from start : ℕ) (x : Plain) : Type 0 where
  pub ahead : from ≤ start
  pub due : is_due start x ≡ true
  pub before : (u : ℕ) → from ≤ u → u < start → is_due u x ≡ false

-- words of main memory wait for a slot after the bundle's cycle
abbrev pub SpaceWaits : Mem → ℕ → Site → Type 0
SpaceWaits space cycle site = elim space [
  | mem.S ↦ Unit {0}
  | mem.L ↦ Unit {0}
  | mem.C ↦ Unit {0}
  | mem.M ↦ is_slot_start site.table site.slot site.core cycle ≡ false
]

abbrev pub CanWait : Effect → ℕ → Site → Type 0
CanWait asked cycle site = elim asked [
  | effect.Nothing ↦ Unit {0}
  | effect.Flow kind ↦ Unit {0}
  | effect.Load space width rd address ↦ SpaceWaits space cycle site
  | effect.Store space width address value ↦ SpaceWaits space cycle site
  | effect.StackOp func count ↦ Unit {0}
]

-- a bundle stands at an offset of the core's function
pub record HasBundleAt (b : Body) (offset : ℕ) : Type 0 where
  pub bundle : PlainBundle
  pub words : ℕ
  pub fetched : fetched_at b.image b.base offset ≡ Found bundle words
  pub inside : offset < b.size

-- it is the core's next one, and asks for this
pub record IsNextBundle (b : Body) (next : NextBundle) : Type 0 where
  pub lands : CanLand next.offset (plain_of b)
  pub bundle : PlainBundle
  pub fetched : fetched_at b.image b.base next.offset ≡ Found bundle next.words
  pub inside : next.offset < b.size
  pub within : next.offset + next.words ≤ b.size
  pub asks : next.effect ≡ effect_of bundle b.regs

-- the bundle comes in the cycle, and the core does it by itself
pub record IsPrivateIn (cycle : ℕ) (b : Body) (next : NextBundle) : Type 0 where
  pub begins : CanBegin cycle (plain_of b)
  pub here : IsNextBundle b next
  pub own : AsksOwn next.effect
  pub granted : IsGranted next.effect (plain_of b)
  pub flow : CanFlow (plain_of b) next.effect
  pub waits : CanWait next.effect cycle (plain_of b).site

-- in a cycle the core's own act is done without the board, and leaves the interface as it is
pub record IsAlone (cycle : ℕ) (c d : Core) : Type 0 where
  pub act : own cycle c ≡ now d
  pub interface : d.plain.interface ≡ c.plain.interface

-- so it is in each of so many cycles from one on, which bring the core from one state to the other
abbrev pub DoesAlone : ℕ → ℕ → Core → Core → Type 0
DoesAlone from zero c d = c ≡ d
DoesAlone from (suc count) c d = (between : Core) × DoesAlone from count c between × IsAlone (from + count) between d

-- so the core comes by itself from a state before one cycle to where it stands before another
pub record ComesAlone (from to : ℕ) (c : Core) (b : Body) : Type 0 where
  pub seen : History
  pub shows : Shows b seen
  pub alone : (count : ℕ) → from + count ≡ to → DoesAlone from count c (core_of b seen)

-- the core goes by itself from before one cycle to before another, whatever its history
pub record GoesAlone (from to : ℕ) (b b' : Body) : Type 0 where
  pub ahead : from ≤ to
  pub alone : (h : History) → Shows b h → ComesAlone from to (core_of b h) b'
  pub can : CanGoOn b'
  pub keeps : KeepsInterface b b'

-- the next bundle comes in a cycle before the limit
pub record BeginsBefore (limit cycle : ℕ) (b : Body) : Type 0 where
  pub begins : CanBegin cycle (plain_of b)
  pub can : CanGoOn b
  pub below : cycle < limit
  pub most : limit ≤ MOST_CYCLES

-- words that are to be moved can be in a cycle that comes before the limit
abbrev pub IsDueBefore : ℕ → ℕ → Plain → Type 0
IsDueBefore limit cycle x = cycle < limit → 0 < x.transfer.words → is_due cycle x ≡ true

-- the core went so far by itself from a cycle on in which its next bundle comes: it stands where it did;
-- or that bundle is done, and the next one comes in the next cycle; or it waited after it until a cycle,
-- in which words that are still to be moved can be
abbrev pub HasGone : Went → ℕ → ℕ → Body → Body → Type 0
HasGone how cycle limit b last = elim how [
  | went.Nowhere ↦ last ≡ b
  | went.On ↦ GoesAlone cycle (cycle + 1) b last × CanBegin (cycle + 1) (plain_of last)
  | went.Until next ↦ (cycle < next) × (next ≤ limit) × GoesAlone cycle next b last
      × IsDueBefore limit next (plain_of last)
]

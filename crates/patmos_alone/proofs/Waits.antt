-- A bundle of its own leaves words to be moved in the first slot from its cycle on, or none.
use Rattle.std.proofs.Common.{◌≡◌, ℕ, ◌+◌, ◌<◌, ◌==◌, ◌&&◌, true, false, Option, None, Some, sym, ap, ◌∙◌, subst, arith}
use Rattle.std.proofs.lemmas.Bool.Decides.{nat_tests}
use Rattle.patmos_instr.specs.Bundles.{PlainBundle}
use Rattle.patmos_instr.specs.declared.memories.Mem.{Mem}
use Rattle.patmos_instr.specs.declared.memories.Mem.TheVariants as mem
use Rattle.patmos_instr.specs.declared.memories.Width.{Width}
use Rattle.patmos_instr.specs.declared.memories.StoreWidth.{StoreWidth}
use Rattle.local_store.specs.declared.map.Space.TheVariants.{Local}
use Rattle.local_store.specs.declared.map.Cell.{Cell}
use Rattle.local_store.specs.declared.map.Cell.TheVariants as cell
use Rattle.patmos_sem.specs.declared.effects.Effect.{Effect}
use Rattle.patmos_model.specs.Cells.{cell_of}
use Rattle.patmos_model.specs.State.{Plain}
use Rattle.patmos_model.specs.Site.{Site}
use Rattle.patmos_model.specs.Transfers.{reads, writes}
use Rattle.patmos_model.specs.declared.transfer.Transfer.{Transfer}
use Rattle.patmos_model.specs.declared.transfer.Then.TheVariants as then_on
use Rattle.slot_arbiter.specs.Order.{IsNext}
use Rattle.slot_arbiter.specs.Slot.{is_slot_start}
use Rattle.patmos_model.specs.Bundle.{ends}
use Rattle.patmos_step.specs.Plan.{passed}
use Rattle.patmos_alone.specs.Alone.{CanBegin, IsLocal, SpaceWaits, CanFirstMove, IsDueBefore, landed, with_registers, scratch_set, finished_load, finished_store}
use Rattle.patmos_alone.proofs.AtOnce.{begins_next}
use Rattle.patmos_step.proofs.Short.{free_unmoved}
use Rattle.patmos_alone.proofs.Sleeping.{slot_first}

free_now : (words free cycle : ℕ) → (words == 0) && (free == cycle) ≡ true → free ≡ cycle
free_now words free cycle h = grind (arith, nat_tests)

-- the core with these words to be moved
abbrev left_to_move : Transfer → Plain → Plain
left_to_move moved x = record x { transfer = moved }

-- a word of main memory is left to be moved in the first slot that starts later
left_waits : (cycle start words offset : ℕ) (asked : Effect) (b : PlainBundle) (before x y : Plain) (moved : Transfer)
    → CanBegin cycle before
    → x ≡ passed words asked (landed offset (with_registers b before)) → y ≡ left_to_move moved x → 0 < moved.words
    → cycle < start
    → IsNext (is_slot_start before.site.table before.site.slot before.site.core) cycle start
    → CanFirstMove (cycle + 1) start y
left_waits cycle start words offset asked b before x y moved begins there same some later next =
    subst (CanFirstMove (cycle + 1) start) (sym (same ∙ ap (left_to_move moved) there))
    (slot_first cycle start (left_to_move moved (passed words asked (landed offset (with_registers b before)))) some
    (free_now before.transfer.words before.free cycle begins.free) later next)

pub load_waits : (width : Width) (rd address cycle start words offset : ℕ) (asked : Effect) (b : PlainBundle)
    (before x y : Plain) → CanBegin cycle before
    → x ≡ passed words asked (landed offset (with_registers b before)) → y
    ≡ finished_load mem.M width rd address cycle x → cycle < start
    → IsNext (is_slot_start before.site.table before.site.slot before.site.core) cycle start
    → CanFirstMove (cycle + 1) start y
load_waits width rd address cycle start words offset asked b before x y begins there same later next =
    left_waits cycle start words offset asked b before x y (reads 1 (then_on.Load rd width address)) begins there same
    (omega arith) later next

pub store_waits : (width : StoreWidth) (address value cycle start words offset : ℕ) (asked : Effect) (b : PlainBundle)
    (before x y : Plain) → CanBegin cycle before
    → x ≡ passed words asked (landed offset (with_registers b before)) → y
    ≡ finished_store mem.M width address value cycle x → cycle < start
    → IsNext (is_slot_start before.site.table before.site.slot before.site.core) cycle start
    → CanFirstMove (cycle + 1) start y
store_waits width address value cycle start words offset asked b before x y begins there same later next =
    left_waits cycle start words offset asked b before x y (writes 1 (then_on.Store false width address value)) begins
    there same (omega arith) later next

-- where a bundle comes, no words are to be moved
pub none_moves : (cycle limit later : ℕ) (x : Plain) → CanBegin cycle x → IsDueBefore limit later x
none_moves cycle limit later x begins =
    λ below some. absurd (omega (arith, some, free_unmoved x.transfer.words (x.free == cycle) begins.free))

-- words of the other memories wait for no slot
pub local_waits : (space : Mem) (cycle : ℕ) (site : Site) → IsLocal space → SpaceWaits space cycle site
local_waits mem.S cycle site local = tt
local_waits mem.L cycle site local = tt
local_waits mem.C cycle site local = absurd local
local_waits mem.M cycle site local = absurd local

-- where none are left to be moved, the next bundle comes in the next cycle
by_flow : (cycle words offset : ℕ) (asked : Effect) (b : PlainBundle) (before x y : Plain) → CanBegin cycle before → x
    ≡ passed words asked (landed offset (with_registers b before))
    → y.status ≡ x.status → y.transfer ≡ x.transfer → y.free ≡ cycle + 1 → CanBegin (cycle + 1) y
by_flow cycle words offset asked b before x y begins there status transfer free =
    begins_next cycle before y begins (status ∙ ap (λ p. p.status) there) (transfer ∙ ap (λ p. p.transfer) there) free

pub flow_begins : (cycle words offset : ℕ) (asked : Effect) (b : PlainBundle) (before x y : Plain)
    → CanBegin cycle before → x
    ≡ passed words asked (landed offset (with_registers b before))
    → y ≡ ends cycle x → CanBegin (cycle + 1) y
flow_begins cycle words offset asked b before x y begins there same =
    by_flow cycle words offset asked b before x y begins there (ap (λ p. p.status) same) (ap (λ p. p.transfer) same)
    (ap (λ p. p.free) same)

pub load_begins : (space : Mem) (width : Width) (rd address cycle words offset : ℕ) (asked : Effect) (b : PlainBundle)
    (before x y : Plain) → CanBegin cycle before → IsLocal space
    → x ≡ passed words asked (landed offset (with_registers b before)) → y
    ≡ finished_load space width rd address cycle x → CanBegin (cycle + 1) y
load_begins mem.S width rd address cycle words offset asked b before x y begins local there same =
    by_flow cycle words offset asked b before x y begins there (ap (λ p. p.status) same) (ap (λ p. p.transfer) same)
    (ap (λ p. p.free) same)
load_begins mem.L width rd address cycle words offset asked b before x y begins local there same =
    by_flow cycle words offset asked b before x y begins there (ap (λ p. p.status) same) (ap (λ p. p.transfer) same)
    (ap (λ p. p.free) same)
load_begins mem.C width rd address cycle words offset asked b before x y begins local there same = absurd local
load_begins mem.M width rd address cycle words offset asked b before x y begins local there same = absurd local

scratch_begins : (cycle : ℕ) (place : Option Cell) (width : StoreWidth) (address value : ℕ) (x y : Plain) → y
    ≡ ends cycle (scratch_set place width address value x)
    → (y.status ≡ x.status) × (y.transfer ≡ x.transfer) × (y.free ≡ cycle + 1)
scratch_begins cycle None width address value x y same =
    (ap (λ p. p.status) same, ap (λ p. p.transfer) same, ap (λ p. p.free) same)
scratch_begins cycle (Some (cell.Scratch word)) width address value x y same =
    (ap (λ p. p.status) same, ap (λ p. p.transfer) same, ap (λ p. p.free) same)
scratch_begins cycle (Some (cell.Comm word)) width address value x y same =
    (ap (λ p. p.status) same, ap (λ p. p.transfer) same, ap (λ p. p.free) same)
scratch_begins cycle (Some (cell.Port core register)) width address value x y same =
    (ap (λ p. p.status) same, ap (λ p. p.transfer) same, ap (λ p. p.free) same)
scratch_begins cycle (Some (cell.Private word)) width address value x y same =
    (ap (λ p. p.status) same, ap (λ p. p.transfer) same, ap (λ p. p.free) same)
scratch_begins cycle (Some (cell.Shared word)) width address value x y same =
    (ap (λ p. p.status) same, ap (λ p. p.transfer) same, ap (λ p. p.free) same)

pub store_begins : (space : Mem) (width : StoreWidth) (address value cycle words offset : ℕ) (asked : Effect)
    (b : PlainBundle) (before x y : Plain) → CanBegin cycle before → IsLocal space
    → x ≡ passed words asked (landed offset (with_registers b before)) → y
    ≡ finished_store space width address value cycle x → CanBegin (cycle + 1) y
store_begins mem.S width address value cycle words offset asked b before x y begins local there same =
    by_flow cycle words offset asked b before x y begins there (ap (λ p. p.status) same) (ap (λ p. p.transfer) same)
    (ap (λ p. p.free) same)
store_begins mem.L width address value cycle words offset asked b before x y begins local there same =
    let parts : (y.status ≡ x.status) × (y.transfer ≡ x.transfer) × (y.free ≡ cycle + 1) =
    scratch_begins cycle (cell_of Local address) width address value x y same in
    by_flow cycle words offset asked b before x y begins there parts.0 parts.1 parts.2
store_begins mem.C width address value cycle words offset asked b before x y begins local there same = absurd local
store_begins mem.M width address value cycle words offset asked b before x y begins local there same = absurd local

-- A bundle that a core does by itself is what its own act in the cycle does.
use Rattle.std.proofs.Common.{◌≡◌, ◌≢◌, ℕ, zero, suc, ◌+◌, ◌<◌, ◌==◌, ◌&&◌, nat_lt, nat_le, Bool, true, false, Option, None, Some, refl, sym, ap, ◌∙◌, subst, arith, is_none, if◌then◌else◌}
use Rattle.std.proofs.lemmas.Bool.Decides.{nat_tests}
use Rattle.slot_arbiter.specs.Slot.{is_slot_start}
use Rattle.shared_order.specs.Program.{Prog, and_then}
use Rattle.local_store.specs.declared.map.Space.TheVariants.{Local}
use Rattle.local_store.specs.declared.map.Cell.{Cell}
use Rattle.local_store.specs.declared.map.Cell.TheVariants as cell
use Rattle.patmos_instr.specs.Bundles.{PlainBundle}
use Rattle.patmos_instr.specs.declared.instructions.Op.{Op}
use Rattle.patmos_instr.specs.declared.instructions.Op.TheVariants as op
use Rattle.patmos_instr.specs.declared.memories.Mem.{Mem}
use Rattle.patmos_instr.specs.declared.memories.Mem.TheVariants as mem
use Rattle.patmos_instr.specs.declared.memories.Width.{Width}
use Rattle.patmos_instr.specs.declared.memories.StoreWidth.{StoreWidth}
use Rattle.patmos_sem.specs.declared.effects.Effect.{Effect}
use Rattle.patmos_sem.specs.declared.effects.Effect.TheVariants as effect
use Rattle.patmos_sem.specs.declared.effects.FlowKind.{FlowKind}
use Rattle.patmos_sem.specs.Registers.{Registers, holds}
use Rattle.patmos_sem.specs.Effects.{asked}
use Rattle.patmos_sem.specs.Bundles.{effect_of}
use Rattle.patmos_model.specs.declared.fetched.Fetched.TheVariants.{Found}
use Rattle.patmos_model.specs.declared.flow.Flow.{Flow}
use Rattle.patmos_model.specs.declared.flow.Goal.{Goal}
use Rattle.patmos_model.specs.declared.flow.Goal.TheVariants.{Within, Call, Fill, Return}
use Rattle.patmos_model.specs.declared.trap.Trap.TheVariants as trap
use Rattle.patmos_model.specs.Site.{size_at}
use Rattle.patmos_model.specs.State.{Plain, History, Core, is_end, is_running, is_free, with_plain, stopped}
use Rattle.patmos_model.specs.Flows.{flowed, taken, gone}
use Rattle.patmos_model.specs.Cells.{Acted, cell_of, now, reading, writing, with_value}
use Rattle.patmos_model.specs.Checks.{fault_of, check, load_fault, store_fault}
use Rattle.patmos_model.specs.Bundle.{ends, advanced, answered, done_as, fetched_at, bundle}
use Rattle.patmos_model.specs.Transaction.{transaction, is_due}
use Rattle.patmos_model.specs.Cycle.{own, if_running, bundle_step, slot_step}
use Rattle.patmos_model.proofs.Waits.{none_right}
use Rattle.patmos_alone.specs.declared.run.NextBundle.{NextBundle}
use Rattle.patmos_step.specs.declared.body.Body.{Body}
use Rattle.patmos_step.specs.Code.{is_silent}
use Rattle.patmos_step.specs.Ready.{IsGranted}
use Rattle.patmos_step.specs.Shown.{Shows, core_of, plain_of}
use Rattle.patmos_step.specs.Plan.{passed}
use Rattle.patmos_alone.specs.Alone.{CanBegin, CanLand, no_slot_left, left, landed, with_registers, IsScratch, AsksOwn, IsOwn, CanFlow, SpaceWaits, CanWait, finished_load, finished_store, finished, scratch_at, scratch_set, IsNextBundle, IsPrivateIn, IsAlone, DoesAlone, ComesAlone}
use Rattle.patmos_step.proofs.Moves.{runs}
use Rattle.patmos_step.proofs.Short.{free_unmoved}

-- an operation that is silent asks for nothing
pub silent_asks : (b : PlainBundle) (regs : Registers) → is_silent b.first.op ≡ true → effect.Nothing ≡ effect_of b regs
silent_asks b regs silent = by (holds regs b.first.guard) b.first.op silent
  where
    by : (guard : Bool) (op : Op) → is_silent op ≡ true → effect.Nothing
        ≡ (if guard then asked regs op else effect.Nothing)
    by false op h = refl
    by true (op.Stack func count) h = cc
    by true (op.Load space width rd ra imm) h = cc
    by true (op.Store space width ra rs imm) h = cc
    by true (op.Branch offset) h = cc
    by true (op.Call target) h = cc
    by true (op.BranchFill target) h = cc
    by true op.Return h = cc
    by true _ h = refl

-- an access to the core's own stack or scratchpad asks for nothing of the board
loads_scratch : (place : Option Cell) (rd : ℕ) (width : Width) (address cycle : ℕ) (c : Core) → IsScratch place
    → reading place c.plain (λ word. now (with_plain (λ x. ends cycle (with_value rd width address word x)) c))
    ≡ now (with_plain (λ x. ends cycle (with_value rd width address (scratch_at place x) x)) c)
loads_scratch (Some (cell.Scratch word)) rd width address cycle c own = refl
loads_scratch _ rd width address cycle c own = absurd own

stores_scratch : (place : Option Cell) (width : StoreWidth) (address value cycle : ℕ) (c : Core) → IsScratch place
    → writing place width address value (with_plain (ends cycle) c)
    ≡ now (with_plain (λ x. ends cycle (scratch_set place width address value x)) c)
stores_scratch (Some (cell.Scratch word)) width address value cycle c own = refl
stores_scratch _ width address value cycle c own = absurd own

answered_alone : (asked : Effect) (cycle : ℕ) (c : Core) → AsksOwn asked → answered asked cycle c
    ≡ now (with_plain (finished asked cycle) c)
answered_alone (effect.Load mem.L width rd address) cycle c own =
    loads_scratch (cell_of Local address) rd width address cycle c own
answered_alone (effect.Load mem.C width rd address) cycle c own = absurd own
answered_alone (effect.Store mem.L width address value) cycle c own =
    stores_scratch (cell_of Local address) width address value cycle c own
answered_alone (effect.Store mem.C width address value) cycle c own = absurd own
answered_alone (effect.StackOp func count) cycle c own = absurd own
answered_alone _ cycle c own = refl

-- once a branch that was due has taken effect, no check of the bundle fails
no_flow : (flow : Option Flow) → no_slot_left flow ≡ true → check (is_none (left flow)) trap.Flow None ≡ None
no_flow flow h =
    ap (λ b. check (is_none (elim b as (λ _. Option Flow) [ true ↦ None | false ↦ flow ])) trap.Flow None) h

unchecked : (asked : Effect) (offset : ℕ) (x : Plain) → AsksOwn asked → IsGranted asked x → CanFlow x asked
    → fault_of (landed offset x) asked ≡ None
unfolding fault_of
unchecked effect.Nothing offset x own granted flow = refl
unchecked (effect.Flow kind) offset x own granted flow = no_flow x.flow flow
unchecked (effect.Load space width rd address) offset x own granted flow = granted
unchecked (effect.Store space width address value) offset x own granted flow = granted
unchecked (effect.StackOp func count) offset x own granted flow = absurd own

both_false : (a b : Bool) → a ≡ false → a && b ≡ false
both_false a b h = ap (λ x. x && b) h

-- the task goes on where no flow is due but a branch
open_goal : (goal : Goal) (slots : ℕ) → (slots == 0) ≡ false → elim goal as (λ _. Bool) [
  | Within offset ↦ false
  | Call target ↦ false
  | Fill target ↦ false
  | Return base offset ↦ (base == 0) && (slots == 0)
] ≡ false
open_goal (Within offset) slots some = refl
open_goal (Call target) slots some = refl
open_goal (Fill target) slots some = refl
open_goal (Return base offset) slots some = by (base == 0) (slots == 0) some
  where
    by : (a b : Bool) → b ≡ false → a && b ≡ false
    by true b h = h
    by false b h = refl

branch_open : (f : Flow) (offset : ℕ) → f.goal ≡ Within offset → is_end f ≡ false
branch_open f offset is = ap (λ goal. is_end (record { goal = goal; slots = f.slots })) is

-- where the next bundle stands, by the flow: a branch that is due takes effect
abbrev Stands : Option Flow → ℕ → ℕ → ℕ → Type 0
Stands flow offset own size = elim flow [
  | None ↦ offset ≡ own
  | Some f ↦ elim (f.slots == 0) [ true ↦ (f.goal ≡ Within offset) × (offset < size) | false ↦ offset ≡ own ]
]

goes_on : (flow : Option Flow) (offset own size : ℕ) (moved : Bool) → Stands flow offset own size
    → elim flow as (λ _. Bool) [ None ↦ false | Some f ↦ is_end f && moved ] ≡ false
goes_on None offset own size moved can = refl
goes_on (Some f) offset own size moved can = by (f.slots == 0) refl can
  where
    by : (due : Bool) → (f.slots == 0) ≡ due → elim due as (λ _. Type 0) [
      | true ↦ (f.goal ≡ Within offset)
          × (offset < size)
      | false ↦ offset ≡ own
    ]
        → is_end f && moved ≡ false
    by true is can = both_false (is_end f) moved (branch_open f offset can.0)
    by false is can = both_false (is_end f) moved (open_goal f.goal f.slots is)

left_goes_on : (flow : Option Flow) (moved : Bool) → elim (left flow) as (λ _. Bool) [
  | None ↦ false
  | Some f ↦ is_end f
      && moved
] ≡ false
left_goes_on None moved = refl
left_goes_on (Some f) moved = by (f.slots == 0) refl
  where
    by : (due : Bool) → (f.slots == 0) ≡ due
        → elim (elim due as (λ _. Option Flow) [ true ↦ None | false ↦ Some f ]) as (λ _.
        Bool) [ None ↦ false | Some g ↦ is_end g && moved ] ≡ false
    by true is = refl
    by false is = both_false (is_end f) moved (open_goal f.goal f.slots is)

is_below : (a b : ℕ) → a < b → nat_lt a b ≡ true
is_below a b h = grind (arith, nat_tests)

-- it takes effect where the core is free
lands : (cycle offset : ℕ) (c : Core) → is_free cycle c.plain ≡ true → CanLand offset c.plain → flowed cycle c
    ≡ with_plain (landed offset) c
unfolding flowed
lands cycle offset c free can =
    ap (λ b. elim b as (λ _. Core) [
      | true ↦ elim c.plain.flow [ None ↦ c | Some f ↦ elim (f.slots == 0) [ true ↦ taken cycle f.goal c | false ↦ c ] ]
      | false ↦ c
    ]) free
    ∙ by c.plain.flow refl can
  where
    comes : (flow : Option Flow) → c.plain.flow ≡ flow → offset ≡ c.plain.offset → c
        ≡ with_plain (λ x. record x { offset = offset; flow = flow }) c
    comes flow same here i = with_plain (λ x. record x { offset = sym here i; flow = same i }) c

    by_test : (f : Flow) (due : Bool) → c.plain.flow ≡ Some f
        → elim due as (λ _. Type 0) [
          | true ↦ (f.goal ≡ Within offset)
              × (offset < size_at c.plain.site.image c.plain.base)
          | false ↦ offset ≡ c.plain.offset
        ]
        → elim due as (λ _. Core) [ true ↦ taken cycle f.goal c | false ↦ c ]
        ≡ with_plain (λ x. record x {
          offset = offset;
          flow = elim due as (λ _. Option Flow)
              [ true ↦ None | false ↦ Some f ];
        }) c
    by_test f true same can =
        ap (λ goal. taken cycle goal c) can.0
        ∙ ap (λ b. elim b as (λ _. Core) [
          | true ↦ gone (Within offset) c
          | false ↦ with_plain
              (stopped trap.Flow cycle) c
        ])
        (is_below offset (size_at c.plain.site.image c.plain.base) can.1)
    by_test f false same can = comes (Some f) same can

    by : (flow : Option Flow) → c.plain.flow ≡ flow
        → Stands flow offset c.plain.offset (size_at c.plain.site.image c.plain.base)
        → elim flow as (λ _. Core) [
          | None ↦ c
          | Some f ↦ elim (f.slots == 0)
              [ true ↦ taken cycle f.goal c | false ↦ c ]
        ]
        ≡ with_plain (λ x. record x { offset = offset; flow = left flow }) c
    by None same can = comes None same can
    by (Some f) same can = by_test f (f.slots == 0) same can

-- then the bundle there is done
bundle_alone : (cycle words : ℕ) (b : PlainBundle) (c : Core)
    → fetched_at c.plain.site.image c.plain.base c.plain.offset
    ≡ Found b words
    → fault_of c.plain (effect_of b c.plain.regs) ≡ None → AsksOwn (effect_of b c.plain.regs)
    → bundle cycle c ≡ now (with_plain (λ x. finished (effect_of b c.plain.regs) cycle (advanced words b x)) c)
bundle_alone cycle words b c fetched passed own =
    let asked : Effect = effect_of b c.plain.regs in
    ap (λ found. done_as found cycle c) fetched
    ∙ ap (λ fault. elim fault as (λ _. Prog Acted) [
      | None ↦ answered asked cycle (with_plain (advanced words b) c)
      | Some fault ↦ now (with_plain (stopped fault cycle) c)
    ]) passed
    ∙ answered_alone asked cycle (with_plain (advanced words b) c) own

none_due : (cycle : ℕ) (x : Plain) → x.transfer.words ≡ 0 → is_due cycle x ≡ false
none_due cycle x none =
    both_false (nat_lt 0 x.transfer.words) (nat_le x.free cycle && is_slot_start x.site.table x.site.slot x.site.core
    cycle) (ap (nat_lt 0) none)

slot_waits : (cycle : ℕ) (x : Plain) → is_slot_start x.site.table x.site.slot x.site.core cycle ≡ false
    → is_due cycle x ≡ false
slot_waits cycle x waits = none_right (nat_lt 0 x.transfer.words)
    (nat_le x.free cycle && is_slot_start x.site.table x.site.slot x.site.core cycle)
    (none_right (nat_le x.free cycle) (is_slot_start x.site.table x.site.slot x.site.core cycle) waits)

scratch_due : (place : Option Cell) (width : StoreWidth) (address value cycle : ℕ) (x : Plain) → x.transfer.words ≡ 0
    → is_due cycle (ends cycle (scratch_set place width address value x)) ≡ false
scratch_due (Some (cell.Scratch word)) width address value cycle x none =
    none_due cycle (ends cycle (scratch_set (Some (cell.Scratch word)) width address value x)) none
scratch_due _ width address value cycle x none = none_due cycle (ends cycle x) none

not_due : (asked : Effect) (cycle : ℕ) (x : Plain) → x.transfer.words ≡ 0 → CanWait asked cycle x.site
    → is_due cycle (finished asked cycle x) ≡ false
not_due effect.Nothing cycle x none waits = none_due cycle (ends cycle x) none
not_due (effect.Flow kind) cycle x none waits = none_due cycle (ends cycle x) none
not_due (effect.Load mem.C width rd address) cycle x none waits = none_due cycle x none
not_due (effect.Load mem.M width rd address) cycle x none waits =
    slot_waits cycle (finished (effect.Load mem.M width rd address) cycle x) waits
not_due (effect.Store mem.L width address value) cycle x none waits =
    scratch_due (cell_of Local address) width address value cycle x none
not_due (effect.Store mem.C width address value) cycle x none waits = none_due cycle x none
not_due (effect.Store mem.M width address value) cycle x none waits =
    slot_waits cycle (finished (effect.Store mem.M width address value) cycle x) waits
not_due (effect.StackOp func count) cycle x none waits = none_due cycle x none
not_due other cycle x none waits = none_due cycle (finished other cycle x) none

-- the parts of the core's own act in a cycle
own_as : (cycle : ℕ) (c landed_core last : Core) → is_running c.plain ≡ true → flowed cycle c ≡ landed_core
    → is_running landed_core.plain ≡ true
    → is_free cycle landed_core.plain ≡ true → bundle cycle landed_core ≡ now last → is_due cycle last.plain ≡ false
    → own cycle c ≡ now last
own_as cycle c landed_core last running flows still free does none =
    ap (λ b. elim b as (λ _. Prog Acted) [
      | true ↦ and_then (if_running (bundle_step cycle) (flowed cycle c))
          (slot_step cycle)
      | false ↦ now c
    ]) running
    ∙ ap (λ d. and_then (if_running (bundle_step cycle) d) (slot_step cycle)) flows
    ∙ ap (λ b. and_then (elim b as (λ _. Prog Acted) [ true ↦ bundle_step cycle landed_core | false ↦ now landed_core ])
    (slot_step cycle)) still
    ∙ ap (λ b. and_then (elim b as (λ _. Prog Acted) [ true ↦ bundle cycle landed_core | false ↦ now landed_core ])
    (slot_step cycle)) free
    ∙ ap (λ p. and_then p (slot_step cycle)) does
    ∙ ap (λ b. elim b as (λ _. Prog Acted) [ true ↦ transaction cycle last | false ↦ now last ]) none

own_alone : (cycle words offset : ℕ) (b : PlainBundle) (asked : Effect) (c : Core) → CanBegin cycle c.plain
    → CanLand offset c.plain
    → fetched_at c.plain.site.image c.plain.base offset ≡ Found b words → asked ≡ effect_of b c.plain.regs
    → AsksOwn asked → IsGranted asked c.plain → CanFlow c.plain asked
    → CanWait asked cycle c.plain.site → own cycle c
    ≡ now (with_plain (λ x. finished asked cycle (advanced words b (landed offset x))) c)
own_alone cycle words offset b asked c begins can fetched asks own granted flow waits =
    let there : Core = with_plain (landed offset) c in
    own_as cycle c there (with_plain (λ x. finished asked cycle (advanced words b (landed offset x))) c)
    (runs c.plain begins.status (goes_on c.plain.flow offset c.plain.offset (size_at c.plain.site.image c.plain.base)
    (c.plain.transfer.words == 0) can))
    (lands cycle offset c begins.free can)
    (runs there.plain begins.status (left_goes_on c.plain.flow (c.plain.transfer.words == 0)))
    begins.free
    (bundle_alone cycle words b there fetched
    (ap (fault_of there.plain) (sym asks) ∙ unchecked asked offset c.plain own granted flow) (subst AsksOwn asks own)
    ∙ ap (λ e. now (with_plain (λ x. finished e cycle (advanced words b x)) there)) (sym asks))
    (not_due asked cycle (advanced words b there.plain) (free_unmoved c.plain.transfer.words (c.plain.free == cycle)
    begins.free) waits)

-- a bundle that a core does by itself
pub done_alone : (cycle : ℕ) (b : Body) (y : Plain) (next : NextBundle) (h : History)
    → (private : IsPrivateIn cycle b next)
    → y ≡ finished next.effect cycle (passed next.words next.effect
    (landed next.offset (with_registers private.here.bundle (plain_of b))))
    → y.interface ≡ b.ni.interface → IsAlone cycle (core_of b h) (record { plain = y; seen = h })
done_alone cycle b y next h private same interface = record { act = acts; interface = interface }
  where
    as_advanced : finished next.effect cycle (passed next.words next.effect
        (landed next.offset (with_registers private.here.bundle (plain_of b))))
        ≡ finished next.effect cycle (advanced next.words private.here.bundle (landed next.offset (plain_of b)))
    as_advanced =
        ap (λ e. finished next.effect cycle
        (passed next.words e (landed next.offset (with_registers private.here.bundle (plain_of b)))))
        private.here.asks

    acts : own cycle (core_of b h) ≡ now (record { plain = y; seen = h })
    acts =
        own_alone cycle next.words next.offset private.here.bundle next.effect (core_of b h) private.begins
        private.here.lands private.here.fetched private.here.asks
        private.own private.granted private.flow private.waits
        ∙ ap (λ x. now (record { plain = x; seen = h })) (sym (same ∙ as_advanced))

-- so is the core's next bundle, in the way of what it asks for
pub silent_bundle : (cycle : ℕ) (b : Body) (next : NextBundle) → CanBegin cycle (plain_of b) → IsNextBundle b next
    → next.effect ≡ effect.Nothing
    → IsPrivateIn cycle b (record { offset = next.offset; words = next.words; effect = effect.Nothing })
silent_bundle cycle b next begins n is = record {
  begins = begins;
  here = record {
    lands = n.lands;
    bundle = n.bundle;
    fetched = n.fetched;
    inside = n.inside;
    within = n.within;
    asks = sym is ∙ n.asks;
  };
  own = tt;
  granted = tt;
  flow = tt;
  waits = tt;
}

next_alone : (cycle : ℕ) (b : Body) (y : Plain) (next : NextBundle) (asked : Effect) (h : History)
    → CanBegin cycle (plain_of b) → (n : IsNextBundle b next) → next.effect ≡ asked
    → AsksOwn asked → IsGranted asked (plain_of b) → CanFlow (plain_of b) asked → CanWait asked cycle (plain_of b).site
    → y ≡ finished asked cycle (passed next.words next.effect
    (landed next.offset (with_registers n.bundle (plain_of b))))
    → y.interface ≡ b.ni.interface → IsAlone cycle (core_of b h) (record { plain = y; seen = h })
next_alone cycle b y next asked h begins n is own granted flow waits same interface =
    done_alone cycle b y next h (record {
      begins = begins;
      here = n;
      own = subst AsksOwn (sym is) own;
      granted = subst (λ e. IsGranted e (plain_of b)) (sym is) granted;
      flow = subst (CanFlow (plain_of b)) (sym is) flow;
      waits = subst (λ e. CanWait e cycle (plain_of b).site) (sym is) waits;
    }) (same ∙ ap (λ e. finished e cycle (passed next.words next.effect
    (landed next.offset (with_registers n.bundle (plain_of b))))) (sym is)) interface

pub flow_alone : (cycle : ℕ) (b : Body) (y : Plain) (next : NextBundle) (kind : FlowKind) (h : History)
    → CanBegin cycle (plain_of b) → (n : IsNextBundle b next)
    → next.effect ≡ effect.Flow kind → no_slot_left b.flow ≡ true
    → y ≡ ends cycle (passed next.words next.effect (landed next.offset (with_registers n.bundle (plain_of b))))
    → y.interface ≡ b.ni.interface → IsAlone cycle (core_of b h) (record { plain = y; seen = h })
flow_alone cycle b y next kind h begins n is none same interface =
    next_alone cycle b y next (effect.Flow kind) h begins n is tt tt none tt same interface

pub load_alone : (cycle : ℕ) (b : Body) (y : Plain) (next : NextBundle) (space : Mem) (width : Width) (rd address : ℕ)
    (h : History) → CanBegin cycle (plain_of b) → (n : IsNextBundle b next)
    → next.effect ≡ effect.Load space width rd address → IsOwn space address
    → load_fault (plain_of b) space width address ≡ None → SpaceWaits space cycle (plain_of b).site
    → y ≡ finished_load space width rd address cycle (passed next.words next.effect
    (landed next.offset (with_registers n.bundle (plain_of b))))
    → y.interface ≡ b.ni.interface → IsAlone cycle (core_of b h) (record { plain = y; seen = h })
load_alone cycle b y next space width rd address h begins n is own granted waits same interface =
    next_alone cycle b y next (effect.Load space width rd address) h begins n is own granted tt waits same interface

pub store_alone : (cycle : ℕ) (b : Body) (y : Plain) (next : NextBundle) (space : Mem) (width : StoreWidth)
    (address value : ℕ) (h : History) → CanBegin cycle (plain_of b) → (n : IsNextBundle b next)
    → next.effect ≡ effect.Store space width address value → IsOwn space address
    → store_fault (plain_of b) space width address value ≡ None → SpaceWaits space cycle (plain_of b).site
    → y ≡ finished_store space width address value cycle (passed next.words next.effect
    (landed next.offset (with_registers n.bundle (plain_of b))))
    → y.interface ≡ b.ni.interface → IsAlone cycle (core_of b h) (record { plain = y; seen = h })
store_alone cycle b y next space width address value h begins n is own granted waits same interface =
    next_alone cycle b y next (effect.Store space width address value) h begins n is own granted tt waits same interface

-- what a bundle asks for is still granted once the bundle's registers are written
pub granted_after : (asked : Effect) (words offset : ℕ) (b : PlainBundle) (x y : Plain) → IsGranted asked x → y
    ≡ passed words asked (landed offset (with_registers b x)) → IsGranted asked y
granted_after asked words offset b x y granted same = subst (IsGranted asked) (sym same) (by asked granted)
  where
    by : (asked : Effect) → IsGranted asked x
        → IsGranted asked (passed words asked (landed offset (with_registers b x)))
    by effect.Nothing h = h
    by _ h = h

-- a flow's slots leave a place to land
pub lands_here : (offset : ℕ) (x : Plain) → x.flow ≡ None → x.offset ≡ offset → CanLand offset x
lands_here offset x none here =
    subst (λ flow. Stands flow offset x.offset (size_at x.site.image x.base)) (sym none) (sym here)

pub lands_later : (offset : ℕ) (x : Plain) (f : Flow) → x.flow ≡ Some f → f.slots ≢ 0 → x.offset ≡ offset
    → CanLand offset x
lands_later offset x f some later here =
    subst (λ flow. Stands flow offset x.offset (size_at x.site.image x.base)) (sym some)
    (subst (λ b. elim b as (λ _. Type 0) [
      | true ↦ (f.goal ≡ Within offset)
          × (offset < size_at x.site.image x.base)
      | false ↦ offset ≡ x.offset
    ])
    (sym (is_more f.slots later)) (sym here))
  where
    is_more : (slots : ℕ) → slots ≢ 0 → (slots == 0) ≡ false
    is_more slots h = grind (arith, nat_tests)

pub lands_within : (offset : ℕ) (x : Plain) (f : Flow) → x.flow ≡ Some f → f.slots ≡ 0 → f.goal ≡ Within offset
    → offset < size_at x.site.image x.base → CanLand offset x
lands_within offset x f some due goal inside =
    subst (λ flow. Stands flow offset x.offset (size_at x.site.image x.base)) (sym some)
    (subst (λ n. elim (n == 0) as (λ _. Type 0) [
      | true ↦ (f.goal ≡ Within offset)
          × (offset < size_at x.site.image x.base)
      | false ↦ offset ≡ x.offset
    ])
    (sym due) (goal, inside))

-- from cycle to cycle
pub begins_alone : (from : ℕ) (b : Body) (h : History) → Shows b h → ComesAlone from from (core_of b h) b
begins_alone from b h shows = record { seen = h; shows = shows; alone = by }
  where
    by : (count : ℕ) → from + count ≡ from → DoesAlone from count (core_of b h) (core_of b h)
    by zero at = refl
    by (suc count) at = absurd (omega (arith, at))

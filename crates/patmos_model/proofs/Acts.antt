-- A core's own act, walked once: what each kind of step keeps of a core, the whole act keeps.
use Rattle.std.proofs.Common.{◌≡◌, ℕ, zero, suc, ◌+◌, ◌-◌, ◌/◌, ◌<◌, ◌==◌, Bool, true, false, List, [], ◌∷◌, ◌++◌, length, Option, None, Some, IfSome, slice_index, unwrap_or, refl, subst, arith}
use Rattle.std.specs.List.{AllByRecursion as Each}
use Rattle.shared_order.specs.Words.{put}
use Rattle.shared_order.specs.Program.{Prog, done, get, set, and_then}
use Rattle.slot_arbiter.specs.declared.event.Access.{Access}
use Rattle.data_cache.specs.Accesses as cache
use Rattle.local_store.specs.declared.map.Space.TheVariants.{Local, Main}
use Rattle.local_store.specs.declared.map.Cell.{Cell}
use Rattle.local_store.specs.declared.map.Cell.TheVariants as cell
use Rattle.local_store.specs.Map.{IsInRange}
use Rattle.stack_cache.specs.Stack.{Stack, reserved, spilled, missing, freed}
use Rattle.argo_ni.specs.Interface.{port_to}
use Rattle.argo_ni.specs.Packet.{comm_word}
use Rattle.argo_ni.specs.Start.{with_source, with_target, started}
use Rattle.patmos_instr.specs.Bundles.{PlainBundle}
use Rattle.patmos_instr.specs.declared.functions.StackFunc.{StackFunc}
use Rattle.patmos_instr.specs.declared.functions.StackFunc.TheVariants.{Sres, Sens, Sfree}
use Rattle.patmos_instr.specs.declared.memories.Mem.{Mem}
use Rattle.patmos_instr.specs.declared.memories.Mem.TheVariants as mem
use Rattle.patmos_instr.specs.declared.memories.Width.{Width}
use Rattle.patmos_instr.specs.declared.memories.StoreWidth.{StoreWidth}
use Rattle.patmos_instr.specs.declared.memories.StoreWidth.TheVariants as store
use Rattle.patmos_sem.specs.declared.effects.Effect.{Effect}
use Rattle.patmos_sem.specs.declared.effects.Effect.TheVariants as effect
use Rattle.patmos_sem.specs.Bundles.{effect_of}
use Rattle.patmos_sem.specs.Narrow.{merged}
use Rattle.patmos_model.specs.declared.fetched.Fetched.{Fetched}
use Rattle.patmos_model.specs.declared.fetched.Fetched.TheVariants.{Outside, NoBundle, Found}
use Rattle.patmos_model.specs.declared.flow.Flow.{Flow}
use Rattle.patmos_model.specs.declared.flow.Goal.{Goal}
use Rattle.patmos_model.specs.declared.pending_store.PendingStore.{PendingStore}
use Rattle.patmos_model.specs.declared.transfer.Transfer.{Transfer}
use Rattle.patmos_model.specs.declared.transfer.Then.{Then}
use Rattle.patmos_model.specs.declared.transfer.Then.TheVariants as then_on
use Rattle.patmos_model.specs.declared.trap.Trap.{Trap}
use Rattle.patmos_model.specs.declared.trap.Trap.TheVariants as trap
use Rattle.patmos_model.specs.declared.state.Status.{Status}
use Rattle.patmos_model.specs.Site.{Site}
use Rattle.patmos_model.specs.State.{Plain, Core, with_plain, stopped, is_running, is_free}
use Rattle.patmos_model.specs.Transfers.{reads, writes}
use Rattle.patmos_model.specs.Flows.{flowed, taken, gone, is_placed}
use Rattle.patmos_model.specs.Cells.{Acted, now, cell_of, reading, reading_line, no_line, storing, port_set, writing, with_value}
use Rattle.patmos_model.specs.Checks.{fault_of, has_room}
use Rattle.patmos_model.specs.Bundle.{ends, moves, advanced, with_words, refilled, stacked, stack_set, cache_loaded, answered, fetched_at, done_as, bundle}
use Rattle.patmos_model.specs.Transaction.{burst, moved, counted, line_taken, with_store, line_address, transaction_then, transaction, is_due}
use Rattle.patmos_model.specs.Cycle.{if_running, bundle_step, slot_step, own, settled}
use Rattle.patmos_model.proofs.CellRanges.{cell_in_range, LineFits, line_fits}
use Rattle.patmos_model.proofs.Leaves.{Leaves}

-- ---- programs

-- each load and store of the program names a word that may be named, loads give values of a kind, stores store them,
-- and what the program leaves is good
abbrev pub Keeps : {X : Type 0} → (ℕ → Type 0) → (ℕ → Type 0) → (X → Type 0) → Prog X → Type 0
Keeps May Kind Good (done x) = Good x
Keeps May Kind Good (get word go_on) = May word × ((value : ℕ) → Kind value → Keeps May Kind Good (go_on value))
Keeps May Kind Good (set word value rest) = May word × Kind value × Keeps May Kind Good rest

pub keeps_then : {X Y : Type 0} (May Kind : ℕ → Type 0) (P : X → Type 0) (Q : Y → Type 0) (next : X → Prog Y)
    → ((x : X) → P x → Keeps May Kind Q (next x)) → (p : Prog X) → Keeps May Kind P p
    → Keeps May Kind Q (and_then p next)
keeps_then May Kind P Q next on (done x) h = on x h
keeps_then May Kind P Q next on (get word go_on) h =
    (h.0, λ value kind. keeps_then May Kind P Q next on (go_on value) (h.1 value kind))
keeps_then May Kind P Q next on (set word value rest) h = (h.0, h.1, keeps_then May Kind P Q next on rest h.2)

-- all words, or all values
abbrev pub Any : ℕ → Type 0
Any n = Unit {0}

-- where all may be named and given, it is what the program leaves
pub leaves_kept : {X : Type 0} (P Q : X → Type 0) → ((x : X) → P x → Q x) → (p : Prog X)
    → Keeps Any Any P p → Leaves Q p
leaves_kept P Q so (done x) h = so x h
leaves_kept P Q so (get word go_on) h = λ value. leaves_kept P Q so (go_on value) (h.1 value tt)
leaves_kept P Q so (set word value rest) h = leaves_kept P Q so rest h.2

-- ---- what an act needs of a core

-- what a transfer still stores is of the kind, and so is what an access brings into the data cache
abbrev pub ThenOf : (ℕ → Type 0) → Then → Type 0
ThenOf Kind (then_on.Store cached width address value) = Kind value
ThenOf Kind _ = Unit {0}

abbrev pub AccessOf : (ℕ → Type 0) → cache.Access → Type 0
AccessOf Kind (cache.Load address None) = Unit {0}
AccessOf Kind (cache.Load address (Some words)) = Each Kind words
AccessOf Kind (cache.Store address value) = Kind value

-- what the core reads is of the kind, and the words of the board that it names may be named
pub record Gives (May Kind : ℕ → Type 0) (P : Core → Type 0) : Type 0 where
  pub none : Kind 0
  pub merges : (width : StoreWidth) (address old value : ℕ) → Kind old → Kind value
      → Kind (merged width address old value)
  pub scratch : (c : Core) (word : ℕ) → P c → Kind (c.plain.scratch word)
  pub private : (c : Core) (word : ℕ) → P c → Kind (c.plain.private word)
  pub stack : (c : Core) (place : ℕ) → P c → Kind (slice_index c.plain.stack.words place)
  pub left : (c : Core) (target : ℕ) → P c → Kind (port_to c.plain.interface target).channel.left
  pub cached : (c : Core) (address word : ℕ) → P c → cache.cached_word c.seen.cached address ≡ Some word → Kind word
  pub awaited : (c : Core) → P c → ThenOf Kind c.plain.transfer.then
  pub asked : (c : Core) (b : PlainBundle) → P c → (space : Mem) (width : StoreWidth) (address value : ℕ)
      → effect_of b c.plain.regs ≡ effect.Store space width address value → Kind value
  pub comm : (c : Core) (word : ℕ) → P c → word < 512 → May (comm_word c.plain.site.core word)
  pub shared : (c : Core) (word : ℕ) → P c → word < 4096 → May word

-- nothing is asked of values
pub gives_any : (May : ℕ → Type 0) (P : Core → Type 0) → ((c : Core) (word : ℕ) → P c → word < 512
    → May (comm_word c.plain.site.core word)) → ((c : Core) (word : ℕ) → P c → word < 4096 → May word)
    → Gives May Any P
gives_any May P comm shared = record {
  none = tt;
  merges = λ width address old value a b. tt;
  scratch = λ c word h. tt;
  private = λ c word h. tt;
  stack = λ c place h. tt;
  left = λ c target h. tt;
  cached = λ c address word h found. tt;
  awaited = λ c h. by c.plain.transfer.then;
  asked = λ c b h space width address value is. tt;
  comm = comm;
  shared = shared;
}
  where
    by : (moved_on : Then) → ThenOf Any moved_on
    by (then_on.Store cached width address value) = tt
    by _ = tt

-- the stack, and private memory, after a stack instruction
abbrev pub stack_after : StackFunc → ℕ → Plain → Stack
stack_after Sres count x = reserved count x.stack
stack_after Sens count x = refilled count x.private x.stack
stack_after Sfree count x = freed count x.stack

abbrev pub private_after : StackFunc → ℕ → Plain → ℕ → ℕ
private_after Sres count x = with_words (reserved count x.stack).ss (spilled count x.stack) x.private
private_after _ count x = x.private

abbrev pub stack_done : StackFunc → ℕ → Plain → Plain
stack_done func count x = record x { stack = stack_after func count x; private = private_after func count x }

-- a transfer over the network is asked for
abbrev pub with_start : ℕ → ℕ → Core → Core
with_start target count c = record {
  plain = record c.plain { interface = started target count c.plain.interface };
  seen = record c.seen {
    sendings = c.seen.sendings ++ record {
      target = target;
      from = (port_to c.plain.interface target).source;
      to = (port_to c.plain.interface target).target;
      count = count;
    } ∷ [];
  };
}

-- each kind of step keeps it
pub record Steps (Kind : ℕ → Type 0) (P : Core → Type 0) : Type 0 where
  pub waits : (c : Core) (t : Transfer) (free : ℕ) → P c → ThenOf Kind t.then
      → P (with_plain (λ x. record x { transfer = t; free = free }) c)
  pub value : (c : Core) (rd : ℕ) (width : Width) (address word : ℕ) → P c → Kind word
      → P (with_plain (with_value rd width address word) c)
  pub advances : (c : Core) (b : PlainBundle) (words : ℕ) → P c
      → fetched_at c.plain.site.image c.plain.base c.plain.offset
      ≡ Found b words → P (with_plain (advanced words b) c)
  pub stacks : (c : Core) (func : StackFunc) (count : ℕ) → P c → has_room func count c.plain.stack ≡ true
      → P (with_plain (stack_done func count) c)
  pub sets : (c : Core) (width : StoreWidth) (address value : ℕ) → P c → Kind value
      → P (with_plain (λ x. record x { stack = stack_set width address value x.stack }) c)
  pub scratch : (c : Core) (word value : ℕ) → P c → Kind value
      → P (with_plain (λ x. record x { scratch = put word value x.scratch }) c)
  pub private : (c : Core) (word value : ℕ) → P c → Kind value
      → P (with_plain (λ x. record x { private = put word value x.private }) c)
  pub source : (c : Core) (target value : ℕ) → P c
      → P (with_plain (λ x. record x { interface = with_source target value x.interface }) c)
  pub target : (c : Core) (target value : ℕ) → P c
      → P (with_plain (λ x. record x { interface = with_target target value x.interface }) c)
  pub starts : (c : Core) (target count : ℕ) → P c → P (with_start target count c)
  pub caches : (c : Core) (access : cache.Access) → P c → AccessOf Kind access
      → P (record c { seen = record c.seen { cached = c.seen.cached ++ access ∷ [] } })
  pub counts : (c : Core) (access : Access) → P c
      → P (record c { seen = record c.seen { accesses = c.seen.accesses ++ access ∷ [] } })

-- a trap keeps it, and a flow that takes effect
pub record Turns (P : Core → Type 0) : Type 0 where
  pub stops : (c : Core) (fault : Trap) (cycle : ℕ) → P c → P (with_plain (stopped fault cycle) c)
  pub goes : (c : Core) (goal : Goal) → P c → is_placed goal c.plain ≡ true → P (gone goal c)

-- ---- a register of the interface is stored in

-- by whether it is the source word, or the target word
abbrev pub port_by : Bool → Bool → ℕ → ℕ → Core → Core
port_by b d target value c = elim b [
  | true ↦ with_plain (λ x. record x { interface = with_source target value x.interface }) c
  | false ↦ elim d [
    | true ↦ with_plain (λ x. record x { interface = with_target target value x.interface }) c
    | false ↦ with_start target value c
  ]
]

pub port_cases : (Q : Bool → Bool → Core → Type 0) (target register value : ℕ) (c : Core)
    → ((d : Bool) → Q true d (port_by true d target value c)) → Q false true (port_by false true target value c)
    → Q false false (with_start target value c) → Q (register == 0) (register == 4) (port_set target register value c)
port_cases Q target register value c source to start = by (register == 0) (register == 4)
  where
    by : (b d : Bool) → Q b d (port_by b d target value c)
    by true d = source d
    by false true = to
    by false false = start

-- ---- a flow that is due

pub flow_kept : (P : Core → Type 0) → Turns P → (cycle : ℕ) (c : Core) → P c → P (flowed cycle c)
unfolding flowed
flow_kept P t cycle c h = by_free (is_free cycle c.plain)
  where
    by_place : (goal : Goal) (b : Bool) → is_placed goal c.plain ≡ b
        → P (elim b as (λ _. Core) [ true ↦ gone goal c | false ↦ with_plain (stopped trap.Flow cycle) c ])
    by_place goal true placed = t.goes c goal h placed
    by_place goal false none = t.stops c trap.Flow cycle h

    by_slots : (f : Flow) (b : Bool) → P (elim b as (λ _. Core) [ true ↦ taken cycle f.goal c | false ↦ c ])
    by_slots f true = by_place f.goal (is_placed f.goal c.plain) refl
    by_slots f false = h

    by_flow : (flow : Option Flow)
        → P (elim flow as (λ _. Core) [
          | None ↦ c
          | Some f ↦ elim (f.slots == 0) as (λ _. Core)
              [ true ↦ taken cycle f.goal c | false ↦ c ]
        ])
    by_flow None = h
    by_flow (Some f) = by_slots f (f.slots == 0)

    by_free : (b : Bool) → P (elim b as (λ _. Core) [
      | true ↦ elim c.plain.flow as (λ _. Core) [
        | None ↦ c
        | Some f ↦ elim (f.slots == 0) as (λ _. Core)
            [ true ↦ taken cycle f.goal c | false ↦ c ]
      ]
      | false ↦ c
    ])
    by_free true = by_flow c.plain.flow
    by_free false = h

-- ---- the walk

-- a check that does not fail holds
room_of : (func : StackFunc) (count : ℕ) (x : Plain) → fault_of x (effect.StackOp func count) ≡ None
    → has_room func count x.stack ≡ true
unfolding fault_of
room_of func count x is = by (has_room func count x.stack) is
  where
    by : (b : Bool) → elim b as (λ _. Option Trap) [ true ↦ None | false ↦ Some trap.Stack ] ≡ None → b ≡ true
    by true is = refl
    by false is = cc

module _ (May Kind : ℕ → Type 0) (P : Core → Type 0) (g : Gives May Kind P) (s : Steps Kind P) where
  -- the core, and what it still has to store
  abbrev pub Left : Acted → Type 0
  Left y = P y.core × IfSome y.pending_store (λ o. May o.word × Kind o.value)

  abbrev pub Acts : Prog Acted → Type 0
  Acts p = Keeps May Kind Left p

  -- ---- cells

  acts_reading : (place : Option Cell) (c : Core) (go_on : ℕ → Prog Acted) → P c → IfSome place IsInRange
      → ((word : ℕ) → Kind word → Acts (go_on word)) → Acts (reading place c.plain go_on)
  acts_reading None c go_on h here next = next 0 g.none
  acts_reading (Some (cell.Scratch word)) c go_on h here next = next (c.plain.scratch word) (g.scratch c word h)
  acts_reading (Some (cell.Private word)) c go_on h here next = next (c.plain.private word) (g.private c word h)
  acts_reading (Some (cell.Comm word)) c go_on h here next = (g.comm c word h here, next)
  acts_reading (Some (cell.Shared word)) c go_on h here next = (g.shared c word h here, next)
  acts_reading (Some (cell.Port target register)) c go_on h here next =
      next (port_to c.plain.interface target).channel.left (g.left c target h)

  acts_line : (place : Option Cell) (c : Core) (go_on : List ℕ → Prog Acted) → P c → IfSome place LineFits
      → ((line : List ℕ) → Each Kind line → Acts (go_on line)) → Acts (reading_line place c.plain go_on)
  acts_line (Some (cell.Private word)) c go_on h here next =
      next (c.plain.private word ∷ c.plain.private (word + 1) ∷ c.plain.private (word + 2) ∷ c.plain.private (word + 3)
      ∷ [])
      (g.private c word h, (g.private c (word + 1) h, (g.private c (word + 2) h, (g.private c (word + 3) h, tt))))
  acts_line (Some (cell.Shared word)) c go_on h here next = (
    g.shared c word h (omega (arith, here)),
    λ a ka. (
      g.shared c (word + 1) h (omega (arith, here)),
      λ b kb. (
        g.shared c (word + 1 + 1) h (omega (arith, here)),
        λ d kd. (
          g.shared c (word + 1 + 1 + 1) h (omega (arith, here)),
          λ e ke. next (a ∷ b ∷ d ∷ e ∷ [])
              (ka, (kb, (kd, (ke, tt)))),
        ),
      ),
    ),
  )
  acts_line _ c go_on h here next = next no_line (g.none, (g.none, (g.none, (g.none, tt))))

  acts_storing : (word : ℕ) (width : StoreWidth) (address value : ℕ) (c : Core) → P c → May word → Kind value
      → Acts (storing word width address value c)
  acts_storing word store.Word address value c h may kind = (may, kind, (h, tt))
  acts_storing word store.Half address value c h may kind =
      (may, λ old k. (h, (may, g.merges store.Half address old value k kind)))
  acts_storing word store.Byte address value c h may kind =
      (may, λ old k. (h, (may, g.merges store.Byte address old value k kind)))

  acts_writing : (place : Option Cell) (width : StoreWidth) (address value : ℕ) (c : Core) → P c
      → IfSome place IsInRange → Kind value → Acts (writing place width address value c)
  acts_writing None width address value c h here kind = (h, tt)
  acts_writing (Some (cell.Scratch word)) width address value c h here kind = (
    s.scratch c word (merged width address (c.plain.scratch word) value) h
        (g.merges width address (c.plain.scratch word) value (g.scratch c word h) kind),
    tt,
  )
  acts_writing (Some (cell.Private word)) width address value c h here kind = (
    s.private c word (merged width address (c.plain.private word) value) h
        (g.merges width address (c.plain.private word) value (g.private c word h) kind),
    tt,
  )
  acts_writing (Some (cell.Comm word)) width address value c h here kind =
      acts_storing (comm_word c.plain.site.core word) width address value c h (g.comm c word h here) kind
  acts_writing (Some (cell.Shared word)) width address value c h here kind =
      acts_storing word width address value c h (g.shared c word h here) kind
  acts_writing (Some (cell.Port target register)) width address value c h here kind = (
    port_cases (λ b d. P) target register value c (λ d. s.source c target value h) (s.target c target value h)
        (s.starts c target value h),
    tt,
  )

  -- ---- a bundle

  ends_kept : (cycle : ℕ) (c : Core) → P c → P (with_plain (ends cycle) c)
  ends_kept cycle c h = s.waits c c.plain.transfer (cycle + 1) h (g.awaited c h)

  moves_kept : (t : Transfer) (cycle : ℕ) (c : Core) → P c → ThenOf Kind t.then → P (with_plain (moves t cycle) c)
  moves_kept t cycle c h of = by (t.words == 0)
    where
      by : (b : Bool)
          → P (with_plain (λ x. elim b as (λ _. Plain) [ true ↦ ends cycle x | false ↦ record x { transfer = t } ]) c)
      by true = ends_kept cycle c h
      by false = s.waits c t c.plain.free h of

  stacked_kept : (func : StackFunc) (count cycle : ℕ) (c : Core) → P c → has_room func count c.plain.stack ≡ true
      → P (with_plain (stacked func count cycle) c)
  stacked_kept Sres count cycle c h room = moves_kept (writes (length (spilled count c.plain.stack)) then_on.Nothing)
      cycle (with_plain (stack_done Sres count) c) (s.stacks c Sres count h room) tt
  stacked_kept Sens count cycle c h room = moves_kept (reads (missing count c.plain.stack) then_on.Nothing) cycle
      (with_plain (stack_done Sens count) c) (s.stacks c Sens count h room) tt
  stacked_kept Sfree count cycle c h room =
      ends_kept cycle (with_plain (stack_done Sfree count) c) (s.stacks c Sfree count h room)

  cached_kept : (rd : ℕ) (width : Width) (address cycle : ℕ) (c : Core) → P c
      → P (cache_loaded rd width address cycle c)
  cached_kept rd width address cycle c h = by (cache.cached_word c.seen.cached address) refl
    where
      by : (found : Option ℕ) → cache.cached_word c.seen.cached address ≡ found → P (elim found as (λ _. Core) [
        | None ↦ with_plain (moves (reads 4 (then_on.Line rd width address)) cycle) c
        | Some word ↦ record {
          plain = ends cycle (with_value rd width address word c.plain);
          seen = record c.seen { cached = c.seen.cached ++ cache.Load address None ∷ [] };
        }
      ])
      by None missed = moves_kept (reads 4 (then_on.Line rd width address)) cycle c h tt
      by (Some word) hit =
          let d : Core = with_plain (with_value rd width address word) c in
          ends_kept cycle (record d { seen = record d.seen { cached = d.seen.cached ++ cache.Load address None ∷ [] } })
          (s.caches d (cache.Load address None) (s.value c rd width address word h (g.cached c address word h hit)) tt)

  -- what it asked for, where a stack instruction has room and a store stores what may be stored
  pub acts_answered : (asked : Effect) (cycle : ℕ) (c : Core) → P c → ((func : StackFunc) (count : ℕ) → asked
      ≡ effect.StackOp func count → has_room func count c.plain.stack ≡ true)
      → ((space : Mem) (width : StoreWidth) (address value : ℕ) → asked ≡ effect.Store space width address value
      → Kind value) → Acts (answered asked cycle c)
  acts_answered (effect.Load mem.S width rd address) cycle c h room kind =
      let word : ℕ = slice_index c.plain.stack.words (address / 4) in (
        ends_kept cycle (with_plain (with_value rd width address word) c) (s.value c rd width address word h
            (g.stack c (address / 4) h)),
        tt,
      )
  acts_answered (effect.Load mem.L width rd address) cycle c h room kind =
      acts_reading (cell_of Local address) c
      (λ word. now (with_plain (λ x. ends cycle (with_value rd width address word x)) c)) h
      (cell_in_range Local address)
      (λ word k. (
        ends_kept cycle (with_plain (with_value rd width address word) c)
            (s.value c rd width address word h k),
        tt,
      ))
  acts_answered (effect.Load mem.C width rd address) cycle c h room kind = (cached_kept rd width address cycle c h, tt)
  acts_answered (effect.Load mem.M width rd address) cycle c h room kind =
      (moves_kept (reads 1 (then_on.Load rd width address)) cycle c h tt, tt)
  acts_answered (effect.Store mem.S width address value) cycle c h room kind = (
    ends_kept cycle (with_plain (λ x. record x { stack = stack_set width address value x.stack }) c)
        (s.sets c width address value h (kind mem.S width address value refl)),
    tt,
  )
  acts_answered (effect.Store mem.L width address value) cycle c h room kind =
      acts_writing (cell_of Local address) width address value (with_plain (ends cycle) c) (ends_kept cycle c h)
      (cell_in_range Local address) (kind mem.L width address value refl)
  acts_answered (effect.Store mem.C width address value) cycle c h room kind = (
    moves_kept (writes 1 (then_on.Store true width address value)) cycle c h (kind mem.C width address value refl),
    tt,
  )
  acts_answered (effect.Store mem.M width address value) cycle c h room kind = (
    moves_kept (writes 1 (then_on.Store false width address value)) cycle c h (kind mem.M width address value refl),
    tt,
  )
  acts_answered (effect.StackOp func count) cycle c h room kind =
      (stacked_kept func count cycle c h (room func count refl), tt)
  acts_answered _ cycle c h room kind = (ends_kept cycle c h, tt)

  -- a bundle whose checks pass
  pub acts_found : (b : PlainBundle) (words cycle : ℕ) (c : Core) → P c → P (with_plain (advanced words b) c)
      → fault_of c.plain (effect_of b c.plain.regs) ≡ None
      → Acts (answered (effect_of b c.plain.regs) cycle (with_plain (advanced words b) c))
  acts_found b words cycle c h advances none =
      acts_answered (effect_of b c.plain.regs) cycle (with_plain (advanced words b) c) advances
      (λ func count is. room_of func count c.plain (subst (λ e. fault_of c.plain e ≡ None) is none)) (g.asked c b h)

  -- ---- a transaction

  counted_kept : (cycle : ℕ) (c : Core) → P c → P (counted cycle c)
  counted_kept cycle c h =
      s.counts (with_plain (moved cycle) c) (record {
        cycle = cycle;
        write = c.plain.transfer.write;
        words = burst c.plain.transfer;
      })
      (s.waits c (record c.plain.transfer { words = c.plain.transfer.words - 4; then = then_on.Nothing })
      (cycle + c.plain.site.slot) h tt)

  stored_kept : (by_cache : Bool) (width : StoreWidth) (address value cycle : ℕ) (c : Core) → P c → Kind value
      → P (record {
        plain = moved cycle c.plain;
        seen = with_store by_cache width address value
            (counted cycle c).seen;
      })
  stored_kept false width address value cycle c h kind = counted_kept cycle c h
  stored_kept true width address value cycle c h kind =
      let old : ℕ = unwrap_or (cache.cached_word c.seen.cached address) 0 in
      s.caches (counted cycle c) (cache.Store address (merged width address old value)) (counted_kept cycle c h)
      (g.merges width address old value (by (cache.cached_word c.seen.cached address) refl) kind)
    where
      by : (found : Option ℕ) → cache.cached_word c.seen.cached address ≡ found → Kind (unwrap_or found 0)
      by None missed = g.none
      by (Some word) hit = g.cached c address word h hit

  -- a word of a line, or 0 past its end
  line_word : (line : List ℕ) (place : ℕ) → Each Kind line → Kind (slice_index line place)
  line_word [] place of = g.none
  line_word (word ∷ line) zero of = of.0
  line_word (word ∷ line) (suc place) of = line_word line place of.1

  pub acts_transaction : (cycle : ℕ) (c : Core) → P c → Acts (transaction cycle c)
  unfolding transaction
  acts_transaction cycle c h = by c.plain.transfer.then (g.awaited c h)
    where
      d : Core
      d = counted cycle c

      k : P d
      k = counted_kept cycle c h

      by : (moved_on : Then) → ThenOf Kind moved_on → Acts (transaction_then moved_on cycle c)
      by then_on.Nothing of = (k, tt)
      by (then_on.Load rd width address) of =
          acts_reading (cell_of Main address) c (λ word. now (with_plain (with_value rd width address word) d)) h
          (cell_in_range Main address)
          (λ word kind. (s.value d rd width address word k kind, tt))
      by (then_on.Line rd width address) of =
          acts_line (cell_of Main (line_address address)) c (λ line. now (line_taken rd width address line d)) h
          (line_fits address)
          (λ line kinds. (
            s.value (record d {
              seen = record d.seen {
                cached = d.seen.cached ++ cache.Load address (Some line)
                    ∷ [];
              };
            }) rd width address (slice_index line (cache.place_of address))
                (s.caches d (cache.Load address (Some line)) k kinds) (line_word line (cache.place_of address) kinds),
            tt,
          ))
      by (then_on.Store by_cache width address value) of =
          acts_writing (cell_of Main address) width address value
          (record { plain = moved cycle c.plain; seen = with_store by_cache width address value d.seen })
          (stored_kept by_cache width address value cycle c h of) (cell_in_range Main address) of

  pub acts_slot : (cycle : ℕ) (y : Acted) → Left y → Acts (slot_step cycle y)
  acts_slot cycle y h = by (is_due cycle y.core.plain)
    where
      by : (b : Bool) → Acts (elim b as (λ _. Prog Acted) [ true ↦ transaction cycle y.core | false ↦ done y ])
      by true = acts_transaction cycle y.core h.0
      by false = h

  -- ---- the whole act

  pub acts_settled : (y : Acted) → Left y → Keeps May Kind P (settled y)
  acts_settled y h = by y.pending_store h.1
    where
      by : (pending_store : Option PendingStore) → IfSome pending_store (λ o. May o.word × Kind o.value)
          → Keeps May Kind P (settled (record { core = y.core; pending_store = pending_store }))
      by None of = h.0
      by (Some o) of = (of.0, of.1, h.0)

  module _ (t : Turns P) where
    acts_done : (fetched : Fetched) (cycle : ℕ) (c : Core) → P c
        → fetched_at c.plain.site.image c.plain.base c.plain.offset ≡ fetched → Acts (done_as fetched cycle c)
    acts_done Outside cycle c h found = (t.stops c trap.Flow cycle h, tt)
    acts_done NoBundle cycle c h found = (t.stops c trap.Decode cycle h, tt)
    acts_done (Found b words) cycle c h found = by (fault_of c.plain (effect_of b c.plain.regs)) refl
      where
        by : (fault : Option Trap) → fault_of c.plain (effect_of b c.plain.regs) ≡ fault
            → Acts (elim fault as (λ _. Prog Acted) [
              | None ↦ answered (effect_of b c.plain.regs) cycle (with_plain (advanced words b) c)
              | Some f ↦ now (with_plain (stopped f cycle) c)
            ])
        by None none = acts_found b words cycle c h (s.advances c b words h found) none
        by (Some f) fails = (t.stops c f cycle h, tt)

    pub acts_bundle : (cycle : ℕ) (c : Core) → P c → Acts (bundle cycle c)
    acts_bundle cycle c h = acts_done (fetched_at c.plain.site.image c.plain.base c.plain.offset) cycle c h refl

    acts_step : (cycle : ℕ) (c : Core) → P c → Acts (if_running (bundle_step cycle) c)
    acts_step cycle c h = by (is_running c.plain) (is_free cycle c.plain)
      where
        by : (b d : Bool)
            → Acts (elim b as (λ _. Prog Acted) [
              | true ↦ elim d as (λ _. Prog Acted) [
                | true ↦ bundle cycle c
                | false ↦
                    now c
              ]
              | false ↦ now c
            ])
        by true true = acts_bundle cycle c h
        by true false = (h, tt)
        by false d = (h, tt)

    pub acts_own : (cycle : ℕ) (c : Core) → P c → Acts (own cycle c)
    acts_own cycle c h = by (is_running c.plain)
      where
        by : (b : Bool)
            → Acts (elim b as (λ _. Prog Acted) [
              | true ↦ and_then (if_running (bundle_step cycle) (flowed cycle c))
                  (slot_step cycle)
              | false ↦ now c
            ])
        by true = keeps_then May Kind Left Left (slot_step cycle) (acts_slot cycle) (if_running (bundle_step cycle)
            (flowed cycle c)) (acts_step cycle (flowed cycle c) (flow_kept P t cycle c h))
        by false = (h, tt)

    pub act_kept : (cycle : ℕ) (c : Core) → P c → Keeps May Kind P (and_then (own cycle c) settled)
    act_kept cycle c h = keeps_then May Kind Left P settled acts_settled (own cycle c) (acts_own cycle c h)

-- where nothing is asked of words and values, it is what the act leaves
pub act_leaves : (P : Core → Type 0) → Steps Any P → Turns P → (cycle : ℕ) (c : Core) → P c
    → Leaves P (and_then (own cycle c) settled)
act_leaves P s t cycle c h =
    leaves_kept P P (λ d k. k) (and_then (own cycle c) settled)
    (act_kept Any Any P (gives_any Any P (λ d word k below. tt) (λ d word k below. tt)) s t cycle c h)

-- ---- where a core is

-- no step but a trap and a flow changes what is said of the place, the function and the status
pub steps_of_place : (Q : Site → ℕ → Status → Type 0) → Steps Any (λ c. Q c.plain.site c.plain.base c.plain.status)
steps_of_place Q = record {
  waits = λ c t free h of. h;
  value = λ c rd width address word h kind. h;
  advances = λ c b words h found. h;
  stacks = λ c func count h room. h;
  sets = λ c width address value h kind. h;
  scratch = λ c word value h kind. h;
  private = λ c word value h kind. h;
  source = λ c target value h. h;
  target = λ c target value h. h;
  starts = λ c target count h. h;
  caches = λ c access h of. h;
  counts = λ c access h. h;
}

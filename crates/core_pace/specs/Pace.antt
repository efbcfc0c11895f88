-- To be believed. The pace of a core: what of it its times depend on, and how events change that.
-- Neither a register nor a value is among it.
use Rattle.std.specs.Prelude.{ℕ, ◌+◌, ◌-◌, min, Bool, true, false, ◌==◌, if◌then◌else◌, List, [], ◌∷◌, ◌++◌, reverse, length, Option, None, Some}
use Rattle.slot_arbiter.specs.declared.event.Access.{Access}
use Rattle.method_cache.specs.declared.cache.Method.{Method}
use Rattle.method_cache.specs.Residents.{resident, is_among, touched}
use Rattle.data_cache.specs.Accesses as cache
use Rattle.stack_cache.specs.declared.slots.TheConstants.{STACK_CACHE_WORDS}
use Rattle.patmos_instr.specs.declared.functions.StackFunc.{StackFunc}
use Rattle.patmos_instr.specs.declared.functions.StackFunc.TheVariants.{Sres, Sens, Sfree}
use Rattle.patmos_instr.specs.declared.memories.Mem.TheVariants as mem
use Rattle.patmos_sem.specs.declared.effects.Effect.{Effect}
use Rattle.patmos_sem.specs.declared.effects.Effect.TheVariants as effect
use Rattle.patmos_sem.specs.Bundles.{effect_of}
use Rattle.patmos_model.specs.declared.fetched.Fetched.{Fetched}
use Rattle.patmos_model.specs.declared.fetched.Fetched.TheVariants.{Outside, NoBundle, Found}
use Rattle.patmos_model.specs.declared.flow.Goal.{Goal}
use Rattle.patmos_model.specs.declared.flow.Goal.TheVariants.{Within, Call, Fill, Return}
use Rattle.patmos_model.specs.Site.{Site, method_at}
use Rattle.patmos_model.specs.State.{Plain, Core, is_running, is_free}
use Rattle.patmos_model.specs.Flows.{is_placed}
use Rattle.patmos_model.specs.Checks.{fault_of}
use Rattle.core_pace.specs.Spans.{accesses_from, moved_by}
use Rattle.core_pace.specs.Moment.{Moment, core_in, fetched_in}
use Rattle.core_pace.specs.Next.{line_in, bundled, all_moved}

-- What times depend on: the cycle from which on the core goes on, the words that are to be moved and which way, the
-- address of the line that comes with them, the transactions so far, the functions that missed the method cache, the
-- addresses of the cached loads from the latest back, and how many words the stack cache holds.
pub record Pace : Type 0 where
  pub free : ℕ
  pub write : Bool
  pub words : ℕ
  pub line : Option ℕ
  pub accesses : List Access
  pub misses : List Method
  pub loads : List ℕ
  pub held : ℕ

-- What happens to it: a bundle that moves nothing to or from main memory; one that loads a word past the data cache; a
-- cached load of an address; a store; a stack instruction with its count; and a function that is gone to.
pub data Event : Type 0 where
  quick : Event
  load : Event
  cached : ℕ → Event
  store : Event
  stack : StackFunc → ℕ → Event
  came : Method → Event

-- the addresses of the loads among cached accesses
abbrev pub addresses : List cache.Access → List ℕ
addresses [] = []
addresses (cache.Load address missed ∷ rest) = address ∷ addresses rest
addresses (cache.Store address value ∷ rest) = addresses rest

-- the line of an address is present after loads of these addresses, from the latest back: the last load to its index
-- was to that line
abbrev pub is_loaded : ℕ → List ℕ → Bool
is_loaded address [] = false
is_loaded address (other ∷ before) =
    if cache.index_of other == cache.index_of address then cache.line_of other == cache.line_of address
    else is_loaded address before

-- the pace of a core
abbrev pub pace_of : Core → Pace
pace_of c = record {
  free = c.plain.free;
  write = c.plain.transfer.write;
  words = c.plain.transfer.words;
  line = line_in c.plain.transfer.then;
  accesses = c.seen.accesses;
  misses = c.seen.misses;
  loads = addresses (reverse c.seen.cached);
  held = length c.plain.stack.words;
}

-- ---- what an event asks for

-- so many words are to be moved, or with none the bundle ends with its cycle
abbrev pub asks : Bool → ℕ → Pace → Pace
asks write words p = elim (words == 0) [
  | true ↦ record p { free = p.free + 1 }
  | false ↦ record p { write = write; words = words; line = None }
]

-- a cached load: the line is read unless it is present
abbrev pub asks_cached : ℕ → Pace → Pace
asks_cached address p = elim (is_loaded address p.loads) [
  | true ↦ record p { free = p.free + 1; loads = address ∷ p.loads }
  | false ↦ record p { write = false; words = 4; line = Some address }
]

-- a stack instruction: a reserve writes the words for which the cache has no room, an ensure reads those that it lacks
abbrev pub asks_stack : StackFunc → ℕ → Pace → Pace
asks_stack func count p = elim func [
  | Sres ↦ asks true (count + p.held - STACK_CACHE_WORDS) (record p { held = min STACK_CACHE_WORDS (count + p.held) })
  | Sens ↦ asks false (count - p.held) (record p { held = p.held + (count - p.held) })
  | Sfree ↦ record p { free = p.free + 1; held = p.held - count }
]

-- a function is gone to: its words and its size word are read unless the method cache has it
abbrev pub asks_method : Method → Pace → Pace
asks_method method p = elim (is_among method.function (resident p.misses)) [
  | true ↦ record p { write = false; words = 0; line = None; misses = touched p.misses method }
  | false ↦ record p { write = false; words = method.words + 1; line = None; misses = touched p.misses method }
]

abbrev pub asked_by : Event → Pace → Pace
asked_by quick p = record p { free = p.free + 1 }
asked_by load p = record p { write = false; words = 1; line = None }
asked_by (cached address) p = asks_cached address p
asked_by store p = record p { write = true; words = 1; line = None }
asked_by (stack func count) p = asks_stack func count p
asked_by (came method) p = asks_method method p

-- ---- the clock

-- a line that was on its way is present
abbrev pub with_line : Option ℕ → List ℕ → List ℕ
with_line line loads = elim line [ None ↦ loads | Some address ↦ address ∷ loads ]

-- all words are moved
abbrev pub carried : Site → Pace → Pace
carried site p = elim (p.words == 0) [
  | true ↦ p
  | false ↦ record p {
    free = moved_by site p.free p.words;
    words = 0;
    line = None;
    accesses = p.accesses ++ accesses_from site p.free p.write p.words;
    loads = with_line p.line p.loads;
  }
]

-- one event, and the events one after another
abbrev pub happened : Site → Event → Pace → Pace
happened site e p = carried site (asked_by e p)

abbrev pub clock : Site → List Event → Pace → Pace
clock site [] p = p
clock site (e ∷ es) p = clock site es (happened site e p)

-- ---- the events of a run

-- what a bundle asks for, as an event
abbrev pub event_of : Effect → Event
event_of asked = elim asked [
  | effect.Nothing ↦ quick
  | effect.Flow kind ↦ quick
  | effect.Load space width rd address ↦ elim space [ mem.S ↦ quick | mem.L ↦ quick | mem.C ↦ cached address | mem.M ↦ load ]
  | effect.Store space width address value ↦ elim space [ mem.S ↦ quick | mem.L ↦ quick | mem.C ↦ store | mem.M ↦ store ]
  | effect.StackOp func count ↦ stack func count
]

-- the event of the bundle that the core is about to do: none where a check on it fails
abbrev pub bundle_event : Fetched → Plain → List Event
bundle_event fetched x = elim fetched [
  | Outside ↦ []
  | NoBundle ↦ []
  | Found b words ↦ elim (fault_of x (effect_of b x.regs)) [
    | None ↦ event_of (effect_of b x.regs) ∷ []
    | Some fault ↦ []
  ]
]

-- the event of a goal: a branch in the function goes to none
abbrev pub goal_event : Goal → Plain → List Event
goal_event goal x = elim goal [
  | Within offset ↦ []
  | Call target ↦ came (method_at x.site.image target) ∷ []
  | Fill target ↦ came (method_at x.site.image target) ∷ []
  | Return base offset ↦ came (method_at x.site.image base) ∷ []
]

-- the event of a flow that is due in the cycle: none where no flow is, or its goal is no place
abbrev pub flow_event : ℕ → Plain → List Event
flow_event cycle x = elim (is_free cycle x) [
  | true ↦ elim x.flow [
    | None ↦ []
    | Some f ↦ elim (f.slots == 0) [
      | true ↦ elim (is_placed f.goal x) [ true ↦ goal_event f.goal x | false ↦ [] ]
      | false ↦ []
    ]
  ]
  | false ↦ []
]

-- the flow event of a landing; none where the core does not run
abbrev pub landing_event : ℕ → Plain → List Event
landing_event cycle x = elim (is_running x) [ true ↦ flow_event cycle x | false ↦ [] ]

-- the events from a moment to the next
abbrev pub events_in : ℕ → ℕ → Moment → List Event
events_in n core m = bundle_event (fetched_in (core_in m).plain) (core_in m).plain
    ++ (let after = all_moved n core (bundled n core m) in landing_event after.cycle (core_in after).plain)

-- What a bundle and a transaction leave of a core's pace, whatever their loads give.
use Rattle.std.proofs.Common.{◌≡◌, ℕ, ◌+◌, ◌-◌, ◌/◌, ◌<◌, ◌==◌, min, Bool, true, false, if◌then◌else◌, List, [], ◌∷◌, ◌++◌, length, reverse, replicate, slice_index, unwrap_or, Option, None, Some, is_some, refl, sym, ap, ◌∙◌, subst, arith, lit<, length-append, length-drop, length-take}
use Rattle.std.proofs.lemmas.List.{reverse-append, length-set, length-replicate}
use Rattle.std.proofs.lemmas.List.FromFn.{length-map-range_with_len}
use Rattle.std.proofs.lemmas.Bool.{eqb-false}
use Rattle.shared_order.specs.Program.{Prog}
use Rattle.data_cache.specs.Accesses as cache
use Rattle.local_store.specs.declared.map.Space.TheVariants.{Local, Main}
use Rattle.local_store.specs.declared.map.Cell.{Cell}
use Rattle.local_store.specs.declared.map.Cell.TheVariants as cell
use Rattle.stack_cache.specs.declared.slots.TheConstants.{STACK_CACHE_WORDS}
use Rattle.stack_cache.specs.Stack.{Stack, reserved, spilled, missing, grown}
use Rattle.argo_ni.specs.Interface.{port_to}
use Rattle.patmos_instr.specs.declared.functions.StackFunc.{StackFunc}
use Rattle.patmos_instr.specs.declared.functions.StackFunc.TheVariants.{Sres, Sens, Sfree}
use Rattle.patmos_instr.specs.declared.memories.Mem.TheVariants as mem
use Rattle.patmos_instr.specs.declared.memories.Width.{Width}
use Rattle.patmos_instr.specs.declared.memories.StoreWidth.{StoreWidth}
use Rattle.patmos_instr.specs.declared.memories.StoreWidth.TheVariants as store
use Rattle.patmos_sem.specs.declared.effects.Effect.{Effect}
use Rattle.patmos_sem.specs.declared.effects.Effect.TheVariants as effect
use Rattle.patmos_sem.specs.Bundles.{effect_of}
use Rattle.patmos_sem.specs.Narrow.{merged}
use Rattle.patmos_model.specs.declared.fetched.Fetched.{Fetched}
use Rattle.patmos_model.specs.declared.fetched.Fetched.TheVariants.{Outside, NoBundle, Found}
use Rattle.patmos_model.specs.declared.flow.Flow.{Flow}
use Rattle.patmos_model.specs.declared.state.Status.{Status}
use Rattle.patmos_model.specs.declared.transfer.Then.{Then}
use Rattle.patmos_model.specs.declared.transfer.Then.TheVariants as then_on
use Rattle.patmos_model.specs.declared.trap.Trap.{Trap}
use Rattle.patmos_model.specs.declared.trap.Trap.TheVariants as trap
use Rattle.patmos_model.specs.Site.{Site}
use Rattle.patmos_model.specs.State.{Plain, Core, with_plain, stopped}
use Rattle.patmos_model.specs.Transfers.{reads}
use Rattle.patmos_model.specs.Cells.{Acted, now, cell_of, reading, reading_line, no_line, writing, storing, port_set, with_value}
use Rattle.patmos_model.specs.Checks.{fault_of}
use Rattle.patmos_model.specs.Bundle.{ends, moves, advanced, words_from, with_words, refilled, stacked, cache_loaded, answered, done_as}
use Rattle.patmos_model.specs.Transaction.{counted, moved, with_store, line_taken, line_address, transaction_then, transaction}
use Rattle.patmos_model.proofs.Acts.{port_cases}
use Rattle.patmos_model.proofs.Leaves.{Leaves}
use Rattle.core_pace.specs.Next.{line_in}
use Rattle.core_pace.specs.Pace.{Pace, Event, addresses, is_loaded, pace_of, asks, asks_cached, asks_stack, asked_by, with_line, event_of, bundle_event}
use Rattle.core_pace.proofs.Parts.{leaves_map}

-- ---- the addresses of cached loads

pub loads_after_load : (accesses : List cache.Access) (address : ℕ) (missed : Option (List ℕ))
    → addresses (reverse (accesses ++ cache.Load address missed ∷ [])) ≡ address ∷ addresses (reverse accesses)
loads_after_load accesses address missed = ap addresses (reverse-append accesses (cache.Load address missed ∷ []))

loads_after_store : (accesses : List cache.Access) (address value : ℕ)
    → addresses (reverse (accesses ++ cache.Store address value ∷ [])) ≡ addresses (reverse accesses)
loads_after_store accesses address value = ap addresses (reverse-append accesses (cache.Store address value ∷ []))

-- whether a word is present depends on them alone
pub present_by_loads : (address : ℕ) (latest : List cache.Access) → cache.is_present address latest
    ≡ is_loaded address (addresses latest)
present_by_loads address [] = refl
present_by_loads address (cache.Load other missed ∷ before) =
    ap (λ b. if cache.index_of other == cache.index_of address then cache.line_of other == cache.line_of address else b)
    (present_by_loads address before)
present_by_loads address (cache.Store other value ∷ before) = present_by_loads address before

pub word_by_loads : (accesses : List cache.Access) (address : ℕ) → is_some (cache.cached_word accesses address)
    ≡ is_loaded address (addresses (reverse accesses))
word_by_loads accesses address =
    by (cache.is_present address (reverse accesses)) ∙ present_by_loads address (reverse accesses)
  where
    by : (b : Bool) → is_some (if b then Some (cache.last_word address (reverse accesses)) else None) ≡ b
    by true = refl
    by false = refl

-- ---- what is left

-- The core has this site, status, flow and pace, and where the premise holds, what it has to move leaves no store
-- pending.
pub record LeavesAs (Few : Type 0) (site : Site) (status : Status) (flow : Option Flow) (p : Pace)
    (y : Acted) : Type 0 where
  pub site_is : y.core.plain.site ≡ site
  pub status_is : y.core.plain.status ≡ status
  pub flow_is : y.core.plain.flow ≡ flow
  pub pace : pace_of y.core ≡ p
  pub pending : Few → 0 < y.core.plain.transfer.words → y.pending_store ≡ None

-- as a core is
abbrev LeavesOf : Type 0 → Core → Pace → Acted → Type 0
LeavesOf Few c p y = LeavesAs Few c.plain.site c.plain.status c.plain.flow p y

-- another core that is left with this one's site, status and flow
refit : (Few : Type 0) (c : Core) (p q : Pace) (y : Acted) → p ≡ q → LeavesOf Few c p y → LeavesOf Few c q y
refit Few c p q y e h = record {
  site_is = h.site_is;
  status_is = h.status_is;
  flow_is = h.flow_is;
  pace = h.pace ∙ e;
  pending = h.pending;
}

-- ---- cells

pub leaves_reading : (P : Acted → Type 0) (place : Option Cell) (x : Plain) (go_on : ℕ → Prog Acted)
    → ((word : ℕ) → Leaves P (go_on word)) → Leaves P (reading place x go_on)
leaves_reading P None x go_on h = h 0
leaves_reading P (Some (cell.Scratch word)) x go_on h = h (x.scratch word)
leaves_reading P (Some (cell.Private word)) x go_on h = h (x.private word)
leaves_reading P (Some (cell.Comm word)) x go_on h = λ value. h value
leaves_reading P (Some (cell.Shared word)) x go_on h = λ value. h value
leaves_reading P (Some (cell.Port core register)) x go_on h = h (port_to x.interface core).channel.left

pub leaves_reading_line : (P : Acted → Type 0) (place : Option Cell) (x : Plain) (go_on : List ℕ → Prog Acted)
    → ((words : List ℕ) → Leaves P (go_on words)) → Leaves P (reading_line place x go_on)
leaves_reading_line P None x go_on h = h no_line
leaves_reading_line P (Some (cell.Scratch word)) x go_on h = h no_line
leaves_reading_line P (Some (cell.Private word)) x go_on h = h _
leaves_reading_line P (Some (cell.Comm word)) x go_on h = h no_line
leaves_reading_line P (Some (cell.Shared word)) x go_on h = λ a b c d. h (a ∷ b ∷ c ∷ d ∷ [])
leaves_reading_line P (Some (cell.Port core register)) x go_on h = h no_line

module _ (Few : Type 0) where
  -- a core that is left as it is
  as_it_is : (c : Core) → LeavesOf Few c (pace_of c) (record { core = c; pending_store = None })
  as_it_is c = record { site_is = refl; status_is = refl; flow_is = refl; pace = refl; pending = λ few some. refl }

  leaves_storing : (word : ℕ) (width : StoreWidth) (address value : ℕ) (c : Core) → (Few → c.plain.transfer.words ≡ 0)
      → Leaves (LeavesOf Few c (pace_of c)) (storing word width address value c)
  leaves_storing word store.Word address value c few = as_it_is c
  leaves_storing word store.Half address value c few = λ old. record {
    site_is = refl;
    status_is = refl;
    flow_is = refl;
    pace = refl;
    pending = λ is some. absurd (omega (arith, some, few is));
  }
  leaves_storing word store.Byte address value c few = λ old. record {
    site_is = refl;
    status_is = refl;
    flow_is = refl;
    pace = refl;
    pending = λ is some. absurd (omega (arith, some, few is));
  }

  -- the registers of the interface are none of the pace
  leaves_port : (target register value : ℕ) (c : Core)
      → LeavesOf Few c (pace_of c) (record { core = port_set target register value c; pending_store = None })
  leaves_port target register value c =
      port_cases (λ b e d. LeavesOf Few c (pace_of c) (record { core = d; pending_store = None })) target
      register value c
      (λ e. record { site_is = refl; status_is = refl; flow_is = refl; pace = refl; pending = λ few some. refl })
      (record { site_is = refl; status_is = refl; flow_is = refl; pace = refl; pending = λ few some. refl })
      (record { site_is = refl; status_is = refl; flow_is = refl; pace = refl; pending = λ few some. refl })

  leaves_writing : (place : Option Cell) (width : StoreWidth) (address value : ℕ) (c : Core)
      → (Few → c.plain.transfer.words ≡ 0) → Leaves (LeavesOf Few c (pace_of c)) (writing place width address value c)
  leaves_writing None width address value c few = as_it_is c
  leaves_writing (Some (cell.Scratch word)) width address value c few =
      record { site_is = refl; status_is = refl; flow_is = refl; pace = refl; pending = λ is some. refl }
  leaves_writing (Some (cell.Private word)) width address value c few =
      record { site_is = refl; status_is = refl; flow_is = refl; pace = refl; pending = λ is some. refl }
  leaves_writing (Some (cell.Comm word)) width address value c few = leaves_storing _ width address value c few
  leaves_writing (Some (cell.Shared word)) width address value c few = leaves_storing word width address value c few
  leaves_writing (Some (cell.Port target register)) width address value c few = leaves_port target register value c

  -- ---- bundles

  -- so many words to move, or the end of the bundle
  leaves_moves : (c : Core) (write : Bool) (words : ℕ) → LeavesOf Few c (asks write words (pace_of c))
      (record {
        core = with_plain (moves (record { write = write; words = words; then = then_on.Nothing }) c.plain.free)
            c;
        pending_store = None;
      })
  leaves_moves c write words = by (words == 0)
    where
      by : (b : Bool) → LeavesOf Few c
          (elim b as (λ _. Pace) [
            | true ↦ record (pace_of c) { free = c.plain.free + 1 }
            | false ↦ record (pace_of c) {
              write = write;
              words = words;
              line = None;
            }
          ])
          (record {
            core = with_plain (λ x. elim b as (λ _. Plain) [
              | true ↦ ends c.plain.free x
              | false ↦
                  record x { transfer = record { write = write; words = words; then = then_on.Nothing } }
            ]) c;
            pending_store = None;
          })
      by true = record { site_is = refl; status_is = refl; flow_is = refl; pace = refl; pending = λ few some. refl }
      by false = record { site_is = refl; status_is = refl; flow_is = refl; pace = refl; pending = λ few some. refl }

  held_reserved : (count : ℕ) (s : Stack) → length (reserved count s).words
      ≡ min STACK_CACHE_WORDS (count + length s.words)
  held_reserved count s =
      length-take STACK_CACHE_WORDS (grown count s)
      ∙ ap (min STACK_CACHE_WORDS) (length-append (replicate count 0) s.words
      ∙ ap (λ n. n + length s.words) (length-replicate count 0))

  words_spilled : (count : ℕ) (s : Stack) → length (spilled count s) ≡ count + length s.words - STACK_CACHE_WORDS
  words_spilled count s =
      length-drop STACK_CACHE_WORDS (grown count s)
      ∙ ap (λ n. n - STACK_CACHE_WORDS) (length-append (replicate count 0) s.words
      ∙ ap (λ n. n + length s.words) (length-replicate count 0))

  held_refilled : (count : ℕ) (memory : ℕ → ℕ) (s : Stack) → length (refilled count memory s).words ≡ length s.words
      + (count - length s.words)
  held_refilled count memory s =
      length-append s.words (words_from memory s.ss (missing count s))
      ∙ ap (λ n. length s.words + n) (length-map-range_with_len memory s.ss (missing count s))

  leaves_stacked : (func : StackFunc) (count : ℕ) (c : Core) → LeavesOf Few c (asks_stack func count (pace_of c))
      (record { core = with_plain (stacked func count c.plain.free) c; pending_store = None })
  leaves_stacked Sres count c =
      let d : Core = with_plain (λ x. record x {
        stack = reserved count x.stack;
        private = with_words (reserved count x.stack).ss (spilled count x.stack) x.private;
      }) c in
      let same : asks true (length (spilled count c.plain.stack)) (pace_of d) ≡ asks_stack Sres count (pace_of c) =
      λ i. asks true (words_spilled count c.plain.stack i)
      (record (pace_of c) { held = held_reserved count c.plain.stack i }) in
      refit Few c (asks true (length (spilled count c.plain.stack)) (pace_of d))
      (asks_stack Sres count (pace_of c)) _ same
      (leaves_moves d true (length (spilled count c.plain.stack)))
  leaves_stacked Sens count c =
      let d : Core = with_plain (λ x. record x { stack = refilled count x.private x.stack }) c in
      let same : asks false (missing count c.plain.stack) (pace_of d) ≡ asks_stack Sens count (pace_of c) =
      λ i. asks false (missing count c.plain.stack)
      (record (pace_of c) { held = held_refilled count c.plain.private c.plain.stack i }) in
      refit Few c (asks false (missing count c.plain.stack) (pace_of d)) (asks_stack Sens count (pace_of c)) _ same
      (leaves_moves d false (missing count c.plain.stack))
  leaves_stacked Sfree count c = record {
    site_is = refl;
    status_is = refl;
    flow_is = refl;
    pace = λ i. record (pace_of c) { free = c.plain.free + 1; held = length-drop count c.plain.stack.words i };
    pending = λ few some. refl;
  }

  -- a cached load
  leaves_cached : (rd : ℕ) (width : Width) (address : ℕ) (c : Core) → LeavesOf Few c (asks_cached address (pace_of c))
      (record { core = cache_loaded rd width address c.plain.free c; pending_store = None })
  leaves_cached rd width address c =
      subst (λ b. LeavesOf Few c (asks_cached address (pace_of c))
      (record { core = cached_by b; pending_store = None }))
      (sym (present_by_loads address (reverse c.seen.cached)))
      (by (is_loaded address (addresses (reverse c.seen.cached))))
    where
      cached_by : Bool → Core
      cached_by b = elim (if b then Some (cache.last_word address (reverse c.seen.cached)) else None) as (λ _. Core) [
        | None ↦ with_plain (moves (reads 4 (then_on.Line rd width address)) c.plain.free) c
        | Some word ↦ record {
          plain = ends c.plain.free (with_value rd width address word c.plain);
          seen = record c.seen { cached = c.seen.cached ++ cache.Load address None ∷ [] };
        }
      ]

      by : (b : Bool) → LeavesOf Few c
          (elim b as (λ _. Pace) [
            | true ↦ record (pace_of c) { free = c.plain.free + 1; loads = address ∷ addresses (reverse c.seen.cached) }
            | false ↦ record (pace_of c) { write = false; words = 4; line = Some address }
          ]) (record { core = cached_by b; pending_store = None })
      by true = record {
        site_is = refl;
        status_is = refl;
        flow_is = refl;
        pace = λ i. record (pace_of c) {
          free = c.plain.free + 1;
          loads = loads_after_load c.seen.cached
              address None i;
        };
        pending = λ few some. refl;
      }
      by false = record { site_is = refl; status_is = refl; flow_is = refl; pace = refl; pending = λ few some. refl }

  -- a bundle's effect takes its event from the pace
  pub leaves_answered : (asked : Effect) (c : Core) → (Few → c.plain.transfer.words ≡ 0)
      → Leaves (LeavesOf Few c (asked_by (event_of asked) (pace_of c))) (answered asked c.plain.free c)
  leaves_answered effect.Nothing c few =
      record { site_is = refl; status_is = refl; flow_is = refl; pace = refl; pending = λ is some. refl }
  leaves_answered (effect.Flow kind) c few =
      record { site_is = refl; status_is = refl; flow_is = refl; pace = refl; pending = λ is some. refl }
  leaves_answered (effect.Load mem.S width rd address) c few =
      record { site_is = refl; status_is = refl; flow_is = refl; pace = refl; pending = λ is some. refl }
  leaves_answered (effect.Load mem.L width rd address) c few =
      leaves_reading (LeavesOf Few c (record (pace_of c) { free = c.plain.free + 1 })) (cell_of Local address) c.plain
      (λ word. now (with_plain (λ x. ends c.plain.free (with_value rd width address word x)) c))
      (λ word. record { site_is = refl; status_is = refl; flow_is = refl; pace = refl; pending = λ is some. refl })
  leaves_answered (effect.Load mem.C width rd address) c few = leaves_cached rd width address c
  leaves_answered (effect.Load mem.M width rd address) c few =
      record { site_is = refl; status_is = refl; flow_is = refl; pace = refl; pending = λ is some. refl }
  leaves_answered (effect.Store mem.S width address value) c few = record {
    site_is = refl;
    status_is = refl;
    flow_is = refl;
    pace = λ i. record (pace_of c) {
      free = c.plain.free + 1;
      held = length-set c.plain.stack.words (address / 4)
          (merged width address (slice_index c.plain.stack.words (address / 4)) value) i;
    };
    pending = λ is some. refl;
  }
  leaves_answered (effect.Store mem.L width address value) c few =
      leaves_writing (cell_of Local address) width address value (with_plain (ends c.plain.free) c) few
  leaves_answered (effect.Store mem.C width address value) c few =
      record { site_is = refl; status_is = refl; flow_is = refl; pace = refl; pending = λ is some. refl }
  leaves_answered (effect.Store mem.M width address value) c few =
      record { site_is = refl; status_is = refl; flow_is = refl; pace = refl; pending = λ is some. refl }
  leaves_answered (effect.StackOp func count) c few = leaves_stacked func count c

-- how a bundle may leave a core, with its events: stopped by a check; or as the event of its effect says
pub data Bundles (c : Core) (events : List Event) (y : Acted) : Type 0 where
  traps : (fault : Trap) → y ≡ record { core = with_plain (stopped fault c.plain.free) c; pending_store = None }
      → events ≡ [] → Bundles c events y
  does : (asked : Effect) (flow : Option Flow) → events ≡ event_of asked ∷ []
      → LeavesAs (c.plain.transfer.words ≡ 0) c.plain.site c.plain.status flow (asked_by (event_of asked) (pace_of c)) y
      → Bundles c events y

pub leaves_bundle : (fetched : Fetched) (c : Core) → Leaves (Bundles c (bundle_event fetched c.plain)) (done_as fetched
    c.plain.free c)
leaves_bundle Outside c = traps trap.Flow refl refl
leaves_bundle NoBundle c = traps trap.Decode refl refl
leaves_bundle (Found b words) c = by (fault_of c.plain (effect_of b c.plain.regs))
  where
    asked : Effect
    asked = effect_of b c.plain.regs

    d : Core
    d = with_plain (advanced words b) c

    by : (fault : Option Trap)
        → Leaves (Bundles c (elim fault as (λ _. List Event) [ None ↦ event_of asked ∷ [] | Some f ↦ [] ]))
        (elim fault as (λ _. Prog Acted) [
          | None ↦ answered asked c.plain.free d
          | Some f ↦ now
              (with_plain (stopped f c.plain.free) c)
        ])
    by (Some f) = traps f refl refl
    by None = leaves_map (LeavesAs (c.plain.transfer.words ≡ 0) c.plain.site c.plain.status d.plain.flow
        (asked_by (event_of asked) (pace_of c))) (Bundles c (event_of asked ∷ []))
        (λ y h. does asked d.plain.flow refl h) (answered asked c.plain.free d)
        (leaves_answered (c.plain.transfer.words ≡ 0) asked d (λ few. few))

-- what an event asks for: words that are moved from now on; or nothing, and then the bundle ends with its cycle
pub data Asks (p q : Pace) : Type 0 where
  some_words : 0 < q.words → q.free ≡ p.free → Asks p q
  no_words : q.words ≡ p.words → q.line ≡ p.line → q.free ≡ p.free + 1 → Asks p q

asks_so : (write : Bool) (words : ℕ) (p : Pace) → Asks p (asks write words p)
asks_so write words p = by (words == 0) refl
  where
    by : (b : Bool) → (words == 0) ≡ b → Asks p (elim b as (λ _. Pace) [
      | true ↦ record p { free = p.free + 1 }
      | false ↦
          record p { write = write; words = words; line = None }
    ])
    by true is = no_words refl refl refl
    by false is = some_words (let positive : words ≡ 0 → ⊥ = eqb-false words 0 is in omega (arith, positive)) refl

asks_cached_so : (address : ℕ) (p : Pace) → Asks p (asks_cached address p)
asks_cached_so address p = by (is_loaded address p.loads)
  where
    by : (b : Bool) → Asks p (elim b as (λ _. Pace) [
      | true ↦ record p { free = p.free + 1; loads = address ∷ p.loads }
      | false ↦ record p { write = false; words = 4; line = Some address }
    ])
    by true = no_words refl refl refl
    by false = some_words (lit< tt) refl

-- the pace with another count of words held asks for the same
holding : (p q : Pace) (held : ℕ) → Asks (record p { held = held }) q → Asks p q
holding p q held (some_words words free) = some_words words free
holding p q held (no_words words line free) = no_words words line free

pub asks_of_event : (asked : Effect) (p : Pace) → Asks p (asked_by (event_of asked) p)
asks_of_event effect.Nothing p = no_words refl refl refl
asks_of_event (effect.Flow kind) p = no_words refl refl refl
asks_of_event (effect.Load mem.S width rd address) p = no_words refl refl refl
asks_of_event (effect.Load mem.L width rd address) p = no_words refl refl refl
asks_of_event (effect.Load mem.C width rd address) p = asks_cached_so address p
asks_of_event (effect.Load mem.M width rd address) p = some_words (lit< tt) refl
asks_of_event (effect.Store mem.S width address value) p = no_words refl refl refl
asks_of_event (effect.Store mem.L width address value) p = no_words refl refl refl
asks_of_event (effect.Store mem.C width address value) p = some_words (lit< tt) refl
asks_of_event (effect.Store mem.M width address value) p = some_words (lit< tt) refl
asks_of_event (effect.StackOp Sres count) p =
    holding p _ (min STACK_CACHE_WORDS (count + p.held)) (asks_so true (count + p.held - STACK_CACHE_WORDS)
    (record p { held = min STACK_CACHE_WORDS (count + p.held) }))
asks_of_event (effect.StackOp Sens count) p =
    holding p _ (p.held + (count - p.held)) (asks_so false (count - p.held)
    (record p { held = p.held + (count - p.held) }))
asks_of_event (effect.StackOp Sfree count) p = no_words refl refl refl

-- ---- transactions

-- a transaction in the slot that starts in this cycle
abbrev pub bursted : Site → ℕ → Pace → Pace
bursted site u p = record p {
  free = u + site.slot;
  words = p.words - 4;
  line = None;
  accesses = p.accesses ++ record { cycle = u; write = p.write; words = min 4 p.words } ∷ [];
  loads = with_line p.line p.loads;
}

pub leaves_transaction : (c : Core) (u : ℕ) → Leaves (LeavesAs ⊥ c.plain.site c.plain.status c.plain.flow
    (bursted c.plain.site u (pace_of c))) (transaction u c)
unfolding transaction
leaves_transaction c u = by c.plain.transfer.then
  where
    left : Then → Acted → Type 0
    left moved_on = LeavesAs ⊥ c.plain.site c.plain.status c.plain.flow
        (bursted c.plain.site u (record (pace_of c) { line = line_in moved_on }))

    stored_loads : (kept : Bool) (width : StoreWidth) (address value : ℕ)
        → addresses (reverse (with_store kept width address value (counted u c).seen).cached)
        ≡ addresses (reverse c.seen.cached)
    stored_loads false width address value = refl
    stored_loads true width address value =
        loads_after_store c.seen.cached address
        (merged width address (unwrap_or (cache.cached_word c.seen.cached address) 0) value)

    stored_accesses : (kept : Bool) (width : StoreWidth) (address value : ℕ)
        → (with_store kept width address value (counted u c).seen).accesses ≡ (counted u c).seen.accesses
    stored_accesses false width address value = refl
    stored_accesses true width address value = refl

    stored_misses : (kept : Bool) (width : StoreWidth) (address value : ℕ)
        → (with_store kept width address value (counted u c).seen).misses ≡ c.seen.misses
    stored_misses false width address value = refl
    stored_misses true width address value = refl

    by : (moved_on : Then) → Leaves (left moved_on) (transaction_then moved_on u c)
    by then_on.Nothing =
        record { site_is = refl; status_is = refl; flow_is = refl; pace = refl; pending = λ few. absurd few }
    by (then_on.Load rd width address) =
        leaves_reading (left (then_on.Load rd width address)) (cell_of Main address) c.plain
        (λ word. now (with_plain (with_value rd width address word) (counted u c)))
        (λ word. record { site_is = refl; status_is = refl; flow_is = refl; pace = refl; pending = λ few. absurd few })
    by (then_on.Line rd width address) =
        leaves_reading_line (left (then_on.Line rd width address)) (cell_of Main (line_address address)) c.plain
        (λ words. now (line_taken rd width address words (counted u c)))
        (λ words. record {
          site_is = refl;
          status_is = refl;
          flow_is = refl;
          pace = λ i. record (bursted c.plain.site u (record (pace_of c) { line = Some address })) {
            loads = loads_after_load c.seen.cached address (Some words) i;
          };
          pending = λ few. absurd few;
        })
    by (then_on.Store kept width address value) =
        let d : Core =
        record { plain = moved u c.plain; seen = with_store kept width address value (counted u c).seen } in
        leaves_map (LeavesAs ⊥ d.plain.site d.plain.status d.plain.flow (pace_of d))
        (left (then_on.Store kept width address value))
        (λ y h. record {
          site_is = h.site_is;
          status_is = h.status_is;
          flow_is = h.flow_is;
          pace = h.pace ∙ (λ i. record (bursted c.plain.site u (record (pace_of c) { line = None })) {
            accesses = stored_accesses kept width address value i;
            misses = stored_misses kept width address value i;
            loads = stored_loads kept width address value i;
          });
          pending = λ few. absurd few;
        }) (writing (cell_of Main address) width address value d) (leaves_writing ⊥ (cell_of Main address) width address
        value d (λ few. absurd few))

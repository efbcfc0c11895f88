-- To be believed. A bundle: its checks, its effect on the registers, and what its first slot asks for (Patmos
-- Reference Handbook, bundles, delays and typed loads and stores; times are our own profile TP1's).
-- What main memory has to do with it, it leaves as a transfer.
use Rattle.std.specs.Prelude.{ℕ, ◌+◌, ◌/◌, ◌≤◌, true, false, ◌==◌, List, [], ◌∷◌, ◌++◌, length, map, Option, None, Some, slice_index, slice_set}
use Rattle.std.specs.List.{range_with_len}
use Rattle.shared_order.specs.Words.{put}
use Rattle.shared_order.specs.Program.{Prog}
use Rattle.data_cache.specs.Accesses as cache
use Rattle.local_store.specs.declared.map.Space.TheVariants.{Local}
use Rattle.stack_cache.specs.Stack.{Stack, reserved, spilled, missing, freed}
use Rattle.patmos_instr.specs.Bundles.{PlainBundle}
use Rattle.patmos_instr.specs.declared.functions.StackFunc.{StackFunc}
use Rattle.patmos_instr.specs.declared.functions.StackFunc.TheVariants.{Sres, Sens, Sfree}
use Rattle.patmos_instr.specs.declared.memories.Mem.{Mem}
use Rattle.patmos_instr.specs.declared.memories.Mem.TheVariants as mem
use Rattle.patmos_instr.specs.declared.memories.Width.{Width}
use Rattle.patmos_instr.specs.declared.memories.StoreWidth.{StoreWidth}
use Rattle.patmos_code.specs.Images.{Parts}
use Rattle.patmos_code.specs.Decoding.{bundle_at}
use Rattle.patmos_sem.specs.declared.effects.Effect.{Effect}
use Rattle.patmos_sem.specs.declared.effects.Effect.TheVariants as effect
use Rattle.patmos_sem.specs.Bundles.{after_bundle, effect_of}
use Rattle.patmos_sem.specs.Narrow.{merged}
use Rattle.patmos_model.specs.declared.fetched.Fetched.{Fetched}
use Rattle.patmos_model.specs.declared.fetched.Fetched.TheVariants.{Outside, NoBundle, Found}
use Rattle.patmos_model.specs.declared.flow.Flow.{Flow}
use Rattle.patmos_model.specs.declared.transfer.Transfer.{Transfer}
use Rattle.patmos_model.specs.declared.transfer.Then.TheVariants as then_on
use Rattle.patmos_model.specs.declared.trap.Trap.TheVariants as trap
use Rattle.patmos_model.specs.Site.{word_at, bundle_words, is_inside}
use Rattle.patmos_model.specs.State.{Plain, Core, with_plain, stopped}
use Rattle.patmos_model.specs.Transfers.{reads, writes}
use Rattle.patmos_model.specs.Flows.{flow_of, counted}
use Rattle.patmos_model.specs.Cells.{Acted, now, cell_of, reading, writing, with_value}
use Rattle.patmos_model.specs.Checks.{fault_of}

-- a bundle without words to move ends with its cycle
abbrev pub ends : ℕ → Plain → Plain
ends cycle x = record x { free = cycle + 1 }

-- one that has words to move ends with the last of them
abbrev pub moves : Transfer → ℕ → Plain → Plain
moves transfer cycle x = elim (transfer.words == 0) [
  | true ↦ ends cycle x
  | false ↦ record x { transfer = transfer }
]

-- the flow that is pending once a bundle at an offset has asked for this
abbrev pub asked_flow : ℕ → Effect → Option Flow
asked_flow offset asked = elim asked [
  | effect.Nothing ↦ None
  | effect.Flow kind ↦ Some (flow_of offset kind)
  | effect.Load space width rd address ↦ None
  | effect.Store space width address value ↦ None
  | effect.StackOp func count ↦ None
]

-- the bundle's registers, the offset of the next one, and the flow
abbrev pub advanced : ℕ → PlainBundle → Plain → Plain
advanced words b x = record x {
  regs = after_bundle x.stack.st x.stack.ss b x.regs;
  offset = x.offset + words;
  flow = counted x.flow (asked_flow x.offset (effect_of b x.regs));
}

-- the words of memory from a place on
abbrev pub words_from : (ℕ → ℕ) → ℕ → ℕ → List ℕ
words_from memory from count = map memory (range_with_len from count)

-- memory once these words were put from a place on
abbrev pub with_words : ℕ → List ℕ → (ℕ → ℕ) → ℕ → ℕ
with_words from [] memory = memory
with_words from (word ∷ words) memory = with_words (from + 1) words (put from word memory)

-- the stack with the words after those held brought back from memory, until it holds so many
abbrev pub refilled : ℕ → (ℕ → ℕ) → Stack → Stack
refilled count memory s = record s {
  ss = s.ss + missing count s;
  words = s.words ++ words_from memory s.ss (missing count s);
}

-- A stack instruction. No other core can reach the words that it spills or fills, so they count as
-- moved at once, and the transfer only takes its time.
abbrev pub stacked : StackFunc → ℕ → ℕ → Plain → Plain
stacked func count cycle x = elim func [
  | Sres ↦ moves (writes (length (spilled count x.stack)) then_on.Nothing) cycle (record x {
    stack = reserved count x.stack;
    private = with_words (reserved count x.stack).ss (spilled count x.stack) x.private;
  })
  | Sens ↦ moves (reads (missing count x.stack) then_on.Nothing) cycle (record x {
    stack = refilled count x.private x.stack;
  })
  | Sfree ↦ ends cycle (record x { stack = freed count x.stack })
]

-- a cached load: a word that the cache has comes at once; else its line is read
abbrev pub cache_loaded : ℕ → Width → ℕ → ℕ → Core → Core
cache_loaded rd width address cycle c = elim (cache.cached_word c.seen.cached address) [
  | None ↦ with_plain (moves (reads 4 (then_on.Line rd width address)) cycle) c
  | Some word ↦ record {
    plain = ends cycle (with_value rd width address word c.plain);
    seen = record c.seen { cached = c.seen.cached ++ cache.Load address None ∷ [] };
  }
]

-- a load
abbrev pub loaded : Mem → Width → ℕ → ℕ → ℕ → Core → Prog Acted
loaded space width rd address cycle c = elim space [
  | mem.S ↦ now (with_plain
      (λ x. ends cycle (with_value rd width address (slice_index x.stack.words (address / 4)) x)) c)
  | mem.L ↦ reading (cell_of Local address) c.plain
      (λ word. now (with_plain (λ x. ends cycle (with_value rd width address word x)) c))
  | mem.C ↦ now (cache_loaded rd width address cycle c)
  | mem.M ↦ now (with_plain (moves (reads 1 (then_on.Load rd width address)) cycle) c)
]

-- the stack with a word of it changed
abbrev pub stack_set : StoreWidth → ℕ → ℕ → Stack → Stack
stack_set width address value s = record s {
  words = slice_set s.words (address / 4) (merged width address (slice_index s.words (address / 4)) value);
}

-- a store
abbrev pub stored : Mem → StoreWidth → ℕ → ℕ → ℕ → Core → Prog Acted
stored space width address value cycle c = elim space [
  | mem.S ↦ now (with_plain (λ x. ends cycle (record x { stack = stack_set width address value x.stack })) c)
  | mem.L ↦ writing (cell_of Local address) width address value (with_plain (ends cycle) c)
  | mem.C ↦ now (with_plain (moves (writes 1 (then_on.Store true width address value)) cycle) c)
  | mem.M ↦ now (with_plain (moves (writes 1 (then_on.Store false width address value)) cycle) c)
]

-- what the bundle asked for is done
abbrev pub answered : Effect → ℕ → Core → Prog Acted
answered asked cycle c = elim asked [
  | effect.Nothing ↦ now (with_plain (ends cycle) c)
  | effect.Flow kind ↦ now (with_plain (ends cycle) c)
  | effect.Load space width rd address ↦ loaded space width rd address cycle c
  | effect.Store space width address value ↦ stored space width address value cycle c
  | effect.StackOp func count ↦ now (with_plain (stacked func count cycle) c)
]

-- the bundle of so many words is done, unless a check on what it asks for fails
abbrev pub performed : ℕ → PlainBundle → ℕ → Core → Prog Acted
performed words b cycle c = elim (fault_of c.plain (effect_of b c.plain.regs)) [
  | None ↦ answered (effect_of b c.plain.regs) cycle (with_plain (advanced words b) c)
  | Some fault ↦ now (with_plain (stopped fault cycle) c)
]

-- what stands at an offset of a function, taken for a bundle
abbrev pub taken_for : ℕ → Option PlainBundle → Fetched
taken_for words found = elim found [ None ↦ NoBundle | Some b ↦ Found b words ]

unfoldable pub fetched_at : Parts → ℕ → ℕ → Fetched
fetched_at image base offset = elim (is_inside image base offset) [
  | false ↦ Outside
  | true ↦ taken_for (bundle_words (word_at image base offset))
      (bundle_at (word_at image base offset) (word_at image base (offset + 1)))
]

-- what was fetched at an offset of a function of this size ends within it
abbrev pub IsWithin : ℕ → ℕ → Fetched → Type 0
IsWithin offset size fetched = elim fetched [
  | Outside ↦ Unit {0}
  | NoBundle ↦ Unit {0}
  | Found b words ↦ offset + words ≤ size
]

-- what was fetched is done
abbrev pub done_as : Fetched → ℕ → Core → Prog Acted
done_as fetched cycle c = elim fetched [
  | Outside ↦ now (with_plain (stopped trap.Flow cycle) c)
  | NoBundle ↦ now (with_plain (stopped trap.Decode cycle) c)
  | Found b words ↦ performed words b cycle c
]

-- one bundle
abbrev pub bundle : ℕ → Core → Prog Acted
bundle cycle c = done_as (fetched_at c.plain.site.image c.plain.base c.plain.offset) cycle c

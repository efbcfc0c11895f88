-- To be believed. What comes of a trail: its bundles are carried out one after another, each on the registers and words
-- that those before it left. It makes no checks and knows no time.
--
-- A run is read late, as the processor does it (a load's value and a product come after the next bundle's operands),
-- or at once, each value at the end of its own bundle. The values of loads are those of the memories, or are given as a
-- list: so it is told what a task asks for whatever its loads give.
use Rattle.std.specs.Prelude.{◌≡◌, ℕ, ◌+◌, ◌-◌, ◌/◌, min, max, nat_le, nat_lt, Bool, true, false, ◌&&◌, List, [], ◌∷◌, ◌++◌, if◌then◌else◌}
use Rattle.shared_order.specs.Words.{put}
use Rattle.stack_cache.specs.declared.slots.TheConstants.{STACK_CACHE_WORDS}
use Rattle.stack_cache.specs.declared.stack.TheConstants.{STACK_END}
use Rattle.patmos_instr.specs.Bundles.{PlainBundle}
use Rattle.patmos_instr.specs.declared.functions.StackFunc.{StackFunc}
use Rattle.patmos_instr.specs.declared.functions.StackFunc.TheVariants.{Sres, Sens, Sfree}
use Rattle.patmos_instr.specs.declared.memories.Mem.{Mem}
use Rattle.patmos_instr.specs.declared.memories.Mem.TheVariants as mem
use Rattle.patmos_instr.specs.declared.memories.StoreWidth.{StoreWidth}
use Rattle.patmos_sem.specs.Bundles.{after_bundle, effect_of, arrived}
use Rattle.patmos_sem.specs.Narrow.{picked, merged}
use Rattle.patmos_sem.specs.Registers.{Registers, FitsRegisters, at_start}
use Rattle.patmos_sem.specs.Writes.{after_writes, came}
use Rattle.patmos_sem.specs.declared.effects.Effect.{Effect}
use Rattle.patmos_sem.specs.declared.effects.Effect.TheVariants as effect
use Rattle.patmos_sem.specs.declared.effects.FlowKind.{FlowKind}
use Rattle.patmos_sem.specs.declared.effects.FlowKind.TheVariants as kind
use Rattle.patmos_sem.specs.declared.pending.Pending.TheVariants as pending
use Rattle.sp_shape.specs.Memory.{Memory, cell_of, word_at, with_word}
use Rattle.sp_shape.specs.Trail.{Step, does, begins}

-- the base and the offset to which a call's function returns
pub record Back : Type 0 where
  pub base : ℕ
  pub offset : ℕ

-- a flow that was asked for: of a return it is told to where
pub data Way : Type 0 where
  branches : Way
  calls : Way
  fills : Way
  returns : ℕ → ℕ → Way

-- The registers; the top of the stack and the end of the words of it that the stack cache holds, and the stack's words
-- by their numbers in private memory, wherever they stand; the other words; what loads and calls still to come give,
-- where that is given; and the loads, stores and stack operations, and apart from them the flows, that were asked for.
pub record Run : Type 0 where
  pub regs : Registers
  pub st : ℕ
  pub ss : ℕ
  pub stack : ℕ → ℕ
  pub memory : Memory
  pub loads : List ℕ
  pub backs : List Back
  pub asked : List Effect
  pub ways : List Way

-- all registers are there, and nothing is pending
pub record IsWhole (m : Run) : Type 0 where
  pub fits : FitsRegisters m.regs
  pub pending : m.regs.pending ≡ pending.Nothing

-- where the values of loads come from: the stack, and the other memories, or else the list of what loads give
pub record Sources : Type 0 where
  pub stack : Bool
  pub others : Bool

-- each load gives what was stored last in its word; or the next of the list
abbrev pub by_words : Sources
by_words = record { stack = true; others = true }

abbrev pub by_list : Sources
by_list = record { stack = false; others = false }

-- ---- lists of what is given

abbrev pub first_load : List ℕ → ℕ
first_load [] = 0
first_load (n ∷ ns) = n

abbrev pub other_loads : List ℕ → List ℕ
other_loads [] = []
other_loads (n ∷ ns) = ns

abbrev pub first_back : List Back → Back
first_back [] = record { base = 0; offset = 0 }
first_back (b ∷ bs) = b

abbrev pub other_backs : List Back → List Back
other_backs [] = []
other_backs (b ∷ bs) = bs

-- ---- loads and stores

-- the word that holds the address of a load
abbrev pub word_given : Sources → Mem → ℕ → Run → ℕ
word_given from mem.S address m = if from.stack then m.stack (m.st + address / 4) else first_load m.loads
word_given from mem.L address m = if from.others then word_at (cell_of mem.L address) m.memory else first_load m.loads
word_given from mem.C address m = if from.others then word_at (cell_of mem.C address) m.memory else first_load m.loads
word_given from mem.M address m = if from.others then word_at (cell_of mem.M address) m.memory else first_load m.loads

abbrev pub stored_cell : Mem → StoreWidth → ℕ → ℕ → Run → Run
stored_cell space width address value m = record m {
  memory =
      with_word (cell_of space address)
      (merged width address (word_at (cell_of space address) m.memory) value) m.memory;
}

abbrev pub stored : Mem → StoreWidth → ℕ → ℕ → Run → Run
stored mem.S width address value m = record m {
  stack = put (m.st + address / 4) (merged width address (m.stack (m.st + address / 4)) value) m.stack;
}
stored mem.L width address value m = stored_cell mem.L width address value m
stored mem.C width address value m = stored_cell mem.C width address value m
stored mem.M width address value m = stored_cell mem.M width address value m

-- ---- the stack

-- new words are 0
abbrev pub reserved : ℕ → ℕ → (ℕ → ℕ) → ℕ → ℕ
reserved st count stack word = if nat_le (st - count) word && nat_lt word st then 0 else stack word

abbrev pub stacked : StackFunc → ℕ → Run → Run
stacked Sres count m = record m {
  st = m.st - count;
  ss = min m.ss (m.st - count + STACK_CACHE_WORDS);
  stack = reserved m.st count m.stack;
}
stacked Sens count m = record m { ss = max m.ss (m.st + count) }
stacked Sfree count m = record m { st = m.st + count; ss = max m.ss (m.st + count) }

-- ---- a bundle

abbrev pub way_of : FlowKind → Way
way_of (kind.Branch offset) = branches
way_of (kind.Call target) = calls
way_of (kind.BranchFill target) = fills
way_of (kind.Return base offset) = returns base offset

-- what is asked for, once the registers are those after the bundle
abbrev pub effected : Sources → Effect → Run → Run
effected from effect.Nothing m = m
effected from (effect.Load space width rd address) m = record m {
  regs = arrived rd (picked width address (word_given from space address m)) m.regs;
  loads = other_loads m.loads;
  asked = m.asked ++ effect.Load space width rd address ∷ [];
}
effected from (effect.Store space width address value) m =
    record (stored space width address value m) { asked = m.asked ++ effect.Store space width address value ∷ [] }
effected from (effect.StackOp func count) m =
    record (stacked func count m) { asked = m.asked ++ effect.StackOp func count ∷ [] }
effected from (effect.Flow flow) m = record m { ways = m.ways ++ way_of flow ∷ [] }

-- read late: what is pending before the bundle comes in it, and what the bundle leaves is pending after it
abbrev pub late : Sources → PlainBundle → Run → Run
late from b m = effected from (effect_of b m.regs) (record m { regs = after_bundle m.st m.ss b m.regs })

-- what is pending comes
abbrev pub settled : Registers → Registers
settled regs = record (after_writes (came regs.pending ∷ []) regs) { pending = pending.Nothing }

abbrev pub with_settled : Run → Run
with_settled m = record m { regs = settled m.regs }

-- read at once
abbrev pub once : Sources → PlainBundle → Run → Run
once from b m = with_settled (late from b m)

-- ---- a trail

-- after a call's delay slots the place to which its function returns is set
abbrev pub begun : Run → Run
begun m = record m {
  regs = record m.regs { srb = (first_back m.backs).base; sro = (first_back m.backs).offset };
  backs = other_backs m.backs;
}

abbrev pub run_late : Sources → List Step → Run → Run
run_late from [] m = m
run_late from (does b ∷ steps) m = run_late from steps (late from b m)
run_late from (begins ∷ steps) m = run_late from steps (begun m)

abbrev pub run : Sources → List Step → Run → Run
run from [] m = m
run from (does b ∷ steps) m = run from steps (once from b m)
run from (begins ∷ steps) m = run from steps (begun m)

-- a task begins with registers of 0, an empty stack and these words, and is given these values
abbrev pub at_begin : Memory → List ℕ → List Back → Run
at_begin memory loads backs = record {
  regs = at_start;
  st = STACK_END;
  ss = STACK_END;
  stack = λ _. 0;
  memory = memory;
  loads = loads;
  backs = backs;
  asked = [];
  ways = [];
}

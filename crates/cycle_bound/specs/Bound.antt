-- To be believed. The bound of a shape at a place: how many cycles a core needs at most for its bundles
-- and for all transactions with main memory that they may make, each of which waits for a slot of the
-- core and takes one (after the timing of Schoeberl et al., T-CREST, 2015; the numbers are our own
-- profile TP1's). it is stated over whole numbers without limit.
use Rattle.std.specs.Prelude.{ℕ, zero, suc, ◌+◌, ◌*◌, ◌/◌, ◌==◌, min, if◌then◌else◌, List, [], ◌∷◌, length, slice_index_or}
use Rattle.patmos_instr.specs.Bundles.{PlainBundle}
use Rattle.patmos_instr.specs.declared.functions.StackFunc.{StackFunc}
use Rattle.patmos_instr.specs.declared.functions.StackFunc.TheVariants.{Sres, Sens, Sfree}
use Rattle.patmos_instr.specs.declared.instructions.Op.{Op}
use Rattle.patmos_instr.specs.declared.instructions.Op.TheVariants.{Load, Store, Stack}
use Rattle.patmos_instr.specs.declared.memories.Mem.{Mem}
use Rattle.patmos_instr.specs.declared.memories.Mem.TheVariants as mem
use Rattle.stack_cache.specs.declared.slots.TheConstants.{STACK_CACHE_WORDS}
use Rattle.sp_shape.specs.Words.{parts_words}
use Rattle.sp_shape.specs.Parts.{PlainPart, straight, repeats, calls_to, leaves, PlainParts, no_part, part, PlainShape}

-- ---- transactions

-- a transaction moves up to four words
abbrev pub transactions : ℕ → ℕ
transactions words = (words + 3) / 4

-- what an access to a memory may take: caches are counted as if they never had the word
abbrev pub access_moves : Mem → ℕ
access_moves mem.C = 1
access_moves mem.M = 1
access_moves mem.S = 0
access_moves mem.L = 0

-- what a stack instruction may take: as many words as it names, and never more than the stack cache has
abbrev pub stack_moves : StackFunc → ℕ → ℕ
stack_moves Sres count = transactions (min count STACK_CACHE_WORDS)
stack_moves Sens count = transactions (min count STACK_CACHE_WORDS)
stack_moves Sfree count = 0

-- an instruction is counted whatever its guard
abbrev pub op_moves : Op → ℕ
op_moves (Load space width rd ra imm) = access_moves space
op_moves (Store space width ra rs imm) = access_moves space
op_moves (Stack func count) = stack_moves func count
op_moves _ = 0

-- the method cache fetches a function whole, its size word with it
abbrev pub fill_moves : List PlainParts → ℕ → ℕ
fill_moves fs k = transactions (1 + parts_words (slice_index_or fs k no_part))

-- ---- cycles, where a transaction takes so many at most

-- only the first slot can use a memory
abbrev pub bundle_bound : ℕ → PlainBundle → ℕ
bundle_bound each b = 1 + each * op_moves b.first.op

abbrev pub bundles_bound : ℕ → List PlainBundle → ℕ
bundles_bound each [] = 0
bundles_bound each (b ∷ bs) = bundle_bound each b + bundles_bound each bs

-- parts of the function of a number, over the bounds of the functions that it calls, and over what is
-- counted for the fetch of each: at a call the method cache may have to fetch the function that is
-- called, and after it the one that is returned to
abbrev mutual
  pub part_bound : ℕ → (ℕ → ℕ) → (ℕ → ℕ) → ℕ → PlainPart → ℕ
  part_bound each fill g own (straight bs) = bundles_bound each bs
  part_bound each fill g own (repeats count body tail) =
      count * (parts_bound each fill g own body + bundles_bound each tail)
  part_bound each fill g own (calls_to k tail) = bundles_bound each tail + (fill k + fill own + g k)
  part_bound each fill g own (leaves tail) = bundles_bound each tail

  pub parts_bound : ℕ → (ℕ → ℕ) → (ℕ → ℕ) → ℕ → PlainParts → ℕ
  parts_bound each fill g own no_part = 0
  parts_bound each fill g own (part p rest) = part_bound each fill g own p + parts_bound each fill g own rest

-- functions in order, each over the earlier ones
abbrev pub bounds : List PlainParts → ℕ → (ℕ → ℕ) → ℕ → ℕ → ℕ
bounds fs each fill zero k = 0
bounds fs each fill (suc n) k =
    if k == n then parts_bound each fill (bounds fs each fill n) n (slice_index_or fs n no_part)
    else bounds fs each fill n k

-- what the fetch of a function takes
abbrev pub fill_bound : ℕ → List PlainParts → ℕ → ℕ
fill_bound each fs k = each * fill_moves fs k

-- the entry has to be fetched, and is run; at calls and returns each fetch is counted
abbrev pub shape_bound : ℕ → PlainShape → ℕ
shape_bound each s =
    fill_bound each s.functions s.entry
    + bounds s.functions each (fill_bound each s.functions) (length s.functions) s.entry

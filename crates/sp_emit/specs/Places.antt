-- To be believed. Where the words of a frame stand, those that its tree names and the counters of iterations after them:
-- some in predicates; of the others the first ones in registers, from one on and before the flag of loops; those that
-- find none there in the stack, one after another from its top on.
use Rattle.std.specs.Prelude.{ℕ, ◌+◌, ◌-◌, ◌^◌, ◌==◌, nat_lt, max, min, Bool, false, if◌then◌else◌, zero, suc, List, [], ◌∷◌, ◌++◌, Option, None, Some, slice_index_or}
use Rattle.c_world.specs.Numbers.{flag}
use Rattle.patmos_instr.specs.Bundles.{PlainBundle}
use Rattle.patmos_instr.specs.declared.guards.Guard.{Guard}
use Rattle.patmos_instr.specs.declared.functions.CmpFunc.TheVariants as cmp
use Rattle.patmos_instr.specs.declared.functions.ImmFunc.TheVariants as imm
use Rattle.patmos_instr.specs.declared.functions.PredFunc.TheVariants as comb
use Rattle.patmos_instr.specs.declared.instructions.Op.{Op}
use Rattle.patmos_instr.specs.declared.instructions.Op.TheVariants.{AluImm, CmpImm, Load, Store}
use Rattle.patmos_instr.specs.declared.memories.Mem.TheVariants as mem
use Rattle.patmos_instr.specs.declared.memories.StoreWidth.TheVariants as store
use Rattle.patmos_instr.specs.declared.memories.Width.TheVariants as load
use Rattle.sp_tree.specs.Need.{need}
use Rattle.sp_tree.specs.Plain.{PlainSp}
use Rattle.sp_tree.specs.Statements.{PlainSpTarget, to_slot, to_cell, to_array, PlainStmt, masks, writes, calls, transfers, overruns, iterations, PlainStmts, no_stmt, stmt, PlainFunction, no_function}
use Rattle.sp_shape.specs.Run.{Run}
use Rattle.sp_emit.specs.Holding.{held, so}
use Rattle.sp_emit.specs.Instructions.{always, under, set_short, combine}
use Rattle.sp_emit.specs.declared.registers.TheConstants.{FIRST, SPARE, OVERRUN, TEST}
use Rattle.sp_emit.specs.declared.stands.Homes.{Homes}
use Rattle.sp_emit.specs.declared.stands.Flags.{Flags}

-- ---- places

-- the predicate in which a word stands: the first one of all in the first of four, and so on
abbrev pub is_that : Option ℕ → ℕ → Bool
is_that None slot = false
is_that (Some word) slot = word == slot

abbrev pub flag_in : List ℕ → List (Option ℕ) → ℕ → Option ℕ
flag_in (p ∷ preds) (word ∷ words) slot = if is_that word slot then Some p else flag_in preds words slot
flag_in _ _ slot = None

abbrev pub flag_words : Flags → List (Option ℕ)
flag_words flags = flags.first ∷ flags.second ∷ flags.third ∷ flags.fourth ∷ []

unfoldable pub flag_of : Flags → ℕ → Option ℕ
flag_of flags slot = flag_in (4 ∷ 5 ∷ 6 ∷ 7 ∷ []) (flag_words flags) slot

-- whether a word that stands in no predicate stands in a register, where the first one would stand in that of this number
abbrev pub in_register : ℕ → ℕ → Bool
in_register homes slot = nat_lt (homes + slot) OVERRUN

-- else in this word of the stack, from its top on: the first that finds no register in the first
abbrev pub stack_word : ℕ → ℕ → ℕ
stack_word homes slot = slot - (OVERRUN - homes)

-- what it holds
unfoldable pub word_of : ℕ → ℕ → Run → ℕ
word_of homes slot m = if in_register homes slot then held (homes + slot) m else m.stack (m.st + stack_word homes slot)

-- what a word holds, wherever it stands
abbrev pub held_in : Option ℕ → ℕ → ℕ → Run → ℕ
held_in (Some p) homes slot m = flag (so p m)
held_in None homes slot m = word_of homes slot m

abbrev pub shown_word : Homes → ℕ → Run → ℕ
shown_word homes slot m = held_in (flag_of homes.flags slot) homes.first slot m

-- ---- bundles

-- a register gets what a word holds that stands in no predicate
unfoldable pub read_op : ℕ → ℕ → ℕ → Op
read_op homes rd slot =
    if in_register homes slot then AluImm imm.Add rd (homes + slot) 0 else Load mem.S load.Word rd 0
    (stack_word homes slot)

abbrev pub read_word : ℕ → ℕ → ℕ → PlainBundle
read_word homes rd slot = under always (read_op homes rd slot)

-- the spare register gets what a word of the stack holds; a word in a register is used there
unfoldable pub fetch_op : ℕ → ℕ → Op
fetch_op homes slot =
    if in_register homes slot then AluImm imm.Add 0 0 0 else Load mem.S load.Word SPARE 0 (stack_word homes slot)

abbrev pub fetch_word : ℕ → ℕ → PlainBundle
fetch_word homes slot = under always (fetch_op homes slot)

abbrev pub fetched_at : ℕ → ℕ → ℕ
fetched_at homes slot = if in_register homes slot then homes + slot else SPARE

-- and goes back to the stack from there
unfoldable pub keep_op : ℕ → ℕ → Op
keep_op homes slot =
    if in_register homes slot then AluImm imm.Add 0 0 0 else Store mem.S store.Word 0 SPARE (stack_word homes slot)

abbrev pub keep_word : ℕ → ℕ → PlainBundle
keep_word homes slot = under always (keep_op homes slot)

-- a word gets what a register holds
unfoldable pub set_op : ℕ → ℕ → ℕ → Op
set_op homes slot rs =
    if in_register homes slot then AluImm imm.Add (homes + slot) rs 0 else Store mem.S store.Word 0 rs
    (stack_word homes slot)

abbrev pub set_word : ℕ → Guard → ℕ → ℕ → PlainBundle
set_word homes guard slot rs = under guard (set_op homes slot rs)

-- those of the first so many words that stand in predicates and in registers are set to 0
unfoldable pub cleared_in : Option ℕ → ℕ → ℕ → List PlainBundle
cleared_in (Some p) homes slot = combine comb.Pxor p 0 0 ∷ []
cleared_in None homes slot = if in_register homes slot then set_short always (homes + slot) 0 ∷ [] else []

abbrev pub word_cleared : Homes → ℕ → List PlainBundle
word_cleared homes slot = cleared_in (flag_of homes.flags slot) homes.first slot

abbrev pub words_cleared : Homes → ℕ → List PlainBundle
words_cleared homes zero = []
words_cleared homes (suc n) = words_cleared homes n ++ word_cleared homes n

-- ---- whether a mask is 1

-- it is where its predicate is true, and nothing is done; else it is compared where it stands in a register, or where it is
-- loaded to. Scheduling leaves out what does nothing
unfoldable pub seek_op : Option ℕ → ℕ → ℕ → Op
seek_op (Some p) homes mask = AluImm imm.Add 0 0 0
seek_op None homes mask = fetch_op homes mask

abbrev pub seek_word : Homes → ℕ → PlainBundle
seek_word homes mask = under always (seek_op (flag_of homes.flags mask) homes.first mask)

unfoldable pub match_op : Option ℕ → ℕ → ℕ → Op
match_op (Some p) homes mask = AluImm imm.Add 0 0 0
match_op None homes mask = CmpImm cmp.Eq TEST (fetched_at homes mask) 1

abbrev pub match_word : Homes → ℕ → PlainBundle
match_word homes mask = under always (match_op (flag_of homes.flags mask) homes.first mask)

abbrev pub mask_test : Homes → ℕ → List PlainBundle
mask_test homes mask = seek_word homes mask ∷ match_word homes mask ∷ []

-- the predicate that says it
abbrev pub told_in : Option ℕ → ℕ
told_in (Some p) = p
told_in None = TEST

abbrev pub told_at : Homes → ℕ → ℕ
told_at homes mask = told_in (flag_of homes.flags mask)

-- a number as a word counts it, which ends at the greatest
abbrev pub capped : ℕ → ℕ
capped n = min n (2 ^ 32 - 1)

-- ---- from which register on: after those that values take, and the windows of the functions that are called

abbrev pub args_least : List PlainSp → ℕ → ℕ
args_least [] rd = rd
args_least (e ∷ args) rd = max (rd + need e) (args_least args (rd + 1))

abbrev pub target_least : PlainSpTarget → ℕ
target_least (to_slot slot) = 0
target_least (to_cell cell) = 0
target_least (to_array array index) = FIRST + 1 + need index

-- a call over where the windows of the earlier functions end, in their order
abbrev mutual
  pub stmt_least : List ℕ → PlainStmt → ℕ
  stmt_least tops (masks slot e) = FIRST + need e
  stmt_least tops (writes mask target e) = max (FIRST + need e) (target_least target)
  stmt_least tops (calls mask k args result) = max (slice_index_or tops k 0) (args_least args FIRST)
  stmt_least tops (transfers mask core source target count) =
      max (FIRST + 4) (max (FIRST + need source) (max (FIRST + 1 + need target) (FIRST + 2 + need count)))
  stmt_least tops (overruns mask e) = FIRST + need e
  stmt_least tops (iterations count body) = max FIRST (stmts_least tops body)

  pub stmts_least : List ℕ → PlainStmts → ℕ
  stmts_least tops no_stmt = 0
  stmts_least tops (stmt t rest) = max (stmt_least tops t) (stmts_least tops rest)

abbrev pub homes_over : List ℕ → PlainFunction → ℕ
homes_over tops f = max (FIRST + f.parameters) (stmts_least tops f.body)

-- where the window of a function ends, that of its words and its counters: at most at the flag of loops
abbrev pub top_from : ℕ → PlainFunction → ℕ
top_from homes f = min OVERRUN (homes + (f.frame - 2))

abbrev pub top_over : List ℕ → PlainFunction → ℕ
top_over tops f = top_from (homes_over tops f) f

-- where the windows of the first so many functions end, each over the earlier ones
abbrev pub tops : List PlainFunction → ℕ → List ℕ
tops fs zero = []
tops fs (suc n) = tops fs n ++ top_over (tops fs n) (slice_index_or fs n no_function) ∷ []

-- from where that of a function begins, and where it ends
abbrev pub homes_of : List PlainFunction → ℕ → ℕ
homes_of fs k = homes_over (tops fs k) (slice_index_or fs k no_function)

abbrev pub top_of : List PlainFunction → ℕ → ℕ
top_of fs k = top_over (tops fs k) (slice_index_or fs k no_function)

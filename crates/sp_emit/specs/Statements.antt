-- To be believed. The code of statements. Where a mask is not 1, a word of the stack, the scratchpad,
-- communication memory and the interface is not stored; and a word of main memory is stored at word 0, which
-- nothing else uses: so the bundles and the transactions are the same.
use Rattle.std.specs.Prelude.{ℕ, ◌+◌, ◌-◌, ◌*◌, if◌then◌else◌, List, [], ◌∷◌, ◌++◌, Option, None, Some}
use Rattle.patmos_instr.specs.Bundles.{PlainBundle}
use Rattle.patmos_instr.specs.declared.functions.AluFunc.TheVariants as alu
use Rattle.patmos_instr.specs.declared.functions.CmpFunc.TheVariants as cmp
use Rattle.patmos_instr.specs.declared.functions.ImmFunc.TheVariants as imm
use Rattle.patmos_instr.specs.declared.functions.PredFunc.TheVariants as comb
use Rattle.patmos_instr.specs.declared.functions.StackFunc.TheVariants.{Sens}
use Rattle.patmos_instr.specs.declared.instructions.Op.{Op}
use Rattle.patmos_instr.specs.declared.memories.Mem.{Mem}
use Rattle.patmos_instr.specs.declared.memories.Mem.TheVariants as mem
use Rattle.sp_tree.specs.Plain.{PlainSp}
use Rattle.sp_tree.specs.Statements.{PlainSpTarget, to_slot, to_cell, to_array, PlainStmt, masks, writes, calls, transfers, overruns, iterations, PlainStmts, no_stmt, stmt}
use Rattle.sp_tree.specs.declared.expressions.SpArray.{SpArray}
use Rattle.sp_tree.specs.declared.expressions.SpCell.{SpCell}
use Rattle.sp_shape.specs.Parts.{PlainPart, straight, repeats, calls_to, PlainParts, no_part, one, joined}
use Rattle.sp_emit.specs.Endings.{last_op}
use Rattle.sp_emit.specs.Expressions.{address_of, cell_space, array_space, length_op, below_op, offset_of, base_op, scaled_op, at_word_0, operands_code, expr_to, expr_code}
use Rattle.sp_emit.specs.Instructions.{always, where_so, under, idle, set_long, set_number, set_short, compute, with_short, compare, compare_short, combine, stack_op, store_to, branch, call}
use Rattle.sp_emit.specs.Places.{flag_of, in_register, read_word, fetch_word, fetched_at, keep_word, set_word, mask_test, told_at}
use Rattle.sp_emit.specs.Truths.{flag_code}
use Rattle.sp_emit.specs.declared.registers.TheConstants.{RESULT, MASK, FIRST, SPARE, OVERRUN, TEST, SECOND, MORE}
use Rattle.sp_emit.specs.declared.stands.Homes.{Homes}

-- ---- what is set: the value stands in the first register, an index in the one after it

abbrev pub slot_write : Homes → ℕ → ℕ → List PlainBundle
slot_write homes mask slot =
    mask_test homes mask ++ set_word homes.first (where_so (told_at homes mask)) slot FIRST ∷ []

-- a store so many words after the address in a register: off the predicate it is not made, or is made at word 0
abbrev pub masked_store : ℕ → Mem → ℕ → ℕ → List PlainBundle
masked_store p mem.S at words = []
masked_store p mem.L at words = store_to (where_so p) mem.L at FIRST words ∷ []
masked_store p mem.C at words = at_word_0 p at words ∷ store_to always mem.C at FIRST words ∷ []
masked_store p mem.M at words = at_word_0 p at words ∷ store_to always mem.M at FIRST words ∷ []

abbrev pub cell_write : Homes → ℕ → SpCell → List PlainBundle
cell_write homes mask c =
    mask_test homes mask
    ++ set_number SPARE (address_of c.region c.word) ∷ masked_store (told_at homes mask) (cell_space c.region) SPARE 0

abbrev pub element_write : Homes → ℕ → SpArray → List PlainBundle
element_write homes mask a =
    mask_test homes mask
    ++ under always (length_op a.length)
    ∷ under always (below_op SECOND (FIRST + 1) a.length)
    ∷ combine comb.Pand TEST (told_at homes mask) SECOND
    ∷ under always (base_op a)
    ∷ under always (scaled_op a (FIRST + 1) (FIRST + 1))
    ∷ masked_store TEST (array_space a.region) (FIRST + 1) (offset_of a)

abbrev pub target_write : Homes → ℕ → PlainSpTarget → PlainParts
target_write homes mask (to_slot slot) = one (straight (slot_write homes mask slot))
target_write homes mask (to_cell cell) = one (straight (cell_write homes mask cell))
target_write homes mask (to_array array index) =
    joined (expr_code homes index (FIRST + 1)) (one (straight (element_write homes mask array)))

-- a value that is worked out under no mask, and its instruction under one
abbrev pub guarded_code : Homes → ℕ → PlainSp → Op → PlainParts
guarded_code homes mask e op =
    joined (operands_code homes e FIRST)
    (one (straight (mask_test homes mask ++ under (where_so (told_at homes mask)) op ∷ [])))

-- so a word of the frame is set that stands in a register, where the value ends in one instruction
abbrev pub straight_op : Homes → PlainSpTarget → PlainSp → Option Op
straight_op homes (to_slot slot) e =
    if in_register homes.first slot then last_op homes e FIRST (homes.first + slot) else None
straight_op homes target e = None

abbrev pub write_by : Homes → ℕ → PlainSpTarget → PlainSp → Option Op → PlainParts
write_by homes mask target e None = joined (expr_code homes e FIRST) (target_write homes mask target)
write_by homes mask target e (Some op) = guarded_code homes mask e op

abbrev pub write_code : Homes → ℕ → PlainSpTarget → PlainSp → PlainParts
write_code homes mask target e = write_by homes mask target e (straight_op homes target e)

-- ---- calls

-- the arguments stand one after another, from a register on
abbrev pub args_code : Homes → List PlainSp → ℕ → PlainParts
args_code homes [] rd = no_part
args_code homes (e ∷ args) rd = joined (expr_code homes e rd) (args_code homes args (rd + 1))

-- the word of a mask is handed with its lowest bit inverted
unfoldable pub handed_in : Option ℕ → ℕ → ℕ → List PlainBundle
handed_in (Some p) homes mask = set_short always MASK 1 ∷ set_short (where_so p) MASK 0 ∷ []
handed_in None homes mask = read_word homes MASK mask ∷ with_short always imm.Xor MASK MASK 1 ∷ []

abbrev pub mask_handed : Homes → ℕ → List PlainBundle
mask_handed homes mask = handed_in (flag_of homes.flags mask) homes.first mask

abbrev pub call_tail : List PlainBundle
call_tail = call ∷ idle ∷ idle ∷ idle ∷ []

-- after the call the words of the own frame are brought back, and the result is set where the mask is 1
abbrev pub result_write : Homes → ℕ → Option ℕ → List PlainBundle
result_write homes mask None = []
result_write homes mask (Some slot) =
    mask_test homes mask ++ set_word homes.first (where_so (told_at homes mask)) slot RESULT ∷ []

abbrev pub after_call : Homes → ℕ → ℕ → Option ℕ → List PlainBundle
after_call homes frame mask result = stack_op Sens frame ∷ result_write homes mask result

abbrev pub way_to : ℕ → PlainPart
way_to k = calls_to k call_tail

abbrev pub call_code : Homes → ℕ → ℕ → ℕ → Option ℕ → PlainParts
call_code homes frame mask k result =
    joined (one (straight (mask_handed homes mask)))
    (joined (one (way_to k)) (one (straight (after_call homes frame mask result))))

-- ---- sends

-- source, target and count stand one after another. 512 words has a communication memory; a count of 0 less 1 is past
-- all counts
abbrev pub send_test : ℕ → List PlainBundle
send_test p =
    set_long SPARE 512
    ∷ with_short always imm.Sub (FIRST + 3) (FIRST + 2) 1
    ∷ compare cmp.Ult SECOND (FIRST + 3) SPARE
    ∷ combine comb.Pand TEST p SECOND
    ∷ compute always alu.Sub SPARE SPARE (FIRST + 2)
    ∷ compare cmp.Ule SECOND FIRST SPARE
    ∷ combine comb.Pand TEST TEST SECOND
    ∷ compare cmp.Ule SECOND (FIRST + 1) SPARE
    ∷ combine comb.Pand TEST TEST SECOND
    ∷ []

-- the registers of the interface for a core: 16 bytes each
abbrev pub send_start : ℕ → List PlainBundle
send_start core =
    set_long SPARE (0x20000 + 16 * core)
    ∷ store_to (where_so TEST) mem.L SPARE FIRST 0
    ∷ store_to (where_so TEST) mem.L SPARE (FIRST + 1) 1
    ∷ store_to (where_so TEST) mem.L SPARE (FIRST + 2) 2
    ∷ []

abbrev pub send_code : Homes → ℕ → ℕ → List PlainBundle
send_code homes mask core = (mask_test homes mask ++ send_test (told_at homes mask)) ++ send_start core

-- ---- loops

abbrev pub overrun_code : Homes → ℕ → List PlainBundle
overrun_code homes mask =
    mask_test homes mask
    ++ compare_short cmp.Neq SECOND FIRST 0
    ∷ combine comb.Pand TEST (told_at homes mask) SECOND
    ∷ set_short (where_so TEST) OVERRUN 1
    ∷ []

-- the iterations that are left stand in a word of the frame, and are counted in its register or in the spare one
abbrev pub iterations_begin : ℕ → ℕ → ℕ → List PlainBundle
iterations_begin homes counter count = set_number (fetched_at homes counter) count ∷ keep_word homes counter ∷ []

abbrev pub iterations_tail : ℕ → ℕ → List PlainBundle
iterations_tail homes counter =
    fetch_word homes counter
    ∷ with_short always imm.Sub (fetched_at homes counter) (fetched_at homes counter) 1
    ∷ keep_word homes counter
    ∷ compare_short cmp.Neq MORE (fetched_at homes counter) 0
    ∷ branch MORE
    ∷ idle
    ∷ idle
    ∷ []

-- ---- statements of a function that takes so many words of the stack, and where the next counter of iterations stands;
-- those inside stand before it

abbrev pub slot_set : ℕ → ℕ → PlainParts
slot_set homes slot = one (straight (set_word homes always slot FIRST ∷ []))

-- a word that is set in any case: where it stands in a predicate, its truth goes there, and where it stands in a register,
-- the value goes straight there
abbrev pub mask_by : Option ℕ → Homes → ℕ → PlainSp → PlainParts
mask_by (Some p) homes slot e = flag_code homes p e
mask_by None homes slot e =
    if in_register homes.first slot then expr_to homes e FIRST (homes.first + slot)
    else joined (expr_code homes e FIRST) (slot_set homes.first slot)

abbrev pub mask_code : Homes → ℕ → PlainSp → PlainParts
mask_code homes slot e = mask_by (flag_of homes.flags slot) homes slot e

abbrev mutual
  pub stmt_code : Homes → ℕ → ℕ → PlainStmt → PlainParts
  stmt_code homes frame counter (masks slot e) = mask_code homes slot e
  stmt_code homes frame counter (writes mask target e) = write_code homes mask target e
  stmt_code homes frame counter (calls mask k args result) =
      joined (args_code homes args FIRST) (call_code homes frame mask k result)
  stmt_code homes frame counter (transfers mask core source target count) =
      joined (expr_code homes source FIRST)
      (joined (expr_code homes target (FIRST + 1))
      (joined (expr_code homes count (FIRST + 2)) (one (straight (send_code homes mask core)))))
  stmt_code homes frame counter (overruns mask e) =
      joined (expr_code homes e FIRST) (one (straight (overrun_code homes mask)))
  stmt_code homes frame counter (iterations count body) =
      joined (one (straight (iterations_begin homes.first counter count)))
      (one (repeats count (stmts_code homes frame (counter - 1) body) (iterations_tail homes.first counter)))

  pub stmts_code : Homes → ℕ → ℕ → PlainStmts → PlainParts
  stmts_code homes frame counter no_stmt = no_part
  stmts_code homes frame counter (stmt t rest) =
      joined (stmt_code homes frame counter t) (stmts_code homes frame counter rest)

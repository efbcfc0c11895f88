-- To be believed. Well-formed units: each call names an earlier function and gives it as many arguments as
-- it has parameters, and all that is named is there.
use Rattle.std.specs.Prelude.{ℕ, zero, suc, ◌+◌, ◌-◌, ◌==◌, nat_lt, nat_le, max, Bool, true, ◌&&◌, List, [], ◌∷◌, length, Option, None, Some, slice_index_or}
use Rattle.c_world.specs.Shown.{Rooms, fresh_rooms, room_in}
use Rattle.c_world.specs.declared.region.Region.{Region}
use Rattle.c_world.specs.declared.region.Region.TheVariants as region
use Rattle.sp_tree.specs.declared.expressions.SpArray.{SpArray}
use Rattle.sp_tree.specs.declared.expressions.SpCell.{SpCell}
use Rattle.slot_arbiter.specs.declared.table.TheConstants.{MOST_CORES}
use Rattle.local_store.specs.declared.store.TheConstants.{DATA_WORDS, FIRST_DATA_WORD}
use Rattle.sp_tree.specs.declared.limits.TheConstants.{MOST_FRAME, MOST_FUNCTIONS, MOST_PARAMETERS, MOST_NEED}
use Rattle.sp_tree.specs.Need.{need}
use Rattle.sp_tree.specs.Plain.{PlainSp, constant, frame_word, cell_word, array_word, before_one, between_two}
use Rattle.sp_tree.specs.Uses.{uses_of, are_apart}
use Rattle.sp_tree.specs.Statements.{PlainSpTarget, to_slot, to_cell, to_array, PlainStmt, masks, writes, calls, transfers, overruns, iterations, PlainStmts, no_stmt, stmt, PlainFunction, no_function, PlainUnit}

-- ---- words of memories

-- how many words each memory has for variables and arrays
abbrev pub all_rooms : Rooms
all_rooms = fresh_rooms DATA_WORDS

-- the word of each memory from which they stand
abbrev pub first_of : Region → ℕ
first_of region.Private = FIRST_DATA_WORD
first_of _ = 0

abbrev pub cell_formed : SpCell → Bool
cell_formed c = nat_le (first_of c.region) c.word && nat_lt c.word (room_in c.region all_rooms)

abbrev pub array_formed : SpArray → Bool
array_formed a = nat_le (first_of a.region) a.first && nat_le (a.first + a.length) (room_in a.region all_rooms)

-- ---- expressions and targets, over the first so many words of a frame

abbrev pub names_words : ℕ → PlainSp → Bool
names_words slots (constant n) = true
names_words slots (frame_word slot) = nat_lt slot slots
names_words slots (cell_word cell) = cell_formed cell
names_words slots (array_word array index) = array_formed array && names_words slots index
names_words slots (before_one op of) = names_words slots of
names_words slots (between_two op a b) = names_words slots a && names_words slots b

-- it names words that are there, and registers suffice for it
abbrev pub expr_formed : ℕ → PlainSp → Bool
expr_formed slots e = names_words slots e && nat_le (need e) MOST_NEED

abbrev pub args_formed : ℕ → List PlainSp → Bool
args_formed slots [] = true
args_formed slots (e ∷ args) = expr_formed slots e && args_formed slots args

abbrev pub target_formed : ℕ → PlainSpTarget → Bool
target_formed slots (to_slot slot) = nat_lt slot slots
target_formed slots (to_cell cell) = cell_formed cell
target_formed slots (to_array array index) = array_formed array && expr_formed slots index

-- ---- statements of the function of a number

abbrev pub result_formed : ℕ → Option ℕ → Bool
result_formed slots None = true
result_formed slots (Some slot) = nat_lt slot slots

-- an earlier function, with as many arguments as it has parameters
abbrev pub callee_formed : List PlainFunction → ℕ → ℕ → ℕ → Bool
callee_formed fs number k args = nat_lt k number && (args == (slice_index_or fs k no_function).parameters)

abbrev pub send_formed : ℕ → ℕ → PlainSp → PlainSp → PlainSp → Bool
send_formed slots core source target count =
    nat_lt core MOST_CORES && (expr_formed slots source && (expr_formed slots target && expr_formed slots count))

abbrev mutual
  pub stmt_formed : List PlainFunction → ℕ → ℕ → PlainStmt → Bool
  stmt_formed fs number slots (masks slot e) = nat_lt slot slots && expr_formed slots e
  stmt_formed fs number slots (writes mask target e) =
      nat_lt mask slots && (target_formed slots target && expr_formed slots e)
  stmt_formed fs number slots (calls mask k args result) =
      nat_lt mask slots && (callee_formed fs number k (length args)
      && (args_formed slots args && result_formed slots result))
  stmt_formed fs number slots (transfers mask core source target count) =
      nat_lt mask slots && send_formed slots core source target count
  stmt_formed fs number slots (overruns mask e) = nat_lt mask slots && expr_formed slots e
  stmt_formed fs number slots (iterations count body) = nat_lt 0 count && stmts_formed fs number slots body

  pub stmts_formed : List PlainFunction → ℕ → ℕ → PlainStmts → Bool
  stmts_formed fs number slots no_stmt = true
  stmts_formed fs number slots (stmt t rest) = stmt_formed fs number slots t && stmts_formed fs number slots rest

-- ---- functions

-- how many levels of iterations stand inside one another
abbrev mutual
  pub stmt_levels : PlainStmt → ℕ
  stmt_levels (iterations count body) = 1 + stmts_levels body
  stmt_levels _ = 0

  pub stmts_levels : PlainStmts → ℕ
  stmts_levels no_stmt = 0
  stmts_levels (stmt t rest) = max (stmt_levels t) (stmts_levels rest)

-- the last words of a frame are for code: one for the iterations of each level, and two for the place to which the function
-- returns. A tree names the words below them
abbrev pub slots_of : PlainFunction → ℕ
slots_of f = f.frame - (stmts_levels f.body + 2)

-- its mask and its result are no parameters
abbrev pub function_formed : List PlainFunction → ℕ → PlainFunction → Bool
function_formed fs number f =
    nat_le f.frame MOST_FRAME && (nat_le f.parameters MOST_PARAMETERS
    && (nat_le f.parameters f.mask && (nat_lt f.mask (slots_of f)
    && (nat_le f.parameters f.result && (nat_lt f.result (slots_of f) && stmts_formed fs number (slots_of f) f.body)))))

-- the first so many of them
abbrev pub functions_formed : List PlainFunction → ℕ → Bool
functions_formed fs zero = true
functions_formed fs (suc n) = functions_formed fs n && function_formed fs n (slice_index_or fs n no_function)

-- ---- units

-- the entry is there and has no parameters
abbrev pub entry_formed : PlainUnit → Bool
entry_formed u =
    nat_lt u.entry (length u.functions) && ((slice_index_or u.functions u.entry no_function).parameters == 0)

-- the first words and the input lie where variables and arrays stand
abbrev pub data_formed : PlainUnit → Bool
data_formed u =
    nat_le (FIRST_DATA_WORD + length u.initial) DATA_WORDS
    && (nat_le FIRST_DATA_WORD u.input_at && nat_le (u.input_at + u.input_room) DATA_WORDS)

abbrev pub is_formed : PlainUnit → Bool
is_formed u =
    nat_le (length u.functions) MOST_FUNCTIONS && (functions_formed u.functions (length u.functions)
    && (entry_formed u && (data_formed u && are_apart (uses_of u))))

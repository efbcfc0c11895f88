-- To be believed. Which words of a function's frame stand in predicates: such as are set to truths alone, and by no write.
use Rattle.std.specs.Prelude.{◌≡◌, ◌≤◌, ℕ, zero, suc, ◌+◌, ◌*◌, ◌==◌, ◌&&◌, ◌||◌, nat_le, nat_lt, Bool, true, false, not, if◌then◌else◌, List, [], ◌∷◌, ◌++◌, Option, None, Some, is_none, is_some, slice_index_or, max}
use Rattle.std.specs.List.{list_all}
use Rattle.sp_tree.specs.Formed.{slots_of}
use Rattle.sp_tree.specs.MaskTests.{tests_mask}
use Rattle.sp_tree.specs.Plain.{PlainSp, constant, frame_word, cell_word, array_word, before_one, between_two}
use Rattle.sp_tree.specs.Statements.{PlainSpTarget, to_slot, PlainStmt, masks, writes, calls, transfers, overruns, iterations, PlainStmts, no_stmt, stmt, PlainFunction, no_function}
use Rattle.sp_emit.specs.Places.{flag_of, flag_words, capped}
use Rattle.sp_emit.specs.Truths.{bits_of, is_test, is_truth}
use Rattle.sp_emit.specs.declared.flags.Choice.{Choice}
use Rattle.sp_emit.specs.declared.registers.TheConstants.{FLAGS}
use Rattle.sp_emit.specs.declared.stands.Flags.{Flags}

-- ---- when they may

-- a statement hinders them: it writes one, sets one to what is no truth, or sets one to what a function gives
abbrev pub target_hinders : Flags → PlainSpTarget → Bool
target_hinders flags (to_slot slot) = is_some (flag_of flags slot)
target_hinders flags _ = false

abbrev pub result_hinders : Flags → Option ℕ → Bool
result_hinders flags None = false
result_hinders flags (Some slot) = is_some (flag_of flags slot)

abbrev mutual
  pub stmt_hinders : Flags → PlainStmt → Bool
  stmt_hinders flags (masks slot e) = is_some (flag_of flags slot) && not (is_truth flags e)
  stmt_hinders flags (writes mask target e) = target_hinders flags target
  stmt_hinders flags (calls mask k args result) = result_hinders flags result
  stmt_hinders flags (iterations count body) = stmts_hinder flags body
  stmt_hinders flags _ = false

  pub stmts_hinder : Flags → PlainStmts → Bool
  stmts_hinder flags no_stmt = false
  stmts_hinder flags (stmt t rest) = stmt_hinders flags t || stmts_hinder flags rest

-- ---- the mask of a function: it stands in a predicate where its first statement tests it. What a function begins with
-- does that, so its code has no bundles for this statement

abbrev pub behind_first : PlainStmts → PlainStmts
behind_first no_stmt = no_stmt
behind_first (stmt t rest) = rest

abbrev pub begun_body : Flags → PlainFunction → PlainStmts
begun_body flags f = if is_some (flag_of flags f.mask) then behind_first f.body else f.body

abbrev pub is_past : ℕ → Option ℕ → Bool
is_past n None = true
is_past n (Some word) = nat_le n word

abbrev pub function_stands : Flags → PlainFunction → Bool
function_stands flags f =
    is_none (flag_of flags f.result) && (list_all (is_past f.parameters) (flag_words flags)
    && ((is_none (flag_of flags f.mask) || tests_mask f.mask f.body) && not (stmts_hinder flags (begun_body flags f))))

-- ---- which do: of its own mask and the words after it those that are set to what may be truths alone; of these, in the
-- order of their numbers, as many after one another as there are such predicates, which the function names most

-- a value that is a truth if the words in it are
abbrev pub may_be : ℕ → PlainSp → Bool
may_be mask (constant n) = nat_le n 1
may_be mask (frame_word slot) = nat_le mask slot
may_be mask (before_one op of) = is_test (before_one op of)
may_be mask (between_two op a b) =
    is_test (between_two op a b) || (is_some (bits_of op) && (may_be mask a && may_be mask b))
may_be mask _ = false

-- a word is set to what is none, or by a write
abbrev pub is_target : ℕ → PlainSpTarget → Bool
is_target slot (to_slot word) = word == slot
is_target slot _ = false

abbrev mutual
  pub stmt_spoils : ℕ → ℕ → PlainStmt → Bool
  stmt_spoils mask slot (masks word e) = word == slot && not (may_be mask e)
  stmt_spoils mask slot (writes under target e) = is_target slot target
  stmt_spoils mask slot (iterations count body) = stmts_spoil mask slot body
  stmt_spoils mask slot _ = false

  pub stmts_spoil : ℕ → ℕ → PlainStmts → Bool
  stmts_spoil mask slot no_stmt = false
  stmts_spoil mask slot (stmt t rest) = stmt_spoils mask slot t || stmts_spoil mask slot rest

-- how often a word is named as a mask, and in what masks are set to; in a loop eight times as often
abbrev pub named_as : ℕ → ℕ → ℕ
named_as slot word = if word == slot then 1 else 0

abbrev pub expr_names : ℕ → PlainSp → ℕ
expr_names slot (constant n) = 0
expr_names slot (frame_word word) = named_as slot word
expr_names slot (cell_word cell) = 0
expr_names slot (array_word array index) = expr_names slot index
expr_names slot (before_one op of) = expr_names slot of
expr_names slot (between_two op a b) = expr_names slot a + expr_names slot b

abbrev mutual
  pub stmt_names : ℕ → PlainStmt → ℕ
  stmt_names slot (masks word e) = named_as slot word + expr_names slot e
  stmt_names slot (writes mask target e) = named_as slot mask
  stmt_names slot (calls mask k args result) = named_as slot mask
  stmt_names slot (transfers mask core source target count) = named_as slot mask
  stmt_names slot (overruns mask e) = named_as slot mask
  stmt_names slot (iterations count body) = 8 * stmts_name slot body

  pub stmts_name : ℕ → PlainStmts → ℕ
  stmts_name slot no_stmt = 0
  stmts_name slot (stmt t rest) = stmt_names slot t + stmts_name slot rest

-- what passes 2^32 - 1 is counted as that
abbrev pub times_named : PlainFunction → Option ℕ → ℕ
times_named f None = 0
times_named f (Some slot) = capped (stmts_name slot f.body)

abbrev pub flags_named : PlainFunction → Flags → ℕ
flags_named f flags =
    (times_named f flags.first + times_named f flags.second) + (times_named f flags.third + times_named f flags.fourth)

abbrev pub may_stand : PlainFunction → ℕ → Bool
may_stand f slot =
    nat_le f.mask slot && (nat_lt 0 (times_named f (Some slot)) && not (stmts_spoil f.mask slot f.body))

abbrev pub no_flags : Flags
no_flags = record { first = None; second = None; third = None; fourth = None }

-- one word more: the first one goes where there are four
abbrev pub with_flag : Flags → ℕ → Flags
with_flag flags slot =
    if is_none flags.first then record flags { first = Some slot }
    else if is_none flags.second then record flags { second = Some slot }
    else if is_none flags.third then record flags { third = Some slot }
    else if is_none flags.fourth then record flags { fourth = Some slot }
    else record { first = flags.second; second = flags.third; third = flags.fourth; fourth = Some slot }

-- the last ones among the first so many words, and those that are named most
abbrev pub heavier : PlainFunction → Flags → Flags → Flags
heavier f best last = if nat_lt (flags_named f best) (flags_named f last) then last else best

abbrev pub next_choice : PlainFunction → Choice → ℕ → Choice
next_choice f c slot =
    let last = with_flag c.last slot in
    if may_stand f slot then record { last = last; best = heavier f c.best last } else c

abbrev pub first_choice : PlainFunction → ℕ → Choice
first_choice f zero = record { last = no_flags; best = no_flags }
first_choice f (suc n) = next_choice f (first_choice f n) n

-- so many of them, as many as may
abbrev pub if_within : ℕ → ℕ → Option ℕ → Option ℕ
if_within count i word = if nat_lt i count then word else None

abbrev pub first_flags : ℕ → Flags → Flags
first_flags count flags = record {
  first = if_within count 0 flags.first;
  second = if_within count 1 flags.second;
  third = if_within count 2 flags.third;
  fourth = if_within count 3 flags.fourth;
}

abbrev pub most_flags : ℕ → Flags → PlainFunction → Flags
most_flags zero flags f = first_flags 0 flags
most_flags (suc n) flags f =
    if function_stands (first_flags (suc n) flags) f then first_flags (suc n) flags else most_flags n flags f

-- ---- from which predicate on: after those that the code of the functions that are called may set

-- how many of the four these are, where so many are the most that each function's code may set, the first ones of them
abbrev mutual
  pub stmt_spared : List ℕ → PlainStmt → ℕ
  stmt_spared tops (calls mask k args result) = slice_index_or tops k 4
  stmt_spared tops (iterations count body) = stmts_spared tops body
  stmt_spared tops _ = 0

  pub stmts_spared : List ℕ → PlainStmts → ℕ
  stmts_spared tops no_stmt = 0
  stmts_spared tops (stmt t rest) = max (stmt_spared tops t) (stmts_spared tops rest)

-- the words of a function stand after the first so many of the four
abbrev pub AreAbove : ℕ → Flags → Type 0
AreAbove n flags = (slot p : ℕ) → flag_of flags slot ≡ Some p → FLAGS + n ≤ p

-- four words so many predicates further on
abbrev pub moved_up : ℕ → Flags → Flags
moved_up n flags =
    if n == 0 then flags
    else if n == 1 then record { first = None; second = flags.first; third = flags.second; fourth = flags.third }
    else if n == 2 then record { first = None; second = None; third = flags.first; fourth = flags.second }
    else if n == 3 then record { first = None; second = None; third = None; fourth = flags.first }
    else no_flags

-- how many of the four there are up to the last one that holds a word
abbrev pub flags_end : Flags → ℕ
flags_end flags =
    if is_some flags.fourth then 4
    else if is_some flags.third then 3
    else if is_some flags.second then 2
    else if is_some flags.first then 1
    else 0

-- the words of a function over the earlier ones
abbrev pub flags_from : ℕ → PlainFunction → Flags
flags_from base f = most_flags 4 (moved_up base (first_choice f (slots_of f)).best) f

abbrev pub flags_over : List ℕ → PlainFunction → Flags
flags_over tops f = flags_from (stmts_spared tops f.body) f

-- how many of the four its code may set, with those that it calls
abbrev pub flag_top : List ℕ → PlainFunction → ℕ
flag_top tops f = max (stmts_spared tops f.body) (flags_end (flags_over tops f))

-- the same of the first so many functions, each over the earlier ones
abbrev pub flag_tops : List PlainFunction → ℕ → List ℕ
flag_tops fs zero = []
flag_tops fs (suc n) = flag_tops fs n ++ flag_top (flag_tops fs n) (slice_index_or fs n no_function) ∷ []

abbrev pub flags_of : List PlainFunction → ℕ → Flags
flags_of fs k = flags_over (flag_tops fs k) (slice_index_or fs k no_function)

abbrev pub flag_top_of : List PlainFunction → ℕ → ℕ
flag_top_of fs k = flag_top (flag_tops fs k) (slice_index_or fs k no_function)

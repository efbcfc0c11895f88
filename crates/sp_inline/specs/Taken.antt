-- To be believed. Calls in loops, in the place of which the statements of their functions stand, over further words of
-- the frame, as far as the function keeps to so many words of code and of its frame.
use Rattle.std.specs.Prelude.{ℕ, zero, suc, ◌+◌, ◌-◌, ◌==◌, nat_lt, nat_le, max, Bool, true, false, not, if◌then◌else◌, ◌&&◌, List, [], ◌∷◌, ◌++◌, length, Option, None, Some, slice_index, slice_index_or}
use Rattle.sp_tree.specs.declared.operators.SpBinary.TheVariants as binary
use Rattle.sp_tree.specs.Cost.{args_cost, stmts_cost, cost}
use Rattle.sp_tree.specs.Formed.{stmts_levels, slots_of}
use Rattle.sp_tree.specs.MaskTests.{tests_mask}
use Rattle.sp_tree.specs.Plain.{PlainSp, constant, frame_word, between_two}
use Rattle.sp_tree.specs.Statements.{to_slot, PlainStmt, masks, writes, calls, iterations, PlainStmts, no_stmt, stmt, one, joined, PlainFunction, no_function, PlainUnit}
use Rattle.sp_inline.specs.declared.room.Room.{Room}
use Rattle.sp_inline.specs.Moved.{stmts_moved}
use Rattle.sp_inline.specs.Reach.{stmts_reach, stmts_calls}

-- ---- a call that is taken in

-- so many words from a place on: the arguments, and then 0
abbrev pub begun_words : ℕ → ℕ → List PlainSp → PlainStmts
begun_words at zero args = no_stmt
begun_words at (suc n) [] = stmt (masks at (constant 0)) (begun_words (at + 1) n [])
begun_words at (suc n) (e ∷ args) = stmt (masks at e) (begun_words (at + 1) n args)

-- the arguments, 0 up to the word of the mask, and there what the mask is
abbrev pub handed : ℕ → PlainSp → List PlainSp → List PlainSp
handed zero mask args = mask ∷ []
handed (suc n) mask [] = constant 0 ∷ handed n mask []
handed (suc n) mask (e ∷ args) = e ∷ handed n mask args

-- where a function begins by testing its mask, this is set to whether that of the call is 1, and where it does not, to that
-- itself
abbrev pub call_mask : Bool → ℕ → PlainSp
call_mask true mask = between_two binary.Equal (frame_word mask) (constant 1)
call_mask false mask = frame_word mask

-- and the statement that tests it is left out, as it is made already
abbrev pub entered : Bool → PlainStmts → PlainStmts
entered true (stmt t rest) = rest
entered true no_stmt = no_stmt
entered false ts = ts

-- what was given is set under the mask of the call
abbrev pub given_set : ℕ → Option ℕ → ℕ → PlainStmts
given_set mask None word = no_stmt
given_set mask (Some slot) word = one (writes mask (to_slot slot) (frame_word word))

abbrev pub call_statements : ℕ → PlainFunction → ℕ → List PlainSp → Option ℕ → PlainStmts
call_statements o f mask args result =
    let tests = tests_mask f.mask f.body in
    joined (begun_words o (slots_of f) (handed f.mask (call_mask tests mask) args))
    (joined (stmts_moved o (entered tests f.body)) (given_set mask result (o + f.result)))

-- a word is set in any case, which is not that of the result
abbrev pub is_other_mask : ℕ → PlainStmt → Bool
is_other_mask result (masks slot e) = not (slot == result)
is_other_mask result _ = false

-- whether the last statement is so, where the one before them is or is not
abbrev pub ends_so : ℕ → Bool → PlainStmts → Bool
ends_so result before no_stmt = before
ends_so result before (stmt t rest) = ends_so result (is_other_mask result t) rest

abbrev pub front : PlainStmts → PlainStmts
front no_stmt = no_stmt
front (stmt t no_stmt) = no_stmt
front (stmt t rest) = stmt t (front rest)

-- Nobody reads a mask that a function sets last, as a `return` does: where it is taken in, that statement is left out
abbrev pub short_body : ℕ → PlainStmts → PlainStmts
short_body result body = if ends_so result false body then front body else body

abbrev pub shortened : PlainFunction → PlainFunction
shortened f = record f { body = short_body f.result f.body }

-- ---- which calls are taken in

-- the functions before it, its own words, and the most words of its frame
pub record PlainCaller : Type 0 where
  pub functions : List PlainFunction
  pub words : ℕ
  pub frame : ℕ

pub record Taken : Type 0 where
  pub body : PlainStmts
  pub room : Room

abbrev pub with_room : PlainStmts → Room → Taken
with_room ts r = record { body = ts; room = r }

abbrev pub callee : PlainCaller → ℕ → PlainFunction
callee c k = slice_index_or c.functions k no_function

-- by how many words of code a function grows where these statements stand in the place of a call
abbrev pub growth : PlainStmts → List PlainSp → ℕ
growth more args = stmts_cost more - (16 + args_cost args)

abbrev pub room_of : ℕ → ℕ → ℕ → Room
room_of code own deepest = record { left = code; words = own; levels = deepest }

-- what is left after a call at this depth was taken in
abbrev pub room_after : PlainCaller → ℕ → Room → PlainFunction → PlainStmts → List PlainSp → Room
room_after c depth r f more args = record {
  left = r.left - growth more args;
  words = max r.words (c.words + slots_of f);
  levels = max r.levels (depth + stmts_levels f.body);
}

-- the function of a number names no words but its own, and calls earlier ones
abbrev pub is_whole : ℕ → PlainFunction → Bool
is_whole k f =
    nat_lt f.result (slots_of f) && (nat_le (stmts_reach f.body) (slots_of f)
    && (nat_le (stmts_calls f.body) k && nat_lt f.mask (slots_of f)))

-- it stands in a loop, and the function is an earlier one that is whole and has words for the arguments before that of its
-- mask
abbrev pub may_take : PlainCaller → ℕ → ℕ → List PlainSp → Bool
may_take c depth k args =
    nat_lt 0 depth && (nat_lt k (length c.functions)
    && (is_whole k (callee c k) && nat_le (length args) (callee c k).mask))

-- for so many words of code more, and for the words and levels after it
abbrev pub has_room : PlainCaller → Room → ℕ → Room → Bool
has_room c r grown after = nat_le grown r.left && nat_le (after.words + (after.levels + 2)) c.frame

abbrev pub is_taken : PlainCaller → ℕ → Room → ℕ → PlainStmts → List PlainSp → Bool
is_taken c depth r k more args =
    may_take c depth k args && has_room c r (growth more args) (room_after c depth r (callee c k) more args)

abbrev pub kept : Room → PlainStmt → Taken
kept r t = record { body = one t; room = r }

abbrev pub call_taken : PlainCaller → ℕ → Room → ℕ → ℕ → List PlainSp → Option ℕ → Taken
call_taken c depth r mask k args result =
    let f = callee c k in
    let more = call_statements c.words (shortened f) mask args result in
    if is_taken c depth r k more args then record { body = more; room = room_after c depth r f more args }
    else kept r (calls mask k args result)

abbrev mutual
  pub stmt_taken : PlainCaller → ℕ → Room → PlainStmt → Taken
  stmt_taken c depth r (calls mask k args result) = call_taken c depth r mask k args result
  stmt_taken c depth r (iterations count body) =
      let inside = stmts_taken c (depth + 1) r body in
      record { body = one (iterations count inside.body); room = inside.room }
  stmt_taken c depth r t = kept r t

  pub stmts_taken : PlainCaller → ℕ → Room → PlainStmts → Taken
  stmts_taken c depth r no_stmt = record { body = no_stmt; room = r }
  stmts_taken c depth r (stmt t rest) =
      let first = stmt_taken c depth r t in
      let others = stmts_taken c depth first.room rest in
      record { body = joined first.body others.body; room = others.room }

-- with statements that stand before it
abbrev pub taken_after : PlainStmts → Taken → Taken
taken_after out t = record { body = joined out t.body; room = t.room }

-- ---- functions and units

abbrev pub body_taken : List PlainFunction → ℕ → ℕ → PlainFunction → Taken
body_taken fs most frame f =
    stmts_taken (record { functions = fs; words = slots_of f; frame = frame }) 0
    (record { left = most - cost f; words = slots_of f; levels = stmts_levels f.body }) f.body

abbrev pub grown : PlainFunction → Taken → PlainFunction
grown f t = record f { frame = t.room.words + (stmts_levels t.body + 2); body = t.body }

-- with at most so many words of code and of its frame
abbrev pub function_taken : List PlainFunction → ℕ → ℕ → PlainFunction → PlainFunction
function_taken fs most frame f =
    if is_whole (length fs) f then grown f (body_taken fs most frame f) else f

-- the first so many functions, each with what may be taken in of those before it
abbrev pub first_taken : List ℕ → List ℕ → List PlainFunction → ℕ → List PlainFunction
first_taken most frames fs zero = []
first_taken most frames fs (suc n) =
    let before = first_taken most frames fs n in
    before ++ function_taken before (slice_index most n) (slice_index frames n) (slice_index_or fs n no_function) ∷ []

abbrev pub unit_taken : List ℕ → List ℕ → PlainUnit → PlainUnit
unit_taken most frames u = record u { functions = first_taken most frames u.functions (length u.functions) }

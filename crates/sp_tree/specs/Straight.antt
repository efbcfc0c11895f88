-- To be believed. What single-path statements mean: each changes the words of the frame and the
-- world, one after another, without jumps.
use Rattle.std.specs.Prelude.{ℕ, zero, suc, ◌==◌, if◌then◌else◌, List, [], ◌∷◌, Option, None, Some, slice_index, slice_index_or}
use Rattle.shared_order.specs.Words.{put}
use Rattle.c_world.specs.Numbers.{is_true}
use Rattle.c_world.specs.World.{World, with_word, with_element, with_overrun, with_send}
use Rattle.sp_tree.specs.Plain.{PlainSp}
use Rattle.sp_tree.specs.Values.{sp_value}
use Rattle.sp_tree.specs.Statements.{PlainSpTarget, to_slot, to_cell, to_array, PlainStmt, masks, writes, calls, transfers, overruns, iterations, PlainStmts, no_stmt, stmt, PlainFunction, no_function}

-- the words of a function's frame, by their numbers, and of all memories
pub record State : Type 0 where
  pub frame : ℕ → ℕ
  pub world : World

-- what a function gives, and the world after it
pub record Outcome : Type 0 where
  pub value : ℕ
  pub world : World

-- what functions give: by their number, the word of the mask that they are run under, and the arguments
abbrev pub Serves : Type 0
Serves = ℕ → ℕ → List ℕ → World → Outcome

abbrev pub worth : PlainSp → State → ℕ
worth e s = sp_value s.frame s.world e

abbrev pub args_worth : List PlainSp → State → List ℕ
args_worth [] s = []
args_worth (e ∷ args) s = worth e s ∷ args_worth args s

-- ---- what is set

abbrev pub with_slot : ℕ → ℕ → State → State
with_slot slot given s = record s { frame = put slot given s.frame }

abbrev pub in_world : State → World → State
in_world s world = record s { world = world }

abbrev pub with_sp_target : PlainSpTarget → ℕ → State → State
with_sp_target (to_slot slot) given s = with_slot slot given s
with_sp_target (to_cell cell) given s = in_world s (with_word cell.region cell.word given s.world)
with_sp_target (to_array array index) given s =
    in_world s (with_element array.region array.first array.length (worth index s) given s.world)

-- a result may be set nowhere
abbrev pub with_result : Option ℕ → ℕ → State → State
with_result None given s = s
with_result (Some slot) given s = with_slot slot given s

-- ---- masks

-- a change that is made where the mask is 1, and where it is any other word is not
abbrev pub where_on : ℕ → (State → State) → State → State
where_on mask change s = if s.frame mask == 1 then change s else s

abbrev pub write_done : PlainSpTarget → PlainSp → State → State
write_done target e s = with_sp_target target (worth e s) s

abbrev pub transfer_done : ℕ → PlainSp → PlainSp → PlainSp → State → State
transfer_done core source target count s =
    in_world s (with_send core (worth source s) (worth target s) (worth count s) s.world)

abbrev pub overrun_done : PlainSp → State → State
overrun_done e s = in_world s (with_overrun (is_true (worth e s)) s.world)

-- after a call, which is made in either case: what the function gave is set where the mask is 1
abbrev pub call_done : ℕ → Option ℕ → State → Outcome → State
call_done mask result s given = where_on mask (with_result result given.value) (in_world s given.world)

-- ---- statements

-- a change, so many times
abbrev pub times : ℕ → (State → State) → State → State
times zero change s = s
times (suc n) change s = times n change (change s)

abbrev mutual
  pub stmt_done : Serves → PlainStmt → State → State
  stmt_done g (masks slot e) s = with_slot slot (worth e s) s
  stmt_done g (writes mask target e) s = where_on mask (write_done target e) s
  stmt_done g (calls mask k args result) s = call_done mask result s (g k (s.frame mask) (args_worth args s) s.world)
  stmt_done g (transfers mask core source target count) s = where_on mask (transfer_done core source target count) s
  stmt_done g (overruns mask e) s = where_on mask (overrun_done e) s
  stmt_done g (iterations count body) s = times count (stmts_done g body) s

  pub stmts_done : Serves → PlainStmts → State → State
  stmts_done g no_stmt s = s
  stmts_done g (stmt t rest) s = stmts_done g rest (stmt_done g t s)

-- ---- functions in order, of which each calls the earlier ones

-- the frame that a function begins with: the arguments in its first words, the word of the mask that it is run under in
-- its own mask, and 0 in all others
abbrev pub begun_frame : PlainFunction → ℕ → List ℕ → ℕ → ℕ
begun_frame f mask args = put f.mask mask (slice_index args)

abbrev pub function_outcome : Serves → PlainFunction → ℕ → List ℕ → World → Outcome
function_outcome g f mask args world =
    let done = stmts_done g f.body (record { frame = begun_frame f mask args; world = world }) in
    record { value = done.frame f.result; world = done.world }

-- the first so many of them; a number that none of them has gives 0 and changes nothing
abbrev pub serves : List PlainFunction → ℕ → Serves
serves fs zero k mask args world = record { value = 0; world = world }
serves fs (suc n) k mask args world =
    if k == n then function_outcome (serves fs n) (slice_index_or fs n no_function) mask args world
    else serves fs n k mask args world

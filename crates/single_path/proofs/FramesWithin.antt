-- The frame of what is made of a function has at most as many words as the checks count for the function.
use Rattle.std.proofs.Common.{◌≡◌, ℕ, zero, suc, ◌+◌, ◌-◌, ◌≤◌, ◌==◌, max, Bool, true, false, if◌then◌else◌, List, [], ◌∷◌, length, Option, None, Some, arith, length-append}
use Rattle.std.specs.Prelude.{◌&&◌, ◌||◌}
use Rattle.std.proofs.lemmas.List.Sums.{sum_by-cons}
use Rattle.c_tree.specs.declared.layout.Slot.{Slot}
use Rattle.c_tree.specs.declared.statements.Kind.{Kind}
use Rattle.c_tree.specs.declared.units.Parameter.{Parameter}
use Rattle.c_tree.specs.Layout.{is_unsigned}
use Rattle.c_tree.specs.Frame.{stmt_frame, block_frame, arms_frame, otherwise_frame, body_frame, function_frame}
use Rattle.c_tree.specs.Plain.{PlainRight, PlainHead, PlainStmt, PlainBlock, PlainArms, PlainOtherwise}
use Rattle.c_tree.specs.Plain as plain
use Rattle.sp_tree.specs.Formed.{stmts_levels}
use Rattle.sp_tree.specs.Plain.{PlainSp, constant}
use Rattle.sp_tree.specs.Statements.{PlainStmts, no_stmt, stmt, joined, masks}
use Rattle.sp_tree.specs.Statements as tree
use Rattle.sp_tree.proofs.Joins.{joined_levels}
use Rattle.c_meaning.specs.Actions.{PlainTarget, to_level, to_cell, to_array, PlainAssignment, PlainAction, chooses, iterations, returns, PlainActions, no_action, action, PlainBranches, no_branch, branch, one}
use Rattle.c_meaning.specs.Actions as actions
use Rattle.c_meaning.specs.Meaning.{with_variable, names_after, most_iterations, parameter_variables}
use Rattle.c_tree.specs.Names.{number_of}
use Rattle.c_meaning.specs.Resolve.{resolved, resolved_args, variable_target, element_target, assignment_to, maybe_sets, numbered_call, resolved_right, resolved_condition, resolved_begin, resolved_next, choice, resolved_stmt, resolved_block, resolved_arms, resolved_otherwise, resolved_body}
use Rattle.c_meaning.specs.Values.{Names, named}
use Rattle.c_meaning.proofs.Few.{parameters_open}
use Rattle.single_path.specs.declared.counted.Start.{Start}
use Rattle.single_path.specs.declared.part_words.PartWords.{PartWords}
use Rattle.single_path.specs.PartWords.{in_arm, in_loop, outermost, where_not_taken, where_other, where_on, where_not_returned, returned_function, returned_loop}
use Rattle.single_path.specs.Counted.{start_of}
use Rattle.single_path.specs.Made.{is_zero, made_result, made_return, made_step, ends, is_no_action, is_no_branch, made_arm, made_otherwise, made_on, made_after, made_behind, made_again, any_exit, by_continue, by_return, actions_exit, branches_exit, made_iteration, made_loop, is_counted, counted_part, made_begun, made_counted, made_action, made, made_branches}
use Rattle.single_path.specs.Single.{variables, made_function}
use Rattle.single_path.specs.Widths.{expr_words, args_words, result_words, step_words, words, branches_words, branches_masks}
use Rattle.single_path.specs.Widths as width
use Rattle.single_path.proofs.Words.{resolved_words, resolved_args_words, variable_target_words, element_target_words}

-- ---- what is counted

-- For actions that stand where so many variables are open, and for the words that they are made with: their words
-- after those variables, their masks but one, and their levels of iterations are together so many at most. (The one
-- mask may be that of what a function gives to a target outside of the frame, for which nothing is counted.) It is so
-- whatever is known before them.
abbrev Within : ℕ → PlainActions → PartWords → ℕ → Type 0
Within n xs p room =
    (known : Option Start) → words xs - n + (width.masks xs - 1) + stmts_levels (made known p xs) ≤ room

-- the same, where more variables are open after the actions than before
abbrev Opens : ℕ → ℕ → PlainActions → PartWords → ℕ → Type 0
Opens before after xs p room = (known : Option Start) → after + (words xs - after + (width.masks xs - 1)
    + stmts_levels (made known p xs)) ≤ before + room

-- ---- one action after another

words_joined : (xs ys : PlainActions) → words (actions.joined xs ys) ≡ max (words xs) (words ys)
words_joined no_action ys = omega arith
words_joined (action a rest) ys = let more = words_joined rest ys in omega (arith, more)

masks_joined : (xs ys : PlainActions) → width.masks (actions.joined xs ys) ≡ max (width.masks xs) (width.masks ys)
masks_joined no_action ys = omega arith
masks_joined (action a rest) ys = let more = masks_joined rest ys in omega (arith, more)

ended_levels : (ended : Bool) (ts : PlainStmts) → stmts_levels (if ended then no_stmt else ts) ≤ stmts_levels ts
ended_levels true ts = omega arith
ended_levels false ts = omega arith

-- what comes after them has no more levels, whatever is known there
levels_joined : (known : Option Start) (p : PartWords) (xs ys : PlainActions) (most : ℕ)
    → ((after : Option Start) → stmts_levels (made after p ys) ≤ most)
    → stmts_levels (made known p (actions.joined xs ys)) ≤ max (stmts_levels (made known p xs)) most
levels_joined known p no_action ys most each = omega (arith, each known)
levels_joined known p (action a rest) ys most each =
    by (ends a) (joined_levels (made_action known p a)) (levels_joined (start_of a) p rest ys most each)
  where
    by : (ended : Bool) → ((ts : PlainStmts) → stmts_levels (joined (made_action known p a) ts)
        ≡ max (stmts_levels (made_action known p a)) (stmts_levels ts))
        → stmts_levels (made (start_of a) p (actions.joined rest ys))
        ≤ max (stmts_levels (made (start_of a) p rest)) most
        → stmts_levels (joined (made_action known p a) (if ended then no_stmt else made (start_of a) p
        (actions.joined rest ys)))
        ≤ max (stmts_levels (joined (made_action known p a) (if ended then no_stmt else made (start_of a) p rest))) most
    by true first more = omega (arith, first no_stmt)
    by false first more =
        omega (arith, more, first (made (start_of a) p (actions.joined rest ys)), first (made (start_of a) p rest))

levels_one : (known : Option Start) (p : PartWords) (a : PlainAction) → stmts_levels (made known p (one a))
    ≤ stmts_levels (made_action known p a)
levels_one known p a = omega (
  arith,
  joined_levels (made_action known p a) (if ends a then no_stmt else no_stmt),
  ended_levels (ends a) no_stmt,
)

choice_words : (branches : PlainBranches) (otherwise : PlainActions)
    → words (choice branches otherwise) ≤ max (branches_words branches) (words otherwise)
choice_words no_branch otherwise = omega arith
choice_words (branch condition body rest) otherwise = omega arith

choice_masks : (branches : PlainBranches) (otherwise : PlainActions)
    → width.masks (choice branches otherwise) ≤ branches_masks branches (width.masks otherwise)
choice_masks no_branch otherwise = omega arith
choice_masks (branch condition body rest) otherwise = omega arith

-- masks stand in no iterations
on_levels : (p : PartWords) → stmts_levels (made_on p) ≤ 0
on_levels p = omega (arith, ended_levels (p.own == p.iteration) (tree.one (masks p.own (where_on p))))

after_levels : (p : PartWords) (exits : Bool) → stmts_levels (made_after p exits) ≤ 0
after_levels p true = on_levels p
after_levels p false = omega arith

behind_levels : (p : PartWords) (exits : Bool) → stmts_levels (made_behind p exits) ≤ 0
behind_levels p false = omega arith
behind_levels p true =
    let outer = tree.one (masks p.iteration (where_not_returned p)) in
    omega (
      arith,
      joined_levels (if p.function == p.iteration then no_stmt else outer) (made_on p),
      ended_levels (p.function == p.iteration) outer,
      on_levels p,
    )

again_levels : (p : PartWords) (exits : Bool) → stmts_levels (made_again p exits) ≤ 0
again_levels p true = omega arith
again_levels p false = omega arith

-- a choice has the levels of its arms and of what stands after `else`
choice_levels : (known : Option Start) (p : PartWords) (condition : PlainSp) (body : PlainActions)
    (rest : PlainBranches) (otherwise : PlainActions)
    → stmts_levels (made known p (choice (branch condition body rest) otherwise))
    ≤ stmts_levels (made_branches p (branch condition body rest) (is_no_action otherwise) (λ q. made None q otherwise))
choice_levels known p condition body rest otherwise =
    let all = branch condition body rest in
    let exits = branches_exit any_exit all || actions_exit any_exit otherwise in
    omega (
      arith,
      levels_one known p (chooses all otherwise),
      joined_levels (made_branches p all (is_no_action otherwise) (λ q. made None q otherwise)) (made_after p exits),
      after_levels p exits,
    )

-- the first may open variables, each of which takes a word
joined_within : (before after first more : ℕ) (xs ys : PlainActions) (p : PartWords) → before ≤ after
    → Opens before after xs p first
    → Within after ys p more → Within before (actions.joined xs ys) p (first + more)
joined_within before after first more xs ys p opens here there known =
    let taken = words ys - after + (width.masks ys - 1) in
    let levels = levels_joined known p xs ys (more - taken) (λ k. let one = there k in omega (arith, one)) in
    let one = here known in
    let other = there known in
    omega (arith, opens, one, other, words_joined xs ys, masks_joined xs ys, levels)

-- ---- what is set, and calls

sets_within : (n : ℕ) (p : PartWords) (target : Option PlainTarget) (e : PlainSp) → result_words target ≤ n
    → expr_words e ≤ n
    → Within n (maybe_sets (assignment_to target e)) p 0
sets_within n p None e of to known = omega arith
sets_within n p (Some (to_level at)) e of to known = omega (arith, of, to)
sets_within n p (Some (to_cell cell)) e of to known = omega (arith, to)
sets_within n p (Some (to_array array index)) e of to known = omega (arith, of, to)

call_within : (n : ℕ) (p : PartWords) (k : Option ℕ) (args : List PlainSp) (target : Option PlainTarget)
    → result_words target ≤ n
    → args_words args ≤ n → Within n (numbered_call k args target) p 0
call_within n p None args target of to known = sets_within n p target (constant 0) of (omega arith) known
call_within n p (Some k) args None of to known = omega (arith, to)
call_within n p (Some k) args (Some (to_level at)) of to known = omega (arith, of, to)
call_within n p (Some k) args (Some (to_cell cell)) of to known = omega (arith, to)
call_within n p (Some k) args (Some (to_array array index)) of to known = omega (arith, of, to)

right_within : (fs : List (List ℕ)) (names : Names) (fresh : Option ℕ) (target : Option PlainTarget) (r : PlainRight)
    (p : PartWords)
    → result_words target ≤ length names.variables → Within (length names.variables) (resolved_right fs names
    fresh target r) p 0
right_within fs names fresh target (plain.value e) p of known =
    sets_within (length names.variables) p target (resolved names fresh e) of (resolved_words names fresh e) known
right_within fs names fresh target (plain.call text args) p of known =
    call_within (length names.variables) p (number_of text fs) (resolved_args names fresh args) target of
    (resolved_args_words names fresh args) known

-- ---- ways on, and loops

return_levels : (p : PartWords) (e : PlainSp) → stmts_levels (made_return p e) ≤ 0
return_levels p e =
    let outer = tree.one (masks p.iteration (returned_loop p)) in
    let ends_all =
    stmt (masks p.function (returned_function p)) (if p.function == p.iteration then no_stmt else outer) in
    let set = ended_levels (is_zero e) (tree.one (tree.writes p.own (tree.to_slot p.result) e)) in
    omega (arith, joined_levels (made_result p e) ends_all, set, ended_levels (p.function == p.iteration) outer)

return_within : (n : ℕ) (p : PartWords) (e : PlainSp) → expr_words e ≤ n → Within n (one (returns e)) p 0
return_within n p e of known = omega (arith, of, levels_one known p (returns e), return_levels p e)

step_levels : (mask : ℕ) (step : Option PlainAssignment) → stmts_levels (made_step mask step) ≤ 0
step_levels mask None = omega arith
step_levels mask (Some a) = omega arith

iteration_levels : (p : PartWords) (condition : PlainSp) (exits : Bool) (body : PlainStmts)
    (step : Option PlainAssignment)
    → stmts_levels (made_iteration p condition exits body step) ≤ stmts_levels body
iteration_levels p condition exits body step =
    omega (
      arith,
      joined_levels body (joined (made_again p exits) (made_step p.free step)),
      joined_levels (made_again p exits) (made_step p.free step),
      again_levels p exits,
      step_levels p.free step,
    )

loop_levels : (p : PartWords) (most : ℕ) (condition : PlainSp) (exits : Bool) (iteration : PlainStmts)
    → stmts_levels (made_loop p most condition exits iteration) ≤ 1 + stmts_levels iteration
loop_levels p zero condition exits iteration = omega arith
loop_levels p (suc n) condition exits iteration = omega (arith, behind_levels p exits)

begun_levels : (p : PartWords) (resumes : Bool) → stmts_levels (made_begun p resumes) ≤ 0
begun_levels p true = omega arith
begun_levels p false = omega arith

counted_levels : (p : PartWords) (most : ℕ) (resumes : Bool) (body : PlainStmts) (step : Option PlainAssignment)
    → stmts_levels (made_counted p most resumes body step) ≤ 1 + stmts_levels body
counted_levels p most resumes body step =
    omega (
      arith,
      joined_levels (made_begun p resumes) (joined body (made_step p.own step)),
      joined_levels body (made_step p.own step),
      begun_levels p resumes,
      step_levels p.own step,
    )

iterations_levels : (known : Option Start) (p : PartWords) (most : ℕ) (condition : PlainSp) (body : PlainActions)
    (step : Option PlainAssignment) (inside : ℕ)
    → ((q : PartWords) → stmts_levels (made None q body) ≤ inside)
    → stmts_levels (made_action known p (iterations most condition body step)) ≤ 1 + inside
iterations_levels known p most condition body step inside each = by (is_counted known most condition body step)
  where
    iteration : PlainStmts
    iteration = made_iteration p condition (actions_exit by_continue body) (made None (in_loop p) body) step

    resumes : Bool
    resumes = actions_exit by_continue body

    inner : PartWords
    inner = counted_part p resumes

    by : (counted : Bool)
        → stmts_levels (if counted then made_counted p most resumes (made None inner body) step else made_loop p most
        condition (actions_exit by_return body) iteration) ≤ 1 + inside
    by true = omega (arith, each inner, counted_levels p most resumes (made None inner body) step)
    by false = omega (
      arith,
      each (in_loop p),
      loop_levels p most condition (actions_exit by_return body) iteration,
      iteration_levels p condition (actions_exit by_continue body) (made None (in_loop p) body) step,
    )

loop_takes : (most body : ℕ) → width.loop_masks most body ≤ 1 + body
loop_takes zero body = omega arith
loop_takes (suc n) body = omega arith

-- a loop takes a word for its mask and one for its iterations
iterations_within : (n room : ℕ) (p : PartWords) (most : ℕ) (condition : PlainSp) (body : PlainActions)
    (step : Option PlainAssignment)
    → expr_words condition ≤ n → step_words step ≤ n → ((q : PartWords) → Within n body q room)
    → Within n (one (iterations most condition body step)) p (2 + room)
iterations_within n room p most condition body step of to within known =
    let taken = words body - n + (width.masks body - 1) in
    let levels = iterations_levels known p most condition body step (room - taken) (λ q. let one = within q None in
    omega (arith, one)) in
    let one = within p None in
    omega (
      arith,
      of,
      to,
      one,
      levels,
      levels_one known p (iterations most condition body step),
      loop_takes most
          (width.masks body),
    )

condition_words : (names : Names) (head : PlainHead) → expr_words (resolved_condition names head)
    ≤ length names.variables
condition_words names (plain.iterations_while condition) = resolved_words names None condition
condition_words names (plain.iterations_for first from condition to_set to) = resolved_words names None condition

begin_within : (names : Names) (head : PlainHead) (p : PartWords) → Within (length names.variables) (maybe_sets
    (resolved_begin names head)) p 0
begin_within names (plain.iterations_while condition) p known = omega arith
begin_within names (plain.iterations_for first from condition to_set to) p known =
    sets_within (length names.variables) p (variable_target (named names first)) (resolved names None from)
    (variable_target_words names first)
    (resolved_words names None from) known

next_words : (names : Names) (head : PlainHead) → step_words (resolved_next names head) ≤ length names.variables
next_words names (plain.iterations_while condition) = omega arith
next_words names (plain.iterations_for first from condition to_set to) =
    by (variable_target (named names to_set)) (variable_target_words names to_set)
  where
    by : (target : Option PlainTarget) → result_words target ≤ length names.variables
        → step_words (assignment_to target (resolved names None to)) ≤ length names.variables
    by None of = omega arith
    by (Some target) of = omega (arith, of, resolved_words names None to)

-- ---- statements

arm_levels : (p : PartWords) (condition : PlainSp) (arm : PlainStmts) (exits nothing : Bool) (rest : PlainStmts)
    → stmts_levels (made_arm p condition arm (made_otherwise p exits nothing rest))
    ≤ max (stmts_levels arm) (stmts_levels rest)
arm_levels p condition arm exits nothing rest =
    omega (
      arith,
      joined_levels arm (made_otherwise p exits nothing rest),
      ended_levels nothing (stmt (masks p.free (if exits then where_not_taken p else where_other p)) rest),
    )

one_more : (names : Names) (kind : Kind) (text : List ℕ) → length (with_variable names kind text).variables
    ≡ length names.variables + 1
one_more names kind text = length-append names.variables (record { name = text; unsigned = is_unsigned kind } ∷ [])

-- no statement closes a variable
names_more : (names : Names) (s : PlainStmt) → length names.variables ≤ length (names_after names s).variables
names_more names (plain.declared kind text r) = omega (arith, one_more names kind text)
names_more names s = omega arith

mutual
  unfolding stmt_frame block_frame arms_frame otherwise_frame

  stmt_within : (fs : List (List ℕ)) (names : Names) (s : PlainStmt) (p : PartWords)
      → Opens (length names.variables) (length (names_after names s).variables) (resolved_stmt fs names s)
      p (stmt_frame s)
  stmt_within fs names (plain.declared kind text None) p known = omega (arith, one_more names kind text)
  stmt_within fs names (plain.declared kind text (Some r)) p known =
      let n = length names.variables in
      let more = one_more names kind text in
      omega (
        arith,
        more,
        right_within fs (with_variable names kind text) (Some n) (Some (to_level n)) r p
            (omega (arith, more)) known,
      )
  stmt_within fs names (plain.set text r) p known =
      let target = variable_target (named names text) in
      omega (arith, right_within fs names None target r p (variable_target_words names text) known)
  stmt_within fs names (plain.set_element text index r) p known =
      let i = resolved names None index in
      let of = element_target_words (named names text) i in
      omega (
        arith,
        right_within fs names None (element_target (named names text) i) r p
            (omega (arith, of, resolved_words names None index)) known,
      )
  stmt_within fs names (plain.called text args) p known =
      let n = length names.variables in
      omega (
        arith,
        call_within n p (number_of text fs) (resolved_args names None args) None (omega arith)
            (resolved_args_words names None args) known,
      )
  stmt_within fs names (plain.sent core core_unsigned source target count) p known =
      omega (arith, resolved_words names None source, resolved_words names None target, resolved_words names None count)
  stmt_within fs names (plain.chosen plain.no_arm otherwise) p known =
      let one = otherwise_within fs names otherwise p known in omega (arith, one)
  stmt_within fs names (plain.chosen (plain.arm condition body arms) otherwise) p known =
      let n = length names.variables in
      let test = resolved names None condition in
      let inside = resolved_block fs names body in
      let others = resolved_arms fs names arms in
      let rest = resolved_otherwise fs names otherwise in
      let last = otherwise_within fs names otherwise in
      let room = otherwise_frame otherwise - (words rest - n) in
      let chosen = arms_within fs names (plain.arm condition body arms) (is_no_action rest) (λ q. made None q rest)
      (width.masks rest) room
      (λ q. let one = last q None in omega (arith, one)) p in
      let one = last p None in
      omega (
        arith,
        chosen,
        one,
        choice_words (branch test inside others) rest,
        choice_masks (branch test inside others) rest,
        choice_levels known p test inside others rest,
      )
  stmt_within fs names (plain.looped bound head body) p known =
      let n = length names.variables in
      let condition = resolved_condition names head in
      let inside = resolved_block fs names body in
      let step = resolved_next names head in
      let first = maybe_sets (resolved_begin names head) in
      let loop = one (iterations (most_iterations bound) condition inside step) in
      let begin = begin_within names head p in
      let within = iterations_within n (block_frame body) p (most_iterations bound) condition inside step
      (condition_words names head)
      (next_words names head) (λ q. block_within fs names body q) in
      omega (
        arith,
        joined_within n n 0 (2 + block_frame body) first loop p (omega arith) (λ k. let one = begin k in
            omega (arith, one)) within known,
      )
  stmt_within fs names plain.broken p known = omega arith
  stmt_within fs names plain.continued p known = omega arith
  stmt_within fs names (plain.returned None) p known =
      omega (arith, return_within (length names.variables) p (constant 0) (omega arith) known)
  stmt_within fs names (plain.returned (Some e)) p known =
      omega (
        arith,
        return_within (length names.variables) p (resolved names None e)
            (resolved_words names None e) known,
      )
  stmt_within fs names (plain.inner body) p known =
      let within = block_within fs names body p known in omega (arith, within)

  block_within : (fs : List (List ℕ)) (names : Names) (body : PlainBlock) (p : PartWords)
      → Within (length names.variables) (resolved_block fs names body) p (block_frame body)
  block_within fs names plain.no_stmt p known = omega arith
  block_within fs names (plain.stmt s rest) p known =
      let after = names_after names s in
      let first = resolved_stmt fs names s in
      let more = resolved_block fs after rest in
      joined_within (length names.variables) (length after.variables) (stmt_frame s) (block_frame rest) first more p
      (names_more names s)
      (stmt_within fs names s p) (block_within fs after rest p) known

  -- arms before actions that have so many masks, and after which there is so much room
  arms_within : (fs : List (List ℕ)) (names : Names) (arms : PlainArms) (nothing : Bool)
      (otherwise : PartWords → PlainStmts) (inside room : ℕ)
      → ((q : PartWords) → inside - 1 + stmts_levels (otherwise q) ≤ room) → (p : PartWords)
      → branches_words (resolved_arms fs names arms) - length names.variables
      + (branches_masks (resolved_arms fs names arms) inside - 1)
      + stmts_levels (made_branches p (resolved_arms fs names arms) nothing otherwise) ≤ arms_frame arms + room
  arms_within fs names plain.no_arm nothing otherwise inside room each p = omega (arith, each p)
  arms_within fs names (plain.arm condition body rest) nothing otherwise inside room each p =
      let others = resolved_arms fs names rest in
      let first = block_within fs names body (in_arm p) None in
      let more = arms_within fs names rest nothing otherwise inside room each (in_arm p) in
      let arm = made None (in_arm p) (resolved_block fs names body) in
      omega (
        arith,
        first,
        more,
        resolved_words names None condition,
        arm_levels p (resolved names None condition) arm (actions_exit any_exit (resolved_block fs names body))
            (is_no_branch others && nothing) (made_branches (in_arm p) others nothing otherwise),
      )

  otherwise_within : (fs : List (List ℕ)) (names : Names) (otherwise : PlainOtherwise) (p : PartWords)
      → Within (length names.variables) (resolved_otherwise fs names otherwise) p (otherwise_frame otherwise)
  otherwise_within fs names plain.no_else p known = omega arith
  otherwise_within fs names (plain.or_else body) p known = block_within fs names body p known

-- ---- functions

body_within : (fs : List (List ℕ)) (names : Names) (body : List PlainStmt) (p : PartWords)
    → Within (length names.variables) (resolved_body fs names body) p (body_frame body)
body_within fs names [] p known = omega arith
body_within fs names (s ∷ rest) p known =
    let after = names_after names s in
    let first = resolved_stmt fs names s in
    let more = resolved_body fs after rest in
    let all = joined_within (length names.variables) (length after.variables) (stmt_frame s) (body_frame rest) first
    more p (names_more names s)
    (stmt_within fs names s p) (body_within fs after rest p) known in
    omega (arith, all, sum_by-cons stmt_frame s rest)

pub frame_within : (fs : List (List ℕ)) (slots : List Slot) (parameters : List Parameter) (body : List PlainStmt)
    → (made_function (length parameters)
    (resolved_body fs (record { slots = slots; variables = parameter_variables parameters }) body)).frame
    ≤ function_frame parameters body
frame_within fs slots parameters body =
    let names : Names = record { slots = slots; variables = parameter_variables parameters } in
    let all = resolved_body fs names body in
    omega (
      arith,
      body_within fs names body (outermost (variables (length parameters) all)) None,
      parameters_open parameters,
    )

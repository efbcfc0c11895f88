-- What is made of sound actions that fit is well formed, over the words that their variables and their masks take.
use Rattle.std.proofs.Common.{◌≡◌, ℕ, zero, suc, ◌+◌, ◌<◌, ◌≤◌, ◌==◌, Bool, true, false, if◌then◌else◌, List, length, Option, None, Some, refl, arith, lt-ltb}
use Rattle.std.proofs.lemmas.Bool.{and_from}
use Rattle.std.specs.List.{AllByRecursion as Each}
use Rattle.std.specs.Prelude.{◌&&◌, ◌||◌}
use Rattle.sp_tree.specs.Formed.{target_formed, result_formed, callee_formed, stmt_formed, stmts_formed}
use Rattle.sp_tree.specs.Plain.{PlainSp, frame_word}
use Rattle.sp_tree.specs.Statements.{PlainStmts, no_stmt, stmt, joined, PlainFunction, masks, writes, overruns}
use Rattle.sp_tree.specs.Statements as tree
use Rattle.c_meaning.specs.Actions.{PlainTarget, to_level, to_cell, to_array, PlainAssignment, PlainAction, sets, calls, transfers, chooses, iterations, breaks, continues, returns, PlainActions, no_action, action, PlainBranches, no_branch, branch}
use Rattle.single_path.specs.Counted.{start_of}
use Rattle.single_path.specs.Made.{made_target, made_assignment, made_step, made_call, is_zero, made_result, made_return, ends, is_no_action, is_no_branch, made_arm, made_otherwise, made_on, made_after, made_behind, made_again, any_exit, by_continue, by_return, actions_exit, branches_exit, made_iteration, made_loop, is_counted, counted_part, made_begun, made_counted, made_action, made, made_branches}
use Rattle.single_path.specs.declared.counted.Start.{Start}
use Rattle.single_path.specs.declared.part_words.PartWords.{PartWords}
use Rattle.single_path.specs.PartWords.{in_arm, in_loop, where_so, where_not_taken, where_other, where_on, where_not_returned, bit_of, not_zero, returned_function, returned_loop}
use Rattle.single_path.specs.Widths.{result_words, expr_words, args_words, target_words, step_words, words, action_words, branches_words, branches_masks}
use Rattle.single_path.specs.Widths as width
use Rattle.single_path.proofs.Frames.{Order}
use Rattle.single_path.proofs.Idle.{order_arm, order_loop, order_part, part_free}
use Rattle.single_path.proofs.MasksFormed.{Below, begun_part_formed, below, both_formed, broken_formed, condition_sound, continued_formed, mask_formed, more_formed, not_returned_formed, on_formed, other_formed, so_words, returned_function_formed, returned_loop_formed, unless_formed, words_there}
use Rattle.single_path.proofs.Needs.{Sound, sound_word, sound_formed, sound_args_formed}
use Rattle.single_path.proofs.Acts.{Gives, Steps}
use Rattle.single_path.proofs.Sound.{SoundTarget, SoundAction, AllSound, SoundBranches}

-- ---- what is set, and calls

target_is_formed : (slots : ℕ) (target : PlainTarget) → SoundTarget target → target_words target ≤ slots
    → target_formed slots (made_target target) ≡ true
target_is_formed slots (to_level at) sound within = lt-ltb at slots (omega (arith, within))
target_is_formed slots (to_cell cell) sound within = sound
target_is_formed slots (to_array array index) sound within =
    and_from _ _ sound.0 (sound_formed slots index sound.1 within)

write_formed : (fs : List PlainFunction) (number slots mask : ℕ) (target : PlainTarget) (e : PlainSp) → mask < slots
    → SoundTarget target → Sound e
    → target_words target ≤ slots → expr_words e ≤ slots → stmt_formed fs number slots (writes mask
    (made_target target) e) ≡ true
write_formed fs number slots mask target e there to sound within of =
    and_from _ _ (lt-ltb mask slots there) (and_from _ _ (target_is_formed slots target to within)
    (sound_formed slots e sound of))

step_formed : (fs : List PlainFunction) (number slots mask : ℕ) (step : Option PlainAssignment) → mask < slots
    → Steps SoundTarget Sound step
    → step_words step ≤ slots → stmts_formed fs number slots (made_step mask step) ≡ true
step_formed fs number slots mask None there sound within = refl
step_formed fs number slots mask (Some a) there sound within =
    more_formed fs number slots (made_assignment mask a) no_stmt
    (write_formed fs number slots mask a.target a.value there sound.0 sound.1 (omega (arith, within))
    (omega (arith, within))) refl

called_formed : (fs : List PlainFunction) (number slots mask k : ℕ) (args : List PlainSp) (given : Option ℕ)
    → mask < slots
    → callee_formed fs number k (length args) ≡ true → Each Sound args → args_words args ≤ slots
    → result_formed slots given ≡ true
    → stmt_formed fs number slots (tree.calls mask k args given) ≡ true
called_formed fs number slots mask k args given there callee each within to =
    and_from _ _ (lt-ltb mask slots there)
    (and_from _ _ callee (and_from _ _ (sound_args_formed slots args each within) to))

-- what a function gives to a target outside of the frame goes by the word that is free
by_word_formed : (fs : List PlainFunction) (number slots : ℕ) (p : PartWords) (k : ℕ) (args : List PlainSp)
    (target : PlainTarget) → p.own < slots
    → p.free < slots → callee_formed fs number k (length args) ≡ true → Each Sound args → SoundTarget target
    → args_words args ≤ slots
    → target_words target ≤ slots
    → stmts_formed fs number slots
    (stmt (tree.calls p.own k args (Some p.free)) (tree.one (writes p.own (made_target target) (frame_word p.free))))
    ≡ true
by_word_formed fs number slots p k args target own free callee each to within of =
    and_from _ _ (called_formed fs number slots p.own k args (Some p.free) own callee each within
    (lt-ltb p.free slots free))
    (and_from _ _ (write_formed fs number slots p.own target (frame_word p.free) own to (sound_word p.free) of
    (omega (arith, free))) refl)

call_formed : (fs : List PlainFunction) (number slots : ℕ) (p : PartWords) (k : ℕ) (args : List PlainSp)
    (target : Option PlainTarget) → p.own < slots
    → p.free + width.result_masks target ≤ slots → callee_formed fs number k (length args) ≡ true → Each Sound args
    → Gives SoundTarget target
    → args_words args ≤ slots → result_words target ≤ slots → stmts_formed fs number slots (made_call p k args target)
    ≡ true
call_formed fs number slots p k args None own free callee each to within of =
    more_formed fs number slots (tree.calls p.own k args None) no_stmt
    (called_formed fs number slots p.own k args None own callee each within refl) refl
call_formed fs number slots p k args (Some (to_level at)) own free callee each to within of =
    more_formed fs number slots (tree.calls p.own k args (Some at)) no_stmt
    (called_formed fs number slots p.own k args (Some at) own callee each within (lt-ltb at slots (omega (arith, of))))
    refl
call_formed fs number slots p k args (Some (to_cell cell)) own free callee each to within of =
    by_word_formed fs number slots p k args (to_cell cell) own (omega (arith, free)) callee each to within of
call_formed fs number slots p k args (Some (to_array array index)) own free callee each to within of =
    by_word_formed fs number slots p k args (to_array array index) own (omega (arith, free)) callee each to within of

-- ---- ways on

result_made_formed : (fs : List PlainFunction) (number slots : ℕ) (p : PartWords) (e : PlainSp) → Below p slots
    → Sound e → expr_words e ≤ slots
    → stmts_formed fs number slots (made_result p e) ≡ true
result_made_formed fs number slots p e b sound within = by (is_zero e)
  where
    by : (zero_given : Bool) → stmts_formed fs number slots (if zero_given then no_stmt else tree.one
        (writes p.own (tree.to_slot p.result) e)) ≡ true
    by true = refl
    by false =
        more_formed fs number slots (writes p.own (tree.to_slot p.result) e) no_stmt
        (write_formed fs number slots p.own (to_level p.result) e b.own tt sound (omega (arith, b.result)) within) refl

return_formed : (fs : List PlainFunction) (number slots : ℕ) (p : PartWords) (e : PlainSp) → Below p slots → Sound e
    → expr_words e ≤ slots
    → stmts_formed fs number slots (made_return p e) ≡ true
return_formed fs number slots p e b sound within =
    let outer = tree.one (masks p.iteration (returned_loop p)) in
    both_formed fs number slots (made_result p e) (stmt (masks p.function (returned_function p))
    (if p.function == p.iteration then no_stmt else outer))
    (result_made_formed fs number slots p e b sound within)
    (more_formed fs number slots (masks p.function (returned_function p))
    (if p.function == p.iteration then no_stmt else outer)
    (returned_function_formed fs number slots p b) (unless_formed fs number slots (p.function == p.iteration) outer
    (more_formed fs number slots (masks p.iteration (returned_loop p)) no_stmt
    (returned_loop_formed fs number slots p b) refl)))

-- ---- arms and loops

on_made_formed : (fs : List PlainFunction) (number slots : ℕ) (p : PartWords) → Below p slots
    → stmts_formed fs number slots (made_on p) ≡ true
on_made_formed fs number slots p b =
    unless_formed fs number slots (p.own == p.iteration) (tree.one (masks p.own (where_on p)))
    (more_formed fs number slots (masks p.own (where_on p)) no_stmt (on_formed fs number slots p b) refl)

after_formed : (fs : List PlainFunction) (number slots : ℕ) (p : PartWords) (exits : Bool) → Below p slots
    → stmts_formed fs number slots (made_after p exits) ≡ true
after_formed fs number slots p true b = on_made_formed fs number slots p b
after_formed fs number slots p false b = refl

behind_formed : (fs : List PlainFunction) (number slots : ℕ) (p : PartWords) (exits : Bool) → Below p slots
    → stmts_formed fs number slots (made_behind p exits) ≡ true
behind_formed fs number slots p false b = refl
behind_formed fs number slots p true b =
    let outer = tree.one (masks p.iteration (where_not_returned p)) in
    both_formed fs number slots (if p.function == p.iteration then no_stmt else outer) (made_on p)
    (unless_formed fs number slots (p.function == p.iteration) outer
    (more_formed fs number slots (masks p.iteration (where_not_returned p)) no_stmt
    (not_returned_formed fs number slots p b) refl))
    (on_made_formed fs number slots p b)

again_formed : (fs : List PlainFunction) (number slots : ℕ) (p : PartWords) (exits : Bool) → p.free < slots
    → stmts_formed fs number slots (made_again p exits) ≡ true
again_formed fs number slots p false free = refl
again_formed fs number slots p true free =
    more_formed fs number slots (masks p.free (not_zero (frame_word p.free))) no_stmt
    (mask_formed fs number slots p.free (not_zero (frame_word p.free)) free
    (record { ranged = (tt, tt); few = omega arith }) (omega (arith, free))) refl

arm_formed : (fs : List PlainFunction) (number slots : ℕ) (p : PartWords) (condition : PlainSp) (arm : PlainStmts)
    (exits nothing : Bool) (rest : PlainStmts)
    → Below p slots → p.free < slots → Sound condition → expr_words condition ≤ slots → stmts_formed fs number slots arm
    ≡ true
    → stmts_formed fs number slots rest ≡ true → stmts_formed fs number slots (made_arm p condition arm
    (made_otherwise p exits nothing rest)) ≡ true
arm_formed fs number slots p condition arm exits nothing rest b free sound within here there =
    let other = if exits then where_not_taken p else where_other p in
    let otherwise = stmt (masks p.free other) rest in
    more_formed fs number slots (masks p.free (where_so p.own condition))
    (tree.joined arm (made_otherwise p exits nothing rest))
    (mask_formed fs number slots p.free (where_so p.own condition) free (condition_sound p.own condition sound)
    (omega (arith, within, b.own, so_words p.own condition)))
    (both_formed fs number slots arm (made_otherwise p exits nothing rest) here
    (unless_formed fs number slots nothing otherwise
    (more_formed fs number slots (masks p.free other) rest (other_formed fs number slots p exits b free) there)))

iteration_formed : (fs : List PlainFunction) (number slots : ℕ) (p : PartWords) (condition : PlainSp) (exits : Bool)
    (body : PlainStmts) (step : Option PlainAssignment)
    → p.free < slots → Sound condition → expr_words condition ≤ slots → Steps SoundTarget Sound step
    → step_words step ≤ slots
    → stmts_formed fs number slots body ≡ true → stmts_formed fs number slots (made_iteration p condition exits
    body step) ≡ true
iteration_formed fs number slots p condition exits body step free sound within to of inside =
    let again = joined (made_again p exits) (made_step p.free step) in
    more_formed fs number slots (masks p.free (where_so p.free condition)) (tree.joined body again)
    (mask_formed fs number slots p.free (where_so p.free condition) free (condition_sound p.free condition sound)
    (omega (arith, within, free, so_words p.free condition)))
    (both_formed fs number slots body again inside
    (both_formed fs number slots (made_again p exits) (made_step p.free step)
    (again_formed fs number slots p exits free)
    (step_formed fs number slots p.free step free to of)))

overrun_formed : (fs : List PlainFunction) (number slots mask : ℕ) (condition : PlainSp) → mask < slots
    → Sound condition
    → expr_words condition ≤ slots → stmt_formed fs number slots (overruns mask condition) ≡ true
overrun_formed fs number slots mask condition there sound within =
    and_from _ _ (lt-ltb mask slots there) (sound_formed slots condition sound within)

loop_formed : (fs : List PlainFunction) (number slots : ℕ) (p : PartWords) (n : ℕ) (condition : PlainSp) (exits : Bool)
    (iteration : PlainStmts) → Below p slots
    → p.free < slots → Sound condition → expr_words condition ≤ slots → stmts_formed fs number slots iteration ≡ true
    → stmts_formed fs number slots (made_loop p (suc n) condition exits iteration) ≡ true
loop_formed fs number slots p n condition exits iteration b free sound within inside =
    and_from _ _ (begun_part_formed fs number slots p b free)
    (and_from _ _ (and_from _ _ (lt-ltb 0 (suc n) (omega arith)) inside)
    (and_from _ _ (overrun_formed fs number slots p.free condition free sound within)
    (behind_formed fs number slots p exits b)))

begun_made_formed : (fs : List PlainFunction) (number slots : ℕ) (p : PartWords) (resumes : Bool) → Below p slots
    → p.free < slots
    → stmts_formed fs number slots (made_begun p resumes) ≡ true
begun_made_formed fs number slots p true b free =
    more_formed fs number slots (masks p.free (bit_of p.own)) no_stmt (begun_part_formed fs number slots p b free) refl
begun_made_formed fs number slots p false b free = refl

counted_formed : (fs : List PlainFunction) (number slots : ℕ) (p : PartWords) (n : ℕ) (resumes : Bool)
    (body : PlainStmts) (step : Option PlainAssignment)
    → Below p slots → p.free < slots → Steps SoundTarget Sound step → step_words step ≤ slots
    → stmts_formed fs number slots body
    ≡ true
    → stmts_formed fs number slots (made_counted p (suc n) resumes body step) ≡ true
counted_formed fs number slots p n resumes body step b free to of inside =
    and_from _ _ (and_from _ _ (lt-ltb 0 (suc n) (omega arith))
    (both_formed fs number slots (made_begun p resumes) (joined body (made_step p.own step))
    (begun_made_formed fs number slots p resumes b free)
    (both_formed fs number slots body (made_step p.own step) inside
    (step_formed fs number slots p.own step b.own to of)))) refl

-- ---- all actions

-- what fits may be called
abbrev pub MayCall : (ℕ → ℕ → Type 0) → List PlainFunction → ℕ → Type 0
MayCall Fit fs number = (k args : ℕ) → Fit k args → callee_formed fs number k args ≡ true

-- a loop, either way
repeated_formed : (fs : List PlainFunction) (number slots n : ℕ) (known : Option Start) (p : PartWords) (most : ℕ)
    (condition : PlainSp) (body : PlainActions)
    (step : Option PlainAssignment) → Order n p → action_words (iterations most condition body step) ≤ n
    → p.free + width.action_masks (iterations most condition body step) ≤ slots
    → Sound condition → Steps SoundTarget Sound step
    → ((q : PartWords) → Order n q → q.free + width.masks body ≤ slots → stmts_formed fs number slots (made None q body)
    ≡ true)
    → stmts_formed fs number slots (made_action known p (iterations most condition body step)) ≡ true
repeated_formed fs number slots n known p zero condition body step order within free test next each = by known
  where
    more : n ≤ slots
    more = words_there n slots p order (omega (arith, free))

    flag : stmts_formed fs number slots (tree.one (overruns p.own condition)) ≡ true
    flag = more_formed fs number slots (overruns p.own condition) no_stmt
        (overrun_formed fs number slots p.own condition (below n slots p order (omega (arith, free))).own test
        (omega (arith, within, more))) refl

    -- no iteration is counted
    by : (known : Option Start) → stmts_formed fs number slots (made_action known p
        (iterations zero condition body step)) ≡ true
    by None = flag
    by (Some s) = flag
repeated_formed fs number slots n known p (suc k) condition body step order within free test next each =
    by (is_counted known (suc k) condition body step)
  where
    b : Below p slots
    b = below n slots p order (omega (arith, free))

    more : n ≤ slots
    more = words_there n slots p order (omega (arith, free))

    iteration : PlainStmts
    iteration = made_iteration p condition (actions_exit by_continue body) (made None (in_loop p) body) step

    resumes : Bool
    resumes = actions_exit by_continue body

    inner : PartWords
    inner = counted_part p resumes

    by : (counted : Bool)
        → stmts_formed fs number slots (if counted then made_counted p (suc k) resumes (made None inner body) step else
        made_loop p (suc k) condition (actions_exit by_return body) iteration) ≡ true
    by true = counted_formed fs number slots p k resumes (made None inner body) step b (omega (arith, free)) next
        (omega (arith, within, more))
        (each inner (order_part n p resumes order) (omega (arith, free, part_free p resumes)))
    by false = loop_formed fs number slots p k condition (actions_exit by_return body) iteration b (omega (arith, free))
        test (omega (arith, within, more))
        (iteration_formed fs number slots p condition (actions_exit by_continue body) (made None (in_loop p) body) step
        (omega (arith, free)) test
        (omega (arith, within, more)) next (omega (arith, within, more)) (each (in_loop p) (order_loop n p order)
        (omega (arith, free))))

-- the variables have the first so many words
mutual
  action_formed : (Fit : ℕ → ℕ → Type 0) (fs : List PlainFunction) (number slots n : ℕ)
      → MayCall Fit fs number → (a : PlainAction) (inside : Bool) (known : Option Start) (p : PartWords) → Order n p
      → action_words a ≤ n → p.free + width.action_masks a ≤ slots → SoundAction Fit inside a
      → stmts_formed fs number slots (made_action known p a) ≡ true
  action_formed Fit fs number slots n each (sets a) inside known p order within free so =
      let b = below n slots p order (omega (arith, free)) in
      let more = words_there n slots p order (omega (arith, free)) in
      more_formed fs number slots (made_assignment p.own a) no_stmt
      (write_formed fs number slots p.own a.target a.value b.own so.0 so.1 (omega (arith, within, more))
      (omega (arith, within, more))) refl
  action_formed Fit fs number slots n each (calls k args result) inside known p order within free so =
      let b = below n slots p order (omega (arith, free)) in
      let more = words_there n slots p order (omega (arith, free)) in
      call_formed fs number slots p k args result b.own free (each k (length args) so.0) so.1 so.2
      (omega (arith, within, more)) (omega (arith, within, more))
  action_formed Fit fs number slots n each (transfers core source target count) inside known p order within
      free so =
      let b = below n slots p order (omega (arith, free)) in
      let more = words_there n slots p order (omega (arith, free)) in
      and_from _ _ (and_from _ _ (lt-ltb p.own slots b.own) (and_from _ _ (lt-ltb core 16 so.0)
      (and_from _ _ (sound_formed slots source so.1 (omega (arith, within, more)))
      (and_from _ _ (sound_formed slots target so.2 (omega (arith, within, more)))
      (sound_formed slots count so.3 (omega (arith, within, more))))))) refl
  action_formed Fit fs number slots n each (chooses branches otherwise) inside known p order within free so =
      both_formed fs number slots (made_branches p branches (is_no_action otherwise) (λ q. made None q otherwise))
      (made_after p (branches_exit any_exit branches || actions_exit any_exit otherwise))
      (branches_formed Fit fs number slots n each branches (is_no_action otherwise) (λ q. made None q otherwise)
      (width.masks otherwise)
      (λ q there room. made_formed Fit fs number slots n each otherwise inside None q there (omega (arith, within)) room
      so.1)
      inside p order (omega (arith, within)) free so.0)
      (after_formed fs number slots p (branches_exit any_exit branches || actions_exit any_exit otherwise)
      (below n slots p order (omega (arith, free))))
  action_formed Fit fs number slots n each (iterations most condition body step) inside known p order within
      free so =
      repeated_formed fs number slots n known p most condition body step order within free so.0 so.2
      (λ q there room. made_formed Fit fs number slots n each body true None q there (omega (arith, within)) room so.1)
  action_formed Fit fs number slots n each breaks inside known p order within free so =
      and_from _ _ (broken_formed fs number slots p (below n slots p order (omega (arith, free)))) refl
  action_formed Fit fs number slots n each continues inside known p order within free so =
      and_from _ _ (continued_formed fs number slots p (below n slots p order (omega (arith, free)))) refl
  action_formed Fit fs number slots n each (returns e) inside known p order within free so =
      let more = words_there n slots p order (omega (arith, free)) in
      return_formed fs number slots p e (below n slots p order (omega (arith, free))) so
      (omega (arith, within, more))

  pub made_formed : (Fit : ℕ → ℕ → Type 0) (fs : List PlainFunction) (number slots n : ℕ)
      → MayCall Fit fs number → (xs : PlainActions) (inside : Bool) (known : Option Start) (p : PartWords) → Order n p
      → words xs ≤ n → p.free + width.masks xs ≤ slots → AllSound Fit inside xs
      → stmts_formed fs number slots (made known p xs) ≡ true
  made_formed Fit fs number slots n each no_action inside known p order within free so = refl
  made_formed Fit fs number slots n each (action a rest) inside known p order within free so =
      both_formed fs number slots (made_action known p a) (if ends a then no_stmt else made (start_of a) p rest)
      (action_formed Fit fs number slots n each a inside known p order (omega (arith, within)) (omega (arith, free))
      so.0)
      (unless_formed fs number slots (ends a) (made (start_of a) p rest)
      (made_formed Fit fs number slots n each rest inside (start_of a) p order (omega (arith, within))
      (omega (arith, free)) so.1))

  -- before what stands after the last `else`, which takes so many masks
  branches_formed : (Fit : ℕ → ℕ → Type 0) (fs : List PlainFunction) (number slots n : ℕ)
      → MayCall Fit fs number → (bs : PlainBranches) (nothing : Bool) (otherwise : PartWords → PlainStmts) (last : ℕ)
      → ((q : PartWords) → Order n q → q.free + last ≤ slots → stmts_formed fs number slots (otherwise q) ≡ true)
      → (inside : Bool) (p : PartWords) → Order n p → branches_words bs ≤ n → p.free + branches_masks bs last ≤ slots
      → SoundBranches Fit inside bs → stmts_formed fs number slots (made_branches p bs nothing otherwise) ≡ true
  branches_formed Fit fs number slots n each no_branch nothing otherwise last behind inside p order within free so =
      behind p order free
  branches_formed Fit fs number slots n each (branch condition body rest) nothing otherwise last behind inside p order
      within free so =
      let more = words_there n slots p order (omega (arith, free)) in
      arm_formed fs number slots p condition (made None (in_arm p) body) (actions_exit any_exit body)
      (is_no_branch rest && nothing) (made_branches (in_arm p) rest nothing otherwise)
      (below n slots p order (omega (arith, free))) (omega (arith, free)) so.0 (omega (arith, within, more))
      (made_formed Fit fs number slots n each body inside None (in_arm p) (order_arm n p order) (omega (arith, within))
      (omega (arith, free)) so.1)
      (branches_formed Fit fs number slots n each rest nothing otherwise last behind inside (in_arm p)
      (order_arm n p order) (omega (arith, within))
      (omega (arith, free)) so.2)

-- Parts that are not to act: under masks that say so they leave all words below the first free one, and all memories.
use Rattle.std.proofs.Common.{◌≡◌, ◌≢◌, ℕ, zero, suc, ◌+◌, ◌<◌, ◌≤◌, ◌==◌, Bool, true, false, if◌then◌else◌, List, Option, Some, None, refl, ap, sym, ◌∙◌, arith, eq-eqb, eqb-true, ap₂, subst, true≢false}
use Rattle.std.specs.Prelude.{bit_and, bit_xor, not, ◌&&◌, ◌||◌}
use Rattle.c_world.specs.Numbers.{flag, is_true, sum_of, difference_of}
use Rattle.c_world.specs.World.{World}
use Rattle.sp_tree.specs.declared.operators.SpBinary.TheVariants as binary
use Rattle.sp_tree.specs.Plain.{PlainSp, constant, frame_word, between_two}
use Rattle.sp_tree.specs.Statements.{PlainSpTarget, to_slot, masks, writes, overruns, PlainStmts, no_stmt, stmt, one, joined}
use Rattle.sp_tree.specs.Statements as tree
use Rattle.sp_tree.specs.Straight.{State, Serves, with_slot, args_worth, worth, times, stmt_done, stmts_done}
use Rattle.sp_tree.proofs.Joins.{joined_done}
use Rattle.sp_tree.proofs.Masks.{write_off, send_off, overrun_off, call_off}
use Rattle.c_meaning.specs.Actions.{to_level, PlainAssignment, PlainAction, sets, calls, transfers, chooses, iterations, breaks, continues, returns, PlainActions, no_action, action, PlainBranches, no_branch, branch}
use Rattle.c_meaning.specs.Actions as actions
use Rattle.single_path.specs.declared.counted.Start.{Start}
use Rattle.single_path.specs.declared.part_words.PartWords.{PartWords}
use Rattle.single_path.specs.PartWords.{in_arm, in_loop, in_counted, truth, where_so, where_not_taken, where_other, where_not_returned, bit_of, not_zero, broken, continued, returned_function, returned_loop}
use Rattle.single_path.specs.PartWords as mask
use Rattle.single_path.specs.Counted.{start_of}
use Rattle.single_path.specs.Made.{made, made_action, made_branches, made_target, made_assignment, made_step, made_return, made_result, made_arm, made_otherwise, made_on, made_after, made_behind, made_again, made_iteration, made_loop, is_counted, counted_part, made_begun, made_counted, any_exit, by_continue, by_return, actions_exit, branches_exit, is_zero, is_no_branch, is_no_action, ends}
use Rattle.single_path.proofs.Truths.{truth_worth}
use Rattle.single_path.proofs.Frames.{put_here, Order, Still, still_here, still_on, fewer, set_after, set_same, iterations_still}

-- a function under another mask than 1 changes no memory
pub record Quiet (g : Serves) : Type 0 where
  pub world : (k under : ℕ) (args : List ℕ) (w : World) → under ≢ 1 → (g k under args w).world ≡ w

-- the masks of a part, of its loop and of its function where it is not to act
pub data Idle : ℕ → ℕ → ℕ → Type 0 where
  left : Idle 0 0 1
  armed : Idle 0 1 1
  waits : Idle 0 2 1
  skips : Idle 2 2 1
  gone : Idle 0 0 0

pub record Dead (p : PartWords) (s : State) : Type 0 where
  pub own_word : ℕ
  pub loop_word : ℕ
  pub function_word : ℕ
  pub idle : Idle own_word loop_word function_word
  pub own : s.frame p.own ≡ own_word
  pub loop : s.frame p.iteration ≡ loop_word
  pub function : s.frame p.function ≡ function_word
  pub alone : own_word ≡ 2 → p.own ≡ p.iteration

-- ---- what masks are set to, where a part is idle

not_1 : (a b c : ℕ) → Idle a b c → a ≢ 1
not_1 a b c left = omega arith
not_1 a b c armed = omega arith
not_1 a b c waits = omega arith
not_1 a b c skips = omega arith
not_1 a b c gone = omega arith

idle_so : (a b c : ℕ) → Idle a b c → (holds : Bool) → bit_and a (flag holds) ≡ 0
idle_so a b c left holds = refl
idle_so a b c armed holds = refl
idle_so a b c waits holds = refl
idle_so a b c skips true = refl
idle_so a b c skips false = refl
idle_so a b c gone holds = refl

idle_bit : (a b c : ℕ) → Idle a b c → bit_and a 1 ≡ 0
idle_bit a b c left = refl
idle_bit a b c armed = refl
idle_bit a b c waits = refl
idle_bit a b c skips = refl
idle_bit a b c gone = refl

idle_otherwise : (a b c : ℕ) → Idle a b c → bit_and (bit_and b 1) (bit_xor a 0) ≡ 0
idle_otherwise a b c left = refl
idle_otherwise a b c armed = refl
idle_otherwise a b c waits = refl
idle_otherwise a b c skips = refl
idle_otherwise a b c gone = refl

idle_on : (a b c : ℕ) → Idle a b c → bit_and a b ≡ a
idle_on a b c left = refl
idle_on a b c armed = refl
idle_on a b c waits = refl
idle_on a b c skips = refl
idle_on a b c gone = refl

idle_not_returned : (a b c : ℕ) → Idle a b c → bit_and b (difference_of 0 c) ≡ b
idle_not_returned a b c left = refl
idle_not_returned a b c armed = refl
idle_not_returned a b c waits = refl
idle_not_returned a b c skips = refl
idle_not_returned a b c gone = refl

idle_broken : (a b c : ℕ) → Idle a b c → bit_xor b (bit_and a 1) ≡ b
idle_broken a b c left = refl
idle_broken a b c armed = refl
idle_broken a b c waits = refl
idle_broken a b c skips = refl
idle_broken a b c gone = refl

idle_continued : (a b c : ℕ) → Idle a b c → sum_of b (bit_and a 1) ≡ b
idle_continued a b c left = refl
idle_continued a b c armed = refl
idle_continued a b c waits = refl
idle_continued a b c skips = refl
idle_continued a b c gone = refl

idle_without : (a b c : ℕ) → Idle a b c → bit_xor b 0 ≡ b
idle_without a b c left = refl
idle_without a b c armed = refl
idle_without a b c waits = refl
idle_without a b c skips = refl
idle_without a b c gone = refl

idle_function : (a b c : ℕ) → Idle a b c → bit_xor c 0 ≡ c
idle_function a b c left = refl
idle_function a b c armed = refl
idle_function a b c waits = refl
idle_function a b c skips = refl
idle_function a b c gone = refl

idle_alone : (a b c : ℕ) → Idle a b c → a ≡ b → bit_and b 2 ≡ b
idle_alone a b c left same = refl
idle_alone a b c armed same = absurd (omega (arith, same))
idle_alone a b c waits same = refl
idle_alone a b c skips same = refl
idle_alone a b c gone same = refl

idle_apart : (a b c : ℕ) → Idle a b c → a ≢ 2 → a ≡ 0
idle_apart a b c left apart = refl
idle_apart a b c armed apart = refl
idle_apart a b c waits apart = refl
idle_apart a b c skips apart = absurd (apart refl)
idle_apart a b c gone apart = refl

-- ---- the masks of parts inside

idle_arm : (a b c : ℕ) → Idle a b c → Idle 0 b c
idle_arm a b c left = left
idle_arm a b c armed = armed
idle_arm a b c waits = waits
idle_arm a b c skips = waits
idle_arm a b c gone = gone

idle_loop : (a b c : ℕ) → Idle a b c → Idle 0 0 c
idle_loop a b c left = left
idle_loop a b c armed = left
idle_loop a b c waits = left
idle_loop a b c skips = left
idle_loop a b c gone = gone

pub dead_on : (n : ℕ) (p : PartWords) (s t : State) → p.own < n → p.iteration < n → p.function < n → Still n s t
    → Dead p s → Dead p t
dead_on n p s t own_in loop_in function_in h d = record {
  own_word = d.own_word;
  loop_word = d.loop_word;
  function_word = d.function_word;
  idle = d.idle;
  own = h.frame p.own own_in ∙ d.own;
  loop = h.frame p.iteration loop_in ∙ d.loop;
  function = h.frame p.function function_in ∙ d.function;
  alone = d.alone;
}

-- the masks of a part stand before its first free word
pub still_dead : (n : ℕ) (p : PartWords) (s t : State) → Order n p → Still p.free s t → Dead p s → Dead p t
still_dead n p s t o h d =
    dead_on p.free p s t o.free (omega (arith, o.own, o.free)) (omega (arith, o.loop, o.own, o.free)) h d

pub dead_arm : (n : ℕ) (p : PartWords) (s t : State) → Order n p → Still p.free s t → t.frame p.free ≡ 0 → Dead p s
    → Dead (in_arm p) t
dead_arm n p s t o h off d = record {
  own_word = 0;
  loop_word = d.loop_word;
  function_word = d.function_word;
  idle = idle_arm d.own_word d.loop_word d.function_word d.idle;
  own = off;
  loop = h.frame p.iteration (omega (arith, o.own, o.free)) ∙ d.loop;
  function = h.frame p.function (omega (arith, o.loop, o.own, o.free)) ∙ d.function;
  alone = λ two. absurd (omega (arith, two));
}

dead_loop : (n : ℕ) (p : PartWords) (counted : Bool) (s t : State) → Order n p → Still p.free s t
    → t.frame p.free ≡ 0 → Dead p s
    → Dead (record (in_loop p) { counted = counted }) t
dead_loop n p counted s t o h off d = record {
  own_word = 0;
  loop_word = 0;
  function_word = d.function_word;
  idle = idle_loop d.own_word d.loop_word d.function_word d.idle;
  own = off;
  loop = off;
  function = h.frame p.function (omega (arith, o.loop, o.own, o.free)) ∙ d.function;
  alone = λ two. absurd (omega (arith, two));
}

pub order_arm : (n : ℕ) (p : PartWords) → Order n p → Order n (in_arm p)
order_arm n p o = record {
  result = o.result;
  function = o.function;
  loop = o.loop;
  own = omega (arith, o.own, o.free);
  free = omega arith;
}

pub order_loop : (n : ℕ) (p : PartWords) → Order n p → Order n (in_loop p)
order_loop n p o = record {
  result = o.result;
  function = o.function;
  loop = omega (arith, o.loop, o.own, o.free);
  own = omega arith;
  free = omega arith;
}

pub order_counted : (n : ℕ) (p : PartWords) → Order n p → Order n (in_counted p)
order_counted n p o = record {
  result = o.result;
  function = o.function;
  loop = omega (arith, o.loop, o.own, o.free);
  own = omega arith;
  free = omega arith;
}

pub order_part : (n : ℕ) (p : PartWords) (resumes : Bool) → Order n p → Order n (counted_part p resumes)
order_part n p true o = order_counted n p o
order_part n p false o = o

pub part_free : (p : PartWords) (resumes : Bool) → (counted_part p resumes).free ≤ p.free + 1
part_free p true = omega arith
part_free p false = omega arith

-- ---- statements under masks that are not 1

pub off : (p : PartWords) (s : State) → Dead p s → s.frame p.own ≢ 1
off p s d is = not_1 d.own_word d.loop_word d.function_word d.idle (sym d.own ∙ is)

same_still : (n : ℕ) (s t : State) → t ≡ s → Still n s t
same_still n s t same =
    record { frame = λ x below. ap (λ (u : State). u.frame x) same; world = ap (λ (u : State). u.world) same }

joined_still : (g : Serves) (n : ℕ) (xs ys : PlainStmts) (s : State) → Still n s (stmts_done g xs s)
    → Still n (stmts_done g xs s) (stmts_done g ys (stmts_done g xs s)) → Still n s (stmts_done g (joined xs ys) s)
joined_still g n xs ys s h k =
    subst (λ u. Still n s u) (sym (joined_done g xs ys s)) (still_on n s (stmts_done g xs s)
    (stmts_done g ys (stmts_done g xs s)) h k)

-- statements in three parts
pub three_done : (g : Serves) (xs ys zs : PlainStmts) (s : State)
    → stmts_done g (joined xs (joined ys zs)) s ≡ stmts_done g zs (stmts_done g ys (stmts_done g xs s))
three_done g xs ys zs s = joined_done g xs (joined ys zs) s ∙ joined_done g ys zs (stmts_done g xs s)

pub call_still : (g : Serves) → Quiet g → (n mask k : ℕ) (args : List PlainSp) (result : Option ℕ) (s : State)
    → s.frame mask ≢ 1
    → Still n s (stmt_done g (tree.calls mask k args result) s)
call_still g quiet n mask k args result s is = let same = call_off g mask k args result s is in record {
  frame = λ x below. ap (λ (u : State). u.frame x) same;
  world = ap (λ (u : State). u.world) same ∙ quiet.world k (s.frame mask) (args_worth args s) s.world is;
}

-- what a function gives is set nowhere, by its free word either
given_still : (g : Serves) → Quiet g → (n : ℕ) (p : PartWords) (k : ℕ) (args : List PlainSp) (target : PlainSpTarget)
    (s : State) → p.own < n → s.frame p.own ≢ 1
    → Still n s (stmts_done g (stmt (tree.calls p.own k args (Some p.free))
    (one (writes p.own target (frame_word p.free)))) s)
given_still g quiet n p k args target s own_in is =
    let t = stmt_done g (tree.calls p.own k args (Some p.free)) s in
    let called = call_still g quiet n p.own k args (Some p.free) s is in
    let still_off : t.frame p.own ≢ 1 = λ e. is (sym (called.frame p.own own_in) ∙ e) in
    still_on n s t (stmt_done g (writes p.own target (frame_word p.free)) t) called
    (same_still n t (stmt_done g (writes p.own target (frame_word p.free)) t)
    (write_off g p.own target (frame_word p.free) t still_off))

step_still : (g : Serves) (n mask : ℕ) (step : Option PlainAssignment) (s : State) → s.frame mask ≢ 1
    → Still n s (stmts_done g (made_step mask step) s)
step_still g n mask None s is = still_here n s
step_still g n mask (Some a) s is =
    same_still n s (stmt_done g (made_assignment mask a) s) (write_off g mask (made_target a.target) a.value s is)

-- ---- ways on that are not taken

result_still : (g : Serves) (n : ℕ) (p : PartWords) (e : PlainSp) (zero_value : Bool) (s : State) → s.frame p.own ≢ 1
    → Still n s (stmts_done g (if zero_value then no_stmt else one (writes p.own (to_slot p.result) e)) s)
result_still g n p e true s is = still_here n s
result_still g n p e false s is =
    same_still n s (stmt_done g (writes p.own (to_slot p.result) e) s) (write_off g p.own (to_slot p.result) e s is)

returned_function_still : (p : PartWords) (s : State) (alone : Bool) → (p.own == p.iteration) ≡ alone → Dead p s
    → bit_xor (s.frame p.function) (worth (if alone then bit_of p.own else frame_word p.own) s) ≡ s.frame p.function
returned_function_still p s true is d =
    ap₂ (λ c a. bit_xor c (bit_and a 1)) d.function d.own
    ∙ ap (bit_xor d.function_word) (idle_bit d.own_word d.loop_word d.function_word d.idle)
    ∙ idle_function d.own_word d.loop_word d.function_word d.idle ∙ sym d.function
returned_function_still p s false is d =
    ap₂ bit_xor d.function (d.own ∙ idle_apart d.own_word d.loop_word d.function_word d.idle (λ two. true≢false
    (sym (eq-eqb p.own p.iteration (d.alone two)) ∙ is)))
    ∙ idle_function d.own_word d.loop_word d.function_word d.idle ∙ sym d.function

returned_loop_still : (p : PartWords) (s : State) (alone : Bool) → (p.own == p.iteration) ≡ alone → Dead p s
    → worth (if alone then mask.both (frame_word p.iteration) (constant 2) else mask.without (frame_word p.iteration)
    (frame_word p.own)) s ≡ s.frame p.iteration
returned_loop_still p s true is d =
    ap (λ b. bit_and b 2) d.loop
    ∙ idle_alone d.own_word d.loop_word d.function_word d.idle (sym d.own ∙ ap s.frame (eqb-true p.own p.iteration is)
    ∙ d.loop) ∙ sym d.loop
returned_loop_still p s false is d =
    ap₂ bit_xor d.loop (d.own ∙ idle_apart d.own_word d.loop_word d.function_word d.idle (λ two. true≢false
    (sym (eq-eqb p.own p.iteration (d.alone two)) ∙ is)))
    ∙ idle_without d.own_word d.loop_word d.function_word d.idle ∙ sym d.loop

broken_still : (p : PartWords) (s : State) → Dead p s → worth (broken p) s ≡ s.frame p.iteration
broken_still p s d =
    ap₂ (λ b a. bit_xor b (bit_and a 1)) d.loop d.own ∙ idle_broken d.own_word d.loop_word d.function_word d.idle
    ∙ sym d.loop

continued_still : (p : PartWords) (s : State) (counted : Bool) → Dead p s
    → worth (if counted then broken p else between_two binary.Plus (frame_word p.iteration) (bit_of p.own)) s
    ≡ s.frame p.iteration
continued_still p s true d = broken_still p s d
continued_still p s false d =
    ap₂ (λ b a. sum_of b (bit_and a 1)) d.loop d.own ∙ idle_continued d.own_word d.loop_word d.function_word d.idle
    ∙ sym d.loop

outer_still : (g : Serves) (p : PartWords) (outside : Bool) (s : State) → Dead p s
    → Still p.free s (stmts_done g (if outside then no_stmt else one (masks p.iteration (returned_loop p))) s)
outer_still g p true s d = still_here p.free s
outer_still g p false s d =
    set_same p.free p.iteration (worth (returned_loop p) s) s (returned_loop_still p s (p.own == p.iteration) refl d)

return_still : (g : Serves) (n : ℕ) (p : PartWords) (e : PlainSp) (s : State) → Order n p → Dead p s
    → Still p.free s (stmts_done g (made_return p e) s)
return_still g n p e s o d =
    let result = result_still g p.free p e (is_zero e) s (off p s d) in
    let t = stmts_done g (made_result p e) s in
    let d' = still_dead n p s t o result d in
    let u = with_slot p.function (worth (returned_function p) t) t in
    let function = set_same p.free p.function (worth (returned_function p) t) t (returned_function_still p t
    (p.own == p.iteration) refl d') in
    let rest = if p.function == p.iteration then no_stmt else one (masks p.iteration (returned_loop p)) in
    joined_still g p.free (made_result p e) (stmt (masks p.function (returned_function p)) rest) s result
    (still_on p.free t u (stmts_done g rest u) function (outer_still g p (p.function == p.iteration) u
    (still_dead n p t u o function d')))

-- ---- iterations

-- the masks of a loop that is left
pub record Left (p : PartWords) (s : State) : Type 0 where
  pub dead : Dead (in_loop p) s
  pub off : s.frame p.free ≡ 0

pub left_on : (n : ℕ) (p : PartWords) (s t : State) → Order n p → Still (p.free + 1) s t → Left p s → Left p t
left_on n p s t o h l = record {
  dead = still_dead n (in_loop p) s t (order_loop n p o) h l.dead;
  off = h.frame p.free (omega arith) ∙ l.off;
}

pub left_off : (p : PartWords) (s : State) → Left p s → s.frame p.free ≢ 1
left_off p s l e = absurd (let z = l.off in omega (arith, e, z))

-- the mask of a loop that is left stays, whether the iteration ends or the condition is tested
pub again_still : (p : PartWords) (s : State) → Left p s
    → Still (p.free + 1) s (with_slot p.free (worth (not_zero (frame_word p.free)) s) s)
again_still p s l = set_same (p.free + 1) p.free (worth (not_zero (frame_word p.free)) s) s
    (ap (λ a. flag (not (a == 0))) l.off ∙ sym l.off)

pub tested_still : (p : PartWords) (condition : PlainSp) (s : State) → Left p s
    → Still (p.free + 1) s (with_slot p.free (worth (where_so p.free condition) s) s)
tested_still p condition s l = set_same (p.free + 1) p.free (worth (where_so p.free condition) s) s
    (ap (λ a. bit_and a (worth (truth condition) s)) l.off ∙ sym l.off)

-- the end of an iteration
pub ended_still : (g : Serves) (n : ℕ) (p : PartWords) (exits : Bool) (step : Option PlainAssignment) (s : State)
    → Order n p → Left p s
    → Still (p.free + 1) s (stmts_done g (joined (made_again p exits) (made_step p.free step)) s)
ended_still g n p true step s o l =
    let t = with_slot p.free (worth (not_zero (frame_word p.free)) s) s in
    let again = again_still p s l in
    still_on (p.free + 1) s t (stmts_done g (made_step p.free step) t) again
    (step_still g (p.free + 1) p.free step t (left_off p t (left_on n p s t o again l)))
ended_still g n p false step s o l = step_still g (p.free + 1) p.free step s (left_off p s l)

-- an iteration after its test
pub behind_still : (g : Serves) (n : ℕ) (p : PartWords) (exits : Bool) (body : PlainStmts)
    (step : Option PlainAssignment) → Order n p
    → ((t : State) → Dead (in_loop p) t → Still (p.free + 1) t (stmts_done g body t)) → (s : State) → Left p s
    → Still (p.free + 1) s (stmts_done g (joined body (joined (made_again p exits) (made_step p.free step))) s)
behind_still g n p exits body step o each s l =
    let iterated = each s l.dead in
    joined_still g (p.free + 1) body (joined (made_again p exits) (made_step p.free step)) s iterated
    (ended_still g n p exits step (stmts_done g body s) o (left_on n p s (stmts_done g body s) o iterated l))

iteration_still : (g : Serves) (n : ℕ) (p : PartWords) (condition : PlainSp) (exits : Bool) (body : PlainStmts)
    (step : Option PlainAssignment) → Order n p
    → ((t : State) → Dead (in_loop p) t → Still (p.free + 1) t (stmts_done g body t))
    → (s : State) → Left p s → Still (p.free + 1) s (stmts_done g (made_iteration p condition exits body step) s)
iteration_still g n p condition exits body step o each s l =
    let t = with_slot p.free (worth (where_so p.free condition) s) s in
    let tested = tested_still p condition s l in
    still_on (p.free + 1) s t (stmts_done g (joined body (joined (made_again p exits) (made_step p.free step))) t)
    tested
    (behind_still g n p exits body step o each t (left_on n p s t o tested l))

pub iterations_left : (g : Serves) (n : ℕ) (p : PartWords) (condition : PlainSp) (exits : Bool) (body : PlainStmts)
    (step : Option PlainAssignment) → Order n p
    → ((t : State) → Dead (in_loop p) t → Still (p.free + 1) t (stmts_done g body t))
    → (k : ℕ) (s : State) → Left p s
    → Still (p.free + 1) s (times k (stmts_done g (made_iteration p condition exits body step)) s)
iterations_left g n p condition exits body step o each k s l =
    iterations_still (p.free + 1) (stmts_done g (made_iteration p condition exits body step)) (Left p)
    (λ t h. iteration_still g n p condition exits body step o each t h)
    (λ t h. left_on n p t (stmts_done g (made_iteration p condition exits body step) t) o
    (iteration_still g n p condition exits body step o each t h) h) k s l

-- so many iterations, and the flag after them
pub flagged_still : (g : Serves) (n : ℕ) (p : PartWords) (condition : PlainSp) (exits : Bool) (body : PlainStmts)
    (step : Option PlainAssignment) → Order n p
    → ((t : State) → Dead (in_loop p) t → Still (p.free + 1) t (stmts_done g body t)) → (k : ℕ) (s : State) → Left p s
    → Still p.free s (stmt_done g (overruns p.free condition)
    (times k (stmts_done g (made_iteration p condition exits body step)) s))
flagged_still g n p condition exits body step o each k s l =
    let t = times k (stmts_done g (made_iteration p condition exits body step)) s in
    let iterated = iterations_left g n p condition exits body step o each k s l in
    still_on p.free s t (stmt_done g (overruns p.free condition) t) (fewer (p.free + 1) p.free s t
    (omega arith) iterated)
    (same_still p.free t (stmt_done g (overruns p.free condition) t) (overrun_off g p.free condition t
    (left_off p t (left_on n p s t o iterated l))))

on_still : (g : Serves) (p : PartWords) (s : State) → Dead p s → Still p.free s (stmts_done g (made_on p) s)
on_still g p s d = by (p.own == p.iteration)
  where
    by : (alone : Bool) → Still p.free s (stmts_done g (if alone then no_stmt else one (masks p.own (mask.where_on p)))
        s)
    by true = still_here p.free s
    by false = set_same p.free p.own (worth (mask.where_on p) s) s
        (ap₂ bit_and d.own d.loop ∙ idle_on d.own_word d.loop_word d.function_word d.idle ∙ sym d.own)

after_still : (g : Serves) (p : PartWords) (exits : Bool) (s : State) → Dead p s
    → Still p.free s (stmts_done g (made_after p exits) s)
after_still g p true s d = on_still g p s d
after_still g p false s d = still_here p.free s

-- a mask that begins as that of a part that does not act
begun_off : (p : PartWords) (s : State) → Dead p s → (with_slot p.free (worth (bit_of p.own) s) s).frame p.free ≡ 0
begun_off p s d =
    put_here p.free (worth (bit_of p.own) s) s.frame ∙ ap (λ x. bit_and x 1) d.own
    ∙ idle_bit d.own_word d.loop_word d.function_word d.idle

-- a loop begins where its part does not act
pub loop_left : (n : ℕ) (p : PartWords) (s : State) → Order n p → Dead p s
    → Left p (with_slot p.free (worth (bit_of p.own) s) s)
loop_left n p s o d =
    let t = with_slot p.free (worth (bit_of p.own) s) s in
    let off_there = begun_off p s d in
    record {
      dead = dead_loop n p false s t o (set_after p.free p.free (worth (bit_of p.own) s) s (omega arith))
          off_there d;
      off = off_there;
    }

-- after the iterations the masks stand
masked_still : (g : Serves) (n : ℕ) (p : PartWords) (exits : Bool) (s : State) → Order n p → Dead p s
    → Still p.free s (stmts_done g (made_behind p exits) s)
masked_still g n p false s o d = still_here p.free s
masked_still g n p true s o d =
    joined_still g p.free (outer (p.function == p.iteration)) (made_on p) s (repaired (p.function == p.iteration))
    (on_still g p u (still_dead n p s u o (repaired (p.function == p.iteration)) d))
  where
    outer : Bool → PlainStmts
    outer outside = if outside then no_stmt else one (masks p.iteration (where_not_returned p))

    u : State
    u = stmts_done g (outer (p.function == p.iteration)) s

    repaired : (outside : Bool) → Still p.free s (stmts_done g (outer outside) s)
    repaired true = still_here p.free s
    repaired false = set_same p.free p.iteration (worth (where_not_returned p) s) s
        (ap₂ (λ b c. bit_and b (difference_of 0 c)) d.loop d.function
        ∙ idle_not_returned d.own_word d.loop_word d.function_word d.idle ∙ sym d.loop)

-- and so does the flag
loop_still : (g : Serves) (n : ℕ) (p : PartWords) (most : ℕ) (condition : PlainSp) (returned exits : Bool)
    (body : PlainStmts) (step : Option PlainAssignment) → Order n p
    → ((t : State) → Dead (in_loop p) t → Still (p.free + 1) t (stmts_done g body t))
    → (s : State) → Dead p s
    → Still p.free s (stmts_done g (made_loop p most condition returned
    (made_iteration p condition exits body step)) s)
loop_still g n p zero condition returned exits body step o each s d =
    same_still p.free s (stmt_done g (overruns p.own condition) s) (overrun_off g p.own condition s (off p s d))
loop_still g n p (suc k) condition returned exits body step o each s d =
    let t = with_slot p.free (worth (bit_of p.own) s) s in
    let begun = set_after p.free p.free (worth (bit_of p.own) s) s (omega arith) in
    let left_there = loop_left n p s o d in
    let v = stmt_done g (overruns p.free condition)
    (times (suc k) (stmts_done g (made_iteration p condition exits body step)) t) in
    let so_far =
    still_on p.free s t v begun (flagged_still g n p condition exits body step o each (suc k) t left_there) in
    still_on p.free s v (stmts_done g (made_behind p returned) v) so_far (masked_still g n p returned v o
    (still_dead n p s v o so_far d))

-- the masks of an iteration that begins where its part does not act
pub begun_dead : (g : Serves) (n : ℕ) (p : PartWords) (resumes : Bool) (s : State) → Order n p → Dead p s
    → Dead (counted_part p resumes) (stmts_done g (made_begun p resumes) s)
begun_dead g n p true s o d =
    dead_loop n p true s (with_slot p.free (worth (bit_of p.own) s) s) o
    (set_after p.free p.free (worth (bit_of p.own) s) s (omega arith)) (begun_off p s d) d
begun_dead g n p false s o d = d

-- the iteration before its step
pub front_still : (g : Serves) (n : ℕ) (p : PartWords) (resumes : Bool) (body : PlainStmts) → Order n p
    → ((t : State) → Dead (counted_part p resumes) t → Still (counted_part p resumes).free t (stmts_done g body t))
    → (s : State) → Dead p s
    → Still p.free s (stmts_done g body (stmts_done g (made_begun p resumes) s))
front_still g n p true body o each s d =
    let t = with_slot p.free (worth (bit_of p.own) s) s in
    let u = stmts_done g body t in
    still_on p.free s t u (set_after p.free p.free (worth (bit_of p.own) s) s (omega arith))
    (fewer (p.free + 1) p.free t u (omega arith) (each t (begun_dead g n p true s o d)))
front_still g n p false body o each s d = each s d

-- iterations of which the step stands under the mask of the part
pub counted_still : (g : Serves) (n : ℕ) (p : PartWords) (resumes : Bool) (body : PlainStmts)
    (step : Option PlainAssignment) → Order n p
    → ((t : State) → Dead (counted_part p resumes) t → Still (counted_part p resumes).free t (stmts_done g body t))
    → (k : ℕ) (s : State) → Dead p s
    → Still p.free s (times k (stmts_done g (joined (made_begun p resumes) (joined body (made_step p.own step)))) s)
counted_still g n p resumes body step o each k s d =
    iterations_still p.free iteration (Dead p) still (λ t h. still_dead n p t (iteration t) o (still t h) h) k s d
  where
    iteration : State → State
    iteration = stmts_done g (joined (made_begun p resumes) (joined body (made_step p.own step)))

    still : (t : State) → Dead p t → Still p.free t (iteration t)
    still t h =
        let u = stmts_done g body (stmts_done g (made_begun p resumes) t) in
        let front = front_still g n p resumes body o each t h in
        subst (λ v. Still p.free t v) (sym (three_done g (made_begun p resumes) body (made_step p.own step) t))
        (still_on p.free t u (stmts_done g (made_step p.own step) u) front
        (step_still g p.free p.own step u (off p u (still_dead n p t u o front h))))

either_still : (g : Serves) (n : ℕ) (b : Bool) (xs ys : PlainStmts) (s : State) → Still n s (stmts_done g xs s)
    → Still n s (stmts_done g ys s)
    → Still n s (stmts_done g (if b then xs else ys) s)
either_still g n true xs ys s h k = h
either_still g n false xs ys s h k = k

-- ---- arms

-- the mask of an arm, as it begins and after `else`
pub arm_off : (p : PartWords) (condition : PlainSp) (s : State) → Dead p s
    → (with_slot p.free (worth (where_so p.own condition) s) s).frame p.free ≡ 0
arm_off p condition s d =
    put_here p.free (worth (where_so p.own condition) s) s.frame
    ∙ ap₂ bit_and d.own (truth_worth condition s)
    ∙ idle_so d.own_word d.loop_word d.function_word d.idle (is_true (worth condition s))

pub not_taken_still : (p : PartWords) (exits : Bool) (s : State) → Dead p s → s.frame p.free ≡ 0
    → Still (p.free + 1) s (with_slot p.free (worth (if exits then where_not_taken p else where_other p) s) s)
not_taken_still p exits s d is =
    set_same (p.free + 1) p.free (worth (if exits then where_not_taken p else where_other p) s) s (by exits)
  where
    own_off : (alone : Bool) → (p.own == p.iteration) ≡ alone
        → worth (if alone then bit_of p.own else frame_word p.own) s ≡ 0
    own_off true same = ap (λ a. bit_and a 1) d.own ∙ idle_bit d.own_word d.loop_word d.function_word d.idle
    own_off false other =
        d.own ∙ idle_apart d.own_word d.loop_word d.function_word d.idle (λ two. true≢false
        (sym (eq-eqb p.own p.iteration (d.alone two)) ∙ other))

    by : (exits : Bool) → worth (if exits then where_not_taken p else where_other p) s ≡ s.frame p.free
    by true =
        ap₂ (λ b a. bit_and (bit_and b 1) (bit_xor a (s.frame p.free))) d.loop d.own
        ∙ ap (λ f. bit_and (bit_and d.loop_word 1) (bit_xor d.own_word f)) is
        ∙ idle_otherwise d.own_word d.loop_word d.function_word d.idle ∙ sym is
    by false = ap₂ bit_xor (own_off (p.own == p.iteration) refl) is ∙ sym is

otherwise_still : (g : Serves) (n : ℕ) (p : PartWords) (exits nothing : Bool) (rest : PlainStmts) → Order n p
    → ((t : State) → Dead (in_arm p) t → Still (p.free + 1) t (stmts_done g rest t))
    → (s : State) → Dead p s → Dead (in_arm p) s → s.frame p.free ≡ 0
    → Still (p.free + 1) s (stmts_done g (made_otherwise p exits nothing rest) s)
otherwise_still g n p exits true rest o each s d inner is = still_here (p.free + 1) s
otherwise_still g n p exits false rest o each s d inner is =
    let t = with_slot p.free (worth (if exits then where_not_taken p else where_other p) s) s in
    let tested = not_taken_still p exits s d is in
    still_on (p.free + 1) s t (stmts_done g rest t) tested
    (each t (still_dead n (in_arm p) s t (order_arm n p o) tested inner))

arm_still : (g : Serves) (n : ℕ) (p : PartWords) (condition : PlainSp) (arm : PlainStmts) (exits nothing : Bool)
    (rest : PlainStmts) → Order n p
    → ((t : State) → Dead (in_arm p) t → Still (p.free + 1) t (stmts_done g arm t))
    → ((t : State) → Dead (in_arm p) t → Still (p.free + 1) t (stmts_done g rest t))
    → (s : State) → Dead p s
    → Still p.free s (stmts_done g (made_arm p condition arm (made_otherwise p exits nothing rest)) s)
arm_still g n p condition arm exits nothing rest o inside behind s d =
    let t = with_slot p.free (worth (where_so p.own condition) s) s in
    let begun = set_after p.free p.free (worth (where_so p.own condition) s) s (omega arith) in
    let off_there = arm_off p condition s d in
    let inner = dead_arm n p s t o begun off_there d in
    let u = stmts_done g arm t in
    let taken = inside t inner in
    let so_far = still_on p.free s t u begun (fewer (p.free + 1) p.free t u (omega arith) taken) in
    let others = otherwise_still g n p exits nothing rest o behind u (still_dead n p s u o so_far d)
    (still_dead n (in_arm p) t u (order_arm n p o) taken inner) (taken.frame p.free (omega arith) ∙ off_there) in
    still_on p.free s t (stmts_done g (joined arm (made_otherwise p exits nothing rest)) t) begun
    (fewer (p.free + 1) p.free t (stmts_done g (joined arm (made_otherwise p exits nothing rest)) t) (omega arith)
    (joined_still g (p.free + 1) arm (made_otherwise p exits nothing rest) t taken others))

-- ---- all actions

mutual
  pub dead_action : (g : Serves) → Quiet g → (n : ℕ) (a : PlainAction) (known : Option Start) (p : PartWords)
      (s : State) → Order n p → Dead p s
      → Still p.free s (stmts_done g (made_action known p a) s)
  dead_action g quiet n (sets a) known p s o d =
      same_still p.free s (stmt_done g (made_assignment p.own a) s)
      (write_off g p.own (made_target a.target) a.value s (off p s d))
  dead_action g quiet n (calls k args None) known p s o d = call_still g quiet p.free p.own k args None s (off p s d)
  dead_action g quiet n (calls k args (Some (to_level at))) known p s o d =
      call_still g quiet p.free p.own k args (Some at) s (off p s d)
  dead_action g quiet n (calls k args (Some (actions.to_cell cell))) known p s o d =
      given_still g quiet p.free p k args (tree.to_cell cell) s o.free (off p s d)
  dead_action g quiet n (calls k args (Some (actions.to_array array index))) known p s o d =
      given_still g quiet p.free p k args (tree.to_array array index) s o.free (off p s d)
  dead_action g quiet n (transfers core source target count) known p s o d =
      same_still p.free s (stmt_done g (tree.transfers p.own core source target count) s)
      (send_off g p.own core source target count s (off p s d))
  dead_action g quiet n (chooses branches otherwise) known p s o d =
      let arms = made_branches p branches (is_no_action otherwise) (λ q. made None q otherwise) in
      let chosen = dead_branches g quiet n branches (is_no_action otherwise) (λ q. made None q otherwise)
      (λ q t. dead g quiet n otherwise None q t) p s o d in
      let exits = branches_exit any_exit branches || actions_exit any_exit otherwise in
      joined_still g p.free arms (made_after p exits) s chosen
      (after_still g p exits (stmts_done g arms s) (still_dead n p s (stmts_done g arms s) o chosen d))
  dead_action g quiet n (iterations most condition body step) known p s o d =
      let resumes = actions_exit by_continue body in
      either_still g p.free (is_counted known most condition body step) (made_counted p most resumes
      (made None (counted_part p resumes) body) step)
      (made_loop p most condition (actions_exit by_return body)
      (made_iteration p condition (actions_exit by_continue body) (made None (in_loop p) body) step)) s
      (counted_still g n p resumes (made None (counted_part p resumes) body) step o
      (λ t. dead g quiet n body None (counted_part p resumes) t (order_part n p resumes o)) most s d)
      (loop_still g n p most condition (actions_exit by_return body) (actions_exit by_continue body)
      (made None (in_loop p) body) step o
      (λ t. dead g quiet n body None (in_loop p) t (order_loop n p o)) s d)
  dead_action g quiet n breaks known p s o d = set_same p.free p.iteration (worth (broken p) s) s (broken_still p s d)
  dead_action g quiet n continues known p s o d =
      set_same p.free p.iteration (worth (continued p) s) s (continued_still p s p.counted d)
  dead_action g quiet n (returns e) known p s o d = return_still g n p e s o d

  pub dead : (g : Serves) → Quiet g → (n : ℕ) (all : PlainActions) (known : Option Start) (p : PartWords) (s : State)
      → Order n p → Dead p s
      → Still p.free s (stmts_done g (made known p all) s)
  dead g quiet n no_action known p s o d = still_here p.free s
  dead g quiet n (action a rest) known p s o d =
      let first = dead_action g quiet n a known p s o d in
      let t = stmts_done g (made_action known p a) s in
      joined_still g p.free (made_action known p a) (if ends a then no_stmt else made (start_of a) p rest) s first
      (either_still g p.free (ends a) no_stmt (made (start_of a) p rest) t (still_here p.free t)
      (dead g quiet n rest (start_of a) p t o (still_dead n p s t o first d)))

  pub dead_branches : (g : Serves) → Quiet g → (n : ℕ) (bs : PlainBranches) (nothing : Bool)
      (otherwise : PartWords → PlainStmts)
      → ((q : PartWords) (t : State) → Order n q → Dead q t → Still q.free t (stmts_done g (otherwise q) t))
      → (p : PartWords) (s : State) → Order n p → Dead p s
      → Still p.free s (stmts_done g (made_branches p bs nothing otherwise) s)
  dead_branches g quiet n no_branch nothing otherwise each p s o d = each p s o d
  dead_branches g quiet n (branch condition body rest) nothing otherwise each p s o d =
      arm_still g n p condition (made None (in_arm p) body) (actions_exit any_exit body) (is_no_branch rest && nothing)
      (made_branches (in_arm p) rest nothing otherwise) o
      (λ t. dead g quiet n body None (in_arm p) t (order_arm n p o))
      (λ t. dead_branches g quiet n rest nothing otherwise each (in_arm p) t (order_arm n p o)) s d

-- What actions do with memories, and that what is made of them does no more: a property that all uses of a program's
-- actions have is one of all uses of its tree.
use Rattle.std.proofs.Common.{ℕ, zero, suc, ◌==◌, Bool, true, false, if◌then◌else◌, List, [], ◌∷◌, ◌++◌, Option, None, Some, subst, sym}
use Rattle.std.specs.Prelude.{⊤, ◌&&◌, ◌||◌}
use Rattle.std.specs.List.{AllByRecursion as Each}
use Rattle.shared_order.proofs.Lists.{each-append}
use Rattle.sp_tree.specs.declared.operators.SpBinary.TheVariants as binary
use Rattle.sp_tree.specs.Plain.{PlainSp, constant, frame_word, cell_word, array_word, before_one, between_two}
use Rattle.sp_tree.specs.Statements.{PlainStmt, PlainStmts, no_stmt, stmt, joined, masks}
use Rattle.sp_tree.specs.Statements as tree
use Rattle.sp_tree.specs.Uses.{Use, reads_cell, reads_array, writes_cell, writes_array, sends_to, expr_uses, args_uses, target_uses, stmt_uses, stmts_uses, functions_uses}
use Rattle.sp_tree.proofs.Joins.{joined_uses}
use Rattle.c_meaning.specs.Actions.{PlainTarget, to_level, to_cell, to_array, PlainAssignment, PlainAction, sets, calls, transfers, chooses, iterations, breaks, continues, returns, PlainActions, no_action, action, PlainBranches, no_branch, branch}
use Rattle.single_path.specs.declared.counted.Start.{Start}
use Rattle.single_path.specs.declared.part_words.PartWords.{PartWords}
use Rattle.single_path.specs.PartWords.{in_arm, in_loop, outermost, both, without, bit_of, not_zero, is_truth, where_so, where_not_taken, where_other, where_on, where_not_returned, broken, returned_function, returned_loop}
use Rattle.single_path.specs.Counted.{start_of}
use Rattle.single_path.specs.Made.{is_zero, made_target, made_assignment, made_step, made_call, made_result, made_return, ends, is_no_action, is_no_branch, made_arm, made_otherwise, made_on, made_after, made_behind, made_again, any_exit, by_continue, by_return, actions_exit, branches_exit, made_iteration, made_loop, is_counted, counted_part, made_begun, made_counted, made_action, made, made_branches}
use Rattle.single_path.specs.Single.{variables, begun_mask, made_functions}
use Rattle.single_path.proofs.Acts.{Rules, Gives, Steps, Does, Do, AnyDo}

-- ---- actions of which all uses have a property

abbrev pub ExprDoes : (Use → Type 0) → PlainSp → Type 0
ExprDoes P (constant n) = ⊤
ExprDoes P (frame_word slot) = ⊤
ExprDoes P (cell_word cell) = P (reads_cell cell)
ExprDoes P (array_word array index) = P (reads_array array) × ExprDoes P index
ExprDoes P (before_one op of) = ExprDoes P of
ExprDoes P (between_two op a b) = ExprDoes P a × ExprDoes P b

abbrev pub TargetDoes : (Use → Type 0) → PlainTarget → Type 0
TargetDoes P (to_level at) = ⊤
TargetDoes P (to_cell cell) = P (writes_cell cell)
TargetDoes P (to_array array index) = P (writes_array array) × ExprDoes P index

abbrev pub uses : (Use → Type 0) → Rules
uses P = record {
  Expr = ExprDoes P;
  Target = TargetDoes P;
  Call = λ number arguments. ⊤;
  Send = λ core. P (sends_to core);
}

-- wherever they stand
abbrev pub AllDo : (Use → Type 0) → PlainActions → Type 0
AllDo P = Do (uses P) true

-- ---- the uses of expressions, arguments and targets

expr_each : (P : Use → Type 0) (e : PlainSp) → ExprDoes P e → Each P (expr_uses e)
expr_each P (constant n) does = tt
expr_each P (frame_word slot) does = tt
expr_each P (cell_word cell) does = (does, tt)
expr_each P (array_word array index) does = (does.0, expr_each P index does.1)
expr_each P (before_one op of) does = expr_each P of does
expr_each P (between_two op a b) does =
    each-append P (expr_uses a) (expr_uses b) (expr_each P a does.0) (expr_each P b does.1)

args_each : (P : Use → Type 0) (args : List PlainSp) → Each (ExprDoes P) args → Each P (args_uses args)
args_each P [] does = tt
args_each P (e ∷ args) does =
    each-append P (expr_uses e) (args_uses args) (expr_each P e does.0) (args_each P args does.1)

target_each : (P : Use → Type 0) (target : PlainTarget) → TargetDoes P target
    → Each P (target_uses (made_target target))
target_each P (to_level at) does = tt
target_each P (to_cell cell) does = (does, tt)
target_each P (to_array array index) does = (does.0, expr_each P index does.1)

-- ---- statements one after another

-- that all uses of statements have the property
abbrev StmtsDo : (Use → Type 0) → PlainStmts → Type 0
StmtsDo P ts = Each P (stmts_uses ts)

first_then : (P : Use → Type 0) (t : PlainStmt) (rest : PlainStmts) → Each P (stmt_uses t) → StmtsDo P rest
    → StmtsDo P (stmt t rest)
first_then P t rest does more = each-append P (stmt_uses t) (stmts_uses rest) does more

only : (P : Use → Type 0) (t : PlainStmt) → Each P (stmt_uses t) → StmtsDo P (tree.one t)
only P t does = first_then P t no_stmt does tt

mask_then : (P : Use → Type 0) (slot : ℕ) (e : PlainSp) (rest : PlainStmts) → ExprDoes P e → StmtsDo P rest
    → StmtsDo P (stmt (masks slot e) rest)
mask_then P slot e rest does more = first_then P (masks slot e) rest (expr_each P e does) more

joined_do : (P : Use → Type 0) (xs ys : PlainStmts) → StmtsDo P xs → StmtsDo P ys → StmtsDo P (joined xs ys)
joined_do P xs ys hx hy = subst (Each P) (sym (joined_uses xs ys)) (each-append P (stmts_uses xs) (stmts_uses ys) hx hy)

-- where statements are left out, they do nothing
unless_do : (P : Use → Type 0) (out : Bool) (ts : PlainStmts) → StmtsDo P ts → StmtsDo P (if out then no_stmt else ts)
unless_do P true ts does = tt
unless_do P false ts does = does

-- ---- what is set, and calls

assignment_do : (P : Use → Type 0) (mask : ℕ) (a : PlainAssignment) → TargetDoes P a.target → ExprDoes P a.value
    → StmtsDo P (tree.one (made_assignment mask a))
assignment_do P mask a target value =
    only P (made_assignment mask a)
    (each-append P (target_uses (made_target a.target)) (expr_uses a.value) (target_each P a.target target)
    (expr_each P a.value value))

step_do : (P : Use → Type 0) (mask : ℕ) (step : Option PlainAssignment) → Steps (TargetDoes P) (ExprDoes P) step
    → StmtsDo P (made_step mask step)
step_do P mask None does = tt
step_do P mask (Some a) does = assignment_do P mask a does.0 does.1

call_do : (P : Use → Type 0) (p : PartWords) (k : ℕ) (args : List PlainSp) (result : Option PlainTarget)
    → Each (ExprDoes P) args → Gives (TargetDoes P) result
    → StmtsDo P (made_call p k args result)
call_do P p k args None given does = only P (tree.calls p.own k args None) (args_each P args given)
call_do P p k args (Some (to_level at)) given does = only P (tree.calls p.own k args (Some at)) (args_each P args given)
call_do P p k args (Some (to_cell cell)) given does =
    first_then P (tree.calls p.own k args (Some p.free))
    (tree.one (tree.writes p.own (tree.to_cell cell) (frame_word p.free)))
    (args_each P args given) (does, tt)
call_do P p k args (Some (to_array array index)) given does =
    first_then P (tree.calls p.own k args (Some p.free)) (tree.one (tree.writes p.own (tree.to_array array index)
    (frame_word p.free)))
    (args_each P args given)
    (assignment_do P p.own (record { target = to_array array index; value = frame_word p.free }) does tt)

-- ---- ways on, arms and loops

return_does : (P : Use → Type 0) (p : PartWords) (e : PlainSp) → ExprDoes P e → StmtsDo P (made_return p e)
return_does P p e does =
    joined_do P (made_result p e) ended
    (unless_do P (is_zero e) (tree.one (tree.writes p.own (tree.to_slot p.result) e))
    (assignment_do P p.own (record { target = to_level p.result; value = e }) tt does))
    (mask_then P p.function (returned_function p) outer (by (p.own == p.iteration)).0
    (unless_do P (p.function == p.iteration) (tree.one (masks p.iteration (returned_loop p)))
    (mask_then P p.iteration (returned_loop p) no_stmt (by (p.own == p.iteration)).1 tt)))
  where
    outer : PlainStmts
    outer = if p.function == p.iteration then no_stmt else tree.one (masks p.iteration (returned_loop p))

    ended : PlainStmts
    ended = stmt (masks p.function (returned_function p)) outer

    by : (alone : Bool)
        → ExprDoes P (without (frame_word p.function) (if alone then bit_of p.own else frame_word p.own))
        × ExprDoes P (if alone then both (frame_word p.iteration) (constant 2) else without (frame_word p.iteration)
        (frame_word p.own))
    by true = ((tt, (tt, tt)), (tt, tt))
    by false = ((tt, tt), (tt, tt))

-- a mask names no memory but where a condition does
so_does : (P : Use → Type 0) (mask : ℕ) (condition : PlainSp) → ExprDoes P condition
    → ExprDoes P (where_so mask condition)
so_does P mask condition test = by (is_truth condition)
  where
    by : (b : Bool) → ExprDoes P (both (frame_word mask) (if b then condition else not_zero condition))
    by true = (tt, test)
    by false = (tt, (test, tt))

other_does : (P : Use → Type 0) (p : PartWords) (exits : Bool)
    → ExprDoes P (if exits then where_not_taken p else where_other p)
other_does P p true = ((tt, tt), (tt, tt))
other_does P p false = by (p.own == p.iteration)
  where
    by : (alone : Bool) → ExprDoes P (between_two binary.BitXor (if alone then bit_of p.own else frame_word p.own)
        (frame_word p.free))
    by true = ((tt, tt), tt)
    by false = (tt, tt)

on_does : (P : Use → Type 0) (p : PartWords) → StmtsDo P (made_on p)
on_does P p = unless_do P (p.own == p.iteration) (tree.one (masks p.own (where_on p))) tt

after_does : (P : Use → Type 0) (p : PartWords) (exits : Bool) → StmtsDo P (made_after p exits)
after_does P p true = on_does P p
after_does P p false = tt

behind_does : (P : Use → Type 0) (p : PartWords) (exits : Bool) → StmtsDo P (made_behind p exits)
behind_does P p false = tt
behind_does P p true =
    let outer = tree.one (masks p.iteration (where_not_returned p)) in
    joined_do P (if p.function == p.iteration then no_stmt else outer) (made_on p)
    (unless_do P (p.function == p.iteration) outer tt) (on_does P p)

again_does : (P : Use → Type 0) (p : PartWords) (exits : Bool) → StmtsDo P (made_again p exits)
again_does P p true = tt
again_does P p false = tt

arm_does : (P : Use → Type 0) (p : PartWords) (condition : PlainSp) (arm : PlainStmts) (exits nothing : Bool)
    (rest : PlainStmts)
    → ExprDoes P condition → StmtsDo P arm → StmtsDo P rest
    → StmtsDo P (made_arm p condition arm (made_otherwise p exits nothing rest))
arm_does P p condition arm exits nothing rest test inside more =
    let other = if exits then where_not_taken p else where_other p in
    mask_then P p.free (where_so p.own condition) (joined arm (made_otherwise p exits nothing rest))
    (so_does P p.own condition test)
    (joined_do P arm (made_otherwise p exits nothing rest) inside
    (unless_do P nothing (stmt (masks p.free other) rest) (mask_then P p.free other rest (other_does P p exits) more)))

iteration_does : (P : Use → Type 0) (p : PartWords) (condition : PlainSp) (exits : Bool) (body : PlainStmts)
    (step : Option PlainAssignment)
    → ExprDoes P condition → StmtsDo P body → Steps (TargetDoes P) (ExprDoes P) step
    → StmtsDo P (made_iteration p condition exits body step)
iteration_does P p condition exits body step test inside stepped =
    let behind = joined (made_again p exits) (made_step p.free step) in
    mask_then P p.free (where_so p.free condition) (joined body behind) (so_does P p.free condition test)
    (joined_do P body behind inside (joined_do P (made_again p exits) (made_step p.free step) (again_does P p exits)
    (step_do P p.free step stepped)))

loop_does : (P : Use → Type 0) (p : PartWords) (most : ℕ) (condition : PlainSp) (exits : Bool) (iteration : PlainStmts)
    → ExprDoes P condition → StmtsDo P iteration
    → StmtsDo P (made_loop p most condition exits iteration)
loop_does P p zero condition exits iteration test inside =
    only P (tree.overruns p.own condition) (expr_each P condition test)
loop_does P p (suc n) condition exits iteration test inside =
    first_then P (tree.iterations (suc n) iteration) (stmt (tree.overruns p.free condition) (made_behind p exits))
    inside
    (first_then P (tree.overruns p.free condition) (made_behind p exits) (expr_each P condition test)
    (behind_does P p exits))

either_does : (P : Use → Type 0) (b : Bool) (xs ys : PlainStmts) → StmtsDo P xs → StmtsDo P ys
    → StmtsDo P (if b then xs else ys)
either_does P true xs ys first second = first
either_does P false xs ys first second = second

begun_does : (P : Use → Type 0) (p : PartWords) (resumes : Bool) → StmtsDo P (made_begun p resumes)
begun_does P p true = tt
begun_does P p false = tt

counted_does : (P : Use → Type 0) (p : PartWords) (most : ℕ) (resumes : Bool) (body : PlainStmts)
    (step : Option PlainAssignment) → StmtsDo P body
    → Steps (TargetDoes P) (ExprDoes P) step → StmtsDo P (made_counted p most resumes body step)
counted_does P p most resumes body step inside stepped =
    let iteration = joined body (made_step p.own step) in
    only P (tree.iterations most (joined (made_begun p resumes) iteration))
    (joined_do P (made_begun p resumes) iteration (begun_does P p resumes)
    (joined_do P body (made_step p.own step) inside (step_do P p.own step stepped)))

continued_does : (P : Use → Type 0) (p : PartWords) (counted : Bool)
    → StmtsDo P (tree.one (masks p.iteration (if counted then broken p else between_two binary.Plus
    (frame_word p.iteration) (bit_of p.own))))
continued_does P p true = tt
continued_does P p false = tt

-- ---- all actions

mutual
  action_does : (P : Use → Type 0) (known : Option Start) (p : PartWords) (a : PlainAction) → Does (uses P) true a
      → StmtsDo P (made_action known p a)
  action_does P known p (sets a) does = assignment_do P p.own a does.0 does.1
  action_does P known p (calls k args result) does = call_do P p k args result does.1 does.2
  action_does P known p (transfers core source target count) does =
      only P (tree.transfers p.own core source target count) (
        does.0,
        each-append P (expr_uses source) (expr_uses target ++ expr_uses count) (expr_each P source does.1)
            (each-append P (expr_uses target) (expr_uses count) (expr_each P target does.2) (expr_each P count does.3)),
      )
  action_does P known p (chooses branches otherwise) does =
      joined_do P (made_branches p branches (is_no_action otherwise) (λ q. made None q otherwise))
      (made_after p (branches_exit any_exit branches || actions_exit any_exit otherwise))
      (branches_do P p branches (is_no_action otherwise) (λ q. made None q otherwise) does.0
      (λ q. made_does P None q otherwise does.1))
      (after_does P p (branches_exit any_exit branches || actions_exit any_exit otherwise))
  action_does P known p (iterations most condition body step) does =
      let resumes = actions_exit by_continue body in
      let inner = counted_part p resumes in
      either_does P (is_counted known most condition body step) (made_counted p most resumes
      (made None inner body) step)
      (made_loop p most condition (actions_exit by_return body)
      (made_iteration p condition (actions_exit by_continue body) (made None (in_loop p) body) step))
      (counted_does P p most resumes (made None inner body) step (made_does P None inner body does.1) does.2)
      (loop_does P p most condition (actions_exit by_return body)
      (made_iteration p condition (actions_exit by_continue body) (made None (in_loop p) body) step) does.0
      (iteration_does P p condition (actions_exit by_continue body) (made None (in_loop p) body) step does.0
      (made_does P None (in_loop p) body does.1) does.2))
  action_does P known p breaks does = tt
  action_does P known p continues does = continued_does P p p.counted
  action_does P known p (returns e) does = return_does P p e does

  made_does : (P : Use → Type 0) (known : Option Start) (p : PartWords) (actions : PlainActions) → AllDo P actions
      → StmtsDo P (made known p actions)
  made_does P known p no_action does = tt
  made_does P known p (action a rest) does =
      joined_do P (made_action known p a) (if ends a then no_stmt else made (start_of a) p rest)
      (action_does P known p a does.0)
      (unless_do P (ends a) (made (start_of a) p rest) (made_does P (start_of a) p rest does.1))

  branches_do : (P : Use → Type 0) (p : PartWords) (bs : PlainBranches) (nothing : Bool)
      (otherwise : PartWords → PlainStmts) → AnyDo (uses P) true bs
      → ((q : PartWords) → StmtsDo P (otherwise q)) → StmtsDo P (made_branches p bs nothing otherwise)
  branches_do P p no_branch nothing otherwise does last = last p
  branches_do P p (branch condition body rest) nothing otherwise does last =
      arm_does P p condition (made None (in_arm p) body) (actions_exit any_exit body) (is_no_branch rest && nothing)
      (made_branches (in_arm p) rest nothing otherwise) does.0
      (made_does P None (in_arm p) body does.1) (branches_do P (in_arm p) rest nothing otherwise does.2 last)

-- ---- functions

pub functions_do : (P : Use → Type 0) (counts : List ℕ) (bodies : List PlainActions) → Each (AllDo P) bodies
    → Each P (functions_uses (made_functions counts bodies))
functions_do P [] bodies does = tt
functions_do P (n ∷ counts) [] does = tt
functions_do P (n ∷ counts) (body ∷ bodies) does =
    let p = outermost (variables n body) in
    each-append P (stmts_uses (stmt (masks p.function (begun_mask p)) (made None p body)))
    (functions_uses (made_functions counts bodies))
    (mask_then P p.function (begun_mask p) (made None p body) (tt, tt) (made_does P None p body does.0))
    (functions_do P counts bodies does.1)

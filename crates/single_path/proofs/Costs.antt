-- The code of what is made of a function takes at most as many words as the function weighs.
use Rattle.std.proofs.Common.{◌≡◌, ℕ, zero, suc, ◌+◌, ◌*◌, ◌≤◌, ◌==◌, Bool, true, false, if◌then◌else◌, List, [], ◌∷◌, length, sum_by, Option, None, Some, arith}
use Rattle.std.specs.Prelude.{◌&&◌, ◌||◌, nat_lt}
use Rattle.std.proofs.lemmas.List.Sums.{sum_by-cons}
use Rattle.c_tree.specs.declared.expressions.BinaryOp.{BinaryOp}
use Rattle.c_tree.specs.declared.expressions.UnaryOp.{UnaryOp}
use Rattle.c_tree.specs.declared.expressions.UnaryOp.TheVariants as unary
use Rattle.c_tree.specs.Plain.{PlainExpr, PlainSteps, PlainRight, PlainHead, PlainStmt, PlainBlock, PlainArms, PlainOtherwise}
use Rattle.c_tree.specs.Plain as plain
use Rattle.c_tree.specs.Weight.{operator_weight, expr_weight, steps_weight, right_weight, head_weight, stmt_weight, block_weight, arms_weight, otherwise_weight, body_weight, function_weight}
use Rattle.sp_tree.specs.declared.operators.SpBinary.{SpBinary}
use Rattle.sp_tree.specs.declared.operators.SpBinary.TheVariants as binary
use Rattle.sp_tree.specs.Cost.{binary_cost, is_held, expr_cost, args_cost, target_cost, stmts_cost, cost}
use Rattle.sp_tree.specs.Plain.{PlainSp, constant, frame_word, between_two}
use Rattle.sp_tree.specs.Statements.{PlainStmts, no_stmt, stmt, joined, masks}
use Rattle.sp_tree.specs.Statements as tree
use Rattle.sp_tree.proofs.Joins.{joined_cost}
use Rattle.c_meaning.specs.Actions.{PlainTarget, to_level, to_cell, to_array, PlainAssignment, PlainAction, calls, chooses, iterations, returns, PlainActions, no_action, action, PlainBranches, branch, one}
use Rattle.c_meaning.specs.Actions as actions
use Rattle.c_meaning.specs.Meaning.{with_variable, names_after, most_iterations}
use Rattle.c_meaning.specs.Operators.{works_unsigned, gives_unsigned}
use Rattle.c_tree.specs.Names.{number_of}
use Rattle.c_meaning.specs.Resolve.{operator_of, is_exchanged, resolved_between, resolved_sign, resolved_signs, is_fresh, resolved_variable, resolved_element, resolved, resolved_steps, resolved_args, variable_target, element_target, assignment_to, maybe_sets, numbered_call, resolved_right, resolved_assignment, resolved_condition, resolved_begin, resolved_next, choice, resolved_stmt, resolved_block, resolved_arms, resolved_otherwise, resolved_body}
use Rattle.c_meaning.specs.Scope.{Stands, level, outside}
use Rattle.c_meaning.specs.Scope as scope
use Rattle.c_meaning.specs.Values.{Names, named, expr_unsigned}
use Rattle.single_path.specs.declared.counted.Start.{Start}
use Rattle.single_path.specs.declared.part_words.PartWords.{PartWords}
use Rattle.single_path.specs.PartWords.{in_arm, in_loop, outermost, both, without, bit_of, is_truth, where_so, where_not_taken, where_other, where_on, where_not_returned, not_zero, broken, returned_function, returned_loop}
use Rattle.single_path.specs.Counted.{start_of}
use Rattle.single_path.specs.Made.{is_zero, made_target, made_step, made_result, made_return, ends, is_no_action, is_no_branch, made_arm, made_otherwise, made_on, made_after, made_behind, made_again, any_exit, by_continue, by_return, actions_exit, branches_exit, made_iteration, made_loop, is_counted, counted_part, made_begun, made_counted, made_action, made, made_branches}
use Rattle.single_path.specs.Single.{variables, made_function}

-- ---- expressions and arguments

constant_few : (n : ℕ) → expr_cost (constant n) ≤ 2
constant_few n = by (nat_lt n 4096)
  where
    by : (b : Bool) → (if b then 1 else 2) ≤ 2
    by true = omega arith
    by false = omega arith

-- an operand that the instruction holds costs nothing
two_cost : (op : SpBinary) (a b : PlainSp) → expr_cost (between_two op a b) ≤ binary_cost op + expr_cost a + expr_cost b
two_cost op a b = by (is_held op b)
  where
    by : (held : Bool) → binary_cost op + expr_cost a + (if held then 0 else expr_cost b) ≤ binary_cost op
        + expr_cost a + expr_cost b
    by true = omega arith
    by false = omega arith

operator_cost : (op : BinaryOp) (u : Bool) → binary_cost (operator_of op u) ≤ operator_weight op
operator_cost op u = grind arith

between_cost : (op : BinaryOp) (u : Bool) (a b : PlainSp) → expr_cost (resolved_between op u a b) ≤ operator_weight op
    + expr_cost a + expr_cost b
between_cost op u a b = by (is_exchanged op)
  where
    by : (exchanged : Bool) → expr_cost (if exchanged then between_two (operator_of op u) b a else between_two
        (operator_of op u) a b)
        ≤ operator_weight op + expr_cost a + expr_cost b
    by true = omega (arith, two_cost (operator_of op u) b a, operator_cost op u)
    by false = omega (arith, two_cost (operator_of op u) a b, operator_cost op u)

sign_cost : (op : UnaryOp) (e : PlainSp) → expr_cost (resolved_sign op e) ≤ 6 + expr_cost e
sign_cost unary.Minus e = omega arith
sign_cost _ e = omega arith

signs_cost : (ops : List UnaryOp) (e : PlainSp) → expr_cost (resolved_signs ops e) ≤ 6 * length ops + expr_cost e
signs_cost [] e = omega arith
signs_cost (op ∷ ops) e = let rest = signs_cost ops e in omega (arith, sign_cost op (resolved_signs ops e), rest)

variable_cost : (fresh : Option ℕ) (stands : Stands) → expr_cost (resolved_variable fresh stands) ≤ 4
variable_cost fresh (level at unsigned) = by (is_fresh fresh at)
  where
    by : (known : Bool) → expr_cost (if known then constant 0 else frame_word at) ≤ 4
    by true = omega arith
    by false = omega arith
variable_cost fresh (outside slot) = omega arith
variable_cost fresh scope.nothing = omega arith

element_cost : (stands : Stands) (index : PlainSp) → expr_cost (resolved_element stands index) ≤ 16 + expr_cost index
element_cost (level at unsigned) index = omega arith
element_cost (outside slot) index = omega arith
element_cost scope.nothing index = omega arith

mutual
  unfolding expr_weight steps_weight

  resolved_cost : (names : Names) (fresh : Option ℕ) (e : PlainExpr) → expr_cost (resolved names fresh e)
      ≤ expr_weight e
  resolved_cost names fresh (plain.chain at first rest) =
      let begun = resolved_cost names fresh first in
      let all = steps_cost names fresh (expr_unsigned names first) (resolved names fresh first) rest in
      omega (arith, begun, all)
  resolved_cost names fresh (plain.unary ops of) =
      let inner = resolved_cost names fresh of in omega (arith, inner, signs_cost ops (resolved names fresh of))
  resolved_cost names fresh (plain.number n unsigned) = omega (arith, constant_few n)
  resolved_cost names fresh (plain.name text) = variable_cost fresh (named names text)
  resolved_cost names fresh (plain.element text index) =
      let inner = resolved_cost names fresh index in omega (
        arith,
        inner,
        element_cost (named names text)
            (resolved names fresh index),
      )
  resolved_cost names fresh (plain.paren of) = resolved_cost names fresh of

  steps_cost : (names : Names) (fresh : Option ℕ) (u : Bool) (a : PlainSp) (steps : PlainSteps)
      → expr_cost (resolved_steps names fresh u a steps) ≤ expr_cost a + steps_weight steps
  steps_cost names fresh u a plain.no_step = omega arith
  steps_cost names fresh u a (plain.step op operand rest) =
      let v = works_unsigned op u (expr_unsigned names operand) in
      let b = resolved names fresh operand in
      let inner = resolved_cost names fresh operand in
      let more = steps_cost names fresh (gives_unsigned op u (expr_unsigned names operand))
      (resolved_between op v a b) rest in
      omega (arith, inner, more, between_cost op v a b)

resolved_args_cost : (names : Names) (fresh : Option ℕ) (args : List PlainExpr)
    → args_cost (resolved_args names fresh args) ≤ sum_by (λ e. 6 + expr_weight e) args
resolved_args_cost names fresh [] = omega arith
resolved_args_cost names fresh (e ∷ args) =
    let rest = resolved_args_cost names fresh args in
    omega (arith, rest, resolved_cost names fresh e, sum_by-cons (λ x. 6 + expr_weight x) e args)

-- ---- what is set, and calls

abbrev given_cost : Option PlainTarget → ℕ
given_cost None = 0
given_cost (Some target) = target_cost (made_target target)

variable_target_cost : (stands : Stands) → given_cost (variable_target stands) ≤ 7
variable_target_cost (level at unsigned) = omega arith
variable_target_cost (outside slot) = omega arith
variable_target_cost scope.nothing = omega arith

element_target_cost : (stands : Stands) (index : PlainSp) → given_cost (element_target stands index) ≤ 16
    + expr_cost index
element_target_cost (level at unsigned) index = omega arith
element_target_cost (outside slot) index = omega arith
element_target_cost scope.nothing index = omega arith

sets_cost : (known : Option Start) (p : PartWords) (target : Option PlainTarget) (e : PlainSp)
    → stmts_cost (made known p (maybe_sets (assignment_to target e))) ≤ given_cost target + expr_cost e
sets_cost known p None e = omega arith
sets_cost known p (Some target) e = omega arith

-- what a function gives to a target outside of the frame goes by a word of it
call_cost : (known : Option Start) (p : PartWords) (k : Option ℕ) (args : List PlainSp) (target : Option PlainTarget)
    → stmts_cost (made known p (numbered_call k args target)) ≤ 18 + args_cost args + given_cost target
call_cost known p None args target = omega (arith, sets_cost known p target (constant 0))
call_cost known p (Some k) args None = omega arith
call_cost known p (Some k) args (Some (to_level at)) = omega arith
call_cost known p (Some k) args (Some (to_cell cell)) = omega arith
call_cost known p (Some k) args (Some (to_array array index)) = omega arith

right_cost : (fs : List (List ℕ)) (names : Names) (fresh : Option ℕ) (target : Option PlainTarget) (r : PlainRight)
    (known : Option Start) (p : PartWords)
    → stmts_cost (made known p (resolved_right fs names fresh target r)) ≤ given_cost target + right_weight r
right_cost fs names fresh target (plain.value e) known p =
    omega (arith, sets_cost known p target (resolved names fresh e), resolved_cost names fresh e)
right_cost fs names fresh target (plain.call text args) known p =
    omega (
      arith,
      call_cost known p (number_of text fs) (resolved_args names fresh args) target,
      resolved_args_cost names fresh args,
    )

-- ---- one action after another

-- what stands after an action that always goes elsewhere is left out
ended_cost : (ended : Bool) (ts : PlainStmts) → stmts_cost (if ended then no_stmt else ts) ≤ stmts_cost ts
ended_cost true ts = omega arith
ended_cost false ts = omega arith

-- what comes after them costs no more, whatever is known there
made_joined_cost : (known : Option Start) (p : PartWords) (xs ys : PlainActions) (most : ℕ)
    → ((after : Option Start) → stmts_cost (made after p ys) ≤ most)
    → stmts_cost (made known p (actions.joined xs ys)) ≤ stmts_cost (made known p xs) + most
made_joined_cost known p no_action ys most each = omega (arith, each known)
made_joined_cost known p (action a rest) ys most each =
    by (ends a) (joined_cost (made_action known p a)) (made_joined_cost (start_of a) p rest ys most each)
  where
    by : (ended : Bool) → ((ts : PlainStmts) → stmts_cost (joined (made_action known p a) ts)
        ≡ stmts_cost (made_action known p a) + stmts_cost ts)
        → stmts_cost (made (start_of a) p (actions.joined rest ys)) ≤ stmts_cost (made (start_of a) p rest) + most
        → stmts_cost (joined (made_action known p a) (if ended then no_stmt else made (start_of a) p
        (actions.joined rest ys)))
        ≤ stmts_cost (joined (made_action known p a) (if ended then no_stmt else made (start_of a) p rest)) + most
    by true first more = omega (arith, first no_stmt)
    by false first more =
        omega (arith, more, first (made (start_of a) p (actions.joined rest ys)), first (made (start_of a) p rest))

one_cost : (known : Option Start) (p : PartWords) (a : PlainAction) → stmts_cost (made known p (one a))
    ≤ stmts_cost (made_action known p a)
one_cost known p a = omega (
  arith,
  joined_cost (made_action known p a) (if ends a then no_stmt else no_stmt),
  ended_cost (ends a) no_stmt,
)

-- ---- ways on, and loops

result_cost : (p : PartWords) (e : PlainSp) → stmts_cost (made_result p e) ≤ 4 + expr_cost e
result_cost p e = omega (arith, ended_cost (is_zero e) (tree.one (tree.writes p.own (tree.to_slot p.result) e)))

-- what is returned, and the masks of the function and of the loop
return_cost : (p : PartWords) (e : PlainSp) → stmts_cost (made_return p e) ≤ 12 + stmts_cost (made_result p e)
return_cost p e =
    let outer = tree.one (masks p.iteration (returned_loop p)) in
    let ends_all =
    stmt (masks p.function (returned_function p)) (if p.function == p.iteration then no_stmt else outer) in
    omega (
      arith,
      joined_cost (made_result p e) ends_all,
      ended_cost (p.function == p.iteration) outer,
      by (p.own == p.iteration),
    )
  where
    by : (alone : Bool)
        → expr_cost (without (frame_word p.function) (if alone then bit_of p.own else frame_word p.own))
        + expr_cost (if alone then both (frame_word p.iteration) (constant 2) else without (frame_word p.iteration)
        (frame_word p.own)) ≤ 10
    by true = omega arith
    by false = omega arith

abbrev step_cost : Option PlainAssignment → ℕ
step_cost None = 0
step_cost (Some a) = target_cost (made_target a.target) + expr_cost a.value

made_step_cost : (mask : ℕ) (step : Option PlainAssignment) → stmts_cost (made_step mask step) ≤ step_cost step
made_step_cost mask None = omega arith
made_step_cost mask (Some a) = omega arith

-- a mask where a condition holds besides
so_cost : (mask : ℕ) (condition : PlainSp) → expr_cost (where_so mask condition) ≤ 6 + expr_cost condition
so_cost mask condition = by (is_truth condition)
  where
    held : (small : Bool) → (if small then 0 else expr_cost condition) ≤ expr_cost condition
    held true = omega arith
    held false = omega arith

    by : (b : Bool) → expr_cost (both (frame_word mask) (if b then condition else not_zero condition)) ≤ 6
        + expr_cost condition
    by true = let own = held (is_held binary.BitAnd condition) in omega (arith, own)
    by false = omega arith

-- masks that are repaired, where they may be others
on_cost : (p : PartWords) → stmts_cost (made_on p) ≤ 6
on_cost p = omega (arith, ended_cost (p.own == p.iteration) (tree.one (masks p.own (where_on p))))

after_cost : (p : PartWords) (exits : Bool) → stmts_cost (made_after p exits) ≤ 6
after_cost p true = on_cost p
after_cost p false = omega arith

behind_cost : (p : PartWords) (exits : Bool) → stmts_cost (made_behind p exits) ≤ 13
behind_cost p false = omega arith
behind_cost p true =
    let outer = tree.one (masks p.iteration (where_not_returned p)) in
    omega (
      arith,
      joined_cost (if p.function == p.iteration then no_stmt else outer) (made_on p),
      ended_cost (p.function == p.iteration) outer,
      on_cost p,
    )

again_cost : (p : PartWords) (exits : Bool) → stmts_cost (made_again p exits) ≤ 6
again_cost p true = omega arith
again_cost p false = omega arith

other_cost : (p : PartWords) (exits : Bool) → expr_cost (if exits then where_not_taken p else where_other p) ≤ 9
other_cost p true = omega arith
other_cost p false = by (p.own == p.iteration)
  where
    by : (alone : Bool) → expr_cost (between_two binary.BitXor (if alone then bit_of p.own else frame_word p.own)
        (frame_word p.free)) ≤ 9
    by true = omega arith
    by false = omega arith

iteration_cost : (p : PartWords) (condition : PlainSp) (exits : Bool) (body : PlainStmts)
    (step : Option PlainAssignment)
    → stmts_cost (made_iteration p condition exits body step) ≤ 13 + expr_cost condition + stmts_cost body
    + step_cost step
iteration_cost p condition exits body step =
    omega (
      arith,
      joined_cost body (joined (made_again p exits) (made_step p.free step)),
      joined_cost (made_again p exits) (made_step p.free step),
      so_cost p.free condition,
      again_cost p exits,
      made_step_cost p.free step,
    )

loop_cost : (p : PartWords) (most : ℕ) (condition : PlainSp) (exits : Bool) (iteration : PlainStmts)
    → stmts_cost (made_loop p most condition exits iteration) ≤ 34 + expr_cost condition + stmts_cost iteration
loop_cost p zero condition exits iteration = omega arith
loop_cost p (suc n) condition exits iteration = omega (arith, behind_cost p exits)

begun_cost : (p : PartWords) (resumes : Bool) → stmts_cost (made_begun p resumes) ≤ 4
begun_cost p true = omega arith
begun_cost p false = omega arith

counted_cost : (p : PartWords) (most : ℕ) (resumes : Bool) (body : PlainStmts) (step : Option PlainAssignment)
    → stmts_cost (made_counted p most resumes body step) ≤ 47 + stmts_cost body + step_cost step
counted_cost p most resumes body step =
    omega (
      arith,
      joined_cost (made_begun p resumes) (joined body (made_step p.own step)),
      joined_cost body (made_step p.own step),
      begun_cost p resumes,
      made_step_cost p.own step,
    )

-- either way
iterations_cost : (known : Option Start) (p : PartWords) (most : ℕ) (condition : PlainSp) (body : PlainActions)
    (step : Option PlainAssignment) (inside : ℕ)
    → ((q : PartWords) → stmts_cost (made None q body) ≤ inside)
    → stmts_cost (made_action known p (iterations most condition body step)) ≤ 47 + 2 * expr_cost condition + inside
    + step_cost step
iterations_cost known p most condition body step inside each = by (is_counted known most condition body step)
  where
    iteration : PlainStmts
    iteration = made_iteration p condition (actions_exit by_continue body) (made None (in_loop p) body) step

    resumes : Bool
    resumes = actions_exit by_continue body

    inner : PartWords
    inner = counted_part p resumes

    by : (counted : Bool)
        → stmts_cost (if counted then made_counted p most resumes (made None inner body) step else made_loop p most
        condition (actions_exit by_return body) iteration)
        ≤ 47 + 2 * expr_cost condition + inside + step_cost step
    by true = omega (arith, each inner, counted_cost p most resumes (made None inner body) step)
    by false = omega (
      arith,
      each (in_loop p),
      iteration_cost p condition (actions_exit by_continue body) (made None (in_loop p) body) step,
      loop_cost p most condition (actions_exit by_return body) iteration,
    )

assignment_cost : (names : Names) (text : List ℕ) (e : PlainExpr) → step_cost (resolved_assignment names text e) ≤ 7
    + expr_weight e
assignment_cost names text e = by (variable_target (named names text)) (variable_target_cost (named names text))
  where
    by : (target : Option PlainTarget) → given_cost target ≤ 7
        → step_cost (assignment_to target (resolved names None e)) ≤ 7 + expr_weight e
    by None within = omega arith
    by (Some target) within = omega (arith, within, resolved_cost names None e)

-- a loop with its masks, its condition twice, and the assignments of a `for`
head_cost : (names : Names) (head : PlainHead) (known : Option Start) (p : PartWords)
    → 47 + 2 * expr_cost (resolved_condition names head)
    + stmts_cost (made known p (maybe_sets (resolved_begin names head)))
    + step_cost (resolved_next names head) ≤ head_weight head
head_cost names (plain.iterations_while condition) known p = omega (arith, resolved_cost names None condition)
head_cost names (plain.iterations_for first from condition to_set to) known p =
    omega (
      arith,
      resolved_cost names None condition,
      resolved_cost names None from,
      variable_target_cost (named names first),
      sets_cost known p (variable_target (named names first)) (resolved names None from),
      assignment_cost names to_set to,
    )

-- the mask after `continue`
continued_cost : (p : PartWords) (counted : Bool)
    → stmts_cost (tree.one (masks p.iteration (if counted then broken p else between_two binary.Plus
    (frame_word p.iteration) (bit_of p.own)))) ≤ 16
continued_cost p true = omega arith
continued_cost p false = omega arith

-- ---- statements

choice_cost : (known : Option Start) (p : PartWords) (condition : PlainSp) (body : PlainActions) (rest : PlainBranches)
    (otherwise : PlainActions)
    → stmts_cost (made known p (choice (branch condition body rest) otherwise))
    ≤ stmts_cost (made_branches p (branch condition body rest) (is_no_action otherwise) (λ q. made None q otherwise))
    + 6
choice_cost known p condition body rest otherwise =
    let all = branch condition body rest in
    let exits = branches_exit any_exit all || actions_exit any_exit otherwise in
    omega (
      arith,
      one_cost known p (chooses all otherwise),
      joined_cost (made_branches p all (is_no_action otherwise) (λ q. made None q otherwise)) (made_after p exits),
      after_cost p exits,
    )

-- an arm takes 7 words less than it weighs, of which 6 are for the mask after the whole `if`
abbrev spare : PlainArms → ℕ
spare plain.no_arm = 0
spare (plain.arm condition body rest) = 7

arm_cost : (p : PartWords) (condition : PlainSp) (arm : PlainStmts) (exits nothing : Bool) (rest : PlainStmts)
    → stmts_cost (made_arm p condition arm (made_otherwise p exits nothing rest)) ≤ 17 + expr_cost condition
    + stmts_cost arm + stmts_cost rest
arm_cost p condition arm exits nothing rest =
    omega (
      arith,
      joined_cost arm (made_otherwise p exits nothing rest),
      so_cost p.own condition,
      other_cost p exits,
      ended_cost nothing (stmt (masks p.free (if exits then where_not_taken p else where_other p)) rest),
    )

mutual
  unfolding stmt_weight block_weight arms_weight otherwise_weight

  stmt_within : (fs : List (List ℕ)) (names : Names) (s : PlainStmt) (known : Option Start) (p : PartWords)
      → stmts_cost (made known p (resolved_stmt fs names s)) ≤ stmt_weight s
  stmt_within fs names (plain.declared kind text None) known p = omega arith
  stmt_within fs names (plain.declared kind text (Some r)) known p =
      let at = length names.variables in
      omega (arith, right_cost fs (with_variable names kind text) (Some at) (Some (to_level at)) r known p)
  stmt_within fs names (plain.set text r) known p =
      let target = variable_target (named names text) in
      omega (arith, variable_target_cost (named names text), right_cost fs names None target r known p)
  stmt_within fs names (plain.set_element text index r) known p =
      let i = resolved names None index in
      let target = element_target (named names text) i in
      omega (
        arith,
        resolved_cost names None index,
        element_target_cost (named names text) i,
        right_cost fs names None target r known p,
      )
  stmt_within fs names (plain.called text args) known p =
      omega (
        arith,
        call_cost known p (number_of text fs) (resolved_args names None args) None,
        resolved_args_cost names None args,
      )
  stmt_within fs names (plain.sent core core_unsigned source target count) known p =
      omega (arith, resolved_cost names None source, resolved_cost names None target, resolved_cost names None count)
  stmt_within fs names (plain.chosen plain.no_arm otherwise) known p =
      omega (arith, otherwise_within fs names otherwise known p)
  stmt_within fs names (plain.chosen (plain.arm condition body arms) otherwise) known p =
      let rest = resolved_otherwise fs names otherwise in
      let chosen = arms_within fs names (plain.arm condition body arms) (is_no_action rest) (λ q. made None q rest)
      (otherwise_weight otherwise)
      (λ q. otherwise_within fs names otherwise None q) p in
      omega (
        arith,
        chosen,
        choice_cost known p (resolved names None condition) (resolved_block fs names body)
            (resolved_arms fs names arms) rest,
      )
  stmt_within fs names (plain.looped bound head body) known p =
      let condition = resolved_condition names head in
      let inside = resolved_block fs names body in
      let step = resolved_next names head in
      let loop = iterations (most_iterations bound) condition inside step in
      omega (
        arith,
        head_cost names head known p,
        made_joined_cost known p (maybe_sets (resolved_begin names head)) (one loop) (47 + 2 * expr_cost condition
            + block_weight body + step_cost step)
            (λ after. omega (
              arith,
              one_cost after p loop,
              iterations_cost after p (most_iterations bound) condition
                  inside step (block_weight body) (λ q. block_within fs names body None q),
            )),
      )
  stmt_within fs names plain.broken known p = omega arith
  stmt_within fs names plain.continued known p = continued_cost p p.counted
  stmt_within fs names (plain.returned None) known p =
      omega (arith, one_cost known p (returns (constant 0)), return_cost p (constant 0))
  stmt_within fs names (plain.returned (Some e)) known p =
      let given = resolved names None e in
      omega (
        arith,
        resolved_cost names None e,
        result_cost p given,
        return_cost p given,
        one_cost known p
            (returns given),
      )
  stmt_within fs names (plain.inner body) known p = block_within fs names body known p

  block_within : (fs : List (List ℕ)) (names : Names) (body : PlainBlock) (known : Option Start) (p : PartWords)
      → stmts_cost (made known p (resolved_block fs names body)) ≤ block_weight body
  block_within fs names plain.no_stmt known p = omega arith
  block_within fs names (plain.stmt s rest) known p =
      let more = made_joined_cost known p (resolved_stmt fs names s) (resolved_block fs (names_after names s) rest)
      (block_weight rest)
      (λ after. block_within fs (names_after names s) rest after p) in
      omega (arith, more, stmt_within fs names s known p)

  arms_within : (fs : List (List ℕ)) (names : Names) (arms : PlainArms) (nothing : Bool)
      (otherwise : PartWords → PlainStmts) (weight : ℕ)
      → ((q : PartWords) → stmts_cost (otherwise q) ≤ weight) → (p : PartWords)
      → stmts_cost (made_branches p (resolved_arms fs names arms) nothing otherwise) + spare arms
      ≤ arms_weight arms + weight
  arms_within fs names plain.no_arm nothing otherwise weight each p = omega (arith, each p)
  arms_within fs names (plain.arm condition body rest) nothing otherwise weight each p =
      let test = resolved names None condition in
      let others = resolved_arms fs names rest in
      let inside = block_within fs names body None (in_arm p) in
      let more = arms_within fs names rest nothing otherwise weight each (in_arm p) in
      let arm = made None (in_arm p) (resolved_block fs names body) in
      omega (
        arith,
        inside,
        more,
        resolved_cost names None condition,
        arm_cost p test arm (actions_exit any_exit (resolved_block fs names body)) (is_no_branch others && nothing)
            (made_branches (in_arm p) others nothing otherwise),
      )

  otherwise_within : (fs : List (List ℕ)) (names : Names) (otherwise : PlainOtherwise) (known : Option Start)
      (p : PartWords)
      → stmts_cost (made known p (resolved_otherwise fs names otherwise)) ≤ otherwise_weight otherwise
  otherwise_within fs names plain.no_else known p = omega arith
  otherwise_within fs names (plain.or_else body) known p = block_within fs names body known p

-- ---- functions

body_within : (fs : List (List ℕ)) (names : Names) (body : List PlainStmt) (known : Option Start) (p : PartWords)
    → stmts_cost (made known p (resolved_body fs names body)) ≤ body_weight body
body_within fs names [] known p = omega arith
body_within fs names (s ∷ rest) known p =
    omega (
      arith,
      stmt_within fs names s known p,
      sum_by-cons stmt_weight s rest,
      made_joined_cost known p (resolved_stmt fs names s) (resolved_body fs (names_after names s) rest)
          (body_weight rest)
          (λ after. body_within fs (names_after names s) rest after p),
    )

pub cost_within : (fs : List (List ℕ)) (names : Names) (parameters : ℕ) (body : List PlainStmt)
    → cost (made_function parameters (resolved_body fs names body)) ≤ function_weight body
cost_within fs names parameters body =
    omega (arith, body_within fs names body None (outermost (variables parameters (resolved_body fs names body))))

-- What resolved statements do: what the statements mean that they stand for.
use Rattle.std.proofs.Common.{◌≡◌, ℕ, Bool, true, false, cond, ◌==◌, List, [], ◌∷◌, length, Option, None, Some, refl, ap, ap₂, sym, ◌∙◌}
use Rattle.shared_order.specs.Words.{put}
use Rattle.c_world.specs.Numbers.{is_true}
use Rattle.c_world.specs.World.{with_element, with_send}
use Rattle.c_tree.specs.Plain.{PlainExpr, PlainRight, PlainHead, PlainStmt, PlainBlock, PlainArms, PlainOtherwise}
use Rattle.c_tree.specs.Plain as plain
use Rattle.sp_tree.specs.Plain.{PlainSp, constant}
use Rattle.c_meaning.specs.declared.ways.Way.{Way}
use Rattle.c_meaning.specs.declared.ways.Way.TheVariants as way
use Rattle.c_meaning.specs.Actions.{PlainTarget, to_level, PlainAssignment, iterations, chooses, PlainActions, no_action, action, PlainBranches, no_branch, branch, one, joined}
use Rattle.c_meaning.specs.Meaning.{Done, goes_on, in_world, with_level, with_variable, with_variable_set, with_element_set, right_outcome, declare_done, head_condition, head_begun, head_stepped, iterations_done, then_done, most_iterations, names_after, stmt_done, block_done, arms_done, otherwise_done, body_done, assigned, return_value}
use Rattle.c_tree.specs.Names.{number_of}
use Rattle.c_meaning.specs.Resolve.{resolved, resolved_args, variable_target, element_target, assignment_to, maybe_sets, numbered_call, resolved_right, resolved_declaration, resolved_assignment, resolved_condition, resolved_begin, resolved_next, resolved_return, choice, resolved_stmt, resolved_block, resolved_arms, resolved_otherwise, resolved_body, numbered, calls_by, fresh_at}
use Rattle.c_meaning.specs.Resolved.{Serves, worth, holds, args_worth, with_result, step_done, outcome_done, action_done, actions_done, branches_done}
use Rattle.c_meaning.specs.Scope.{Stands, level, outside, nothing, slot_region, slot_word}
use Rattle.c_meaning.specs.Values.{State, Names, named, expr_value}
use Rattle.c_meaning.proofs.Worths.{worth_of, worth_of_args}

-- ---- one action after another

then_none : (g : Serves) (d : Done) → then_done (actions_done g no_action) d ≡ d
then_none g d = by d.way d.state
  where
    by : (w : Way) (s : State) → then_done (actions_done g no_action) (record { way = w; state = s })
        ≡ record { way = w; state = s }
    by way.On s = refl
    by _ s = refl

then_then : (f h : State → Done) (d : Done) → then_done h (then_done f d) ≡ then_done (λ s. then_done h (f s)) d
then_then f h d = by d.way d.state
  where
    by : (w : Way) (s : State)
        → then_done h (then_done f (record { way = w; state = s }))
        ≡ then_done (λ t. then_done h (f t)) (record { way = w; state = s })
    by way.On s = refl
    by _ s = refl

pub done_joined : (g : Serves) (xs ys : PlainActions) (s : State)
    → actions_done g (joined xs ys) s ≡ then_done (actions_done g ys) (actions_done g xs s)
done_joined g no_action ys s = refl
done_joined g (action a xs) ys s =
    ap (λ f. then_done f (action_done g a s)) (λ i t. done_joined g xs ys t i)
    ∙ sym (then_then (actions_done g xs) (actions_done g ys) (action_done g a s))

choice_done : (g : Serves) (branches : PlainBranches) (otherwise : PlainActions) (s : State)
    → actions_done g (choice branches otherwise) s ≡ branches_done g branches (actions_done g otherwise) s
choice_done g no_branch otherwise s = refl
choice_done g (branch condition body rest) otherwise s =
    then_none g (action_done g (chooses (branch condition body rest) otherwise) s)

-- ---- what is set

target_set : (stands : Stands) (n : ℕ) (s : State) → with_result (variable_target stands) n s
    ≡ with_variable_set stands n s
target_set (level at unsigned) n s = refl
target_set (outside slot) n s = refl
target_set nothing n s = refl

element_set : (stands : Stands) (index : PlainSp) (i n : ℕ) (s : State) → worth index s ≡ i
    → with_result (element_target stands index) n s ≡ with_element_set stands i n s
element_set (level at unsigned) index i n s is = refl
element_set (outside slot) index i n s is =
    ap (λ k. let t : State = record s {
      world = with_element (slot_region slot) (slot_word slot) slot.length k n
          s.world;
    } in t) is
element_set nothing index i n s is = refl

sets_done : (g : Serves) (result : Option PlainTarget) (e : PlainSp) (s : State)
    → actions_done g (maybe_sets (assignment_to result e)) s ≡ goes_on (with_result result (worth e s) s)
sets_done g None e s = refl
sets_done g (Some t) e s = refl

fresh_world : (fresh : Option ℕ) (s : State) → (fresh_at fresh s).world ≡ s.world
fresh_world None s = refl
fresh_world (Some at) s = refl

called_done : (g : Serves) (k : Option ℕ) (args : List PlainSp) (result : Option PlainTarget) (s : State)
    → actions_done g (numbered_call k args result) s
    ≡ goes_on (outcome_done result s (numbered g k (args_worth args s) s.world))
called_done g None args result s = sets_done g result (constant 0) s
called_done g (Some k) args result s = refl

right_done : (fs : List (List ℕ)) (names : Names) (fresh : Option ℕ) (result : Option PlainTarget) (r : PlainRight)
    (g : Serves) (s : State)
    → actions_done g (resolved_right fs names fresh result r) s
    ≡ goes_on (outcome_done result s (right_outcome (calls_by fs g) names (fresh_at fresh s) r))
right_done fs names fresh result (plain.value e) g s =
    sets_done g result (resolved names fresh e) s
    ∙ ap (λ n. goes_on (with_result result n s)) (worth_of names fresh e s)
    ∙ ap (λ w. goes_on (with_result result (expr_value names (fresh_at fresh s) e) (in_world s w))) (sym
    (fresh_world fresh s))
right_done fs names fresh result (plain.call text args) g s =
    called_done g (number_of text fs) (resolved_args names fresh args) result s
    ∙ ap₂ (λ ns w. goes_on (outcome_done result s (numbered g (number_of text fs) ns w))) (worth_of_args names fresh
    args s) (sym (fresh_world fresh s))

put_twice : (at n : ℕ) (f : ℕ → ℕ) → put at n f ≡ put at n (put at 0 f)
put_twice at n f = λ i u. by (at == u) u i
  where
    by : (b : Bool) (u : ℕ) → cond b n (f u) ≡ cond b n (cond b 0 (f u))
    by true u = refl
    by false u = refl

declaration_done : (fs : List (List ℕ)) (names : Names) (at : ℕ) (r : Option PlainRight) (g : Serves) (s : State)
    → actions_done g (resolved_declaration fs names at r) s ≡ goes_on (declare_done (calls_by fs g) names at r s)
declaration_done fs names at None g s = refl
declaration_done fs names at (Some r) g s =
    let given = right_outcome (calls_by fs g) names (with_level at 0 s) r in
    right_done fs names (Some at) (Some (to_level at)) r g s
    ∙ ap (λ f. goes_on (record { locals = f; world = given.world })) (put_twice at given.value s.locals)

-- ---- loops

assignment_set : (names : Names) (text : List ℕ) (e : PlainExpr) (s : State)
    → step_done (resolved_assignment names text e) s ≡ assigned names text e s
assignment_set names text e s =
    by (variable_target (named names text)) ∙ ap (λ n. with_result (variable_target (named names text)) n s)
    (worth_of names None e s)
    ∙ target_set (named names text) (expr_value names s e) s
  where
    by : (t : Option PlainTarget) → step_done (assignment_to t (resolved names None e)) s
        ≡ with_result t (worth (resolved names None e) s) s
    by None = refl
    by (Some t) = refl

step_is : (names : Names) (head : PlainHead) (s : State) → step_done (resolved_next names head) s
    ≡ head_stepped names head s
step_is names (plain.iterations_while condition) s = refl
step_is names (plain.iterations_for first from condition to_set to) s = assignment_set names to_set to s

maybe_done : (g : Serves) (a : Option PlainAssignment) (s : State) → actions_done g (maybe_sets a) s
    ≡ goes_on (step_done a s)
maybe_done g None s = refl
maybe_done g (Some a) s = refl

begin_is : (names : Names) (head : PlainHead) (s : State) → step_done (resolved_begin names head) s
    ≡ head_begun names head s
begin_is names (plain.iterations_while condition) s = refl
begin_is names (plain.iterations_for first from condition to_set to) s = assignment_set names first from s

condition_is : (names : Names) (head : PlainHead) (s : State)
    → holds (resolved_condition names head) s ≡ is_true (expr_value names s (head_condition head))
condition_is names (plain.iterations_while condition) s = ap is_true (worth_of names None condition s)
condition_is names (plain.iterations_for first from condition to_set to) s =
    ap is_true (worth_of names None condition s)

return_is : (names : Names) (e : Option PlainExpr) (s : State) → worth (resolved_return names e) s
    ≡ return_value names s e
return_is names None s = refl
return_is names (Some e) s = worth_of names None e s

-- ---- statements

mutual
  pub stmt_means : (fs : List (List ℕ)) (names : Names) (g : Serves) (s : PlainStmt) (t : State)
      → actions_done g (resolved_stmt fs names s) t ≡ stmt_done (calls_by fs g) names s t
  stmt_means fs names g (plain.declared kind text r) t =
      declaration_done fs (with_variable names kind text) (length names.variables) r g t
  stmt_means fs names g (plain.set text r) t =
      let given = right_outcome (calls_by fs g) names t r in
      right_done fs names None (variable_target (named names text)) r g t
      ∙ ap goes_on (target_set (named names text) given.value (in_world t given.world))
  stmt_means fs names g (plain.set_element text index r) t =
      let given = right_outcome (calls_by fs g) names t r in
      let behind = in_world t given.world in
      right_done fs names None (element_target (named names text) (resolved names None index)) r g t
      ∙ ap goes_on (element_set (named names text) (resolved names None index) (expr_value names behind index)
      given.value behind (worth_of names None index behind))
  stmt_means fs names g (plain.called text args) t =
      called_done g (number_of text fs) (resolved_args names None args) None t
      ∙ ap (λ ns. goes_on (in_world t (numbered g (number_of text fs) ns t.world).world)) (worth_of_args
      names None args t)
  stmt_means fs names g (plain.sent core core_unsigned source target count) t =
      ap₂ (λ a b. goes_on (in_world t (with_send core a b (worth (resolved names None count) t) t.world)))
      (worth_of names None source t) (worth_of names None target t)
      ∙ ap (λ c. goes_on (in_world t (with_send core (expr_value names t source) (expr_value names t target) c
      t.world))) (worth_of names None count t)
  stmt_means fs names g (plain.chosen arms otherwise) t =
      choice_done g (resolved_arms fs names arms) (resolved_otherwise fs names otherwise) t
      ∙ arms_mean fs names g arms (actions_done g (resolved_otherwise fs names otherwise)) (otherwise_done
      (calls_by fs g) names otherwise)
      (λ i u. otherwise_means fs names g otherwise u i) t
  stmt_means fs names g (plain.looped bound head body) t =
      let loop = iterations (most_iterations bound) (resolved_condition names head) (resolved_block fs names body)
      (resolved_next names head) in
      done_joined g (maybe_sets (resolved_begin names head)) (one loop) t
      ∙ ap (then_done (actions_done g (one loop))) (maybe_done g (resolved_begin names head) t
      ∙ ap goes_on (begin_is names head t))
      ∙ then_none g (action_done g loop (head_begun names head t))
      ∙ ap (λ h. iterations_done h (actions_done g (resolved_block fs names body))
      (step_done (resolved_next names head)) (most_iterations bound) (head_begun names head t))
      (λ i u. condition_is names head u i)
      ∙ ap (λ f. iterations_done (λ u. is_true (expr_value names u (head_condition head))) f
      (step_done (resolved_next names head)) (most_iterations bound)
      (head_begun names head t)) (λ i u. block_means fs names g body u i)
      ∙ ap (λ f. iterations_done (λ u. is_true (expr_value names u (head_condition head)))
      (block_done (calls_by fs g) names body) f (most_iterations bound)
      (head_begun names head t)) (λ i u. step_is names head u i)
  stmt_means fs names g plain.broken t = refl
  stmt_means fs names g plain.continued t = refl
  stmt_means fs names g (plain.returned e) t =
      ap (λ n. let d : Done = record { way = way.Returned n; state = t } in d) (return_is names e t)
  stmt_means fs names g (plain.inner body) t = block_means fs names g body t

  block_means : (fs : List (List ℕ)) (names : Names) (g : Serves) (body : PlainBlock) (t : State)
      → actions_done g (resolved_block fs names body) t ≡ block_done (calls_by fs g) names body t
  block_means fs names g plain.no_stmt t = refl
  block_means fs names g (plain.stmt s rest) t =
      done_joined g (resolved_stmt fs names s) (resolved_block fs (names_after names s) rest) t
      ∙ ap (then_done (actions_done g (resolved_block fs (names_after names s) rest))) (stmt_means fs names g s t)
      ∙ ap (λ f. then_done f (stmt_done (calls_by fs g) names s t)) (λ i u. block_means fs
      (names_after names s) g rest u i)

  arms_mean : (fs : List (List ℕ)) (names : Names) (g : Serves) (arms : PlainArms) (o p : State → Done) → o
      ≡ p → (t : State)
      → branches_done g (resolved_arms fs names arms) o t ≡ arms_done (calls_by fs g) names arms p t
  arms_mean fs names g plain.no_arm o p same t = ap (λ f. f t) same
  arms_mean fs names g (plain.arm condition body rest) o p same t =
      ap (λ b. elim b as (λ _. Done) [
        | true ↦ actions_done g (resolved_block fs names body) t
        | false ↦ branches_done g (resolved_arms fs names rest) o t
      ]) (ap is_true (worth_of names None condition t))
      ∙ ap₂ (λ x y. elim (is_true (expr_value names t condition)) as (λ _. Done) [ true ↦ x | false ↦ y ])
      (block_means fs names g body t) (arms_mean fs names g rest o p same t)

  otherwise_means : (fs : List (List ℕ)) (names : Names) (g : Serves) (otherwise : PlainOtherwise) (t : State)
      → actions_done g (resolved_otherwise fs names otherwise) t ≡ otherwise_done (calls_by fs g) names otherwise t
  otherwise_means fs names g plain.no_else t = refl
  otherwise_means fs names g (plain.or_else body) t = block_means fs names g body t

pub body_means : (fs : List (List ℕ)) (names : Names) (g : Serves) (body : List PlainStmt) (t : State)
    → actions_done g (resolved_body fs names body) t ≡ body_done (calls_by fs g) names body t
body_means fs names g [] t = refl
body_means fs names g (s ∷ rest) t =
    done_joined g (resolved_stmt fs names s) (resolved_body fs (names_after names s) rest) t
    ∙ ap (then_done (actions_done g (resolved_body fs (names_after names s) rest))) (stmt_means fs names g s t)
    ∙ ap (λ f. then_done f (stmt_done (calls_by fs g) names s t)) (λ i u. body_means fs
    (names_after names s) g rest u i)

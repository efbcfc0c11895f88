-- Actions, converted one after another.
use Rattle.std.proofs.Common.{◌≡◌, ℕ, zero, suc, ◌+◌, Bool, true, false, if◌then◌else◌, List, [], ◌∷◌, length, ◌==◌, Option, refl, ap, ap₂, sym, ◌∙◌, arith, ne_eqb, None, Some, true≢false}
use Rattle.std.specs.Prelude.{option_map, ◌&&◌}
use Rattle.c_meaning.specs.Actions.{PlainAssignment, PlainActions, chooses, iterations}
use Rattle.c_meaning.specs.declared.actions.Action.{Action}
use Rattle.c_meaning.specs.declared.actions.Action.TheViews.{Choose, Loop}
use Rattle.c_meaning.specs.declared.actions.Assignment.{Assignment}
use Rattle.c_meaning.specs.declared.actions.Branch.{Branch}
use Rattle.c_meaning.specs.Shown.{plain_action, plain_assignment, actions_of, branches_of}
use Rattle.c_meaning.proofs.Acted.{plain_choose, plain_loop}
use Rattle.sp_tree.specs.declared.expressions.SpExpr.{SpExpr}
use Rattle.sp_tree.specs.Plain.{PlainSp, plain_sp}
use Rattle.sp_tree.specs.Statements.{PlainStmts, no_stmt, masks, one, joined}
use Rattle.single_path.specs.declared.counted.Start.{Start}
use Rattle.single_path.specs.declared.part_words.PartWords.{PartWords}
use Rattle.single_path.specs.Counted.{start_of}
use Rattle.single_path.specs.Made.{is_counted, counted_part, made_counted, made_loop, made_iteration, by_return, by_continue, made, made_action, made_branches, made_otherwise, any_exit, actions_exit, is_no_branch, is_no_action, ends}
use Rattle.single_path.specs.Widths as width
use Rattle.single_path.specs.PartWords.{in_arm, in_loop, where_so, where_not_taken, where_other}
use Rattle.single_path.proofs.Stated.{joined_none, joined_joined}

-- ---- parts of an action

pub choose_is : (a : Action) (branches branches' : List Branch) (otherwise otherwise' : List Action) → a
    ≡ Choose branches otherwise
    → branches' ≡ branches → otherwise' ≡ otherwise → chooses (branches_of branches') (actions_of otherwise')
    ≡ plain_action a
choose_is a branches branches' otherwise otherwise' is bs os =
    ap₂ (λ b o. chooses (branches_of b) (actions_of o)) bs os ∙ sym (plain_choose branches otherwise)
    ∙ ap plain_action (sym is)

pub loop_is : (a : Action) (most : ℕ) (condition : SpExpr) (body body' : List Action) (step : Option Assignment) → a
    ≡ Loop most condition body step
    → body' ≡ body → iterations most (plain_sp condition) (actions_of body') (option_map plain_assignment step)
    ≡ plain_action a
loop_is a most condition body body' step is same =
    ap (λ b. iterations most (plain_sp condition) (actions_of b) (option_map plain_assignment step)) same
    ∙ sym (plain_loop most condition body step)
    ∙ ap plain_action (sym is)

-- a loop, as it is made
pub counted_made : (known : Option Start) (p : PartWords) (most : ℕ) (condition : PlainSp) (body : PlainActions)
    (step : Option PlainAssignment)
    → is_counted known most condition body step ≡ true
    → made_counted p most (actions_exit by_continue body) (made None (counted_part p (actions_exit by_continue body))
    body) step
    ≡ made_action known p (iterations most condition body step)
counted_made known p most condition body step is =
    ap (λ b. if b then made_counted p most (actions_exit by_continue body)
    (made None (counted_part p (actions_exit by_continue body)) body) step
    else made_loop p most condition (actions_exit by_return body)
    (made_iteration p condition (actions_exit by_continue body) (made None (in_loop p) body) step))
    (sym is)

pub repeated_made : (known : Option Start) (p : PartWords) (most : ℕ) (condition : PlainSp) (body : PlainActions)
    (step : Option PlainAssignment)
    → is_counted known most condition body step ≡ false
    → made_loop p most condition (actions_exit by_return body) (made_iteration p condition
    (actions_exit by_continue body) (made None (in_loop p) body) step)
    ≡ made_action known p (iterations most condition body step)
repeated_made known p most condition body step is =
    ap (λ b. if b then made_counted p most (actions_exit by_continue body)
    (made None (counted_part p (actions_exit by_continue body)) body) step
    else made_loop p most condition (actions_exit by_return body)
    (made_iteration p condition (actions_exit by_continue body) (made None (in_loop p) body) step))
    (sym is)

-- one that counts has at least one iteration
pub counted_masks : (known : Option Start) (most : ℕ) (condition : PlainSp) (body : PlainActions)
    (step : Option PlainAssignment) (n : ℕ) (counted : Bool)
    → counted ≡ is_counted known most condition body step → counted ≡ true → width.loop_masks most n ≡ 1 + n
counted_masks None most condition body step n counted is so = absurd (true≢false (sym so ∙ is))
counted_masks (Some s) zero condition body step n counted is so = absurd (true≢false (sym so ∙ is))
counted_masks (Some s) (suc k) condition body step n counted is so = refl

-- ---- one action more

more_actions : (known : Option Start) (p : PartWords) (out : PlainStmts) (left rest : List Action) (a : Action)
    → left ≡ a ∷ rest
    → joined out (made known p (actions_of left)) ≡ joined (joined out (made_action known p (plain_action a)))
    (if ends (plain_action a) then no_stmt else made (start_of (plain_action a)) p (actions_of rest))
more_actions known p out left rest a is =
    ap (λ xs. joined out (made known p (actions_of xs))) is
    ∙ sym (joined_joined out (made_action known p (plain_action a))
    (if ends (plain_action a) then no_stmt else made (start_of (plain_action a)) p (actions_of rest)))

pub next_action : (known : Option Start) (p : PartWords) (out more whole : PlainStmts) (left rest : List Action)
    (a : Action) → left ≡ a ∷ rest → ends (plain_action a) ≡ false
    → more ≡ joined out (made_action known p (plain_action a)) → joined out (made known p (actions_of left)) ≡ whole
    → joined more (made (start_of (plain_action a)) p (actions_of rest)) ≡ whole
next_action known p out more whole left rest a is stays grown so_far =
    ap (λ xs. joined xs (made (start_of (plain_action a)) p (actions_of rest))) grown
    ∙ ap (λ b. joined (joined out (made_action known p (plain_action a)))
    (if b then no_stmt else made (start_of (plain_action a)) p (actions_of rest))) (sym stays)
    ∙ sym (more_actions known p out left rest a is) ∙ so_far

pub no_action_left : (known : Option Start) (p : PartWords) (out whole : PlainStmts) (left : List Action) → left ≡ []
    → joined out (made known p (actions_of left)) ≡ whole → out ≡ whole
no_action_left known p out whole left is so_far =
    sym (joined_none out) ∙ ap (λ xs. joined out (made known p (actions_of xs))) (sym is) ∙ so_far

-- ---- arms

pub no_branches : (branches : List Branch) → is_no_branch (branches_of branches) ≡ (length branches == 0)
no_branches [] = refl
no_branches (b ∷ branches) = sym (ne_eqb (suc (length branches)) 0 (omega arith))

pub no_actions : (actions : List Action) → is_no_action (actions_of actions) ≡ (length actions == 0)
no_actions [] = refl
no_actions (a ∷ actions) = sym (ne_eqb (suc (length actions)) 0 (omega arith))

-- whether no arm is left and nothing stands after them
pub nothing_left : (rest : List Branch) (arms : ℕ) (otherwise otherwise' : List Action) (nothing : Bool)
    → arms ≡ length rest → otherwise' ≡ otherwise → nothing ≡ (arms == 0 && is_no_action (actions_of otherwise'))
    → (is_no_branch (branches_of rest) && is_no_action (actions_of otherwise)) ≡ nothing
nothing_left rest arms otherwise otherwise' nothing count same is =
    ap₂ (λ b xs. b && is_no_action (actions_of xs)) (no_branches rest ∙ ap (λ n. n == 0) (sym count)) (sym same)
    ∙ sym is

-- one arm more, and what stands after it
pub arm_added : (p : PartWords) (old first second whole : PlainStmts) (left rest : List Branch) (b : Branch)
    (nothing : Bool) (otherwise : PartWords → PlainStmts) → left ≡ b ∷ rest
    → first ≡ joined old (one (masks p.free (where_so p.own (plain_sp b.condition))))
    → second ≡ joined first (made None (in_arm p) (actions_of b.body))
    → joined old (made_branches p (branches_of left) nothing otherwise) ≡ whole
    → joined second (made_otherwise p (actions_exit any_exit (actions_of b.body))
    (is_no_branch (branches_of rest) && nothing) (made_branches (in_arm p) (branches_of rest) nothing otherwise))
    ≡ whole
arm_added p old first second whole left rest b nothing otherwise is is_first is_second so_far =
    ap (λ xs. joined xs after) (is_second ∙ ap (λ xs. joined xs arm) is_first)
    ∙ joined_joined (joined old mask) arm after ∙ joined_joined old mask (joined arm after)
    ∙ ap (λ bs. joined old (made_branches p (branches_of bs) nothing otherwise)) (sym is) ∙ so_far
  where
    mask : PlainStmts
    mask = one (masks p.free (where_so p.own (plain_sp b.condition)))

    arm : PlainStmts
    arm = made None (in_arm p) (actions_of b.body)

    after : PlainStmts
    after = made_otherwise p (actions_exit any_exit (actions_of b.body)) (is_no_branch (branches_of rest) && nothing)
        (made_branches (in_arm p) (branches_of rest) nothing otherwise)

-- what stands after an arm
pub nothing_added : (p : PartWords) (old behind : PlainStmts) (exits nothing : Bool) → nothing ≡ true → old
    ≡ joined old (made_otherwise p exits nothing behind)
nothing_added p old behind exits nothing is =
    sym (joined_none old) ∙ ap (λ b. joined old (made_otherwise p exits b behind)) (sym is)

pub otherwise_added : (p : PartWords) (old first behind : PlainStmts) (exits nothing : Bool) → nothing ≡ false
    → first ≡ joined old (one (masks p.free (if exits then where_not_taken p else where_other p)))
    → joined first behind ≡ joined old (made_otherwise p exits nothing behind)
otherwise_added p old first behind exits nothing is is_first =
    ap (λ xs. joined xs behind) is_first
    ∙ joined_joined old (one (masks p.free (if exits then where_not_taken p else where_other p))) behind
    ∙ ap (λ b. joined old (made_otherwise p exits b behind)) (sym is)

use Rattle.std.proofs.Common.{◌≡◌, ◌+◌, List, None, length, drop, subst, ap, ap₂, sym, ◌∙◌, arith}
use Rattle.std.specs.Prelude.{option_map, OnOk}
use Rattle.std.proofs.Math.ListN.{length-map}
use Rattle.std.proofs.lemmas.List.{drop_all}
use Rattle.c_tree.specs.declared.statements.Stmt.{Stmt}
use Rattle.c_tree.specs.Plain.{plain_expr, plain_right, plain_head, plain_stmt}
use Rattle.c_tree.specs.Plains.{block_of, arms_of}
use Rattle.c_meaning.specs.declared.actions.Branch.{Branch}
use Rattle.c_meaning.specs.declared.actions.Action.TheViews.{Loop}
use Rattle.c_meaning.specs.Actions.{PlainAction, PlainActions, iterations, returns, branch, one, joined}
use Rattle.c_meaning.specs.Meaning.{most_iterations, names_after}
use Rattle.c_meaning.specs.Open.{names_of, functions_of, closed}
use Rattle.c_meaning.specs.Resolve.{variable_target, maybe_sets, resolved_right, resolved_begin, resolved_condition, resolved_next, choice, resolved_block, resolved_arms, resolved_stmt}
use Rattle.c_meaning.specs.Shown.{actions_of, plain_action, plain_assignment}
use Rattle.c_meaning.specs.Values.{named}
use Rattle.c_meaning.proofs.Acted.{plain_loop, joined_none, joined_joined, more_branches, branches_push, branches_all}
use Rattle.c_meaning.proofs.Fitting.{block_fits, arms_fit, declare_fits, call_fits, arms_fits, else_fits, loop_fits, inner_fits}
use Rattle.c_meaning.specs.Fits.{BlockFits, ArmsFit}
use Rattle.c_tree.specs.Sizes.{block_size, arms_size}
use Rattle.c_tree.proofs.StmtSizes.{inner_sized, loop_sized}
use Rattle.c_meaning.proofs.StmtFalls.{if_size, else_size, stmt_in_block, block_in_arms}
use Rattle.c_meaning.proofs.StmtParts.{declare_resolved, set_resolved, set_element_resolved, call_resolved, send_resolved, if_resolved, if_else_resolved, loop_resolved, break_resolved, continue_resolved, return_resolved, inner_resolved, declare_named, inner_named, block_next, arms_next, kept_after}
use Rattle.c_meaning.proofs.statements.+statement.Goals as goal

-- ---- what fits a statement fits its parts

pub stmt-declare-requires-clause-room : goal.stmt-declare-requires-clause-room
stmt-declare-requires-clause-room t c =
    (declare_fits (names_of c.args.scope.now) c.args.s.now c.in-Declare.kind c.in-Declare.name c.in-Declare.right
    c.in-Declare.is c.requires).0

pub stmt-declare-requires-clause-first : goal.stmt-declare-requires-clause-first
stmt-declare-requires-clause-first t c =
    (declare_fits (names_of c.args.scope.now) c.args.s.now c.in-Declare.kind c.in-Declare.name c.in-Declare.right
    c.in-Declare.is c.requires).1

pub stmt-add_call-requires-clause-few : goal.stmt-add_call-requires-clause-few
stmt-add_call-requires-clause-few t c =
    omega (
      arith,
      c.in_ok-args-in-Call.ensures.count,
      ap length c.as_slice.ensures,
      length-map c.in-Call.args plain_expr,
      call_fits (names_of c.args.scope.now) c.args.s.now c.in-Call.name c.in-Call.args c.in-Call.is c.requires,
    )

pub stmt-branches-requires : goal.stmt-branches-requires
stmt-branches-requires t c =
    let size = if_size c.args.s.now c.in-If.arms c.in-If.otherwise c.in-If.is in
    let same = ap (λ arms. arms_size (arms_of arms)) c.as_slice-in-If.ensures in
    let fits = arms_fits (names_of c.args.scope.now) c.args.s.now c.in-If.arms c.as_slice-in-If.result.now
    c.in-If.otherwise c.in-If.is c.as_slice-in-If.ensures c.requires in
    (omega (arith, c.decreases, size, same), fits)

pub stmt-block-requires : goal.stmt-block-requires
stmt-block-requires t c =
    let size = if_size c.args.s.now c.in-If.arms c.in-If.otherwise c.in-If.is in
    let behind = else_size c.in-If.otherwise c.in-Some.body c.in-Some.is in
    let same = ap (λ ss. block_size (block_of ss)) c.as_slice-in-Some.ensures in
    let fits = else_fits (names_of c.args.scope.now) (names_of c.branches.new.scope) c.args.s.now c.in-If.arms
    c.in-If.otherwise c.in-Some.body
    c.as_slice-in-Some.result.now c.in-If.is c.in-Some.is c.as_slice-in-Some.ensures
    c.in_ok-branches-in-If.ensures.names c.requires in
    (omega (arith, c.decreases, size, behind, same), fits)

pub stmt-repeat-requires : goal.stmt-repeat-requires
stmt-repeat-requires t c =
    let size = loop_sized c.args.s.now c.in-Loop.bound c.in-Loop.head c.in-Loop.body c.in-Loop.is in
    let same = ap (λ ss. block_size (block_of ss)) c.as_slice-in-Loop.ensures in
    let fits = loop_fits (names_of c.args.scope.now) c.args.s.now c.in-Loop.bound c.in-Loop.head c.in-Loop.body
    c.as_slice-in-Loop.result.now c.in-Loop.is
    c.as_slice-in-Loop.ensures c.requires in
    (omega (arith, c.decreases, size, same), fits)

pub stmt-statements-requires : goal.stmt-statements-requires
stmt-statements-requires t c =
    let size = inner_sized c.args.s.now c.in-Inner.body c.in-Inner.is in
    let same = ap (λ ss. block_size (block_of ss)) c.as_slice-in-Inner.ensures in
    let fits = inner_fits (names_of c.args.scope.now) c.args.s.now c.in-Inner.body c.as_slice-in-Inner.result.now
    c.in-Inner.is c.as_slice-in-Inner.ensures c.requires in
    (omega (arith, c.decreases, size, same), fits)

pub repeat-block-requires : goal.repeat-block-requires
repeat-block-requires t c = (omega (arith, c.decreases), c.requires)

pub block-statements-requires : goal.block-statements-requires
block-statements-requires t c = (omega (arith, c.decreases), c.requires)

pub statements-stmt-requires : goal.statements-stmt-requires
statements-stmt-requires t c =
    let size = stmt_in_block c.args.body.now c.loop-s.s-index c.s-item.result (omega arith) c.s-item.is in
    let fits = block_fits (names_of c.loop-s.scope) c.args.body.now c.loop-s.s-index c.s-item.result
    (omega arith) c.s-item.is c.loop-s.invariant.fits in
    (omega (arith, c.decreases, size), fits.0)

pub branches-block-requires : goal.branches-block-requires
branches-block-requires t c =
    let names = names_of c.loop-arm.scope in
    let size = block_in_arms c.args.arms.now c.loop-arm.arm-index c.arm-item.result (omega arith) c.arm-item.is in
    let same = ap (λ ss. block_size (block_of ss)) c.as_slice.ensures in
    let fits = arms_fit names c.args.arms.now c.loop-arm.arm-index c.arm-item.result (omega arith) c.arm-item.is
    c.loop-arm.invariant.fits in (
      omega (arith, c.decreases, size, same),
      subst (λ ss. BlockFits names (block_of ss))
          (sym c.as_slice.ensures) fits.0,
    )

-- ---- what they are resolved to

pub stmt-returns-in-Declare-clause-actions : goal.stmt-returns-in-Declare-clause-actions
stmt-returns-in-Declare-clause-actions t c =
    subst (λ a. OnOk c.declare.result (actions_of c.declare.new.out.items ≡ joined (actions_of c.args.out.now.items) a))
    (sym (declare_resolved (functions_of c.args.scope.now) (names_of c.args.scope.now) c.args.s.now c.in-Declare.kind
    c.in-Declare.name c.in-Declare.right c.in-Declare.is)) c.declare.ensures.actions

pub stmt-returns-in-Declare-clause-names : goal.stmt-returns-in-Declare-clause-names
stmt-returns-in-Declare-clause-names t c =
    subst (λ n. OnOk c.declare.result (names_of c.declare.new.scope ≡ n))
    (sym (declare_named (names_of c.args.scope.now) c.args.s.now c.in-Declare.kind c.in-Declare.name c.in-Declare.right
    c.in-Declare.is)) c.declare.ensures.names

pub stmt-returns-in-Set-clause-actions : goal.stmt-returns-in-Set-clause-actions
stmt-returns-in-Set-clause-actions t c =
    let part = set_resolved (functions_of c.args.scope.now) (names_of c.args.scope.now) c.args.s.now c.in-Set.name
    c.in-Set.right c.in-Set.is in
    let target = c.variable_target-target.ensures ∙ ap variable_target (c.find.ensures.shown
    ∙ ap (named (names_of c.args.scope.now)) c.as_str.ensures) in
    subst (λ a. OnOk c.add_right.result (actions_of c.add_right.new.out.items
    ≡ joined (actions_of c.args.out.now.items) a))
    (ap (λ t. resolved_right (functions_of c.args.scope.now) (names_of c.args.scope.now) None t
    (plain_right c.in-Set.right)) target ∙ sym part) c.add_right.ensures

pub stmt-returns-in-SetElement-clause-actions : goal.stmt-returns-in-SetElement-clause-actions
stmt-returns-in-SetElement-clause-actions t c =
    subst (λ a. OnOk c.set_element.result (actions_of c.set_element.new.out.items
    ≡ joined (actions_of c.args.out.now.items) a))
    (sym (set_element_resolved (functions_of c.args.scope.now) (names_of c.args.scope.now) c.args.s.now
    c.in-SetElement.name c.in-SetElement.index c.in-SetElement.right c.in-SetElement.is)) c.set_element.ensures

pub stmt-returns-in_ok-args-in-Call-clause-actions : goal.stmt-returns-in_ok-args-in-Call-clause-actions
stmt-returns-in_ok-args-in-Call-clause-actions t c =
    let part = call_resolved (functions_of c.args.scope.now) (names_of c.args.scope.now) c.args.s.now c.in-Call.name
    c.in-Call.args c.in-Call.is in
    subst (λ a. OnOk c.add_call.result (actions_of c.add_call.new.out.items
    ≡ joined (actions_of c.args.out.now.items) a))
    (cc (
      part,
      c.in_ok-args-in-Call.ensures.values,
      c.function.ensures.number,
      c.as_str-in-Call.ensures,
      c.as_slice.ensures,
    )) c.add_call.ensures

pub stmt-returns-in_ok-action-in-Send-clause-actions : goal.stmt-returns-in_ok-action-in-Send-clause-actions
stmt-returns-in_ok-action-in-Send-clause-actions t c =
    let part = send_resolved (functions_of c.args.scope.now) (names_of c.args.scope.now) c.args.s.now c.in-Send.core
    c.in-Send.core_unsigned c.in-Send.source c.in-Send.target c.in-Send.count c.in-Send.is in
    subst (λ a. OnOk c.add.result (actions_of c.add.new.out.items ≡ joined (actions_of c.args.out.now.items) a))
    (cc (part, c.in_ok-action-in-Send.ensures)) c.add.ensures

pub stmt-returns-in-None-clause-actions : goal.stmt-returns-in-None-clause-actions
stmt-returns-in-None-clause-actions t c =
    let part = if_resolved (functions_of c.args.scope.now) (names_of c.args.scope.now) c.args.s.now c.in-If.arms
    c.in-If.otherwise c.in-If.is c.in-None.is in
    let branches = c.in_ok-branches-in-If.ensures.branches ∙ ap (λ arms. resolved_arms (functions_of c.args.scope.now)
    (names_of c.args.scope.now) (arms_of arms)) c.as_slice-in-If.ensures in
    subst (λ a. OnOk c.add_choice.result (actions_of c.add_choice.new.out.items
    ≡ joined (actions_of c.args.out.now.items) a))
    (ap₂ choice branches (ap actions_of (c.of.ensures ∙ c.new.ensures.items)) ∙ sym part) c.add_choice.ensures

pub stmt-returns-in_ok-otherwise-in-Some-clause-actions : goal.stmt-returns-in_ok-otherwise-in-Some-clause-actions
stmt-returns-in_ok-otherwise-in-Some-clause-actions t c =
    let part = if_else_resolved (functions_of c.args.scope.now) (names_of c.args.scope.now) c.args.s.now c.in-If.arms
    c.in-If.otherwise c.in-Some.body c.in-If.is c.in-Some.is in
    let branches = c.in_ok-branches-in-If.ensures.branches ∙ ap (λ arms. resolved_arms (functions_of c.args.scope.now)
    (names_of c.args.scope.now) (arms_of arms)) c.as_slice-in-If.ensures in
    let scope = ap₂ (λ f n. resolved_block f n (block_of c.in-Some.body)) c.in_ok-branches-in-If.ensures.functions
    c.in_ok-branches-in-If.ensures.names in
    let body = c.in_ok-otherwise-in-Some.ensures.actions
    ∙ ap (λ ss. resolved_block (functions_of c.branches.new.scope) (names_of c.branches.new.scope) (block_of ss))
    c.as_slice-in-Some.ensures ∙ scope in
    subst (λ a. OnOk c.add_choice-in-Some.result (actions_of c.add_choice-in-Some.new.out.items
    ≡ joined (actions_of c.args.out.now.items) a))
    (ap₂ choice branches body ∙ sym part) c.add_choice-in-Some.ensures

pub stmt-returns-in-Loop-clause-actions : goal.stmt-returns-in-Loop-clause-actions
stmt-returns-in-Loop-clause-actions t c =
    let fs = functions_of c.args.scope.now in
    let names = names_of c.args.scope.now in
    let head = plain_head c.in-Loop.head in
    let part = loop_resolved fs names c.args.s.now c.in-Loop.bound c.in-Loop.head c.in-Loop.body c.in-Loop.is in
    let loop : List Stmt → PlainActions = λ body.
    joined (maybe_sets (resolved_begin names head))
    (one (iterations (most_iterations c.in-Loop.bound) (resolved_condition names head)
    (resolved_block fs names (block_of body)) (resolved_next names head))) in
    subst (λ a. OnOk c.repeat.result (actions_of c.repeat.new.out.items ≡ joined (actions_of c.args.out.now.items) a))
    (ap loop c.as_slice-in-Loop.ensures ∙ sym part) c.repeat.ensures.actions

pub stmt-returns-in-Break-clause-actions : goal.stmt-returns-in-Break-clause-actions
unfolding plain_action
stmt-returns-in-Break-clause-actions t c =
    subst (λ a. OnOk c.add-in-Break.result (actions_of c.add-in-Break.new.out.items
    ≡ joined (actions_of c.args.out.now.items) a))
    (sym (break_resolved (functions_of c.args.scope.now) (names_of c.args.scope.now) c.args.s.now c.in-Break.is))
    c.add-in-Break.ensures

pub stmt-returns-in-Continue-clause-actions : goal.stmt-returns-in-Continue-clause-actions
unfolding plain_action
stmt-returns-in-Continue-clause-actions t c =
    subst (λ a. OnOk c.add-in-Continue.result (actions_of c.add-in-Continue.new.out.items
    ≡ joined (actions_of c.args.out.now.items) a))
    (sym (continue_resolved (functions_of c.args.scope.now) (names_of c.args.scope.now) c.args.s.now c.in-Continue.is))
    c.add-in-Continue.ensures

pub stmt-returns-in_ok-value-in-Return-clause-actions : goal.stmt-returns-in_ok-value-in-Return-clause-actions
unfolding plain_action
stmt-returns-in_ok-value-in-Return-clause-actions t c =
    let part = return_resolved (functions_of c.args.scope.now) (names_of c.args.scope.now) c.args.s.now
    c.in-Return.value c.in-Return.is in
    subst (λ a. OnOk c.add-in-Return.result (actions_of c.add-in-Return.new.out.items
    ≡ joined (actions_of c.args.out.now.items) a))
    (ap (λ e. one (returns e)) c.in_ok-value-in-Return.ensures ∙ sym part) c.add-in-Return.ensures

pub stmt-returns-in_ok-statements-in-Inner-clause-actions : goal.stmt-returns-in_ok-statements-in-Inner-clause-actions
stmt-returns-in_ok-statements-in-Inner-clause-actions t c =
    let part = inner_resolved (functions_of c.args.scope.now) (names_of c.args.scope.now) c.args.s.now c.in-Inner.body
    c.in-Inner.is in
    cc (part, c.in_ok-statements-in-Inner.ensures.actions, c.as_slice-in-Inner.ensures)

pub stmt-returns-in_ok-statements-in-Inner-clause-names : goal.stmt-returns-in_ok-statements-in-Inner-clause-names
stmt-returns-in_ok-statements-in-Inner-clause-names t c =
    let part = inner_named (names_of c.args.scope.now) c.args.s.now c.in-Inner.body c.in-Inner.is in
    c.close.ensures.names ∙ ap (λ n. closed n (names_of c.statements.new.scope)) c.len-outer.ensures
    ∙ c.in_ok-statements-in-Inner.ensures.kept ∙ sym part

pub stmt-returns-in_ok-statements-in-Inner-clause-functions : goal.stmt-returns-in_ok-statements-in-Inner-clause-functions
stmt-returns-in_ok-statements-in-Inner-clause-functions t c =
    cc (c.close.ensures.functions, c.in_ok-statements-in-Inner.ensures.functions)

pub repeat-returns-clause-actions : goal.repeat-returns-clause-actions
repeat-returns-clause-actions t c =
    let fs = functions_of c.args.scope.now in
    let names = names_of c.args.scope.now in
    let head = plain_head c.args.head.now in
    let first : PlainActions = maybe_sets (resolved_begin names head) in
    let block = resolved_block fs names (block_of c.args.body.now) in
    let loop : PlainAction =
    iterations (most_iterations c.args.bound) (resolved_condition names head) block (resolved_next names head) in
    let plain : plain_action (Loop c.most_iterations-max.result c.in_ok-condition.condition c.in_ok-body.body
    c.in_ok-step.step) ≡ loop =
    plain_loop c.most_iterations-max.result c.in_ok-condition.condition c.in_ok-body.body c.in_ok-step.step
    ∙ ap₂ (λ m e. iterations m e (actions_of c.in_ok-body.body) (option_map plain_assignment c.in_ok-step.step))
    c.most_iterations-max.ensures c.in_ok-condition.ensures
    ∙ ap₂ (λ b n. iterations (most_iterations c.args.bound) (resolved_condition names head) b n)
    c.in_ok-body.ensures.actions c.in_ok-step.ensures in
    let begun = c.in_ok-add_set.ensures ∙ ap (λ f. joined (actions_of c.args.out.now.items) (maybe_sets f))
    c.in_ok-first.ensures in
    subst (λ all. OnOk c.add.result (actions_of c.add.new.out.items ≡ all))
    (ap₂ (λ xs a. joined xs (one a)) begun plain ∙ joined_joined (actions_of c.args.out.now.items) first (one loop))
    c.add.ensures

pub statements-loop-s-preserved : goal.statements-loop-s-preserved
statements-loop-s-preserved t c =
    let fs = functions_of c.loop-s.scope in
    let names = names_of c.loop-s.scope in
    let s = plain_stmt c.s-item.result in
    let rest = block_of (drop (c.loop-s.s-index + 1) c.args.body.now) in
    let next = block_next fs names c.args.body.now c.loop-s.s-index c.s-item.result (omega arith) c.s-item.is in
    let scope = ap₂ (λ f n. resolved_block f n rest) c.in_ok-stmt.ensures.functions c.in_ok-stmt.ensures.names in
    record {
      actions = ap₂ joined c.in_ok-stmt.ensures.actions scope
          ∙ joined_joined (actions_of c.loop-s.out.items) (resolved_stmt fs names s) (resolved_block fs
          (names_after names s) rest)
          ∙ ap (joined (actions_of c.loop-s.out.items)) (sym next) ∙ c.loop-s.invariant.actions;
      kept = ap (closed (length (names_of c.args.scope.now).variables)) c.in_ok-stmt.ensures.names
          ∙ kept_after (names_of c.args.scope.now) names s c.loop-s.invariant.kept;
      fits = subst (λ n. BlockFits n rest) (sym c.in_ok-stmt.ensures.names)
          (block_fits names c.args.body.now c.loop-s.s-index c.s-item.result (omega arith) c.s-item.is
          c.loop-s.invariant.fits).1;
      functions = c.in_ok-stmt.ensures.functions ∙ c.loop-s.invariant.functions;
    }

pub statements-returns-clause-actions : goal.statements-returns-clause-actions
statements-returns-clause-actions t c =
    let fs = functions_of c.loop-s.scope in
    let names = names_of c.loop-s.scope in
    let all = ap (λ ss. joined (actions_of c.loop-s.out.items) (resolved_block fs names (block_of ss)))
    (drop_all c.loop-s.s-index c.args.body.now c.loop-s-test.false) in
    cc (all, joined_none (actions_of c.loop-s.out.items), c.loop-s.invariant.actions)

pub statements-returns-clause-kept : goal.statements-returns-clause-kept
statements-returns-clause-kept t c =
    c.loop-s.invariant.kept

pub branches-loop-arm-preserved : goal.branches-loop-arm-preserved
branches-loop-arm-preserved t c =
    let fs = functions_of c.loop-arm.scope in
    let names = names_of c.loop-arm.scope in
    let bs = c.loop-arm.branches.items in
    let b : Branch = record { condition = c.in_ok-condition.condition; body = c.in_ok-body.body } in
    let arms = arms_of (drop (c.loop-arm.arm-index + 1) c.args.arms.now) in
    let next = arms_next fs names c.args.arms.now c.loop-arm.arm-index c.arm-item.result (omega arith) c.arm-item.is in
    let scope = ap₂ (λ f n. resolved_arms f n arms) c.in_ok-body.ensures.functions c.in_ok-body.ensures.names in
    let body = c.in_ok-body.ensures.actions ∙ ap (λ ss. resolved_block fs names (block_of ss)) c.as_slice.ensures in
    record {
      branches = ap₂ more_branches c.in_ok-push.ensures.items scope ∙ branches_push bs b (resolved_arms fs names arms)
          ∙ ap₂ (λ x y. more_branches bs (branch x y (resolved_arms fs names arms))) c.in_ok-condition.ensures body
          ∙ ap (more_branches bs) (sym next) ∙ c.loop-arm.invariant.branches;
      names = c.in_ok-body.ensures.names ∙ c.loop-arm.invariant.names;
      fits = subst (λ n. ArmsFit n arms) (sym c.in_ok-body.ensures.names)
          (arms_fit names c.args.arms.now c.loop-arm.arm-index c.arm-item.result (omega arith) c.arm-item.is
          c.loop-arm.invariant.fits).1;
      functions = c.in_ok-body.ensures.functions ∙ c.loop-arm.invariant.functions;
    }

pub branches-returns-clause-branches : goal.branches-returns-clause-branches
branches-returns-clause-branches t c =
    let all = ap (λ arms. more_branches c.loop-arm.branches.items (resolved_arms (functions_of c.loop-arm.scope)
    (names_of c.loop-arm.scope) (arms_of arms)))
    (drop_all c.loop-arm.arm-index c.args.arms.now c.loop-arm-test.false) in
    cc (all, branches_all c.loop-arm.branches.items, c.loop-arm.invariant.branches, c.of.ensures)

pub block-returns-clause-actions : goal.block-returns-clause-actions
block-returns-clause-actions t c =
    let first = ap (λ xs. joined (actions_of xs) (resolved_block (functions_of c.args.scope.now)
    (names_of c.args.scope.now) (block_of c.args.body.now))) c.new-actions.ensures.items in
    cc (first, c.of.ensures, c.in_ok-statements.ensures.actions)

pub block-returns-clause-names : goal.block-returns-clause-names
block-returns-clause-names t c =
    cc (c.close.ensures.names, c.len-outer.ensures, c.in_ok-statements.ensures.kept)

pub block-returns-clause-functions : goal.block-returns-clause-functions
block-returns-clause-functions t c =
    cc (c.close.ensures.functions, c.in_ok-statements.ensures.functions)

use Rattle.std.proofs.Common.{[], ◌∷◌, ◌++◌, ◌+◌, ◌||◌, take, drop, map, refl, ap, ap₂, sym, subst, ◌∙◌, arith}
use Rattle.std.specs.Prelude.{bytes_eq, codes}
use Rattle.std.proofs.lemmas.List.{take_more, drop_all}
use Rattle.c_tree.specs.Layout.{is_unsigned}
use Rattle.c_tree.specs.Plain.{plain_expr, plain_right, plain_head, plain_stmt}
use Rattle.c_tree.specs.Plains.{block_of, arms_of, otherwise_of}
use Rattle.c_meaning.specs.Meaning.{with_variable, names_after}
use Rattle.c_meaning.specs.Scope.{Variable}
use Rattle.c_meaning.specs.Values.{named}
use Rattle.c_mentions.specs.Hidden.{Hides}
use Rattle.c_mentions.specs.Noted.{with_uses}
use Rattle.c_mentions.specs.Uses.{sets, expr_uses, args_uses, right_uses, head_uses, stmt_uses, block_uses, arms_uses, otherwise_uses}
use Rattle.c_mentions.proofs.Leaves.{hides_variable}
use Rattle.c_mentions.proofs.Uses.{declare_used, set_used, set_element_used, call_used, send_used, if_used, loop_used, break_used, continue_used, return_used, inner_used, block_next, arms_next}
use Rattle.c_mentions.proofs.Walks.{uses_append, notes_none, notes_one, notes_two, notes_three, left_more, names_through, through_one}
use Rattle.c_mentions.proofs.statements.+statement.Goals as goal

pub note_statement-returns-in-Declare : goal.note_statement-returns-in-Declare
note_statement-returns-in-Declare t c =
    let hidden = c.args.hidden in
    let kind = c.in-Declare.kind in
    let text = c.in-Declare.name in
    let v : Variable = record { name = text; unsigned = is_unsigned kind } in
    record {
      noted = λ names hides.
          c.note_first.ensures.noted (with_variable names kind text)
          (hides_variable hidden c.hidden_behind-behind.result names v
          (c.hidden_behind-behind.ensures.comm ∙ ap (λ n. hidden.comm || bytes_eq n (codes "comm")) c.as_str.ensures)
          (c.hidden_behind-behind.ensures.shared ∙ ap (λ n. hidden.shared || bytes_eq n (codes "shared"))
          c.as_str.ensures) hides)
          ∙ ap (with_uses c.args.m.now) (sym (declare_used names c.args.s.now kind text c.in-Declare.right
          c.in-Declare.is));
    }

pub note_statement-returns-in-Set : goal.note_statement-returns-in-Set
note_statement-returns-in-Set t c =
    notes_two c.args.hidden c.args.m.now c.note_set.new.m c.note_right.new.m _ _
    (λ names. stmt_uses names (plain_stmt c.args.s.now))
    (λ names. set_used names c.args.s.now c.in-Set.name c.in-Set.right c.in-Set.is
    ∙ ap (λ text. sets (named names text) ∷ right_uses names (plain_right c.in-Set.right))
    (sym c.as_str-in-Set.ensures))
    c.note_set.ensures c.note_right.ensures

pub note_statement-returns-in-SetElement : goal.note_statement-returns-in-SetElement
note_statement-returns-in-SetElement t c =
    notes_three c.args.hidden c.args.m.now c.note_set-in-SetElement.new.m c.note_expression.new.m
    c.note_right-in-SetElement.new.m _ _ _
    (λ names. stmt_uses names (plain_stmt c.args.s.now))
    (λ names. set_element_used names c.args.s.now c.in-SetElement.name c.in-SetElement.index c.in-SetElement.right
    c.in-SetElement.is
    ∙ ap (λ text. sets (named names text) ∷ (expr_uses names (plain_expr c.in-SetElement.index)
    ++ right_uses names (plain_right c.in-SetElement.right)))
    (sym c.as_str-in-SetElement.ensures))
    c.note_set-in-SetElement.ensures c.note_expression.ensures c.note_right-in-SetElement.ensures

pub note_statement-returns-in-Call : goal.note_statement-returns-in-Call
note_statement-returns-in-Call t c =
    notes_one c.args.hidden c.args.m.now c.note_arguments.new.m _ (λ names. stmt_uses names (plain_stmt c.args.s.now))
    (λ names. call_used names c.args.s.now c.in-Call.name c.in-Call.args c.in-Call.is
    ∙ ap (λ es. args_uses names (map plain_expr es)) (sym c.as_slice.ensures))
    c.note_arguments.ensures

pub note_statement-returns-in-Send : goal.note_statement-returns-in-Send
note_statement-returns-in-Send t c =
    notes_one c.args.hidden c.args.m.now c.note_sending.new.m _ (λ names. stmt_uses names (plain_stmt c.args.s.now))
    (λ names. send_used names c.args.s.now c.in-Send.core c.in-Send.core_unsigned c.in-Send.source c.in-Send.target
    c.in-Send.count c.in-Send.is)
    c.note_sending.ensures

pub note_statement-returns-in-None : goal.note_statement-returns-in-None
note_statement-returns-in-None t c =
    notes_two c.args.hidden c.args.m.now c.note_arms.new.m c.note_arms.new.m _ (λ names. [])
    (λ names. stmt_uses names (plain_stmt c.args.s.now))
    (λ names. if_used names c.args.s.now c.in-If.arms c.in-If.otherwise c.in-If.is
    ∙ ap₂ (λ xs o. arms_uses names (arms_of xs) ++ otherwise_uses names (otherwise_of o))
    (sym c.as_slice-in-If.ensures) c.in-None.is)
    c.note_arms.ensures (notes_none c.args.hidden c.note_arms.new.m (λ names. []) (λ names. refl))

pub note_statement-returns-in-Some : goal.note_statement-returns-in-Some
note_statement-returns-in-Some t c =
    notes_two c.args.hidden c.args.m.now c.note_arms.new.m c.note_block.new.m _ _
    (λ names. stmt_uses names (plain_stmt c.args.s.now))
    (λ names. if_used names c.args.s.now c.in-If.arms c.in-If.otherwise c.in-If.is
    ∙ ap₂ (λ xs o. arms_uses names (arms_of xs) ++ otherwise_uses names (otherwise_of o))
    (sym c.as_slice-in-If.ensures) c.in-Some.is
    ∙ ap (λ ss. arms_uses names (arms_of c.as_slice-in-If.result.now) ++ block_uses names (block_of ss))
    (sym c.as_slice-in-Some.ensures))
    c.note_arms.ensures c.note_block.ensures

pub note_statement-returns-in-Loop : goal.note_statement-returns-in-Loop
note_statement-returns-in-Loop t c =
    notes_two c.args.hidden c.args.m.now c.note_head.new.m c.note_block-in-Loop.new.m _ _
    (λ names. stmt_uses names (plain_stmt c.args.s.now))
    (λ names. loop_used names c.args.s.now c.in-Loop.bound c.in-Loop.head c.in-Loop.body c.in-Loop.is
    ∙ ap (λ ss. head_uses names (plain_head c.in-Loop.head) ++ block_uses names (block_of ss))
    (sym c.as_slice-in-Loop.ensures))
    c.note_head.ensures c.note_block-in-Loop.ensures

pub note_statement-returns-in-Break : goal.note_statement-returns-in-Break
note_statement-returns-in-Break t c =
    notes_none c.args.hidden c.args.m.now (λ names. stmt_uses names (plain_stmt c.args.s.now))
    (λ names. break_used names c.args.s.now c.in-Break.is)

pub note_statement-returns-in-Continue : goal.note_statement-returns-in-Continue
note_statement-returns-in-Continue t c =
    notes_none c.args.hidden c.args.m.now (λ names. stmt_uses names (plain_stmt c.args.s.now))
    (λ names. continue_used names c.args.s.now c.in-Continue.is)

pub note_statement-returns-in-Return : goal.note_statement-returns-in-Return
note_statement-returns-in-Return t c =
    notes_one c.args.hidden c.args.m.now c.note_returned.new.m _ (λ names. stmt_uses names (plain_stmt c.args.s.now))
    (λ names. return_used names c.args.s.now c.in-Return.value c.in-Return.is) c.note_returned.ensures

pub note_statement-returns-in-Inner : goal.note_statement-returns-in-Inner
note_statement-returns-in-Inner t c =
    notes_one c.args.hidden c.args.m.now c.note_block-in-Inner.new.m _
    (λ names. stmt_uses names (plain_stmt c.args.s.now))
    (λ names. inner_used names c.args.s.now c.in-Inner.body c.in-Inner.is ∙ ap (λ ss. block_uses names (block_of ss))
    (sym c.as_slice-in-Inner.ensures))
    c.note_block-in-Inner.ensures

pub note_block-loop-s-preserved : goal.note_block-loop-s-preserved
note_block-loop-s-preserved t c =
    let body = c.args.body.now in
    let i = c.loop-s.s-index in
    let s = c.s-item.result in
    let rest = block_of (drop (i + 1) body) in
    let taken = take_more body i s (omega arith) ∙ ap (λ q. take i body ++ q ∷ []) (sym c.s-item.is) in
    record {
      hides = λ names hides.
          subst (Hides c.hidden_after-behind.result)
          (sym (ap (names_through names) taken ∙ through_one names (take i body) s))
          (c.hidden_after-behind.ensures (names_through names (take i body)) (c.loop-s.invariant.hides names hides));
      left = record {
        left = λ names hides.
            let now = names_through names (take i body) in
            let behind = names_after now (plain_stmt s) in
            ap (λ n. with_uses c.note_statement.new.m (block_uses n rest)) (ap (names_through names) taken
            ∙ through_one names (take i body) s)
            ∙ ap (λ m. with_uses m (block_uses behind rest)) (c.note_statement.ensures.noted now
            (c.loop-s.invariant.hides names hides))
            ∙ sym (uses_append c.loop-s.m (stmt_uses now (plain_stmt s)) (block_uses behind rest))
            ∙ ap (with_uses c.loop-s.m) (sym (block_next now body i s (omega arith) c.s-item.is))
            ∙ c.loop-s.invariant.left.left names hides;
      };
    }

pub note_arms-loop-arm-preserved : goal.note_arms-loop-arm-preserved
note_arms-loop-arm-preserved t c =
    let hidden = c.args.hidden in
    let arms = c.args.arms.now in
    let i = c.loop-arm.arm-index in
    let a = c.arm-item.result in
    left_more hidden c.note_expression.new.m c.note_block.new.m c.args.m.now
    (λ names. block_uses names (block_of c.as_slice.result.now))
    (λ names. arms_uses names (arms_of (drop (i + 1) arms)))
    (λ names. block_uses names (block_of c.as_slice.result.now) ++ arms_uses names (arms_of (drop (i + 1) arms)))
    (λ names. arms_uses names (arms_of arms)) (λ names. refl) c.note_block.ensures
    (left_more hidden c.loop-arm.m c.note_expression.new.m c.args.m.now
    (λ names. expr_uses names (plain_expr a.condition))
    (λ names. block_uses names (block_of c.as_slice.result.now) ++ arms_uses names (arms_of (drop (i + 1) arms)))
    (λ names. arms_uses names (arms_of (drop i arms))) (λ names. arms_uses names (arms_of arms))
    (λ names. arms_next names arms i a (omega arith) c.arm-item.is
    ∙ ap (λ ss. expr_uses names (plain_expr a.condition) ++ (block_uses names (block_of ss)
    ++ arms_uses names (arms_of (drop (i + 1) arms)))) (sym c.as_slice.ensures))
    c.note_expression.ensures c.loop-arm.invariant)

pub note_block-loop-s-init : goal.note_block-loop-s-init
note_block-loop-s-init t c = record { hides = λ names hides. hides; left = record { left = λ names hides. refl } }

pub note_block-returns : goal.note_block-returns
note_block-returns t c =
    let body = c.args.body.now in
    let i = c.loop-s.s-index in
    record {
      noted = λ names hides.
          sym (ap (λ ss. with_uses c.loop-s.m (block_uses (names_through names (take i body)) (block_of ss)))
          (drop_all i body c.loop-s-test.false))
          ∙ c.loop-s.invariant.left.left names hides;
    }

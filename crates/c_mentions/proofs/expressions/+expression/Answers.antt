use Rattle.std.proofs.Common.{[], ◌∷◌, ◌++◌, ◌+◌, drop, ap, ap₂, sym, ◌∙◌, arith}
use Rattle.c_tree.specs.Plain.{plain_expr}
use Rattle.c_tree.specs.Plains.{steps_of}
use Rattle.c_meaning.specs.Values.{named}
use Rattle.c_mentions.specs.Uses.{reads, expr_uses, steps_uses}
use Rattle.c_mentions.proofs.Uses.{chain_used, unary_used, number_used, name_used, element_used, paren_used, steps_next}
use Rattle.c_mentions.proofs.Walks.{notes_none, notes_one, notes_two, left_more}
use Rattle.c_mentions.proofs.expressions.+expression.Goals as goal

pub note_expression-returns-in-Chain : goal.note_expression-returns-in-Chain
note_expression-returns-in-Chain t c =
    notes_two c.args.hidden c.args.m.now c.note_expression.new.m c.note_steps.new.m _ _
    (λ names. expr_uses names (plain_expr c.args.e.now))
    (λ names. chain_used names c.args.e.now c.in-Chain.level c.in-Chain.first c.in-Chain.rest c.in-Chain.is
    ∙ ap₂ (λ x ss. expr_uses names (plain_expr x) ++ steps_uses names (steps_of ss)) (sym c.deref.ensures)
    (sym c.as_slice.ensures))
    c.note_expression.ensures c.note_steps.ensures

pub note_expression-returns-in-Unary : goal.note_expression-returns-in-Unary
note_expression-returns-in-Unary t c =
    notes_one c.args.hidden c.args.m.now c.note_expression-in-Unary.new.m _
    (λ names. expr_uses names (plain_expr c.args.e.now))
    (λ names. unary_used names c.args.e.now c.in-Unary.ops c.in-Unary.of c.in-Unary.is
    ∙ ap (λ x. expr_uses names (plain_expr x)) (sym c.deref-in-Unary.ensures))
    c.note_expression-in-Unary.ensures

pub note_expression-returns-in-Number : goal.note_expression-returns-in-Number
note_expression-returns-in-Number t c =
    notes_none c.args.hidden c.args.m.now (λ names. expr_uses names (plain_expr c.args.e.now))
    (λ names. number_used names c.args.e.now c.in-Number.value c.in-Number.unsigned c.in-Number.is)

pub note_expression-returns-in-Name : goal.note_expression-returns-in-Name
note_expression-returns-in-Name t c =
    notes_one c.args.hidden c.args.m.now c.note_read.new.m _ (λ names. expr_uses names (plain_expr c.args.e.now))
    (λ names. name_used names c.args.e.now c.in-Name.name c.in-Name.is ∙ ap (λ text. reads (named names text) ∷ [])
    (sym c.as_str.ensures))
    c.note_read.ensures

pub note_expression-returns-in-Element : goal.note_expression-returns-in-Element
note_expression-returns-in-Element t c =
    notes_two c.args.hidden c.args.m.now c.note_read-in-Element.new.m c.note_expression-in-Element.new.m _ _
    (λ names. expr_uses names (plain_expr c.args.e.now))
    (λ names. element_used names c.args.e.now c.in-Element.name c.in-Element.index c.in-Element.is
    ∙ ap₂ (λ text x. reads (named names text) ∷ expr_uses names (plain_expr x)) (sym c.as_str-in-Element.ensures)
    (sym c.deref-in-Element.ensures))
    c.note_read-in-Element.ensures c.note_expression-in-Element.ensures

pub note_expression-returns-in-Paren : goal.note_expression-returns-in-Paren
note_expression-returns-in-Paren t c =
    notes_one c.args.hidden c.args.m.now c.note_expression-in-Paren.new.m _
    (λ names. expr_uses names (plain_expr c.args.e.now))
    (λ names. paren_used names c.args.e.now c.in-Paren.inner c.in-Paren.is ∙ ap (λ x. expr_uses names (plain_expr x))
    (sym c.deref-in-Paren.ensures))
    c.note_expression-in-Paren.ensures

pub note_steps-loop-step-preserved : goal.note_steps-loop-step-preserved
note_steps-loop-step-preserved t c =
    left_more c.args.hidden c.loop-step.m c.note_expression.new.m c.args.m.now _
    (λ names. steps_uses names (steps_of (drop (c.loop-step.step-index + 1) c.args.steps.now)))
    (λ names. steps_uses names (steps_of (drop c.loop-step.step-index c.args.steps.now)))
    (λ names. steps_uses names (steps_of c.args.steps.now))
    (λ names. steps_next names c.args.steps.now c.loop-step.step-index c.step-item.result (omega arith) c.step-item.is)
    c.note_expression.ensures c.loop-step.invariant

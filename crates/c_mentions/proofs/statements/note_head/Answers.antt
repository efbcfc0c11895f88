use Rattle.std.proofs.Common.{◌∷◌, ◌++◌, refl, ap, ap₂, sym, ◌∙◌}
use Rattle.c_tree.specs.Plain.{plain_expr, plain_head}
use Rattle.c_meaning.specs.Values.{named}
use Rattle.c_mentions.specs.Uses.{sets, expr_uses, head_uses}
use Rattle.c_mentions.proofs.Walks.{notes_three}
use Rattle.c_mentions.proofs.statements.note_head.Goals as goal

pub returns-in-For : goal.returns-in-For
returns-in-For c =
    notes_three c.args.hidden c.args.m.now c.note_set.new.m c.note_expression-in-For.new.m
    c.note_expression-in-For-3.new.m _ _
    (λ names. expr_uses names (plain_expr c.in-For.condition) ++ sets (named names c.as_str-in-For.result.now)
    ∷ expr_uses names (plain_expr c.in-For.to))
    (λ names. head_uses names (plain_head c.args.head.now))
    (λ names. ap (λ h. head_uses names (plain_head h)) c.in-For.is
    ∙ ap₂ (λ f s. sets (named names f) ∷ (expr_uses names (plain_expr c.in-For.from)
    ++ (expr_uses names (plain_expr c.in-For.condition)
    ++ sets (named names s) ∷ expr_uses names (plain_expr c.in-For.to)))) (sym c.as_str.ensures)
    (sym c.as_str-in-For.ensures))
    c.note_set.ensures c.note_expression-in-For.ensures
    (notes_three c.args.hidden c.note_expression-in-For.new.m c.note_expression-in-For-2.new.m c.note_set-in-For.new.m
    c.note_expression-in-For-3.new.m _ _ _
    (λ names. expr_uses names (plain_expr c.in-For.condition) ++ sets (named names c.as_str-in-For.result.now)
    ∷ expr_uses names (plain_expr c.in-For.to))
    (λ names. refl) c.note_expression-in-For-2.ensures c.note_set-in-For.ensures c.note_expression-in-For-3.ensures)

use Rattle.std.proofs.Common.{[], ◌∷◌, ◌++◌, refl}
use Rattle.c_tree.specs.Plain.{plain_expr}
use Rattle.c_mentions.specs.Noted.{Notes}
use Rattle.c_mentions.specs.Uses.{sends, expr_uses}
use Rattle.c_mentions.proofs.Walks.{notes_two, notes_three}
use Rattle.c_mentions.proofs.statements.note_sending.Goals as goal

pub returns : goal.returns
returns c =
    let first : Notes c.args.hidden c.args.m.now c.note_send.new.m (λ names. sends c.args.core ∷ []) =
    record { noted = λ names hides. c.note_send.ensures } in
    notes_two c.args.hidden c.args.m.now c.note_send.new.m c.note_expression-3.new.m (λ names. sends c.args.core ∷ [])
    (λ names. expr_uses names (plain_expr c.args.source.now) ++ (expr_uses names (plain_expr c.args.target.now)
    ++ expr_uses names (plain_expr c.args.count.now)))
    (λ names. sends c.args.core
    ∷ (expr_uses names (plain_expr c.args.source.now) ++ (expr_uses names (plain_expr c.args.target.now)
    ++ expr_uses names (plain_expr c.args.count.now))))
    (λ names. refl) first
    (notes_three c.args.hidden c.note_send.new.m c.note_expression.new.m c.note_expression-2.new.m
    c.note_expression-3.new.m _ _ _
    (λ names. expr_uses names (plain_expr c.args.source.now) ++ (expr_uses names (plain_expr c.args.target.now)
    ++ expr_uses names (plain_expr c.args.count.now)))
    (λ names. refl) c.note_expression.ensures c.note_expression-2.ensures c.note_expression-3.ensures)

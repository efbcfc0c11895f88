use Rattle.std.proofs.Common.{◌∙◌, sym}
use Rattle.std.specs.Prelude.{Ok}
use Rattle.c_lex.specs.Texts.{name_at, pragma_at, comment_or_sign_at}
use Rattle.c_lex.specs.Numbers.{number_at}
use Rattle.c_lex.proofs.Sizes.{ok_within, name_within, number_at_within, pragma_within, comment_or_sign_within}
use Rattle.c_lex.proofs.texts.piece_after.Goals as goal

pub returns-then-passes-2-clause-within : goal.returns-then-passes-2-clause-within
returns-then-passes-2-clause-within c =
    ok_within c.name_at.result (name_at c.args.bytes.now) _ c.name_at.ensures
    (name_within c.args.bytes.now c.requires.some (sym c.passes-else-passes.ensures ∙ c.if-passes-2.true))

pub returns-then-passes-3-clause-within : goal.returns-then-passes-3-clause-within
returns-then-passes-3-clause-within c =
    ok_within (Ok c.number_at.result) (number_at c.args.bytes.now) _ c.number_at.ensures
    (number_at_within c.args.bytes.now c.requires.some (sym c.passes-else-passes-2.ensures ∙ c.if-passes-3.true))

pub returns-then-first-eq35-clause-within : goal.returns-then-first-eq35-clause-within
returns-then-first-eq35-clause-within c =
    ok_within (Ok c.pragma_at.result) (pragma_at c.args.before.now c.args.bytes.now) _ c.pragma_at.ensures
    (pragma_within c.args.before.now c.args.bytes.now)

pub returns-else-first-eq35-clause-within : goal.returns-else-first-eq35-clause-within
returns-else-first-eq35-clause-within c =
    ok_within (Ok c.comment_or_sign_at.result) (comment_or_sign_at c.args.bytes.now) _ c.comment_or_sign_at.ensures
    (comment_or_sign_within c.args.bytes.now c.requires.some (sym c.passes.ensures ∙ c.if-passes.false))

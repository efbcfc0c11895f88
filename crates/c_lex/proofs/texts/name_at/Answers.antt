use Rattle.std.proofs.Common.{◌≡◌, ◌∙◌, take, ap, subst, sym}
use Rattle.std.specs.Str.{IsUtf8}
use Rattle.c_lex.specs.declared.classes.Class.TheVariants.{Name}
use Rattle.c_lex.specs.Bytes.{run}
use Rattle.c_lex.proofs.Ascii.{name_is_text}
use Rattle.c_lex.proofs.texts.name_at.Goals as goal

pub unreachable-requires : goal.unreachable-requires
unreachable-requires c =
    let name : c.split_at.result.0.now ≡ take (run Name c.args.bytes.now) c.args.bytes.now =
    c.split_at.ensures.front ∙ ap (λ n. take n c.args.bytes.now) c.run-count.ensures.is in
    c.in_default.ensures.cases.0 (subst IsUtf8 (sym name) (name_is_text c.args.bytes.now))

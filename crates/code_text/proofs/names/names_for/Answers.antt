use Rattle.std.proofs.Common.{◌∙◌, sym, ap, arith}
use Rattle.code_text.specs.Names.{are_names}
use Rattle.code_text.proofs.Named.{source_has}
use Rattle.code_text.proofs.names.names_for.Goals as goal

pub returns-then-are_names-clause-has : goal.returns-then-are_names-clause-has
returns-then-are_names-clause-has c =
    source_has c.args.names.items c.args.count (omega (arith, c.len.ensures, c.if-len-count.true))
    (ap are_names (sym c.as_slice.ensures.value) ∙ sym c.if-are_names.ensures)

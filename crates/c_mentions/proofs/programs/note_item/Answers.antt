use Rattle.std.proofs.Common.{List, ap, ap₂, sym, ◌∙◌}
use Rattle.c_tree.specs.declared.units.Parameter.{Parameter}
use Rattle.c_tree.specs.Plain.{plain_item}
use Rattle.c_tree.specs.Plains.{block_of}
use Rattle.c_meaning.specs.Meaning.{parameter_variables}
use Rattle.c_meaning.specs.Values.{Names}
use Rattle.c_mentions.specs.Noted.{with_uses}
use Rattle.c_mentions.specs.Uses.{item_uses, block_uses}
use Rattle.c_mentions.proofs.Uses.{body_is_block}
use Rattle.c_mentions.proofs.programs.note_item.Goals as goal

pub returns-in-Function : goal.returns-in-Function
returns-in-Function c = λ slots hides.
    let f = c.in-Function.function in
    let m = c.args.m.now in
    let names : List Parameter → Names = λ ps. record { slots = slots; variables = parameter_variables ps } in
    c.note_block.ensures.noted (names c.as_slice.result.now) (c.hidden_within-behind.ensures slots hides)
    ∙ ap₂ (λ ps ss. with_uses m (block_uses (names ps) (block_of ss))) c.as_slice.ensures c.as_slice-in-Function.ensures
    ∙ ap (with_uses m) (sym (body_is_block (names f.parameters) f.body))
    ∙ ap (λ i. with_uses m (item_uses slots (plain_item i))) (sym c.in-Function.is)

use Rattle.std.proofs.Common.{◌||◌, map, ap, sym, ◌∙◌}
use Rattle.std.specs.Prelude.{codes}
use Rattle.std.proofs.lemmas.List.{drop_all}
use Rattle.c_tree.specs.Plain.{plain_item, plain}
use Rattle.c_mentions.specs.Hidden.{any_declares}
use Rattle.c_mentions.proofs.Fields.{or_none}
use Rattle.c_mentions.proofs.Outside.{hides_outside}
use Rattle.c_mentions.proofs.programs.hidden_outside.Goals as goal

pub returns : goal.returns
returns c =
    let hidden = c.loop-item.hidden in
    let none = drop_all c.loop-item.item-index c.as_slice-item-items.result.now c.loop-item-test.false in
    hides_outside hidden (plain c.args.unit.now)
    (or_none hidden.comm ∙ ap (λ ts. hidden.comm || any_declares (codes "comm") (map plain_item ts)) (sym none)
    ∙ c.loop-item.invariant.comm)
    (or_none hidden.shared ∙ ap (λ ts. hidden.shared || any_declares (codes "shared") (map plain_item ts)) (sym none)
    ∙ c.loop-item.invariant.shared)

use Rattle.std.proofs.Common.{◌+◌, drop, map, ap, sym, ◌∙◌, arith}
use Rattle.tc_word.proofs.Items.{drop_item}
use Rattle.c_tree.specs.Plain.{plain_item}
use Rattle.c_mentions.specs.Noted.{with_uses}
use Rattle.c_mentions.specs.Uses.{item_uses, items_uses}
use Rattle.c_mentions.proofs.Walks.{uses_append}
use Rattle.c_mentions.proofs.programs.noted.Goals as goal

pub loop-item-preserved : goal.loop-item-preserved
loop-item-preserved c =
    let items = c.as_slice-item-items.result.now in
    let i = c.loop-item.item-index in
    let t = c.item-item.result in
    let m = c.loop-item.m in
    let rest = map plain_item (drop (i + 1) items) in
    record {
      noted = λ slots hides.
          ap (λ n. with_uses n (items_uses slots rest)) (c.note_item.ensures slots hides)
          ∙ sym (uses_append m (item_uses slots (plain_item t)) (items_uses slots rest))
          ∙ ap (λ ts. with_uses m (items_uses slots (map plain_item ts))) (sym
          (drop_item items i t (omega arith) c.item-item.is))
          ∙ c.loop-item.invariant.noted slots hides;
      items = c.loop-item.invariant.items;
    }

use Rattle.std.proofs.Common.{◌≡◌, List, [], drop, map}
use Rattle.c_tree.specs.declared.layout.Slot.{Slot}
use Rattle.c_tree.specs.Plain.{plain_item, plain}
use Rattle.c_mentions.specs.Hidden.{Hides}
use Rattle.c_mentions.specs.Noted.{with_uses, none_noted}
use Rattle.c_mentions.specs.Uses.{items_uses}
use Rattle.c_mentions.proofs.programs.noted.Given as goal

abbrev pub invariant-loop-item : goal.invariant-loop-item
invariant-loop-item l = record {
  noted : (slots : List Slot) → Hides l.hidden (record { slots = slots; variables = [] })
      → with_uses l.m (items_uses slots (map plain_item (drop l.item-index l.item-items)))
      ≡ with_uses none_noted (items_uses slots (plain l.unit));
  items : l.item-items ≡ l.unit.items;
}

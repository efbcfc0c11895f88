use Rattle.std.proofs.Common.{◌≡◌, ◌||◌, drop, map}
use Rattle.std.specs.Prelude.{codes}
use Rattle.c_tree.specs.Plain.{plain_item, plain}
use Rattle.c_mentions.specs.Hidden.{any_declares}
use Rattle.c_mentions.proofs.programs.hidden_outside.Given as goal

abbrev pub invariant-loop-item : goal.invariant-loop-item
invariant-loop-item l = record {
  comm : (l.hidden.comm || any_declares (codes "comm") (map plain_item (drop l.item-index l.item-items)))
      ≡ any_declares (codes "comm") (plain l.unit);
  shared : (l.hidden.shared || any_declares (codes "shared") (map plain_item (drop l.item-index l.item-items)))
      ≡ any_declares (codes "shared") (plain l.unit);
  items : l.item-items ≡ l.unit.items;
}

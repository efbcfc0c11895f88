-- One declaration of a program after another.
use Rattle.std.proofs.Common.{◌≡◌, ℕ, ◌+◌, ◌<◌, List, ◌∷◌, length, map, drop, get_or, ap}
use Rattle.tc_word.proofs.Items.{drop_item}
use Rattle.c_tree.specs.declared.units.Item.{Item}
use Rattle.c_tree.specs.Plain.{plain_item}
use Rattle.c_run.specs.Reported.{output_from}

pub output_next : (number : ℕ) (items : List Item) (i : ℕ) (x : Item) → i < length items → x ≡ get_or items i x
    → output_from number (map plain_item (drop i items))
    ≡ output_from number (plain_item x ∷ map plain_item (drop (i + 1) items))
output_next number items i x below is = ap (λ xs. output_from number (map plain_item xs)) (drop_item items i x below is)

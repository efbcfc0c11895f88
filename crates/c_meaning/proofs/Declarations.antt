-- One declaration of a program after another.
use Rattle.std.proofs.Common.{◌≡◌, ℕ, ◌+◌, ◌<◌, false, List, ◌++◌, length, map, take, drop, get_or, ap, sym, ◌∙◌, arith}
use Rattle.std.specs.Prelude.{if◌then◌else◌}
use Rattle.std.proofs.lemmas.List.{take-append-drop, take-append-le, length-take}
use Rattle.std.proofs.Math.Seq.{take-append_seam}
use Rattle.tc_word.proofs.Items.{drop_item}
use Rattle.c_tree.specs.declared.units.Item.{Item}
use Rattle.c_tree.specs.Layout.{item_initial, initial_from, takes_input, input_from}
use Rattle.c_tree.specs.Plain.{plain_item}
use Rattle.c_tree.specs.Valid.{item_words}

pub initial_next : (items : List Item) (i : ℕ) (x : Item) → i < length items → x ≡ get_or items i x
    → initial_from (map plain_item (drop i items)) ≡ item_initial (plain_item x)
    ++ initial_from (map plain_item (drop (i + 1) items))
initial_next items i x below is = ap (λ xs. initial_from (map plain_item xs)) (drop_item items i x below is)

-- words that begin with others still do so where more words stand after them
pub kept_first : (first more : List ℕ) → take (length first) (first ++ more) ≡ first
kept_first first more = take-append_seam first more

pub kept_through : (first words all : List ℕ) → take (length first) words ≡ first → take (length words) all ≡ words
    → take (length first) all ≡ first
kept_through first words all kept behind =
    ap (take (length first)) (sym (take-append-drop (length words) all)
    ∙ ap (λ ws. ws ++ drop (length words) all) behind)
    ∙ take-append-le (length first) words (drop (length words) all) (omega (
      arith,
      length-take (length first) words,
      ap length kept,
    )) ∙ kept

pub input_next : (private : ℕ) (items : List Item) (i : ℕ) (x : Item) → i < length items → x ≡ get_or items i x
    → input_from private (map plain_item (drop i items))
    ≡ (if takes_input (plain_item x) then record { at = private; room = item_words false (plain_item x) }
    else input_from (private + item_words false (plain_item x)) (map plain_item (drop (i + 1) items)))
input_next private items i x below is = ap (λ xs. input_from private (map plain_item xs)) (drop_item items i x below is)

-- The functions of items, resolved, by the items.
use Rattle.std.proofs.Common.{◌≡◌, ℕ, ◌+◌, ◌<◌, List, [], ◌∷◌, ◌++◌, length, get_or, drop, map, refl, ap, sym, ◌∙◌, append-nil}
use Rattle.tc_word.proofs.Items.{drop_item}
use Rattle.c_tree.specs.declared.layout.Slot.{Slot}
use Rattle.c_tree.specs.declared.units.Item.{Item}
use Rattle.c_tree.specs.Plain.{PlainItem, plain_item}
use Rattle.c_tree.specs.Plain as tree
use Rattle.c_meaning.specs.Resolve.{resolved_items, names_in, parameters_in}

-- one item, and then the others
pub first_item : (slots : List Slot) (fs : List (List ℕ)) (i : PlainItem) (items : List PlainItem)
    → resolved_items slots fs (i ∷ items) ≡ resolved_items slots fs (i ∷ [])
    ++ resolved_items slots (fs ++ names_in (i ∷ [])) items
first_item slots fs (tree.global of) items = ap (λ f. resolved_items slots f items) (sym (append-nil fs))
first_item slots fs (tree.function kind its_name void_word parameters body) items = refl

pub first_name : (i : PlainItem) (items : List PlainItem) → names_in (i ∷ items) ≡ names_in (i ∷ []) ++ names_in items
first_name (tree.global of) items = refl
first_name (tree.function kind its_name void_word parameters body) items = refl

pub items_next : (slots : List Slot) (fs : List (List ℕ)) (items : List Item) (i : ℕ) (t : Item) → i < length items → t
    ≡ get_or items i t
    → resolved_items slots fs (map plain_item (drop i items))
    ≡ resolved_items slots fs (plain_item t ∷ []) ++ resolved_items slots (fs ++ names_in (plain_item t ∷ []))
    (map plain_item (drop (i + 1) items))
items_next slots fs items i t within is =
    ap (λ ts. resolved_items slots fs (map plain_item ts)) (drop_item items i t within is)
    ∙ first_item slots fs (plain_item t) (map plain_item (drop (i + 1) items))

pub names_next : (items : List Item) (i : ℕ) (t : Item) → i < length items → t ≡ get_or items i t
    → names_in (map plain_item (drop i items)) ≡ names_in (plain_item t ∷ [])
    ++ names_in (map plain_item (drop (i + 1) items))
names_next items i t within is =
    ap (λ ts. names_in (map plain_item ts)) (drop_item items i t within is) ∙ first_name (plain_item t) (map plain_item
    (drop (i + 1) items))

first_count : (i : PlainItem) (items : List PlainItem) → parameters_in (i ∷ items) ≡ parameters_in (i ∷ [])
    ++ parameters_in items
first_count (tree.global of) items = refl
first_count (tree.function kind its_name void_word parameters body) items = refl

pub counts_next : (items : List Item) (i : ℕ) (t : Item) → i < length items → t ≡ get_or items i t
    → parameters_in (map plain_item (drop i items)) ≡ parameters_in (plain_item t ∷ [])
    ++ parameters_in (map plain_item (drop (i + 1) items))
counts_next items i t within is =
    ap (λ ts. parameters_in (map plain_item ts)) (drop_item items i t within is)
    ∙ first_count (plain_item t) (map plain_item (drop (i + 1) items))

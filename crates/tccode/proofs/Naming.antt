-- The names of a program's functions, one more after the others.
use Rattle.std.proofs.Common.{◌≡◌, ◌∙◌, ℕ, ◌+◌, ◌<◌, List, [], ◌∷◌, ◌++◌, length, get_or, drop, map, refl, sym, ap, append_assoc}
use Rattle.c_meaning.specs.Resolve.{names_in}
use Rattle.c_tree.specs.Plain.{PlainItem, global, function, plain_item}
use Rattle.c_tree.specs.declared.units.Item.{Item}
use Rattle.tc_word.proofs.Items.{drop_item}

first_name : (i : PlainItem) (items : List PlainItem) → names_in (i ∷ items) ≡ names_in (i ∷ []) ++ names_in items
first_name (global of) items = refl
first_name (function kind its_name void_word parameters body) items = refl

pub next_name : (old new : List (List ℕ)) (items : List Item) (k : ℕ) (i : Item) → k < length items → i
    ≡ get_or items k i → new ≡ old ++ names_in (plain_item i ∷ [])
    → new ++ names_in (map plain_item (drop (k + 1) items)) ≡ old ++ names_in (map plain_item (drop k items))
next_name old new items k i within is added =
    let more = names_in (map plain_item (drop (k + 1) items)) in
    ap (λ ns. ns ++ more) added ∙ append_assoc old (names_in (plain_item i ∷ [])) more
    ∙ ap (λ ns. old ++ ns) (sym (first_name (plain_item i) (map plain_item (drop (k + 1) items))))
    ∙ ap (λ xs. old ++ names_in (map plain_item xs)) (sym (drop_item items k i within is))

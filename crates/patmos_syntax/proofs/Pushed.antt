-- Statements that are pushed one by one.
use Rattle.std.proofs.Common.{◌≡◌, refl, ℕ, false, List, [], ◌∷◌, ◌++◌, length, ap, append_assoc, Some, None}
use Rattle.patmos_syntax.specs.declared.items.Item as code
use Rattle.patmos_forms.specs.Readers.{at_end}
use Rattle.patmos_syntax.specs.Items.{Item, label, label_at, statement_of, items_in}
use Rattle.patmos_syntax.specs.Shown.{shown_item, shown_items}
use Rattle.patmos_syntax.proofs.Labels.{label_first, no_label}

shown_items-push : (old : List code.Item) (item : code.Item) → shown_items (old ++ item ∷ []) ≡ shown_items old
    ++ shown_item item ∷ []
shown_items-push [] item = refl
shown_items-push (x ∷ xs) item = ap (λ rest. shown_item x ∷ rest) (shown_items-push xs item)

pub label_pushed : (old new : List code.Item) (item : code.Item) (all : List Item) (line : ℕ)
    (rest name behind : List ℕ) →
    new ≡ old ++ item ∷ [] → shown_item item ≡ label line name → label_at rest ≡ Some (name, behind) →
    shown_items old ++ items_in line (length rest) rest ≡ all → shown_items new ++ items_in line (length behind) behind
    ≡ all
label_pushed old new item all line rest name behind pushed seen e before =
    rw (pushed, shown_items-push old item, seen, append_assoc, ← label_first line rest name behind e) before

pub last_pushed : (old new : List code.Item) (item : code.Item) (all : List Item) (line : ℕ) (rest : List ℕ) →
    new ≡ old ++ item ∷ [] → shown_item item ≡ statement_of line rest → label_at rest ≡ None → at_end rest ≡ false →
    shown_items old ++ items_in line (length rest) rest ≡ all → shown_items new ≡ all
last_pushed old new item all line rest pushed seen e left before =
    let one : items_in line (length rest) rest ≡ statement_of line rest ∷ [] = rw (no_label line rest e, left) refl in
    rw (pushed, shown_items-push old item, seen, ← one) before

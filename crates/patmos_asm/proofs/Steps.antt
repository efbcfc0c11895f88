-- One statement of a list after another.
use Rattle.std.proofs.Common.{arith, ◌≡◌, ℕ, ◌+◌, ◌<◌, ◌≤◌, List, ◌∷◌, length, get_or, drop, refl, ap, add-one, None}
use Rattle.std.proofs.Math.Seq.{drop-cons}
use Rattle.patmos_syntax.specs.declared.items.Item as code
use Rattle.patmos_syntax.specs.Items.{Item, function, label, bundle, faulty}
use Rattle.patmos_syntax.specs.Drafts.{DraftBundle, size_of}
use Rattle.patmos_asm.specs.Assembly.{Lookup, Before, fault_of, labels_after, after, first_fault}
use Rattle.patmos_syntax.specs.Shown.{shown_item, shown_items}

-- the statements from one on are that one and those after it
pub item_first : (items : List code.Item) (item : code.Item) (i : ℕ) → i < length items → item ≡ get_or items i item →
    shown_items (drop i items) ≡ shown_item item ∷ shown_items (drop (i + 1) items)
item_first items item i within is =
    let first : drop i items ≡ item ∷ drop (i + 1) items = rw (add-one, drop-cons items i item, ← is) refl in
    ap shown_items first

-- after a statement without a fault the first fault is that of the rest
pub fault_step : (functions labels labels' : Lookup) (before before' : Before) (items : List code.Item)
    (item : code.Item) (i : ℕ) →
    i < length items → item ≡ get_or items i item → fault_of functions labels before (shown_item item) ≡ None →
    ((q : List ℕ) → labels' q ≡ labels_after labels (shown_item item) (shown_items (drop (i + 1) items)) q) →
    before' ≡ after before (shown_item item) →
    first_fault functions labels' before' (shown_items (drop (i + 1) items))
    ≡ first_fault functions labels before (shown_items (drop i items))
fault_step functions labels labels' before before' items item i within is none same next =
    let known : labels' ≡ labels_after labels (shown_item item) (shown_items (drop (i + 1) items)) = λ k q. same q k in
    rw (item_first items item i within is, none, known, next) refl

size_small : (b : DraftBundle) → size_of b ≤ 2
size_small b = grind arith

grows : (before : Before) (item : Item) → ((after before item).size ≤ before.size + 2)
    × ((after before item).image ≤ before.image + 2)
grows before (bundle _ b) = let s : size_of b ≤ 2 = size_small b in (omega arith, omega arith)
grows before _ = (omega arith, omega arith)

-- a statement adds at most two words
pub grown : (before before' : Before) (item : Item) → before' ≡ after before item → (before'.size ≤ before.size + 2)
    × (before'.image ≤ before.image + 2)
grown before before' item next = rw next (grows before item)

-- The private words that a layout gives to arrays. Where arrays are read and written at these, and variables at
-- others, no private variable stands inside a private array; and the slots of variables and arrays stand so.
use Rattle.std.proofs.Common.{◌≡◌, ℕ, ◌+◌, ◌<◌, ◌≤◌, Bool, true, false, if◌then◌else◌, List, [], ◌∷◌, Option, Some, None, refl, ap, sym, ◌∙◌, arith, true≢false, lt-ltb, le-ltb, ltb-true, leb-true}
use Rattle.std.specs.Prelude.{⊤, not, ◌&&◌, nat_lt, nat_le, is_some}
use Rattle.std.specs.List.{AllByRecursion as Each, list_all}
use Rattle.c_tree.specs.declared.units.Global.{Global}
use Rattle.c_tree.specs.declared.units.Length.{Length}
use Rattle.c_tree.specs.Layout.{slot_of}
use Rattle.c_tree.specs.Plain.{PlainItem, global, function}
use Rattle.c_tree.specs.Valid.{item_words}
use Rattle.sp_tree.specs.declared.expressions.SpArray.{SpArray}
use Rattle.sp_tree.specs.declared.expressions.SpCell.{SpCell}
use Rattle.sp_tree.specs.Uses.{Use, reads_cell, reads_array, writes_cell, writes_array, sends_to, is_private, stands_inside, cell_apart, use_apart}
use Rattle.c_meaning.specs.Resolve.{slot_cell, slot_array}

-- ---- private words of arrays

abbrev pub is_array : PlainItem → Bool
is_array (global of) = is_some of.length
is_array (function kind its_name void_word parameters body) = false

-- whether a private word is one of an array, where the private words of these items begin at another
abbrev pub in_array : ℕ → List PlainItem → ℕ → Bool
in_array private [] word = false
in_array private (i ∷ items) word =
    if nat_lt word (private + item_words false i) then is_array i else in_array
    (private + item_words false i) items word

-- variables stand at other private words than those of arrays, and arrays at these
abbrev pub CellKept : List PlainItem → SpCell → Type 0
CellKept items c = is_private c.region ≡ true → in_array 4 items c.word ≡ false

abbrev pub ArrayKept : List PlainItem → SpArray → Type 0
ArrayKept items a =
    is_private a.region ≡ true → (word : ℕ) → a.first ≤ word → word < a.first + a.length → in_array 4 items word ≡ true

abbrev pub Kept : List PlainItem → Use → Type 0
Kept items (reads_cell c) = CellKept items c
Kept items (reads_array a) = ArrayKept items a
Kept items (writes_cell c) = CellKept items c
Kept items (writes_array a) = ArrayKept items a
Kept items (sends_to core) = ⊤

-- ---- uses that are kept are apart

not_inside : (items : List PlainItem) (c : SpCell) (a : SpArray) → CellKept items c → ArrayKept items a
    → not (stands_inside c a) ≡ true
not_inside items c a cell array =
    by (is_private c.region) (is_private a.region) (nat_le a.first c.word) (nat_lt c.word (a.first + a.length))
    refl refl refl refl
  where
    by : (b d e f : Bool) → is_private c.region ≡ b → is_private a.region ≡ d → nat_le a.first c.word ≡ e
        → nat_lt c.word (a.first + a.length) ≡ f
        → not (b && (d && (e && f))) ≡ true
    by true true true true hb hd he hf =
        absurd (true≢false (sym (array hd c.word (leb-true a.first c.word he) (ltb-true c.word (a.first + a.length) hf))
        ∙ cell hb))
    by true true true false hb hd he hf = refl
    by true true false f hb hd he hf = refl
    by true false e f hb hd he hf = refl
    by false d e f hb hd he hf = refl

cell_kept : (items : List PlainItem) (c : SpCell) → CellKept items c → (us : List Use) → Each (Kept items) us
    → list_all (cell_apart c) us ≡ true
cell_kept items c cell [] kept = refl
cell_kept items c cell (u ∷ us) kept =
    ap (λ b. b && list_all (cell_apart c) us) (one u kept.0) ∙ cell_kept items c cell us kept.1
  where
    one : (u : Use) → Kept items u → cell_apart c u ≡ true
    one (reads_array a) k = not_inside items c a cell k
    one (writes_array a) k = not_inside items c a cell k
    one _ k = refl

pub kept_apart : (items : List PlainItem) (all us : List Use) → Each (Kept items) all → Each (Kept items) us
    → list_all (use_apart all) us ≡ true
kept_apart items all [] kept these = refl
kept_apart items all (u ∷ us) kept these =
    ap (λ b. b && list_all (use_apart all) us) (one u these.0) ∙ kept_apart items all us kept these.1
  where
    one : (u : Use) → Kept items u → use_apart all u ≡ true
    one (reads_cell c) k = cell_kept items c k all kept
    one (writes_cell c) k = cell_kept items c k all kept
    one _ k = refl

-- ---- the slots of variables and arrays

if_below : (word end : ℕ) (x y : Bool) → word < end → (if nat_lt word end then x else y) ≡ x
if_below word end x y below = ap (λ b. if b then x else y) (lt-ltb word end below)

pub if_past : (word end : ℕ) (x y : Bool) → end ≤ word → (if nat_lt word end then x else y) ≡ y
if_past word end x y past = ap (λ b. if b then x else y) (le-ltb word end past)

-- from a first word on, the private words of these items are those of all
abbrev pub SameFrom : List PlainItem → ℕ → List PlainItem → Type 0
SameFrom all private items = (word : ℕ) → private ≤ word → in_array 4 all word ≡ in_array private items word

pub variable_slot : (all items : List PlainItem) (private scratch : ℕ) (g : Global)
    → SameFrom all private (global g ∷ items) → g.length ≡ None
    → CellKept all (slot_cell (slot_of private scratch g))
variable_slot all items private scratch g same none = by g.scratch g.length same none
  where
    by : (b : Bool) (l : Option Length) → SameFrom all private (global (record g { scratch = b; length = l }) ∷ items)
        → l ≡ None
        → CellKept all (slot_cell (slot_of private scratch (record g { scratch = b; length = l })))
    by true l same none inside = absurd (cc)
    by false None same none inside =
        same private (omega arith) ∙ if_below private (private + 1) false (in_array (private + 1) items
        private) (omega arith)
    by false (Some l) same none inside = absurd (cc)

pub array_slot : (all items : List PlainItem) (private scratch : ℕ) (g : Global) (n : Length)
    → SameFrom all private (global g ∷ items)
    → g.length ≡ Some n → ArrayKept all (slot_array (slot_of private scratch g))
array_slot all items private scratch g n same some = by g.scratch g.length same some
  where
    by : (b : Bool) (l : Option Length) → SameFrom all private (global (record g { scratch = b; length = l }) ∷ items)
        → l ≡ Some n
        → ArrayKept all (slot_array (slot_of private scratch (record g { scratch = b; length = l })))
    by true l same some inside word from below = absurd (cc)
    by false None same some inside word from below = absurd (cc)
    by false (Some l) same some inside word from below =
        same word from ∙ if_below word (private + l.value) true (in_array (private + l.value) items word) below

-- In the tree of a valid program no private variable stands inside a private array: a name outside functions is
-- declared once, and so it stands for its own slot and is read and set as what it is declared as.
use Rattle.std.proofs.Common.{◌≡◌, ◌≢◌, ℕ, ◌+◌, Bool, true, false, if◌then◌else◌, List, [], ◌∷◌, ◌++◌, length, Option, Some, None, bytes_eq, refl, ap, sym, ◌∙◌, arith, subst, true≢false}
use Rattle.std.specs.Prelude.{is_some, codes}
use Rattle.std.specs.List.{AllByRecursion as Each}
use Rattle.std.specs.Option.{option_or, option_map}
use Rattle.std.proofs.lemmas.Slice.Eq.{bytes_eq-Decides}
use Rattle.c_tree.specs.declared.checks.Meaning.{Meaning}
use Rattle.c_tree.specs.declared.checks.Meaning.TheVariants as means
use Rattle.c_tree.specs.declared.layout.Slot.{Slot}
use Rattle.c_tree.specs.declared.units.Global.{Global}
use Rattle.c_tree.specs.declared.units.Length.{Length}
use Rattle.c_tree.specs.Layout.{slot_of, given_slots, slots_from, layout_of}
use Rattle.c_tree.specs.Names.{Found, Named, found, declared, given}
use Rattle.c_tree.specs.Plain.{PlainItem, global, function}
use Rattle.c_tree.specs.Valid.{IsValid, means_of, function_means, with_item, item_words}
use Rattle.sp_tree.specs.Uses.{are_apart, uses_of}
use Rattle.c_meaning.specs.Resolve.{resolved_items, parameters_in}
use Rattle.c_meaning.specs.Scope.{outside, among_slots}
use Rattle.single_path.specs.Single.{with_calls}
use Rattle.single_path.proofs.ArrayWords.{is_array, in_array, Kept, kept_apart, if_past, SameFrom, variable_slot, array_slot}
use Rattle.single_path.proofs.Checked.{function_checked}
use Rattle.single_path.proofs.OpenNames.{Keeps, found_same, found_before, still_found, keeps_function}
use Rattle.single_path.proofs.Doing.{AllDo, functions_do}
use Rattle.single_path.proofs.Resolving.{Outside, CellRead, ArrayRead}
use Rattle.c_tree.specs.Typed.{ItemsTyped}
use Rattle.c_tree.proofs.Typing.{typed_of}

-- ---- names outside functions

-- a name that is not known after a declaration is another, and was not known before
not_found : (names : List Named) (name text : List ℕ) (m : Meaning) → found text (declared names name m) ≡ None
    → (bytes_eq name text ≡ false) × (found text names ≡ None)
not_found names name text m new = by (bytes_eq name text) refl
  where
    by : (same : Bool) → bytes_eq name text ≡ same → (bytes_eq name text ≡ false) × (found text names ≡ None)
    by true same = let is : Some m ≡ None = sym (found_same names name text m same) ∙ new in absurd (cc)
    by false other = (other, found_before names name text m None new other)

-- no later item has a name that is known: after the known ones it stands only for what is given
given_last : (cores own : ℕ) (names : List Named) (text : List ℕ) → is_some (found text names) ≡ true
    → (private scratch : ℕ) (items : List PlainItem) → ItemsTyped cores own names items
    → among_slots text (slots_from private scratch items) ≡ among_slots text given_slots
given_last cores own names text known private scratch [] typed = refl
given_last cores own names text known private scratch (global g ∷ items) typed =
    by (bytes_eq g.name text) refl
    (given_last cores own (declared names g.name (means_of g)) text (still_found names g.name text (means_of g) known)
    (private + item_words false (global g)) (scratch + item_words true (global g)) items typed.1)
  where
    later : List PlainItem → List Slot
    later = slots_from (private + item_words false (global g)) (scratch + item_words true (global g))

    by : (same : Bool) → bytes_eq g.name text ≡ same → among_slots text (later items) ≡ among_slots text given_slots
        → (if same then outside (slot_of private scratch g) else among_slots text (later items))
        ≡ among_slots text given_slots
    by true same only =
        absurd (true≢false (sym known ∙ ap (λ t. is_some (found t names)) (sym ((bytes_eq-Decides g.name text).0 same))
        ∙ ap is_some typed.0.new))
    by false other only = only
given_last cores own names text known private scratch (function kind its_name void_word ps body ∷ items) typed =
    let f = function kind its_name void_word ps body in
    given_last cores own (with_item names f) text (still_found names its_name text (function_means false kind ps) known)
    (private + item_words false f) (scratch + item_words true f) items typed.1

-- ---- what is known before some of a program's items

-- the names before these items are kept; a name that is not among them stands for what it does among these items'
-- slots; and the private words of these items are those of all
record Laid (all : List PlainItem) (names : List Named) (private scratch : ℕ) (items : List PlainItem) : Type 0 where
  keeps : Keeps (Kept all) names (record { slots = layout_of all; variables = [] })
  unseen : (text : List ℕ) → found text names ≡ None → among_slots text (layout_of all)
      ≡ among_slots text (slots_from private scratch items)
  same : SameFrom all private items

same_after : (all items : List PlainItem) (private : ℕ) (i : PlainItem) → SameFrom all private (i ∷ items)
    → SameFrom all (private + item_words false i) items
same_after all items private i same word past =
    let end = private + item_words false i in
    same word (omega (arith, past)) ∙ if_past word end (is_array i) (in_array end items word) past

-- ---- after a variable or an array

variable_means : (l : Option Length) → (elim l as (λ _. Meaning) [ None ↦ means.Scalar | Some n ↦ means.Array ])
    ≡ means.Scalar → l ≡ None
variable_means None is = refl
variable_means (Some n) is = absurd (cc)

array_means : (l : Option Length) → (elim l as (λ _. Meaning) [ None ↦ means.Scalar | Some n ↦ means.Array ])
    ≡ means.Array
    → (n : Length) × (l ≡ Some n)
array_means None is = absurd (cc)
array_means (Some n) is = (n, refl)

laid_global : (all : List PlainItem) (names : List Named) (private scratch : ℕ) (g : Global) (items : List PlainItem)
    → found g.name names ≡ None
    → Laid all names private scratch (global g ∷ items)
    → Laid all (declared names g.name (means_of g)) (private + item_words false (global g)) (scratch
    + item_words true (global g)) items
laid_global all names private scratch g items new laid = record {
  keeps = record {
    scalars = λ text is. let kept = scalar text is (bytes_eq g.name text) refl in (kept, kept);
    arrays = λ text is. let kept = array text is (bytes_eq g.name text) refl in (kept, kept);
    sends = laid.keeps.sends;
  };
  unseen = λ text none.
      let before = not_found names g.name text m none in
      laid.unseen text before.1 ∙ ap (λ b. if b then outside (slot_of private scratch g) else among_slots text
      rest) before.0;
  same = same_after all items private (global g) laid.same;
}
  where
    m : Meaning
    m = means_of g

    rest : List Slot
    rest = slots_from (private + item_words false (global g)) (scratch + item_words true (global g)) items

    -- the name stands for its own slot
    own : (text : List ℕ) → bytes_eq g.name text ≡ true → among_slots text (layout_of all)
        ≡ outside (slot_of private scratch g)
    own text same =
        laid.unseen text (ap (λ t. found t names) (sym ((bytes_eq-Decides g.name text).0 same)) ∙ new)
        ∙ ap (λ b. if b then outside (slot_of private scratch g) else among_slots text rest) same

    scalar : (text : List ℕ) → found text (declared names g.name m) ≡ Some means.Scalar → (b : Bool)
        → bytes_eq g.name text ≡ b
        → Outside (CellRead (Kept all)) (among_slots text (layout_of all))
    scalar text is true same =
        let some : Some m ≡ Some means.Scalar = sym (found_same names g.name text m same) ∙ is in
        let none = variable_means g.length (cc) in
        subst (Outside (CellRead (Kept all))) (sym (own text same)) (variable_slot all items private scratch g
        laid.same none)
    scalar text is false other =
        (laid.keeps.scalars text (found_before names g.name text m (Some means.Scalar) is other)).0

    array : (text : List ℕ) → found text (declared names g.name m) ≡ Some means.Array → (b : Bool)
        → bytes_eq g.name text ≡ b
        → Outside (ArrayRead (Kept all)) (among_slots text (layout_of all))
    array text is true same =
        let some : Some m ≡ Some means.Array = sym (found_same names g.name text m same) ∙ is in
        let n = array_means g.length (cc) in
        subst (Outside (ArrayRead (Kept all))) (sym (own text same))
        (array_slot all items private scratch g n.0 laid.same n.1)
    array text is false other =
        (laid.keeps.arrays text (found_before names g.name text m (Some means.Array) is other)).0

-- ---- after a function, which has no slot

laid_function : (all : List PlainItem) (names : List Named) (private scratch : ℕ) (f : PlainItem)
    (items : List PlainItem) (name : List ℕ) (c : ℕ)
    (gives : Bool) → slots_from private scratch (f ∷ items) ≡ slots_from (private + item_words false f) (scratch
    + item_words true f) items
    → Laid all names private scratch (f ∷ items)
    → Laid all (declared names name (means.Function c gives false)) (private + item_words false f) (scratch
    + item_words true f) items
laid_function all names private scratch f items name c gives slots laid = record {
  keeps = keeps_function (Kept all) names (record { slots = layout_of all; variables = [] }) name c gives
      false laid.keeps;
  unseen = λ text none. laid.unseen text (not_found names name text (means.Function c gives false) none).1
      ∙ ap (among_slots text) slots;
  same = same_after all items private f laid.same;
}

-- ---- before all items

among_all : (Q : Slot → Type 0) (text : List ℕ) (slots : List Slot) → Each Q slots → Outside Q (among_slots text slots)
among_all Q text [] all = tt
among_all Q text (s ∷ slots) all = by (bytes_eq s.name text) (among_all Q text slots all.1)
  where
    by : (here : Bool) → Outside Q (among_slots text slots)
        → Outside Q (if here then outside s else among_slots text slots)
    by true later = all.0
    by false later = later

-- the arrays that are given are not private
given_kept : (all : List PlainItem) (text : List ℕ) → Outside (ArrayRead (Kept all)) (among_slots text given_slots)
given_kept all text =
    among_all (ArrayRead (Kept all)) text given_slots (
      (λ private word from below. absurd (cc)),
      ((λ private word from below. absurd (cc)), tt),
    )

laid_first : (items : List PlainItem) (cores own : ℕ) → ItemsTyped cores own given items → Laid items given 4 0 items
laid_first items cores own typed = record {
  keeps = record {
    scalars = λ text is. absurd (no_scalar (bytes_eq (codes "comm") text) (bytes_eq (codes "shared") text) is);
    arrays = λ text is. let kept = array text (ap is_some is) in (kept, kept);
    sends = λ core. tt;
  };
  unseen = λ text new. refl;
  same = λ word from. refl;
}
  where
    array_at : ℕ → List ℕ → Found Named
    array_at at text = record { at = at; is = record { name = text; means = means.Array } }

    no_scalar : (b d : Bool)
        → option_map (λ f. f.is.means) (option_or
        (option_or None (if b then Some (array_at 1 (codes "comm")) else None))
        (if d then Some (array_at 0 (codes "shared")) else None)) ≢ Some means.Scalar
    no_scalar true d is = absurd (cc)
    no_scalar false true is = absurd (cc)
    no_scalar false false is = absurd (cc)

    array : (text : List ℕ) → is_some (found text given) ≡ true → Outside (ArrayRead (Kept items)) (among_slots text
        (layout_of items))
    array text known = subst (Outside (ArrayRead (Kept items)))
        (sym (given_last cores own given text known 4 0 items typed)) (given_kept items text)

-- ---- programs

items_kept : (cores own : ℕ) (all : List PlainItem) (names : List Named) (private scratch : ℕ) (fs : List (List ℕ))
    (items : List PlainItem) → Laid all names private scratch items → ItemsTyped cores own names items
    → Each (AllDo (Kept all)) (resolved_items (layout_of all) fs items)
items_kept cores own all names private scratch fs [] laid typed = tt
items_kept cores own all names private scratch fs (global g ∷ items) laid typed =
    items_kept cores own all (declared names g.name (means_of g)) (private + item_words false (global g))
    (scratch + item_words true (global g)) fs items (laid_global all names private scratch g items typed.0.new laid)
    typed.1
items_kept cores own all names private scratch fs (function kind name void_word ps body ∷ items) laid typed =
    let f = function kind name void_word ps body in (
      function_checked (Kept all) cores own names (layout_of all) fs kind name ps body laid.keeps typed.0,
      items_kept cores own all (with_item names f) (private + item_words false f) (scratch + item_words true f)
          (fs ++ name ∷ []) items
          (laid_function all names private scratch f items name (length ps) (is_some kind) refl laid) typed.1,
    )

pub valid_apart : (items : List PlainItem) (cores own : ℕ) → IsValid items cores own
    → are_apart (uses_of (with_calls items)) ≡ true
valid_apart items cores own valid =
    let typed = (typed_of cores own items valid).each in
    let all = uses_of (with_calls items) in
    let kept = functions_do (Kept items) (parameters_in items) (resolved_items (layout_of items) [] items)
    (items_kept cores own items given 4 0 [] items (laid_first items cores own typed) typed) in
    kept_apart items all all kept kept

-- What is found in each item of an array, while a loop goes over it.
use Rattle.std.proofs.Common.{◌≡◌, ℕ, ◌+◌, ◌<◌, List, [], ◌∷◌, ◌++◌, length, get_or, drop, Option, Some, None, refl, sym, ◌∙◌}
use Rattle.toml.proofs.Views.{items_view-drop}
use Rattle.toml.specs.Data.{Data}
use Rattle.toml.specs.View.{view, items_view}
use Rattle.toml.specs.declared.value.Value.{Value}
use Rattle.tc_toml.specs.Values.{each_item}
use Rattle.tc_toml.proofs.Each.{behind, after_more}

pub more_items : {A : Type 0} (f : Data → Option A) (vs : List Value) (i : ℕ) (v : Value) (prefix : List A) (y : A)
    (all : Option (List A)) → i < length vs → f (view (get_or vs i v)) ≡ Some y
    → behind prefix (each_item f (items_view (drop i vs))) ≡ all
    → behind (prefix ++ y ∷ []) (each_item f (items_view (drop (i + 1) vs))) ≡ all
more_items f vs i v prefix y all within found held =
    sym (after_more prefix y (each_item f (items_view (drop (i + 1) vs))))
    ∙ sym (rw (items_view-drop vs i v within, found) refl)
    ∙ held

pub no_item : {A : Type 0} (f : Data → Option A) (vs : List Value) (i : ℕ) (v : Value) (prefix : List A)
    (all : Option (List A)) → i < length vs → f (view (get_or vs i v)) ≡ None
    → behind prefix (each_item f (items_view (drop i vs))) ≡ all → all ≡ None
no_item f vs i v prefix all within found held = sym held ∙ rw (items_view-drop vs i v within, found) refl

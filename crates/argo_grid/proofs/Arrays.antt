-- What the loops of the reader find in one array after another.
use Rattle.std.proofs.Common.{◌≡◌, ◌≢◌, ℕ, ℤ, ◌+◌, ◌<◌, List, [], ◌∷◌, ◌++◌, length, get_or, drop, Option, Some, None, Ok, Err, refl, ap, ◌∙◌}
use Rattle.std.specs.Option.{option_and_then}
use Rattle.toml.specs.Data.{Data, Items, as_array, as_integer}
use Rattle.toml.specs.View.{view, items_view}
use Rattle.toml.specs.declared.value.Value.{Value}
use Rattle.tc_toml.specs.declared.fault.JobFault.{JobFault}
use Rattle.tc_toml.specs.declared.fault.JobFault.TheVariants as faults
use Rattle.tc_toml.specs.declared.fault.Refusal.{Refusal}
use Rattle.tc_toml.specs.declared.fault.Refusal.TheVariants as refusals
use Rattle.tc_toml.specs.Values.{IsRefusedBy, given, each_of, each_item, array_of, integers_in}
use Rattle.tc_toml.proofs.Each.{behind, more_of, none_of}
use Rattle.tc_toml.proofs.Items.{more_items, no_item}
use Rattle.argo_grid.specs.declared.grid.Entry.{Entry}
use Rattle.argo_grid.specs.Read.{integers_at, entry_of}

given_some : {A : Type 0} (fault : JobFault) (o : Option A) (x : A) → given fault o ≡ Ok x → o ≡ Some x
given_some fault None x e = cc
given_some fault (Some y) x e = let same : y ≡ x = cc in ap Some same

refused_means : {A : Type 0} (fault f : JobFault) (o : Option A) → given fault o ≡ Err f → (o ≡ None) × (fault ≡ f)
refused_means fault f None e = (refl, (let same : fault ≡ f = cc in same))
refused_means fault f (Some x) e = cc

pub integers_given : (d : Data) → integers_in d ≡ given faults.Kind (integers_at d)
integers_given d = by_array (as_array d)
  where
    by_array : (o : Option Items) → array_of as_integer o ≡ given faults.Kind (option_and_then (each_item as_integer) o)
    by_array None = refl
    by_array (Some ds) = refl

-- the next array was read
pub next_list : (vs : List Value) (i : ℕ) (v : Value) (front : List (List ℤ)) (list : List ℤ)
    (all : Option (List (List ℤ))) → i < length vs → given faults.Kind (integers_at (view (get_or vs i v))) ≡ Ok list
    → behind front (each_item integers_at (items_view (drop i vs))) ≡ all
    → behind (front ++ list ∷ []) (each_item integers_at (items_view (drop (i + 1) vs))) ≡ all
next_list vs i v front list all within read held =
    more_items integers_at vs i v front list all within (given_some faults.Kind (integers_at (view (get_or vs i v)))
    list read) held

-- it was refused
pub no_list : (vs : List Value) (i : ℕ) (v : Value) (front : List (List ℤ)) (refusal : Refusal)
    (all : Option (List (List ℤ))) → i < length vs
    → IsRefusedBy refusal (given faults.Kind (integers_at (view (get_or vs i v))))
    → behind front (each_item integers_at (items_view (drop i vs))) ≡ all → IsRefusedBy refusal (given faults.Kind all)
no_list vs i v front refusals.Memory all within refused held = tt
no_list vs i v front (refusals.Fault f) all within refused held =
    let means = refused_means faults.Kind f (integers_at (view (get_or vs i v))) refused in
    let none : all ≡ None = no_item integers_at vs i v front all within means.0 held in
    ap (given faults.Kind) none ∙ ap Err means.1

-- the next entry was read, or is none
pub next_entry : (lists : List (List ℤ)) (i : ℕ) (d : List ℤ) (front : List Entry) (entry : Entry)
    (all : Option (List Entry)) → i < length lists → entry_of (get_or lists i d) ≡ Some entry
    → behind front (each_of entry_of (drop i lists)) ≡ all → behind (front ++ entry ∷ []) (each_of entry_of
    (drop (i + 1) lists)) ≡ all
next_entry lists i d front entry all within found held = more_of entry_of lists i d front entry all within found held

pub no_entry : (lists : List (List ℤ)) (i : ℕ) (d : List ℤ) (front : List Entry) (all : Option (List Entry))
    → i < length lists → entry_of (get_or lists i d) ≡ None
    → behind front (each_of entry_of (drop i lists)) ≡ all → all ≡ None
no_entry lists i d front all within found held = none_of entry_of lists i d front all within found held

-- a list of another length than four is no entry
pub not_four : (xs : List ℤ) → length xs ≢ 4 → entry_of xs ≡ None
not_four [] other = refl
not_four (a ∷ []) other = refl
not_four (a ∷ b ∷ []) other = refl
not_four (a ∷ b ∷ c ∷ []) other = refl
not_four (a ∷ b ∷ c ∷ d ∷ []) other = absurd (other refl)
not_four (a ∷ b ∷ c ∷ d ∷ e ∷ xs) other = refl

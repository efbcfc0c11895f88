-- What a name stands for, and which function it names, by what is found among the open names.
use Rattle.std.proofs.Common.{◌≡◌, ℕ, Bool, List, take, map, Option, None, Some, refl, ap, sym, ◌∙◌}
use Rattle.std.proofs.lemmas.List.{take-map}
use Rattle.std.specs.Option.{option_map}
use Rattle.c_tree.specs.declared.layout.Slot.{Slot}
use Rattle.c_tree.specs.Names.{Called, Found, last_named, number_of}
use Rattle.c_tree.proofs.LastNamed.{mapped, last_mapped, number_among}
use Rattle.c_names.specs.Open.{met_as, found_among}
use Rattle.c_meaning.specs.Entries.{shown_open}
use Rattle.c_meaning.specs.Scope.{Variable, Stands, level, among_slots, stands}

pub shown_take : (n : ℕ) (names : List (Called Bool)) → take n (map shown_open names) ≡ map shown_open (take n names)
shown_take n names = take-map shown_open n names

pub number_found : {T : Type 0} → (name : List ℕ) (names : List (Called T)) (f : Option (ℕ × T)) → f
    ≡ found_among name names
    → option_map (λ t. t.0) f ≡ number_of name (map (λ n. n.name) names)
number_found {T = T} name names f is =
    ap (option_map (λ t. t.0)) is ∙ by (last_named (λ n. n.name) 0 name names)
    ∙ sym (number_among (λ n. n.name) name names)
  where
    by : (l : Option (Found (Called T))) → option_map (λ t. t.0) (option_map met_as l) ≡ option_map (λ x. x.at) l
    by None = refl
    by (Some x) = refl

-- what a name stands for, where this is found among the variables, or else stands outside functions
abbrev pub stands_as : Option (ℕ × Bool) → Stands → Stands
stands_as None rest = rest
stands_as (Some t) rest = level t.0 t.1

pub found_stands : (name : List ℕ) (slots : List Slot) (names : List (Called Bool)) (f : Option (ℕ × Bool)) → f
    ≡ found_among name names
    → stands_as f (among_slots name slots) ≡ stands slots (map shown_open names) name
found_stands name slots names f is =
    ap (λ g. stands_as g (among_slots name slots)) is ∙ by (last_named (λ n. n.name) 0 name names)
    ∙ sym (ap or_outside (last_mapped (λ v. v.name) shown_open 0 name names))
  where
    or_outside : Option (Found Variable) → Stands
    or_outside l = elim l as (λ _. Stands) [ Some v ↦ level v.at v.is.unsigned | None ↦ among_slots name slots ]

    by : (l : Option (Found (Called Bool))) → stands_as (option_map met_as l) (among_slots name slots)
        ≡ or_outside (option_map (mapped shown_open) l)
    by None = refl
    by (Some v) = refl

-- What a name means, and whether it is declared past so many, by what is found.
use Rattle.std.proofs.Common.{◌≡◌, ℕ, List, drop, Option, None, Some, is_some, refl, ap, ◌∙◌}
use Rattle.std.specs.Option.{option_map}
use Rattle.c_tree.specs.declared.checks.Meaning.{Meaning}
use Rattle.c_tree.specs.Names.{Found, Named, last_named, found}
use Rattle.c_tree.proofs.LastNamed.{is_past, past_named}
use Rattle.c_names.specs.Open.{met_as, found_among}

abbrev last_of : List ℕ → List Named → Option (Found Named)
last_of name names = last_named (λ n. n.name) 0 name names

pub meaning_found : (name : List ℕ) (names : List Named) (f : Option (ℕ × Meaning)) → f ≡ found_among name names
    → option_map (λ t. t.1) f ≡ found name names
meaning_found name names f is = ap (option_map (λ t. t.1)) is ∙ by (last_of name names)
  where
    by : (l : Option (Found Named)) → option_map (λ t. t.1) (option_map met_as l) ≡ option_map (λ x. x.is.means) l
    by None = refl
    by (Some x) = refl

pub past_found : (name : List ℕ) (outer : ℕ) (names : List Named) (f : Option (ℕ × Meaning)) → f
    ≡ found_among name names
    → is_past outer (option_map (λ t. t.0) f) ≡ is_some (found name (drop outer names))
past_found name outer names f is =
    ap (λ g. is_past outer (option_map (λ t. t.0) g)) is ∙ ap (is_past outer) (number (last_of name names))
    ∙ past_named (λ n. n.name) outer name names ∙ there (last_of name (drop outer names))
  where
    number : (l : Option (Found Named)) → option_map (λ t. t.0) (option_map met_as l) ≡ option_map (λ x. x.at) l
    number None = refl
    number (Some x) = refl

    there : (l : Option (Found Named)) → is_some l ≡ is_some (option_map (λ x. x.is.means) l)
    there None = refl
    there (Some x) = refl

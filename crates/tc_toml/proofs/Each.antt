-- What is found in each element of a list, while a loop goes over it.
use Rattle.std.proofs.Common.{◌≡◌, ℕ, ◌+◌, ◌<◌, List, [], ◌∷◌, ◌++◌, length, get_or, drop, Option, Some, None, refl, sym, ap, ◌∙◌, append_assoc}
use Rattle.std.proofs.lemmas.List.{drop_more}
use Rattle.tc_toml.specs.Values.{each_of, in_front}

-- what was found, followed by what is found in the rest
abbrev pub behind : {A : Type 0} → List A → Option (List A) → Option (List A)
behind prefix None = None
behind prefix (Some xs) = Some (prefix ++ xs)

-- one more element was found something in
pub after_more : {A : Type 0} (prefix : List A) (x : A) (rest : Option (List A))
    → behind prefix (in_front (Some x) rest) ≡ behind (prefix ++ x ∷ []) rest
after_more prefix x None = refl
after_more prefix x (Some xs) = ap Some (sym (append_assoc prefix (x ∷ []) xs))

pub more_of : {A B : Type 0} (f : A → Option B) (xs : List A) (i : ℕ) (d : A) (prefix : List B) (y : B)
    (all : Option (List B)) → i < length xs → f (get_or xs i d) ≡ Some y
    → behind prefix (each_of f (drop i xs)) ≡ all → behind (prefix ++ y ∷ []) (each_of f (drop (i + 1) xs)) ≡ all
more_of f xs i d prefix y all within found held =
    sym (after_more prefix y (each_of f (drop (i + 1) xs)))
    ∙ sym (rw (drop_more xs i d within, found) refl)
    ∙ held

pub none_of : {A B : Type 0} (f : A → Option B) (xs : List A) (i : ℕ) (d : A) (prefix : List B) (all : Option (List B))
    → i < length xs → f (get_or xs i d) ≡ None
    → behind prefix (each_of f (drop i xs)) ≡ all → all ≡ None
none_of f xs i d prefix all within found held = sym held ∙ rw (drop_more xs i d within, found) refl

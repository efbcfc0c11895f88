-- To be believed. Names and their scopes (C99 6.2.1). Of all that is declared and is open where a name stands, the name
-- means what was declared last, which hides the earlier ones.
use Rattle.std.specs.Prelude.{ℕ, ◌+◌, Bool, if◌then◌else◌, List, [], ◌∷◌, ◌++◌, drop, Option, None, Some, option_map, is_some, bytes_eq, codes}
use Rattle.std.specs.Option.{option_or}
use Rattle.c_tree.specs.declared.checks.Meaning.{Meaning}
use Rattle.c_tree.specs.declared.checks.Meaning.TheVariants as meaning

-- ---- of a list in which each element has a name, the last one so called

-- a name, and what it is declared as
pub record Called (T : Type 0) : Type 0 where
  pub name : List ℕ
  pub means : T

-- an element, and how many stand before it
pub record Found (A : Type 0) : Type 0 where
  pub at : ℕ
  pub is : A

-- where so many stand before these
abbrev pub last_named : {A : Type 0} → (A → List ℕ) → ℕ → List ℕ → List A → Option (Found A)
last_named name_of at name [] = None
last_named name_of at name (x ∷ xs) =
    option_or (last_named name_of (at + 1) name xs)
    (if bytes_eq (name_of x) name then Some (record { at = at; is = x }) else None)

-- of names alone, its number
abbrev pub number_of : List ℕ → List (List ℕ) → Option ℕ
number_of name names = option_map (λ f. f.at) (last_named (λ n. n) 0 name names)

-- ---- what names mean where a program is checked

abbrev pub Named : Type 0
Named = Called Meaning

abbrev pub found : List ℕ → List Named → Option Meaning
found name names = option_map (λ f. f.is.means) (last_named (λ n. n.name) 0 name names)

-- a name is declared in this block already, where so many of the names are declared outside of it
abbrev pub is_declared : List ℕ → ℕ → List Named → Bool
is_declared name outer names = is_some (found name (drop outer names))

-- one declaration more: the name is known from here on
abbrev pub declared : List Named → List ℕ → Meaning → List Named
declared names name means = names ++ record { name = name; means = means } ∷ []

-- what is declared before the text: the words that all cores share, and the core's communication memory
abbrev pub given : List Named
given =
    record { name = codes "shared"; means = meaning.Array } ∷ record { name = codes "comm"; means = meaning.Array } ∷ []

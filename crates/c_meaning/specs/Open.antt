-- For proofs. The names that are open where a program's names are resolved.
use Rattle.std.specs.Prelude.{ℕ, List, map, take}
use Rattle.c_names.specs.Open.{open_names}
use Rattle.c_meaning.specs.declared.scopes.Scope.{Scope as Opened}
use Rattle.c_meaning.specs.Entries.{shown_open}
use Rattle.c_meaning.specs.Values.{Names}

abbrev pub names_of : Opened → Names
names_of s = record { slots = s.globals.slots.now; variables = map shown_open (open_names s.variables) }

-- the names of which only the first so many variables are open
abbrev pub closed : ℕ → Names → Names
closed outer names = record names { variables = take outer names.variables }

abbrev pub functions_of : Opened → List (List ℕ)
functions_of s = map (λ f. f.name) (open_names s.functions)

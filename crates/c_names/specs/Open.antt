-- To be believed. The names that are open, as the list of them, and which of them a name means.
use Rattle.std.specs.Prelude.{ℕ, List, map, Option, option_map}
use Rattle.c_tree.specs.Names.{Called, Found, last_named}
use Rattle.c_names.specs.declared.names.Names.{Names}
use Rattle.c_names.specs.Entries.{shown}

abbrev pub open_names : {T : Type 0} → Names T → List (Called T)
open_names names = map shown names.entries.items

-- the last one so called: how many stand before it, and what it is declared as
abbrev pub met_as : {T : Type 0} → Found (Called T) → ℕ × T
met_as f = (f.at, f.is.means)

abbrev pub found_among : {T : Type 0} → List ℕ → List (Called T) → Option (ℕ × T)
found_among name names = option_map met_as (last_named (λ n. n.name) 0 name names)

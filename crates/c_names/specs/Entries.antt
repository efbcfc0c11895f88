-- To be believed. The open names as they are kept: each with the number of the one that it
-- hides, and the number of the last of each name.
use Rattle.std.specs.Prelude.{◌≡◌, ℕ, ◌<◌, List, length, take, map, slice_index_or, Option, bytes_eq}
use Rattle.std.specs.HashMap.{HashMap, get_by}
use denote.Ref.{Bor}
use Rattle.c_tree.specs.Names.{Called, number_of}
use Rattle.c_names.specs.declared.names.Entry.{Entry}

abbrev pub name_of : {T : Type 0} → Entry T → List ℕ
name_of e = e.name.now

abbrev pub shown : {T : Type 0} → Entry T → Called T
shown e = record { name = name_of e; means = e.means }

-- what the map has at a name
abbrev pub last_in : {S : Type 0} → HashMap (Bor (List ℕ)) ℕ S → List ℕ → Option ℕ
last_in last name = get_by (λ k. bytes_eq name k.now) last

-- each entry keeps the number of the one that it hides
abbrev pub KeepsHidden : {T : Type 0} → List (Entry T) → Type 0
KeepsHidden {T} entries = (k : ℕ) (e : Entry T) → k < length entries
    → (slice_index_or entries k e).hides
    ≡ number_of (name_of (slice_index_or entries k e)) (map name_of (take k entries))

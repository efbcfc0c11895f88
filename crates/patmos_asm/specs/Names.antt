-- For proofs. Maps from names to places, as their look-ups, and sets of names, as lists of bytes.
use Rattle.std.specs.Prelude.{ℕ, List, map, Option, bytes_eq}
use Rattle.std.specs.HashMap.{HashMap, get_by}
use Rattle.std.specs.HashSet.{HashSet}
use denote.Ref.{Bor}

-- the place of a name
abbrev pub place_in : {S : Type 0} → HashMap (Bor (List ℕ)) ℕ S → List ℕ → Option ℕ
place_in places name = get_by (λ k. bytes_eq name k.now) places

-- the names of a set, in the order in which they were noted
abbrev pub names_in : {S : Type 0} → HashSet (Bor (List ℕ)) S → List (List ℕ)
names_in names = map (λ k. k.now) names.keys

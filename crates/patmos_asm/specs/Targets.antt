-- For proofs. A set of offsets as a test, and a map from places to names as its look-ups.
use Rattle.std.specs.Prelude.{ℕ, Bool, List, [], unwrap_or, nat_eq}
use Rattle.std.specs.Option.{option_map}
use Rattle.std.specs.HashMap.{HashMap, get}
use Rattle.patmos_asm.specs.Printed.{is_target}
use Rattle.std.specs.HashSet.{HashSet}
use denote.Ref.{Bor}

abbrev pub branched_in : {S : Type 0} → HashSet ℕ S → ℕ → Bool
branched_in targets n = is_target n targets.keys

-- the name of a place, or this one where it has none
abbrev pub name_or : {S : Type 0} → HashMap ℕ (Bor (List ℕ)) S → ℕ → List ℕ → List ℕ
name_or names place other = unwrap_or (option_map (λ name. name.now) (get nat_eq names place)) other

abbrev pub name_in : {S : Type 0} → HashMap ℕ (Bor (List ℕ)) S → ℕ → List ℕ
name_in names place = name_or names place []

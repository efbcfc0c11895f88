-- For proofs. What is declared outside functions, as it is kept: the first slot of each name.
use Rattle.std.specs.Prelude.{ℕ, List, Option, None, Some, bytes_eq}
use Rattle.std.specs.Option.{option_copied}
use Rattle.std.specs.HashMap.{HashMap, get_by}
use denote.Ref.{Bor}
use Rattle.c_tree.specs.declared.layout.Slot.{Slot}
use Rattle.c_meaning.specs.Scope.{Stands, outside, nothing}

-- what the map has at a name
abbrev pub first_in : {S : Type 0} → HashMap (Bor (List ℕ)) (Bor Slot) S → List ℕ → Option Slot
first_in first name = option_copied (get_by (λ k. bytes_eq name k.now) first)

abbrev pub slot_shown : Option Slot → Stands
slot_shown None = nothing
slot_shown (Some s) = outside s

-- the slot that a name has, or else what it stands for among the others
abbrev pub slot_before : Option Slot → Stands → Stands
slot_before None others = others
slot_before (Some s) others = outside s

-- To be believed. What a refusal says of the tokens.
use Rattle.std.specs.Prelude.{◌≡◌, ℕ, ◌-◌, List, [], ◌∷◌, length, Option, Some, option_map, ⊤}
use Rattle.c_tree.specs.declared.tokens.Token.{Token}
use Rattle.c_tree.specs.Places.{IsProgram, IsPlace}
use Rattle.c_parse.specs.declared.faults.ParseFault.{ParseFault}
use Rattle.c_parse.specs.declared.faults.ParseFault.TheVariants.{Syntax, Memory}
use Rattle.c_parse.specs.Expected.{Items, drive}

-- A refusal of the syntax says that the tokens are no program. Want of memory says nothing.
abbrev pub NoProgram : List Token → ParseFault → Type 0
NoProgram ts (Syntax at) = IsProgram ts → ⊥
NoProgram ts Memory = ⊤

-- It says where they go wrong: the most of the first tokens that can go on.
abbrev pub PlaceOf : List Token → ParseFault → Type 0
PlaceOf ts (Syntax at) = IsPlace ts at
PlaceOf ts Memory = ⊤

-- The place by reading token after token: none where the tokens are a program. That it is the grammar's is a law.
abbrev pub place_of : List Token → Option ℕ
place_of ts = option_map (λ left. length ts - left) (drive 0 (Items ∷ []) ts)

abbrev pub PlaceRead : List Token → ParseFault → Type 0
PlaceRead ts (Syntax at) = place_of ts ≡ Some at
PlaceRead ts Memory = ⊤

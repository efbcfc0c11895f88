-- To be believed. What stands at the place of a fault.
use Rattle.std.specs.Prelude.{ℕ, zero, suc, Bool, true, false, IsTrue, List, [], ◌∷◌, Option, None, Some}
use Rattle.c_tree.specs.declared.checks.CheckFault.TheVariants as fault
use Rattle.c_tree.specs.declared.checks.Fault.{Fault}
use Rattle.c_tree.specs.declared.tokens.Keyword.TheVariants as keyword
use Rattle.c_tree.specs.declared.tokens.Token.{Token}
use Rattle.c_tree.specs.declared.tokens.Token.TheVariants as token

-- the token of a number, if there are so many
abbrev pub token_at : List Token → ℕ → Option Token
token_at [] at = None
token_at (t ∷ ts) zero = Some t
token_at (t ∷ ts) (suc at) = token_at ts at

abbrev pub is_name : Option Token → Bool
is_name (Some (token.Word name)) = true
is_name _ = false

abbrev pub is_number : Option Token → Bool
is_number (Some (token.Number value unsigned)) = true
is_number _ = false

abbrev pub is_bound : Option Token → Bool
is_bound (Some (token.Bound least most)) = true
is_bound _ = false

-- `while` or `for`
abbrev pub is_loop : Option Token → Bool
is_loop (Some (token.Keyword keyword.While)) = true
is_loop (Some (token.Keyword keyword.For)) = true
is_loop _ = false

-- A fault is reported at the name that it is about, at the number of a send's core, at a loop's bound, or at the keyword of
-- a loop without one. The others are reported at the first token of what is wrong, or at the end of all.
abbrev pub is_pointed : List Token → Fault → Bool
is_pointed ts f = elim f.kind as (λ _. Bool) [
  | fault.Unknown ↦ is_name (token_at ts f.at)
  | fault.Twice ↦ is_name (token_at ts f.at)
  | fault.Recursion ↦ is_name (token_at ts f.at)
  | fault.Params ↦ is_name (token_at ts f.at)
  | fault.NoBound ↦ is_loop (token_at ts f.at)
  | fault.BoundRange ↦ is_bound (token_at ts f.at)
  | fault.Target ↦ is_number (token_at ts f.at)
  | _ ↦ true
]

abbrev pub PointsAmong : List Token → Fault → Type 0
PointsAmong ts f = IsTrue (is_pointed ts f)

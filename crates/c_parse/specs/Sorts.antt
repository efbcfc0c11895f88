-- To be believed. Sorts of tokens: what a rule of the grammar asks of the next token.
use Rattle.std.specs.Prelude.{ℕ, Bool, true, false, ◌&&◌, ◌==◌, nat_lt, if◌then◌else◌}
use Rattle.c_tree.specs.declared.tokens.Token.{Token}
use Rattle.c_tree.specs.declared.tokens.Token.TheVariants as token
use Rattle.c_tree.specs.declared.tokens.Keyword.{Keyword}
use Rattle.c_tree.specs.declared.tokens.Keyword.TheVariants as keyword
use Rattle.c_tree.specs.declared.tokens.Sign.{Sign}
use Rattle.c_tree.specs.declared.tokens.Sign.TheVariants as sign

-- ---- signs and keywords: each has a number of its own, by which it is told from the others

abbrev pub sign_number : Sign → ℕ
sign_number s = elim s [
  | sign.OpenParenthesis ↦ 0
  | sign.CloseParenthesis ↦ 1
  | sign.OpenBracket ↦ 2
  | sign.CloseBracket ↦ 3
  | sign.OpenBrace ↦ 4
  | sign.CloseBrace ↦ 5
  | sign.Semicolon ↦ 6
  | sign.Comma ↦ 7
  | sign.Assign ↦ 8
  | sign.Or ↦ 9
  | sign.And ↦ 10
  | sign.BitOr ↦ 11
  | sign.BitXor ↦ 12
  | sign.BitAnd ↦ 13
  | sign.Equal ↦ 14
  | sign.NotEqual ↦ 15
  | sign.Less ↦ 16
  | sign.Greater ↦ 17
  | sign.LessEqual ↦ 18
  | sign.GreaterEqual ↦ 19
  | sign.ShiftLeft ↦ 20
  | sign.ShiftRight ↦ 21
  | sign.Plus ↦ 22
  | sign.Minus ↦ 23
  | sign.Star ↦ 24
  | sign.Slash ↦ 25
  | sign.Percent ↦ 26
  | sign.Tilde ↦ 27
  | sign.Exclamation ↦ 28
]

abbrev pub keyword_number : Keyword → ℕ
keyword_number k = elim k [
  | keyword.Int ↦ 0
  | keyword.Unsigned ↦ 1
  | keyword.Void ↦ 2
  | keyword.Scratchpad ↦ 3
  | keyword.Send ↦ 4
  | keyword.If ↦ 5
  | keyword.Else ↦ 6
  | keyword.While ↦ 7
  | keyword.For ↦ 8
  | keyword.Break ↦ 9
  | keyword.Continue ↦ 10
  | keyword.Return ↦ 11
  | keyword.Other ↦ 12
]

-- the sign opens no bracket
abbrev pub opens_none : Sign → Bool
opens_none s = elim s as (λ _. Bool) [
  | sign.OpenParenthesis ↦ false
  | sign.OpenBracket ↦ false
  | sign.OpenBrace ↦ false
  | _ ↦ true
]

-- the sign is an operator before an operand
abbrev pub is_prefix_sign : Sign → Bool
is_prefix_sign s = elim s as (λ _. Bool) [
  | sign.Minus ↦ true
  | sign.Tilde ↦ true
  | sign.Exclamation ↦ true
  | sign.Plus ↦ true
  | _ ↦ false
]

-- the level of the operator between operands that the sign is, or 0
abbrev pub sign_level : Sign → ℕ
sign_level s = elim s as (λ _. ℕ) [
  | sign.Or ↦ 1
  | sign.And ↦ 2
  | sign.BitOr ↦ 3
  | sign.BitXor ↦ 4
  | sign.BitAnd ↦ 5
  | sign.Equal ↦ 6
  | sign.NotEqual ↦ 6
  | sign.Less ↦ 7
  | sign.Greater ↦ 7
  | sign.LessEqual ↦ 7
  | sign.GreaterEqual ↦ 7
  | sign.ShiftLeft ↦ 8
  | sign.ShiftRight ↦ 8
  | sign.Plus ↦ 9
  | sign.Minus ↦ 9
  | sign.Star ↦ 10
  | sign.Slash ↦ 10
  | sign.Percent ↦ 10
  | _ ↦ 0
]

-- ---- tokens: this sign, this keyword, a name, a number, a bound, an operator before or between operands

unfoldable pub is_sign : Sign → Token → Bool
is_sign s t = elim t as (λ _. Bool) [ token.Sign u ↦ sign_number s == sign_number u | _ ↦ false ]

unfoldable pub is_keyword : Keyword → Token → Bool
is_keyword k t = elim t as (λ _. Bool) [ token.Keyword word ↦ keyword_number k == keyword_number word | _ ↦ false ]

unfoldable pub is_name : Token → Bool
is_name t = elim t as (λ _. Bool) [ token.Word text ↦ true | _ ↦ false ]

unfoldable pub is_number : Token → Bool
is_number t = elim t as (λ _. Bool) [ token.Number value unsigned ↦ true | _ ↦ false ]

unfoldable pub is_bound : Token → Bool
is_bound t = elim t as (λ _. Bool) [ token.Bound low high ↦ true | _ ↦ false ]

unfoldable pub is_prefix : Token → Bool
is_prefix t = elim t as (λ _. Bool) [ token.Sign u ↦ is_prefix_sign u | _ ↦ false ]

-- its level, or 0 where it is none
unfoldable pub level_at : Token → ℕ
level_at t = elim t as (λ _. ℕ) [ token.Sign u ↦ sign_level u | _ ↦ 0 ]

-- this bracket, where there is room for one more
unfoldable pub may_open : Bool → Sign → Token → Bool
may_open room s t = is_sign s t && room

-- there is room: of so many brackets, fewer are open
abbrev pub room_to : ℕ → ℕ → Bool
room_to limit n = nat_lt n limit

-- ---- what a rule asks for

pub data Sort : Type 0 where
  -- this sign, and where it opens a bracket, there is room for one more; this keyword; a name; a number
  a_sign : Sign → Sort
  a_word : Keyword → Sort
  a_name : Sort
  a_number : Sort
  -- the bound of a loop; an operator before an operand, and one between operands
  a_bound : Sort
  a_prefix : Sort
  an_operator : Sort

abbrev pub is_a : Bool → Sort → Token → Bool
is_a room sort t = elim sort as (λ _. Bool) [
  | a_sign s ↦ if opens_none s then is_sign s t else may_open room s t
  | a_word k ↦ is_keyword k t
  | a_name ↦ is_name t
  | a_number ↦ is_number t
  | a_bound ↦ is_bound t
  | a_prefix ↦ is_prefix t
  | an_operator ↦ nat_lt 0 (level_at t)
]

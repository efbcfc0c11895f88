-- For proofs. What the contract of a single reader says: how far it reads, what it gives, and where it stops.
use Rattle.std.specs.Prelude.{◌≡◌, ℕ, Bool, false, List, [], ◌∷◌, ◌++◌, Some, if◌then◌else◌, ⊤}
use Rattle.c_tree.specs.declared.tokens.Token.{Token}
use Rattle.c_tree.specs.declared.tokens.Keyword.TheVariants as keyword
use Rattle.c_tree.specs.declared.tokens.Sign.TheVariants as sign
use Rattle.c_tree.specs.declared.statements.Kind.{Kind as KindOf}
use Rattle.c_tree.specs.declared.statements.Kind.TheVariants as kind
use Rattle.c_tree.specs.declared.expressions.Expr.{Expr}
use Rattle.c_tree.specs.declared.units.Parameter.{Parameter}
use Rattle.c_tree.specs.Tokens.{one, word, expr_tokens, parameters_tokens}
use Rattle.c_parse.specs.declared.faults.Stop.{Stop}
use Rattle.c_parse.specs.declared.faults.Stop.TheVariants.{Syntax, Memory}
use Rattle.c_parse.specs.Sorts.{is_keyword, level_at, room_to}
use Rattle.c_parse.specs.Expected.{Expected, Items, drive}

-- ---- the next token

-- the first of the tokens passes the test
abbrev pub begins : (Token → Bool) → List Token → Bool
begins test [] = false
begins test (t ∷ ts) = test t

-- the level of the operator that comes first, or 0
abbrev pub level_ahead : List Token → ℕ
level_ahead [] = 0
level_ahead (t ∷ ts) = level_at t

-- one more bracket may be open, of 64
abbrev pub room_at : ℕ → Bool
room_at n = room_to 64 n

-- ---- parts of trees, as they are written

-- Where a kind is read, `unsigned` takes an `int` after it.
abbrev pub KindEnds : KindOf → List Token → Type 0
KindEnds k ts =
    elim k as (λ _. Type 0) [
      | kind.Int ↦ ⊤
      | kind.Unsigned ↦ begins (is_keyword keyword.Int) ts
          ≡ false
      | kind.UnsignedInt ↦ ⊤
    ]

-- the three expressions of a sending
abbrev pub three_tokens : Expr → Expr → Expr → List Token
three_tokens source target count =
    one sign.Comma ∷ (expr_tokens source ++ one sign.Comma ∷ (expr_tokens target ++ one sign.Comma ∷ expr_tokens count))

-- parameters, or `void` for none; the word before a variable in the scratchpad
abbrev pub listed : Bool → List Parameter → List Token
listed void_word parameters = if void_word then word keyword.Void ∷ [] else parameters_tokens parameters

abbrev pub scratch_tokens : Bool → List Token
scratch_tokens scratch = if scratch then word keyword.Scratchpad ∷ [] else []

-- ---- how far a reader reads, and where it stops

-- Where these are to come, and whatever after them, the tokens up to the rest are read, and then those are to come.
abbrev pub Passes : ℕ → List Expected → List Token → List Expected → List Token → Type 0
Passes n xs ts ys rest = (behind : List Expected) → drive n (xs ++ behind) ts ≡ drive n (ys ++ behind) rest

-- These tokens are read, and so many brackets are open after them.
abbrev pub PassesTo : ℕ → List Expected → List Token → ℕ → List Expected → List Token → Type 0
PassesTo n xs ts m ys rest = (behind : List Expected) → drive n (xs ++ behind) ts ≡ drive m (ys ++ behind) rest

-- Where these are to come, and whatever after them, the reader has stopped rightly.
abbrev pub Refuses : ℕ → List Expected → List Token → Stop → Type 0
Refuses n xs ts (Syntax left) = (behind : List Expected) → drive n (xs ++ behind) ts ≡ Some left
Refuses n xs ts Memory = ⊤

-- Where declarations are to come and nothing after them, the reader has stopped rightly.
abbrev pub StopsAt : List Token → Stop → Type 0
StopsAt ts (Syntax left) = drive 0 (Items ∷ []) ts ≡ Some left
StopsAt ts Memory = ⊤

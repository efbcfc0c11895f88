-- What a token makes of a place, kept: where what is then to come is written, the place is written, with the token first.
use Rattle.std.proofs.Common.{◌≡◌, ℕ, Bool, true, false, ◌&&◌, nat_lt, List, [], ◌∷◌, ◌++◌, if◌then◌else◌, refl, sym, subst}
use Rattle.c_tree.specs.declared.tokens.Token.{Token}
use Rattle.c_tree.specs.declared.tokens.Token.TheVariants as token
use Rattle.c_tree.specs.declared.tokens.Keyword.{Keyword}
use Rattle.c_tree.specs.declared.tokens.Sign.{Sign}
use Rattle.c_tree.specs.declared.expressions.BinaryOp.{BinaryOp}
use Rattle.c_tree.specs.declared.expressions.UnaryOp.{UnaryOp}
use Rattle.c_tree.specs.Tokens.{one, word, unary_sign, binary_sign}
use Rattle.c_parse.specs.Expected.{Expected, Move, taken, passed, refused, and_then}
use Rattle.c_parse.specs.Sorts.{is_sign, is_keyword, is_name, is_number, is_bound, is_prefix, may_open, level_at, opens_none, a_sign, is_a}
use Rattle.c_parse.specs.Tree.{operator_at}
use Rattle.c_parse.proofs.Tests.{sign_is, keyword_is, prefix_at, prefix_is, operator_is}
use Rattle.c_parse.proofs.Starts.{stays}
use Rattle.c_parse.proofs.Written.{Through}

-- ---- what a token is that passes a test

open_is : (room : Bool) (s : Sign) (t : Token) → may_open room s t ≡ true → t ≡ one s
unfolding may_open
open_is room s t h = sign_is s t (first (is_sign s t) room h)
  where
    first : (a b : Bool) → (a && b) ≡ true → a ≡ true
    first true b h = refl
    first false b h = h

-- this sign, where it opens a bracket or not
pub this_is : (room : Bool) (s : Sign) (t : Token) → is_a room (a_sign s) t ≡ true → t ≡ one s
this_is room s t h = by_kind (opens_none s) h
  where
    by_kind : (b : Bool) → (if b then is_sign s t else may_open room s t) ≡ true → t ≡ one s
    by_kind true h = sign_is s t h
    by_kind false h = open_is room s t h

-- ---- what is kept

abbrev Kept : (List Token → List Token → Type 0) → Token → Move → Type 0
Kept P t m = elim m as (λ _. Type 0) [
  | taken xs ↦ (ts rest : List Token) → Through xs ts rest → P (t ∷ ts) rest
  | passed ↦ (ts : List Token) → P ts ts
  | refused ↦ Unit {0}
]

pub record Gives (P : List Token → List Token → Type 0) (t : Token) (m : Move) : Type 0 where
  pub given : Kept P t m

module _ (P : List Token → List Token → Type 0) where
  pub takes : {t : Token} {xs : List Expected} → ((ts rest : List Token) → Through xs ts rest → P (t ∷ ts) rest)
      → Gives P t (taken xs)
  takes f = record { given = f }

  pub stays_empty : (t : Token) → ((ts : List Token) → P ts ts) → Gives P t passed
  stays_empty t f = record { given = f }

  pub none : (t : Token) → Gives P t refused
  none t = record { given = tt }

  pub by_test : (t : Token) (b : Bool) {m n : Move} → (b ≡ true → Gives P t m) → Gives P t n
      → Gives P t (if b then m else n)
  by_test t true f g = f refl
  by_test t false f g = g

  pub at_token : {t u : Token} {m : Move} → t ≡ u → Gives P u m → Gives P t m
  at_token {t} {u} {m} e g = let Q : Token → Type 0 = λ v. Gives P v m in subst Q (sym e) g

  pub on_sign : (s : Sign) (t : Token) {m n : Move} → Gives P (one s) m → Gives P t n
      → Gives P t (if is_sign s t then m else n)
  on_sign s t g h = by_test t (is_sign s t) (λ e. at_token (sign_is s t e) g) h

  pub on_open : (room : Bool) (s : Sign) (t : Token) {m n : Move} → Gives P (one s) m → Gives P t n
      → Gives P t (if may_open room s t then m else n)
  on_open room s t g h = by_test t (may_open room s t) (λ e. at_token (open_is room s t e) g) h

  pub on_word : (k : Keyword) (t : Token) {m n : Move} → Gives P (word k) m → Gives P t n
      → Gives P t (if is_keyword k t then m else n)
  on_word k t g h = by_test t (is_keyword k t) (λ e. at_token (keyword_is k t e) g) h

  pub on_name : (t : Token) {m n : Move} → ((w : List ℕ) → Gives P (token.Word w) m) → Gives P t n
      → Gives P t (if is_name t then m else n)
  unfolding is_name
  on_name (token.Word w) g h = g w
  on_name _ g h = h

  pub on_number : (t : Token) {m n : Move} → ((v : ℕ) (u : Bool) → Gives P (token.Number v u) m) → Gives P t n
      → Gives P t (if is_number t then m else n)
  unfolding is_number
  on_number (token.Number v u) g h = g v u
  on_number _ g h = h

  pub on_bound : (t : Token) {m n : Move} → ((a b : ℕ) → Gives P (token.Bound a b) m) → Gives P t n
      → Gives P t (if is_bound t then m else n)
  unfolding is_bound
  on_bound (token.Bound a b) g h = g a b
  on_bound _ g h = h

  pub on_prefix : (t : Token) {m n : Move} → ((op : UnaryOp) → Gives P (one (unary_sign op)) m) → Gives P t n
      → Gives P t (if is_prefix t then m else n)
  on_prefix t g h = by_test t (is_prefix t) (λ e. at_token (prefix_is t e) (g (prefix_at t))) h

  pub on_operator : (t : Token) {m n : Move} → ((op : BinaryOp) → Gives P (one (binary_sign op)) m) → Gives P t n
      → Gives P t (if nat_lt 0 (level_at t) then m else n)
  on_operator t g h = by_test t (nat_lt 0 (level_at t)) (λ e. at_token (operator_is t e) (g (operator_at t))) h

-- one place after another, and further places
pub through_join : (xs ys : List Expected) (ts rest : List Token) → Through (xs ++ ys) ts rest → (mid : List Token)
    × Through xs ts mid × Through ys mid rest
through_join [] ys ts rest h = (ts, refl, h)
through_join (x ∷ xs) ys ts rest h =
    let later : (mid : List Token) × Through xs h.0 mid × Through ys mid rest = through_join xs ys h.0 rest h.2 in
    (later.0, (h.0, h.1, later.1), later.2)

-- something more after it
pub gives_then : (P Q : List Token → List Token → Type 0) (t : Token) (m : Move) (xs : List Expected) → stays m
    → ((ts mid rest : List Token) → P ts mid → Through xs mid rest → Q ts rest) → Gives P t m
    → Gives Q t (and_then m xs)
gives_then P Q t (taken ys) xs s f g = record {
  given = λ ts rest h. let parts : (mid : List Token) × Through ys ts mid × Through xs mid rest =
      through_join ys xs ts rest h in
      f (t ∷ ts) parts.0 rest (g.given ts parts.0 parts.1) parts.2;
}
gives_then P Q t passed xs s f g = absurd s
gives_then P Q t refused xs s f g = record { given = tt }

-- what is kept as one thing is kept as another
pub gives_as : (P Q : List Token → List Token → Type 0) (t : Token) (m : Move) → ((ts rest : List Token) → P ts rest
    → Q ts rest) → Gives P t m → Gives Q t m
gives_as P Q t (taken ys) f g = record { given = λ ts rest h. f (t ∷ ts) rest (g.given ts rest h) }
gives_as P Q t passed f g = record { given = λ ts. f ts ts (g.given ts) }
gives_as P Q t refused f g = record { given = tt }

-- the same tokens, written otherwise
pub moved_along : (P : List Token → List Token → Type 0) {ts us mid rest : List Token} → ts ≡ us → P us mid → mid
    ≡ rest → P ts rest
moved_along P {ts} {us} {mid} {rest} e p f =
    let Q : List Token → Type 0 =
    λ l. P l rest in let R : List Token → Type 0 = λ l. P us l in subst Q (sym e) (subst R f p)

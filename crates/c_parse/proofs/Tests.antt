-- What the tests of a token say.
use Rattle.std.proofs.Common.{◌≡◌, ℕ, ◌<◌, ◌≤◌, ◌==◌, Bool, true, false, ◌&&◌, nat_lt, nat_eq, List, [], ◌∷◌, if◌then◌else◌, IsTrue, ◌↔◌, refl, ap, sym, ◌∙◌, arith}
use Rattle.std.proofs.lemmas.Grind.{common_steps}
use Rattle.c_tree.specs.declared.tokens.Token.{Token}
use Rattle.c_tree.specs.declared.tokens.Token.TheVariants as token
use Rattle.c_tree.specs.declared.tokens.Keyword.{Keyword}
use Rattle.c_tree.specs.declared.tokens.Keyword.TheVariants as keyword
use Rattle.c_tree.specs.declared.tokens.Sign.{Sign}
use Rattle.c_tree.specs.declared.tokens.Sign.TheVariants as sign
use Rattle.c_tree.specs.declared.expressions.UnaryOp.{UnaryOp}
use Rattle.c_tree.specs.declared.expressions.UnaryOp.TheVariants as unary
use Rattle.c_tree.specs.declared.expressions.BinaryOp.{BinaryOp}
use Rattle.c_tree.specs.declared.expressions.BinaryOp.TheVariants as binary
use Rattle.c_tree.specs.Tokens.{one, word, unary_sign, binary_sign}
use Rattle.c_parse.specs.Readers.{begins}
use Rattle.c_parse.specs.Tree.{prefix_of, operator_at}
use Rattle.c_parse.specs.Sorts.{sign_number, keyword_number, is_sign, is_keyword, may_open, room_to, opens_none, a_sign, is_a, is_prefix, level_at}

-- the sign of a number
abbrev numbered_sign : ℕ → Sign
numbered_sign n =
    (if n == 0 then sign.OpenParenthesis else (if n == 1 then sign.CloseParenthesis else (if n
    == 2 then sign.OpenBracket else (if n == 3 then sign.CloseBracket else (if n == 4 then sign.OpenBrace else (if n
    == 5 then sign.CloseBrace else (if n == 6 then sign.Semicolon else (if n == 7 then sign.Comma else (if n
    == 8 then sign.Assign else (if n == 9 then sign.Or else (if n == 10 then sign.And else (if n
    == 11 then sign.BitOr else (if n == 12 then sign.BitXor else (if n == 13 then sign.BitAnd else (if n
    == 14 then sign.Equal else (if n == 15 then sign.NotEqual else (if n
    == 16 then sign.Less else (if n == 17 then sign.Greater else (if n
    == 18 then sign.LessEqual else (if n == 19 then sign.GreaterEqual else (if n
    == 20 then sign.ShiftLeft else (if n == 21 then sign.ShiftRight else (if n
    == 22 then sign.Plus else (if n == 23 then sign.Minus else (if n
    == 24 then sign.Star else (if n == 25 then sign.Slash else (if n
    == 26 then sign.Percent else (if n
    == 27 then sign.Tilde else
    sign.Exclamation))))))))))))))))))))))))))))

sign_again : (s : Sign) → numbered_sign (sign_number s) ≡ s
sign_again sign.OpenParenthesis = refl
sign_again _ = refl

abbrev numbered_keyword : ℕ → Keyword
numbered_keyword n =
    (if n == 0 then keyword.Int else (if n == 1 then keyword.Unsigned else (if n == 2 then keyword.Void else (if n
    == 3 then keyword.Scratchpad else (if n == 4 then keyword.Send else (if n == 5 then keyword.If else (if n
    == 6 then keyword.Else else (if n == 7 then keyword.While else (if n == 8 then keyword.For else (if n
    == 9 then keyword.Break else (if n == 10 then keyword.Continue else (if n
    == 11 then keyword.Return else keyword.Other))))))))))))

keyword_again : (k : Keyword) → numbered_keyword (keyword_number k) ≡ k
keyword_again keyword.Int = refl
keyword_again _ = refl

number_tested : (b : Bool) (m n : ℕ) → (IsTrue b → m ≡ n) → (m ≡ n → IsTrue b) → b ≡ nat_eq m n
number_tested b m n to from = grind (arith, common_steps)

pub sign_tested : (b : Bool) (s t : Sign) → (IsTrue b ↔ (t ≡ s)) → b ≡ is_sign s (one t)
unfolding is_sign
sign_tested b s t same = number_tested b (sign_number s) (sign_number t) (λ h. ap sign_number (sym (same.0 h)))
    (λ e. same.1 (sym (sign_again t) ∙ ap numbered_sign (sym e) ∙ sign_again s))

pub keyword_tested : (b : Bool) (s t : Keyword) → (IsTrue b ↔ (t ≡ s)) → b ≡ is_keyword s (word t)
unfolding is_keyword
keyword_tested b s t same =
    number_tested b (keyword_number s) (keyword_number t) (λ h. ap keyword_number (sym (same.0 h)))
    (λ e. same.1 (sym (keyword_again t) ∙ ap numbered_keyword (sym e) ∙ keyword_again s))

pub sign_found : (b : Bool) (s t : Sign) → (IsTrue b ↔ (t ≡ s)) → b ≡ true → one t ≡ one s
sign_found b s t same h = ap one (same.0 (grind (arith, common_steps)))

pub keyword_found : (b : Bool) (s t : Keyword) → (IsTrue b ↔ (t ≡ s)) → b ≡ true → word t ≡ word s
keyword_found b s t same h = ap word (same.0 (grind (arith, common_steps)))

pub may_not_open : (limit n : ℕ) (s : Sign) (ts : List Token) → begins (is_sign s) ts ≡ false
    → begins (may_open (room_to limit n) s) ts ≡ false
unfolding may_open
may_not_open limit n s [] h = refl
may_not_open limit n s (t ∷ ts) h = ap (λ b. b && room_to limit n) h

pub none_open : (limit n : ℕ) (s : Sign) (ts : List Token) → limit ≤ n → begins (may_open (room_to limit n) s) ts
    ≡ false
unfolding may_open
none_open limit n s [] h = refl
none_open limit n s (t ∷ ts) h = no_more (is_sign s t) n h
  where
    no_more : (b : Bool) (n : ℕ) → limit ≤ n → (b && nat_lt n limit) ≡ false
    no_more true n h = grind (arith, common_steps)
    no_more false n h = refl

is_itself : (s : Sign) → is_sign s (one s) ≡ true
unfolding is_sign
is_itself s = itself (sign_number s)
  where
    itself : (n : ℕ) → nat_eq n n ≡ true
    itself n = grind (arith, common_steps)

pub opens_itself : (limit n : ℕ) (s : Sign) → n < limit → may_open (room_to limit n) s (one s) ≡ true
unfolding may_open
opens_itself limit n s h = rw is_itself (fewer n h)
  where
    fewer : (n : ℕ) → n < limit → nat_lt n limit ≡ true
    fewer n h = grind (arith, common_steps)

-- ---- what a token is that passes a test

same_number : (m n : ℕ) → nat_eq m n ≡ true → m ≡ n
same_number m n h = grind (arith, common_steps)

pub sign_is : (s : Sign) (t : Token) → is_sign s t ≡ true → t ≡ one s
unfolding is_sign
sign_is s (token.Sign u) h =
    ap one (sym (sign_again u) ∙ ap numbered_sign (sym (same_number (sign_number s) (sign_number u) h)) ∙ sign_again s)
sign_is s _ h = absurd (cc)

pub keyword_is : (k : Keyword) (t : Token) → is_keyword k t ≡ true → t ≡ word k
unfolding is_keyword
keyword_is k (token.Keyword u) h = ap word (sym (keyword_again u)
    ∙ ap numbered_keyword (sym (same_number (keyword_number k) (keyword_number u) h)) ∙ keyword_again k)
keyword_is k _ h = absurd (cc)

-- ---- this sign, where it opens a bracket or not

pub not_this : (room : Bool) (s : Sign) (t : Token) → is_sign s t ≡ false → is_a room (a_sign s) t ≡ false
unfolding may_open
not_this room s t h = by_kind (opens_none s) (is_sign s t) h
  where
    by_kind : (b c : Bool) → c ≡ false → (if b then c else (c && room)) ≡ false
    by_kind true c h = h
    by_kind false c h = ap (λ d. d && room) h

pub not_opened : (room : Bool) (s : Sign) (t : Token) → opens_none s ≡ false → may_open room s t ≡ false
    → is_a room (a_sign s) t ≡ false
not_opened room s t o h = ap (λ b. if b then is_sign s t else may_open room s t) o ∙ h

pub this_sign : (room : Bool) (s : Sign) → opens_none s ≡ true → is_a room (a_sign s) (one s) ≡ true
this_sign room s o = ap (λ b. if b then is_sign s (one s) else may_open room s (one s)) o ∙ is_itself s

pub this_bracket : (limit n : ℕ) (s : Sign) → opens_none s ≡ false → n < limit
    → is_a (room_to limit n) (a_sign s) (one s) ≡ true
this_bracket limit n s o h =
    ap (λ b. if b then is_sign s (one s) else may_open (room_to limit n) s (one s)) o ∙ opens_itself limit n s h

-- ---- operators

-- the prefix that a token is, if it is one
abbrev pub prefix_at : Token → UnaryOp
prefix_at t = elim t as (λ _. UnaryOp) [ token.Sign s ↦ prefix_of s | _ ↦ unary.Plus ]

pub prefix_is : (t : Token) → is_prefix t ≡ true → t ≡ one (unary_sign (prefix_at t))
unfolding is_prefix
prefix_is (token.Sign sign.Minus) h = refl
prefix_is _ h = cc

pub operator_is : (t : Token) → nat_lt 0 (level_at t) ≡ true → t ≡ one (binary_sign (operator_at t))
unfolding level_at
operator_is (token.Sign sign.Or) h = refl
operator_is _ h = cc

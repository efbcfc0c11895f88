-- How tokens are read, and what is after an expression and before one.
use Rattle.std.proofs.Common.{◌≡◌, ℕ, ◌+◌, ◌-◌, ◌<◌, ◌≤◌, max, Bool, ◌||◌, true, false, List, [], ◌∷◌, ◌++◌, refl, ap, sym, subst, ◌∙◌, append_assoc, arith, lit<}
use Rattle.c_tree.specs.declared.tokens.Token.{Token}
use Rattle.c_tree.specs.declared.tokens.Sign.{Sign}
use Rattle.c_tree.specs.declared.tokens.Sign.TheVariants as sign
use Rattle.c_tree.specs.declared.expressions.UnaryOp.TheVariants as unary
use Rattle.c_tree.specs.declared.expressions.Expr.{Expr, Chain', Unary'}
use Rattle.c_tree.specs.Tokens.{expr_tokens, steps_tokens, args_tokens, one}
use Rattle.c_tree.specs.Fits.{ExprFits, most_open, open_after}
use Rattle.c_parse.specs.Expected.{Expected, Only, drive_to}
use Rattle.c_parse.specs.Readers.{begins, level_ahead}
use Rattle.c_parse.specs.Sorts.{is_sign, opens_none}
use Rattle.c_parse.specs.Tree.{Reader, on, read}
use Rattle.c_parse.proofs.Steps.{tests, sign_read}

-- Tokens whose brackets fit are read up to the rest, whose brackets then fit: where these are to come, and by the reader.
pub record Goes (limit n : ℕ) (xs : List Expected) (r : Reader) (ts : List Token) (m : ℕ) (ys : List Expected)
    (s : Reader) (rest : List Token) : Type 0 where
  pub drives : most_open n ts ≤ limit → drive_to limit n xs ts ≡ drive_to limit m ys rest
  pub fits : most_open n ts ≤ limit → most_open m rest ≤ limit
  pub reads : read r ts ≡ read s rest

pub and_on : {limit n m k : ℕ} {xs ys zs : List Expected} {r s t : Reader} {ts us vs : List Token}
    → Goes limit n xs r ts m ys s us → Goes limit m ys s us k zs t vs → Goes limit n xs r ts k zs t vs
and_on f g =
    record { drives = λ h. f.drives h ∙ g.drives (f.fits h); fits = λ h. g.fits (f.fits h); reads = f.reads ∙ g.reads }

-- the same tokens, written otherwise
pub along : {limit n m : ℕ} {xs ys : List Expected} {r s : Reader} {ts us rest : List Token} → ts ≡ us
    → Goes limit n xs r us m ys s rest → Goes limit n xs r ts m ys s rest
along {limit} {n} {m} {xs} {ys} {r} {s} {ts} {us} {rest} e g =
    let P : List Token → Type 0 = λ l. Goes limit n xs r l m ys s rest in subst P (sym e) g

-- no token: what is to come is the same otherwise, and so is the reader
pub stay : {limit n : ℕ} {xs ys : List Expected} {r : Reader} {ts : List Token} → drive_to limit n xs ts
    ≡ drive_to limit n ys ts → Goes limit n xs r ts n ys r ts
stay e = record { drives = λ h. e; fits = λ h. h; reads = refl }

pub as_by : {limit n : ℕ} {xs : List Expected} {r s : Reader} {ts : List Token} → read r ts ≡ read s ts
    → Goes limit n xs r ts n xs s ts
as_by e = record { drives = λ h. refl; fits = λ h. h; reads = e }

pub renamed : {limit n : ℕ} {xs : List Expected} {r s : Reader} {ts : List Token} → r ≡ s
    → Goes limit n xs r ts n xs s ts
renamed {limit} {n} {xs} {r} {s} {ts} e = as_by (ap (λ x. read x ts) e)

-- one token
pub step : {limit n : ℕ} {xs ys : List Expected} {r : Reader} {t : Token} {ts : List Token}
    → drive_to limit n xs (t ∷ ts) ≡ drive_to limit (open_after t n) ys ts
    → Goes limit n xs r (t ∷ ts) (open_after t n) ys (on r t) ts
unfolding read
step {limit} e = record { drives = λ h. e; fits = λ h. omega (arith, h); reads = refl }

-- so many brackets are open at least
pub least : (n : ℕ) (ts : List Token) → n ≤ most_open n ts
least n [] = omega arith
least n (t ∷ ts) = omega arith

-- a bracket that opens
pub open_step : {limit n : ℕ} {xs ys : List Expected} {r : Reader} {ts : List Token} (t : Token) → open_after t n
    ≡ n + 1 → (n < limit → drive_to limit n xs (t ∷ ts) ≡ drive_to limit (n + 1) ys ts)
    → Goes limit n xs r (t ∷ ts) (n + 1) ys (on r t) ts
unfolding read
open_step {limit} {n} {xs} {ys} {r} {ts} t opens e =
    record {
      drives = λ h. e (omega (arith, least (n + 1) ts, again h));
      fits = λ h. omega (arith, again h);
      reads = refl;
    }
  where
    again : most_open n (t ∷ ts) ≤ limit → max n (most_open (n + 1) ts) ≤ limit
    again h = let P : ℕ → Type 0 = λ m. max n (most_open m ts) ≤ limit in subst P opens h

-- as many open, counted otherwise
pub open_again : {limit n m k : ℕ} {xs ys : List Expected} {r s : Reader} {ts us : List Token} → m ≡ k
    → Goes limit n xs r ts m ys s us → Goes limit n xs r ts k ys s us
open_again {limit} {n} {m} {k} {xs} {ys} {r} {s} {ts} {us} e g =
    let P : ℕ → Type 0 = λ j. Goes limit n xs r ts j ys s us in subst P e g

-- after so many brackets and one more, one closes
pub closes : (limit n : ℕ) (s : Sign) (xs : List Expected) {r : Reader} (ts : List Token) → open_after (one s) (n + 1)
    ≡ n → opens_none s ≡ true → Goes limit (n + 1) (Only s ∷ xs) r (one s ∷ ts) n xs (on r (one s)) ts
closes limit n s xs ts e o = open_again e (step (sign_read limit (n + 1) s ts xs o))

pub back : (n : ℕ) → n + 1 - 1 ≡ n
back n = omega arith

-- What is after an expression: no index and no call of it, and no operator of the last so many levels or closer.
pub record Behind (c : ℕ) (ts : List Token) : Type 0 where
  pub no_index : begins (is_sign sign.OpenBracket) ts ≡ false
  pub no_call : begins (is_sign sign.OpenParenthesis) ts ≡ false
  pub lower : level_ahead ts + c < 11

-- or none at all
abbrev pub Ends : List Token → Type 0
Ends ts = Behind 10 ts

pub ends_parenthesis : (ts : List Token) → Ends (one sign.CloseParenthesis ∷ ts)
ends_parenthesis ts = unfold tests in record { no_index = refl; no_call = refl; lower = lit< tt }

pub ends_bracket : (ts : List Token) → Ends (one sign.CloseBracket ∷ ts)
ends_bracket ts = unfold tests in record { no_index = refl; no_call = refl; lower = lit< tt }

pub ends_semicolon : (ts : List Token) → Ends (one sign.Semicolon ∷ ts)
ends_semicolon ts = unfold tests in record { no_index = refl; no_call = refl; lower = lit< tt }

pub ends_comma : (ts : List Token) → Ends (one sign.Comma ∷ ts)
ends_comma ts = unfold tests in record { no_index = refl; no_call = refl; lower = lit< tt }

-- tokens that begin with neither
pub neither : (f g : Token → Bool) (ts : List Token) → begins (λ t. f t || g t) ts ≡ false → (begins f ts ≡ false)
    × (begins g ts ≡ false)
neither f g [] h = (refl, refl)
neither f g (t ∷ ts) h = parts (f t) (g t) h
  where
    parts : (a b : Bool) → (a || b) ≡ false → (a ≡ false) × (b ≡ false)
    parts false b h = (refl, h)
    parts true b h = absurd (cc)

-- An expression begins neither with a parenthesis that closes nor with a semicolon.
expr_first : (e : Expr) → ExprFits e → (rest : List Token) → begins (λ t. is_sign sign.CloseParenthesis t
    || is_sign sign.Semicolon t) (expr_tokens e ++ rest) ≡ false
unfolding expr_tokens ExprFits is_sign
expr_first (Chain' level p first l row) f rest = ap (begins _) (append_assoc (expr_tokens first) (steps_tokens row)
    rest) ∙ expr_first first f.4 (steps_tokens row ++ rest)
expr_first (Unary' [] p of) f rest = absurd (omega (arith, f.0))
expr_first (Unary' (unary.Minus ∷ ops) p of) f rest = refl
expr_first (Unary' (op ∷ ops) p of) f rest = refl
expr_first _ f rest = refl

expr_begins : (e : Expr) → ExprFits e → (rest : List Token) → begins (is_sign sign.CloseParenthesis) (expr_tokens e
    ++ rest) ≡ false
expr_begins e f rest =
    (neither (is_sign sign.CloseParenthesis) (is_sign sign.Semicolon) (expr_tokens e ++ rest) (expr_first e f rest)).0

pub given_begins : (e : Expr) → ExprFits e → (rest : List Token) → begins (is_sign sign.Semicolon) (expr_tokens e
    ++ rest) ≡ false
given_begins e f rest =
    (neither (is_sign sign.CloseParenthesis) (is_sign sign.Semicolon) (expr_tokens e ++ rest) (expr_first e f rest)).1

pub args_begin : (args : List Expr) (e : Expr) → ExprFits e → (rest : List Token)
    → begins (is_sign sign.CloseParenthesis) (args_tokens (e ∷ args) ++ one sign.CloseParenthesis ∷ rest) ≡ false
args_begin [] e f rest = expr_begins e f (one sign.CloseParenthesis ∷ rest)
args_begin (a ∷ args) e f rest = ap (begins (is_sign sign.CloseParenthesis)) (append_assoc (expr_tokens e)
    (one sign.Comma ∷ args_tokens (a ∷ args)) (one sign.CloseParenthesis ∷ rest))
    ∙ expr_begins e f _

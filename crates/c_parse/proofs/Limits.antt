-- What the reading of tokens says of their brackets, and of how many are left.
use Rattle.std.proofs.Common.{◌≡◌, ℕ, suc, ◌+◌, ◌≤◌, max, Bool, true, false, List, [], ◌∷◌, length, Option, None, Some, refl, ap, ◌∙◌, nat_lt, ◌&&◌, if◌then◌else◌, arith}
use Rattle.std.proofs.lemmas.Grind.{common_steps}
use Rattle.c_tree.specs.declared.tokens.Token.{Token}
use Rattle.c_tree.specs.declared.tokens.Token.TheVariants as token
use Rattle.c_tree.specs.declared.tokens.Sign.{Sign}
use Rattle.c_tree.specs.declared.tokens.Sign.TheVariants as sign
use Rattle.c_tree.specs.Tokens.{one}
use Rattle.c_tree.specs.Fits.{most_open, open_after}
use Rattle.c_parse.specs.Expected.{Expected, Rule, ◌⇒◌∣◌, as_in, or_empty, nothing_else, rule, Move, taken, passed, refused, and_then, moved_by, moved, followed, next, read_on, drive, drive_to, may_end}
use Rattle.c_parse.specs.Readers.{room_at}
use Rattle.c_parse.specs.Sorts.{Sort, a_sign, a_word, a_name, a_number, a_bound, a_prefix, an_operator, is_a, opens_none, may_open, is_sign, is_keyword, is_name, is_number, is_prefix, is_prefix_sign, is_bound, level_at, sign_level}
use Rattle.c_parse.proofs.Tests.{sign_is}

-- ---- where there is no room for one more bracket, none is taken

abbrev opens : Token → Bool
opens t = elim t as (λ _. Bool) [ token.Sign s ↦ opens_none s | _ ↦ true ]

-- a sign that opens a bracket is none that opens none, and no operator
other_sign : (s u : Sign) → opens_none s ≡ false → opens_none u ≡ true → is_sign u (one s) ≡ false
other_sign s u o e = by_test (is_sign u (one s)) refl
  where
    by_test : (b : Bool) → is_sign u (one s) ≡ b → b ≡ false
    by_test false h = refl
    by_test true h = let same : opens_none s ≡ opens_none u = ap opens (sign_is u (one s) h) in absurd (cc)

no_prefix : (s : Sign) → opens_none s ≡ false → is_prefix_sign s ≡ false
no_prefix sign.OpenParenthesis o = refl
no_prefix sign.OpenBracket o = refl
no_prefix sign.OpenBrace o = refl
no_prefix s o = absurd (cc)

no_operator : (s : Sign) → opens_none s ≡ false → nat_lt 0 (sign_level s) ≡ false
no_operator sign.OpenParenthesis o = refl
no_operator sign.OpenBracket o = refl
no_operator sign.OpenBrace o = refl
no_operator s o = absurd (cc)

no_room : (s : Sign) → opens_none s ≡ false → (sort : Sort) → is_a false sort (one s) ≡ false
unfolding may_open is_keyword is_name is_number is_bound is_prefix level_at
no_room s o (a_sign u) = by_kind (opens_none u) refl
  where
    never : (b : Bool) → (b && false) ≡ false
    never true = refl
    never false = refl

    by_kind : (b : Bool) → opens_none u ≡ b → (if b then is_sign u (one s) else (is_sign u (one s) && false)) ≡ false
    by_kind true e = other_sign s u o e
    by_kind false e = never (is_sign u (one s))
no_room s o (a_word k) = refl
no_room s o a_name = refl
no_room s o a_number = refl
no_room s o a_bound = refl
no_room s o a_prefix = no_prefix s o
no_room s o an_operator = no_operator s o

abbrev not_taken : Move → Bool
not_taken m = elim m as (λ _. Bool) [ taken xs ↦ false | passed ↦ true | refused ↦ true ]

none_by : (s : Sign) → opens_none s ≡ false → (r : Rule) → not_taken (moved_by false r (one s)) ≡ true
none_by s o (sort ⇒ xs ∣ r) =
    ap (λ b. not_taken (if b then taken xs else moved_by false r (one s))) (no_room s o sort) ∙ none_by s o r
none_by s o (as_in r xs) = none_then (moved_by false r (one s)) (none_by s o r)
  where
    none_then : (m : Move) → not_taken m ≡ true → not_taken (and_then m xs) ≡ true
    none_then (taken ys) h = h
    none_then passed h = refl
    none_then refused h = refl
none_by s o or_empty = refl
none_by s o nothing_else = refl

not_followed : (m : Move) (xs : List Expected) (later : Option (List Expected)) → not_taken m ≡ true → later ≡ None
    → followed m xs later ≡ None
not_followed (taken ys) xs later h e = cc
not_followed passed xs later h e = e
not_followed refused xs later h e = refl

shut : (s : Sign) → opens_none s ≡ false → (xs : List Expected) → next false xs (one s) ≡ None
unfolding next moved
shut s o [] = refl
shut s o (x ∷ xs) = not_followed (moved false x (one s)) xs (next false xs (one s)) (none_by s o (rule x)) (shut s o xs)

opened_fits : (n : ℕ) (s : Sign) (xs ys : List Expected) → opens_none s ≡ false → n ≤ 64 → next (room_at n) xs (one s)
    ≡ Some ys → n + 1 ≤ 64
opened_fits n s xs ys o within e = by_room (room_at n) refl e
  where
    by_room : (b : Bool) → room_at n ≡ b → next b xs (one s) ≡ Some ys → n + 1 ≤ 64
    by_room true r e = grind (arith, common_steps)
    by_room false r e = let none : next false xs (one s) ≡ None = shut s o xs in cc

pub taken_fits : (n : ℕ) (xs : List Expected) (t : Token) (ys : List Expected) → n ≤ 64 → next (room_at n) xs t
    ≡ Some ys → open_after t n ≤ 64
taken_fits n xs (token.Sign s) ys h e = sign_fits s e
  where
    sign_fits : (s : Sign) → next (room_at n) xs (one s) ≡ Some ys → open_after (one s) n ≤ 64
    sign_fits sign.OpenParenthesis e = opened_fits n sign.OpenParenthesis xs ys refl h e
    sign_fits sign.CloseParenthesis e = omega arith
    sign_fits sign.OpenBracket e = opened_fits n sign.OpenBracket xs ys refl h e
    sign_fits sign.CloseBracket e = omega arith
    sign_fits sign.OpenBrace e = opened_fits n sign.OpenBrace xs ys refl h e
    sign_fits sign.CloseBrace e = omega arith
    sign_fits s e = h
taken_fits n xs t ys h e = h

-- tokens that are read whole open at most 64 brackets at once
pub brackets_fit : (ts : List Token) (n : ℕ) (xs : List Expected) → n ≤ 64 → drive n xs ts ≡ None → most_open n ts ≤ 64
unfolding drive_to
brackets_fit [] n xs h e = h
brackets_fit (t ∷ ts) n xs h e =
    went (next (room_at n) xs t) refl e (λ ys fit all. brackets_fit ts (open_after t n) ys fit all)
  where
    went : (m : Option (List Expected)) → next (room_at n) xs t ≡ m
        → read_on (length ts) (λ ys. drive (open_after t n) ys ts) m ≡ None
        → ((ys : List Expected) → open_after t n ≤ 64 → drive (open_after t n) ys ts ≡ None
        → most_open (open_after t n) ts ≤ 64) → max n (most_open (open_after t n) ts) ≤ 64
    went None r e later = cc
    went (Some ys) r e later =
        let fit : most_open (open_after t n) ts ≤ 64 = later ys (taken_fits n xs t ys h r) e in omega arith

-- no more tokens are left than there are
pub left_within : (ts : List Token) (n : ℕ) (xs : List Expected) (left : ℕ) → drive n xs ts ≡ Some left
    → left ≤ length ts
unfolding drive_to
left_within [] n xs left e = ended (may_end xs) e
  where
    ended : (b : Bool) → (if b then None else Some 0) ≡ Some left → left ≤ 0
    ended true e = cc
    ended false e = let zero_left : 0 ≡ left = cc in omega arith
left_within (t ∷ ts) n xs left e =
    went (next (room_at n) xs t) e (λ ys some. left_within ts (open_after t n) ys left some)
  where
    went : (m : Option (List Expected)) → read_on (length ts) (λ ys. drive (open_after t n) ys ts) m ≡ Some left
        → ((ys : List Expected) → drive (open_after t n) ys ts ≡ Some left → left ≤ length ts) → left ≤ suc (length ts)
    went None e later = let all_left : suc (length ts) ≡ left = cc in omega arith
    went (Some ys) e later = let fewer : left ≤ length ts = later ys e in omega arith

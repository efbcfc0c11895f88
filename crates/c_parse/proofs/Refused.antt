-- Where a token cannot come no tree goes on with it, however many brackets the tree opens after it.
use Rattle.std.proofs.Common.{◌≡◌, ℕ, zero, suc, ◌+◌, ◌≤◌, max, Bool, true, false, ◌&&◌, nat_lt, List, [], ◌∷◌, ◌++◌, length, take, Option, None, Some, if◌then◌else◌, refl, ap, sym, subst, ◌∙◌, arith}
use Rattle.std.proofs.lemmas.Grind.{common_steps}
use Rattle.c_tree.specs.declared.tokens.Token.{Token}
use Rattle.c_tree.specs.declared.tokens.Token.TheVariants as token
use Rattle.c_tree.specs.declared.tokens.Sign.{Sign}
use Rattle.c_tree.specs.declared.tokens.Sign.TheVariants as sign
use Rattle.c_tree.specs.Tokens.{tokens_of}
use Rattle.c_tree.specs.Fits.{most_open, open_after}
use Rattle.c_tree.specs.Places.{CanGoOn}
use Rattle.c_parse.specs.Expected.{Expected, Items, Rule, ◌⇒◌∣◌, as_in, or_empty, nothing_else, rule, taken, and_then, moved_by, moved, followed, next, read_on, drive, drive_to}
use Rattle.c_parse.specs.Sorts.{Sort, a_sign, is_a, opens_none, may_open, room_to, is_sign}
use Rattle.c_parse.proofs.Driven.{least}
use Rattle.c_parse.proofs.Limits.{left_within}
use Rattle.c_parse.proofs.Programs.{program_read}

-- ---- A token that opens no bracket comes or cannot come, whether one more may be open or not.

abbrev OpensNone : Token → Type 0
OpensNone t = (is_sign sign.OpenParenthesis t ≡ false) × (is_sign sign.OpenBracket t ≡ false)
    × (is_sign sign.OpenBrace t ≡ false)

opens_no : (t : Token) (n : ℕ) → open_after t n ≤ n → OpensNone t
unfolding is_sign
opens_no (token.Sign sign.OpenParenthesis) n h = absurd (omega (arith, h))
opens_no (token.Sign sign.OpenBracket) n h = absurd (omega (arith, h))
opens_no (token.Sign sign.OpenBrace) n h = absurd (omega (arith, h))
opens_no _ n h = (refl, refl, refl)

no_opening : (s : Sign) → opens_none s ≡ false → (t : Token) → OpensNone t → is_sign s t ≡ false
no_opening sign.OpenParenthesis o t h = h.0
no_opening sign.OpenBracket o t h = h.1
no_opening sign.OpenBrace o t h = h.2
no_opening s o t h = absurd (cc)

same_sort : (a b : Bool) (sort : Sort) (t : Token) → OpensNone t → is_a a sort t ≡ is_a b sort t
unfolding may_open
same_sort a b (a_sign s) t h = by_kind (opens_none s) refl
  where
    by_kind : (c : Bool) → opens_none s ≡ c → (if c then is_sign s t else (is_sign s t && a))
        ≡ (if c then is_sign s t else (is_sign s t && b))
    by_kind true e = refl
    by_kind false e = ap (λ d. d && a) (no_opening s e t h) ∙ sym (ap (λ d. d && b) (no_opening s e t h))
same_sort a b sort t h = refl

same_by : (a b : Bool) (r : Rule) (t : Token) → OpensNone t → moved_by a r t ≡ moved_by b r t
same_by a b (sort ⇒ xs ∣ r) t h =
    ap (λ c. if c then taken xs else moved_by a r t) (same_sort a b sort t h)
    ∙ ap (λ m. if is_a b sort t then taken xs else m) (same_by a b r t h)
same_by a b (as_in r xs) t h = ap (λ m. and_then m xs) (same_by a b r t h)
same_by a b or_empty t h = refl
same_by a b nothing_else t h = refl

same_next : (a b : Bool) (xs : List Expected) (t : Token) → OpensNone t → next a xs t ≡ next b xs t
unfolding next moved
same_next a b [] t h = refl
same_next a b (x ∷ xs) t h = ap (λ m. followed m xs (next a xs t)) (same_by a b (rule x) t h)
    ∙ ap (followed (moved b x t) xs) (same_next a b xs t h)

-- a token after which no more than 64 brackets are open comes where more may be open just where it comes here
next_alike : (limit n : ℕ) (xs : List Expected) (t : Token) → n ≤ 64 → 64 ≤ limit → open_after t n ≤ 64
    → next (room_to 64 n) xs t ≡ next (room_to limit n) xs t
next_alike limit n xs t few more within = by_room (nat_lt n 64) (nat_lt n limit) refl refl
  where
    by_room : (a b : Bool) → nat_lt n 64 ≡ a → nat_lt n limit ≡ b → next a xs t ≡ next b xs t
    by_room true true c d = refl
    by_room true false c d = let wrong : ⊥ = grind (arith, common_steps) in absurd wrong
    by_room false b c d = let full : 64 ≤ n = grind (arith, common_steps) in
        same_next false b xs t (opens_no t n (omega (arith, full, within)))

-- Where the next token cannot come, no more tokens come of those that open at most 64 brackets, though more may be open
-- after them.
stopped : (ts : List Token) (k n limit : ℕ) (xs : List Expected) (rest : List Token) (left : ℕ) → n ≤ 64 → 64 ≤ limit
    → drive n xs ts ≡ Some left → most_open n (take k ts) ≤ 64 → drive_to limit n xs (take k ts ++ rest) ≡ None
    → k ≤ length ts → k + left ≤ length ts
unfolding drive_to
stopped ts zero n limit xs rest left few more e fits on within =
    let h : left ≤ length ts = left_within ts n xs left e in omega (arith, h)
stopped [] (suc k) n limit xs rest left few more e fits on within = absurd (omega (arith, within))
stopped (t ∷ ts) (suc k) n limit xs rest left few more e fits on within =
    went (next (room_to 64 n) xs t) e (subst Q (sym (next_alike limit n xs t few more opened)) on)
    (λ ys. stopped ts k (open_after t n) limit ys rest left opened more)
  where
    opened : open_after t n ≤ 64
    opened = let h : open_after t n ≤ most_open (open_after t n) (take k ts) =
        least (open_after t n) (take k ts) in omega (arith, h, fits)

    later : most_open (open_after t n) (take k ts) ≤ 64
    later = omega (arith, fits)

    Q : Option (List Expected) → Type 0
    Q m = read_on (length (take k ts ++ rest)) (λ ys. drive_to limit (open_after t n) ys (take k ts ++ rest)) m ≡ None

    went : (m : Option (List Expected)) → read_on (length ts) (λ ys. drive (open_after t n) ys ts) m ≡ Some left → Q m
        → ((ys : List Expected) → drive (open_after t n) ys ts ≡ Some left → most_open (open_after t n) (take k ts) ≤ 64
        → drive_to limit (open_after t n) ys (take k ts ++ rest) ≡ None → k ≤ length ts → k + left ≤ length ts)
        → suc k + left ≤ suc (length ts)
    went None e on inner = absurd (cc)
    went (Some ys) e on inner =
        let h : k + left ≤ length ts = inner ys e later on (omega (arith, within)) in omega (arith, h)

-- No more of the tokens can go on than come.
pub no_more : (ts : List Token) (left : ℕ) → drive 0 (Items ∷ []) ts ≡ Some left → (k : ℕ) → k ≤ length ts
    → CanGoOn (take k ts) → k + left ≤ length ts
no_more ts left e k within c =
    let limit : ℕ = max 64 (most_open 0 (tokens_of c.tree)) in
    let read : drive_to limit 0 (Items ∷ []) (tokens_of c.tree) ≡ None =
    program_read limit c.tree c.grammar (omega arith) in
    let P : List Token → Type 0 = λ l. drive_to limit 0 (Items ∷ []) l ≡ None in
    stopped ts k 0 limit (Items ∷ []) c.rest left (omega arith) (omega arith) e c.brackets
    (subst P c.written read) within

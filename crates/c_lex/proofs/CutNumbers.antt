-- A number is the same in a text that is cut short after it.
use Rattle.std.proofs.Common.{◌≡◌, ◌∙◌, ℕ, ◌+◌, ◌<◌, ◌≤◌, ◌==◌, nat_lt, Bool, true, false, ◌&&◌, ◌||◌, refl, sym, ap, if◌then◌else◌, List, [], ◌∷◌, ◌++◌, length, take, drop, arith, Option, None, Some, length-drop}
use Rattle.std.specs.Prelude.{slice_index}
use Rattle.std.proofs.lemmas.List.{take-append-le, drop-append-le}
use Rattle.c_lex.specs.declared.classes.Class.TheVariants.{Digit, Hexadecimal}
use Rattle.c_lex.specs.declared.numbers.Radix.TheVariants.{Decimal, Hexadecimal as HexadecimalRadix}
use Rattle.c_lex.specs.declared.pieces.Piece.TheVariants.{Is, Bad}
use Rattle.c_tree.specs.declared.tokens.Token.{Token}
use Rattle.c_lex.specs.Bytes.{is_of_name, is_hexadecimal, run}
use Rattle.c_lex.specs.Numbers.{number_of, word_value, is_suffix, number_token, number_piece, is_hexadecimal_number, decimal_at, hexadecimal_at, number_at}
use Rattle.c_lex.proofs.CutRuns.{run_cut}

token_count : (value : Option ℕ) (suffix : Bool) (count : ℕ) (t : Token) (n : ℕ) → number_token value suffix count
    ≡ Is t n → n ≡ count
token_count None suffix count t n e = cc
token_count (Some v) suffix count t n e = cc

piece_count : (value : Option ℕ) (count : ℕ) (behind : List ℕ) (t : Token) (n : ℕ) → number_piece value count behind
    ≡ Is t n → count ≤ n
piece_count value count behind t n e =
    either (is_suffix (slice_index behind 0)) (is_of_name (slice_index behind 1)) (is_of_name (slice_index behind 0)) e
  where
    either : (a b c : Bool) → (if a then (if b then Bad else number_token value true (count + 1)) else
        (if c then Bad else number_token value false count)) ≡ Is t n → count ≤ n
    either true true c e = cc
    either true false c e = omega (arith, token_count value true (count + 1) t n e)
    either false b true e = cc
    either false b false e = omega (arith, token_count value false count t n e)

piece_cut : (value : Option ℕ) (count : ℕ) (xs ys : List ℕ) (t : Token) (n : ℕ) → n ≤ count + length xs
    → number_piece value count (xs ++ ys) ≡ Is t n → number_piece value count xs ≡ Is t n
piece_cut value count [] ys t n within e =
    either (is_suffix (slice_index ys 0)) (is_of_name (slice_index ys 1)) (is_of_name (slice_index ys 0)) e
  where
    either : (a b c : Bool) → (if a then (if b then Bad else number_token value true (count + 1)) else
        (if c then Bad else number_token value false count)) ≡ Is t n
        → number_token value false count ≡ Is t n
    either true true c e = cc
    either true false c e = absurd (omega (arith, within, token_count value true (count + 1) t n e))
    either false b true e = cc
    either false b false e = e
piece_cut value count (x ∷ []) ys t n within e =
    either (is_suffix x) (is_of_name (slice_index (x ∷ ys) 1)) (is_of_name x) e
  where
    either : (a b c : Bool) → (if a then (if b then Bad else number_token value true (count + 1)) else
        (if c then Bad else number_token value false count)) ≡ Is t n
        → (if a then number_token value true (count + 1) else (if c then Bad else number_token value false count))
        ≡ Is t n
    either true true c e = cc
    either true false c e = e
    either false b c e = e
piece_cut value count (x ∷ y ∷ xs) ys t n within e = e

hexadecimal_less : (xs ys : List ℕ) → is_hexadecimal_number (xs ++ ys) ≡ false → is_hexadecimal_number xs ≡ false
hexadecimal_less [] ys e = refl
hexadecimal_less (x ∷ []) ys e = elim (x == 48) as (λ t. t && false ≡ false) [ true ↦ refl | false ↦ refl ]
hexadecimal_less (x ∷ y ∷ []) ys e =
    elim (x == 48) as (λ t. t && ((y == 120 || y == 88) && false) ≡ false) [
      | true ↦ elim (y == 120 || y == 88) as (λ t. t && false ≡ false) [ true ↦ refl | false ↦ refl ]
      | false ↦ refl
    ]
hexadecimal_less (x ∷ y ∷ z ∷ xs) ys e = e

-- so many digits, after which a number has so many bytes
digits_cut : (V : List ℕ → Option ℕ) (count k : ℕ) (xs ys : List ℕ) (t : Token) (n : ℕ) → k ≤ length xs
    → n + k ≤ count + length xs
    → number_piece (V (take k (xs ++ ys))) count (drop k (xs ++ ys)) ≡ Is t n
    → number_piece (V (take k xs)) count (drop k xs) ≡ Is t n
digits_cut V count k xs ys t n k_within within e =
    let front = take-append-le k xs ys k_within in
    let behind = drop-append-le k xs ys k_within in
    piece_cut (V (take k xs)) count (drop k xs) ys t n (omega (arith, k_within, within, length-drop k xs))
    (ap (λ v. number_piece (V v) count (drop k xs ++ ys)) (sym front)
    ∙ ap (λ b. number_piece (V (take k (xs ++ ys))) count b) (sym behind) ∙ e)

abbrev decimal : List ℕ → Option ℕ
decimal ds = word_value (number_of Decimal 0 ds)

abbrev hexadecimal : List ℕ → Option ℕ
hexadecimal ds = word_value (number_of HexadecimalRadix 0 ds)

decimal_cut : (x : ℕ) (xs ys : List ℕ) (t : Token) (n : ℕ) → n ≤ length (x ∷ xs)
    → decimal_at (run Digit (x ∷ xs ++ ys)) (x ∷ xs ++ ys) ≡ Is t n → decimal_at (run Digit (x ∷ xs)) (x ∷ xs) ≡ Is t n
decimal_cut x xs ys t n within e =
    either (run Digit (x ∷ xs ++ ys)) (run_cut Digit (x ∷ xs) ys) (nat_lt 1 (run Digit (x ∷ xs ++ ys)) && x == 48) refl
    e
  where
    either : (k : ℕ) → (k ≤ length (x ∷ xs) → run Digit (x ∷ xs) ≡ k) → (c : Bool) → nat_lt 1 k && x == 48 ≡ c
        → (if c then Bad else number_piece (decimal (take k (x ∷ xs ++ ys))) k (drop k (x ∷ xs ++ ys))) ≡ Is t n
        → decimal_at (run Digit (x ∷ xs)) (x ∷ xs) ≡ Is t n
    either k same true f e = cc
    either k same false f e =
        let some = piece_count (decimal (take k (x ∷ xs ++ ys))) k (drop k (x ∷ xs ++ ys)) t n e in
        ap (λ m. decimal_at m (x ∷ xs)) (same (omega (arith, within, some)))
        ∙ ap (λ b. if b then Bad else number_piece (decimal (take k (x ∷ xs))) k (drop k (x ∷ xs))) f
        ∙ digits_cut decimal k k (x ∷ xs) ys t n (omega (arith, within, some)) (omega (arith, within)) e

last_true : (a b c : Bool) → a && (b && c) ≡ true → c ≡ true
last_true true true c e = e
last_true true false c e = cc
last_true false b c e = cc

hexadecimal_some : (bs : List ℕ) → is_hexadecimal_number bs ≡ true → 0 < run Hexadecimal (drop 2 bs)
hexadecimal_some [] h = cc
hexadecimal_some (x ∷ []) h = cc (last_true (x == 48) false false h)
hexadecimal_some (x ∷ y ∷ []) h = cc (last_true (x == 48) (y == 120 || y == 88) false h)
hexadecimal_some (x ∷ y ∷ z ∷ bs) h = rw (last_true (x == 48) (y == 120 || y == 88) (is_hexadecimal z) h) (omega arith)

hexadecimal_count : (bs : List ℕ) (t : Token) (n : ℕ) → hexadecimal_at (run Hexadecimal (drop 2 bs)) bs ≡ Is t n
    → run Hexadecimal (drop 2 bs) + 2 ≤ n
hexadecimal_count bs t n e = piece_count (hexadecimal (take (run Hexadecimal (drop 2 bs)) (drop 2 bs)))
    (run Hexadecimal (drop 2 bs) + 2) (drop (run Hexadecimal (drop 2 bs)) (drop 2 bs)) t n e

hexadecimal_cut : (xs ys : List ℕ) (t : Token) (n : ℕ) → n ≤ length xs → is_hexadecimal_number (xs ++ ys) ≡ true
    → hexadecimal_at (run Hexadecimal (drop 2 (xs ++ ys))) (xs ++ ys) ≡ Is t n
    → (is_hexadecimal_number xs ≡ true) × (hexadecimal_at (run Hexadecimal (drop 2 xs)) xs ≡ Is t n)
hexadecimal_cut [] ys t n within h e = absurd (omega (arith, within, hexadecimal_some ys h, hexadecimal_count ys t n e))
hexadecimal_cut (x ∷ []) ys t n within h e =
    absurd (omega (arith, within, hexadecimal_some (x ∷ ys) h, hexadecimal_count (x ∷ ys) t n e))
hexadecimal_cut (x ∷ y ∷ []) ys t n within h e =
    absurd (omega (arith, within, hexadecimal_some (x ∷ y ∷ ys) h, hexadecimal_count (x ∷ y ∷ ys) t n e))
hexadecimal_cut (x ∷ y ∷ z ∷ xs) ys t n within h e = (
  h,
  either (run Hexadecimal (z ∷ xs ++ ys))
      (run_cut Hexadecimal (z ∷ xs) ys) (hexadecimal_count (x ∷ y ∷ z ∷ xs ++ ys) t n e) e,
)
  where
    either : (k : ℕ) → (k ≤ length (z ∷ xs) → run Hexadecimal (z ∷ xs) ≡ k) → k + 2 ≤ n
        → hexadecimal_at k (x ∷ y ∷ z ∷ xs ++ ys) ≡ Is t n
        → hexadecimal_at (run Hexadecimal (z ∷ xs)) (x ∷ y ∷ z ∷ xs) ≡ Is t n
    either k same some e =
        ap (λ m. hexadecimal_at m (x ∷ y ∷ z ∷ xs)) (same (omega (arith, within, some)))
        ∙ digits_cut hexadecimal (k + 2) k (z ∷ xs) ys t n (omega (arith, within, some)) (omega (arith, within)) e

pub number_at_cut : (x : ℕ) (xs ys : List ℕ) (t : Token) (n : ℕ) → n ≤ length (x ∷ xs) → number_at (x ∷ xs ++ ys)
    ≡ Is t n → number_at (x ∷ xs) ≡ Is t n
number_at_cut x xs ys t n within e = either (is_hexadecimal_number (x ∷ xs ++ ys)) refl e
  where
    either : (c : Bool) → is_hexadecimal_number (x ∷ xs ++ ys) ≡ c
        → (if c then hexadecimal_at (run Hexadecimal (drop 2 (x ∷ xs ++ ys))) (x ∷ xs ++ ys) else decimal_at
        (run Digit (x ∷ xs ++ ys)) (x ∷ xs ++ ys)) ≡ Is t n
        → (if is_hexadecimal_number (x ∷ xs) then hexadecimal_at (run Hexadecimal (drop 2 (x ∷ xs)))
        (x ∷ xs) else decimal_at (run Digit (x ∷ xs)) (x ∷ xs)) ≡ Is t n
    either true h e =
        let both = hexadecimal_cut (x ∷ xs) ys t n within h e in
        ap (λ c. if c then hexadecimal_at (run Hexadecimal (drop 2 (x ∷ xs))) (x ∷ xs) else decimal_at
        (run Digit (x ∷ xs)) (x ∷ xs)) both.0 ∙ both.1
    either false h e =
        ap (λ c. if c then hexadecimal_at (run Hexadecimal (drop 2 (x ∷ xs))) (x ∷ xs) else decimal_at
        (run Digit (x ∷ xs)) (x ∷ xs)) (hexadecimal_less (x ∷ xs) ys h)
        ∙ decimal_cut x xs ys t n within e

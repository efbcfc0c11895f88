-- A token is the longest one that can stand at its place.
use Rattle.std.proofs.Common.{◌≡◌, ◌≢◌, ◌∙◌, ℕ, ◌+◌, ◌<◌, ◌≤◌, ◌==◌, Bool, true, false, refl, sym, ap, if◌then◌else◌, List, [], ◌∷◌, ◌++◌, length, take, drop, arith, Option, None, Some, subst}
use Rattle.std.specs.Prelude.{bytes_eq, codes}
use Rattle.std.proofs.lemmas.List.{take-append-le, take-append-drop, length-take-le}
use Rattle.std.proofs.lemmas.Slice.Eq.{bytes_eq-Decides}
use Rattle.c_lex.specs.declared.classes.Class.TheVariants.{Name, InLine}
use Rattle.c_lex.specs.declared.pieces.Piece.{Piece}
use Rattle.c_lex.specs.declared.pieces.Piece.TheVariants.{Between, Is, Bad}
use Rattle.c_tree.specs.declared.tokens.Token.{Token}
use Rattle.c_lex.specs.Bytes.{is_blank, begins_name, is_digit, run, begins_with}
use Rattle.c_lex.specs.Blanks.{comment_length, comment_of, begins_line}
use Rattle.c_lex.specs.Names.{word_of}
use Rattle.c_lex.specs.Numbers.{number_at}
use Rattle.c_lex.specs.Signs.{sign_at}
use Rattle.c_lex.specs.Bounds.{word_bound, line_bound}
use Rattle.c_lex.specs.Pieces.{or_bad}
use Rattle.c_lex.specs.Texts.{name_at, pragma_at, comment_or_sign_at, piece_after}
use Rattle.c_lex.specs.Longest.{IsLongest}
use Rattle.c_lex.proofs.CutRuns.{run_within, run_cut, begins_less}
use Rattle.c_lex.proofs.CutSigns.{sign_at_cut}
use Rattle.c_lex.proofs.CutNumbers.{number_at_cut}
use Rattle.c_lex.proofs.BoundPieces.{word_bound_cut, word_bound_long, line_bound_cut}
use Rattle.c_lex.proofs.Sizes.{piece_within}
use Rattle.c_lex.specs.Pieces.{IsWithin}

or_bad_is : (o : Option Piece) (t : Token) (n : ℕ) → or_bad o ≡ Is t n → o ≡ Some (Is t n)
or_bad_is None t n e = cc
or_bad_is (Some p) t n e = ap (λ q. Some q) e

-- what begins with a name of so many bytes, if the bound is this
abbrev named : ℕ → List ℕ → Option Piece → Piece
named k name bound = if bytes_eq name (codes "_Pragma") then or_bad bound else Is (word_of name) k

as_whole : (x : ℕ) (xs ys : List ℕ) (k : ℕ) (bound : Option Piece) → run Name (x ∷ xs) ≡ k → k ≤ length (x ∷ xs)
    → named (run Name (x ∷ xs)) (take (run Name (x ∷ xs)) (x ∷ xs)) bound ≡ named k (take k (x ∷ xs ++ ys)) bound
as_whole x xs ys k bound same short = ap (λ m. named m (take m (x ∷ xs)) bound) same
    ∙ ap (λ w. named k w bound) (sym (take-append-le k (x ∷ xs) ys short))

name_cut : (x : ℕ) (xs ys : List ℕ) (t : Token) (n : ℕ) → n ≤ length (x ∷ xs) → name_at (x ∷ xs ++ ys) ≡ Is t n
    → name_at (x ∷ xs) ≡ Is t n
name_cut x xs ys t n within e =
    either (run Name (x ∷ xs ++ ys)) (run_cut Name (x ∷ xs) ys) (run_within Name (x ∷ xs ++ ys))
    (bytes_eq (take (run Name (x ∷ xs ++ ys)) (x ∷ xs ++ ys)) (codes "_Pragma")) refl e
  where
    either : (k : ℕ) → (k ≤ length (x ∷ xs) → run Name (x ∷ xs) ≡ k) → k ≤ length (x ∷ xs ++ ys) → (c : Bool)
        → bytes_eq (take k (x ∷ xs ++ ys)) (codes "_Pragma") ≡ c
        → (if c then or_bad (word_bound (x ∷ xs ++ ys)) else Is (word_of (take k (x ∷ xs ++ ys))) k) ≡ Is t n
        → named (run Name (x ∷ xs)) (take (run Name (x ∷ xs)) (x ∷ xs)) (word_bound (x ∷ xs)) ≡ Is t n
    either k same inside false f e =
        let count : k ≡ n = cc in
        let whole = same (omega (arith, within, count)) in
        as_whole x xs ys k (word_bound (x ∷ xs)) whole (omega (arith, within, count))
        ∙ ap (λ c. if c then or_bad (word_bound (x ∷ xs)) else Is (word_of (take k (x ∷ xs ++ ys))) k) f ∙ e
    either k same inside true f e =
        let found = word_bound_cut (x ∷ xs) ys t n within (or_bad_is (word_bound (x ∷ xs ++ ys)) t n e) in
        let seven : k ≡ 7 = sym (length-take-le k (x ∷ xs ++ ys) inside)
        ∙ ap length ((bytes_eq-Decides (take k (x ∷ xs ++ ys)) (codes "_Pragma")).0 f) in
        let short : k ≤ length (x ∷ xs) = omega (arith, seven, word_bound_long (x ∷ xs) (Is t n) found) in
        as_whole x xs ys k (word_bound (x ∷ xs)) (same short) short
        ∙ ap (λ c. if c then or_bad (word_bound (x ∷ xs)) else Is (word_of (take k (x ∷ xs ++ ys))) k) f
        ∙ ap or_bad found

pragma_cut : (before xs ys : List ℕ) (t : Token) (n : ℕ) → n ≤ length xs → pragma_at before (xs ++ ys) ≡ Is t n
    → pragma_at before xs ≡ Is t n
pragma_cut before xs ys t n within e = either (begins_line before) e
  where
    either : (c : Bool) → (if c then or_bad (line_bound (xs ++ ys)) else Bad) ≡ Is t n
        → (if c then or_bad (line_bound xs) else Bad) ≡ Is t n
    either true e = ap or_bad (line_bound_cut xs ys t n within (or_bad_is (line_bound (xs ++ ys)) t n e))
    either false e = e

comment_is_none : (text : List ℕ) (t : Token) (n : ℕ) → comment_of text ≢ Is t n
comment_is_none text t n e = either (comment_length text) e
  where
    either : (o : Option ℕ) → (elim o as (λ _. Piece) [ None ↦ Bad | Some k ↦ Between (k + 2) ]) ≡ Is t n → ⊥
    either None e = cc
    either (Some k) e = cc

-- a comment by two tests of what the bytes begin with, or else a sign
abbrev either_of : Bool → Bool → List ℕ → Piece
either_of line block bs =
    elim (if line then Some (Between (run InLine bs)) else (if block then Some (comment_of (drop 2 bs)) else
    None)) as (λ _. Piece) [ Some p ↦ p | None ↦ sign_at bs ]

comment_or_sign_cut : (x : ℕ) (xs ys : List ℕ) (t : Token) (n : ℕ) → n ≤ length (x ∷ xs) → comment_or_sign_at (x ∷ xs
    ++ ys) ≡ Is t n → comment_or_sign_at (x ∷ xs) ≡ Is t n
comment_or_sign_cut x xs ys t n within e =
    either (begins_with (codes "//") (x ∷ xs ++ ys)) refl (begins_with (codes "/*") (x ∷ xs ++ ys)) refl e
  where
    either : (c : Bool) → begins_with (codes "//") (x ∷ xs ++ ys) ≡ c → (d : Bool)
        → begins_with (codes "/*") (x ∷ xs ++ ys) ≡ d
        → either_of c d (x ∷ xs ++ ys) ≡ Is t n → comment_or_sign_at (x ∷ xs) ≡ Is t n
    either true f d g e = cc
    either false f true g e = absurd (comment_is_none (drop 2 (x ∷ xs ++ ys)) t n e)
    either false f false g e =
        ap (λ c. either_of c (begins_with (codes "/*") (x ∷ xs)) (x ∷ xs)) (begins_less (codes "//") (x ∷ xs) ys f)
        ∙ ap (λ d. either_of false d (x ∷ xs)) (begins_less (codes "/*") (x ∷ xs) ys g)
        ∙ sign_at_cut (x ∷ xs) ys t n (omega arith) within e

-- a token is the same in a text that is cut short after it
cut : (before : List ℕ) (x : ℕ) (xs ys : List ℕ) (t : Token) (n : ℕ) → n ≤ length (x ∷ xs) → piece_after before (x ∷ xs
    ++ ys) ≡ Is t n → piece_after before (x ∷ xs) ≡ Is t n
unfolding piece_after
cut before x xs ys t n within e = either (is_blank x) (begins_name x) (is_digit x) (x == 35) e
  where
    either : (b c d f : Bool)
        → (if b then Between 1 else (if c then name_at (x ∷ xs ++ ys) else (if d then number_at (x ∷ xs ++ ys) else
        (if f then pragma_at before (x ∷ xs ++ ys) else comment_or_sign_at (x ∷ xs ++ ys))))) ≡ Is t n
        → (if b then Between 1 else (if c then name_at (x ∷ xs) else (if d then number_at (x ∷ xs) else
        (if f then pragma_at before (x ∷ xs) else comment_or_sign_at (x ∷ xs))))) ≡ Is t n
    either true c d f e = cc
    either false true d f e = name_cut x xs ys t n within e
    either false false true f e = number_at_cut x xs ys t n within e
    either false false false true e = pragma_cut before (x ∷ xs) ys t n within e
    either false false false false e = comment_or_sign_cut x xs ys t n within e

front_cut : (before front behind : List ℕ) (t : Token) (n : ℕ) → 0 < length front → n ≤ length front
    → piece_after before (front ++ behind) ≡ Is t n → piece_after before front ≡ Is t n
front_cut before [] behind t n some within e = absurd (omega arith)
front_cut before (x ∷ xs) behind t n some within e = cut before x xs behind t n within e

nothing_is_none : (before : List ℕ) → piece_after before [] ≡ Bad
unfolding piece_after
nothing_is_none before = refl

-- the same in every front of the text in which it fits
same_in_front : (before bs : List ℕ) (t : Token) (count : ℕ) → piece_after before bs ≡ Is t count → (0 < count)
    × (count ≤ length bs) → (m : ℕ) → count ≤ m → m ≤ length bs
    → piece_after before (take m bs) ≡ Is t count
same_in_front before bs t count e within m reached inside =
    let long = length-take-le m bs inside in
    front_cut before (take m bs) (drop m bs) t count (omega (arith, long, within.0, reached))
    (omega (arith, long, reached)) (ap (piece_after before) (take-append-drop m bs) ∙ e)

token_within : (before bs : List ℕ) (t : Token) (count : ℕ) → piece_after before bs ≡ Is t count → (0 < count)
    × (count ≤ length bs)
token_within before [] t count e = cc (nothing_is_none before)
token_within before (x ∷ xs) t count e = let W : Piece → Type 0 = λ p. IsWithin p (length (x ∷ xs)) in
    subst W e (piece_within before (x ∷ xs) (omega arith))

pub token_is_longest : (before bs : List ℕ) (t : Token) (count : ℕ) → piece_after before bs ≡ Is t count
    → IsLongest before bs t count
token_is_longest before bs t count e =
    let within = token_within before bs t count e in
    record {
      alone = same_in_front before bs t count e within count (omega arith) within.1;
      longest = λ more further inside u h. let same = same_in_front before bs t count e within more (omega
          (arith, further)) inside in let equal : count ≡ more = cc in absurd (omega (arith, further, equal));
    }

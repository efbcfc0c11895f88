-- What a text is from a place on, once the piece there is known.
use Rattle.std.proofs.Common.{◌≡◌, ◌∙◌, ℕ, zero, suc, ◌+◌, ◌-◌, ◌<◌, ◌≤◌, nat_le, Bool, true, false, refl, sym, ap, if◌then◌else◌, List, [], ◌∷◌, ◌++◌, length, take, drop, arith, length-drop, append_assoc}
use Rattle.std.proofs.lemmas.List.{append-nil}
use Rattle.std.proofs.lemmas.Bool.Decides.{nat_tests}
use Rattle.c_tree.specs.declared.tokens.Token.{Token}
use Rattle.c_lex.specs.declared.pieces.Piece.{Piece}
use Rattle.c_lex.specs.declared.pieces.Piece.TheVariants.{Between, Is, Bad, Wide}
use Rattle.c_lex.specs.Pieces.{IsWithin}
use Rattle.c_lex.specs.Texts.{piece_at, Lexed, tokens, no_token, too_wide, preceded, after_piece, lexed_from, lexed}
use Rattle.c_lex.proofs.Sizes.{piece_within}

at_within : (text : List ℕ) (at : ℕ) → at < length text → IsWithin (piece_at text at) (length (drop at text))
at_within text at h = piece_within (take at text) (drop at text) (omega (arith, h, length-drop at text))

-- it is told by what the text is from later places on
same_after : (p : Piece) (at left : ℕ) (f g : ℕ → Lexed) → IsWithin p left → ((count : ℕ) → 0 < count → f (at + count)
    ≡ g (at + count)) → after_piece at f p ≡ after_piece at g p
same_after (Between count) at left f g within later = later count within.0
same_after (Is t count) at left f g within later = ap (preceded t) (later count within.0)
same_after Bad at left f g within later = refl
same_after (Wide further) at left f g within later = refl

-- as many pieces as bytes are enough
pub enough : (m n : ℕ) (text : List ℕ) (at : ℕ) → length text ≤ at + m → length text ≤ at + n → lexed_from m text at
    ≡ lexed_from n text at
enough zero zero text at h k = refl
enough zero (suc n) text at h k =
    let past : nat_le (length text) at ≡ true = grind (arith, nat_tests, h) in rw past refl
enough (suc m) zero text at h k =
    let past : nat_le (length text) at ≡ true = grind (arith, nat_tests, k) in rw past refl
enough (suc m) (suc n) text at h k = either (λ count some. enough m n text (at + count) (omega (arith, h, some))
    (omega (arith, k, some))) (nat_le (length text) at) refl
  where
    either : ((count : ℕ) → 0 < count → lexed_from m text (at + count) ≡ lexed_from n text (at + count)) → (t : Bool)
        → nat_le (length text) at ≡ t
        → (if t then tokens [] else after_piece at (lexed_from m text) (piece_at text at))
        ≡ (if t then tokens [] else after_piece at (lexed_from n text) (piece_at text at))
    either later true e = refl
    either later false e =
        let inside : at < length text = grind (arith, nat_tests, e) in
        same_after (piece_at text at) at (length (drop at text)) (lexed_from m text) (lexed_from n text)
        (at_within text at inside) later

-- what a text is from a place on
unfoldable pub rest_of : List ℕ → ℕ → Lexed
rest_of text at = lexed_from (length text - at) text at

-- with tokens before it
abbrev pub joined : List Token → Lexed → Lexed
joined ts (tokens us) = tokens (ts ++ us)
joined ts (no_token at) = no_token at
joined ts (too_wide at) = too_wide at

joined-preceded : (ts : List Token) (t : Token) (rest : Lexed) → joined (ts ++ t ∷ []) rest
    ≡ joined ts (preceded t rest)
joined-preceded ts t (tokens us) = ap tokens (append_assoc ts (t ∷ []) us)
joined-preceded ts t (no_token at) = refl
joined-preceded ts t (too_wide at) = refl

joined-nil : (rest : Lexed) → joined [] rest ≡ rest
joined-nil (tokens us) = refl
joined-nil (no_token at) = refl
joined-nil (too_wide at) = refl

pub at_first : (text : List ℕ) → joined [] (rest_of text 0) ≡ lexed text
unfolding rest_of
at_first text = let all : length text - 0 ≡ length text = omega arith in rw all (joined-nil (lexed text))

step : (text : List ℕ) (at : ℕ) → at < length text → rest_of text at ≡ after_piece at (rest_of text) (piece_at text at)
unfolding rest_of
step text at inside =
    let turns : length text - at ≡ suc (length text - at - 1) = omega (arith, inside) in
    let unread : nat_le (length text) at ≡ false = grind (arith, nat_tests, inside) in
    rw turns (rw unread (same_after (piece_at text at) at (length (drop at text))
    (lexed_from (length text - at - 1) text) (λ k. lexed_from (length text - k) text k) (at_within text at inside)
    (λ count some. enough (length text - at - 1) (length text - (at + count)) text (at + count)
    (omega (arith, inside, some)) (omega (arith, inside, some)))))

pub past_between : (text : List ℕ) (at count : ℕ) (found : List Token) → at < length text → Between count
    ≡ piece_at text at
    → joined found (rest_of text (at + count)) ≡ joined found (rest_of text at)
past_between text at count found inside e =
    ap (joined found) (ap (after_piece at (rest_of text)) e ∙ sym (step text at inside))

pub past_token : (text : List ℕ) (at count : ℕ) (t : Token) (found : List Token) → at < length text → Is t count
    ≡ piece_at text at
    → joined (found ++ t ∷ []) (rest_of text (at + count)) ≡ joined found (rest_of text at)
past_token text at count t found inside e =
    joined-preceded found t (rest_of text (at + count)) ∙ ap (joined found) (ap (after_piece at (rest_of text)) e
    ∙ sym (step text at inside))

pub at_bad : (text : List ℕ) (at : ℕ) (found : List Token) → at < length text → Bad ≡ piece_at text at
    → joined found (rest_of text at) ≡ no_token at
at_bad text at found inside e = ap (joined found) (step text at inside ∙ ap (after_piece at (rest_of text)) (sym e))

pub at_wide : (text : List ℕ) (at further : ℕ) (found : List Token) → at < length text → Wide further ≡ piece_at text at
    → joined found (rest_of text at) ≡ too_wide (at + further)
at_wide text at further found inside e =
    ap (joined found) (step text at inside ∙ ap (after_piece at (rest_of text)) (sym e))

pub at_last : (text : List ℕ) (at : ℕ) (found : List Token) → length text ≤ at → joined found (rest_of text at)
    ≡ tokens found
unfolding rest_of
at_last text at found past =
    let none : length text - at ≡ 0 = omega (arith, past) in rw none (ap tokens (append-nil found))

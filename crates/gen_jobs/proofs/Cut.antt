-- The pieces at the front of a text, so many at once, and the tokens among them.
use Rattle.std.proofs.Common.{◌≡◌, ◌∙◌, ℕ, zero, suc, ◌+◌, ◌≤◌, ◌==◌, nat_le, Bool, true, false, refl, sym, ap, if◌then◌else◌, List, [], ◌∷◌, ◌++◌, length, take, drop, arith, append_assoc, length-drop, drop-drop, Option, None, Some, option_map}
use Rattle.std.proofs.lemmas.Bool.Decides.{nat_tests}
use Rattle.std.proofs.lemmas.Grind.{common_steps}
use Rattle.c_tree.specs.declared.tokens.Token.{Token}
use Rattle.c_lex.specs.declared.pieces.Piece.{Piece}
use Rattle.c_lex.specs.declared.pieces.Piece.TheVariants.{Between, Is, Bad, Wide}
use Rattle.c_lex.specs.Texts.{piece_after, tokens, preceded, after_piece, lexed_from, lexed}

-- tokens, and the text that is left after them
abbrev pub Front : Type 0
Front = Option (List Token × List ℕ)

abbrev pub in_front : List Token → Front → Front
in_front ts front = option_map (λ f. (ts ++ f.0, f.1)) front

-- a piece with a byte at least, and what comes after it
abbrev pub cut_piece : (List ℕ → Front) → List ℕ → Piece → Front
cut_piece more bs (Between (suc count)) = more (drop (suc count) bs)
cut_piece more bs (Is t (suc count)) = in_front (t ∷ []) (more (drop (suc count) bs))
cut_piece more bs _ = None

-- So many pieces at the front of a text. Only `#` asks for what stands before it, and here none is let through.
abbrev pub cut : ℕ → List ℕ → Front
cut zero bs = Some ([], bs)
cut (suc pieces) [] = None
cut (suc pieces) (b ∷ bs) = if b == 35 then None else cut_piece (cut pieces) (b ∷ bs) (piece_after [] (b ∷ bs))

-- ---- one part of a text after another

in_front_twice : (ts us : List Token) (front : Front) → in_front (ts ++ us) front ≡ in_front ts (in_front us front)
in_front_twice ts us None = refl
in_front_twice ts us (Some f) = ap (λ vs. Some (vs, f.1)) (append_assoc ts us f.0)

-- what is cut after a front
abbrev pub cut_after : ℕ → Front → Front
cut_after pieces None = None
cut_after pieces (Some f) = in_front f.0 (cut pieces f.1)

in_front_after : (pieces : ℕ) (t : Token) (front : Front) → cut_after pieces (in_front (t ∷ []) front)
    ≡ in_front (t ∷ []) (cut_after pieces front)
in_front_after pieces t None = refl
in_front_after pieces t (Some f) = in_front_twice (t ∷ []) f.0 (cut pieces f.1)

in_front_none : (front : Front) → front ≡ in_front [] front
in_front_none None = refl
in_front_none (Some f) = refl

piece_by_piece : (m : ℕ) (f g : List ℕ → Front) (bs : List ℕ) (p : Piece) → ((cs : List ℕ) → f cs ≡ cut_after m (g cs))
    → cut_piece f bs p ≡ cut_after m (cut_piece g bs p)
piece_by_piece m f g bs (Between (suc count)) same = same (drop (suc count) bs)
piece_by_piece m f g bs (Is t (suc count)) same =
    ap (in_front (t ∷ [])) (same (drop (suc count) bs)) ∙ sym (in_front_after m t (g (drop (suc count) bs)))
piece_by_piece m f g bs _ same = refl

cut_more : (n m : ℕ) (bs : List ℕ) → cut (n + m) bs ≡ cut_after m (cut n bs)
cut_more zero m bs = let same : 0 + m ≡ m = omega arith in rw same (in_front_none (cut m bs))
cut_more (suc n) m [] = let same : suc n + m ≡ suc (n + m) = omega arith in rw same refl
cut_more (suc n) m (b ∷ bs) =
    let same : suc n + m ≡ suc (n + m) = omega arith in rw same (by_sign (b == 35) (cut_more n m))
  where
    at_front : ℕ → Bool → Front
    at_front k t = if t then None else cut_piece (cut k) (b ∷ bs) (piece_after [] (b ∷ bs))

    by_sign : (t : Bool) → ((cs : List ℕ) → cut (n + m) cs ≡ cut_after m (cut n cs)) → at_front (n + m) t
        ≡ cut_after m (at_front n t)
    by_sign true more = refl
    by_sign false more = piece_by_piece m (cut (n + m)) (cut n) (b ∷ bs) (piece_after [] (b ∷ bs)) more

-- A text that begins with these tokens, and what is left of it after them.
pub record Reads (bs : List ℕ) (ts : List Token) (rest : List ℕ) : Type 0 where
  pub pieces : ℕ
  pub cuts : cut pieces bs ≡ Some (ts, rest)

pub reads_none : (bs : List ℕ) → Reads bs [] bs
reads_none bs = record { pieces = 0; cuts = refl }

pub then_reads : {bs mid rest : List ℕ} {ts us : List Token} → Reads bs ts mid → Reads mid us rest
    → Reads bs (ts ++ us) rest
then_reads {bs} {mid} {rest} {ts} {us} first more = record {
  pieces = first.pieces + more.pieces;
  cuts = cut_more first.pieces more.pieces bs ∙ ap (cut_after more.pieces) first.cuts ∙ ap (in_front ts) more.cuts;
}

-- ---- a text that is read whole

-- nothing is left
all_read : (pieces : ℕ) (text : List ℕ) (at : ℕ) → length text ≤ at → lexed_from pieces text at ≡ tokens []
all_read zero text at past = refl
all_read (suc pieces) text at past =
    let over : nat_le (length text) at ≡ true = grind (arith, nat_tests, past) in rw over refl

-- but at `#` a piece does not depend on what stands before it
after_any : (before bs : List ℕ) (b : ℕ) → b == 35 ≡ false → piece_after before (b ∷ bs) ≡ piece_after [] (b ∷ bs)
unfolding piece_after
after_any before bs b other = rw other refl

abbrev pub tokens_in : Front → List Token
tokens_in None = []
tokens_in (Some f) = f.0

abbrev left_in : Front → List ℕ
left_in None = []
left_in (Some f) = f.1

-- in so many pieces a text is read whole from a place on, and so are its tokens there
abbrev Lexes : ℕ → Type 0
Lexes n =
    (bs : List ℕ) (ts : List Token) (text : List ℕ) (at pieces : ℕ) → cut n bs ≡ Some (ts, []) → drop at text ≡ bs
    → length bs ≤ pieces → lexed_from pieces text at ≡ tokens ts

-- after a token
preceded_by : (n : ℕ) → Lexes n → (t : Token) (bs : List ℕ) (ts : List Token) (text : List ℕ) (at pieces : ℕ)
    (front : Front) → cut n bs ≡ front
    → in_front (t ∷ []) front ≡ Some (ts, []) → drop at text ≡ bs → length bs ≤ pieces
    → preceded t (lexed_from pieces text at) ≡ tokens ts
preceded_by n lexes t bs ts text at pieces None is told left room = absurd (grind (arith, common_steps))
preceded_by n lexes t bs ts text at pieces (Some f) is told left room =
    ap (preceded t) (lexes bs f.0 text at pieces (is ∙ ap (λ r. Some (f.0, r)) (ap left_in told)) left room)
    ∙ ap tokens (ap tokens_in told)

-- by the piece that comes first
by_piece : (n : ℕ) → Lexes n → (bs : List ℕ) (ts : List Token) (text : List ℕ) (at pieces : ℕ) (p : Piece)
    → cut_piece (cut n) bs p ≡ Some (ts, []) → drop at text ≡ bs
    → length bs ≤ suc pieces → after_piece at (lexed_from pieces text) p ≡ tokens ts
by_piece n lexes bs ts text at pieces (Between (suc count)) is left room =
    lexes (drop (suc count) bs) ts text (at + suc count) pieces is (sym (drop-drop (suc count) at text)
    ∙ ap (drop (suc count)) left) (omega (arith, room, length-drop (suc count) bs))
by_piece n lexes bs ts text at pieces (Is t (suc count)) is left room =
    preceded_by n lexes t (drop (suc count) bs) ts text (at + suc count) pieces (cut n (drop (suc count) bs)) refl is
    (sym (drop-drop (suc count) at text) ∙ ap (drop (suc count)) left) (omega (arith, room, length-drop (suc count) bs))
by_piece n lexes bs ts text at pieces _ is left room = absurd (grind (arith, common_steps))

lexed_so : (n : ℕ) → Lexes n
lexed_so zero bs ts text at pieces is left room =
    let none : bs ≡ [] = ap left_in is in
    all_read pieces text at (omega (arith, ap length (left ∙ none), length-drop at text)) ∙ ap tokens (ap tokens_in is)
lexed_so (suc n) [] ts text at pieces is left room = absurd (grind (arith, common_steps))
lexed_so (suc n) (b ∷ bs) ts text at zero is left room = absurd (omega (arith, room))
lexed_so (suc n) (b ∷ bs) ts text at (suc pieces) is left room =
    let inside : nat_le (length text) at ≡ false = grind (arith, nat_tests, ap length left, length-drop at text) in
    rw (inside, left) (by_sign (lexed_so n) (b == 35) refl is)
  where
    by_sign : Lexes n → (t : Bool) → b == 35 ≡ t → (if t then None else cut_piece (cut n) (b ∷ bs)
        (piece_after [] (b ∷ bs))) ≡ Some (ts, [])
        → after_piece at (lexed_from pieces text) (piece_after (take at text) (b ∷ bs)) ≡ tokens ts
    by_sign lexes true e cuts = absurd (grind (arith, common_steps))
    by_sign lexes false e cuts = rw (after_any (take at text) bs b e) (by_piece n lexes (b ∷ bs) ts text at pieces
        (piece_after [] (b ∷ bs)) cuts left room)

pub lexed_of : (text : List ℕ) (ts : List Token) → Reads text ts [] → lexed text ≡ tokens ts
lexed_of text ts reads = lexed_so reads.pieces text ts text 0 (length text) reads.cuts refl (omega arith)

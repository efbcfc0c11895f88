-- The first piece of a text, byte by byte.
use Rattle.std.proofs.Common.{◌≡◌, ◌∙◌, ℕ, ◌+◌, ◌<◌, ◌≤◌, Bool, true, false, cond, ◌||◌, ◌==◌, List, [], ◌∷◌, ◌++◌, length, get_or, take, drop, refl, sym, ap, arith, append_assoc}
use Rattle.std.proofs.lemmas.List.{append-nil, at_drop_more, at_drop_all, take_more}
use Rattle.patmos_syntax.specs.declared.statements.Where.{Where}
use Rattle.patmos_syntax.specs.declared.statements.Where.TheVariants.{Plain, Braces, Comment}
use Rattle.patmos_syntax.specs.Statements.{Piece, line_after, put_before, kept, not_blank, statements_of}
use Rattle.patmos_syntax.specs.Where.{is_end, after_byte, is_comment}
use Rattle.patmos_syntax.proofs.Scanned.{scanned, statements_scanned}

put_before-put_before : (f g : List ℕ) (ps : List Piece) → put_before f (put_before g ps) ≡ put_before (f ++ g) ps
put_before-put_before f g [] = refl
put_before-put_before f g (p ∷ ps) = ap (λ t. (p.0, t) ∷ ps) (sym (append_assoc f g p.1))

-- a line goes on after each byte that ends no statement
either_false : (line : ℕ) (newline other : Bool) → newline || other ≡ false → cond newline (line + 1) line ≡ line
either_false line true other ends = cc
either_false line false other ends = refl

line_after-inside : (line b : ℕ) (at : Where) → is_end at b ≡ false → line_after line b ≡ line
line_after-inside line b Plain inside = either_false line (b == 10) (b == 59) inside
line_after-inside line b Braces inside = rw inside refl
line_after-inside line b Comment inside = rw inside refl

-- a byte that ends its piece, one of a comment, and one of the piece
pub scanned-end : (line b : ℕ) (at : Where) (bs : List ℕ) → is_end at b ≡ true → scanned line at (b ∷ bs)
    ≡ (line, []) ∷ scanned (line_after line b) Plain bs
scanned-end line b at bs ends = rw ends refl

scanned-comment : (line b : ℕ) (at : Where) (bs : List ℕ) → is_end at b ≡ false → is_comment (after_byte at b) ≡ true
    → scanned line at (b ∷ bs) ≡ scanned line (after_byte at b) bs
scanned-comment line b at bs goes_on comment = rw (line_after-inside line b at goes_on, goes_on, comment) refl

pub scanned-byte : (line b : ℕ) (at : Where) (bs : List ℕ) → is_end at b ≡ false → is_comment (after_byte at b) ≡ false
    → scanned line at (b ∷ bs) ≡ put_before (b ∷ []) (scanned line (after_byte at b) bs)
scanned-byte line b at bs goes_on text = rw (line_after-inside line b at goes_on, goes_on, text) refl

-- no byte of a comment leaves it
is_comment-after_byte : (at : Where) (b : ℕ) → is_comment (after_byte at b) ≡ false → is_comment at ≡ false
is_comment-after_byte Plain b text = refl
is_comment-after_byte Braces b text = refl
is_comment-after_byte Comment b text = text

-- the text was read up to i, and `end` bytes of it are the piece's so far
pub record Reads (line : ℕ) (text : List ℕ) (at : Where) (end i : ℕ) : Type 0 where
  pub whole : scanned line Plain text ≡ put_before (take end text) (scanned line at (drop i text))
  pub within : end ≤ i
  pub all_kept : is_comment at ≡ false → end ≡ i

pub piece_ends : (line : ℕ) (text : List ℕ) (at : Where) (end i : ℕ) → Reads line text at end i → i < length text
    → is_end at (get_or text i 0) ≡ true
    → statements_of line text ≡ kept line (take end text) (statements_of (line_after line (get_or text i 0))
    (drop (i + 1) text))
piece_ends line text at end i reads within ends =
    statements_scanned line text
    ∙ ap not_blank (reads.whole ∙ ap (put_before (take end text)) (at_drop_more (scanned line at) text i 0 within
    ∙ scanned-end line (get_or text i 0) at (drop (i + 1) text) ends))
    ∙ ap (λ t. kept line t (not_blank (scanned (line_after line (get_or text i 0)) Plain (drop (i + 1) text))))
    (append-nil (take end text))
    ∙ ap (kept line (take end text)) (sym (statements_scanned (line_after line (get_or text i 0)) (drop (i + 1) text)))

pub comment_goes_on : (line : ℕ) (text : List ℕ) (at : Where) (end i : ℕ) → Reads line text at end i → i < length text
    → is_end at (get_or text i 0) ≡ false
    → is_comment (after_byte at (get_or text i 0)) ≡ true
    → Reads line text (after_byte at (get_or text i 0)) end (i + 1)
comment_goes_on line text at end i reads within goes_on comment = record {
  whole = reads.whole ∙ ap (put_before (take end text)) (at_drop_more (scanned line at) text i 0 within
      ∙ scanned-comment line (get_or text i 0) at (drop (i + 1) text) goes_on comment);
  within = omega arith;
  all_kept = λ text_again. cc;
}

pub piece_goes_on : (line : ℕ) (text : List ℕ) (at : Where) (end i : ℕ) → Reads line text at end i → i < length text
    → is_end at (get_or text i 0) ≡ false
    → is_comment (after_byte at (get_or text i 0)) ≡ false → Reads line text (after_byte at (get_or text i 0))
    (i + 1) (i + 1)
piece_goes_on line text at end i reads within goes_on in_text = record {
  whole =
      reads.whole
      ∙ ap (put_before (take end text)) (at_drop_more (scanned line at) text i 0 within
      ∙ scanned-byte line (get_or text i 0) at (drop (i + 1) text) goes_on in_text)
      ∙ put_before-put_before (take end text) (get_or text i 0 ∷ []) (scanned line (after_byte at (get_or text i 0))
      (drop (i + 1) text))
      ∙ ap (λ prefix. put_before prefix (scanned line (after_byte at (get_or text i 0)) (drop (i + 1) text)))
      (ap (λ n. take n text ++ get_or text i 0 ∷ []) (reads.all_kept (is_comment-after_byte at (get_or text i 0)
      in_text)) ∙ sym (take_more text i 0 within));
  within = omega arith;
  all_kept = λ _. refl;
}

pub text_ends : (line : ℕ) (text : List ℕ) (at : Where) (end i : ℕ) → Reads line text at end i → length text ≤ i
    → statements_of line text ≡ kept line (take end text) (statements_of line [])
text_ends line text at end i reads past =
    statements_scanned line text
    ∙ ap not_blank (reads.whole ∙ ap (put_before (take end text)) (at_drop_all (scanned line at) text i past))
    ∙ ap (λ t. kept line t []) (append-nil (take end text))

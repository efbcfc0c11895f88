-- The two forms of a bound: they end in the text, and are the same in a text that is cut short after them.
use Rattle.std.proofs.Common.{◌≡◌, ◌∙◌, ℕ, ◌+◌, ◌-◌, ◌<◌, ◌≤◌, Bool, true, false, refl, sym, ap, subst, if◌then◌else◌, List, ◌++◌, length, arith, Option, None, Some, length-append}
use Rattle.std.specs.Prelude.{codes}
use Rattle.c_lex.specs.declared.pieces.Piece.{Piece}
use Rattle.c_lex.specs.declared.pieces.Piece.TheVariants.{Is, Wide}
use Rattle.c_tree.specs.declared.tokens.Token.{Token}
use Rattle.c_tree.specs.declared.tokens.Token.TheVariants as token
use Rattle.c_lex.specs.Bytes.{past}
use Rattle.c_lex.specs.Blanks.{ends_line}
use Rattle.c_lex.specs.Bounds.{and_then, past_gap, BoundNumber, bound_text, bound_piece, word_bound, line_bound}
use Rattle.c_lex.specs.Pieces.{IsWithin}
use Rattle.c_lex.proofs.CutRuns.{line_cut}
use Rattle.c_lex.proofs.Steady.{both_of, then_is}
use Rattle.c_lex.proofs.SteadyBounds.{past_long, past_steady, gap_long, gap_steady, text_values, text_steady}

-- the token of a bound, by its numbers

abbrev told : Option ℕ × Option ℕ → ℕ → ℕ → ℕ → Piece
told values count at_low at_high = elim values.0 [
  | None ↦ Wide at_low
  | Some low ↦
      elim values.1 [ None ↦ Wide at_high | Some high ↦ Is (token.Bound low high) count ]
]

told_within : (low high : Option ℕ) (count at_low at_high left : ℕ) → 0 < count → count ≤ left → at_low ≤ left
    → at_high ≤ left → IsWithin (told (low, high) count at_low at_high) left
told_within None high count at_low at_high left some within low_within high_within = low_within
told_within (Some low) None count at_low at_high left some within low_within high_within = high_within
told_within (Some low) (Some high) count at_low at_high left some within low_within high_within = (some, within)

told_same : (low high : Option ℕ) (count at_low at_high at_low' at_high' : ℕ) (t : Token) (n : ℕ)
    → told (low, high) count at_low at_high ≡ Is t n
    → (n ≡ count) × (told (low, high) count at_low' at_high' ≡ Is t n)
told_same None high count at_low at_high at_low' at_high' t n e = cc
told_same (Some low) None count at_low at_high at_low' at_high' t n e = cc
told_same (Some low) (Some high) count at_low at_high at_low' at_high' t n e = (cc, e)

piece_within : (left after : ℕ) (b : BoundNumber × BoundNumber) → after < left
    → IsWithin (bound_piece left after b) left
piece_within left after b within = told_within b.0.value b.1.value (left - after) (left - b.0.left) (left - b.1.left)
    left (omega (arith, within)) (omega arith) (omega arith) (omega arith)

piece_count : (left after : ℕ) (b : BoundNumber × BoundNumber) (t : Token) (n : ℕ) → bound_piece left after b ≡ Is t n
    → n ≡ left - after
piece_count left after b t n e =
    (told_same b.0.value b.1.value (left - after) (left - b.0.left) (left - b.1.left) 0 0 t n e).0

piece_same : (left after left' after' : ℕ) (b d : BoundNumber × BoundNumber) (t : Token) (n : ℕ) → text_values d
    ≡ text_values b → left' - after' ≡ left - after
    → bound_piece left after b ≡ Is t n → bound_piece left' after' d ≡ Is t n
piece_same left after left' after' b d t n values count e =
    ap (λ v. told v (left' - after') (left' - d.0.left) (left' - d.1.left)) values
    ∙ ap (λ k. told (text_values b) k (left' - d.0.left) (left' - d.1.left)) count
    ∙ (told_same b.0.value b.1.value (left - after) (left - b.0.left) (left - b.1.left) (left' - d.0.left)
    (left' - d.1.left) t n e).1

-- between two texts

abbrev closed : List ℕ → ℕ → BoundNumber × BoundNumber → Option Piece
closed close left b = and_then (past close b.1.rest) (λ c. Some (bound_piece left (length c) b))

abbrev opened : List ℕ → List ℕ → List ℕ → Option Piece
opened word close bs = and_then (past word bs) (λ a. and_then (bound_text a) (closed close (length bs)))

record IsOpened (word close bs : List ℕ) (p : Piece) : Type 0 where
  inside : List ℕ
  numbers : BoundNumber × BoundNumber
  behind : List ℕ
  begins : past word bs ≡ Some inside
  text : bound_text inside ≡ Some numbers
  ends : past close numbers.1.rest ≡ Some behind
  piece : bound_piece (length bs) (length behind) numbers ≡ p
  long : length word + length inside ≤ length bs
  shorter : length numbers.1.rest ≤ length inside
  shortest : length behind ≤ length numbers.1.rest

opened_of : (word close bs : List ℕ) (p : Piece) → opened word close bs ≡ Some p → IsOpened word close bs p
opened_of word close bs p e =
    let a = both_of (past word bs) (λ a. and_then (bound_text a) (closed close (length bs))) p e in
    let b = both_of (bound_text a.between) (closed close (length bs)) p a.second in
    let c = both_of (past close b.between.1.rest) (λ c. Some (bound_piece (length bs) (length c) b.between)) p
    b.second in
    record {
      inside = a.between;
      numbers = b.between;
      behind = c.between;
      begins = a.first;
      text = b.first;
      ends = c.first;
      piece = cc c.second;
      long = past_long word bs a.between a.first;
      shorter = text_steady.shrinks a.between b.between b.first;
      shortest = (past_steady close).shrinks b.between.1.rest c.between c.first;
    }

opened_cut : (word close xs ys : List ℕ) (t : Token) (n : ℕ) → n ≤ length xs → opened word close (xs ++ ys)
    ≡ Some (Is t n) → opened word close xs ≡ Some (Is t n)
opened_cut word close xs ys t n within e =
    let o = opened_of word close (xs ++ ys) (Is t n) e in
    let both = length-append xs ys in
    let count = piece_count (length (xs ++ ys)) (length o.behind) o.numbers t n o.piece in
    let kept : length ys ≤ length o.behind = omega (arith, within, both, count, o.long, o.shorter, o.shortest) in
    let a = (past_steady word).kept xs ys o.inside o.begins (omega (arith, kept, o.shorter, o.shortest)) in
    let b = text_steady.kept a.less ys o.numbers (ap bound_text (sym a.parts) ∙ o.text)
    (omega (arith, kept, o.shortest)) in
    let c = (past_steady close).kept b.less.1.rest ys o.behind (ap (past close) (sym b.parts) ∙ o.ends) kept in
    let same : length xs - length c.less ≡ length (xs ++ ys) - length o.behind =
    omega (arith, both, ap length c.parts, length-append c.less ys) in
    then_is (past word xs) (λ a. and_then (bound_text a) (closed close (length xs))) a.less a.found
    ∙ then_is (bound_text a.less) (closed close (length xs)) b.less b.found
    ∙ then_is (past close b.less.1.rest) (λ c. Some (bound_piece (length xs) (length c) b.less)) c.less c.found
    ∙ ap (λ q. Some q) (piece_same (length (xs ++ ys)) (length o.behind) (length xs) (length c.less) o.numbers b.less t
    n b.same same o.piece)

opened_within : (word close bs : List ℕ) (p : Piece) → 0 < length word → opened word close bs ≡ Some p
    → IsWithin p (length bs)
opened_within word close bs p some e =
    let o = opened_of word close bs p e in
    let W : Piece → Type 0 = λ q. IsWithin q (length bs) in
    subst W o.piece (piece_within (length bs) (length o.behind) o.numbers
    (omega (arith, some, o.long, o.shorter, o.shortest)))

pub word_bound_cut : (xs ys : List ℕ) (t : Token) (n : ℕ) → n ≤ length xs → word_bound (xs ++ ys) ≡ Some (Is t n)
    → word_bound xs ≡ Some (Is t n)
word_bound_cut xs ys t n within e = opened_cut (codes "_Pragma(\"") (codes "\")") xs ys t n within e

pub word_bound_within : (bs : List ℕ) (p : Piece) → word_bound bs ≡ Some p → IsWithin p (length bs)
word_bound_within bs p e = opened_within (codes "_Pragma(\"") (codes "\")") bs p (omega arith) e

pub word_bound_long : (bs : List ℕ) (p : Piece) → word_bound bs ≡ Some p → 9 ≤ length bs
word_bound_long bs p e = let o = opened_of (codes "_Pragma(\"") (codes "\")") bs p e in omega (arith, o.long)

-- on a line

abbrev ended : ℕ → BoundNumber × BoundNumber → Option Piece
ended left b = if ends_line b.1.rest then Some (bound_piece left (length b.1.rest) b) else None

ended_piece : (left : ℕ) (b : BoundNumber × BoundNumber) (p : Piece) → ended left b ≡ Some p
    → (ends_line b.1.rest ≡ true) × (bound_piece left (length b.1.rest) b ≡ p)
ended_piece left b p e = either (ends_line b.1.rest) e
  where
    either : (t : Bool) → (if t then Some (bound_piece left (length b.1.rest) b) else None) ≡ Some p → (t ≡ true)
        × (bound_piece left (length b.1.rest) b ≡ p)
    either true e = (refl, cc)
    either false e = cc

abbrev begun : List ℕ → List ℕ → Option Piece
begun word bs = and_then (past word bs) (λ a. and_then (past_gap a) (λ g. and_then (bound_text g) (ended (length bs))))

record IsBegun (word bs : List ℕ) (p : Piece) : Type 0 where
  inside : List ℕ
  after_gap : List ℕ
  numbers : BoundNumber × BoundNumber
  begins : past word bs ≡ Some inside
  gap : past_gap inside ≡ Some after_gap
  text : bound_text after_gap ≡ Some numbers
  ends : ends_line numbers.1.rest ≡ true
  piece : bound_piece (length bs) (length numbers.1.rest) numbers ≡ p
  long : length word + length inside ≤ length bs
  shorter : length after_gap < length inside
  shortest : length numbers.1.rest ≤ length after_gap

begun_of : (word bs : List ℕ) (p : Piece) → begun word bs ≡ Some p → IsBegun word bs p
begun_of word bs p e =
    let a = both_of (past word bs) (λ a. and_then (past_gap a) (λ g. and_then (bound_text g) (ended (length bs)))) p
    e in
    let g = both_of (past_gap a.between) (λ g. and_then (bound_text g) (ended (length bs))) p a.second in
    let b = both_of (bound_text g.between) (ended (length bs)) p g.second in
    let piece = ended_piece (length bs) b.between p b.second in
    record {
      inside = a.between;
      after_gap = g.between;
      numbers = b.between;
      begins = a.first;
      gap = g.first;
      text = b.first;
      ends = piece.0;
      piece = piece.1;
      long = past_long word bs a.between a.first;
      shorter = gap_long a.between g.between g.first;
      shortest = text_steady.shrinks g.between b.between b.first;
    }

begun_cut : (word xs ys : List ℕ) (t : Token) (n : ℕ) → n ≤ length xs → begun word (xs ++ ys) ≡ Some (Is t n)
    → begun word xs ≡ Some (Is t n)
begun_cut word xs ys t n within e =
    let o = begun_of word (xs ++ ys) (Is t n) e in
    let both = length-append xs ys in
    let count = piece_count (length (xs ++ ys)) (length o.numbers.1.rest) o.numbers t n o.piece in
    let kept : length ys ≤ length o.numbers.1.rest =
    omega (arith, within, both, count, o.long, o.shorter, o.shortest) in
    let a = (past_steady word).kept xs ys o.inside o.begins (omega (arith, kept, o.shorter, o.shortest)) in
    let g = gap_steady.kept a.less ys o.after_gap (ap past_gap (sym a.parts) ∙ o.gap)
    (omega (arith, kept, o.shortest)) in
    let b = text_steady.kept g.less ys o.numbers (ap bound_text (sym g.parts) ∙ o.text) kept in
    let same : length xs - length b.less.1.rest ≡ length (xs ++ ys) - length o.numbers.1.rest =
    omega (arith, both, ap length b.parts, length-append b.less.1.rest ys) in
    let line : ends_line b.less.1.rest ≡ true = line_cut b.less.1.rest ys (ap ends_line (sym b.parts) ∙ o.ends) in
    then_is (past word xs) (λ a. and_then (past_gap a) (λ g. and_then (bound_text g) (ended (length xs)))) a.less
    a.found
    ∙ then_is (past_gap a.less) (λ g. and_then (bound_text g) (ended (length xs))) g.less g.found
    ∙ then_is (bound_text g.less) (ended (length xs)) b.less b.found
    ∙ ap (λ t. if t then Some (bound_piece (length xs) (length b.less.1.rest) b.less) else None) line
    ∙ ap (λ q. Some q) (piece_same (length (xs ++ ys)) (length o.numbers.1.rest) (length xs) (length b.less.1.rest)
    o.numbers b.less t n b.same same o.piece)

pub line_bound_cut : (xs ys : List ℕ) (t : Token) (n : ℕ) → n ≤ length xs → line_bound (xs ++ ys) ≡ Some (Is t n)
    → line_bound xs ≡ Some (Is t n)
line_bound_cut xs ys t n within e = begun_cut (codes "#pragma") xs ys t n within e

pub line_bound_within : (bs : List ℕ) (p : Piece) → line_bound bs ≡ Some p → IsWithin p (length bs)
line_bound_within bs p e =
    let o = begun_of (codes "#pragma") bs p e in
    let W : Piece → Type 0 = λ q. IsWithin q (length bs) in
    subst W o.piece (piece_within (length bs) (length o.numbers.1.rest) o.numbers
    (omega (arith, o.long, o.shorter, o.shortest)))

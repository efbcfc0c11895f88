-- A printed text is read line by line.
use Rattle.std.proofs.Common.{arith, ◌≡◌, ◌∙◌, ℕ, ◌+◌, ◌==◌, ◌&&◌, ◌||◌, not, Bool, true, false, cond, zero, suc, List, [], ◌∷◌, ◌++◌, drop, refl, sym, ap, Option, Some, None, option_map}
use Rattle.std.specs.List.{list_all}
use Rattle.std.proofs.lemmas.Bool.Decides.{nat_tests}
use Rattle.std.proofs.lemmas.Bool.{and_parts}
use Rattle.patmos_syntax.specs.declared.statements.Where.{Where}
use Rattle.patmos_syntax.specs.declared.statements.Where.TheVariants.{Plain, Braces, Comment}
use Rattle.patmos_forms.specs.Readers.{is_blank, without_blanks, word_len, word_at, is_name, sign_in_front, sign_at}
use Rattle.patmos_syntax.specs.Statements.{put_before, kept, not_blank, statements_of}
use Rattle.patmos_syntax.specs.Where.{is_end, after_byte, is_comment}
use Rattle.patmos_syntax.specs.Items.{label_at}
use Rattle.patmos_syntax.proofs.Scanned.{scanned, statements_scanned}
use Rattle.patmos_syntax.proofs.Pieces.{scanned-end, scanned-byte}

-- no byte of the line ends a statement or begins a comment
abbrev pub stays : Where → List ℕ → Bool
stays at [] = true
stays at (b ∷ bs) = not (is_end at b) && (not (is_comment (after_byte at b)) && stays (after_byte at b) bs)

both_not : (a b c : Bool) → not a && (not b && c) ≡ true → (a ≡ false) × (b ≡ false) × (c ≡ true)
both_not true b c e = cc
both_not false true c e = cc
both_not false false c e = (refl, refl, e)

newline_ends : (at : Where) → is_end at 10 ≡ true
newline_ends Plain = refl
newline_ends Braces = refl
newline_ends Comment = refl

-- such a line is one piece, and the next begins on the next line
pub line_read : (line : ℕ) (at : Where) (text rest : List ℕ) → stays at text ≡ true →
    scanned line at (text ++ 10 ∷ rest) ≡ (line, text) ∷ scanned (line + 1) Plain rest
line_read line at [] rest e = scanned-end line 10 at rest (newline_ends at)
line_read line at (b ∷ bs) rest e =
    let t = both_not (is_end at b) (is_comment (after_byte at b)) (stays (after_byte at b) bs) e in
    scanned-byte line b at (bs ++ 10 ∷ rest) t.0 t.1 ∙ ap (put_before (b ∷ [])) (line_read line
    (after_byte at b) bs rest t.2)

pub line_stated : (line : ℕ) (text rest : List ℕ) → stays Plain text ≡ true →
    statements_of line (text ++ 10 ∷ rest) ≡ kept line text (statements_of (line + 1) rest)
line_stated line text rest e =
    statements_scanned line (text ++ 10 ∷ rest)
    ∙ ap not_blank (line_read line Plain text rest e)
    ∙ ap (kept line text) (sym (statements_scanned (line + 1) rest))

-- bytes that mean nothing to the cutting of a text
abbrev pub is_harmless : ℕ → Bool
is_harmless b = not (b == 10 || b == 59 || b == 35 || b == 123 || b == 125 || b == 58 || b == 46)

pub none_of : (a b c d e f g : Bool) → not (a || b || c || d || e || f || g) ≡ true →
    (a ≡ false) × (b ≡ false) × (c ≡ false) × (d ≡ false) × (e ≡ false) × (f ≡ false) × (g ≡ false)
none_of true b c d e f g h = cc
none_of false true c d e f g h = cc
none_of false false true d e f g h = cc
none_of false false false true e f g h = cc
none_of false false false false true f g h = cc
none_of false false false false false true g h = cc
none_of false false false false false false true h = cc
none_of false false false false false false false h = (refl, refl, refl, refl, refl, refl, refl)

pub harmless_stays : (at : Where) (text rest : List ℕ) → is_comment at ≡ false → list_all is_harmless text ≡ true
    → stays at (text ++ rest) ≡ stays at rest
harmless_stays at [] rest plain e = refl
harmless_stays Plain (b ∷ bs) rest plain e =
    let t = and_parts (is_harmless b) (list_all is_harmless bs) e in
    let n = none_of (b == 10) (b == 59) (b == 35) (b == 123) (b == 125) (b == 58) (b == 46) t.0 in
    rw (n.0, n.1, n.2, n.3) (harmless_stays Plain bs rest refl t.1)
harmless_stays Braces (b ∷ bs) rest plain e =
    let t = and_parts (is_harmless b) (list_all is_harmless bs) e in
    let n = none_of (b == 10) (b == 59) (b == 35) (b == 123) (b == 125) (b == 58) (b == 46) t.0 in
    rw (n.0, n.2, n.4) (harmless_stays Braces bs rest refl t.1)
harmless_stays Comment (b ∷ bs) rest plain e = cc

-- a text without a byte
abbrev pub lacks : ℕ → List ℕ → Bool
lacks s text = list_all (λ b. not (b == s)) text

harmless_byte : (s b : ℕ) → is_harmless b ≡ true → is_harmless s ≡ false → not (b == s) ≡ true
harmless_byte s b e f = by_test (b == s) refl
  where
    by_test : (t : Bool) → b == s ≡ t → not t ≡ true
    by_test true h = let k : b ≡ s = grind (arith, nat_tests) in cc
    by_test false h = refl

-- harmless bytes are none of those that are not
pub harmless_lacks : (s : ℕ) (text : List ℕ) → is_harmless s ≡ false → list_all is_harmless text ≡ true
    → lacks s text ≡ true
harmless_lacks s [] f e = refl
harmless_lacks s (b ∷ bs) f e =
    let t = and_parts (is_harmless b) (list_all is_harmless bs) e in
    rw (harmless_byte s b t.0 f, harmless_lacks s bs f t.1) refl

-- a sign that a text lacks is not read in it
sign_byte : (s b : ℕ) (bs : List ℕ) → not (b == s) ≡ true → sign_in_front s (b ∷ bs) ≡ None
sign_byte s b bs e = by_test (b == s) e
  where
    by_test : (t : Bool) → not t ≡ true → cond t (Some bs) None ≡ None
    by_test true e = cc
    by_test false e = refl

blank_byte : (s b : ℕ) (bs : List ℕ) (t : Bool) → is_blank b ≡ t → not (b == s) ≡ true → sign_at s bs ≡ None
    → sign_at s (b ∷ bs) ≡ None
blank_byte s b bs true h e rest = rw h rest
blank_byte s b bs false h e rest = rw h (sign_byte s b bs e)

pub lacks_sign : (s : ℕ) (text : List ℕ) → lacks s text ≡ true → sign_at s text ≡ None
lacks_sign s [] e = refl
lacks_sign s (b ∷ bs) e =
    let t = and_parts (not (b == s)) (lacks s bs) e in
    blank_byte s b bs (is_blank b) refl t.0 (lacks_sign s bs t.1)

lacks_drop : (s k : ℕ) (text : List ℕ) → lacks s text ≡ true → lacks s (drop k text) ≡ true
lacks_drop s zero text e = e
lacks_drop s (suc k) [] e = refl
lacks_drop s (suc k) (b ∷ bs) e = lacks_drop s k bs (and_parts (not (b == s)) (lacks s bs) e).1

lacks_blank : (s b : ℕ) (bs : List ℕ) (t : Bool) → is_blank b ≡ t → lacks s (b ∷ bs) ≡ true
    → lacks s (without_blanks bs) ≡ true → lacks s (without_blanks (b ∷ bs)) ≡ true
lacks_blank s b bs true h e rest = rw h rest
lacks_blank s b bs false h e rest = rw h e

pub lacks_blanks : (s : ℕ) (text : List ℕ) → lacks s text ≡ true → lacks s (without_blanks text) ≡ true
lacks_blanks s [] e = refl
lacks_blanks s (b ∷ bs) e =
    lacks_blank s b bs (is_blank b) refl e (lacks_blanks s bs (and_parts (not (b == s)) (lacks s bs) e).1)

chosen_none : (b : Bool) (name : List ℕ) (o : Option (List ℕ)) → o ≡ None → cond b (option_map {U = List ℕ × List ℕ}
    (λ (rest : List ℕ). (name, rest)) o) None ≡ None
chosen_none true name o e = rw e refl
chosen_none false name o e = refl

-- a text without a colon begins with no label
pub no_colon : (text : List ℕ) → lacks 58 text ≡ true → label_at text ≡ None
no_colon text e =
    chosen_none (is_name (word_at text).0) (word_at text).0 (sign_at 58 (word_at text).1)
    (lacks_sign 58 (word_at text).1 (lacks_drop 58 (word_len (without_blanks text)) (without_blanks text)
    (lacks_blanks 58 text e)))

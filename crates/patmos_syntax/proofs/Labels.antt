-- The labels at the front of a statement.
use Rattle.std.proofs.Common.{◌≡◌, ℕ, zero, suc, ◌<◌, ◌≤◌, cond, Bool, true, false, List, [], ◌∷◌, length, refl, sym, ap, arith, Option, Some, None, length-drop}
use Rattle.std.proofs.lemmas.Option.{cond_some}
use Rattle.std.specs.Option.{option_map}
use Rattle.patmos_forms.specs.Readers.{is_blank, without_blanks, word_len, word_at, is_name, sign_in_front, sign_at, at_end}
use Rattle.patmos_syntax.specs.Items.{label, label_at, statement_of, items_after, items_in}

shorter_byte : (b : ℕ) (bs : List ℕ) (t : Bool) → is_blank b ≡ t → length (without_blanks bs) ≤ length bs →
    length (without_blanks (b ∷ bs)) ≤ length (b ∷ bs)
shorter_byte b bs true e rest = rw e (omega arith)
shorter_byte b bs false e rest = rw e (omega arith)

without_blanks-shorter : (text : List ℕ) → length (without_blanks text) ≤ length text
without_blanks-shorter [] = omega arith
without_blanks-shorter (b ∷ bs) = shorter_byte b bs (is_blank b) refl (without_blanks-shorter bs)

word_rest-shorter : (text : List ℕ) → length (word_at text).1 ≤ length text
word_rest-shorter text =
    omega (arith, without_blanks-shorter text, length-drop (word_len (without_blanks text)) (without_blanks text))

front_shorter : (sign : ℕ) (prefix rest : List ℕ) → sign_in_front sign prefix ≡ Some rest → length rest < length prefix
front_shorter sign [] rest e = cc
front_shorter sign (b ∷ bs) rest e = grind (arith, cond_some)

sign_shorter : (sign : ℕ) (text rest : List ℕ) → sign_at sign text ≡ Some rest → length rest < length text
sign_shorter sign text rest e =
    omega (arith, front_shorter sign (without_blanks text) rest e, without_blanks-shorter text)

after_name : (named : Bool) (name : List ℕ) (o : Option (List ℕ)) (l : List ℕ × List ℕ) →
    cond named (option_map (λ rest. (name, rest)) o) None ≡ Some l → o ≡ Some l.1
after_name true name (Some rest) l e = let k : (name, rest) ≡ l = cc in ap (λ p. Some p.1) k
after_name true name None l e = cc
after_name false name o l e = cc

-- what stands after a label is shorter than the text
pub after_shorter : (text rest : List ℕ) → sign_at 58 (word_at text).1 ≡ Some rest → length rest < length text
after_shorter text rest e = omega (arith, word_rest-shorter text, sign_shorter 58 (word_at text).1 rest e)

label_shorter : (text : List ℕ) (l : List ℕ × List ℕ) → label_at text ≡ Some l → length l.1 < length text
label_shorter text l e =
    after_shorter text l.1 (after_name (is_name (word_at text).0) (word_at text).0 (sign_at 58 (word_at text).1) l e)

-- an empty text has no statement, however many there may be
nothing_in : (line n : ℕ) (text : List ℕ) → length text ≤ 0 → items_in line n text ≡ []
nothing_in line zero text e = refl
nothing_in line (suc n) [] e = refl
nothing_in line (suc n) (b ∷ bs) e = absurd (omega arith)

enough_after : (line n m : ℕ) (text : List ℕ) (o : Option (List ℕ × List ℕ)) → ((l : List ℕ × List ℕ) → o ≡ Some l
    → items_in line n l.1 ≡ items_in line m l.1) →
    items_after line text o (items_in line n) ≡ items_after line text o (items_in line m)
enough_after line n m text None same = refl
enough_after line n m text (Some l) same = ap (λ rest. label line l.0 ∷ rest) (same l refl)

-- a text of n bytes has at most n labels
pub enough : (line n m : ℕ) (text : List ℕ) → length text ≤ n → length text ≤ m → items_in line n text
    ≡ items_in line m text
enough line zero m text a b = sym (nothing_in line m text a)
enough line (suc n) zero text a b = nothing_in line (suc n) text b
enough line (suc n) (suc m) text a b =
    enough_after line n m text (label_at text) (λ l e. let s : length l.1 < length text = label_shorter text l e in
    enough line n m l.1 (omega arith) (omega arith))

-- the statements of a text that begins with a label, and of one that begins with none
first_of : (line k : ℕ) (text name rest : List ℕ) → label_at text ≡ Some (name, rest) → length text ≡ suc k →
    items_in line (suc k) text ≡ label line name ∷ items_in line (length rest) rest
first_of line k text name rest e long =
    let s : length rest < length text = label_shorter text (name, rest) e in
    rw e (ap (λ items. label line name ∷ items) (enough line k (length rest) rest (omega arith) (omega arith)))

pub label_first : (line : ℕ) (text name rest : List ℕ) → label_at text ≡ Some (name, rest) →
    items_in line (length text) text ≡ label line name ∷ items_in line (length rest) rest
label_first line [] name rest e = cc
label_first line (b ∷ bs) name rest e = first_of line (length bs) (b ∷ bs) name rest e refl

pub no_label : (line : ℕ) (text : List ℕ) → label_at text ≡ None → items_in line (length text) text
    ≡ cond (at_end text) [] (statement_of line text ∷ [])
no_label line [] e = refl
no_label line (b ∷ bs) e = rw e refl

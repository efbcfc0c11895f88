-- Printed operands are read back.
use Rattle.std.proofs.Common.{arith, ◌≡◌, ◌∙◌, ℕ, zero, suc, ◌^◌, ◌<◌, ◌==◌, ◌&&◌, ◌||◌, not, Bool, true, false, cond, List, [], ◌∷◌, ◌++◌, length, take, refl, sym, ap, append_assoc, Option, Some, None, option_map, if◌then◌else◌, codes, bytes_eq, position}
use Rattle.std.specs.List.{list_all}
use Rattle.std.proofs.lemmas.Bool.Decides.{nat_tests}
use Rattle.std.proofs.lemmas.List.{append-nil}
use Rattle.std.proofs.lemmas.Bool.{and_parts}
use Rattle.patmos_forms.specs.Readers.{◌>>=◌, is_blank, is_in_word, without_blanks, sign_in_front, sign_at, at_end}
use Rattle.patmos_forms.specs.Operands.{Token, register, predicate, negation, number, offset, special, writable, sign, special_names, named_at, value_at, read_after, read}
use Rattle.patmos_asm.specs.Written.{sign_text, token_text, written}
use Rattle.patmos_asm.proofs.ReadWords.{ends_word, not_false, some_word_read, number_at-read, numbered_at-read}

-- the text of the piece begins with a byte of a word
abbrev pub begins_word : List Token → Bool
begins_word [] = false
begins_word (register ∷ ts) = true
begins_word (predicate ∷ ts) = true
begins_word (negation ∷ ts) = true
begins_word (number ∷ ts) = true
begins_word (offset ∷ ts) = false
begins_word (special ∷ ts) = true
begins_word (writable ∷ ts) = true
begins_word (sign s ∷ ts) = false

abbrev pub is_padded : ℕ → Bool
is_padded s = s == 61 || s == 44

abbrev pub is_some_row : List Token → Bool
is_some_row [] = false
is_some_row (t ∷ ts) = true

abbrev pub begins_predicate : List Token → Bool
begins_predicate (predicate ∷ ts) = true
begins_predicate _ = false

-- pieces that can be kept apart where they are written one after another
abbrev pub is_row : List Token → Bool
is_row [] = true
is_row (sign s ∷ ts) = not (is_blank s) && (not (is_in_word s) && ((is_some_row ts || not (is_padded s)) && is_row ts))
is_row (negation ∷ ts) = begins_predicate ts && is_row ts
is_row (t ∷ ts) = not (begins_word ts) && is_row ts

-- numbers that can be written so
abbrev pub AreValues : List Token → List ℕ → Type 0
AreValues [] [] = Unit {0}
AreValues [] (v ∷ vs) = ⊥
AreValues (sign s ∷ ts) vs = AreValues ts vs
AreValues (t ∷ ts) [] = ⊥
AreValues (negation ∷ ts) (v ∷ vs) = (v < 2) × AreValues ts vs
AreValues (special ∷ ts) (v ∷ vs) = (v < 7) × AreValues ts vs
AreValues (writable ∷ ts) (v ∷ vs) = (v < 5) × AreValues ts vs
AreValues (t ∷ ts) (v ∷ vs) = (v < 2 ^ 32) × AreValues ts vs

-- pieces one after another, and then this
abbrev pub written_then : List ℕ → List Token → List ℕ → List ℕ
written_then trail [] vs = trail
written_then trail (sign s ∷ ts) vs = sign_text s ++ written_then trail ts vs
written_then trail (t ∷ ts) [] = trail
written_then trail (t ∷ ts) (v ∷ vs) = token_text t v ++ written_then trail ts vs

sign_ends : (s : ℕ) (rest : List ℕ) → is_in_word s ≡ false → ends_word (sign_text s ++ rest) ≡ true
sign_ends s rest e = by_sign (s == 61) (s == 44)
  where
    by_sign : (a b : Bool) → ends_word (cond a (32 ∷ 61 ∷ 32 ∷ []) (cond b (44 ∷ 32 ∷ []) (s ∷ [])) ++ rest) ≡ true
    by_sign true b = refl
    by_sign false true = refl
    by_sign false false = rw e refl

ends_written : (trail : List ℕ) (ts : List Token) (vs : List ℕ) → ends_word trail ≡ true → begins_word ts ≡ false
    → is_row ts ≡ true → AreValues ts vs → ends_word (written_then trail ts vs) ≡ true
ends_written trail [] [] e n r f = e
ends_written trail [] (v ∷ vs) e n r f = absurd f
ends_written trail (sign s ∷ ts) vs e n r f =
    let a = and_parts (not (is_blank s)) (not (is_in_word s) && ((is_some_row ts || not (is_padded s)) && is_row ts))
    r in
    let b = and_parts (not (is_in_word s)) ((is_some_row ts || not (is_padded s)) && is_row ts) a.1 in
    sign_ends s (written_then trail ts vs) (not_false (is_in_word s) b.0)
ends_written trail (offset ∷ ts) [] e n r f = absurd f
ends_written trail (offset ∷ ts) (v ∷ vs) e n r f = refl
ends_written trail (negation ∷ ts) vs e n r f = cc
ends_written trail (register ∷ ts) vs e n r f = cc
ends_written trail (predicate ∷ ts) vs e n r f = cc
ends_written trail (number ∷ ts) vs e n r f = cc
ends_written trail (special ∷ ts) vs e n r f = cc
ends_written trail (writable ∷ ts) vs e n r f = cc

-- what stands after a printed sign
abbrev pub after_sign : ℕ → List ℕ → List ℕ
after_sign s rest = if is_padded s then 32 ∷ rest else rest

sign_read : (s : ℕ) (rest : List ℕ) → is_blank s ≡ false → sign_at s (sign_text s ++ rest) ≡ Some (after_sign s rest)
sign_read s rest e = by_sign (s == 61) (s == 44) refl refl
  where
    by_sign : (a b : Bool) → s == 61 ≡ a → s == 44 ≡ b →
        sign_in_front s (without_blanks (cond a (32 ∷ 61 ∷ 32 ∷ []) (cond b (44 ∷ 32 ∷ []) (s ∷ [])) ++ rest))
        ≡ Some (cond (a || b) (32 ∷ rest) rest)
    by_sign true b p q = let k : s ≡ 61 = grind (arith, nat_tests) in rw k refl
    by_sign false true p q = let k : s ≡ 44 = grind (arith, nat_tests) in rw k refl
    by_sign false false p q = let same : s == s ≡ true = grind (arith, nat_tests) in rw (e, same) refl

named_read : (names : List (List ℕ)) (w rest : List ℕ) (o : Option ℕ) → 0 < length w → list_all is_in_word w ≡ true
    → ends_word rest ≡ true → position (bytes_eq w) names ≡ o →
    named_at names (w ++ rest) ≡ option_map (λ n. (n, rest)) o
named_read names w rest o some all e found =
    ap (λ (x : List ℕ × List ℕ). option_map (λ n. (n, x.1)) (position (bytes_eq x.0) names)) (some_word_read w rest some
    all e) ∙ ap (option_map (λ n. (n, rest))) found

special_read : (v : ℕ) (rest : List ℕ) → v < 7 → ends_word rest ≡ true → value_at special (token_text special v ++ rest)
    ≡ Some (v, rest)
special_read zero rest h e = named_read special_names (codes "s0") rest (Some 0) (omega arith) refl e refl
special_read (suc zero) rest h e = named_read special_names (codes "sl") rest (Some 1) (omega arith) refl e refl
special_read (suc (suc zero)) rest h e = named_read special_names (codes "sh") rest (Some 2) (omega arith) refl e refl
special_read (suc (suc (suc zero))) rest h e =
    named_read special_names (codes "srb") rest (Some 3) (omega arith) refl e refl
special_read (suc (suc (suc (suc zero)))) rest h e =
    named_read special_names (codes "sro") rest (Some 4) (omega arith) refl e refl
special_read (suc (suc (suc (suc (suc zero))))) rest h e =
    named_read special_names (codes "st") rest (Some 5) (omega arith) refl e refl
special_read (suc (suc (suc (suc (suc (suc zero)))))) rest h e =
    named_read special_names (codes "ss") rest (Some 6) (omega arith) refl e refl
special_read (suc (suc (suc (suc (suc (suc (suc v))))))) rest h e = absurd (omega arith)

writable_read : (v : ℕ) (rest : List ℕ) → v < 5 → ends_word rest ≡ true → value_at writable (token_text writable v
    ++ rest) ≡ Some (v, rest)
writable_read zero rest h e = named_read (take 5 special_names) (codes "s0") rest (Some 0) (omega arith) refl e refl
writable_read (suc zero) rest h e =
    named_read (take 5 special_names) (codes "sl") rest (Some 1) (omega arith) refl e refl
writable_read (suc (suc zero)) rest h e =
    named_read (take 5 special_names) (codes "sh") rest (Some 2) (omega arith) refl e refl
writable_read (suc (suc (suc zero))) rest h e =
    named_read (take 5 special_names) (codes "srb") rest (Some 3) (omega arith) refl e refl
writable_read (suc (suc (suc (suc zero)))) rest h e =
    named_read (take 5 special_names) (codes "sro") rest (Some 4) (omega arith) refl e refl
writable_read (suc (suc (suc (suc (suc v))))) rest h e = absurd (omega arith)

-- a blank in front changes nothing
pad_same : (trail before : List ℕ) (t : Token) (ts : List Token) (vs : List ℕ) → AreValues (t ∷ ts) vs
    → is_row (t ∷ ts) ≡ true →
    read_after before (t ∷ ts) (32 ∷ written_then trail (t ∷ ts) vs)
    ≡ read_after before (t ∷ ts) (written_then trail (t ∷ ts) vs)
pad_same trail before (sign s) ts vs f r = refl
pad_same trail before register ts vs f r = refl
pad_same trail before predicate ts vs f r = refl
pad_same trail before number ts vs f r = refl
pad_same trail before special ts vs f r = refl
pad_same trail before writable ts vs f r = refl
pad_same trail before offset ts [] f r = absurd f
pad_same trail before offset ts (v ∷ vs) f r = refl
pad_same trail before negation ts [] f r = absurd f
pad_same trail before negation [] (v ∷ vs) f r = cc
pad_same trail before negation (predicate ∷ ts) (zero ∷ []) f r = absurd f.1
pad_same trail before negation (predicate ∷ ts) (zero ∷ p ∷ vs) f r = refl
pad_same trail before negation (t ∷ ts) (suc zero ∷ vs) f r = refl
pad_same trail before negation (t ∷ ts) (suc (suc v) ∷ vs) f r = let small = f.0 in absurd (omega arith)
pad_same trail before negation (t ∷ ts) (zero ∷ vs) f r = cc

step : (trail before : List ℕ) (ts : List Token) (v : ℕ) (vs rest : List ℕ) (o : Option (ℕ × List ℕ)) → o
    ≡ Some (v, rest) →
    ((b : List ℕ) → read_after b ts rest ≡ Some (b ++ vs, trail)) → (o >>= λ x. read_after (before ++ x.0 ∷ []) ts x.1)
    ≡ Some (before ++ v ∷ vs, trail)
step trail before ts v vs rest o e behind =
    ap (λ o. o >>= λ x. read_after (before ++ x.0 ∷ []) ts x.1) e ∙ behind (before ++ v ∷ [])
    ∙ ap (λ b. Some (b, trail)) (append_assoc before (v ∷ []) vs)

padded : (trail : List ℕ) (b : Bool) (before : List ℕ) (ts : List Token) (vs : List ℕ) → AreValues ts vs → is_row ts
    ≡ true → is_some_row ts || not b ≡ true →
    read_after before ts (cond b (32 ∷ written_then trail ts vs) (written_then trail ts vs))
    ≡ read_after before ts (written_then trail ts vs)
padded trail false before ts vs f r some = refl
padded trail true before [] vs f r some = cc
padded trail true before (t ∷ ts) vs f r some = pad_same trail before t ts vs f r

-- printed pieces are read back
pub reads : (trail : List ℕ) (ts : List Token) (vs before : List ℕ) → ends_word trail ≡ true → is_row ts ≡ true
    → AreValues ts vs → read_after before ts (written_then trail ts vs) ≡ Some (before ++ vs, trail)
reads trail [] [] before e r f = ap (λ b. Some (b, trail)) (sym (append-nil before))
reads trail [] (v ∷ vs) before e r f = absurd f
reads trail (sign s ∷ ts) vs before e r f =
    let a = and_parts (not (is_blank s)) (not (is_in_word s) && ((is_some_row ts || not (is_padded s)) && is_row ts))
    r in
    let b = and_parts (not (is_in_word s)) ((is_some_row ts || not (is_padded s)) && is_row ts) a.1 in
    let c = and_parts (is_some_row ts || not (is_padded s)) (is_row ts) b.1 in
    ap (λ o. o >>= λ rest. read_after before ts rest) (sign_read s (written_then trail ts vs)
    (not_false (is_blank s) a.0))
    ∙ padded trail (is_padded s) before ts vs f c.1 c.0 ∙ reads trail ts vs before e c.1 f
reads trail (register ∷ ts) [] before e r f = absurd f
reads trail (register ∷ ts) (v ∷ vs) before e r f =
    let a = and_parts (not (begins_word ts)) (is_row ts) r in
    step trail before ts v vs (written_then trail ts vs)
    (value_at register (token_text register v ++ written_then trail ts vs))
    (numbered_at-read 114 v (written_then trail ts vs) refl f.0
    (ends_written trail ts vs e (not_false (begins_word ts) a.0) a.1 f.1)) (λ b. reads trail ts vs b e a.1 f.1)
reads trail (predicate ∷ ts) [] before e r f = absurd f
reads trail (predicate ∷ ts) (v ∷ vs) before e r f =
    let a = and_parts (not (begins_word ts)) (is_row ts) r in
    step trail before ts v vs (written_then trail ts vs) (value_at predicate (token_text predicate v
    ++ written_then trail ts vs))
    (numbered_at-read 112 v (written_then trail ts vs) refl f.0
    (ends_written trail ts vs e (not_false (begins_word ts) a.0) a.1 f.1)) (λ b. reads trail ts vs b e a.1 f.1)
reads trail (number ∷ ts) [] before e r f = absurd f
reads trail (number ∷ ts) (v ∷ vs) before e r f =
    let a = and_parts (not (begins_word ts)) (is_row ts) r in
    step trail before ts v vs (written_then trail ts vs)
    (value_at number (token_text number v ++ written_then trail ts vs))
    (number_at-read v (written_then trail ts vs) f.0 (ends_written trail ts vs e (not_false (begins_word ts) a.0) a.1
    f.1)) (λ b. reads trail ts vs b e a.1 f.1)
reads trail (offset ∷ ts) [] before e r f = absurd f
reads trail (offset ∷ ts) (v ∷ vs) before e r f =
    let a = and_parts (not (begins_word ts)) (is_row ts) r in
    step trail before ts v vs (written_then trail ts vs)
    (value_at offset (token_text offset v ++ written_then trail ts vs))
    (number_at-read v (written_then trail ts vs) f.0 (ends_written trail ts vs e (not_false (begins_word ts) a.0) a.1
    f.1)) (λ b. reads trail ts vs b e a.1 f.1)
reads trail (special ∷ ts) [] before e r f = absurd f
reads trail (special ∷ ts) (v ∷ vs) before e r f =
    let a = and_parts (not (begins_word ts)) (is_row ts) r in
    step trail before ts v vs (written_then trail ts vs)
    (value_at special (token_text special v ++ written_then trail ts vs))
    (special_read v (written_then trail ts vs) f.0 (ends_written trail ts vs e (not_false (begins_word ts) a.0) a.1
    f.1)) (λ b. reads trail ts vs b e a.1 f.1)
reads trail (writable ∷ ts) [] before e r f = absurd f
reads trail (writable ∷ ts) (v ∷ vs) before e r f =
    let a = and_parts (not (begins_word ts)) (is_row ts) r in
    step trail before ts v vs (written_then trail ts vs)
    (value_at writable (token_text writable v ++ written_then trail ts vs))
    (writable_read v (written_then trail ts vs) f.0 (ends_written trail ts vs e (not_false (begins_word ts) a.0) a.1
    f.1)) (λ b. reads trail ts vs b e a.1 f.1)
reads trail (negation ∷ ts) [] before e r f = absurd f
reads trail (negation ∷ []) (v ∷ vs) before e r f = cc
reads trail (negation ∷ predicate ∷ ts) (zero ∷ []) before e r f = absurd f.1
reads trail (negation ∷ predicate ∷ ts) (zero ∷ p ∷ vs) before e r f =
    step trail before (predicate ∷ ts) 0 (p ∷ vs) (written_then trail (predicate ∷ ts) (p ∷ vs))
    (Some (0, written_then trail (predicate ∷ ts) (p ∷ vs))) refl (λ b. reads trail (predicate ∷ ts)
    (p ∷ vs) b e r f.1)
reads trail (negation ∷ predicate ∷ ts) (suc zero ∷ vs) before e r f =
    step trail before (predicate ∷ ts) 1 vs (written_then trail (predicate ∷ ts) vs)
    (Some (1, written_then trail (predicate ∷ ts) vs)) refl (λ b. reads trail (predicate ∷ ts) vs b e r f.1)
reads trail (negation ∷ predicate ∷ ts) (suc (suc v) ∷ vs) before e r f = let small = f.0 in absurd (omega arith)
reads trail (negation ∷ t ∷ ts) (v ∷ vs) before e r f = cc

then_append : (trail : List ℕ) (ts : List Token) (vs : List ℕ) → written ts vs ++ trail ≡ written_then trail ts vs
then_append trail [] vs = refl
then_append trail (sign s ∷ ts) vs =
    append_assoc (sign_text s) (written ts vs) trail ∙ ap (λ t. sign_text s ++ t) (then_append trail ts vs)
then_append trail (register ∷ ts) [] = refl
then_append trail (predicate ∷ ts) [] = refl
then_append trail (negation ∷ ts) [] = refl
then_append trail (number ∷ ts) [] = refl
then_append trail (offset ∷ ts) [] = refl
then_append trail (special ∷ ts) [] = refl
then_append trail (writable ∷ ts) [] = refl
then_append trail (register ∷ ts) (v ∷ vs) = append_assoc (token_text register v) (written ts vs) trail
    ∙ ap (λ t. token_text register v ++ t) (then_append trail ts vs)
then_append trail (predicate ∷ ts) (v ∷ vs) = append_assoc (token_text predicate v) (written ts vs) trail
    ∙ ap (λ t. token_text predicate v ++ t) (then_append trail ts vs)
then_append trail (negation ∷ ts) (v ∷ vs) = append_assoc (token_text negation v) (written ts vs) trail
    ∙ ap (λ t. token_text negation v ++ t) (then_append trail ts vs)
then_append trail (number ∷ ts) (v ∷ vs) = append_assoc (token_text number v) (written ts vs) trail
    ∙ ap (λ t. token_text number v ++ t) (then_append trail ts vs)
then_append trail (offset ∷ ts) (v ∷ vs) = append_assoc (token_text offset v) (written ts vs) trail
    ∙ ap (λ t. token_text offset v ++ t) (then_append trail ts vs)
then_append trail (special ∷ ts) (v ∷ vs) = append_assoc (token_text special v) (written ts vs) trail
    ∙ ap (λ t. token_text special v ++ t) (then_append trail ts vs)
then_append trail (writable ∷ ts) (v ∷ vs) = append_assoc (token_text writable v) (written ts vs) trail
    ∙ ap (λ t. token_text writable v ++ t) (then_append trail ts vs)

-- so are printed operands after their mnemonic and a blank, where nothing but blanks follows
pub read_written : (trail : List ℕ) (t : Token) (ts : List Token) (vs : List ℕ) → at_end trail ≡ true → ends_word trail
    ≡ true → is_row (t ∷ ts) ≡ true → AreValues (t ∷ ts) vs →
    read (t ∷ ts) (32 ∷ (written (t ∷ ts) vs ++ trail)) ≡ Some vs
read_written trail t ts vs end e r f =
    ap (λ x. read (t ∷ ts) (32 ∷ x)) (then_append trail (t ∷ ts) vs)
    ∙ ap (λ o. o >>= λ x. cond (at_end x.1) (Some x.0) None) (pad_same trail [] t ts vs f r
    ∙ reads trail (t ∷ ts) vs [] e r f)
    ∙ rw end refl

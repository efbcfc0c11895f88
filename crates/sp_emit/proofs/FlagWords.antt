-- Words of a frame in predicates, and what any word holds wherever it stands.
use Rattle.std.proofs.Common.{◌≡◌, ℕ, zero, suc, ◌+◌, ◌<◌, ◌≤◌, Bool, true, false, true≢false, if◌then◌else◌, Option, None, Some, List, [], ◌∷◌, refl, sym, ap, ◌∙◌, arith, ne_eqb}
use Rattle.std.specs.Prelude.{is_none, is_some}
use Rattle.std.specs.List.{list_all}
use Rattle.std.proofs.lemmas.Bool.{and_parts, and_from, eqb-true, leb-true, ltb-true}
use Rattle.sp_shape.proofs.Lists.{all_append}
use Rattle.patmos_instr.specs.Bundles.{PlainBundle}
use Rattle.patmos_instr.specs.declared.functions.CmpFunc.TheVariants as cmp
use Rattle.patmos_instr.specs.declared.functions.ImmFunc.TheVariants as imm
use Rattle.patmos_instr.specs.declared.functions.PredFunc.TheVariants as comb
use Rattle.patmos_sem.specs.declared.writes.Write.TheVariants as write
use Rattle.c_world.specs.Numbers.{flag}
use Rattle.sp_shape.specs.Run.{Run, IsWhole}
use Rattle.sp_emit.specs.Holding.{held, so, KeepsFrom, KeepsFlags}
use Rattle.sp_emit.specs.Instructions.{always, under, idle, set_short, compare_short, combine, where_so, with_short}
use Rattle.sp_emit.specs.Flags.{is_past}
use Rattle.sp_emit.specs.Places.{is_that, flag_in, flag_words, flag_of, in_register, word_of, held_in, shown_word, fetch_word, fetched_at, seek_op, seek_word, match_op, match_word, mask_test, told_in, told_at, cleared_in, word_cleared, words_cleared, stack_word, read_word}
use Rattle.sp_emit.specs.declared.registers.TheConstants.{OVERRUN, TEST, SECOND, MASK}
use Rattle.sp_emit.specs.declared.stands.Homes.{Homes}
use Rattle.sp_emit.proofs.Once.{with_written, kept_by_pred, so_got, so_kept}
use Rattle.sp_emit.proofs.WordPlaces.{Sets, word_still, word_kept}
use Rattle.sp_emit.specs.declared.stands.Flags.{Flags}
use Rattle.sp_emit.specs.Statements.{handed_in, mask_handed}

-- ---- each predicate is that of one word

abbrev pub preds_from : ℕ → ℕ → List ℕ
preds_from p zero = []
preds_from p (suc n) = p ∷ preds_from (p + 1) n

pub in_range : (n p : ℕ) (words : List (Option ℕ)) (slot q : ℕ) → flag_in (preds_from p n) words slot ≡ Some q
    → (p ≤ q) × (q < p + n)
in_range zero p words slot q is = absurd cc
in_range (suc n) p [] slot q is = absurd cc
in_range (suc n) p (word ∷ words) slot q is = by (in_range n (p + 1) words slot q) (is_that word slot) is
  where
    by : (flag_in (preds_from (p + 1) n) words slot ≡ Some q → (p + 1 ≤ q) × (q < p + 1 + n)) → (b : Bool)
        → (if b then Some p else flag_in (preds_from (p + 1) n) words slot) ≡ Some q → (p ≤ q) × (q < p + suc n)
    by later true is = let same : p ≡ q = grind (arith, is) in (omega (arith, same), omega (arith, same))
    by later false is = let r = later is in let a = r.0 in let b = r.1 in (omega (arith, a), omega (arith, b))

same_word : (word : Option ℕ) (a b : ℕ) → is_that word a ≡ true → is_that word b ≡ true → a ≡ b
same_word None a b is_a is_b = absurd (true≢false (sym is_a))
same_word (Some word) a b is_a is_b = sym (eqb-true word a is_a) ∙ eqb-true word b is_b

one_word : (n p : ℕ) (words : List (Option ℕ)) (a b q : ℕ) → flag_in (preds_from p n) words a ≡ Some q
    → flag_in (preds_from p n) words b ≡ Some q → a ≡ b
one_word zero p words a b q is_a is_b = absurd cc
one_word (suc n) p [] a b q is_a is_b = absurd cc
one_word (suc n) p (word ∷ words) a b q is_a is_b =
    by (one_word n (p + 1) words a b q) (is_that word a) refl is_a (is_that word b) refl is_b
  where
    by : (flag_in (preds_from (p + 1) n) words a ≡ Some q → flag_in (preds_from (p + 1) n) words b ≡ Some q → a ≡ b)
        → (x : Bool) → is_that word a ≡ x → (if x then Some p else flag_in (preds_from (p + 1) n) words a) ≡ Some q
        → (y : Bool) → is_that word b ≡ y → (if y then Some p else flag_in (preds_from (p + 1) n) words b)
        ≡ Some q → a ≡ b
    by later true same_a is_a true same_b is_b = same_word word a b same_a same_b
    by later true same_a is_a false other is_b = let same : p ≡ q = grind (arith, is_a) in let r =
        (in_range n (p + 1) words b q is_b).0 in absurd (omega (arith, same, r))
    by later false other is_a true same_b is_b = let same : p ≡ q = grind (arith, is_b) in let r =
        (in_range n (p + 1) words a q is_a).0 in absurd (omega (arith, same, r))
    by later false other_a is_a false other_b is_b = later is_a is_b

pub flag_range : (flags : Flags) (slot p : ℕ) → flag_of flags slot ≡ Some p → (4 ≤ p) × (p < 8)
unfolding flag_of
flag_range flags slot p is = in_range 4 4 (flag_words flags) slot p is

pub flag_one : (flags : Flags) (a b p : ℕ) → flag_of flags a ≡ Some p → flag_of flags b ≡ Some p → a ≡ b
unfolding flag_of
flag_one flags a b p is_a is_b = one_word 4 4 (flag_words flags) a b p is_a is_b

-- a word that is none of those that do
pub beside_in : (preds : List ℕ) (words : List (Option ℕ)) (slot : ℕ) (beside : Option ℕ → Bool)
    → ((word : Option ℕ) → beside word ≡ true → is_that word slot ≡ false) → list_all beside words ≡ true
    → flag_in preds words slot ≡ None
beside_in [] words slot beside each all = refl
beside_in (p ∷ preds) [] slot beside each all = refl
beside_in (p ∷ preds) (word ∷ words) slot beside each all =
    let both = and_parts (beside word) (list_all beside words) all in
    ap (λ b. if b then Some p else flag_in preds words slot) (each word both.0)
    ∙ beside_in preds words slot beside each both.1

-- where none stands in one, and before those that do
pub none_stands : (flags : Flags) (slot : ℕ) → list_all is_none (flag_words flags) ≡ true → flag_of flags slot ≡ None
unfolding flag_of
none_stands flags slot none = beside_in (4 ∷ 5 ∷ 6 ∷ 7 ∷ []) (flag_words flags) slot is_none each none
  where
    each : (word : Option ℕ) → is_none word ≡ true → is_that word slot ≡ false
    each None is = refl
    each (Some word) is = absurd (true≢false (sym is))

pub before_flags : (flags : Flags) (most slot : ℕ) → list_all (is_past most) (flag_words flags) ≡ true → slot < most
    → flag_of flags slot ≡ None
unfolding flag_of
before_flags flags most slot past lt = beside_in (4 ∷ 5 ∷ 6 ∷ 7 ∷ []) (flag_words flags) slot (is_past most) each past
  where
    each : (word : Option ℕ) → is_past most word ≡ true → is_that word slot ≡ false
    each None is = refl
    each (Some word) is = ne_eqb word slot (λ same. absurd (omega (arith, same, lt, leb-true most word is)))

-- ---- what holds of both

pub is_none_of : (o : Option ℕ) → is_none o ≡ true → o ≡ None
is_none_of None is = refl
is_none_of (Some p) is = absurd (true≢false (sym is))

pub is_none_off : (o : Option ℕ) → is_some o ≡ false → o ≡ None
is_none_off None off = refl
is_none_off (Some p) off = absurd (true≢false off)

pub seek_is : (P : PlainBundle → Type 0) (homes : Homes) (mask : ℕ) → P idle → P (fetch_word homes.first mask)
    → P (seek_word homes mask)
unfolding seek_op
seek_is P homes mask none some = by (flag_of homes.flags mask)
  where
    by : (o : Option ℕ) → P (under always (seek_op o homes.first mask))
    by None = some
    by (Some p) = none

pub match_is : (P : PlainBundle → Type 0) (homes : Homes) (mask : ℕ) → P idle
    → P (compare_short cmp.Eq TEST (fetched_at homes.first mask) 1) → P (match_word homes mask)
unfolding match_op
match_is P homes mask none some = by (flag_of homes.flags mask)
  where
    by : (o : Option ℕ) → P (under always (match_op o homes.first mask))
    by None = some
    by (Some p) = none

pub test_is : (P : List PlainBundle → Type 0) (homes : Homes) (mask : ℕ) → ((p : ℕ) → flag_of homes.flags mask ≡ Some p
    → P (idle ∷ idle ∷ []))
    → (flag_of homes.flags mask ≡ None
    → P (fetch_word homes.first mask ∷ compare_short cmp.Eq TEST (fetched_at homes.first mask) 1 ∷ []))
    → P (mask_test homes mask)
unfolding seek_op match_op
test_is P homes mask flagged none = by (flag_of homes.flags mask) refl
  where
    by : (o : Option ℕ) → flag_of homes.flags mask ≡ o → P (under always (seek_op o homes.first mask)
        ∷ under always (match_op o homes.first mask) ∷ [])
    by None is = none is
    by (Some p) is = flagged p is

-- the predicate is one of those that no instruction writes besides, or the test's
pub told_few : (homes : Homes) (mask : ℕ) → (1 ≤ told_at homes mask) × (told_at homes mask < 8)
told_few homes mask = by (flag_of homes.flags mask) refl
  where
    by : (o : Option ℕ) → flag_of homes.flags mask ≡ o → (1 ≤ told_in o) × (told_in o < 8)
    by None is = (omega arith, omega arith)
    by (Some p) is =
        let r = flag_range homes.flags mask p is in let a = r.0 in let b = r.1 in (omega (arith, a), omega (arith, b))

pub told_other : (homes : Homes) (mask : ℕ) → SECOND ≡ told_at homes mask → ⊥
told_other homes mask = by (flag_of homes.flags mask) refl
  where
    by : (o : Option ℕ) → flag_of homes.flags mask ≡ o → SECOND ≡ told_in o → ⊥
    by None is same = omega (arith, same)
    by (Some p) is same = let least = (flag_range homes.flags mask p is).0 in omega (arith, same, least)

-- a mask that is handed to a function
pub handed_is : (P : List PlainBundle → Type 0) (homes : Homes) (mask : ℕ)
    → ((p : ℕ) → flag_of homes.flags mask ≡ Some p
    → P (set_short always MASK 1 ∷ set_short (where_so p) MASK 0 ∷ []))
    → (flag_of homes.flags mask ≡ None → P (read_word homes.first MASK mask ∷ with_short always imm.Xor MASK MASK 1
    ∷ [])) → P (mask_handed homes mask)
unfolding handed_in
handed_is P homes mask flagged none = by (flag_of homes.flags mask) refl
  where
    by : (o : Option ℕ) → flag_of homes.flags mask ≡ o → P (handed_in o homes.first mask)
    by None is = none is
    by (Some p) is = flagged p is

-- words that are cleared
cleared_one : (holds : PlainBundle → Bool) (homes : Homes) (slot : ℕ) → ((p : ℕ) → flag_of homes.flags slot ≡ Some p
    → holds (combine comb.Pxor p 0 0) ≡ true) → holds (set_short always (homes.first + slot) 0) ≡ true
    → list_all holds (word_cleared homes slot) ≡ true
unfolding cleared_in
cleared_one holds homes slot pred one = by (flag_of homes.flags slot) refl
  where
    in_it : (b : Bool) → list_all holds (if b then set_short always (homes.first + slot) 0 ∷ [] else []) ≡ true
    in_it true = and_from (holds (set_short always (homes.first + slot) 0)) true one refl
    in_it false = refl

    by : (o : Option ℕ) → flag_of homes.flags slot ≡ o → list_all holds (cleared_in o homes.first slot) ≡ true
    by None is = in_it (in_register homes.first slot)
    by (Some p) is = and_from (holds (combine comb.Pxor p 0 0)) true (pred p is) refl

pub cleared_within : (holds : PlainBundle → Bool) (homes : Homes) (n : ℕ)
    → ((slot p : ℕ) → flag_of homes.flags slot ≡ Some p
    → holds (combine comb.Pxor p 0 0) ≡ true) → ((slot : ℕ) → slot < n → holds (set_short always (homes.first + slot) 0)
    ≡ true) → list_all holds (words_cleared homes n) ≡ true
cleared_within holds homes zero pred each = refl
cleared_within holds homes (suc n) pred each =
    all_append holds (words_cleared homes n) (word_cleared homes n) (cleared_within holds homes n pred
    (λ slot lt. each slot (omega (arith, lt)))) (cleared_one holds homes n (pred n) (each n (omega arith)))

pub cleared_all : (holds : PlainBundle → Bool) (homes : Homes) (n : ℕ)
    → ((slot p : ℕ) → flag_of homes.flags slot ≡ Some p
    → holds (combine comb.Pxor p 0 0) ≡ true) → ((r : ℕ) → holds (set_short always r 0) ≡ true)
    → list_all holds (words_cleared homes n) ≡ true
cleared_all holds homes n pred each = cleared_within holds homes n pred (λ slot lt. each (homes.first + slot))

-- ---- what words hold

pub shown_plain : (homes : Homes) (slot : ℕ) (m : Run) → flag_of homes.flags slot ≡ None → shown_word homes slot m
    ≡ word_of homes.first slot m
shown_plain homes slot m is = ap (λ o. held_in o homes.first slot m) is

pub shown_flag : (homes : Homes) (slot p : ℕ) (m : Run) → flag_of homes.flags slot ≡ Some p → shown_word homes slot m
    ≡ flag (so p m)
shown_flag homes slot p m is = ap (λ o. held_in o homes.first slot m) is

-- where its place stands, a word does
pub shown_by : (homes : Homes) (slot : ℕ) (m t : Run) → word_of homes.first slot t ≡ word_of homes.first slot m
    → KeepsFlags m t → shown_word homes slot t ≡ shown_word homes slot m
shown_by homes slot m t word flags = by (flag_of homes.flags slot) refl
  where
    by : (o : Option ℕ) → flag_of homes.flags slot ≡ o → held_in o homes.first slot t ≡ held_in o homes.first slot m
    by None is = word
    by (Some p) is = let r = flag_range homes.flags slot p is in ap flag (flags p r.0 r.1)

pub shown_still : (homes : Homes) (slot : ℕ) (m t : Run) → KeepsFrom homes.first m t → KeepsFlags m t → t.stack
    ≡ m.stack → t.st ≡ m.st → shown_word homes slot t ≡ shown_word homes slot m
shown_still homes slot m t high flags stack st =
    shown_by homes slot m t (word_still homes.first slot m t high stack st) flags

-- where only those of the stack from its top on are known to stand, and the predicate of the word
pub shown_kept : (homes : Homes) (slot : ℕ) (m t : Run) → ((p : ℕ) → flag_of homes.flags slot ≡ Some p → so p t
    ≡ so p m) → KeepsFrom homes.first m t → ((a : ℕ) → m.st ≤ a → t.stack a ≡ m.stack a) → t.st ≡ m.st
    → shown_word homes slot t ≡ shown_word homes slot m
shown_kept homes slot m t flags high stack st = by (flag_of homes.flags slot) refl
  where
    by : (o : Option ℕ) → flag_of homes.flags slot ≡ o → held_in o homes.first slot t ≡ held_in o homes.first slot m
    by None is = word_kept homes.first slot m t high stack st
    by (Some p) is = ap flag (flags p is)

-- a word that is set in a register or in the stack
pub shown_set : {most slot v : ℕ} {m t : Run} (homes : Homes) → Sets most homes.first slot v m t
    → flag_of homes.flags slot ≡ None → shown_word homes slot t ≡ v
shown_set {most} {slot} {v} {m} {t} homes set is = shown_plain homes slot t is ∙ set.own

pub shown_beside : {most slot v : ℕ} {m t : Run} (homes : Homes) (u : ℕ) → Sets most homes.first slot v m t
    → (slot ≡ u → ⊥) → shown_word homes u t ≡ shown_word homes u m
shown_beside {most} {slot} {v} {m} {t} homes u set apart = shown_by homes u m t (set.others u apart) set.flags

-- and one that is set in a predicate
word_by_pred : (homes : Homes) (slot p : ℕ) (b : Bool) (m : Run) → IsWhole m
    → word_of homes.first slot (with_written (write.Predicate p b) m) ≡ word_of homes.first slot m
unfolding word_of
word_by_pred homes slot p b m whole = by (in_register homes.first slot) refl
  where
    t : Run
    t = with_written (write.Predicate p b) m

    by : (c : Bool) → in_register homes.first slot ≡ c → (if c then held (homes.first + slot) t else t.stack
        (t.st + stack_word homes.first slot)) ≡ (if c then held (homes.first + slot) m else m.stack
        (m.st + stack_word homes.first slot))
    by true is = let lt = ltb-true (homes.first + slot) OVERRUN is in kept_by_pred p b (homes.first + slot) m whole
        (omega (arith, lt))
    by false is = refl

pub flag_own : (homes : Homes) (slot p : ℕ) (b : Bool) (m : Run) → IsWhole m → flag_of homes.flags slot ≡ Some p
    → shown_word homes slot (with_written (write.Predicate p b) m) ≡ flag b
flag_own homes slot p b m whole is =
    let r = flag_range homes.flags slot p is in
    let least = r.0 in
    shown_flag homes slot p (with_written (write.Predicate p b) m) is
    ∙ ap flag (so_got p b m whole (omega (arith, least)) r.1)

pub flag_beside : (homes : Homes) (slot u p : ℕ) (b : Bool) (m : Run) → IsWhole m → flag_of homes.flags slot ≡ Some p
    → (slot ≡ u → ⊥) → shown_word homes u (with_written (write.Predicate p b) m) ≡ shown_word homes u m
flag_beside homes slot u p b m whole is apart = by (flag_of homes.flags u) refl
  where
    t : Run
    t = with_written (write.Predicate p b) m

    by : (o : Option ℕ) → flag_of homes.flags u ≡ o → held_in o homes.first u t ≡ held_in o homes.first u m
    by None of_u = word_by_pred homes u p b m whole
    by (Some q) of_u =
        ap flag (so_kept p b q m whole (flag_range homes.flags u q of_u).1
        (λ same. apart (flag_one homes.flags slot u q (is ∙ ap Some same) of_u)))

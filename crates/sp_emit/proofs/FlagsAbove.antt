-- Which of the four predicates hold words of a function: none before a number, and none after the last.
use Rattle.std.proofs.Common.{◌≡◌, ℕ, zero, suc, ◌+◌, ◌<◌, ◌≤◌, ◌==◌, Bool, true, false, true≢false, ◌&&◌, if◌then◌else◌, Option, None, Some, List, [], ◌∷◌, refl, sym, subst, arith}
use Rattle.std.specs.Prelude.{is_none, is_some, nat_lt}
use Rattle.std.specs.List.{list_all}
use Rattle.std.proofs.lemmas.Bool.{and_parts, and_from, eqb-true}
use Rattle.sp_tree.specs.Formed.{slots_of}
use Rattle.sp_tree.specs.Statements.{PlainFunction}
use Rattle.sp_emit.specs.Flags.{AreAbove, no_flags, if_within, first_flags, first_choice, function_stands, most_flags, moved_up, flags_end, flags_from}
use Rattle.sp_emit.specs.Places.{flag_in, flag_words, flag_of}
use Rattle.sp_emit.specs.declared.registers.TheConstants.{FLAGS}
use Rattle.sp_emit.specs.declared.stands.Flags.{Flags}
use Rattle.sp_emit.proofs.FlagWords.{preds_from, in_range}

-- ---- none among the first so many

abbrev none_in : ℕ → List (Option ℕ) → Bool
none_in (suc n) (word ∷ words) = is_none word && none_in n words
none_in _ _ = true

in_later : (n k p : ℕ) (words : List (Option ℕ)) (slot q : ℕ) → none_in n words ≡ true
    → flag_in (preds_from p k) words slot ≡ Some q → p + n ≤ q
in_later zero k p words slot q none is = let least = (in_range k p words slot q is).0 in omega (arith, least)
in_later (suc n) zero p words slot q none is = absurd cc
in_later (suc n) (suc k) p [] slot q none is = absurd cc
in_later (suc n) (suc k) p (None ∷ words) slot q none is =
    let least = in_later n k (p + 1) words slot q none is in omega (arith, least)
in_later (suc n) (suc k) p (Some word ∷ words) slot q none is = absurd (true≢false (sym none))

above_of : (n : ℕ) (flags : Flags) → none_in n (flag_words flags) ≡ true → AreAbove n flags
unfolding flag_of
above_of n flags none slot p is = in_later n 4 4 (flag_words flags) slot p none is

none_all : (n : ℕ) (words : List (Option ℕ)) → list_all is_none words ≡ true → none_in n words ≡ true
none_all zero words none = refl
none_all (suc n) [] none = refl
none_all (suc n) (word ∷ words) none =
    let both = and_parts (is_none word) (list_all is_none words) none in
    and_from (is_none word) (none_in n words) both.0 (none_all n words both.1)

-- words that are none where others are
abbrev AreFewer : List (Option ℕ) → List (Option ℕ) → Type 0
AreFewer [] [] = Unit {0}
AreFewer (x ∷ xs) (y ∷ ys) = (is_none x ≡ true → is_none y ≡ true) × AreFewer xs ys
AreFewer _ _ = ⊥

none_fewer : (n : ℕ) (xs ys : List (Option ℕ)) → AreFewer xs ys → none_in n xs ≡ true → none_in n ys ≡ true
none_fewer zero xs ys fewer none = refl
none_fewer (suc n) [] [] fewer none = refl
none_fewer (suc n) [] (y ∷ ys) fewer none = absurd fewer
none_fewer (suc n) (x ∷ xs) [] fewer none = absurd fewer
none_fewer (suc n) (x ∷ xs) (y ∷ ys) fewer none =
    let both = and_parts (is_none x) (none_in n xs) none in
    and_from (is_none y) (none_in n ys) (fewer.0 both.0) (none_fewer n xs ys fewer.1 both.1)

first_none : (n count : ℕ) (flags : Flags) → none_in n (flag_words flags) ≡ true
    → none_in n (flag_words (first_flags count flags)) ≡ true
first_none n count flags none = none_fewer n (flag_words flags) (flag_words (first_flags count flags))
    (within 0 flags.first, (within 1 flags.second, (within 2 flags.third, (within 3 flags.fourth, tt)))) none
  where
    within : (i : ℕ) (word : Option ℕ) → is_none word ≡ true → is_none (if_within count i word) ≡ true
    within i word is = by (nat_lt i count)
      where
        by : (b : Bool) → is_none (if b then word else None) ≡ true
        by true = is
        by false = refl

most_none : (n count : ℕ) (flags : Flags) (f : PlainFunction) → none_in n (flag_words flags) ≡ true
    → none_in n (flag_words (most_flags count flags f)) ≡ true
most_none n zero flags f none = first_none n 0 flags none
most_none n (suc count) flags f none =
    by (most_none n count flags f none) (function_stands (first_flags (suc count) flags) f)
  where
    by : none_in n (flag_words (most_flags count flags f)) ≡ true → (b : Bool)
        → none_in n (flag_words (if b then first_flags (suc count) flags else most_flags count flags f)) ≡ true
    by fewer true = first_none n (suc count) flags none
    by fewer false = fewer

moved_none : (n : ℕ) (flags : Flags) → none_in n (flag_words (moved_up n flags)) ≡ true
moved_none n flags = at_0 (n == 0) refl
  where
    at_3 : (b : Bool) → (n == 3) ≡ b
        → none_in n (flag_words (if b then record { first = None; second = None; third = None; fourth = flags.first }
        else no_flags)) ≡ true
    at_3 true is = subst (λ k. none_in k (None ∷ None ∷ None ∷ flags.first ∷ []) ≡ true) (sym (eqb-true n 3 is)) refl
    at_3 false is = none_all n (flag_words no_flags) refl

    at_2 : (b : Bool) → (n == 2) ≡ b
        → none_in n (flag_words (if b then record {
          first = None;
          second = None;
          third = flags.first;
          fourth = flags.second;
        } else if n == 3 then record {
          first =
              None;
          second = None;
          third = None;
          fourth = flags.first;
        } else no_flags)) ≡ true
    at_2 true is =
        subst (λ k. none_in k (None ∷ None ∷ flags.first ∷ flags.second ∷ []) ≡ true) (sym (eqb-true n 2 is)) refl
    at_2 false is = at_3 (n == 3) refl

    at_1 : (b : Bool) → (n == 1) ≡ b
        → none_in n (flag_words (if b then record {
          first = None;
          second = flags.first;
          third = flags.second;
          fourth = flags.third;
        } else if n == 2 then record {
          first =
              None;
          second = None;
          third = flags.first;
          fourth = flags.second;
        }
        else if n == 3 then record { first = None; second = None; third = None; fourth = flags.first } else no_flags))
        ≡ true
    at_1 true is = subst (λ k. none_in k (None ∷ flags.first ∷ flags.second ∷ flags.third ∷ []) ≡ true)
        (sym (eqb-true n 1 is)) refl
    at_1 false is = at_2 (n == 2) refl

    at_0 : (b : Bool) → (n == 0) ≡ b
        → none_in n (flag_words (if b then flags else if n == 1 then record {
          first = None;
          second = flags.first;
          third = flags.second;
          fourth = flags.third;
        } else if n == 2 then record {
          first = None;
          second = None;
          third = flags.first;
          fourth = flags.second;
        }
        else if n == 3 then record { first = None; second = None; third = None; fourth = flags.first } else no_flags))
        ≡ true
    at_0 true is = subst (λ k. none_in k (flag_words flags) ≡ true) (sym (eqb-true n 0 is)) refl
    at_0 false is = at_1 (n == 1) refl

pub flags_above : (base : ℕ) (f : PlainFunction) → AreAbove base (flags_from base f)
flags_above base f =
    let best = (first_choice f (slots_of f)).best in
    above_of base (flags_from base f) (most_none base 4 (moved_up base best) f (moved_none base best))

pub above_fewer : (flags : Flags) {n : ℕ} (m : ℕ) → m ≤ n → AreAbove n flags → AreAbove m flags
above_fewer flags m le above slot p is = omega (arith, above slot p is, le)

-- ---- none after the last

pub flags_within : (flags : Flags) (slot p : ℕ) → flag_of flags slot ≡ Some p → p < FLAGS + flags_end flags
unfolding flag_of
flags_within flags slot p is = by flags.first flags.second flags.third flags.fourth is
  where
    by : (a b c d : Option ℕ) → flag_in (4 ∷ 5 ∷ 6 ∷ 7 ∷ []) (a ∷ b ∷ c ∷ d ∷ []) slot ≡ Some p
        → p < FLAGS + (if is_some d then 4 else if is_some c then 3 else if is_some b then 2 else if is_some
        a then 1 else 0)
    by a b c (Some word) is = (in_range 4 4 (a ∷ b ∷ c ∷ Some word ∷ []) slot p is).1
    by a b (Some word) None is = (in_range 3 4 (a ∷ b ∷ Some word ∷ []) slot p is).1
    by a (Some word) None None is = (in_range 2 4 (a ∷ Some word ∷ []) slot p is).1
    by (Some word) None None None is = (in_range 1 4 (Some word ∷ []) slot p is).1
    by None None None None is = absurd cc

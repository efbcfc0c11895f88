-- A number and a name in a text, where a byte follows that does not go on with them.
use Rattle.std.proofs.Common.{◌≡◌, ◌∙◌, ℕ, suc, ◌+◌, ◌*◌, ◌/◌, ◌%◌, ◌<◌, ◌≤◌, ◌==◌, ◌&&◌, ◌||◌, ◌^◌, nat_eq, nat_lt, Bool, true, false, refl, ap, not, if◌then◌else◌, List, [], ◌∷◌, ◌++◌, length, length-append, take, arith, None, Some, bytes_eq, codes, slice_index}
use Rattle.std.specs.List.{list_all}
use Rattle.std.specs.Fmt.{decimal}
use Rattle.std.proofs.lemmas.Bool.{and_from}
use Rattle.std.proofs.lemmas.Bool.Decides.{nat_tests}
use Rattle.std.proofs.lemmas.Grind.{common_steps}
use Rattle.std.proofs.lemmas.Fmt.{decimal_by_steps}
use Rattle.std.proofs.lemmas.List.Folds.{list_all-append}
use Rattle.std.proofs.Math.Seq.{take-append_seam, drop-append_seam}
use Rattle.c_tree.specs.declared.tokens.Token.{Token}
use Rattle.c_tree.specs.declared.tokens.Token.TheVariants as token
use Rattle.c_lex.specs.declared.classes.Class.{Class}
use Rattle.c_lex.specs.declared.classes.Class.TheVariants.{Digit, Name}
use Rattle.c_lex.specs.declared.numbers.Radix.TheVariants.{Decimal}
use Rattle.c_lex.specs.declared.pieces.Piece.TheVariants.{Is}
use Rattle.c_lex.specs.Bytes.{begins_name, is_blank, is_digit, is_of_name, passes, run}
use Rattle.c_lex.specs.Numbers.{digit_of, is_hexadecimal_number, is_suffix, number_at, number_of, number_piece, word_value}
use Rattle.c_lex.specs.Names.{is_among, keyword_among, keywords, unused, word_of}
use Rattle.c_lex.specs.Texts.{name_at, piece_after}
use Rattle.gen_jobs.proofs.Cut.{Reads, cut}

-- what a number is written as: digits that have its value, and none with a zero before another digit
pub record Writes (n : ℕ) (ds : List ℕ) : Type 0 where
  pub some : 0 < length ds
  pub all : list_all is_digit ds ≡ true
  pub first : 1 < length ds → (slice_index ds 0 == 48) ≡ false
  pub value : number_of Decimal 0 ds ≡ n

one_more : (value d : ℕ) (ds : List ℕ) → number_of Decimal value (ds ++ d ∷ []) ≡ number_of Decimal value ds
    * 10 + digit_of d
one_more value d [] = refl
one_more value d (e ∷ ds) = one_more (value * 10 + digit_of e) d ds

digit_is : (d : ℕ) → d < 10 → (is_digit (48 + d) ≡ true) × (digit_of (48 + d) ≡ d)
digit_is d few =
    let digit : is_digit (48 + d) ≡ true = grind (arith, nat_tests) in (digit, rw digit (omega (arith, few)))

-- digits of a number of two digits or more, before its last one
front_first : (n d : ℕ) (ds : List ℕ) → 10 ≤ n → Writes (n / 10) ds → (slice_index (ds ++ d ∷ []) 0 == 48) ≡ false
front_first n d [] more w = absurd (omega (arith, w.some))
front_first n d (e ∷ []) more w = by_zero (e == 48) refl
  where
    by_zero : (t : Bool) → (e == 48) ≡ t → t ≡ false
    by_zero false is = refl
    by_zero true is =
        let same : e ≡ 48 = grind (arith, nat_tests) in
        absurd (omega (arith, more, w.value, ap (λ b. number_of Decimal 0 (b ∷ [])) same))
front_first n d (e ∷ f ∷ ds) more w = w.first (omega arith)

pub decimal_writes : (n : ℕ) → n < 2 ^ 64 → Writes n (decimal n)
decimal_writes = decimal_by_steps Writes one more
  where
    one : (n : ℕ) → n < 10 → Writes n ((48 + n) ∷ [])
    one n few = record {
      some = omega arith;
      all = rw (digit_is n few).0 refl;
      first = λ h. absurd (omega (arith, h));
      value = omega (arith, (digit_is n few).1);
    }

    more : (n : ℕ) (ds : List ℕ) → 10 ≤ n → Writes (n / 10) ds → Writes n (ds ++ (48 + n % 10) ∷ [])
    more n ds much w =
        let last = digit_is (n % 10) (omega arith) in
        record {
          some = omega (arith, length-append ds ((48 + n % 10) ∷ []));
          all = list_all-append is_digit ds ((48 + n % 10) ∷ []) ∙ and_from _ _ w.all (rw last.0 refl);
          first = λ h. front_first n (48 + n % 10) ds much w;
          value = one_more 0 (48 + n % 10) ds ∙ omega (arith, w.value, last.1);
        }

-- ---- runs

-- bytes of a class, and one after them that is not
run_over : (class : Class) (ds : List ℕ) (c : ℕ) (rest : List ℕ) → list_all (passes class) ds ≡ true → passes class c
    ≡ false → run class (ds ++ c ∷ rest) ≡ length ds
run_over class [] c rest all other = rw other refl
run_over class (d ∷ ds) c rest all other =
    let here : passes class d ≡ true = grind (arith, nat_tests) in
    let there : list_all (passes class) ds ≡ true = grind (arith, nat_tests) in
    rw here (ap suc (run_over class ds c rest there other))

-- ---- numbers

-- what does not go on with a name is no digit, no suffix and no `x`, and a digit begins no name and no hexadecimal
-- number
not_of_number : (c : ℕ) → is_of_name c ≡ false → (is_digit c ≡ false) × (is_suffix c ≡ false)
    × ((c == 120 || c == 88) ≡ false)
not_of_number c other = (grind (arith, nat_tests), grind (arith, nat_tests), grind (arith, nat_tests))

of_digit : (d : ℕ) → is_digit d ≡ true → (is_blank d ≡ false) × (begins_name d ≡ false) × ((d == 35) ≡ false)
    × ((d == 120 || d == 88) ≡ false)
of_digit d digit =
    (grind (arith, nat_tests), grind (arith, nat_tests), grind (arith, nat_tests), grind (arith, nat_tests))

no_hexadecimal : (a b c : Bool) → b ≡ false → a && (b && c) ≡ false
no_hexadecimal false b c none = refl
no_hexadecimal true b c none = rw none refl

decimal_only : (ds rest : List ℕ) (c : ℕ) → 0 < length ds → list_all is_digit ds ≡ true → is_of_name c ≡ false
    → is_hexadecimal_number (ds ++ c ∷ rest) ≡ false
decimal_only [] rest c some all other = absurd (omega (arith, some))
decimal_only (d ∷ []) rest c some all other = no_hexadecimal (d == 48) (c == 120 || c == 88) _ (not_of_number c other).2
decimal_only (d ∷ e ∷ ds) rest c some all other =
    let digit : is_digit e ≡ true = grind (arith, nat_tests) in
    no_hexadecimal (d == 48) (e == 120 || e == 88) _ (of_digit e digit).3

no_zero_first : (ds rest : List ℕ) → 0 < length ds → (1 < length ds → (slice_index ds 0 == 48) ≡ false)
    → (nat_lt 1 (length ds) && slice_index (ds ++ rest) 0 == 48) ≡ false
no_zero_first [] rest some first = absurd (omega (arith, some))
no_zero_first (d ∷ []) rest some first = refl
no_zero_first (d ∷ e ∷ ds) rest some first =
    let other = first (omega arith) in
    let long : nat_lt 1 (length (d ∷ e ∷ ds)) ≡ true = grind (arith, nat_tests) in
    rw (long, other) refl

word_is : (n count c : ℕ) (rest : List ℕ) → n < 2 ^ 31 → is_of_name c ≡ false
    → number_piece (word_value n) count (c ∷ rest) ≡ Is (token.Number n false) count
word_is n count c rest few other =
    let fits : nat_lt n 4294967296 ≡ true = grind (arith, nat_tests) in
    let signed : nat_lt 2147483647 n ≡ false = grind (arith, nat_tests) in
    rw ((not_of_number c other).1, other, fits, signed) refl

number_is : (n c : ℕ) (ds rest : List ℕ) → Writes n ds → n < 2 ^ 31 → is_of_name c ≡ false → number_at (ds ++ c ∷ rest)
    ≡ Is (token.Number n false) (length ds)
number_is n c ds rest w few other =
    let long = run_over Digit ds c rest w.all (not_of_number c other).0 in
    let first = no_zero_first ds (c ∷ rest) w.some w.first in
    rw (
      decimal_only ds rest c w.some w.all other,
      long,
      first,
      take-append_seam ds (c ∷ rest),
      drop-append_seam ds
          (c ∷ rest),
      w.value,
    )
    (word_is n (length ds) c rest few other)

-- ---- one piece

-- a token that is cut from a text, which does not begin with `#`
pub one_piece : (ds rest : List ℕ) (t : Token) → 0 < length ds → (slice_index ds 0 == 35) ≡ false
    → piece_after [] (ds ++ rest) ≡ Is t (length ds) → cut 1 (ds ++ rest) ≡ Some (t ∷ [], rest)
one_piece [] rest t some other is = absurd (omega (arith, some))
one_piece (d ∷ ds) rest t some other is = rw (other, is) (ap (λ left. Some (t ∷ [], left)) (drop-append_seam ds rest))

-- the third of four choices
third : {X : Type 0} (s t u : Bool) (a b c d : X) → s ≡ false → t ≡ false → u ≡ true
    → (if s then a else (if t then b else (if u then c else d))) ≡ c
third s t u a b c d not_s not_t is_u = rw (not_s, not_t, is_u) refl

at_digit : (d : ℕ) (bs : List ℕ) → is_digit d ≡ true → piece_after [] (d ∷ bs) ≡ number_at (d ∷ bs)
unfolding piece_after
at_digit d bs digit =
    let other = of_digit d digit in third (is_blank d) (begins_name d) (is_digit d) _ _ _ _ other.0 other.1 digit

number_piece_is : (n c : ℕ) (ds rest : List ℕ) → Writes n ds → n < 2 ^ 31 → is_of_name c ≡ false
    → cut 1 (ds ++ c ∷ rest) ≡ Some (token.Number n false ∷ [], c ∷ rest)
number_piece_is n c [] rest w few other = absurd (omega (arith, w.some))
number_piece_is n c (d ∷ ds) rest w few other =
    let digit : is_digit d ≡ true = grind (arith, nat_tests, w.all) in
    one_piece (d ∷ ds) (c ∷ rest) (token.Number n false) (omega arith) (of_digit d digit).2
    (at_digit d (ds ++ c ∷ rest) digit ∙ number_is n c (d ∷ ds) rest w few other)

-- a text that does not go on with a name or a number
abbrev pub stops : List ℕ → Bool
stops [] = false
stops (c ∷ text) = not (is_of_name c)

stops_so : (c : ℕ) → not (is_of_name c) ≡ true → is_of_name c ≡ false
stops_so c stop = grind (arith, nat_tests)

pub reads_number : (n : ℕ) (text rest : List ℕ) → n < 2 ^ 31 → stops text ≡ true
    → Reads (decimal n ++ (text ++ rest)) (token.Number n false ∷ []) (text ++ rest)
reads_number n [] rest few stop = absurd (grind (arith, common_steps))
reads_number n (c ∷ text) rest few stop = record {
  pieces = 1;
  cuts = number_piece_is n c (decimal n) (text ++ rest)
      (decimal_writes n (omega (arith, few))) few (stops_so c stop);
}

-- ---- the names of functions

-- an `f` and digits after it
digit_of_name : (ds : List ℕ) → list_all is_digit ds ≡ true → list_all is_of_name ds ≡ true
digit_of_name [] all = refl
digit_of_name (d ∷ ds) all =
    let here : is_digit d ≡ true = grind (arith, nat_tests) in
    let there : list_all is_digit ds ≡ true = grind (arith, nat_tests) in
    and_from _ _ (grind (arith, nat_tests)) (digit_of_name ds there)

-- two keywords begin with `f`
no_keyword : (d : ℕ) (ds : List ℕ) → is_digit d ≡ true → (bytes_eq (102 ∷ d ∷ ds) (codes "for") ≡ false)
    × (bytes_eq (102 ∷ d ∷ ds) (codes "float") ≡ false)
no_keyword d ds digit =
    let no_o : nat_eq d 111 ≡ false = grind (arith, nat_tests) in
    let no_l : nat_eq d 108 ≡ false = grind (arith, nat_tests) in
    (rw no_o refl, rw no_l refl)

is_no_keyword : (ds : List ℕ) → 0 < length ds → list_all is_digit ds ≡ true → word_of (102 ∷ ds) ≡ token.Word (102 ∷ ds)
is_no_keyword [] some all = absurd (omega (arith, some))
is_no_keyword (d ∷ ds) some all =
    let digit : is_digit d ≡ true = grind (arith, nat_tests) in
    let neither = no_keyword d ds digit in
    let none : keyword_among (102 ∷ d ∷ ds) keywords ≡ None = rw neither.0 refl in
    let unnamed : is_among (102 ∷ d ∷ ds) unused ≡ false = rw neither.1 refl in
    rw (none, unnamed, word_of) refl

at_f : (bs : List ℕ) → piece_after [] (102 ∷ bs) ≡ name_at (102 ∷ bs)
unfolding piece_after
at_f bs = refl

named : (bs name : List ℕ) → take (run Name bs) bs ≡ name → bytes_eq name (codes "_Pragma") ≡ false → name_at bs
    ≡ Is (word_of name) (run Name bs)
named bs name taken other = rw (taken, other) refl

name_is : (ds rest : List ℕ) (c : ℕ) → 0 < length ds → list_all is_digit ds ≡ true → is_of_name c ≡ false
    → piece_after [] (102 ∷ ds ++ c ∷ rest) ≡ Is (token.Word (102 ∷ ds)) (suc (length ds))
name_is ds rest c some all other =
    let bs = 102 ∷ ds ++ c ∷ rest in
    let long : run Name bs ≡ suc (length ds) = run_over Name (102 ∷ ds) c rest (digit_of_name ds all) other in
    at_f (ds ++ c ∷ rest) ∙ named bs (102 ∷ ds) (ap (λ k. take k bs) long ∙ take-append_seam (102 ∷ ds) (c ∷ rest)) refl
    ∙ ap (λ k. Is (word_of (102 ∷ ds)) k) long ∙ ap (λ t. Is t (suc (length ds))) (is_no_keyword ds some all)

pub reads_name : (n : ℕ) (text rest : List ℕ) → n < 2 ^ 31 → stops text ≡ true
    → Reads (codes "f" ++ (decimal n ++ (text ++ rest))) (token.Word (codes "f" ++ decimal n) ∷ []) (text ++ rest)
reads_name n [] rest few stop = absurd (grind (arith, common_steps))
reads_name n (c ∷ text) rest few stop =
    let w = decimal_writes n (omega (arith, few)) in
    record {
      pieces = 1;
      cuts = one_piece (102 ∷ decimal n) (c ∷ text ++ rest) (token.Word (102 ∷ decimal n)) (omega arith) refl
          (name_is (decimal n) (text ++ rest) c w.some w.all (stops_so c stop));
    }

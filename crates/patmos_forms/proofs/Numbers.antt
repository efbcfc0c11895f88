-- A number that is given as its limit once it passes it.
use Rattle.std.proofs.Common.{◌≡◌, ◌∙◌, ℕ, suc, ◌+◌, ◌*◌, ◌^◌, ◌<◌, ◌≤◌, nat_lt, true, false, min, List, [], ◌∷◌, length, get_or, drop, refl, sym, ap, arith, add-one, Option, Some, None, option_map, Ok, Err}
use Rattle.std.specs.Prelude.{unwrap_or}
use Rattle.std.proofs.lemmas.Bool.Decides.{nat_tests}
use Rattle.std.proofs.Math.Seq.{drop-cons}
use Rattle.patmos_forms.specs.declared.readers.Radix.{Radix}
use Rattle.patmos_forms.specs.declared.readers.Radix.TheVariants.{Decimal, Hexadecimal}
use Rattle.patmos_forms.specs.Readers.{◌>>=◌, base_of, digit_of, value_after}
use Rattle.patmos_forms.specs.declared.faults.AsmKind.TheVariants.{Range}
use Rattle.patmos_forms.specs.Forms.{below}

-- one more digit after a number cut at the limit is one more after the number, cut
min-step : (radix : Radix) (limit a d : ℕ) → min limit (min limit a * base_of radix + d)
    ≡ min limit (a * base_of radix + d)
min-step Decimal limit a d = omega arith
min-step Hexadecimal limit a d = omega arith

after_digit : (radix : Radix) (limit a : ℕ) (bs : List ℕ) (digit : Option ℕ)
    → ((x : ℕ) → option_map (min limit) (value_after radix (min limit x) bs)
    ≡ option_map (min limit) (value_after radix x bs))
    → option_map (min limit) (digit >>= λ d. value_after radix (min limit a * base_of radix + d) bs)
    ≡ option_map (min limit) (digit >>= λ d. value_after radix (a * base_of radix + d) bs)
after_digit radix limit a bs None same = refl
after_digit radix limit a bs (Some d) same =
    sym (same (min limit a * base_of radix + d))
    ∙ ap (λ n. option_map (min limit) (value_after radix n bs)) (min-step radix limit a d)
    ∙ same (a * base_of radix + d)

-- digits after a number cut at the limit write the same, cut, as after the number
pub value_after-min : (radix : Radix) (limit a : ℕ) (bs : List ℕ)
    → option_map (min limit) (value_after radix (min limit a) bs) ≡ option_map (min limit) (value_after radix a bs)
value_after-min radix limit a [] = ap Some (omega arith)
value_after-min radix limit a (b ∷ bs) =
    after_digit radix limit a bs (digit_of radix b) (λ x. value_after-min radix limit x bs)

-- the loop's step at a digit, and at a byte that is none
pub next_digit : (radix : Radix) (limit a i d : ℕ) (bs : List ℕ) → i < length bs → digit_of radix (get_or bs i 0)
    ≡ Some d
    → option_map (min limit) (value_after radix a (drop i bs)) ≡ option_map (min limit) (value_after radix
    (min limit (a * base_of radix + d)) (drop (i + 1) bs))
next_digit radix limit a i d bs within is =
    rw (add-one, drop-cons bs i 0, is) (sym (value_after-min radix limit (a * base_of radix + d) (drop (suc i) bs)))

pub no_digit : (radix : Radix) (limit a i : ℕ) (bs : List ℕ) → i < length bs → digit_of radix (get_or bs i 0) ≡ None
    → option_map (min limit) (value_after radix a (drop i bs)) ≡ None
no_digit radix limit a i bs within is = rw (drop-cons bs i 0, is) refl

-- what is read cut is written
pub number_known : (o : Option ℕ) (cut : ℕ) → option_map (min (2 ^ 32)) o ≡ Some cut → Some (unwrap_or o 0) ≡ o
number_known None cut is = cc
number_known (Some n) cut is = refl

-- a number is below a limit of at most 2^32 exactly where the cut one is, and then both are the same
pub below_fits : (o : Option ℕ) (limit cut : ℕ) → limit ≤ 2 ^ 32 → option_map (min (2 ^ 32)) o ≡ Some cut → cut < limit
    → Ok cut ≡ below limit (unwrap_or o 0)
below_fits None limit cut most is fits = cc
below_fits (Some n) limit cut most is fits =
    let known : min (2 ^ 32) n ≡ cut = cc in
    let same : cut ≡ n = omega arith in
    let test : nat_lt n limit ≡ true = grind (arith, nat_tests) in
    rw test (ap Ok same)

pub below_passes : (o : Option ℕ) (limit cut : ℕ) → limit ≤ 2 ^ 32 → option_map (min (2 ^ 32)) o ≡ Some cut
    → limit ≤ cut → Err Range ≡ below limit (unwrap_or o 0)
below_passes None limit cut most is passes = cc
below_passes (Some n) limit cut most is passes =
    let known : min (2 ^ 32) n ≡ cut = cc in
    let past : limit ≤ n = omega arith in
    let test : nat_lt n limit ≡ false = grind (arith, nat_tests) in
    rw test refl

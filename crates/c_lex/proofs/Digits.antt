-- A number that is told as its limit once it passes it.
use Rattle.std.proofs.Common.{◌≡◌, ◌∙◌, ℕ, suc, ◌+◌, ◌*◌, ◌<◌, min, List, [], ◌∷◌, length, get_or, drop, sym, ap, arith, add-one}
use Rattle.std.proofs.lemmas.Bool.Decides.{nat_tests}
use Rattle.std.proofs.Math.Seq.{drop-cons}
use Rattle.c_lex.specs.declared.numbers.Radix.{Radix}
use Rattle.c_lex.specs.declared.numbers.Radix.TheVariants.{Decimal, Hexadecimal}
use Rattle.c_lex.specs.Numbers.{base_of, digit_of, number_of, word_value}

min-step : (r : Radix) (limit a d : ℕ) → min limit (min limit a * base_of r + d) ≡ min limit (a * base_of r + d)
min-step Decimal limit a d = omega arith
min-step Hexadecimal limit a d = omega arith

-- digits after a number cut at the limit write the same, cut, as after the number
number_of-min : (r : Radix) (limit a : ℕ) (bs : List ℕ) → min limit (number_of r (min limit a) bs)
    ≡ min limit (number_of r a bs)
number_of-min r limit a [] = omega arith
number_of-min r limit a (b ∷ bs) =
    sym (number_of-min r limit (min limit a * base_of r + digit_of b) bs)
    ∙ ap (λ n. min limit (number_of r n bs)) (min-step r limit a (digit_of b))
    ∙ number_of-min r limit (a * base_of r + digit_of b) bs

-- a loop's step
pub next_digit : (r : Radix) (limit a i : ℕ) (bs : List ℕ) → i < length bs
    → min limit (number_of r a (drop i bs))
    ≡ min limit (number_of r (min limit (a * base_of r + digit_of (get_or bs i 0))) (drop (i + 1) bs))
next_digit r limit a i bs within = rw (add-one, drop-cons bs i 0)
    (sym (number_of-min r limit (a * base_of r + digit_of (get_or bs i 0)) (drop (suc i) bs)))

-- numbers that are the same below 2^32 are the same as words
pub same_word : (a b : ℕ) → min 4294967296 a ≡ min 4294967296 b → word_value a ≡ word_value b
same_word a b e = grind (arith, nat_tests, e)

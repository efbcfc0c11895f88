-- Names are ASCII.
use Rattle.std.proofs.Common.{arith, ◌≡◌, ℕ, zero, suc, ◌<◌, Bool, true, false, refl, if◌then◌else◌, List, [], ◌∷◌, take}
use Rattle.std.specs.Str.{IsAscii, IsUtf8}
use Rattle.std.proofs.lemmas.Bool.Decides.{nat_tests}
use Rattle.std.proofs.lemmas.Str.{IsUtf8-from_ascii}
use Rattle.c_lex.specs.declared.classes.Class.TheVariants.{Name}
use Rattle.c_lex.specs.Bytes.{is_of_name, run}

small : (b : ℕ) → is_of_name b ≡ true → b < 128
small b e = grind (arith, nat_tests)

run_small : (bs : List ℕ) → IsAscii (take (run Name bs) bs)
run_small [] = λ i. omega arith
run_small (b ∷ bs) = first (run_small bs) (is_of_name b) refl
  where
    first : IsAscii (take (run Name bs) bs) → (t : Bool) → is_of_name b ≡ t
        → IsAscii (take (if t then suc (run Name bs) else 0) (b ∷ bs))
    first more true e zero = small b e
    first more true e (suc i) = more i
    first more false e i = omega arith

pub name_is_text : (bs : List ℕ) → IsUtf8 (take (run Name bs) bs)
name_is_text bs = IsUtf8-from_ascii (take (run Name bs) bs) (run_small bs)

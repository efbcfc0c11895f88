-- Names are ASCII.
use Rattle.std.proofs.Common.{arith, ◌≡◌, ℕ, zero, suc, ◌<◌, true, List, [], ◌∷◌}
use Rattle.std.specs.List.{list_all}
use Rattle.std.specs.Str.{IsAscii, IsUtf8}
use Rattle.std.proofs.lemmas.Bool.Decides.{nat_tests}
use Rattle.std.proofs.lemmas.Str.{IsUtf8-from_ascii}
use Rattle.std.proofs.lemmas.Bool.{and_parts}
use Rattle.patmos_forms.specs.Readers.{begins_name, is_in_name, is_name}

first_small : (b : ℕ) → begins_name b ≡ true → b < 128
first_small b e = grind (arith, nat_tests)

next_small : (b : ℕ) → is_in_name b ≡ true → b < 128
next_small b e = grind (arith, nat_tests)

all_small : (bs : List ℕ) → list_all is_in_name bs ≡ true → IsAscii bs
all_small [] e i = omega arith
all_small (b ∷ bs) e zero = next_small b (and_parts (is_in_name b) (list_all is_in_name bs) e).0
all_small (b ∷ bs) e (suc i) = all_small bs (and_parts (is_in_name b) (list_all is_in_name bs) e).1 i

name_small : (bs : List ℕ) → is_name bs ≡ true → IsAscii bs
name_small [] e i = omega arith
name_small (b ∷ bs) e zero = first_small b (and_parts (begins_name b) (list_all is_in_name bs) e).0
name_small (b ∷ bs) e (suc i) = all_small bs (and_parts (begins_name b) (list_all is_in_name bs) e).1 i

pub name_is_text : (bs : List ℕ) → is_name bs ≡ true → IsUtf8 bs
name_is_text bs e = IsUtf8-from_ascii bs (name_small bs e)

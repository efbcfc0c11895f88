-- The source of a generated task stands for itself between its delimiters.
use Rattle.std.proofs.Common.{◌≡◌, ℕ, zero, suc, ◌+◌, ◌%◌, ◌<◌, ◌^◌, Bool, true, ◌&&◌, ◌||◌, ◌==◌, not, nat_le, List, [], ◌∷◌, ◌++◌, codes, refl, arith, ◌∙◌}
use Rattle.std.specs.List.{list_all}
use Rattle.std.specs.Fmt.{decimal}
use Rattle.std.proofs.lemmas.Bool.{and_from}
use Rattle.std.proofs.lemmas.Bool.Decides.{nat_tests}
use Rattle.std.proofs.lemmas.Fmt.{decimal_is_IsNumeral}
use Rattle.std.proofs.lemmas.Str.Ascii.{IsAscii-nil, IsAscii-cons}
use Rattle.std.specs.Prelude.{IsAscii}
use Rattle.std.proofs.lemmas.List.Folds.{list_all-append}
use Rattle.std.specs.Str.Parse.{AllDigits}
use Rattle.job_gen.specs.Generator.{after, array_lines, call_line, calls, draw, else_text, function_line, function_text, functions, line, main_lines, next, return_text, source, test_text, then_text}
use Rattle.job_gen.specs.declared.task.TheConstants.{FUNCTIONS, MASKS, VALUES}
use Rattle.toml_parser.specs.Strings.{is_plain}

-- a newline, or a printed byte but the apostrophe
abbrev pub is_quiet : ℕ → Bool
is_quiet c = c == 10 || ((nat_le 32 c && nat_le c 126) && not (c == 39))

pub record IsQuiet (text : List ℕ) : Type 0 where
  pub all : list_all is_quiet text ≡ true

both : (xs ys : List ℕ) → IsQuiet xs → IsQuiet ys → IsQuiet (xs ++ ys)
both xs ys first more = record { all = list_all-append is_quiet xs ys ∙ and_from _ _ first.all more.all }

digits : (ds : List ℕ) → AllDigits 10 ds → list_all is_quiet ds ≡ true
digits [] all = refl
digits (d ∷ ds) all = let here = all.0 in and_from _ _ (grind (arith, nat_tests)) (digits ds all.1)

number : (n : ℕ) → n < 2 ^ 64 → IsQuiet (decimal n)
number n few = record { all = digits (decimal n) ((decimal_is_IsNumeral n few).0.1) }

words : (text : List ℕ) → list_all is_quiet text ≡ true → IsQuiet text
words text all = record { all = all }

-- words and a number after them
pair : (text : List ℕ) (n : ℕ) → list_all is_quiet text ≡ true → n < 2 ^ 64 → IsQuiet (text ++ decimal n)
pair text n plain few = both text (decimal n) (words text plain) (number n few)

two_pairs : (text more : List ℕ) (n m : ℕ) → list_all is_quiet text ≡ true → list_all is_quiet more ≡ true → n < 2 ^ 64
    → m < 2 ^ 64 → IsQuiet (text ++ decimal n ++ more ++ decimal m)
two_pairs text more n m plain also few less = both (text ++ decimal n ++ more) (decimal m)
    (both (text ++ decimal n) more (pair text n plain few) (words more also)) (number m less)

function_quiet : (index x : ℕ) → index < 100 → IsQuiet (function_line index x)
unfolding function_line function_text test_text then_text else_text return_text
function_quiet index x few =
    let mask = draw x % MASKS in
    let factor = draw (next x) % VALUES in
    let term = draw (next (next x)) % VALUES in
    both (test_text index mask ++ then_text factor term ++ else_text factor term) return_text
    (both (test_text index mask ++ then_text factor term) (else_text factor term)
    (both (test_text index mask) (then_text factor term)
    (two_pairs (codes "int f")
    (codes "(int x) { int y = x; if ((x & ") index mask refl refl (omega (arith, few)) (omega arith))
    (two_pairs (codes ") == 0) { y = x * ") (codes " + ") factor term refl refl (omega arith) (omega arith)))
    (two_pairs (codes "; } else { y = (x ^ ") (codes ") - ") term factor refl refl (omega arith) (omega arith)))
    (words return_text refl)

functions_quiet : (left index x : ℕ) → index + left < 100 → IsQuiet (functions left index x)
unfolding functions
functions_quiet zero index x few = words [] refl
functions_quiet (suc left) index x few = both (function_line index x) (functions left (index + 1) (after 3 x))
    (function_quiet index x (omega (arith, few))) (functions_quiet left (index + 1) (after 3 x) (omega (arith, few)))

call_quiet : (index : ℕ) → index < 100 → IsQuiet (call_line index)
call_quiet index few = both (codes "s = f" ++ decimal index ++ codes "(s);") (10 ∷ [])
    (both (codes "s = f" ++ decimal index) (codes "(s);") (pair (codes "s = f") index refl (omega (arith, few)))
    (words (codes "(s);") refl)) (words (10 ∷ []) refl)

calls_quiet : (left index : ℕ) → index + left < 100 → IsQuiet (calls left index)
unfolding calls
calls_quiet zero index few = words [] refl
calls_quiet (suc left) index few = both (call_line index) (calls left (index + 1))
    (call_quiet index (omega (arith, few))) (calls_quiet left (index + 1) (omega (arith, few)))

main_quiet : IsQuiet main_lines
unfolding main_lines
main_quiet =
    let begins =
    line (codes "int main() { int s = 0; int i = 0; _Pragma(\"loopbound min 16 max 16\") while (i < 16) { s = s + in[i];") in
    let ends = line (codes "i = i + 1; } out[0] = s; return s; }") in
    both (begins ++ calls FUNCTIONS 0) ends (both begins (calls FUNCTIONS 0) (words begins refl)
    (calls_quiet FUNCTIONS 0 (omega arith))) (words ends refl)

pub source_quiet : (x : ℕ) → IsQuiet (source x)
unfolding source array_lines
source_quiet x =
    both (array_lines ++ functions FUNCTIONS 0 x) main_lines (both array_lines (functions FUNCTIONS 0 x)
    (words array_lines refl) (functions_quiet FUNCTIONS 0 x (omega arith))) main_quiet

-- such a text stands for itself between apostrophes, and is ASCII
pub quiet_plain : (text : List ℕ) → list_all is_quiet text ≡ true → list_all (is_plain 39 true) text ≡ true
quiet_plain [] all = refl
quiet_plain (c ∷ cs) all =
    let here : is_quiet c ≡ true = grind (arith, nat_tests) in
    let there : list_all is_quiet cs ≡ true = grind (arith, nat_tests) in
    and_from _ _ (grind (arith, nat_tests)) (quiet_plain cs there)

pub quiet_ascii : (text : List ℕ) → list_all is_quiet text ≡ true → IsAscii text
quiet_ascii [] all = IsAscii-nil
quiet_ascii (c ∷ cs) all =
    let here : is_quiet c ≡ true = grind (arith, nat_tests) in
    let there : list_all is_quiet cs ≡ true = grind (arith, nat_tests) in
    IsAscii-cons c cs (grind (arith, nat_tests)) (quiet_ascii cs there)

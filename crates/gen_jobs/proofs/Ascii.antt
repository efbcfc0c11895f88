-- The text of a generated job is ASCII.
use Rattle.std.proofs.Common.{◌≡◌, ℕ, zero, suc, ◌+◌, ◌-◌, ◌<◌, true, nat_lt, List, [], ◌∷◌, ◌++◌, codes, refl, arith, sym, subst, IsAscii}
use Rattle.std.specs.List.{list_all}
use Rattle.std.specs.Str.{is_utf8}
use Rattle.std.specs.Fmt.{decimal}
use Rattle.std.proofs.lemmas.Bool.Decides.{nat_tests}
use Rattle.std.proofs.lemmas.Fmt.{IsAscii-decimal}
use Rattle.std.proofs.lemmas.Str.{IsUtf8-from_ascii, is_utf8-from_IsUtf8}
use Rattle.std.proofs.lemmas.Str.Ascii.{IsAscii-nil, IsAscii-cons}
use Rattle.job_gen.specs.Generator.{after_functions, after_task, draw, generated, input_line, line, more_draws, next, platform_lines, source, tasks}
use Rattle.job_gen.specs.declared.task.TheConstants.{WORDS}
use Rattle.job_gen.specs.declared.whole.TheConstants.{CORES}
use Rattle.gen_jobs.proofs.Lines.{delimited}
use Rattle.gen_jobs.proofs.Inputs.{draw_few}
use Rattle.gen_jobs.proofs.Tasks.{from_source, task_text}
use Rattle.gen_jobs.proofs.Quiet.{quiet_ascii, source_quiet}

both : (xs ys : List ℕ) → IsAscii xs → IsAscii ys → IsAscii (xs ++ ys)
both [] ys first more = more
both (x ∷ xs) ys first more = IsAscii-cons x (xs ++ ys) (first 0) (both xs ys (λ i. first (suc i)) more)

words : (text : List ℕ) → list_all (λ c. nat_lt c 128) text ≡ true → IsAscii text
words [] all = IsAscii-nil
words (c ∷ cs) all =
    let here : nat_lt c 128 ≡ true = grind (arith, nat_tests) in
    let there : list_all (λ x. nat_lt x 128) cs ≡ true = grind (arith, nat_tests) in
    IsAscii-cons c cs (grind (arith, nat_tests)) (words cs there)

more_ascii : (left x : ℕ) → IsAscii (more_draws left x)
unfolding more_draws
more_ascii zero x = IsAscii-nil
more_ascii (suc left) x = both (codes ", " ++ decimal (draw x)) (more_draws left (next x))
    (both (codes ", ") (decimal (draw x)) (words (codes ", ") refl)
    (IsAscii-decimal (draw x) (omega (arith, draw_few x)))) (more_ascii left (next x))

input_ascii : (x : ℕ) → IsAscii (input_line x)
unfolding input_line
input_ascii x =
    let one = decimal (draw x) in
    let more = more_draws (WORDS - 1) (next x) in
    both (codes "input = [" ++ one ++ more ++ codes "]") (10 ∷ [])
    (both (codes "input = [" ++ one ++ more) (codes "]")
    (both (codes "input = [" ++ one) more (both (codes "input = [") one (words (codes "input = [") refl)
    (IsAscii-decimal (draw x) (omega (arith, draw_few x)))) (more_ascii (WORDS - 1) (next x))) (words (codes "]") refl))
    (words (10 ∷ []) refl)

delimited_ascii : (text : List ℕ) → IsAscii text → IsAscii (delimited text)
delimited_ascii text ascii = both (delimited []) text (words (delimited []) refl) ascii

from_source_ascii : (x : ℕ) (rest : List ℕ) → IsAscii rest → IsAscii (from_source x rest)
from_source_ascii x rest ascii =
    let behind = input_line (after_functions x) ++ rest in
    let inside = source x ++ delimited behind in
    both (codes "source") (codes " = " ++ delimited inside) (words (codes "source") refl)
    (both (codes " = ") (delimited inside) (words (codes " = ") refl)
    (delimited_ascii inside (both (source x) (delimited behind) (quiet_ascii (source x) (source_quiet x).all)
    (delimited_ascii behind (both (input_line (after_functions x)) rest (input_ascii (after_functions x)) ascii)))))

tasks_ascii : (left core x : ℕ) → core + left < 16 → IsAscii (tasks left core x)
unfolding tasks
tasks_ascii zero core x few = IsAscii-nil
tasks_ascii (suc left) core x few =
    let rest = tasks left (core + 1) (after_task x) in
    let core_line = codes "core = " ++ decimal core in
    subst IsAscii (sym (task_text core x rest))
    (both (line (codes "[[task]]")) (line core_line ++ (line (codes "lang = \"c\"") ++ from_source x rest))
    (words (line (codes "[[task]]")) refl)
    (both (line core_line) (line (codes "lang = \"c\"") ++ from_source x rest)
    (both core_line (10 ∷ []) (both (codes "core = ") (decimal core) (words (codes "core = ") refl)
    (IsAscii-decimal core (omega (arith, few)))) (words (10 ∷ []) refl))
    (both (line (codes "lang = \"c\"")) (from_source x rest) (words (line (codes "lang = \"c\"")) refl)
    (from_source_ascii x rest (tasks_ascii left (core + 1) (after_task x) (omega (arith, few)))))))

pub text_is_utf8 : (n : ℕ) → is_utf8 (generated n) ≡ true
unfolding generated platform_lines
text_is_utf8 n = is_utf8-from_IsUtf8 (generated n) (IsUtf8-from_ascii (generated n)
    (both platform_lines (tasks CORES 0 n) (words platform_lines refl) (tasks_ascii CORES 0 n (omega arith))))

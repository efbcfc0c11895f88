-- To be believed. The text of a generated job, which a number decides.
use Rattle.std.specs.Prelude.{ℕ, zero, suc, ◌+◌, ◌-◌, ◌*◌, ◌/◌, ◌%◌, ◌^◌, List, [], ◌∷◌, ◌++◌, codes}
use Rattle.std.specs.Fmt.{decimal}
use Rattle.job_gen.specs.declared.task.TheConstants.{FUNCTIONS, MASKS, VALUES, WORDS}
use Rattle.job_gen.specs.declared.whole.TheConstants.{CORES}

-- the next state of the draws, and the draw that comes with it, its upper half
unfoldable pub next : ℕ → ℕ
next x = (1664525 * x + 1013904223) % 2 ^ 32

abbrev pub draw : ℕ → ℕ
draw x = next x / 65536

-- the state after so many draws
unfoldable pub after : ℕ → ℕ → ℕ
after zero x = x
after (suc draws) x = after draws (next x)

-- every line ends with one newline
abbrev pub line : List ℕ → List ℕ
line text = text ++ 10 ∷ []

-- the lines above the tasks
unfoldable pub platform_lines : List ℕ
platform_lines =
    line (codes "version = 1") ++ line (codes "cores = 4") ++ line (codes "slot = 8")
    ++ line (codes "cycles = 20000000")

-- the lines of a core's task above its C text, and the arrays with which the C text begins
unfoldable pub head_lines : ℕ → List ℕ
head_lines core =
    line (codes "[[task]]") ++ line (codes "core = " ++ decimal core) ++ line (codes "lang = \"c\"")
    ++ line (codes "source = '''")

unfoldable pub array_lines : List ℕ
array_lines = line (codes "int in[16];") ++ line (codes "int out[1];")

-- A function with its mask, its factor and its term: how it begins, what it does where no bit of the mask is set,
-- what it does else, and how it ends.
unfoldable pub test_text : ℕ → ℕ → List ℕ
test_text index mask = codes "int f" ++ decimal index ++ codes "(int x) { int y = x; if ((x & " ++ decimal mask

unfoldable pub then_text : ℕ → ℕ → List ℕ
then_text factor term = codes ") == 0) { y = x * " ++ decimal factor ++ codes " + " ++ decimal term

unfoldable pub else_text : ℕ → ℕ → List ℕ
else_text factor term = codes "; } else { y = (x ^ " ++ decimal term ++ codes ") - " ++ decimal factor

unfoldable pub return_text : List ℕ
return_text = line (codes "; } return y; }")

unfoldable pub function_text : ℕ → ℕ → ℕ → ℕ → List ℕ
function_text index mask factor term =
    test_text index mask ++ then_text factor term ++ else_text factor term ++ return_text

-- the function whose three draws begin at a state, in the order mask, factor and term
unfoldable pub function_line : ℕ → ℕ → List ℕ
function_line index x = function_text index (draw x % MASKS) (draw (next x) % VALUES) (draw (next (next x)) % VALUES)

-- so many functions from an index on, whose draws begin at a state
unfoldable pub functions : ℕ → ℕ → ℕ → List ℕ
functions zero index x = []
functions (suc left) index x = function_line index x ++ functions left (index + 1) (after 3 x)

-- a call of a function, and so many calls from an index on
abbrev pub call_line : ℕ → List ℕ
call_line index = line (codes "s = f" ++ decimal index ++ codes "(s);")

unfoldable pub calls : ℕ → ℕ → List ℕ
calls zero index = []
calls (suc left) index = call_line index ++ calls left (index + 1)

-- the function `main`, which calls each function once
unfoldable pub main_lines : List ℕ
main_lines =
    line (codes "int main() { int s = 0; int i = 0; _Pragma(\"loopbound min 16 max 16\") while (i < 16) { s = s + in[i];")
    ++ calls FUNCTIONS 0 ++ line (codes "i = i + 1; } out[0] = s; return s; }")

-- the C text of a task whose draws begin at a state
unfoldable pub source : ℕ → List ℕ
source x = array_lines ++ functions FUNCTIONS 0 x ++ main_lines

-- so many draws from a state on, each after a comma and a space
unfoldable pub more_draws : ℕ → ℕ → List ℕ
more_draws zero x = []
more_draws (suc left) x = codes ", " ++ decimal (draw x) ++ more_draws left (next x)

-- the task's input, a draw for each word
unfoldable pub input_line : ℕ → List ℕ
input_line x = line (codes "input = [" ++ decimal (draw x) ++ more_draws (WORDS - 1) (next x) ++ codes "]")

-- the state after a task's functions, and after the whole task
abbrev pub after_functions : ℕ → ℕ
after_functions x = after (3 * FUNCTIONS) x

abbrev pub after_task : ℕ → ℕ
after_task x = after WORDS (after_functions x)

-- the task of a core, whose draws begin at a state
unfoldable pub task : ℕ → ℕ → List ℕ
task core x = head_lines core ++ source x ++ line (codes "'''") ++ input_line (after_functions x)

-- the tasks of so many cores from a core on; each goes on with the state that the one before it left
unfoldable pub tasks : ℕ → ℕ → ℕ → List ℕ
tasks zero core x = []
tasks (suc left) core x = task core x ++ tasks left (core + 1) (after_task x)

-- the text of the job with a number, at which the draws begin
unfoldable pub generated : ℕ → List ℕ
generated n = platform_lines ++ tasks CORES 0 n

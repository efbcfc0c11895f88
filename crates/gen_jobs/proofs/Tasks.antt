-- The lines of a generated task, read.
use Rattle.std.proofs.Common.{◌≡◌, ℕ, zero, suc, ◌+◌, ◌<◌, true, false, List, [], ◌∷◌, ◌++◌, codes, refl, arith, pos, append_assoc}
use Rattle.std.specs.List.{list_all}
use Rattle.std.specs.Fmt.{decimal}
use Rattle.job_gen.specs.Generator.{after_functions, after_task, head_lines, input_line, line, source, task}
use Rattle.toml_parser.specs.Strings.{is_plain}
use Rattle.job_gen.specs.declared.task.TheConstants.{WORDS}
use Rattle.toml.specs.Data.{array, integer, string}
use Rattle.toml.specs.Tables.{Expression, array_table, key_value}
use Rattle.toml_writer.specs.Text.{key_text, string_text, encoding_of, escaped, needs_escape}
use Rattle.toml.proofs.ReadLines.{Turn, line_turn}
use Rattle.gen_jobs.proofs.Lines.{ReadsTo, number_turn, source_text, source_turn}
use Rattle.gen_jobs.proofs.Inputs.{items_from, input_turn}

-- the expressions of a task, and of so many
abbrev pub task_lines : ℕ → ℕ → List Expression
task_lines core x =
    (([], codes "task"), array_table) ∷ (([], codes "core"), key_value (integer (pos core))) ∷ (
      ([], codes "lang"),
      key_value (string (codes "c")),
    )
    ∷ (([], codes "source"), key_value (string (source x))) ∷ (
      ([], codes "input"),
      key_value (array (items_from WORDS (after_functions x))),
    ) ∷ []

abbrev pub tasks_lines : ℕ → ℕ → ℕ → List Expression
tasks_lines zero core x = []
tasks_lines (suc left) core x = task_lines core x ++ tasks_lines left (core + 1) (after_task x)

task_turn : (rest : List ℕ) → Turn ([], codes "task") array_table (line (codes "[[task]]") ++ rest) rest
unfolding key_text
task_turn rest = line_turn false false ([], codes "task") array_table (line (codes "[[task]]")) rest refl (omega arith)

core_turn : (core : ℕ) (rest : List ℕ) → core < 16 → Turn ([], codes "core") (key_value (integer (pos core)))
    (line (codes "core = " ++ decimal core) ++ rest) rest
unfolding key_text
core_turn core rest few = number_turn (codes "core") core rest refl (omega (arith, few))

lang_turn : (rest : List ℕ) → Turn ([], codes "lang") (key_value (string (codes "c"))) (line (codes "lang = \"c\"")
    ++ rest) rest
unfolding key_text string_text encoding_of escaped needs_escape
lang_turn rest = line_turn false false ([], codes "lang") (key_value (string (codes "c"))) (line (codes "lang = \"c\""))
    rest (codes "\"c\"", refl, refl) (refl, omega arith, refl)

-- a task's text from its source on
abbrev pub from_source : ℕ → List ℕ → List ℕ
from_source x rest = source_text (source x) (input_line (after_functions x) ++ rest)

-- a task's text, line by line, with its source in one piece
pub task_text : (core x : ℕ) (rest : List ℕ) → task core x ++ rest
    ≡ line (codes "[[task]]") ++ (line (codes "core = " ++ decimal core) ++ (line (codes "lang = \"c\"")
    ++ from_source x rest))
unfolding task head_lines
task_text core x rest = regrouped (line (codes "[[task]]")) (line (codes "core = " ++ decimal core))
    (line (codes "lang = \"c\"")) (line (codes "source = '''")) (source x) (line (codes "'''"))
    (input_line (after_functions x)) rest
  where
    regrouped : (t c l s x q v rest : List ℕ) → (t ++ c ++ l ++ s) ++ x ++ q ++ v ++ rest ≡ t
        ++ (c ++ (l ++ (s ++ (x ++ (q ++ (v ++ rest))))))
    regrouped t c l s x q v rest = simp append_assoc refl

pub task_read : (core x : ℕ) (rest : List ℕ) → core < 16 → list_all (is_plain 39 true) (source x) ≡ true
    → ReadsTo (task_lines core x) (task core x ++ rest) rest
task_read core x rest few plain = rw (task_text core x rest) (
  line (codes "core = " ++ decimal core) ++ (line (codes "lang = \"c\"") ++ from_source x rest),
  task_turn _,
  (
    line (codes "lang = \"c\"") ++ from_source x rest,
    core_turn core _ few,
    (
      from_source x rest,
      lang_turn _,
      (
        input_line (after_functions x) ++ rest,
        source_turn (source x) (input_line (after_functions x) ++ rest) plain,
        (rest, input_turn (after_functions x) rest, refl),
      ),
    ),
  ),
)

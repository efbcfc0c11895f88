-- The document that a generated job is.
use Rattle.std.proofs.Common.{◌≡◌, ℕ, zero, suc, ◌+◌, ◌<◌, ◌^◌, List, [], ◌∷◌, ◌++◌, codes, refl, arith, pos, sym, ◌∙◌, append_assoc, Some, subst}
use Rattle.std.specs.Fmt.{decimal, digits}
use Rattle.job_gen.specs.Generator.{after_functions, after_task, generated, line, platform_lines, source, task, tasks}
use Rattle.job_gen.specs.declared.task.TheConstants.{WORDS}
use Rattle.job_gen.specs.declared.whole.TheConstants.{CORES}
use Rattle.toml.specs.Data.{Data, array, integer, string, Members, Items, no_items, item, member, no_members, table}
use Rattle.toml.specs.Parse.{parse_document}
use Rattle.toml.specs.Tables.{Expression, key_value, define, at_key, along_header, along_dots}
use Rattle.toml_writer.specs.Text.{key_text}
use Rattle.toml.proofs.ReadLines.{Turn}
use Rattle.gen_jobs.proofs.Lines.{ReadsTo, reads_on, number_turn, document_of}
use Rattle.gen_jobs.proofs.Inputs.{items_from}
use Rattle.gen_jobs.proofs.Tasks.{task_lines, task_read, tasks_lines}
use Rattle.gen_jobs.proofs.Quiet.{quiet_plain, source_quiet}

tasks_read : (left core x : ℕ) → core + left < 16 → ReadsTo (tasks_lines left core x) (tasks left core x) []
unfolding tasks
tasks_read zero core x few = refl
tasks_read (suc left) core x few =
    reads_on (task_lines core x) (tasks_lines left (core + 1) (after_task x))
    (task core x ++ tasks left (core + 1) (after_task x)) (tasks left (core + 1) (after_task x)) []
    (task_read core x (tasks left (core + 1) (after_task x)) (omega (arith, few))
    (quiet_plain (source x) (source_quiet x).all)) (tasks_read left (core + 1) (after_task x) (omega (arith, few)))

-- the lines of the whole, as expressions
abbrev number_line : List ℕ → ℕ → Expression
number_line k n = (([], k), key_value (integer (pos n)))

abbrev all_lines : ℕ → List Expression
all_lines n = number_line (codes "version") 1 ∷ number_line (codes "cores") 4 ∷ number_line (codes "slot") 8
    ∷ number_line (codes "cycles") 20000000 ∷ tasks_lines CORES 0 n

regrouped : (a b c d t : List ℕ) → a ++ b ++ c ++ d ++ t ≡ a ++ (b ++ (c ++ (d ++ t)))
regrouped a b c d t = simp append_assoc refl

-- a line of the platform
setting : (k : List ℕ) (n : ℕ) (text rest : List ℕ) → key_text k ≡ k → n < 2 ^ 63 → k
    ++ (codes " = " ++ (decimal n ++ 10 ∷ [])) ≡ text → Turn ([], k) (key_value (integer (pos n))) (text ++ rest) rest
setting k n text rest bare few is =
    subst (λ t. Turn ([], k) (key_value (integer (pos n))) (t ++ rest) rest) is (number_turn k n rest bare few)

all_read : (n : ℕ) → ReadsTo (all_lines n) (generated n) []
unfolding generated platform_lines key_text digits
all_read n =
    subst (λ text. ReadsTo (all_lines n) text []) (sym (regrouped version cores slot cycles (tasks CORES 0 n))) (
      cores ++ (slot ++ (cycles ++ tasks CORES 0 n)),
      setting (codes "version") 1 version (cores ++ (slot ++ (cycles ++ tasks CORES 0 n))) refl (omega arith) refl,
      (
        slot ++ (cycles ++ tasks CORES 0 n),
        setting (codes "cores") 4 cores (slot ++ (cycles ++ tasks CORES 0 n)) refl (omega arith) refl,
        (
          cycles ++ tasks CORES 0 n,
          setting (codes "slot") 8 slot (cycles ++ tasks CORES 0 n) refl (omega arith) refl,
          (
            tasks CORES 0 n,
            setting (codes "cycles") 20000000 cycles (tasks CORES 0 n) refl (omega arith) refl,
            tasks_read CORES 0 n (omega arith),
          ),
        ),
      ),
    )
  where
    version : List ℕ
    version = line (codes "version = 1")

    cores : List ℕ
    cores = line (codes "cores = 4")

    slot : List ℕ
    slot = line (codes "slot = 8")

    cycles : List ℕ
    cycles = line (codes "cycles = 20000000")

-- the table of a task, and the whole
abbrev pub task_table : ℕ → ℕ → Data
task_table core x = table (member (codes "core") (integer (pos core))
    (member (codes "input") (array (items_from WORDS (after_functions x))) (member (codes "lang") (string (codes "c"))
    (member (codes "source") (string (source x)) no_members))))

abbrev pub tables_from : ℕ → ℕ → ℕ → Items
tables_from zero core x = no_items
tables_from (suc left) core x = item (task_table core x) (tables_from left (core + 1) (after_task x))

abbrev pub document : ℕ → Members
document n = member (codes "cores") (integer (pos CORES)) (member (codes "cycles") (integer (pos 20000000))
    (member (codes "slot") (integer (pos 8))
    (member (codes "task") (array (tables_from CORES 0 n)) (member (codes "version") (integer (pos 1)) no_members))))

pub document_is : (n : ℕ) → parse_document (generated n) ≡ Some (document n)
unfolding define at_key along_header along_dots
document_is n = document_of (number_line (codes "version") 1) (number_line (codes "cores") 4
    ∷ number_line (codes "slot") 8 ∷ number_line (codes "cycles") 20000000 ∷ tasks_lines CORES 0 n) (generated n)
    (all_read n) ∙ refl

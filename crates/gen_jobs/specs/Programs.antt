-- To be believed. Tasks whose texts are valid programs.
use Rattle.std.specs.Prelude.{◌≡◌, ℕ, List}
use Rattle.tc_job.specs.declared.task.Task.{Task}
use Rattle.tc_job.specs.declared.task.Lang.TheVariants.{C}
use Rattle.c_tree.specs.declared.tokens.Token.{Token}
use Rattle.c_tree.specs.Places.{IsProgram}
use Rattle.c_tree.specs.Plain.{plain}
use Rattle.c_tree.specs.Valid.{IsValid}
use Rattle.c_lex.specs.Texts.{lexed, tokens}

-- A task in C on a platform of so many cores: its text has tokens, they are a
-- program, and that is valid on the task's core.
pub record IsProgramTask (cores : ℕ) (t : Task) : Type 0 where
  pub in_c : t.lang ≡ C
  pub tokens_in : List Token
  pub lexed_is : lexed t.source ≡ tokens tokens_in
  pub program : IsProgram tokens_in
  pub valid : IsValid (plain program.tree) cores t.core

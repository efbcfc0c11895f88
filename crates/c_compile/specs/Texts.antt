-- To be believed. What becomes of a C text on a core: the program that it is, or why it is no task there. The first
-- refusal counts that its tokens, its tree, its checks and its bound give, in this order.
use Rattle.std.specs.Prelude.{ℕ, nat_le, List, Option, Some, None, Result, Ok, Err, if◌then◌else◌}
use Rattle.c_lex.specs.Texts.{Lexed, tokens, no_token, too_wide, lexed}
use Rattle.c_parse.specs.Answers.{place_of}
use Rattle.c_parse.specs.Tree.{tree_of}
use Rattle.c_tree.specs.declared.checks.Fault.{Fault}
use Rattle.c_tree.specs.declared.tokens.Token.{Token}
use Rattle.c_tree.specs.Plain.{PlainItem}
use Rattle.c_tree.specs.Valid.{fault_of}
use Rattle.cycle_bound.specs.declared.held.TheConstants.{MOST_BOUND}
use Rattle.c_task.specs.Translation.{bound_on}

-- no token begins at a byte; a number that begins there is too wide; no program goes on with a token; the least fault
-- of a program; and its bound is more than a bound may be
pub data Refused : Type 0 where
  no_token_at : ℕ → Refused
  too_wide_at : ℕ → Refused
  no_program_at : ℕ → Refused
  not_valid : Fault → Refused
  too_long : Refused

abbrev pub checked : List PlainItem → Option Fault → Result (List PlainItem) Refused
checked items None = Ok items
checked items (Some fault) = Err (not_valid fault)

-- tokens, on a core of so many
abbrev pub parsed : ℕ → ℕ → List Token → Result (List PlainItem) Refused
parsed cores core ts = elim (place_of ts) as (λ _. Result (List PlainItem) Refused) [
  | None ↦ checked (tree_of ts) (fault_of (tree_of ts) cores core)
  | Some at ↦ Err (no_program_at at)
]

-- the program of a text that is valid there
abbrev pub program_on : ℕ → ℕ → Lexed → Result (List PlainItem) Refused
program_on cores core (tokens ts) = parsed cores core ts
program_on cores core (no_token at) = Err (no_token_at at)
program_on cores core (too_wide at) = Err (too_wide_at at)

-- a valid program is a task where its bound is at most 2^62, under a slot table with slots of so many cycles
abbrev pub within : List ℕ → ℕ → ℕ → Result (List PlainItem) Refused → Result (List PlainItem) Refused
within table slot core (Ok items) =
    if nat_le (bound_on table slot core items) MOST_BOUND then Ok items else Err too_long
within table slot core (Err refused) = Err refused

abbrev pub task_on : ℕ → List ℕ → ℕ → ℕ → List ℕ → Result (List PlainItem) Refused
task_on cores table slot core source = within table slot core (program_on cores core (lexed source))

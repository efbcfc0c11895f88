-- To be believed. What a C program mentions: the arrays `comm` and `shared`, which each task
-- is given, and the cores that it sends to.
use Rattle.std.specs.Prelude.{ℕ, ◌==◌, Bool, true, false, List, codes}
use Rattle.std.specs.List.{list_any}
use Rattle.local_store.specs.declared.map.Cell.{Cell}
use Rattle.local_store.specs.declared.map.Cell.TheVariants as cell
use Rattle.c_tree.specs.Plain.{PlainItem}
use Rattle.c_meaning.specs.Scope.{Stands, level, outside, nothing}
use Rattle.c_mentions.specs.Uses.{Use, reads, sets, sends, program_uses}

-- the arrays that each task is given: the words of the core's communication memory, and those that all cores share
pub data Array : Type 0 where
  comm_array : Array
  shared_array : Array

abbrev pub name_of : Array → List ℕ
name_of comm_array = codes "comm"
name_of shared_array = codes "shared"

-- whether what begins at a cell is the array
abbrev pub is_at : Array → Cell → Bool
is_at comm_array at = elim at as (λ _. Bool) [ cell.Comm word ↦ true | _ ↦ false ]
is_at shared_array at = elim at as (λ _. Bool) [ cell.Shared word ↦ true | _ ↦ false ]

-- a name means the array where it stands for no variable
abbrev pub stands_for : Array → Stands → Bool
stands_for a (level at unsigned) = false
stands_for a (outside slot) = is_at a slot.cell
stands_for a nothing = false

abbrev pub is_mention : Array → Use → Bool
is_mention a (reads s) = stands_for a s
is_mention a (sets s) = stands_for a s
is_mention a (sends core) = false

abbrev pub is_assignment : Array → Use → Bool
is_assignment a (reads s) = false
is_assignment a (sets s) = stands_for a s
is_assignment a (sends core) = false

abbrev pub is_send : ℕ → Use → Bool
is_send core (reads s) = false
is_send core (sets s) = false
is_send core (sends to) = to == core

-- a name in the program means the array
abbrev pub mentions : Array → List PlainItem → Bool
mentions a items = list_any (is_mention a) (program_uses items)

-- an element of the array is assigned
abbrev pub assigns : Array → List PlainItem → Bool
assigns a items = list_any (is_assignment a) (program_uses items)

-- words are sent to a core
abbrev pub sends_to : ℕ → List PlainItem → Bool
sends_to core items = list_any (is_send core) (program_uses items)

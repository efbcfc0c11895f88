-- To be believed. Where a program's variables and arrays stand, and what they begin with (our subset): those in private
-- memory from its first data word on and those in the scratchpad from word 0 on, in the order of their declarations;
-- then the words that all cores share, and the core's communication memory.
use Rattle.std.specs.Prelude.{ℕ, ◌+◌, ◌-◌, ◌%◌, ◌^◌, Bool, true, false, not, ◌&&◌, if◌then◌else◌, List, [], ◌∷◌, ◌++◌, length, map, replicate, is_some, bytes_eq, codes}
use Rattle.local_store.specs.declared.map.Cell.TheVariants as cell
use Rattle.local_store.specs.declared.map.TheConstants.{COMM_WORDS, SHARED_WORDS}
use Rattle.local_store.specs.declared.store.TheConstants.{FIRST_DATA_WORD}
use Rattle.c_tree.specs.declared.statements.Kind.{Kind}
use Rattle.c_tree.specs.declared.statements.Kind.TheVariants as kind
use Rattle.c_tree.specs.declared.layout.Slot.{Slot}
use Rattle.c_tree.specs.declared.units.Const.{Const}
use Rattle.c_tree.specs.declared.units.Global.{Global}
use Rattle.c_tree.specs.Plain.{PlainItem, global, function}
use Rattle.c_tree.specs.Valid.{words_of, item_words}

abbrev pub is_unsigned : Kind → Bool
is_unsigned k = elim k as (λ _. Bool) [ kind.Int ↦ false | _ ↦ true ]

-- the slot of a variable or an array, where so many words stand before it
abbrev pub slot_of : ℕ → ℕ → Global → Slot
slot_of private scratch g = record {
  name = g.name;
  cell = if g.scratch then cell.Scratch scratch else cell.Private private;
  length = words_of g;
  unsigned = is_unsigned g.kind;
}

abbrev pub item_slots : ℕ → ℕ → PlainItem → List Slot
item_slots private scratch (global of) = slot_of private scratch of ∷ []
item_slots private scratch (function its_kind text void_word parameters body) = []

-- what is declared before the text
abbrev pub given_slots : List Slot
given_slots =
    record { name = codes "shared"; cell = cell.Shared 0; length = SHARED_WORDS; unsigned = false }
    ∷ record { name = codes "comm"; cell = cell.Comm 0; length = COMM_WORDS; unsigned = false }
    ∷ []

abbrev pub slots_from : ℕ → ℕ → List PlainItem → List Slot
slots_from private scratch [] = given_slots
slots_from private scratch (i ∷ items) =
    item_slots private scratch i ++ slots_from (private + item_words false i) (scratch + item_words true i) items

abbrev pub layout_of : List PlainItem → List Slot
layout_of items = slots_from FIRST_DATA_WORD 0 items

-- ---- what private memory begins with

-- the word of a constant: negative numbers in two's complement
abbrev pub const_word : Const → ℕ
const_word k = if k.negative then (2 ^ 32 - k.value) % 2 ^ 32 else k.value

-- the first values, and 0 after them
abbrev pub first_words : Global → List ℕ
first_words g = map const_word g.initial ++ replicate (words_of g - length g.initial) 0

abbrev pub item_initial : PlainItem → List ℕ
item_initial (global of) = if of.scratch then [] else first_words of
item_initial (function its_kind text void_word parameters body) = []

-- the private words from the first data word on
abbrev pub initial_from : List PlainItem → List ℕ
initial_from [] = []
initial_from (i ∷ items) = item_initial i ++ initial_from items

abbrev pub initial_of : List PlainItem → List ℕ
initial_of items = initial_from items

-- ---- where the input lies

-- a private word, and how many words of input reach from there
pub record Input : Type 0 where
  pub at : ℕ
  pub room : ℕ

-- an array `in` in private memory
abbrev pub takes_input : PlainItem → Bool
takes_input (global of) = bytes_eq of.name (codes "in") && (is_some of.length && not of.scratch)
takes_input (function its_kind text void_word parameters body) = false

abbrev pub input_from : ℕ → List PlainItem → Input
input_from private [] = record { at = FIRST_DATA_WORD; room = 0 }
input_from private (i ∷ items) =
    if takes_input i then record { at = private; room = item_words false i }
    else input_from (private + item_words false i) items

abbrev pub input_of : List PlainItem → Input
input_of items = input_from FIRST_DATA_WORD items

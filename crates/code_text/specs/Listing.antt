-- To be believed. The text of a task's compiled code: each function under its name, its bundles in their order, each
-- with its offset and its words, and loops between comments that tell their iterations.
use Rattle.std.specs.Prelude.{ℕ, ◌+◌, ◌==◌, if◌then◌else◌, List, [], ◌∷◌, ◌++◌, length, drop, codes, slice_index, slice_index_or, Option, None, Some}
use Rattle.std.specs.Fmt.{decimal}
use Rattle.tc_io.specs.Hex.{hex8}
use Rattle.patmos_instr.specs.Bundles.{PlainBundle}
use Rattle.patmos_instr.specs.declared.instructions.Op.{Op}
use Rattle.patmos_instr.specs.declared.instructions.Op.TheVariants as op
use Rattle.patmos_instr.specs.declared.functions.StackFunc.TheVariants.{Sres}
use Rattle.patmos_forms.specs.declared.forms.JumpKind.TheVariants.{Branch, Call}
use Rattle.patmos_syntax.specs.Drafts.{Draft, ready, to, DraftBundle}
use Rattle.patmos_asm.specs.Printed.{label_name}
use Rattle.sp_shape.specs.Parts.{PlainPart, straight, repeats, calls_to, leaves, PlainParts, no_part, part, PlainShape}
use Rattle.sp_shape.specs.Words.{bundle_words, part_words, parts_words}
use Rattle.tc_link.specs.Placed.{function, order}
use Rattle.code_text.specs.declared.aims.Aim.{Aim}
use Rattle.code_text.specs.declared.aims.Aim.TheVariants.{Onward, Loop, Entry}
use Rattle.code_text.specs.declared.tallies.Tally.{Tally}
use Rattle.code_text.specs.declared.tasks.Numbers.{Numbers}
use Rattle.code_text.specs.Lines.{Line, remark, begins, marks, does}
use Rattle.code_text.specs.Tally.{function_tally, task_tally}

-- ---- bundles

-- the name of a function, by its number
abbrev pub name_of : List (List ℕ) → ℕ → List ℕ
name_of names k = slice_index_or names k []

-- an operation, with a name in place of the target of its flow
abbrev pub aimed : List (List ℕ) → Aim → Op → Draft
aimed names (Loop loop) (op.Branch offset) = to Branch (label_name loop)
aimed names (Entry k) (op.Call target) = to Call (name_of names k)
aimed names _ o = ready o

abbrev pub draft_of : List (List ℕ) → Aim → PlainBundle → DraftBundle
draft_of names aim b =
    record { first = record { guard = b.first.guard; draft = aimed names aim b.first.op }; second = b.second }

-- the offset of a bundle, in words from the first of its function, and its words
abbrev pub second_note : List ℕ → ℕ → ℕ → List ℕ
second_note words at size = if size == 2 then codes " " ++ hex8 (slice_index words (at + 1)) else []

abbrev pub note_of : List ℕ → ℕ → ℕ → List ℕ
note_of words at size = decimal at ++ codes " " ++ hex8 (slice_index words at) ++ second_note words at size

-- bundles of a function of these words, the first of which stands at this offset
abbrev pub bundle_lines : List (List ℕ) → List ℕ → Aim → ℕ → List PlainBundle → List Line
bundle_lines names words aim at [] = []
bundle_lines names words aim at (b ∷ bs) =
    does (draft_of names aim b) (note_of words at (bundle_words b))
    ∷ bundle_lines names words aim (at + bundle_words b) bs

-- ---- parts

-- how many loops stand in parts: loops are numbered in the order of the text, in each function from 0 on
abbrev mutual
  pub part_loops : PlainPart → ℕ
  part_loops (straight bs) = 0
  part_loops (repeats count body tail) = 1 + parts_loops body
  part_loops (calls_to k tail) = 0
  part_loops (leaves tail) = 0

  pub parts_loops : PlainParts → ℕ
  parts_loops no_part = 0
  parts_loops (part p rest) = part_loops p + parts_loops rest

-- before a loop its number and its iterations, and after it its number
abbrev pub loop_begin : ℕ → ℕ → Line
loop_begin loop iterations = remark (codes "loop " ++ label_name loop ++ codes " iterations " ++ decimal iterations)

abbrev pub loop_end : ℕ → Line
loop_end loop = remark (codes "end " ++ label_name loop)

-- parts at this offset, of which the first loop has this number
abbrev mutual
  pub part_lines : List (List ℕ) → List ℕ → ℕ → ℕ → PlainPart → List Line
  part_lines names words at loop (straight bs) = bundle_lines names words Onward at bs
  part_lines names words at loop (repeats count body tail) =
      loop_begin loop count ∷ marks loop ∷ (parts_lines names words at (loop + 1) body
      ++ (bundle_lines names words (Loop loop) (at + parts_words body) tail ++ loop_end loop ∷ []))
  part_lines names words at loop (calls_to k tail) = bundle_lines names words (Entry k) at tail
  part_lines names words at loop (leaves tail) = bundle_lines names words Onward at tail

  pub parts_lines : List (List ℕ) → List ℕ → ℕ → ℕ → PlainParts → List Line
  parts_lines names words at loop no_part = []
  parts_lines names words at loop (part p rest) =
      part_lines names words at loop p
      ++ parts_lines names words (at + part_words p) (loop + part_loops p) rest

-- ---- functions

-- how many words of the stack an operation reserves, if it does, and bundles at the begin of a function
abbrev pub reserve_of : Op → Option ℕ
reserve_of (op.Stack Sres count) = Some count
reserve_of _ = None

abbrev pub reserved_in : List PlainBundle → ℕ
reserved_in [] = 0
reserved_in (b ∷ bs) = elim (reserve_of b.first.op) as (λ _. ℕ) [ Some count ↦ count | None ↦ reserved_in bs ]

abbrev pub reserved_by : PlainPart → ℕ
reserved_by (straight bs) = reserved_in bs
reserved_by (repeats count body tail) = 0
reserved_by (calls_to k tail) = 0
reserved_by (leaves tail) = 0

abbrev pub reserved : PlainParts → ℕ
reserved no_part = 0
reserved (part p rest) = reserved_by p

-- what a run consists of, where that is not more than a bound may be
abbrev pub tally_text : Option Tally → List ℕ
tally_text None = codes " long"
tally_text (Some t) = codes " bundles " ++ decimal t.bundles ++ codes " transactions " ++ decimal t.transactions

abbrev pub note_for : List ℕ → ℕ → ℕ → Option Tally → Line
note_for name size stack tally = remark (codes "function " ++ name ++ codes " words " ++ decimal size
    ++ codes " stack " ++ decimal stack ++ tally_text tally)

abbrev pub function_note : List (List ℕ) → ℕ → PlainShape → ℕ → ℕ → Line
function_note names each s size k = note_for (name_of names k) size (reserved (function s k)) (function_tally each s k)

-- the function of a number, of so many words, which are the first of these
abbrev pub function_lines : List (List ℕ) → ℕ → PlainShape → ℕ → List ℕ → ℕ → List Line
function_lines names each s size words k =
    function_note names each s size k ∷ begins (name_of names k) ∷ parts_lines names words 0 0 (function s k)

-- functions in the order of the image's words, in which each function's size stands before its words
abbrev pub functions_lines : List (List ℕ) → ℕ → PlainShape → List ℕ → List ℕ → List Line
functions_lines names each s words [] = []
functions_lines names each s [] (k ∷ ks) = []
functions_lines names each s (size ∷ words) (k ∷ ks) =
    function_lines names each s size words k ++ functions_lines names each s (drop size words) ks

-- ---- a task

-- a task on a core, of so many words, with its bounds
abbrev pub task_note : Numbers → ℕ → ℕ → PlainShape → Line
task_note n words each s = remark (codes "core " ++ decimal n.core ++ codes " words " ++ decimal words
    ++ tally_text (task_tally each s) ++ codes " bound " ++ decimal n.bound ++ codes " persist " ++ decimal n.persist)

abbrev pub task_lines : List (List ℕ) → Numbers → ℕ → PlainShape → List ℕ → List Line
task_lines names n each s words = task_note n (length words) each s ∷ functions_lines names each s words (order s)

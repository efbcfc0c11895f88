-- To be believed. What is said of each bundle of a shape, wherever it stands; and of delay slots.
use Rattle.std.specs.Prelude.{◌^◌, nat_lt, Bool, true, false, ◌&&◌, ◌==◌, List, [], ◌∷◌, is_none, if◌then◌else◌}
use Rattle.std.specs.List.{list_all}
use Rattle.patmos_instr.specs.Bundles.{PlainBundle}
use Rattle.patmos_instr.specs.declared.instructions.Op.{Op}
use Rattle.patmos_instr.specs.declared.instructions.Op.TheVariants.{AluImm, AluLong, Load, Store, Stack}
use Rattle.patmos_instr.specs.declared.functions.ImmFunc.TheVariants as imm
use Rattle.patmos_instr.specs.declared.memories.Mem.{Mem}
use Rattle.patmos_instr.specs.declared.memories.Mem.TheVariants as mem
use Rattle.sp_shape.specs.Formed.{is_branch, is_always}
use Rattle.sp_shape.specs.Parts.{PlainPart, straight, repeats, calls_to, leaves, PlainParts, no_part, part}

-- ---- each bundle of code

abbrev mutual
  pub part_all : (PlainBundle → Bool) → PlainPart → Bool
  part_all holds (straight bs) = list_all holds bs
  part_all holds (repeats count body tail) = parts_all holds body && list_all holds tail
  part_all holds (calls_to k tail) = list_all holds tail
  part_all holds (leaves tail) = list_all holds tail

  pub parts_all : (PlainBundle → Bool) → PlainParts → Bool
  parts_all holds no_part = true
  parts_all holds (part p rest) = part_all holds p && parts_all holds rest

-- ---- what is the same whatever the predicates are

-- main memory, by the data cache or past it
abbrev pub is_main : Mem → Bool
is_main mem.S = false
is_main mem.L = false
is_main mem.C = true
is_main mem.M = true

-- it may have a transaction with main memory
abbrev pub may_move : Op → Bool
may_move (Load space width rd ra imm) = is_main space
may_move (Store space width ra rs imm) = is_main space
may_move (Stack func count) = true
may_move _ = false

-- what may have a transaction is always done
abbrev pub is_steady : PlainBundle → Bool
is_steady b = if may_move b.first.op then is_always b.first.guard else true

-- ---- constants

-- the constant in it, if it has a long one, is a word
abbrev pub is_word_op : Op → Bool
is_word_op (AluLong func rd ra constant) = nat_lt constant (2 ^ 32)
is_word_op _ = true

abbrev pub has_word : PlainBundle → Bool
has_word b = is_word_op b.first.op

-- ---- delay slots that do nothing

-- the instruction that does nothing, alone
abbrev pub is_idle_op : Op → Bool
is_idle_op (AluImm imm.Add rd ra n) = (rd == 0) && ((ra == 0) && (n == 0))
is_idle_op _ = false

abbrev pub is_idle : PlainBundle → Bool
is_idle b = is_always b.first.guard && (is_idle_op b.first.op && is_none b.second)

-- what stands after the flow of a tail
abbrev pub iteration_idles : List PlainBundle → Bool
iteration_idles [] = true
iteration_idles (b ∷ bs) = if is_branch b.first.op then list_all is_idle bs else iteration_idles bs

abbrev pub way_idles : List PlainBundle → Bool
way_idles [] = true
way_idles (b ∷ bs) = list_all is_idle bs

abbrev mutual
  pub part_idle : PlainPart → Bool
  part_idle (straight bs) = true
  part_idle (repeats count body tail) = parts_idle body && iteration_idles tail
  part_idle (calls_to k tail) = way_idles tail
  part_idle (leaves tail) = way_idles tail

  pub parts_idle : PlainParts → Bool
  parts_idle no_part = true
  parts_idle (part p rest) = part_idle p && parts_idle rest

-- To be believed. How many words code takes.
use Rattle.std.specs.Prelude.{ℕ, ◌+◌, ◌||◌, is_some, Bool, true, false, List, [], ◌∷◌, if◌then◌else◌}
use Rattle.patmos_instr.specs.Bundles.{PlainBundle}
use Rattle.patmos_instr.specs.Instructions.{is_long}
use Rattle.patmos_instr.specs.declared.instructions.Op.{Op}
use Rattle.patmos_instr.specs.declared.instructions.Op.TheVariants.{Load, Mul}
use Rattle.sp_shape.specs.Parts.{PlainPart, straight, repeats, calls_to, leaves, PlainParts, no_part, part}

-- ---- as it stands

-- the second word is the constant of a long operation, or the second instruction
abbrev pub bundle_words : PlainBundle → ℕ
bundle_words b = if is_long b.first.op || is_some b.second then 2 else 1

abbrev pub bundles_words : List PlainBundle → ℕ
bundles_words [] = 0
bundles_words (b ∷ bs) = bundle_words b + bundles_words bs

abbrev mutual
  pub part_words : PlainPart → ℕ
  part_words (straight bs) = bundles_words bs
  part_words (repeats count body tail) = parts_words body + bundles_words tail
  part_words (calls_to k tail) = bundles_words tail
  part_words (leaves tail) = bundles_words tail

  pub parts_words : PlainParts → ℕ
  parts_words no_part = 0
  parts_words (part p rest) = part_words p + parts_words rest

-- ---- with a bundle more after each whose value comes late

-- a load's value and a product are there only after the next bundle
abbrev pub is_late : Op → Bool
is_late (Load space width rd ra imm) = true
is_late (Mul unsigned ra rb) = true
is_late _ = false

abbrev pub bundle_room : PlainBundle → ℕ
bundle_room b = bundle_words b + (if is_late b.first.op then 1 else 0)

abbrev pub bundles_room : List PlainBundle → ℕ
bundles_room [] = 0
bundles_room (b ∷ bs) = bundle_room b + bundles_room bs

abbrev mutual
  pub part_room : PlainPart → ℕ
  part_room (straight bs) = bundles_room bs
  part_room (repeats count body tail) = parts_room body + bundles_room tail
  part_room (calls_to k tail) = bundles_room tail
  part_room (leaves tail) = bundles_room tail

  pub parts_room : PlainParts → ℕ
  parts_room no_part = 0
  parts_room (part p rest) = part_room p + parts_room rest

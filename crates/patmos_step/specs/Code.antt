-- To be believed. The words of an image, each decoded once.
use Rattle.std.specs.Prelude.{◌≡◌, ℕ, ℤ, ◌+◌, ◌<◌, Bool, true, false, Option, None, Some, List, length, slice_index, slice_index_or}
use Rattle.patmos_instr.specs.Bundles.{PlainBundle}
use Rattle.patmos_instr.specs.declared.instructions.Op.{Op}
use Rattle.patmos_instr.specs.declared.instructions.Op.TheVariants as op
use Rattle.patmos_code.specs.Decoding.{bundle_at}
use Rattle.patmos_code.specs.Images.{Parts}
use Rattle.patmos_model.specs.Site.{bundle_words, word_at, is_inside}
use Rattle.patmos_step.specs.declared.code.Class.{Class}
use Rattle.patmos_step.specs.declared.code.Class.TheVariants as classes
use Rattle.patmos_step.specs.declared.code.Decoded.{Decoded}

-- an operation that asks for nothing, whatever the registers hold
abbrev pub is_silent : Op → Bool
is_silent (op.AluImm func rd ra imm) = true
is_silent (op.AluReg func rd ra rb) = true
is_silent (op.AluLong func rd ra constant) = true
is_silent (op.Mul unsigned ra rb) = true
is_silent (op.Cmp func pd ra rb) = true
is_silent (op.CmpImm func pd ra imm) = true
is_silent (op.Comb func pd a b) = true
is_silent (op.ToSpecial special ra) = true
is_silent (op.FromSpecial rd special) = true
is_silent _ = false

-- by how many words a branch goes on
abbrev pub branch_of : Op → Option ℤ
branch_of (op.Branch by) = Some by
branch_of _ = None

-- the class of a bundle: one that asks for nothing, a branch whose second slot is empty, or another
abbrev pub class_in : PlainBundle → Class
class_in b = elim (is_silent b.first.op) [
  | true ↦ classes.Silent
  | false ↦ elim b.second [
    | None ↦ elim (branch_of b.first.op) [ None ↦ classes.Other | Some by ↦ classes.Branch b.first.guard by ]
    | Some other ↦ classes.Other
  ]
]

unfoldable pub class_of : Option PlainBundle → Class
class_of bundle = elim bundle [ None ↦ classes.Other | Some b ↦ class_in b ]

-- what begins at a word that this one follows
abbrev pub decoded : ℕ → ℕ → Decoded
decoded first second = record {
  words = bundle_words first;
  bundle = bundle_at first second;
  class = class_of (bundle_at first second);
}

-- for each of the words it stands there what begins with it
pub record IsCodeOf (words : List ℕ) (code : List Decoded) : Type 0 where
  pub count : length code ≡ length words
  pub each : (at : ℕ) (d : Decoded) → at < length words
      → slice_index_or code at d ≡ decoded (slice_index words at) (slice_index words (at + 1))

-- it is what begins at an offset of a function, and it ends inside the function
pub record StandsAt (image : Parts) (base offset : ℕ) (found : Decoded) : Type 0 where
  pub inside : is_inside image base offset ≡ true
  pub is : found ≡ decoded (word_at image base offset) (word_at image base (offset + 1))

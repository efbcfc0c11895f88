-- To be believed. The bundles of a function in their order, with the targets of their flows (Patmos
-- Reference Handbook, control-flow instructions): a call names the word at which its function starts, and a
-- branch counts words from its own bundle's first.
use Rattle.std.specs.Prelude.{ℕ, pos, ◌+◌, ◌-ℤ◌, List, [], ◌∷◌, ◌++◌, if◌then◌else◌}
use Rattle.patmos_instr.specs.Bundles.{PlainBundle}
use Rattle.patmos_instr.specs.declared.instructions.Op.{Op}
use Rattle.patmos_instr.specs.declared.instructions.Op.TheVariants.{Branch, Call}
use Rattle.sp_shape.specs.Formed.{is_branch, is_call}
use Rattle.sp_shape.specs.Parts.{PlainPart, straight, repeats, calls_to, leaves, PlainParts, no_part, part}
use Rattle.sp_shape.specs.Words.{bundle_words, parts_words}

-- ---- bundles

-- with another operation in its first slot
abbrev pub with_op : Op → PlainBundle → PlainBundle
with_op op b = record { first = record { guard = b.first.guard; op = op }; second = b.second }

-- a call, of the function that starts at a word
abbrev pub call_to : ℕ → PlainBundle → PlainBundle
call_to start b = if is_call b.first.op then with_op (Call start) b else b

-- a branch, to the word that lies so many words before its own bundle's first
abbrev pub branch_back : ℕ → PlainBundle → PlainBundle
branch_back behind b = if is_branch b.first.op then with_op (Branch (pos 0 -ℤ pos behind)) b else b

-- ---- tails

-- that of a call begins with it
abbrev pub called : ℕ → List PlainBundle → List PlainBundle
called start [] = []
called start (b ∷ bs) = call_to start b ∷ bs

-- that of a loop, which begins so many words after the first word of the loop's body
abbrev pub turned : ℕ → List PlainBundle → List PlainBundle
turned behind [] = []
turned behind (b ∷ bs) = branch_back behind b ∷ turned (behind + bundle_words b) bs

-- ---- parts

-- over the words at which functions start, by their numbers
abbrev mutual
  pub flat_part : (ℕ → ℕ) → PlainPart → List PlainBundle
  flat_part start (straight bs) = bs
  flat_part start (repeats count body tail) = flat_parts start body ++ turned (parts_words body) tail
  flat_part start (calls_to k tail) = called (start k) tail
  flat_part start (leaves tail) = tail

  pub flat_parts : (ℕ → ℕ) → PlainParts → List PlainBundle
  flat_parts start no_part = []
  flat_parts start (part p rest) = flat_part start p ++ flat_parts start rest

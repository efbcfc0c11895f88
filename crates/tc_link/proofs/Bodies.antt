-- How large parts are: what falls from a part to its body.
use Rattle.std.proofs.Common.{◌≡◌, ℕ, zero, suc, ◌+◌, ◌<◌, ◌≤◌, List, [], ◌∷◌, length, get_or, ap, arith}
use Rattle.patmos_instr.specs.Bundles.{PlainBundle}
use Rattle.sp_shape.proofs.Plain.{repeat_said}
use Rattle.sp_shape.specs.Parts.{PlainPart, straight, repeats, calls_to, leaves, PlainParts, no_part, part}
use Rattle.sp_shape.specs.Shown.{plain_part, parts_of}
use Rattle.sp_shape.specs.declared.parts.Part.{Part}
use Rattle.sp_shape.specs.declared.parts.Part.TheViews.{Repeat}

abbrev mutual
  pub part_size : PlainPart → ℕ
  part_size (repeats count body tail) = 1 + parts_size body
  part_size _ = 1

  pub parts_size : PlainParts → ℕ
  parts_size no_part = 0
  parts_size (part p rest) = part_size p + parts_size rest

pub body_size : (p : Part) (count : ℕ) (body : List Part) (tail : List PlainBundle) → p ≡ Repeat count body tail
    → part_size (plain_part p) ≡ 1 + parts_size (parts_of body)
body_size p count body tail is = ap part_size (repeat_said p count body tail is)

-- a sum over parts is at least what one of them counts
pub item_of : (of : PlainPart → ℕ) (all : PlainParts → ℕ) → ((p : PlainPart) (rest : PlainParts) → all (part p rest)
    ≡ of p + all rest)
    → (ps : List Part) (i : ℕ) (p : Part) → i < length ps → p ≡ get_or ps i p → of (plain_part p) ≤ all (parts_of ps)
item_of of all sums [] i p within is = absurd (omega arith)
item_of of all sums (x ∷ ps) zero p within is =
    omega (arith, sums (plain_part x) (parts_of ps), ap (λ y. of (plain_part y)) is)
item_of of all sums (x ∷ ps) (suc i) p within is =
    omega (arith, sums (plain_part x) (parts_of ps), item_of of all sums ps i p (omega arith) is)

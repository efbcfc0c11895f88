-- For proofs. How often code is run at most, how many calls stand in it, and its transactions past one for each bundle.
use Rattle.std.specs.Prelude.{ℕ, ◌+◌, ◌-◌, ◌*◌, max, List, [], ◌∷◌}
use Rattle.patmos_instr.specs.Bundles.{PlainBundle}
use Rattle.sp_shape.specs.Parts.{PlainPart, straight, repeats, calls_to, leaves, PlainParts, no_part, part}
use Rattle.cycle_bound.specs.Bound.{op_moves}

-- the most iterations of nested loops, each of which is run once in every iteration of the one around it
abbrev mutual
  pub part_iterations : PlainPart → ℕ
  part_iterations (straight bs) = 1
  part_iterations (repeats count body tail) = count * parts_iterations body
  part_iterations (calls_to k tail) = 1
  part_iterations (leaves tail) = 1

  pub parts_iterations : PlainParts → ℕ
  parts_iterations no_part = 1
  parts_iterations (part p rest) = max (part_iterations p) (parts_iterations rest)

-- calls, each once
abbrev mutual
  pub part_calls : PlainPart → ℕ
  part_calls (straight bs) = 0
  part_calls (repeats count body tail) = parts_calls body
  part_calls (calls_to k tail) = 1
  part_calls (leaves tail) = 0

  pub parts_calls : PlainParts → ℕ
  parts_calls no_part = 0
  parts_calls (part p rest) = part_calls p + parts_calls rest

-- the transactions of a bundle past one: only a stack instruction has any
abbrev pub bundle_past : PlainBundle → ℕ
bundle_past b = op_moves b.first.op - 1

abbrev pub bundles_past : List PlainBundle → ℕ
bundles_past [] = 0
bundles_past (b ∷ bs) = bundle_past b + bundles_past bs

abbrev mutual
  pub part_past : PlainPart → ℕ
  part_past (straight bs) = bundles_past bs
  part_past (repeats count body tail) = parts_past body + bundles_past tail
  part_past (calls_to k tail) = bundles_past tail
  part_past (leaves tail) = bundles_past tail

  pub parts_past : PlainParts → ℕ
  parts_past no_part = 0
  parts_past (part p rest) = part_past p + parts_past rest

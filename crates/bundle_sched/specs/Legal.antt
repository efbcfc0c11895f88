-- For proofs. What stands beside each flow of code is of a kind for the second slot, as in each bundle that there is.
use Rattle.std.specs.Prelude.{Bool, true, ◌&&◌, List, [], ◌∷◌}
use Rattle.patmos_instr.specs.Bundles.{PlainBundle, is_legal}
use Rattle.sp_shape.specs.Parts.{PlainPart, straight, repeats, calls_to, leaves, PlainParts, no_part, part}
use Rattle.bundle_sched.specs.Packing.{from_branch}

-- of a tail
abbrev pub has_legal_flow : List PlainBundle → Bool
has_legal_flow [] = true
has_legal_flow (flow ∷ slots) = is_legal flow.first flow.second

-- of a part, and of parts one after another
abbrev mutual
  pub part_legal : PlainPart → Bool
  part_legal (straight bs) = true
  part_legal (repeats count body tail) = parts_legal body && has_legal_flow (from_branch tail)
  part_legal (calls_to k tail) = has_legal_flow tail
  part_legal (leaves tail) = has_legal_flow tail

  pub parts_legal : PlainParts → Bool
  parts_legal no_part = true
  parts_legal (part p rest) = part_legal p && parts_legal rest

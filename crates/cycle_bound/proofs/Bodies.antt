-- A body that is repeated has fewer nodes than its part.
use Rattle.std.proofs.Common.{◌≡◌, ℕ, List, ◌<◌, ap, arith}
use Rattle.patmos_instr.specs.Bundles.{PlainBundle}
use Rattle.sp_shape.proofs.Plain.{repeat_said}
use Rattle.sp_shape.specs.Shown.{plain_part, parts_of}
use Rattle.sp_shape.specs.declared.parts.Part.{Part}
use Rattle.sp_shape.specs.declared.parts.Part.TheViews.{Repeat}
use Rattle.cycle_bound.specs.Nodes.{part_nodes, parts_nodes}

pub body_nodes : (p : Part) (count : ℕ) (body : List Part) (tail : List PlainBundle) → p ≡ Repeat count body tail
    → parts_nodes (parts_of body) < part_nodes (plain_part p)
body_nodes p count body tail is = let whole = ap part_nodes (repeat_said p count body tail is) in omega (arith, whole)

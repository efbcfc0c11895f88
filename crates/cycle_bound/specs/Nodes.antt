-- To be believed. The nodes of a shape: its functions, their parts, and the bundles of these.
use Rattle.std.specs.Prelude.{ℕ, ◌+◌, List, [], ◌∷◌, length}
use Rattle.sp_shape.specs.Parts.{PlainPart, straight, repeats, calls_to, leaves, PlainParts, no_part, part, PlainShape}

abbrev mutual
  pub part_nodes : PlainPart → ℕ
  part_nodes (straight bs) = 1 + length bs
  part_nodes (repeats count body tail) = 1 + (parts_nodes body + length tail)
  part_nodes (calls_to k tail) = 1 + length tail
  part_nodes (leaves tail) = 1 + length tail

  pub parts_nodes : PlainParts → ℕ
  parts_nodes no_part = 0
  parts_nodes (part p rest) = part_nodes p + parts_nodes rest

abbrev pub functions_nodes : List PlainParts → ℕ
functions_nodes [] = 0
functions_nodes (ps ∷ fs) = (1 + parts_nodes ps) + functions_nodes fs

abbrev pub nodes : PlainShape → ℕ
nodes s = functions_nodes s.functions

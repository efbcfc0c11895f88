-- To be believed. What parts of code and shapes say, without places in memory.
use Rattle.std.specs.Prelude.{List, [], ◌∷◌, map}
use Rattle.sp_shape.specs.Parts.{PlainPart, straight, repeats, calls_to, leaves, PlainParts, no_part, part, PlainShape}
use Rattle.sp_shape.specs.declared.parts.Part.{Part, Straight, Repeat', CallTo, Leave}
use Rattle.sp_shape.specs.declared.parts.Part.TheBlock.{Row_of-Part, end_of-Part, more_of-Part}
use Rattle.sp_shape.specs.declared.parts.Shape.{Shape}

unfoldable mutual
  pub plain_part : Part → PlainPart
  plain_part (Straight bundles) = straight bundles
  plain_part (Repeat' count l body tail) = repeats count (plain_row body) tail
  plain_part (CallTo function tail) = calls_to function tail
  plain_part (Leave tail) = leaves tail

  pub plain_row : {n : _} → Row_of-Part n → PlainParts
  plain_row end_of-Part = no_part
  plain_row (more_of-Part p rest) = part (plain_part p) (plain_row rest)

-- plain parts of a plain list
abbrev pub parts_of : List Part → PlainParts
parts_of [] = no_part
parts_of (p ∷ rest) = part (plain_part p) (parts_of rest)

abbrev pub functions_of : List (List Part) → List PlainParts
functions_of functions = map parts_of functions

abbrev pub plain_shape : Shape → PlainShape
plain_shape s = record {
  functions = functions_of s.functions;
  entry = s.entry;
  initial = s.initial;
  input_at = s.input_at;
  input_room = s.input_room;
}

-- What parts say, by the lists of their parts.
use Rattle.std.proofs.Common.{◌≡◌, ℕ, suc, List, [], ◌∷◌, length, refl, ap, ◌∙◌}
use denote.Hole.Carrier.{hidden}
use Rattle.patmos_instr.specs.Bundles.{PlainBundle}
use Rattle.sp_shape.specs.Parts.{straight, repeats, calls_to, leaves, part}
use Rattle.sp_shape.specs.Shown.{plain_part, plain_row, parts_of, functions_of}
use Rattle.sp_shape.specs.declared.parts.Part.{Part, Straight, CallTo, Leave}
use Rattle.sp_shape.specs.declared.parts.Part.TheViews.{Repeat}
use Rattle.sp_shape.specs.declared.parts.Part.TheBlock.{hidden-the_row-Part-0}

row_parts : (body : List Part) → plain_row (hidden-the_row-Part-0 body) ≡ parts_of body
unfolding plain_part plain_row hidden-the_row-Part-0 hidden
row_parts [] = refl
row_parts (p ∷ body) = ap (part (plain_part p)) (row_parts body)

pub plain_repeat : (count : ℕ) (body : List Part) (tail : List PlainBundle) → plain_part (Repeat count body tail)
    ≡ repeats count (parts_of body) tail
unfolding plain_part
plain_repeat count body tail = ap (λ b. repeats count b tail) (row_parts body)

-- ---- variant by variant

pub straight_said : (p : Part) (bs : List PlainBundle) → p ≡ Straight bs → plain_part p ≡ straight bs
unfolding plain_part
straight_said p bs is = ap plain_part is

pub repeat_said : (p : Part) (count : ℕ) (body : List Part) (tail : List PlainBundle) → p ≡ Repeat count body tail
    → plain_part p ≡ repeats count (parts_of body) tail
repeat_said p count body tail is = ap plain_part is ∙ plain_repeat count body tail

pub call_said : (p : Part) (k : ℕ) (tail : List PlainBundle) → p ≡ CallTo k tail → plain_part p ≡ calls_to k tail
unfolding plain_part
call_said p k tail is = ap plain_part is

pub leave_said : (p : Part) (tail : List PlainBundle) → p ≡ Leave tail → plain_part p ≡ leaves tail
unfolding plain_part
leave_said p tail is = ap plain_part is

pub functions_count : (functions : List (List Part)) → length (functions_of functions) ≡ length functions
functions_count [] = refl
functions_count (f ∷ functions) = ap suc (functions_count functions)

-- To be believed. The words of a function's frame that decide what has an effect, and what they are set to. Such a word
-- is a mask: what stands under it has an effect exactly where it is 1.
use Rattle.std.specs.Prelude.{ℕ, ◌+◌, ◌==◌, Bool, true, false, if◌then◌else◌}
use Rattle.sp_tree.specs.declared.operators.SpBinary.{SpBinary}
use Rattle.sp_tree.specs.declared.operators.SpBinary.TheVariants as binary
use Rattle.sp_tree.specs.declared.operators.SpUnary.{SpUnary}
use Rattle.sp_tree.specs.declared.operators.SpUnary.TheVariants as unary
use Rattle.sp_tree.specs.Plain.{PlainSp, constant, frame_word, before_one, between_two}
use Rattle.single_path.specs.declared.part_words.PartWords.{PartWords}

-- the words of an arm, and of a loop's body, inside a part
abbrev pub in_arm : PartWords → PartWords
in_arm p = record p { own = p.free; free = p.free + 1 }

abbrev pub in_loop : PartWords → PartWords
in_loop p = record p { iteration = p.free; own = p.free; free = p.free + 1; counted = false }

-- the words of the body of a loop that counts, where its iterations have a mask of their own
abbrev pub in_counted : PartWords → PartWords
in_counted p = record (in_loop p) { counted = true }

-- the words of a function's body, after its first so many words
abbrev pub outermost : ℕ → PartWords
outermost words = record {
  result = words;
  function = words + 1;
  iteration = words + 1;
  own = words + 1;
  free = words + 2;
  counted = false;
}

-- ---- words that masks are set to

abbrev pub both : PlainSp → PlainSp → PlainSp
both a b = between_two binary.BitAnd a b

-- a mask, where another is not 1: 1 without 1 is 0, and any mask without 0 is itself. This is an exclusive or and not
-- a difference, since of two words that are 0 or 1 it is 0 or 1, whichever they are
abbrev pub without : PlainSp → PlainSp → PlainSp
without a b = between_two binary.BitXor a b

abbrev pub not_zero : PlainSp → PlainSp
not_zero e = between_two binary.NotEqual e (constant 0)

-- whether a mask is 1, of the words 0, 1 and 2
abbrev pub bit_of : ℕ → PlainSp
bit_of mask = both (frame_word mask) (constant 1)

-- operators whose value is 0 or 1
abbrev pub is_test_before : SpUnary → Bool
is_test_before unary.Not = true
is_test_before _ = false

abbrev pub is_test : SpBinary → Bool
is_test binary.Or = true
is_test binary.And = true
is_test binary.Equal = true
is_test binary.NotEqual = true
is_test binary.Less = true
is_test binary.LessUnsigned = true
is_test binary.LessEqual = true
is_test binary.LessEqualUnsigned = true
is_test _ = false

-- an expression whose value is 0 or 1 by its form
abbrev pub is_truth : PlainSp → Bool
is_truth (before_one op of) = is_test_before op
is_truth (between_two op a b) = is_test op
is_truth _ = false

abbrev pub truth : PlainSp → PlainSp
truth e = if is_truth e then e else not_zero e

-- a mask, where a condition holds besides
abbrev pub where_so : ℕ → PlainSp → PlainSp
where_so mask condition = both (frame_word mask) (truth condition)

-- the mask of what stands after `else`: its part goes on, and the arm was not taken
abbrev pub where_not_taken : PartWords → PlainSp
where_not_taken p = both (bit_of p.iteration) (between_two binary.BitXor (frame_word p.own) (frame_word p.free))

-- the mask of what stands after `else`, where the first arm does not go elsewhere. The part's own mask may be 2 only
-- where it is the loop's
abbrev pub where_other : PartWords → PlainSp
where_other p =
    between_two binary.BitXor (if p.own == p.iteration then bit_of p.own else frame_word p.own) (frame_word p.free)

-- the mask of a part, after an arm or a loop in which the iteration may have ended
abbrev pub where_on : PartWords → PlainSp
where_on p = both (frame_word p.own) (frame_word p.iteration)

-- the mask of a loop, after one inside it in which the function may have returned
abbrev pub where_not_returned : PartWords → PlainSp
where_not_returned p = both (frame_word p.iteration) (before_one unary.Minus (frame_word p.function))

-- where the part's own mask is 1, so is the loop's: `break` makes that one 0
abbrev pub broken : PartWords → PlainSp
broken p = without (frame_word p.iteration) (bit_of p.own)

-- `continue` adds 1 to it; or makes it 0 as well, where the loop counts: only the step of the iteration is left then, and
-- it stands under the mask of the part around
abbrev pub continued : PartWords → PlainSp
continued p = if p.counted then broken p else between_two binary.Plus (frame_word p.iteration) (bit_of p.own)

-- where the part's own mask is 1, so are the function's and the loop's: `return` makes both 0. The own one may be 2 only
-- where it is the loop's
abbrev pub returned_function : PartWords → PlainSp
returned_function p = without (frame_word p.function) (if p.own == p.iteration then bit_of p.own else frame_word p.own)

abbrev pub returned_loop : PartWords → PlainSp
returned_loop p =
    if p.own == p.iteration then both (frame_word p.iteration) (constant 2) else without (frame_word p.iteration) (frame_word p.own)

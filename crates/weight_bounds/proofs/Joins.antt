-- Counts of code that stands after other code.
use Rattle.std.proofs.Common.{◌≡◌, ◌+◌, ◌≤◌, List, [], ◌∷◌, ◌++◌, arith}
use Rattle.std.specs.Prelude.{max}
use Rattle.patmos_instr.specs.Bundles.{PlainBundle}
use Rattle.sp_shape.specs.Parts.{PlainParts, no_part, part, joined}
use Rattle.weight_bounds.specs.Counts.{parts_iterations, parts_calls, bundles_past, parts_past}

pub some_iterations : (ps : PlainParts) → 1 ≤ parts_iterations ps
some_iterations no_part = omega arith
some_iterations (part p rest) = omega (arith, some_iterations rest)

pub joined_iterations : (xs ys : PlainParts) → parts_iterations (joined xs ys)
    ≡ max (parts_iterations xs) (parts_iterations ys)
joined_iterations no_part ys = omega (arith, some_iterations ys)
joined_iterations (part p xs) ys = omega (arith, joined_iterations xs ys)

pub joined_calls : (xs ys : PlainParts) → parts_calls (joined xs ys) ≡ parts_calls xs + parts_calls ys
joined_calls no_part ys = omega arith
joined_calls (part p xs) ys = omega (arith, joined_calls xs ys)

pub joined_past : (xs ys : PlainParts) → parts_past (joined xs ys) ≡ parts_past xs + parts_past ys
joined_past no_part ys = omega arith
joined_past (part p xs) ys = omega (arith, joined_past xs ys)

pub past_append : (xs ys : List PlainBundle) → bundles_past (xs ++ ys) ≡ bundles_past xs + bundles_past ys
past_append [] ys = omega arith
past_append (x ∷ xs) ys = omega (arith, past_append xs ys)

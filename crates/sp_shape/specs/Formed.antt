-- To be believed. Well-formed shapes: flows stand where their parts say and nowhere else, loops have
-- iterations, and each function calls earlier ones and ends with its return (our own profile TP1, after the
-- delay slots of the Patmos Reference Handbook).
use Rattle.std.specs.Prelude.{ℕ, zero, suc, ◌==◌, nat_lt, nat_le, Bool, true, false, not, ◌&&◌, List, [], ◌∷◌, length, slice_index_or, if◌then◌else◌}
use Rattle.patmos_instr.specs.Bundles.{PlainBundle}
use Rattle.patmos_instr.specs.declared.guards.Guard.{Guard}
use Rattle.patmos_instr.specs.declared.instructions.Op.{Op}
use Rattle.patmos_instr.specs.declared.instructions.Op.TheVariants.{Branch, Call, BranchFill, Return}
use Rattle.sp_shape.specs.Parts.{PlainPart, straight, repeats, calls_to, leaves, PlainParts, no_part, part, PlainShape}
use Rattle.sp_tree.specs.declared.limits.TheConstants.{MOST_FUNCTIONS}

-- ---- bundles

abbrev pub is_branch : Op → Bool
is_branch (Branch offset) = true
is_branch _ = false

abbrev pub is_call : Op → Bool
is_call (Call target) = true
is_call _ = false

abbrev pub is_return : Op → Bool
is_return Return = true
is_return _ = false

abbrev pub is_fill : Op → Bool
is_fill (BranchFill target) = true
is_fill _ = false

abbrev pub is_flow : Op → Bool
is_flow op = if is_branch op then true else (if is_call op then true else (if is_return op then true else is_fill op))

-- the guard that is always true
abbrev pub is_always : Guard → Bool
is_always g = (g.pred == 0) && not g.negated

-- no flow: only a bundle's first slot can hold one
abbrev pub are_calm : List PlainBundle → Bool
are_calm [] = true
are_calm (b ∷ bs) = not (is_flow b.first.op) && are_calm bs

-- so many bundles without a flow: the delay slots of one
abbrev pub are_delay_slots : ℕ → List PlainBundle → Bool
are_delay_slots count bs = (length bs == count) && are_calm bs

-- ---- tails

-- bundles without a flow, a branch, and its two delay slots
abbrev pub is_iteration : List PlainBundle → Bool
is_iteration [] = false
is_iteration (b ∷ bs) =
    if is_branch b.first.op then are_delay_slots 2 bs else (not (is_flow b.first.op) && is_iteration bs)

-- a flow that is always taken, and its three delay slots
abbrev pub is_way : (Op → Bool) → List PlainBundle → Bool
is_way is_it [] = false
is_way is_it (b ∷ bs) = is_it b.first.op && (is_always b.first.guard && are_delay_slots 3 bs)

-- ---- parts of the function of a number

abbrev mutual
  pub part_formed : ℕ → PlainPart → Bool
  part_formed number (straight bs) = are_calm bs
  part_formed number (repeats count body tail) = nat_lt 0 count && (parts_formed number body && is_iteration tail)
  part_formed number (calls_to k tail) = nat_lt k number && is_way is_call tail
  part_formed number (leaves tail) = false

  pub parts_formed : ℕ → PlainParts → Bool
  parts_formed number no_part = true
  parts_formed number (part p rest) = part_formed number p && parts_formed number rest

-- ---- functions and shapes

-- the return is the last of a function's parts, and there is no other
abbrev pub function_formed : ℕ → PlainParts → Bool
function_formed number no_part = false
function_formed number (part (leaves tail) no_part) = is_way is_return tail
function_formed number (part p rest) = part_formed number p && function_formed number rest

-- the first so many functions
abbrev pub functions_formed : List PlainParts → ℕ → Bool
functions_formed fs zero = true
functions_formed fs (suc n) = functions_formed fs n && function_formed n (slice_index_or fs n no_part)

abbrev pub is_formed : PlainShape → Bool
is_formed s =
    nat_le (length s.functions) MOST_FUNCTIONS
    && (functions_formed s.functions (length s.functions) && nat_lt s.entry (length s.functions))

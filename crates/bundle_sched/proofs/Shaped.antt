-- Parts whose straight code is calm, and whose tails are tails of their kinds; and the straight code at their end.
use Rattle.std.proofs.Common.{◌≡◌, ℕ, Bool, true, true≢false, List, [], ◌++◌, refl, sym, ap, ◌∙◌}
use Rattle.std.specs.Prelude.{◌&&◌, nat_lt}
use Rattle.std.specs.List.{list_all}
use Rattle.std.proofs.lemmas.Bool.{and_parts, and_from}
use Rattle.patmos_instr.specs.Bundles.{PlainBundle}
use Rattle.sp_shape.specs.Bundles.{parts_all}
use Rattle.sp_shape.specs.Formed.{is_call, is_return, are_calm, is_iteration, is_way, part_formed, parts_formed, function_formed}
use Rattle.sp_shape.specs.Parts.{PlainPart, straight, repeats, calls_to, leaves, PlainParts, no_part, part}
use Rattle.sp_shape.proofs.Joins.{joined-nothing}
use Rattle.sp_shape.proofs.Lists.{calm_append, all_append}
use Rattle.bundle_sched.specs.Packing.{packed, straights, left_over, parts_merged, function_merged}
use Rattle.sp_shape.specs.Parts.{joined}

abbrev mutual
  pub part_shaped : PlainPart → Bool
  part_shaped (straight bs) = are_calm bs
  part_shaped (repeats count body tail) = parts_shaped body && is_iteration tail
  part_shaped (calls_to k tail) = is_way is_call tail
  part_shaped (leaves tail) = is_way is_return tail

  pub parts_shaped : PlainParts → Bool
  parts_shaped no_part = true
  parts_shaped (part p rest) = part_shaped p && parts_shaped rest

mutual
  part_is_shaped : (n : ℕ) (p : PlainPart) → part_formed n p ≡ true → part_shaped p ≡ true
  part_is_shaped n (straight bs) h = h
  part_is_shaped n (repeats count body tail) h =
      let both = and_parts (parts_formed n body) (is_iteration tail)
      (and_parts (nat_lt 0 count) (parts_formed n body && is_iteration tail) h).1 in
      and_from (parts_shaped body) (is_iteration tail) (parts_are_shaped n body both.0) both.1
  part_is_shaped n (calls_to k tail) h = (and_parts (nat_lt k n) (is_way is_call tail) h).1
  part_is_shaped n (leaves tail) h = absurd (true≢false (sym h))

  pub parts_are_shaped : (n : ℕ) (ps : PlainParts) → parts_formed n ps ≡ true → parts_shaped ps ≡ true
  parts_are_shaped n no_part h = refl
  parts_are_shaped n (part p rest) h =
      let both = and_parts (part_formed n p) (parts_formed n rest) h in
      and_from (part_shaped p) (parts_shaped rest) (part_is_shaped n p both.0) (parts_are_shaped n rest both.1)

pub function_is_shaped : (n : ℕ) (ps : PlainParts) → function_formed n ps ≡ true → parts_shaped ps ≡ true
function_is_shaped n no_part h = refl
function_is_shaped n (part (leaves tail) no_part) h = and_from (is_way is_return tail) true h refl
function_is_shaped n (part (leaves tail) (part p rest)) h = absurd (true≢false (sym h))
function_is_shaped n (part (straight bs) rest) h =
    let both = and_parts (part_formed n (straight bs)) (function_formed n rest) h in
    and_from (part_shaped (straight bs)) (parts_shaped rest) (part_is_shaped n (straight bs) both.0)
    (function_is_shaped n rest both.1)
function_is_shaped n (part (repeats count body tail) rest) h =
    let both = and_parts (part_formed n (repeats count body tail)) (function_formed n rest) h in
    and_from (part_shaped (repeats count body tail)) (parts_shaped rest) (part_is_shaped n (repeats count body tail)
    both.0) (function_is_shaped n rest both.1)
function_is_shaped n (part (calls_to k tail) rest) h =
    let both = and_parts (part_formed n (calls_to k tail)) (function_formed n rest) h in
    and_from (part_shaped (calls_to k tail)) (parts_shaped rest) (part_is_shaped n (calls_to k tail) both.0)
    (function_is_shaped n rest both.1)

-- ---- the straight code at the end

pub left_calm : (held : List PlainBundle) (ps : PlainParts) → are_calm held ≡ true → parts_shaped ps ≡ true
    → are_calm (left_over held ps) ≡ true
left_calm held no_part hh h = hh
left_calm held (part (straight bs) rest) hh h = let both = and_parts (are_calm bs) (parts_shaped rest) h in
    left_calm (held ++ bs) rest (calm_append held bs hh both.0) both.1
left_calm held (part (repeats count body tail) rest) hh h =
    left_calm [] rest refl (and_parts (parts_shaped body && is_iteration tail) (parts_shaped rest) h).1
left_calm held (part (calls_to k tail) rest) hh h =
    left_calm [] rest refl (and_parts (is_way is_call tail) (parts_shaped rest) h).1
left_calm held (part (leaves tail) rest) hh h =
    left_calm [] rest refl (and_parts (is_way is_return tail) (parts_shaped rest) h).1

pub left_all : (holds : PlainBundle → Bool) (held : List PlainBundle) (ps : PlainParts) → list_all holds held ≡ true
    → parts_all holds ps ≡ true → list_all holds (left_over held ps) ≡ true
left_all holds held no_part hh h = hh
left_all holds held (part (straight bs) rest) hh h = let both = and_parts (list_all holds bs) (parts_all holds rest)
    h in left_all holds (held ++ bs) rest (all_append holds held bs hh both.0) both.1
left_all holds held (part (repeats count body tail) rest) hh h =
    left_all holds [] rest refl (and_parts (parts_all holds body && list_all holds tail) (parts_all holds rest) h).1
left_all holds held (part (calls_to k tail) rest) hh h =
    left_all holds [] rest refl (and_parts (list_all holds tail) (parts_all holds rest) h).1
left_all holds held (part (leaves tail) rest) hh h =
    left_all holds [] rest refl (and_parts (list_all holds tail) (parts_all holds rest) h).1

-- a function ends with its return: nothing is left over
function_left : (n : ℕ) (held : List PlainBundle) (ps : PlainParts) → function_formed n ps ≡ true
    → left_over held ps ≡ []
function_left n held no_part h = absurd (true≢false (sym h))
function_left n held (part (straight bs) rest) h =
    function_left n (held ++ bs) rest (and_parts (part_formed n (straight bs)) (function_formed n rest) h).1
function_left n held (part (repeats count body tail) rest) h =
    function_left n [] rest (and_parts (part_formed n (repeats count body tail)) (function_formed n rest) h).1
function_left n held (part (calls_to k tail) rest) h =
    function_left n [] rest (and_parts (part_formed n (calls_to k tail)) (function_formed n rest) h).1
function_left n held (part (leaves tail) no_part) h = refl
function_left n held (part (leaves tail) (part p rest)) h = absurd (true≢false (sym h))

pub function_same : (n : ℕ) (ps : PlainParts) → function_formed n ps ≡ true → function_merged ps ≡ parts_merged [] ps
function_same n ps h = ap (λ left. joined (parts_merged [] ps) (straights (packed left) no_part)) (function_left n [] ps
    h) ∙ joined-nothing (parts_merged [] ps)

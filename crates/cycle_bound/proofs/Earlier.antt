-- Functions of a well-formed shape call those of lesser number.
use Rattle.std.proofs.Common.{◌≡◌, ℕ, zero, suc, ◌<◌, ◌≤◌, true, true≢false, List, [], ◌∷◌, length, get_or, slice_index_or, sym, subst, arith}
use Rattle.std.proofs.lemmas.Bool.{and_parts, ltb-true, leb-true}
use Rattle.std.specs.Prelude.{nat_lt, nat_le, ◌&&◌}
use Rattle.patmos_instr.specs.Bundles.{PlainBundle}
use Rattle.sp_shape.specs.Formed.{are_calm, is_iteration, is_way, is_call, part_formed, parts_formed, function_formed, functions_formed, is_formed}
use Rattle.sp_shape.specs.Parts.{PlainPart, straight, repeats, calls_to, leaves, PlainParts, no_part, part, PlainShape}
use Rattle.sp_shape.specs.Shown.{plain_part, parts_of, functions_of}
use Rattle.sp_shape.specs.declared.parts.Part.{Part, CallTo}
use Rattle.sp_shape.specs.declared.parts.Part.TheViews.{Repeat}
use Rattle.cycle_bound.specs.Calls.{PartCallsBelow, CallsBelow}
use Rattle.sp_shape.proofs.Plain.{repeat_said, call_said}
use Rattle.sp_shape.proofs.Functions.{function_at, each_formed}

-- ---- of what is well formed

mutual
  part_below : (n : ℕ) (p : PlainPart) → part_formed n p ≡ true → PartCallsBelow n p
  part_below n (straight bs) h = tt
  part_below n (repeats count body tail) h =
      parts_below n body (and_parts (parts_formed n body) (is_iteration tail)
      (and_parts (nat_lt 0 count) (parts_formed n body && is_iteration tail) h).1).0
  part_below n (calls_to k tail) h = ltb-true k n (and_parts (nat_lt k n) (is_way is_call tail) h).0
  part_below n (leaves tail) h = tt

  parts_below : (n : ℕ) (ps : PlainParts) → parts_formed n ps ≡ true → CallsBelow n ps
  parts_below n no_part h = tt
  parts_below n (part p rest) h =
      let both = and_parts (part_formed n p) (parts_formed n rest) h in
      (part_below n p both.0, parts_below n rest both.1)

-- the parts before a function's return, and those after them
function_below : (n : ℕ) (ps : PlainParts) → function_formed n ps ≡ true → CallsBelow n ps
function_below n no_part h = tt
function_below n (part (leaves tail) no_part) h = (tt, tt)
function_below n (part (leaves tail) (part p rest)) h = absurd (true≢false (sym h))
function_below n (part (straight bs) rest) h =
    (tt, function_below n rest (and_parts (are_calm bs) (function_formed n rest) h).1)
function_below n (part (repeats count body tail) rest) h =
    let both = and_parts (part_formed n (repeats count body tail)) (function_formed n rest) h in
    (part_below n (repeats count body tail) both.0, function_below n rest both.1)
function_below n (part (calls_to k tail) rest) h =
    let both = and_parts (part_formed n (calls_to k tail)) (function_formed n rest) h in
    (part_below n (calls_to k tail) both.0, function_below n rest both.1)

-- all functions of a well-formed shape
pub functions_below : (fs : List PlainParts) (n k : ℕ) → functions_formed fs n ≡ true → k < n
    → CallsBelow k (slice_index_or fs k no_part)
functions_below fs n k h less = function_below k (slice_index_or fs k no_part) (each_formed fs k n less h)

pub known_below : (functions : List (List Part)) (n : ℕ) (f : List Part) → n < length functions → f
    ≡ get_or functions n f
    → functions_formed (functions_of functions) (length functions) ≡ true → CallsBelow n (parts_of f)
known_below functions n f within is h =
    subst (CallsBelow n) (function_at functions n f within is)
    (functions_below (functions_of functions) (length functions) n h within)

-- ---- of parts

pub body_below : (n : ℕ) (p : Part) (count : ℕ) (body : List Part) (tail : List PlainBundle) → p
    ≡ Repeat count body tail
    → PartCallsBelow n (plain_part p)
    → CallsBelow n (parts_of body)
body_below n p count body tail is h = subst (PartCallsBelow n) (repeat_said p count body tail is) h

pub called_below : (n : ℕ) (p : Part) (k : ℕ) (tail : List PlainBundle) → p ≡ CallTo k tail
    → PartCallsBelow n (plain_part p)
    → k < n
called_below n p k tail is h = subst (PartCallsBelow n) (call_said p k tail is) h

pub item_below : (n : ℕ) (ps : List Part) (i : ℕ) (p : Part) → i < length ps → p ≡ get_or ps i p
    → CallsBelow n (parts_of ps) → PartCallsBelow n (plain_part p)
item_below n [] i p within is h = absurd (omega arith)
item_below n (x ∷ ps) zero p within is h = subst (λ y. PartCallsBelow n (plain_part y)) (sym is) h.0
item_below n (x ∷ ps) (suc i) p within is h = item_below n ps i p (omega arith) is h.1

-- ---- of shapes

-- what is known of a shape
pub record ShapeFormed (s : PlainShape) : Type 0 where
  pub few : length s.functions ≤ 512
  pub functions : functions_formed s.functions (length s.functions) ≡ true
  pub entry : s.entry < length s.functions

pub shape_parts : (s : PlainShape) → is_formed s ≡ true → ShapeFormed s
shape_parts s h =
    let a = and_parts (nat_le (length s.functions) 512) (functions_formed s.functions (length s.functions)
    && nat_lt s.entry (length s.functions)) h in
    let b = and_parts (functions_formed s.functions (length s.functions)) (nat_lt s.entry (length s.functions)) a.1 in
    record {
      few = leb-true (length s.functions) 512 a.0;
      functions = b.0;
      entry = ltb-true s.entry
          (length s.functions) b.1;
    }

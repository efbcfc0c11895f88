-- The functions of a shape, by their numbers and by their parts.
use Rattle.std.proofs.Common.{◌≡◌, ℕ, zero, suc, ◌<◌, true, true≢false, List, [], ◌∷◌, length, get_or, slice_index_or, ap, sym, subst, arith, inl, inr}
use Rattle.std.proofs.lemmas.Bool.{cases_lt, and_parts, and_from}
use Rattle.sp_shape.specs.Formed.{part_formed, function_formed, functions_formed}
use Rattle.sp_shape.specs.Parts.{PlainPart, straight, repeats, calls_to, leaves, PlainParts, no_part, part}
use Rattle.sp_shape.specs.Shown.{parts_of, functions_of}
use Rattle.sp_shape.specs.declared.parts.Part.{Part}

-- the parts of one of them
pub function_at : (functions : List (List Part)) (n : ℕ) (f : List Part) → n < length functions → f
    ≡ get_or functions n f
    → slice_index_or (functions_of functions) n no_part ≡ parts_of f
function_at [] n f within is = absurd (omega arith)
function_at (x ∷ functions) zero f within is = ap parts_of (sym is)
function_at (x ∷ functions) (suc n) f within is = function_at functions n f (omega arith) is

-- where so many are well formed, each of them is
pub each_formed : (fs : List PlainParts) (k n : ℕ) → k < n → functions_formed fs n ≡ true
    → function_formed k (slice_index_or fs k no_part) ≡ true
each_formed fs k zero below h = absurd (omega arith)
each_formed fs k (suc n) below h =
    let both = and_parts (functions_formed fs n) (function_formed n (slice_index_or fs n no_part)) h in
    elim (cases_lt k n) [
      | inl less ↦ each_formed fs k n less both.0
      | inr more ↦ let same : n ≡ k =
          omega arith in subst (λ j. function_formed j (slice_index_or fs j no_part) ≡ true) same both.1
    ]

-- a part before those of a function
pub function_then : (n : ℕ) (p : PlainPart) (rest : PlainParts) → part_formed n p ≡ true → function_formed n rest ≡ true
    → function_formed n (part p rest) ≡ true
function_then n (leaves tail) rest hp h = absurd (true≢false (sym hp))
function_then n other rest hp h = and_from (part_formed n other) (function_formed n rest) hp h

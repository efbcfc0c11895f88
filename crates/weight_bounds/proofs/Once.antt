-- The bound of parts by their words, their iterations, their calls and their stack instructions.
use Rattle.std.proofs.Common.{◌≡◌, ℕ, zero, suc, ◌+◌, ◌-◌, ◌*◌, ◌<◌, ◌≤◌, true, false, if◌then◌else◌, List, [], ◌∷◌, ap, arith, mul-le-mul_left, mul-le-mul_right}
use Rattle.std.specs.Prelude.{max, ◌||◌, is_some}
use Rattle.patmos_instr.specs.Bundles.{PlainBundle}
use Rattle.patmos_instr.specs.Instructions.{is_long}
use Rattle.sp_shape.specs.Parts.{PlainPart, straight, repeats, calls_to, leaves, PlainParts, no_part, part}
use Rattle.sp_shape.specs.Words.{bundle_words, bundles_words, part_words, parts_words}
use Rattle.cycle_bound.specs.Bound.{op_moves, bundles_bound, part_bound, parts_bound}
use Rattle.cycle_bound.specs.Calls.{PartCallsBelow, CallsBelow}
use Rattle.weight_bounds.proofs.Joins.{some_iterations}
use Rattle.weight_bounds.specs.Counts.{part_iterations, parts_iterations, part_calls, parts_calls, bundles_past, part_past, parts_past}

-- ---- each bundle run once

-- the cycles of parts whose loops make one iteration, where each call takes so many
abbrev mutual
  pub part_once : ℕ → ℕ → PlainPart → ℕ
  part_once each call (straight bs) = bundles_bound each bs
  part_once each call (repeats count body tail) = parts_once each call body + bundles_bound each tail
  part_once each call (calls_to k tail) = bundles_bound each tail + call
  part_once each call (leaves tail) = bundles_bound each tail

  pub parts_once : ℕ → ℕ → PlainParts → ℕ
  parts_once each call no_part = 0
  parts_once each call (part p rest) = part_once each call p + parts_once each call rest

-- sums of products
iterated : (i p o t : ℕ) → 1 ≤ i → p ≤ i * o → p + t ≤ i * (o + t)
iterated zero p o t some h = absurd (omega (arith, some))
iterated (suc i) p o t some h = omega (arith, h)

more_of : (i m x a : ℕ) → i ≤ m → a ≤ i * x → a ≤ m * x
more_of i m x a most h = let more = mul-le-mul_right x most in omega (arith, h, more)

module _ (each call own : ℕ) (fill g : ℕ → ℕ) (called : (k : ℕ) → k < own → fill k + fill own + g k ≤ call) where
  mutual
    part_few : (p : PlainPart) → PartCallsBelow own p → part_bound each fill g own p ≤ part_iterations p
        * part_once each call p
    part_few (straight bs) below = omega arith
    part_few (repeats count body tail) below =
        let inner = iterated (parts_iterations body) (parts_bound each fill g own body) (parts_once each call body)
        (bundles_bound each tail) (some_iterations body) (parts_few body below) in
        let all = mul-le-mul_left count inner in
        omega (arith, all)
    part_few (calls_to k tail) below = omega (arith, called k below)
    part_few (leaves tail) below = omega arith

    pub parts_few : (ps : PlainParts) → CallsBelow own ps → parts_bound each fill g own ps ≤ parts_iterations ps
        * parts_once each call ps
    parts_few no_part below = omega arith
    parts_few (part p rest) below =
        let i = part_iterations p in
        let j = parts_iterations rest in
        let first = more_of i (max i j) (part_once each call p) (part_bound each fill g own p) (omega arith)
        (part_few p below.0) in
        let others = more_of j (max i j) (parts_once each call rest) (parts_bound each fill g own rest) (omega arith)
        (parts_few rest below.1) in
        sum_of (max i j) (part_once each call p) (parts_once each call rest) (part_bound each fill g own p)
        (parts_bound each fill g own rest) first others
      where
        sum_of : (m x y a b : ℕ) → a ≤ m * x → b ≤ m * y → a + b ≤ m * (x + y)
        sum_of m x y a b h k = omega (arith, h, k)

-- ---- by words, calls and stack instructions

words_some : (b : PlainBundle) → 1 ≤ bundle_words b
words_some b = elim (is_long b.first.op || is_some b.second) as (λ two. 1 ≤ (if two then 2 else 1))
    [ true ↦ omega arith | false ↦ omega arith ]

one_word : (each moves words : ℕ) → 1 ≤ words → 1 + each * moves ≤ words * (1 + each) + each * (moves - 1)
one_word each moves zero some = absurd (omega (arith, some))
one_word each zero (suc words) some = omega arith
one_word each (suc moves) (suc words) some = past each moves (suc moves - 1) words (omega arith)
  where
    past : (each moves less words : ℕ) → less ≡ moves → 1 + each * suc moves ≤ suc words * (1 + each) + each * less
    past each moves less words is = let same = ap (λ n. each * n) is in omega (arith, same)

bundles_once : (each : ℕ) (bs : List PlainBundle) → bundles_bound each bs ≤ bundles_words bs * (1 + each) + each
    * bundles_past bs
bundles_once each [] = omega arith
bundles_once each (b ∷ bs) =
    omega (arith, bundles_once each bs, one_word each (op_moves b.first.op) (bundle_words b) (words_some b))

mutual
  part_sum : (each call : ℕ) (p : PlainPart) → part_once each call p ≤ part_words p * (1 + each) + each * part_past p
      + part_calls p * call
  part_sum each call (straight bs) = omega (arith, bundles_once each bs)
  part_sum each call (repeats count body tail) = omega (arith, parts_sum each call body, bundles_once each tail)
  part_sum each call (calls_to k tail) = omega (arith, bundles_once each tail)
  part_sum each call (leaves tail) = omega (arith, bundles_once each tail)

  pub parts_sum : (each call : ℕ) (ps : PlainParts) → parts_once each call ps ≤ parts_words ps * (1 + each) + each
      * parts_past ps + parts_calls ps * call
  parts_sum each call no_part = omega arith
  parts_sum each call (part p rest) = omega (arith, part_sum each call p, parts_sum each call rest)

-- The persistent bound is never more than the one that counts a fetch at each call and each return.
use Rattle.std.proofs.Common.{◌≡◌, ℕ, zero, suc, ◌+◌, ◌*◌, ◌<◌, ◌≤◌, ◌==◌, ◌||◌, ◌&&◌, nat_lt, Bool, true, false, if◌then◌else◌, List, ◌∷◌, length, sum_by, slice_index_or, refl, sym, ap, arith, true≢false, mul-le-mul_left}
use Rattle.std.proofs.lemmas.Bool.{and_parts, eqb-true, eqb-false, ne_eqb, ltb-true}
use Rattle.std.proofs.lemmas.List.Sums.{sum_by-cons}
use Rattle.sp_shape.specs.Parts.{PlainPart, straight, repeats, calls_to, leaves, PlainParts, no_part, part, PlainShape}
use Rattle.sp_shape.specs.Formed.{is_iteration, is_way, is_call, part_formed, parts_formed, function_formed, functions_formed, is_formed}
use Rattle.cycle_bound.specs.Bound.{fill_moves, bundles_bound, part_bound, parts_bound, bounds, fill_bound, shape_bound}
use Rattle.cycle_bound.proofs.Earlier.{shape_parts}
use Rattle.bound_persist.specs.Persist.{runs, fetched_once, persist}
use Rattle.bound_persist.specs.Reached.{part_reaches, parts_reach, reaches, picked, stays}

-- ---- sums over what is picked

module _ (w : ℕ → ℕ) where
  none_sum : (n : ℕ) → sum_by w (picked (λ j. false) n) ≡ 0
  none_sum zero = refl
  none_sum (suc n) = none_sum n

  or_sum : (a b : ℕ → Bool) (n : ℕ) → sum_by w (picked (λ j. a j || b j) n) ≤ sum_by w (picked a n)
      + sum_by w (picked b n)
  or_sum a b zero = omega arith
  or_sum a b (suc n) = by (or_sum a b n) (a n) (b n)
    where
      by : sum_by w (picked (λ j. a j || b j) n) ≤ sum_by w (picked a n) + sum_by w (picked b n) → (x y : Bool)
          → sum_by w (if x || y then n ∷ picked (λ j. a j || b j) n else picked (λ j. a j || b j) n)
          ≤ sum_by w (if x then n ∷ picked a n else picked a n) + sum_by w (if y then n ∷ picked b n else picked b n)
      by r true true = let e = sum_by-cons w n (picked (λ j. a j || b j) n) in let p = sum_by-cons w n (picked a n) in
          let q = sum_by-cons w n (picked b n) in omega (arith, r, e, p, q)
      by r true false = let e = sum_by-cons w n (picked (λ j. a j || b j) n) in let p = sum_by-cons w n (picked a n) in
          omega (arith, r, e, p)
      by r false true = let e = sum_by-cons w n (picked (λ j. a j || b j) n) in let q = sum_by-cons w n (picked b n) in
          omega (arith, r, e, q)
      by r false false = r

  past_sum : (m n : ℕ) → n ≤ m → sum_by w (picked (λ j. j == m) n) ≡ 0
  past_sum m zero less = refl
  past_sum m (suc n) less = by (past_sum m n (omega (arith, less))) (n == m) (ne_eqb n m (λ e. omega (arith, e, less)))
    where
      by : sum_by w (picked (λ j. j == m) n) ≡ 0 → (b : Bool) → b ≡ false
          → sum_by w (if b then n ∷ picked (λ j. j == m) n else picked (λ j. j == m) n) ≡ 0
      by rest true is = absurd (true≢false is)
      by rest false is = rest

  one_sum : (m n : ℕ) → sum_by w (picked (λ j. j == m) n) ≤ w m
  one_sum m zero = omega arith
  one_sum m (suc n) = by (one_sum m n) (n == m) refl
    where
      by : sum_by w (picked (λ j. j == m) n) ≤ w m → (b : Bool) → (n == m) ≡ b
          → sum_by w (if b then n ∷ picked (λ j. j == m) n else picked (λ j. j == m) n) ≤ w m
      by rest true is =
          let same = eqb-true n m is in
          let e = sum_by-cons w n (picked (λ j. j == m) n) in
          let none = past_sum m n (omega (arith, same)) in
          let k = ap w same in
          omega (arith, e, none, k)
      by rest false is = rest

-- ---- of parts: a fetch at each call is no less than one of each function that they reach

module _ (fs : List PlainParts) (each all n : ℕ) where
  -- without the fetches, and with one at each call and each return
  abbrev part_run : PlainPart → ℕ
  part_run p = part_bound each (λ _. 0) (runs fs each n) n p

  abbrev run_of : PlainParts → ℕ
  run_of ps = parts_bound each (λ _. 0) (runs fs each n) n ps

  abbrev part_most : PlainPart → ℕ
  part_most p = part_bound each (fill_bound each fs) (bounds fs each (fill_bound each fs) n) n p

  abbrev most_of : PlainParts → ℕ
  most_of ps = parts_bound each (fill_bound each fs) (bounds fs each (fill_bound each fs) n) n ps

  -- one fetch of each function that passes a test
  abbrev fills : (ℕ → Bool) → ℕ
  fills test = each * sum_by (fill_moves fs) (picked test all)

  -- of each function before
  abbrev Less : ℕ → Type 0
  Less m = (k : ℕ) → k < m → runs fs each m k + fills (λ j. reaches fs j m k) ≤ bounds fs each (fill_bound each fs) m k
      + fill_bound each fs k

  or_fills : (a b : ℕ → Bool) → fills (λ j. a j || b j) ≤ fills a + fills b
  or_fills a b = let h = mul-le-mul_left each (or_sum (fill_moves fs) a b all) in omega (arith, h)

  none_fills : fills (λ j. false) ≡ 0
  none_fills = let e = none_sum (fill_moves fs) all in rw e (omega arith)

  module _ (less : Less n) where
    mutual
      part_less : (p : PlainPart) → part_formed n p ≡ true → part_run p + fills (λ j. part_reaches (reaches fs j n) p)
          ≤ part_most p
      part_less (straight bs) formed = let e = none_fills in omega (arith, e)
      part_less (repeats zero body tail) formed = absurd (true≢false (sym formed))
      part_less (repeats (suc count) body tail) formed =
          let a = and_parts (nat_lt 0 (suc count)) (parts_formed n body && is_iteration tail) formed in
          let b = and_parts (parts_formed n body) (is_iteration tail) a.1 in
          let h = parts_less body b.0 in
          let r : ℕ = run_of body in
          let f : ℕ = fills (λ j. parts_reach (reaches fs j n) body) in
          let p : ℕ = most_of body in
          let t : ℕ = bundles_bound each tail in
          iterations count r f p t h
        where
          iterations : (c r f p t : ℕ) → r + f ≤ p → suc c * (r + t) + f ≤ suc c * (p + t)
          iterations c r f p t h = let m = mul-le-mul_left c h in omega (arith, h, m)
      part_less (calls_to k tail) formed =
          let there : k < n = ltb-true k n (and_parts (nat_lt k n) (is_way is_call tail) formed).0 in
          let h = less k there in
          omega (arith, h)
      part_less (leaves tail) formed = absurd (true≢false (sym formed))

      parts_less : (ps : PlainParts) → parts_formed n ps ≡ true
          → run_of ps + fills (λ j. parts_reach (reaches fs j n) ps) ≤ most_of ps
      parts_less no_part formed = let e = none_fills in omega (arith, e)
      parts_less (part p rest) formed =
          let a = and_parts (part_formed n p) (parts_formed n rest) formed in
          let x = part_less p a.0 in
          let y = parts_less rest a.1 in
          let z = or_fills (λ j. part_reaches (reaches fs j n) p) (λ j. parts_reach (reaches fs j n) rest) in
          omega (arith, x, y, z)

    both_less : (p : PlainPart) (rest : PlainParts) → part_run p + fills (λ j. part_reaches (reaches fs j n) p)
        ≤ part_most p
        → run_of rest + fills (λ j. parts_reach (reaches fs j n) rest) ≤ most_of rest
        → run_of (part p rest) + fills (λ j. parts_reach (reaches fs j n) (part p rest)) ≤ most_of (part p rest)
    both_less p rest x y = let z = or_fills (λ j. part_reaches (reaches fs j n) p)
        (λ j. parts_reach (reaches fs j n) rest) in omega (arith, x, y, z)

    function_less : (ps : PlainParts) → function_formed n ps ≡ true
        → run_of ps + fills (λ j. parts_reach (reaches fs j n) ps) ≤ most_of ps
    function_less no_part formed = absurd (true≢false (sym formed))
    function_less (part (leaves tail) no_part) formed = let e = none_fills in omega (arith, e)
    function_less (part (leaves tail) (part p more)) formed = absurd (true≢false (sym formed))
    function_less (part (straight bs) more) formed =
        let a = and_parts (part_formed n (straight bs)) (function_formed n more) formed in
        both_less (straight bs) more (part_less (straight bs) a.0) (function_less more a.1)
    function_less (part (repeats count body tail) more) formed =
        let a = and_parts (part_formed n (repeats count body tail)) (function_formed n more) formed in
        both_less (repeats count body tail) more (part_less (repeats count body tail) a.0) (function_less more a.1)
    function_less (part (calls_to k tail) more) formed =
        let a = and_parts (part_formed n (calls_to k tail)) (function_formed n more) formed in
        both_less (calls_to k tail) more (part_less (calls_to k tail) a.0) (function_less more a.1)

functions_less : (fs : List PlainParts) (each all n : ℕ) → functions_formed fs n ≡ true → Less fs each all n n
functions_less fs each all zero formed k less = absurd (omega (arith, less))
functions_less fs each all (suc n) formed k less =
    let a = and_parts (functions_formed fs n) (function_formed n (slice_index_or fs n no_part)) formed in
    by a.1 (functions_less fs each all n a.0) (k == n) refl
  where
    by : function_formed n (slice_index_or fs n no_part) ≡ true → Less fs each all n n → (b : Bool) → (k == n) ≡ b
        → (if b then parts_bound each (λ _. 0) (runs fs each n) n (slice_index_or fs n no_part) else runs fs each n k)
        + each * sum_by (fill_moves fs) (picked
        (λ j. if b then (j == n || parts_reach (reaches fs j n) (slice_index_or fs n no_part)) else
        reaches fs j n k) all)
        ≤ (if b then parts_bound each (fill_bound each fs) (bounds fs each (fill_bound each fs) n) n
        (slice_index_or fs n no_part) else bounds fs each (fill_bound each fs) n k) + fill_bound each fs k
    by own earlier true is =
        let same = eqb-true k n is in
        let x = function_less fs each all n earlier (slice_index_or fs n no_part) own in
        let z = or_fills fs each all n (λ j. j == n) (λ j. parts_reach (reaches fs j n)
        (slice_index_or fs n no_part)) in
        let o = mul-le-mul_left each (one_sum (fill_moves fs) n all) in
        let e = ap (λ i. each * fill_moves fs i) same in
        omega (arith, x, z, o, e)
    by own earlier false other = earlier k (let ne = eqb-false k n other in omega (arith, less, ne))

once_less : (each : ℕ) (s : PlainShape) → is_formed s ≡ true → fetched_once each s ≤ shape_bound each s
once_less each s formed =
    let h = shape_parts s formed in
    let a = functions_less s.functions each (length s.functions) (length s.functions) h.functions s.entry h.entry in
    omega (arith, a)

pub persist_less : (each : ℕ) (s : PlainShape) → is_formed s ≡ true → persist each s ≤ shape_bound each s
persist_less each s formed = by (stays s)
  where
    by : (b : Bool) → (if b then fetched_once each s else shape_bound each s) ≤ shape_bound each s
    by true = once_less each s formed
    by false = omega arith

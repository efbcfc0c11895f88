-- The bound of a shape whose functions keep to weights and to the counts of a tree.
use Rattle.std.proofs.Common.{◌≡◌, ℕ, zero, suc, ◌+◌, ◌*◌, ◌<◌, ◌≤◌, ◌==◌, ◌⊎◌, inl, inr, Bool, true, false, if◌then◌else◌, List, length, slice_index, slice_index_or, refl, sym, subst, arith, mul-le-mul_left, mul-le-mul_right}
use Rattle.std.specs.Prelude.{max}
use Rattle.std.proofs.lemmas.Bool.{cases_lt, eqb-true, eqb-false}
use Rattle.std.proofs.lemmas.Nat.{mul-le}
use Rattle.sp_tree.specs.Statements.{PlainFunction, no_function}
use Rattle.sp_shape.specs.Formed.{is_formed}
use Rattle.sp_shape.specs.Parts.{PlainParts, no_part, PlainShape}
use Rattle.sp_shape.specs.Words.{parts_words}
use Rattle.cycle_bound.specs.Bound.{parts_bound, bounds, fill_bound, shape_bound, transactions}
use Rattle.cycle_bound.proofs.Earlier.{shape_parts, functions_below}
use Rattle.weight_bounds.specs.Counts.{parts_iterations, parts_calls, parts_past}
use Rattle.weight_bounds.specs.Trees.{stmts_iterations, stmts_call_count}
use Rattle.weight_bounds.specs.Weights.{fetch_cycles, called_cycles, weighed_cycles}
use Rattle.weight_bounds.proofs.Once.{parts_once, parts_few, parts_sum}

-- code with the counts of a function of a tree
pub record IsFewOf (f : PlainFunction) (ps : PlainParts) : Type 0 where
  pub iterations : parts_iterations ps ≤ stmts_iterations f.body
  pub calls : parts_calls ps ≤ stmts_call_count f.body
  pub past : parts_past ps ≤ 31 * (1 + stmts_call_count f.body)

-- a well-formed shape whose functions take at most so many words with their size words
pub record IsWeighed (s : PlainShape) (weights : List ℕ) (gs : List PlainFunction) : Type 0 where
  pub formed : is_formed s ≡ true
  pub size : (k : ℕ) → k < length s.functions → 1 + parts_words (slice_index_or s.functions k no_part)
      ≤ slice_index weights k
  pub few : (k : ℕ) → k < length s.functions → IsFewOf (slice_index_or gs k no_function) (slice_index_or
      s.functions k no_part)

-- sums of products that are no less
sums_more : (each words w past p calls c call once i t : ℕ) → words ≤ w → past ≤ p → calls ≤ c → i ≤ t → once ≤ words
    * (1 + each) + each * past + calls * call
    → i * once ≤ t * (w * (1 + each) + each * p + c * call)
sums_more each words w past p calls c call once i t hw hp hc hi h =
    let a = mul-le-mul_right (1 + each) hw in
    let b = mul-le-mul_left each hp in
    let d = mul-le-mul_right call hc in
    mul-le i once t (w * (1 + each) + each * p + c * call) hi (omega (arith, h, a, b, d))

module _ (each : ℕ) (s : PlainShape) (weights : List ℕ) (gs : List PlainFunction)
    (weighed : IsWeighed s weights gs) where
  fill_few : (k : ℕ) → k < length s.functions → fill_bound each s.functions k
      ≤ fetch_cycles each (slice_index weights k)
  fill_few k below =
      let few = weighed.size k below in
      let words : transactions (1 + parts_words (slice_index_or s.functions k no_part))
      ≤ transactions (slice_index weights k) = omega (arith, few) in
      mul-le-mul_left each words

  called_more : (n k : ℕ) → k < n → fetch_cycles each (slice_index weights k) + weighed_cycles each weights gs k
      ≤ called_cycles each weights gs n
  called_more zero k below = absurd (omega (arith, below))
  called_more (suc n) k below = by (called_more n k) (cases_lt k n)
    where
      by : (k < n → fetch_cycles each (slice_index weights k) + weighed_cycles each weights gs k
          ≤ called_cycles each weights gs n) → (k < n) ⊎ (n ≤ k)
          → fetch_cycles each (slice_index weights k) + weighed_cycles each weights gs k
          ≤ max (called_cycles each weights gs n) (fetch_cycles each (slice_index weights n)
          + weighed_cycles each weights gs n)
      by earlier (inl less) = let h = earlier less in omega (arith, h)
      by earlier (inr past) =
          let here : n ≡ k = omega (arith, below, past) in
          subst (λ j. fetch_cycles each (slice_index weights j) + weighed_cycles each weights gs j
          ≤ max (called_cycles each weights gs n) (fetch_cycles each (slice_index weights n)
          + weighed_cycles each weights gs n)) here (omega arith)

  run_few : (n : ℕ) → n ≤ length s.functions → (k : ℕ) → k < n → bounds s.functions each (fill_bound each s.functions) n
      k ≤ weighed_cycles each weights gs k
  run_few zero within k below = absurd (omega (arith, below))
  run_few (suc n) within k below =
      by (run_few n (omega (arith, within))) (k == n) (λ same. eqb-true k n same) (λ other. eqb-false k n other)
    where
      fs : List PlainParts
      fs = s.functions

      own : ((j : ℕ) → j < n → bounds s.functions each (fill_bound each s.functions) n j
          ≤ weighed_cycles each weights gs j)
          → parts_bound each (fill_bound each s.functions) (bounds s.functions each (fill_bound each s.functions) n) n
          (slice_index_or s.functions n no_part) ≤ weighed_cycles each weights gs n
      own earlier =
          let there : n < length s.functions = omega (arith, within) in
          let ps = slice_index_or s.functions n no_part in
          let f = slice_index_or gs n no_function in
          let call = fetch_cycles each (slice_index weights n) + called_cycles each weights gs n in
          let few = weighed.few n there in
          let size = weighed.size n there in
          let formed = shape_parts s weighed.formed in
          let run = parts_few each call n (fill_bound each s.functions)
          (bounds s.functions each (fill_bound each s.functions) n)
          (λ j less. omega (
            arith,
            fill_few j (omega (arith, less, there)),
            fill_few n there,
            earlier j less,
            called_more n j less,
          )) ps (functions_below s.functions (length s.functions) n formed.functions there) in
          let sums = sums_more each (parts_words ps) (slice_index weights n) (parts_past ps)
          (31 * (1 + stmts_call_count f.body)) (parts_calls ps) (stmts_call_count f.body) call
          (parts_once each call ps)
          (parts_iterations ps) (stmts_iterations f.body) (omega (arith, size)) few.past few.calls few.iterations
          (parts_sum each call ps) in
          omega (arith, run, sums)

      by : ((j : ℕ) → j < n → bounds s.functions each (fill_bound each s.functions) n j
          ≤ weighed_cycles each weights gs j) → (b : Bool) → (b ≡ true → k ≡ n) → (b ≡ false → k ≡ n → ⊥)
          → (if b then parts_bound each (fill_bound each s.functions)
          (bounds s.functions each (fill_bound each s.functions) n) n (slice_index_or s.functions n no_part) else
          bounds s.functions each (fill_bound each s.functions) n k)
          ≤ weighed_cycles each weights gs k
      by earlier true is other =
          subst (λ j. parts_bound each (fill_bound each s.functions) (bounds s.functions each
          (fill_bound each s.functions) n) n (slice_index_or s.functions n no_part)
          ≤ weighed_cycles each weights gs j) (sym (is refl)) (own earlier)
      by earlier false is other = let apart = other refl in earlier k (omega (arith, below, apart))

  pub shape_weighed : shape_bound each s ≤ fetch_cycles each (slice_index weights s.entry)
      + weighed_cycles each weights gs s.entry
  shape_weighed =
      let formed = shape_parts s weighed.formed in
      omega (arith, fill_few s.entry formed.entry, run_few (length s.functions) (omega arith) s.entry formed.entry)

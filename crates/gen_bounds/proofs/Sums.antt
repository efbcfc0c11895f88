-- The bound of a generated program by its weights.
use Rattle.std.proofs.Common.{◌≡◌, ℕ, zero, suc, ◌+◌, ◌*◌, ◌<◌, ◌≤◌, ◌==◌, true, true≢false, List, [], ◌∷◌, length, slice_index, slice_index_or, refl, sym, ap, subst, arith, mul-le-mul_right}
use Rattle.std.proofs.lemmas.Bool.{and_parts, eqb-true}
use Rattle.std.proofs.lemmas.Nat.{mul-le}
use Rattle.sp_tree.specs.Statements.{PlainFunction, no_function}
use Rattle.single_path.specs.Single.{weights_in, frames_in, with_calls, single}
use Rattle.weight_bounds.specs.Trees.{stmts_iterations, stmts_call_count}
use Rattle.weight_bounds.specs.Weights.{fetch_cycles, function_cycles, called_cycles, weight_bound}
use Rattle.weight_bounds.specs.Leaves.{AreLeaves, HasNoMore}
use Rattle.weight_bounds.proofs.Taking.{leaf_of, taken_no_more}
use Rattle.gen_bounds.proofs.Counts.{items_of, copies, weights_are, is_leaf, are_leaves, leaves_are, many_are, entry_is, iterations_are, calls_are}

copies_at : (count n k : ℕ) (rest : List ℕ) → k < count → slice_index (copies count n rest) k ≡ n
copies_at zero n k rest below = absurd (omega (arith, below))
copies_at (suc count) n zero rest below = refl
copies_at (suc count) n (suc k) rest below = copies_at count n k rest (omega (arith, below))

leaf_at : (n : ℕ) (fs : List PlainFunction) → are_leaves n fs ≡ true → AreLeaves fs n
leaf_at zero fs h k below = absurd (omega (arith, below))
leaf_at (suc n) [] h k below = absurd (true≢false (sym h))
leaf_at (suc n) (f ∷ fs) h zero below =
    let both = and_parts (stmts_iterations f.body == 1) (stmts_call_count f.body == 0)
    (and_parts (is_leaf f) (are_leaves n fs) h).0 in
    record {
      iterations = omega (arith, eqb-true (stmts_iterations f.body) 1 both.0);
      calls = omega (arith, eqb-true (stmts_call_count f.body) 0 both.1);
    }
leaf_at (suc n) (f ∷ fs) h (suc k) below =
    leaf_at n fs (and_parts (is_leaf f) (are_leaves n fs) h).1 k (omega (arith, below))

-- ---- where a transaction takes 39 cycles

leaf_cycles : (iterations calls called : ℕ) → iterations ≤ 1 → calls ≤ 0 → fetch_cycles 39 234
    + function_cycles 39 234 iterations calls called ≤ 12870
leaf_cycles iterations zero called once none =
    let h = mul-le-mul_right (234 * (1 + 39) + 39 * (31 * (1 + 0)) + 0 * (fetch_cycles 39 234 + called)) once in
    omega (arith, h)
leaf_cycles iterations (suc calls) called once none = absurd (omega (arith, none))

main_cycles : (iterations calls called : ℕ) → iterations ≤ 16 → calls ≤ 24 → called ≤ 12870 → fetch_cycles 39 1984
    + function_cycles 39 1984 iterations calls called ≤ 14142880
main_cycles iterations calls called few some within =
    let inner = mul-le calls (fetch_cycles 39 1984 + called) 24 32214 some (omega (arith, within)) in
    let all = mul-le iterations (1984 * (1 + 39) + 39 * (31 * (1 + calls)) + calls * (fetch_cycles 39 1984 + called)) 16
    882721 few (omega (arith, inner, some)) in
    omega (arith, all)

module _ (x : ℕ) where
  taken : (k : ℕ) → k < 25 → HasNoMore (slice_index_or (with_calls (items_of x)).functions k no_function)
      (slice_index_or (single (items_of x)).functions k no_function)
  taken k below =
      let fs : List PlainFunction = (with_calls (items_of x)).functions in
      taken_no_more (weights_in (items_of x)) (frames_in (items_of x)) fs (length fs) k
      (omega (arith, below, many_are x)) (λ j less. leaf_at 24 fs (leaves_are x) j (omega (arith, less, below)))

  light : (k : ℕ) → k < 24 → slice_index (weights_in (items_of x)) k ≡ 234
  light k below = subst (λ ws. slice_index ws k ≡ 234) (sym (weights_are x)) (copies_at 24 234 k (1984 ∷ []) below)

  called_few : (n : ℕ) → n ≤ 24 → called_cycles 39 (weights_in (items_of x)) (single (items_of x)).functions n ≤ 12870
  called_few zero within = omega arith
  called_few (suc n) within =
      let g : PlainFunction = slice_index_or (single (items_of x)).functions n no_function in
      let before : ℕ = called_cycles 39 (weights_in (items_of x)) (single (items_of x)).functions n in
      let leaf = leaf_of (slice_index_or (with_calls (items_of x)).functions n no_function) g
      (taken n (omega (arith, within))) (leaf_at 24 (with_calls (items_of x)).functions (leaves_are x) n
      (omega (arith, within))) in
      let own = subst (λ w. fetch_cycles 39 w + function_cycles 39 w (stmts_iterations g.body) (stmts_call_count g.body)
      before ≤ 12870) (sym (light n (omega (arith, within))))
      (leaf_cycles (stmts_iterations g.body) (stmts_call_count g.body) before leaf.iterations leaf.calls) in
      omega (arith, called_few n (omega (arith, within)), own)

  pub bounded : weight_bound 39 (weights_in (items_of x)) (single (items_of x)) ≤ 14142880
  bounded =
      let ws : List ℕ = weights_in (items_of x) in
      let gs : List PlainFunction = (single (items_of x)).functions in
      let g : PlainFunction = slice_index_or gs 24 no_function in
      let main = taken 24 (omega arith) in
      let heavy : 1984 ≡ slice_index ws 24 = sym (ap (λ w. slice_index w 24) (weights_are x)) in
      let own = main_cycles (stmts_iterations g.body) (stmts_call_count g.body) (called_cycles 39 ws gs 24)
      (omega (arith, main.iterations, iterations_are x)) (omega (arith, main.calls, calls_are x))
      (called_few 24 (omega arith)) in
      let here = subst (λ w. fetch_cycles 39 w + function_cycles 39 w (stmts_iterations g.body) (stmts_call_count
      g.body) (called_cycles 39 ws gs 24) ≤ 14142880) heavy own in
      subst (λ (e : ℕ). fetch_cycles 39 (slice_index ws e)
      + function_cycles 39 (slice_index ws e) (stmts_iterations (slice_index_or gs e no_function).body)
      (stmts_call_count (slice_index_or gs e no_function).body) (called_cycles 39 ws gs e) ≤ 14142880)
      (sym (entry_is x)) here

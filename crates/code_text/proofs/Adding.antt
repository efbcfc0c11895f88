-- Bundles and transactions add up to the bound.
use Rattle.std.proofs.Common.{arith, ◌≡◌, ◌∙◌, ℕ, zero, suc, ◌+◌, ◌*◌, ◌≤◌, ◌==◌, Bool, true, false, if◌then◌else◌, List, [], ◌∷◌, length, slice_index_or, refl, sym, ap, subst}
use Rattle.std.proofs.lemmas.Grind.{common_steps}
use Rattle.patmos_instr.specs.Bundles.{PlainBundle}
use Rattle.sp_shape.specs.Parts.{PlainPart, straight, repeats, calls_to, leaves, PlainParts, no_part, part, PlainShape}
use Rattle.sp_shape.specs.Formed.{is_formed, functions_formed}
use Rattle.sp_shape.specs.Shown.{functions_of, plain_shape}
use Rattle.sp_shape.specs.declared.parts.Shape.{Shape}
use Rattle.cycle_bound.proofs.Earlier.{shape_parts}
use Rattle.sp_shape.specs.declared.parts.Part.{Part}
use Rattle.sp_shape.proofs.Plain.{functions_count}
use Rattle.cycle_bound.specs.Held.{held}
use Rattle.cycle_bound.specs.Known.{Knows}
use Rattle.tc_link.specs.Fits.{FitsImage}
use Rattle.code_text.specs.Runs.{AreRuns, shape_of}
use Rattle.code_text.specs.declared.tallies.Runs.{Runs}
use Rattle.cycle_bound.specs.Bound.{bundles_bound, fill_moves, part_bound, parts_bound, bounds, fill_bound, shape_bound}
use Rattle.code_text.specs.Tally.{part_bundles, parts_bundles, run_bundles, bundles_moves, part_moves, parts_moves, run_moves, task_bundles, task_moves}

bundles_add : (e : ℕ) (bs : List PlainBundle) → bundles_bound e bs ≡ length bs + e * bundles_moves bs
bundles_add e [] = grind (arith, common_steps)
bundles_add e (b ∷ bs) = let rest = bundles_add e bs in grind (arith, common_steps, rest)

iterations_add : (n e a b c d : ℕ) → n * ((a + e * b) + (c + e * d)) ≡ n * (a + c) + e * (n * (b + d))
iterations_add n e a b c d = grind (arith, common_steps)

-- over functions whose bundles and transactions add up
module _ (e own : ℕ) (fill g b m : ℕ → ℕ) (adds : (k : ℕ) → g k ≡ b k + e * m k) where
  mutual
    part_adds : (p : PlainPart) → part_bound e (λ k. e * fill k) g own p ≡ part_bundles b p + e
        * part_moves fill m own p
    part_adds (straight bs) = bundles_add e bs
    part_adds (repeats count body tail) =
        ap (λ n. count * (n + bundles_bound e tail)) (parts_add body)
        ∙ ap (λ n. count * (parts_bundles b body + e * parts_moves fill m own body + n)) (bundles_add e tail)
        ∙ iterations_add count e (parts_bundles b body) (parts_moves fill m own body) (length tail) (bundles_moves tail)
    part_adds (calls_to k tail) =
        let way = bundles_add e tail in let called = adds k in grind (arith, common_steps, way, called)
    part_adds (leaves tail) = bundles_add e tail

    parts_add : (ps : PlainParts) → parts_bound e (λ k. e * fill k) g own ps ≡ parts_bundles b ps + e
        * parts_moves fill m own ps
    parts_add no_part = grind (arith, common_steps)
    parts_add (part p rest) =
        let one = part_adds p in let more = parts_add rest in grind (arith, common_steps, one, more)

pub runs_add : (fs : List PlainParts) (e n k : ℕ) → bounds fs e (fill_bound e fs) n k ≡ run_bundles fs n k + e
    * run_moves fs n k
runs_add fs e zero k = grind (arith, common_steps)
runs_add fs e (suc n) k =
    let own = parts_add e n (fill_moves fs) (bounds fs e (fill_bound e fs) n) (run_bundles fs n) (run_moves fs n)
    (runs_add fs e n) (slice_index_or fs n no_part) in
    by_test (k == n) _ _ _ _ _ _ own (runs_add fs e n k)
  where
    by_test : (t : Bool) (a b c x y z : ℕ) → a ≡ b + e * c → x ≡ y + e * z → (if t then a else x) ≡ (if t then b else y)
        + e * (if t then c else z)
    by_test true a b c x y z own other = own
    by_test false a b c x y z own other = other

pub tasks_add : (e : ℕ) (s : PlainShape) → shape_bound e s ≡ task_bundles s + e * task_moves s
tasks_add e s = let run = runs_add s.functions e (length s.functions) s.entry in grind (arith, common_steps, run)

-- without transactions, bundles alone are left
module _ (own : ℕ) (g b : ℕ → ℕ) (same : (k : ℕ) → g k ≡ b k) where
  bundles_alone : (bs : List PlainBundle) → bundles_bound 0 bs ≡ length bs
  bundles_alone [] = refl
  bundles_alone (s ∷ bs) = let rest = bundles_alone bs in grind (arith, common_steps, rest)

  mutual
    part_alone : (p : PlainPart) → part_bound 0 (λ _. 0) g own p ≡ part_bundles b p
    part_alone (straight bs) = bundles_alone bs
    part_alone (repeats count body tail) = ap (λ n. count * (n + bundles_bound 0 tail)) (parts_alone body)
        ∙ ap (λ n. count * (parts_bundles b body + n)) (bundles_alone tail)
    part_alone (calls_to k tail) = let way = bundles_alone tail in let called = same k in omega (arith, way, called)
    part_alone (leaves tail) = bundles_alone tail

    parts_alone : (ps : PlainParts) → parts_bound 0 (λ _. 0) g own ps ≡ parts_bundles b ps
    parts_alone no_part = refl
    parts_alone (part p rest) = let one = part_alone p in let more = parts_alone rest in omega (arith, one, more)

pub runs_alone : (fs : List PlainParts) (n k : ℕ) → bounds fs 0 (λ _. 0) n k ≡ run_bundles fs n k
runs_alone fs zero k = refl
runs_alone fs (suc n) k =
    by_test (k == n) _ _ _ _ (parts_alone n (bounds fs 0 (λ _. 0) n) (run_bundles fs n) (runs_alone fs n)
    (slice_index_or fs n no_part)) (runs_alone fs n k)
  where
    by_test : (t : Bool) (a b x y : ℕ) → a ≡ b → x ≡ y → (if t then a else x) ≡ (if t then b else y)
    by_test true a b x y own other = own
    by_test false a b x y own other = other

pub formed_in : (shape : Shape) (functions : List (List Part)) → functions ≡ shape.functions
    → is_formed (plain_shape shape) ≡ true → functions_formed (functions_of functions) (length functions) ≡ true
formed_in shape functions same formed =
    let count : length (functions_of functions) ≡ length functions = functions_count functions in
    subst (λ n. functions_formed (functions_of functions) n ≡ true) count
    (subst (λ xs. functions_formed (functions_of xs) (length (functions_of xs)) ≡ true) (sym same)
    (shape_parts (plain_shape shape) formed).functions)

-- so the runs of a shape are known, where those of its functions are
pub runs_made : (runs : Runs) (functions : List (List Part)) → functions ≡ runs.shape.now.functions
    → is_formed (shape_of runs) ≡ true → FitsImage (shape_of runs) → 6 ≤ runs.each → runs.each ≤ 4160
    → Knows (functions_of functions) 0 (λ _. 0) (length functions) (length functions) runs.bundles
    → Knows (functions_of functions) runs.each (fill_bound runs.each (functions_of functions)) (length functions)
    (length functions) runs.cycles → AreRuns runs
runs_made runs functions same formed fits least most bundles cycles =
    let fs = (shape_of runs).functions in
    let count : length functions ≡ length fs = ap length same ∙ sym (functions_count runs.shape.now.functions) in
    let zero = subst (λ n. Knows fs 0 (λ _. 0) n n runs.bundles) count
    (subst (λ xs. Knows (functions_of xs) 0 (λ _. 0) (length functions) (length functions) runs.bundles)
    same bundles) in
    let all = subst (λ n. Knows fs runs.each (fill_bound runs.each fs) n n runs.cycles) count
    (subst (λ xs. Knows (functions_of xs) runs.each (fill_bound runs.each (functions_of xs)) (length functions)
    (length functions) runs.cycles) same cycles) in
    record {
      formed = formed;
      fits = fits;
      least = least;
      most = most;
      bundles = λ k below. zero.bounds k below ∙ ap held (runs_alone fs (length fs) k);
      fills = all.fills;
      cycles = all.bounds;
    }

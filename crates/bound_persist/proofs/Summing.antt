-- Sums over the functions that are reached; and the persistent bound, of what was summed up.
use Rattle.std.proofs.Common.{◌≡◌, ℕ, ◌+◌, ◌*◌, ◌<◌, ◌≤◌, ◌&&◌, Bool, true, false, List, [], ◌∷◌, length, drop, get_or, slice_index_or, sum_by, refl, ap, sym, ◌∙◌, arith, subst, add-one}
use Rattle.std.specs.Prelude.{if◌then◌else◌, nat_le}
use Rattle.std.proofs.lemmas.Bool.{le-leb, leb-true}
use Rattle.std.proofs.lemmas.List.Sums.{sum_by-cons}
use Rattle.tc_word.proofs.Items.{drop_item}
use Rattle.method_cache.specs.declared.cache.TheConstants.{MOST_METHODS, METHOD_CACHE_WORDS}
use Rattle.sp_shape.specs.Parts.{PlainParts, no_part, PlainShape}
use Rattle.sp_shape.specs.Shown.{parts_of, functions_of, plain_shape}
use Rattle.sp_shape.specs.Words.{parts_words}
use Rattle.sp_shape.specs.declared.parts.Shape.{Shape}
use Rattle.sp_shape.specs.declared.parts.Part.{Part}
use Rattle.sp_shape.proofs.Plain.{functions_count}
use Rattle.cycle_bound.specs.Bound.{fill_moves, shape_bound}
use Rattle.cycle_bound.specs.Held.{held}
use Rattle.cycle_bound.specs.Nodes.{parts_nodes, functions_nodes}
use Rattle.cycle_bound.proofs.Holding.{held_sum}
use Rattle.bound_persist.specs.Marks.{is_marked, AreMarks}
use Rattle.bound_persist.specs.Persist.{runs, fetched_once, persist}
use Rattle.bound_persist.specs.Reached.{reaches, picked, reached, functions_words, stays}
use Rattle.bound_persist.specs.Sums.{AreSums}
use Rattle.bound_persist.specs.declared.sums.Sums.{Sums}
use Rattle.bound_persist.proofs.Marking.{both_ways, marks_are}

-- ---- sums

pub sums_none : (fs : List PlainParts) (each : ℕ) → AreSums fs each [] (record { count = 0; words = 0; fills = 0 })
sums_none fs each = record { count = refl; words = refl; fills = omega arith }

pub sums_pass : (fs : List PlainParts) (each n : ℕ) (set : List Bool) (sums : Sums) → is_marked set n ≡ false
    → AreSums fs each (picked (is_marked set) n) sums
    → AreSums fs each (picked (is_marked set) (n + 1)) sums
sums_pass fs each n set sums none h =
    subst (λ xs. AreSums fs each xs sums)
    (sym (ap (picked (is_marked set)) (add-one n)
    ∙ ap (λ b. if b then n ∷ picked (is_marked set) n else picked (is_marked set) n) none)) h

pub sums_more : (fs : List PlainParts) (each n : ℕ) (set : List Bool) (sums : Sums) (w f words fills : ℕ)
    → is_marked set n ≡ true
    → w ≡ held (parts_words (slice_index_or fs n no_part)) → f ≡ held (each * fill_moves fs n) → words
    ≡ held (sums.words + w) → fills ≡ held (sums.fills + f)
    → AreSums fs each (picked (is_marked set) n) sums
    → AreSums fs each (picked (is_marked set) (n + 1)) (record { count = sums.count + 1; words = words; fills = fills })
sums_more fs each n set sums w f words fills marked one fetch all filled h =
    let rest : List ℕ = picked (is_marked set) n in
    let wc = sum_by-cons (λ k. parts_words (slice_index_or fs k no_part)) n rest in
    let fc = sum_by-cons (fill_moves fs) n rest in
    let wa = held_sum words sums.words w (functions_words fs rest) (parts_words (slice_index_or fs n no_part))
    all h.words one in
    let fa = held_sum fills sums.fills f (each * sum_by (fill_moves fs) rest) (each * fill_moves fs n) filled
    h.fills fetch in
    let we : functions_words fs rest + parts_words (slice_index_or fs n no_part) ≡ functions_words fs (n ∷ rest) =
    omega (arith, wc) in
    let fe : each * sum_by (fill_moves fs) rest + each * fill_moves fs n ≡ each * sum_by (fill_moves fs) (n ∷ rest) =
    rw fc (omega arith) in
    let many = h.count in
    subst (λ xs. AreSums fs each xs (record { count = sums.count + 1; words = words; fills = fills }))
    (sym (ap (picked (is_marked set)) (add-one n) ∙ ap (λ b. if b then n ∷ rest else rest) marked))
    (record { count = omega (arith, many); words = wa ∙ ap held we; fills = fa ∙ ap held fe })

-- nodes of the functions that are left
pub functions_passed : (functions : List (List Part)) (n : ℕ) (f : List Part) (s a all : ℕ) → n < length functions → f
    ≡ get_or functions n f
    → s ≤ a + (1 + parts_nodes (parts_of f)) → a + functions_nodes (functions_of (drop n functions)) ≤ all
    → s + functions_nodes (functions_of (drop (n + 1) functions)) ≤ all
functions_passed functions n f s a all within is e h =
    let front = ap (λ xs. functions_nodes (functions_of xs)) (drop_item functions n f within is) in
    omega (arith, e, h, front)

-- ---- no fetch is counted

-- ---- the whole shape

held_words : (words : ℕ) → nat_le (held words) METHOD_CACHE_WORDS ≡ nat_le words METHOD_CACHE_WORDS
held_words words =
    both_ways (nat_le (held words) METHOD_CACHE_WORDS) (nat_le words METHOD_CACHE_WORDS)
    (λ is. let few = leb-true (held words) METHOD_CACHE_WORDS is in le-leb words METHOD_CACHE_WORDS
    (omega (arith, few)))
    (λ is. let few = leb-true words METHOD_CACHE_WORDS is in le-leb (held words) METHOD_CACHE_WORDS
    (omega (arith, few)))

module _ (shape : Shape) (functions : List (List Part)) (each : ℕ) (set : List Bool) (sums : Sums)
    (same : functions ≡ shape.functions)
    (marks : AreMarks (functions_of functions) shape.entry 0 set)
    (told : AreSums (functions_of functions) each (picked (is_marked set) (length functions)) sums) where
  numbers : picked (is_marked set) (length functions) ≡ reached (plain_shape shape)
  numbers =
      (λ i. picked (λ j. marks_are (functions_of functions) shape.entry set marks j i) (length functions))
      ∙ ap (picked (λ j. reaches (functions_of functions) j (length (functions_of functions)) shape.entry)) (sym
      (functions_count functions))
      ∙ ap (λ xs. picked (λ j. reaches (functions_of xs) j (length (functions_of xs)) shape.entry)
      (length (functions_of xs))) same

  here : AreSums (functions_of shape.functions) each (reached (plain_shape shape)) sums
  here = subst (λ xs. AreSums (functions_of xs) each (reached (plain_shape shape)) sums) same
      (subst (λ ns. AreSums (functions_of functions) each ns sums) numbers told)

  fit_is : (nat_le sums.count MOST_METHODS && nat_le sums.words METHOD_CACHE_WORDS) ≡ stays (plain_shape shape)
  fit_is =
      (λ i. nat_le (here.count i) MOST_METHODS && nat_le (here.words i) METHOD_CACHE_WORDS)
      ∙ ap (λ b. nat_le (length (reached (plain_shape shape))) MOST_METHODS && b) (held_words
      (functions_words (functions_of shape.functions) (reached (plain_shape shape))))

  chosen : (b : Bool) → (nat_le sums.count MOST_METHODS && nat_le sums.words METHOD_CACHE_WORDS) ≡ b
      → (if b then fetched_once each (plain_shape shape) else shape_bound each (plain_shape shape))
      ≡ persist each (plain_shape shape)
  chosen b is = ap (λ c. if c then fetched_once each (plain_shape shape) else shape_bound each (plain_shape shape))
      (sym is ∙ fit_is)

  -- where what is reached stays in the method cache together
  pub once_is : (nat_le sums.count MOST_METHODS && nat_le sums.words METHOD_CACHE_WORDS) ≡ true → (r run : ℕ) → r
      ≡ held (sums.fills + run)
      → run ≡ held (runs (functions_of functions) each (length functions) shape.entry) → r
      ≡ held (persist each (plain_shape shape))
  once_is fit r run is ran =
      let s : PlainShape = plain_shape shape in
      let own : run ≡ held (runs s.functions each (length s.functions) shape.entry) =
      ran ∙ ap (λ n. held (runs (functions_of functions) each n shape.entry)) (sym (functions_count functions))
      ∙ ap (λ xs. held (runs (functions_of xs) each (length (functions_of xs)) shape.entry)) same in
      held_sum r sums.fills run (each * sum_by (fill_moves s.functions) (reached s))
      (runs s.functions each (length s.functions) shape.entry) is here.fills own
      ∙ ap held (chosen true fit)

  -- and where it does not
  pub else_is : (nat_le sums.count MOST_METHODS && nat_le sums.words METHOD_CACHE_WORDS) ≡ false
      → shape_bound each (plain_shape shape) ≡ persist each (plain_shape shape)
  else_is fit = chosen false fit

-- One function more is known.
use Rattle.std.proofs.Common.{◌≡◌, ◌≢◌, ℕ, suc, ◌+◌, ◌*◌, ◌<◌, List, length, get_or, drop, slice_index, slice_index_or, slice_set, get_or-set_other, refl, ap, sym, ◌∙◌, arith, subst, add-one, inl, inr}
use Rattle.std.proofs.lemmas.Bool.{cases_lt, eq-eqb, ne_eqb}
use Rattle.std.proofs.lemmas.Grind.{get_or-set_at}
use Rattle.std.specs.Prelude.{if◌then◌else◌, true, ◌≤◌}
use Rattle.tc_word.proofs.Items.{drop_item}
use Rattle.sp_shape.specs.Parts.{PlainParts, no_part}
use Rattle.sp_shape.specs.Formed.{is_formed}
use Rattle.sp_shape.specs.Shown.{parts_of, functions_of, plain_shape}
use Rattle.sp_shape.specs.declared.parts.Shape.{Shape}
use Rattle.sp_shape.specs.declared.parts.Part.{Part}
use Rattle.sp_shape.specs.Words.{parts_words}
use Rattle.cycle_bound.specs.Bound.{transactions, parts_bound, bounds, fill_bound, shape_bound}
use Rattle.cycle_bound.specs.Held.{held}
use Rattle.cycle_bound.specs.Known.{AreHeld, Knows}
use Rattle.cycle_bound.specs.Nodes.{parts_nodes, functions_nodes}
use Rattle.cycle_bound.specs.declared.known.Known.{Known}
use Rattle.cycle_bound.proofs.Earlier.{shape_parts}
use Rattle.cycle_bound.proofs.Holding.{held_sum}
use Rattle.sp_shape.proofs.Plain.{functions_count}

-- ---- bounds over one function more

bounds_own : (fs : List PlainParts) (each : ℕ) (fill : ℕ → ℕ) (n k : ℕ) → k ≡ n
    → bounds fs each fill (suc n) k ≡ parts_bound each fill (bounds fs each fill n) n (slice_index_or fs n no_part)
bounds_own fs each fill n k same =
    ap (λ b. if b then parts_bound each fill (bounds fs each fill n) n (slice_index_or fs n no_part) else bounds fs each
    fill n k) (eq-eqb k n same)

bounds_other : (fs : List PlainParts) (each : ℕ) (fill : ℕ → ℕ) (n k : ℕ) → k ≢ n → bounds fs each fill (suc n) k
    ≡ bounds fs each fill n k
bounds_other fs each fill n k other =
    ap (λ b. if b then parts_bound each fill (bounds fs each fill n) n (slice_index_or fs n no_part) else bounds fs each
    fill n k) (ne_eqb k n other)

bounds_now : (fs : List PlainParts) (each : ℕ) (fill : ℕ → ℕ) (n k : ℕ) → bounds fs each fill (n + 1) k
    ≡ bounds fs each fill (suc n) k
bounds_now fs each fill n k = ap (λ m. bounds fs each fill m k) (add-one n)

-- ---- what is written after what is known

pub fewer : (cycles : ℕ → ℕ) (m n : ℕ) (numbers : List ℕ) → m ≤ n → AreHeld cycles n numbers → AreHeld cycles m numbers
fewer cycles m n numbers less h k below = h k (omega (arith, below, less))

-- numbers that are right below a place are right up to it, once that is written
written : (cycles : ℕ → ℕ) (numbers : List ℕ) (n v : ℕ) → n < length numbers → v ≡ held (cycles n)
    → AreHeld cycles n numbers → AreHeld cycles (n + 1) (slice_set numbers n v)
written cycles numbers n v room is h k below = elim (cases_lt k n) [
  | inl less ↦ get_or-set_other numbers n k v 0 (λ e. omega (arith, e, less)) ∙ h k less
  | inr more ↦ let same : k ≡ n =
      omega arith in get_or-set_at numbers n k v 0 same room ∙ is ∙ ap (λ m. held (cycles m)) (sym same)
]

pub fill_next : (fs : List PlainParts) (ps : PlainParts) (each n : ℕ) (fills : List ℕ) (v : ℕ)
    → slice_index_or fs n no_part ≡ ps → n < length fills
    → v ≡ held (each * transactions (1 + parts_words ps)) → AreHeld (fill_bound each fs) n fills
    → AreHeld (fill_bound each fs) (n + 1) (slice_set fills n v)
fill_next fs ps each n fills v own room is h =
    written (fill_bound each fs) fills n v room
    (is ∙ ap (λ qs. held (each * transactions (1 + parts_words qs))) (sym own)) h

pub learned : (fs : List PlainParts) (each : ℕ) (fill : ℕ → ℕ) (count n : ℕ) (known : Known) (v : ℕ)
    → n < length known.bounds
    → v ≡ held (parts_bound each fill (bounds fs each fill n) n (slice_index_or fs n no_part))
    → Knows fs each fill count n known
    → Knows fs each fill count (n + 1) (record known { bounds = slice_set known.bounds n v })
learned fs each fill count n known v room is h = record {
  fills = h.fills;
  bounds = written (bounds fs each fill (n + 1)) known.bounds n v room
      (is ∙ ap held (sym (bounds_now fs each fill n n ∙ bounds_own fs each fill n n refl)))
      (λ k less. h.bounds k less
      ∙ ap held (sym (bounds_now fs each fill n k ∙ bounds_other fs each fill n k (λ e. omega (arith, e, less)))));
}

-- ---- nodes of the functions that are left

pub functions_next : (functions : List (List Part)) (n : ℕ) (f : List Part) (s a all : ℕ) → n < length functions → f
    ≡ get_or functions n f
    → s ≡ a + (1 + parts_nodes (parts_of f)) → a + functions_nodes (functions_of (drop n functions)) ≤ all
    → s + functions_nodes (functions_of (drop (n + 1) functions)) ≤ all
functions_next functions n f s a all within is e h =
    let front = ap (λ xs. functions_nodes (functions_of xs)) (drop_item functions n f within is) in
    omega (arith, e, h, front)

-- ---- the whole shape

pub entry_bound : (shape : Shape) (functions : List (List Part)) (each : ℕ) (known : Known) (r : ℕ) → functions
    ≡ shape.functions → is_formed (plain_shape shape) ≡ true
    → Knows (functions_of functions) each (fill_bound each (functions_of functions)) (length functions)
    (length functions) known
    → r ≡ held (slice_index known.fills shape.entry + slice_index known.bounds shape.entry) → r
    ≡ held (shape_bound each (plain_shape shape))
entry_bound shape functions each known r same formed knows e =
    let fs = functions_of shape.functions in
    let here = subst (λ xs. Knows (functions_of xs) each (fill_bound each (functions_of xs)) (length xs)
    (length xs) known) same knows in
    let count = functions_count shape.functions in
    let within : shape.entry < length shape.functions =
    omega (arith, count, (shape_parts (plain_shape shape) formed).entry) in
    held_sum r (slice_index known.fills shape.entry) (slice_index known.bounds shape.entry)
    (fill_bound each fs shape.entry) (bounds fs each (fill_bound each fs) (length shape.functions) shape.entry)
    e (here.fills shape.entry within) (here.bounds shape.entry within)
    ∙ ap (λ n. held (fill_bound each fs shape.entry + bounds fs each (fill_bound each fs) n shape.entry)) (sym count)

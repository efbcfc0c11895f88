-- The places to which calls return are words.
use Rattle.std.proofs.Common.{ℕ, zero, suc, ◌+◌, ◌<◌, ◌^◌, ◌==◌, true, false, if◌then◌else◌, List, length, slice_index_or, subst, arith}
use Rattle.std.specs.List.{AllByRecursion as Each}
use Rattle.shared_order.proofs.Lists.{each-append, each_at}
use Rattle.patmos_model.specs.Range.{IsWord, HasCode}
use Rattle.sp_shape.specs.Parts.{straight, repeats, calls_to, leaves, PlainPart, PlainParts, no_part, part, PlainShape}
use Rattle.sp_shape.specs.Run.{Back}
use Rattle.sp_shape.specs.Trail.{copies}
use Rattle.sp_shape.specs.Words.{part_words, parts_words}
use Rattle.tc_link.proofs.Started.{started}
use Rattle.tc_link.specs.Backs.{part_backs, parts_backs, backs, backs_of}
use Rattle.tc_link.specs.Fits.{FitsImage}
use Rattle.tc_link.specs.Placed.{start_of, linked}
use Rattle.code_core.specs.Words.{BackFits}

copies_fit : (n : ℕ) (xs : List Back) → Each BackFits xs → Each BackFits (copies n xs)
copies_fit zero xs h = tt
copies_fit (suc n) xs h = each-append BackFits xs (copies n xs) h (copies_fit n xs h)

mutual
  part_fits : (f : ℕ → List Back) (base at : ℕ) → ((k : ℕ) → Each BackFits (f k)) → IsWord base → (p : PlainPart)
      → at + part_words p < 2 ^ 32 → Each BackFits (part_backs f base at p)
  part_fits f base at each word (straight bs) small = tt
  part_fits f base at each word (repeats count body tail) small =
      copies_fit count (parts_backs f base at body) (parts_fit f base at each word body (omega (arith, small)))
  part_fits f base at each word (calls_to k tail) small = (record { base = word; offset = small }, each k)
  part_fits f base at each word (leaves tail) small = tt

  parts_fit : (f : ℕ → List Back) (base at : ℕ) → ((k : ℕ) → Each BackFits (f k)) → IsWord base → (ps : PlainParts)
      → at + parts_words ps < 2 ^ 32 → Each BackFits (parts_backs f base at ps)
  parts_fit f base at each word no_part small = tt
  parts_fit f base at each word (part p rest) small =
      each-append BackFits (part_backs f base at p) (parts_backs f base (at + part_words p) rest)
      (part_fits f base at each word p (omega (arith, small)))
      (parts_fit f base (at + part_words p) each word rest (omega (arith, small)))

functions_fit : (start : ℕ → ℕ) (fs : List PlainParts) (n : ℕ) → ((k : ℕ) → k < n → IsWord (start k)
    × (parts_words (slice_index_or fs k no_part) < 2 ^ 32)) → (k : ℕ) → Each BackFits (backs start fs n k)
functions_fit start fs zero small k = tt
functions_fit start fs (suc n) small k =
    let before = functions_fit start fs n (λ j less. small j (omega (arith, less))) in
    elim (k == n) as (λ b. Each BackFits (if b then parts_backs (backs start fs n) (start n) 0
    (slice_index_or fs n no_part) else backs start fs n k)) [
      | true ↦ parts_fit (backs start fs n) (start n) 0 before (small n (omega arith)).0 (slice_index_or fs n no_part)
          (omega (arith, (small n (omega arith)).1))
      | false ↦ before k
    ]

start_word : (s : PlainShape) → HasCode (linked s) → (k : ℕ) → k < length s.functions → IsWord (start_of s k)
start_word s code k within =
    let c = started s k within in
    subst IsWord c.2 (each_at IsWord (linked s).starts c.0 (start_of s k) code.starts c.1)

pub backs_fit : (s : PlainShape) → HasCode (linked s) → FitsImage s → Each BackFits (backs_of s)
backs_fit s code fits = functions_fit (start_of s) s.functions (length s.functions)
    (λ k less. (start_word s code k less, omega (arith, fits.small k less))) s.entry

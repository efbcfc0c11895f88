-- What comes of a trail that is read at once comes of the spaced one that is read late.
use Rattle.std.proofs.Common.{◌≡◌, ℕ, zero, suc, ◌==◌, true, false, if◌then◌else◌, List, [], ◌∷◌, ◌++◌, length, map, slice_index_or, refl, sym, ap, ◌∙◌, subst}
use Rattle.std.proofs.lemmas.List.{length-map}
use Rattle.patmos_instr.specs.Bundles.{PlainBundle}
use Rattle.sp_shape.specs.Parts.{PlainPart, straight, repeats, calls_to, leaves, PlainParts, no_part, part, PlainShape}
use Rattle.sp_shape.proofs.Whole.{begun_whole, run_whole, run_append, late_append}
use Rattle.sp_shape.specs.Run.{Run, IsWhole, Sources, begun, run_late, run}
use Rattle.sp_shape.specs.Trail.{Step, begins, all_done, copies, part_trail, parts_trail, trails, trail}
use Rattle.bundle_sched.specs.Placed.{spaced, part_placed, parts_placed, placed}
use Rattle.bundle_sched.proofs.Waiting.{in_time}

-- ---- trails of which one read late leaves what the other leaves read at once, with nothing pending

pub record Same (from : Sources) (xs ys : List Step) : Type 0 where
  pub runs : (m : Run) → IsWhole m → run_late from xs m ≡ run from ys m
  pub whole : (m : Run) → IsWhole m → IsWhole (run from ys m)

pub same_nothing : (from : Sources) → Same from [] []
same_nothing from = record { runs = λ m whole. refl; whole = λ m whole. whole }

pub same_then : {from : Sources} {xs ys us vs : List Step} → Same from xs us → Same from ys vs
    → Same from (xs ++ ys) (us ++ vs)
same_then {from} {xs} {ys} {us} {vs} a b = record {
  runs = λ m whole. late_append from xs ys m ∙ ap (run_late from ys) (a.runs m whole)
      ∙ b.runs (run from us m) (a.whole m whole) ∙ sym (run_append from us vs m);
  whole = λ m whole. subst IsWhole (sym (run_append from us vs m)) (b.whole (run from us m) (a.whole m whole));
}

pub same_begun : {from : Sources} {xs ys : List Step} → Same from xs ys → Same from (begins ∷ xs) (begins ∷ ys)
same_begun a = record {
  runs = λ m whole. a.runs (begun m) (begun_whole m whole);
  whole = λ m whole. a.whole (begun m)
      (begun_whole m whole);
}

pub same_bundles : (from : Sources) (bs : List PlainBundle) → Same from (all_done (spaced bs)) (all_done bs)
same_bundles from bs = record { runs = in_time from bs; whole = run_whole from (all_done bs) }

same_copies : {from : Sources} {xs ys : List Step} → Same from xs ys → (n : ℕ) → Same from (copies n xs) (copies n ys)
same_copies {from} a zero = same_nothing from
same_copies a (suc n) = same_then a (same_copies a n)

-- ---- parts, over trails of functions that are the same

mutual
  pub same_part : {from : Sources} (f g : ℕ → List Step) → ((k : ℕ) → Same from (g k) (f k)) → (p : PlainPart)
      → Same from (part_trail g (part_placed p)) (part_trail f p)
  same_part {from} f g each (straight bs) = same_bundles from bs
  same_part {from} f g each (repeats count body tail) =
      same_copies (same_then (same_parts f g each body) (same_bundles from tail)) count
  same_part {from} f g each (calls_to k tail) = same_then (same_bundles from tail) (same_begun (each k))
  same_part {from} f g each (leaves tail) = same_bundles from tail

  pub same_parts : {from : Sources} (f g : ℕ → List Step) → ((k : ℕ) → Same from (g k) (f k)) → (ps : PlainParts)
      → Same from (parts_trail g (parts_placed ps)) (parts_trail f ps)
  same_parts {from} f g each no_part = same_nothing from
  same_parts f g each (part p rest) = same_then (same_part f g each p) (same_parts f g each rest)

-- ---- functions and shapes

pub placed_at : (fs : List PlainParts) (n : ℕ) → slice_index_or (map parts_placed fs) n no_part
    ≡ parts_placed (slice_index_or fs n no_part)
placed_at [] n = refl
placed_at (ps ∷ fs) zero = refl
placed_at (ps ∷ fs) (suc n) = placed_at fs n

pub same_functions : (from : Sources) (fs : List PlainParts) (n k : ℕ) → Same from (trails (map parts_placed fs) n k)
    (trails fs n k)
same_functions from fs zero k = same_nothing from
same_functions from fs (suc n) k =
    let earlier = λ (j : ℕ). same_functions from fs n j in
    let own = same_parts (trails fs n) (trails (map parts_placed fs) n) earlier (slice_index_or fs n no_part) in
    elim (k == n) as (λ b. Same from
    (if b then parts_trail (trails (map parts_placed fs) n) (slice_index_or (map parts_placed fs) n no_part) else trails
    (map parts_placed fs) n k)
    (if b then parts_trail (trails fs n) (slice_index_or fs n no_part) else trails fs n k)) [
      | true ↦ subst (λ ps. Same from (parts_trail (trails (map parts_placed fs) n) ps)
          (parts_trail (trails fs n) (slice_index_or fs n no_part))) (sym (placed_at fs n)) own
      | false ↦ earlier k
    ]

pub spaced_runs : (s t : PlainShape) → t ≡ placed s → (from : Sources) (m : Run) → IsWhole m → run_late from (trail t) m
    ≡ run from (trail s) m
spaced_runs s t told from m whole =
    ap (λ x. run_late from (trail x) m) told ∙ ap (λ n. run_late from (trails (map parts_placed s.functions) n s.entry)
    m) (length-map s.functions parts_placed)
    ∙ (same_functions from s.functions (length s.functions) s.entry).runs m whole

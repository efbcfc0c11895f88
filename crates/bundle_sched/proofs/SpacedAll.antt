-- What else spaced code has of the code: its delay slots do nothing, what may have a transaction with main memory is
-- always done, and it has as many words as there was room for.
use Rattle.std.proofs.Common.{◌≡◌, ◌+◌, Bool, true, false, if◌then◌else◌, List, [], ◌∷◌, ◌++◌, refl, arith, ap, ◌≤◌}
use Rattle.std.specs.Prelude.{not, ◌&&◌}
use Rattle.std.specs.List.{list_all}
use Rattle.std.proofs.lemmas.Bool.{and_parts, and_from}
use Rattle.patmos_instr.specs.Bundles.{PlainBundle}
use Rattle.sp_shape.specs.Bundles.{part_all, parts_all}
use Rattle.sp_shape.specs.Parts.{straight, repeats, calls_to, leaves, PlainPart, PlainParts, no_part, part}
use Rattle.sp_shape.specs.Small.{idle}
use Rattle.sp_shape.specs.Words.{is_late, bundle_words, bundles_words, part_words, parts_words, bundle_room, bundles_room, part_room, parts_room}
use Rattle.bundle_sched.specs.Placed.{ignores_both, is_awaited, spaced, part_placed, parts_placed}

-- ---- what holds of a bundle that does nothing, and of each bundle, holds of each spaced one

all_spaced : (holds : PlainBundle → Bool) → holds idle ≡ true → (bs : List PlainBundle) → list_all holds bs ≡ true
    → list_all holds (spaced bs) ≡ true
all_spaced holds nothing [] h = refl
all_spaced holds nothing (b ∷ bs) h =
    let both = and_parts (holds b) (list_all holds bs) h in
    let others = all_spaced holds nothing bs both.1 in
    elim (is_awaited b bs) as (λ late. list_all holds ((if late then b ∷ idle ∷ [] else b ∷ []) ++ spaced bs) ≡ true) [
      | true ↦ and_from (holds b) (holds idle && list_all holds (spaced bs)) both.0
          (and_from (holds idle) (list_all holds (spaced bs)) nothing others)
      | false ↦ and_from (holds b) (list_all holds (spaced bs)) both.0 others
    ]

mutual
  part_all_placed : (holds : PlainBundle → Bool) → holds idle ≡ true → (p : PlainPart) → part_all holds p ≡ true
      → part_all holds (part_placed p) ≡ true
  part_all_placed holds nothing (straight bs) h = all_spaced holds nothing bs h
  part_all_placed holds nothing (repeats count body tail) h =
      let both = and_parts (parts_all holds body) (list_all holds tail) h in
      and_from (parts_all holds (parts_placed body)) (list_all holds (spaced tail))
      (parts_all_placed holds nothing body both.0) (all_spaced holds nothing tail both.1)
  part_all_placed holds nothing (calls_to k tail) h = all_spaced holds nothing tail h
  part_all_placed holds nothing (leaves tail) h = all_spaced holds nothing tail h

  pub parts_all_placed : (holds : PlainBundle → Bool) → holds idle ≡ true → (ps : PlainParts)
      → parts_all holds ps ≡ true
      → parts_all holds (parts_placed ps) ≡ true
  parts_all_placed holds nothing no_part h = refl
  parts_all_placed holds nothing (part p rest) h =
      let both = and_parts (part_all holds p) (parts_all holds rest) h in
      and_from (part_all holds (part_placed p)) (parts_all holds (parts_placed rest))
      (part_all_placed holds nothing p both.0) (parts_all_placed holds nothing rest both.1)

-- ---- what holds of each spaced bundle holds of each bundle before

one_spaced_all : (holds : PlainBundle → Bool) (late : Bool) (b : PlainBundle) (spaced_rest rest : List PlainBundle)
    → (list_all holds spaced_rest ≡ true → list_all holds rest ≡ true)
    → list_all holds ((if late then b ∷ idle ∷ [] else b ∷ []) ++ spaced_rest) ≡ true → list_all holds (b ∷ rest) ≡ true
one_spaced_all holds true b spaced_rest rest others h =
    let x = and_parts (holds b) (holds idle && list_all holds spaced_rest) h in
    and_from (holds b) (list_all holds rest) x.0 (others (and_parts (holds idle) (list_all holds spaced_rest) x.1).1)
one_spaced_all holds false b spaced_rest rest others h =
    let x = and_parts (holds b) (list_all holds spaced_rest) h in
    and_from (holds b) (list_all holds rest) x.0 (others x.1)

spaced_all : (holds : PlainBundle → Bool) → (bs : List PlainBundle) → list_all holds (spaced bs) ≡ true
    → list_all holds bs ≡ true
spaced_all holds [] h = refl
spaced_all holds (b ∷ bs) h = one_spaced_all holds (is_awaited b bs) b (spaced bs) bs (λ x. spaced_all holds bs x) h

mutual
  part_placed_all : (holds : PlainBundle → Bool) → (p : PlainPart) → part_all holds (part_placed p) ≡ true
      → part_all holds p ≡ true
  part_placed_all holds (straight bs) h = spaced_all holds bs h
  part_placed_all holds (repeats count body tail) h =
      let both = and_parts (parts_all holds (parts_placed body)) (list_all holds (spaced tail)) h in
      and_from (parts_all holds body) (list_all holds tail) (parts_placed_all holds body both.0)
      (spaced_all holds tail both.1)
  part_placed_all holds (calls_to k tail) h = spaced_all holds tail h
  part_placed_all holds (leaves tail) h = spaced_all holds tail h

  pub parts_placed_all : (holds : PlainBundle → Bool) → (ps : PlainParts) → parts_all holds (parts_placed ps) ≡ true
      → parts_all holds ps ≡ true
  parts_placed_all holds no_part h = refl
  parts_placed_all holds (part p rest) h =
      let both = and_parts (part_all holds (part_placed p)) (parts_all holds (parts_placed rest)) h in
      and_from (part_all holds p) (parts_all holds rest) (part_placed_all holds p both.0)
      (parts_placed_all holds rest both.1)

-- ---- words

-- what is awaited comes late
pub awaited_late : (b : PlainBundle) (bs : List PlainBundle) → is_awaited b bs ≡ true → is_late b.first.op ≡ true
awaited_late b [] h = h
awaited_late b (c ∷ cs) h = (and_parts (is_late b.first.op) (not (ignores_both b.first.op c)) h).0

late_room : (b : PlainBundle) → is_late b.first.op ≡ true → bundle_room b ≡ bundle_words b + 1
late_room b late = ap (λ l. bundle_words b + (if l then 1 else 0)) late

spaced_words : (bs : List PlainBundle) → bundles_words (spaced bs) ≤ bundles_room bs
spaced_words [] = omega arith
spaced_words (b ∷ bs) =
    let others = spaced_words bs in
    elim (is_awaited b bs) as (λ awaited. is_awaited b bs ≡ awaited
    → bundles_words ((if awaited then b ∷ idle ∷ [] else b ∷ []) ++ spaced bs) ≤ bundles_room (b ∷ bs)) [
      | true ↦ λ is. omega (arith, others, late_room b (awaited_late b bs is))
      | false ↦ λ is. omega (arith, others)
    ] refl

mutual
  part_placed_words : (p : PlainPart) → part_words (part_placed p) ≤ part_room p
  part_placed_words (straight bs) = spaced_words bs
  part_placed_words (repeats count body tail) = omega (arith, parts_placed_words body, spaced_words tail)
  part_placed_words (calls_to k tail) = spaced_words tail
  part_placed_words (leaves tail) = spaced_words tail

  pub parts_placed_words : (ps : PlainParts) → parts_words (parts_placed ps) ≤ parts_room ps
  parts_placed_words no_part = omega arith
  parts_placed_words (part p rest) = omega (arith, part_placed_words p, parts_placed_words rest)

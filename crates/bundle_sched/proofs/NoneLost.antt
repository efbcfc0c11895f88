-- No bundle is lost: what holds of each bundle of packed code holds of each before.
use Rattle.std.proofs.Common.{◌≡◌, ℕ, zero, suc, Bool, true, false, true≢false, if◌then◌else◌, Some, List, [], ◌∷◌, ◌++◌, refl, sym, ◌∙◌, ap}
use Rattle.std.specs.Prelude.{◌&&◌}
use Rattle.std.specs.List.{list_all}
use Rattle.std.proofs.lemmas.Bool.{and_parts, and_from}
use Rattle.std.proofs.lemmas.List.Folds.{list_all-append}
use Rattle.patmos_instr.specs.Bundles.{PlainBundle}
use Rattle.patmos_instr.specs.declared.instructions.Instr.{Instr}
use Rattle.sp_shape.specs.Bundles.{is_idle, part_all, parts_all}
use Rattle.sp_shape.specs.Parts.{straight, repeats, calls_to, leaves, PlainParts, no_part, part, joined}
use Rattle.bundle_sched.specs.Ordered.{without_nop}
use Rattle.bundle_sched.specs.Packed.{can_join, pair, lone, last_or}
use Rattle.bundle_sched.specs.Packing.{packed, can_move, lets_pass, has_room, filled, but_last, goes_down, kept_by_one, way_by_one, kept_after, way_after, freed, kept, way, before_branch, from_branch, arranged, iteration_packed, straights, left_over, parts_merged, function_merged}
use Rattle.bundle_sched.specs.declared.slots.TheConstants.{MOST_SLOTS}
use Rattle.bundle_sched.proofs.Alike.{tail_split}
use Rattle.bundle_sched.proofs.Freed.{without_nop_as, nop_idle, freed_as}
use Rattle.bundle_sched.proofs.EachStep.{AtEachStep, packed_steps, arranged_steps}

-- it holds of what does nothing, of two bundles where it holds of the one that they become, and of a bundle where it
-- holds of each of its instructions alone
module _ (holds : PlainBundle → Bool) (dropped : (b : PlainBundle) → is_idle b ≡ true → holds b ≡ true)
    (apart : (b : PlainBundle) (i : Instr) → b.second ≡ Some i → holds (lone b.first) ≡ true → holds (lone i) ≡ true
    → holds b ≡ true)
    (split : (a b : PlainBundle) → can_join a b ≡ true → holds (pair a b) ≡ true → (holds a ≡ true)
    × (holds b ≡ true)) where
  had_steps : AtEachStep (λ xs ys. list_all holds ys ≡ true → list_all holds xs ≡ true)
  had_steps = record {
    same = λ bs h. h;
    through = λ xs ys zs f g h. f (g h);
    behind = λ b xs ys f h. let both =
        and_parts (holds b) (list_all holds ys) h in and_from (holds b) (list_all holds xs) both.0 (f both.1);
    left_out = λ b bs is h. and_from (holds b) (list_all holds bs) (dropped b is) h;
    emptied = λ b bs h.
        let one = and_parts (holds (without_nop b)) (list_all holds bs) h in
        and_from (holds b) (list_all holds bs) (without_nop_as (λ c b. holds c ≡ true → holds b ≡ true) (λ b hb. hb)
        (λ b i is nop hb. apart b i is hb (dropped (lone i) (nop_idle i nop))) b one.0) one.1;
    joined = λ a b bs busy can h.
        let both = and_parts (holds (pair a b)) (list_all holds bs) h in
        let had = split a b can both.0 in
        and_from (holds a) (holds b && list_all holds bs) had.0 (and_from (holds b) (list_all holds bs) had.1 both.1);
    swapped = λ b x bs by h.
        let one = and_parts (holds x) (holds b && list_all holds bs) h in
        let two = and_parts (holds b) (list_all holds bs) one.1 in
        and_from (holds b) (holds x && list_all holds bs) two.0 (and_from (holds x) (list_all holds bs) one.0 two.1);
  }

  packed_had : (bs : List PlainBundle) → list_all holds (packed bs) ≡ true → list_all holds bs ≡ true
  packed_had bs = packed_steps (λ xs ys. list_all holds ys ≡ true → list_all holds xs ≡ true) had_steps bs

  arranged_had : (held front back : List PlainBundle) → list_all holds (packed (arranged held front back)) ≡ true
      → list_all holds (held ++ front) ≡ true
  arranged_had held front back =
      arranged_steps (λ xs ys. list_all holds ys ≡ true → list_all holds xs ≡ true) had_steps held front back

  front_had : (b : PlainBundle) (bs : List PlainBundle) → list_all holds (but_last b bs) ≡ true
      → holds (last_or b bs) ≡ true
      → list_all holds (b ∷ bs) ≡ true
  front_had b [] h last = and_from (holds b) true last refl
  front_had b (c ∷ cs) h last =
      let both = and_parts (holds b) (list_all holds (but_last c cs)) h in
      and_from (holds b) (list_all holds (c ∷ cs)) both.0 (front_had c cs both.1 last)

  freed_had : (tail : List PlainBundle) → list_all holds (freed tail) ≡ true → list_all holds tail ≡ true
  freed_had =
      freed_as (λ xs tail. list_all holds xs ≡ true → list_all holds tail ≡ true) (λ tail h. h)
      (λ flow slot slots i out h.
      let one = and_parts (holds (lone flow.first)) (holds (lone i) && list_all holds (but_last slot slots)) h in
      let two = and_parts (holds (lone i)) (list_all holds (but_last slot slots)) one.1 in
      and_from (holds flow) (list_all holds (slot ∷ slots)) (apart flow i out.beside one.0 two.0)
      (front_had slot slots two.1 (dropped (last_or slot slots) out.idles)))

  filled_had : (b : PlainBundle) (tail : List PlainBundle) → has_room b tail ≡ true → list_all holds (filled b tail)
      ≡ true
      → (holds b ≡ true) × (list_all holds tail ≡ true)
  filled_had b [] room h = absurd (true≢false (sym room))
  filled_had b (t ∷ []) room h = absurd (true≢false (sym room))
  filled_had b (t ∷ slot ∷ slots) room h =
      let idles = (and_parts (lets_pass t b) (is_idle (last_or slot slots)) room).1 in
      let one = and_parts (holds t) (holds b && list_all holds (but_last slot slots)) h in
      let two = and_parts (holds b) (list_all holds (but_last slot slots)) one.1 in (
        two.0,
        and_from (holds t) (list_all holds (slot ∷ slots)) one.0
            (front_had slot slots two.1 (dropped (last_or slot slots) idles)),
      )

  one_had : (bs tail : List PlainBundle) → list_all holds (kept_by_one bs tail) ≡ true
      → list_all holds (way_by_one bs tail)
      ≡ true → (list_all holds bs ≡ true) × (list_all holds tail ≡ true)
  one_had [] tail hk hw = (refl, hw)
  one_had (b ∷ bs) tail hk hw =
      elim (goes_down (b ∷ bs) tail) as (λ down. goes_down (b ∷ bs) tail ≡ down
      → list_all holds (if down then but_last b bs else b ∷ bs) ≡ true
      → list_all holds (if down then filled (last_or b bs) tail else tail) ≡ true → (list_all holds (b ∷ bs) ≡ true)
      × (list_all holds tail ≡ true)) [
        | true ↦ λ is hk hw.
            let had = filled_had (last_or b bs) tail (and_parts (can_move (last_or b bs))
            (has_room (last_or b bs) tail) is).1 hw in
            (front_had b bs hk had.0, had.1)
        | false ↦ λ is hk hw. (hk, hw)
      ] refl hk hw

  way_had : (n : ℕ) (bs tail : List PlainBundle) → list_all holds (kept_after n bs tail) ≡ true
      → list_all holds (way_after n bs tail) ≡ true → (list_all holds bs ≡ true) × (list_all holds tail ≡ true)
  way_had zero bs tail hk hw = (hk, hw)
  way_had (suc n) bs tail hk hw =
      let had = way_had n (kept_by_one bs tail) (way_by_one bs tail) hk hw in one_had bs tail had.0 had.1

  slots_had : (bs tail : List PlainBundle) → list_all holds (kept bs tail) ≡ true → list_all holds (way bs tail) ≡ true
      → (list_all holds bs ≡ true) × (list_all holds tail ≡ true)
  slots_had bs tail hk hw = let had = way_had MOST_SLOTS bs (freed tail) hk hw in (had.0, freed_had tail had.1)

  iteration_had : (before tail : List PlainBundle) → list_all holds (iteration_packed before tail) ≡ true
      → (list_all holds before ≡ true) × (list_all holds tail ≡ true)
  iteration_had before tail h =
      let front = before_branch tail in
      let back = from_branch tail in
      let p = packed (arranged before front back) in
      let both = and_parts (list_all holds (kept p back)) (list_all holds (way p back))
      (sym (list_all-append holds (kept p back) (way p back)) ∙ h) in
      let had = slots_had p back both.0 both.1 in
      let own = and_parts (list_all holds before) (list_all holds front) (sym (list_all-append holds before front)
      ∙ arranged_had before front back had.0) in (
        own.0,
        ap (list_all holds) (sym (tail_split tail)) ∙ list_all-append holds front back
            ∙ and_from (list_all holds front) (list_all holds back) own.1 had.1,
      )

  straights_had : (bs : List PlainBundle) (rest : PlainParts) → parts_all holds (straights bs rest) ≡ true
      → (list_all holds bs ≡ true) × (parts_all holds rest ≡ true)
  straights_had [] rest h = (refl, h)
  straights_had (b ∷ bs) rest h = and_parts (list_all holds (b ∷ bs)) (parts_all holds rest) h

  merged_had : (held : List PlainBundle) (ps : PlainParts) → parts_all holds (parts_merged held ps) ≡ true
      → list_all holds (left_over held ps) ≡ true → (list_all holds held ≡ true) × (parts_all holds ps ≡ true)
  merged_had held no_part h end = (end, refl)
  merged_had held (part (straight bs) rest) h end =
      let both = merged_had (held ++ bs) rest h end in
      let own = and_parts (list_all holds held) (list_all holds bs) (sym (list_all-append holds held bs) ∙ both.0) in
      (own.0, and_from (list_all holds bs) (parts_all holds rest) own.1 both.1)
  merged_had held (part (repeats count body tail) rest) h end =
      let left = left_over [] body in
      let both = straights_had (packed held) (part (repeats count (parts_merged [] body) (iteration_packed left tail))
      (parts_merged [] rest)) h in
      let one = and_parts (parts_all holds (parts_merged [] body) && list_all holds (iteration_packed left tail))
      (parts_all holds (parts_merged [] rest)) both.1 in
      let two = and_parts (parts_all holds (parts_merged [] body)) (list_all holds (iteration_packed left tail))
      one.0 in
      let iteration = iteration_had left tail two.1 in (
        packed_had held both.0,
        and_from (parts_all holds body && list_all holds tail) (parts_all holds rest)
            (and_from (parts_all holds body) (list_all holds tail) (merged_had [] body two.0 iteration.0).1 iteration.1)
            (merged_had [] rest one.1 end).1,
      )
  merged_had held (part (calls_to k tail) rest) h end =
      let p = packed held in
      let both = straights_had (kept p tail) (part (calls_to k (way p tail)) (parts_merged [] rest)) h in
      let one = and_parts (list_all holds (way p tail)) (parts_all holds (parts_merged [] rest)) both.1 in
      let had = slots_had p tail both.0 one.0 in (
        packed_had held had.0,
        and_from (list_all holds tail) (parts_all holds rest) had.1
            (merged_had [] rest one.1 end).1,
      )
  merged_had held (part (leaves tail) rest) h end =
      let p = packed held in
      let both = straights_had (kept p tail) (part (leaves (way p tail)) (parts_merged [] rest)) h in
      let one = and_parts (list_all holds (way p tail)) (parts_all holds (parts_merged [] rest)) both.1 in
      let had = slots_had p tail both.0 one.0 in (
        packed_had held had.0,
        and_from (list_all holds tail) (parts_all holds rest) had.1
            (merged_had [] rest one.1 end).1,
      )

  pub function_had : (ps : PlainParts) → parts_all holds (function_merged ps) ≡ true → parts_all holds ps ≡ true
  function_had ps h =
      let left = left_over [] ps in
      let both = joined_had (parts_merged [] ps) (straights (packed left) no_part) h in
      (merged_had [] ps both.0 (packed_had left (straights_had (packed left) no_part both.1).0)).1
    where
      joined_had : (xs ys : PlainParts) → parts_all holds (joined xs ys) ≡ true → (parts_all holds xs ≡ true)
          × (parts_all holds ys ≡ true)
      joined_had no_part ys h = (refl, h)
      joined_had (part p xs) ys h =
          let one = and_parts (part_all holds p) (parts_all holds (joined xs ys)) h in
          let others = joined_had xs ys one.1 in
          (and_from (part_all holds p) (parts_all holds xs) one.0 others.0, others.1)

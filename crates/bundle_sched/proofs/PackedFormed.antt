-- Packed code is well formed where the code was, and no value of a delay slot comes late.
use Rattle.std.proofs.Common.{◌≡◌, ℕ, zero, suc, ◌==◌, Bool, true, false, true≢false, if◌then◌else◌, List, [], ◌∷◌, ◌++◌, length, map, slice_index_or, refl, sym, ap, ◌∙◌}
use Rattle.std.specs.Prelude.{nat_lt, nat_le, ◌&&◌, not, is_none}
use Rattle.std.specs.List.{list_all}
use Rattle.std.proofs.lemmas.Bool.{and_parts, and_from, not-true}
use Rattle.std.proofs.lemmas.List.{length-map}
use Rattle.patmos_instr.specs.Bundles.{PlainBundle}
use Rattle.patmos_instr.specs.declared.instructions.Op.{Op}
use Rattle.sp_shape.specs.Bundles.{is_idle_op, is_idle, iteration_idles, way_idles, parts_idle}
use Rattle.sp_shape.specs.Formed.{is_branch, is_call, is_return, is_fill, is_flow, is_always, are_calm, are_delay_slots, is_iteration, is_way, part_formed, parts_formed, function_formed, functions_formed, is_formed}
use Rattle.sp_shape.specs.Parts.{straight, repeats, calls_to, leaves, PlainPart, PlainParts, no_part, part, PlainShape}
use Rattle.sp_shape.specs.Words.{is_late}
use Rattle.sp_tree.specs.declared.limits.TheConstants.{MOST_FUNCTIONS}
use Rattle.sp_shape.proofs.Functions.{function_then}
use Rattle.sp_shape.proofs.Lists.{calm_append}
use Rattle.bundle_sched.specs.Packed.{lone, last_or, holds_special}
use Rattle.bundle_sched.specs.Packing.{packed, can_move, has_room, filled, but_last, goes_down, kept_by_one, way_by_one, kept_after, way_after, freed, kept, way, before_branch, from_branch, arranged, iteration_packed, straights, left_over, parts_merged, function_merged, merged}
use Rattle.bundle_sched.specs.declared.slots.TheConstants.{MOST_SLOTS}
use Rattle.bundle_sched.proofs.Merged.{all_packed, all_arranged, all_but_last, all_kept}
use Rattle.bundle_sched.proofs.Alike.{merged_at}
use Rattle.bundle_sched.proofs.Freed.{freed_holds}
use Rattle.bundle_sched.proofs.Shaped.{parts_shaped, parts_are_shaped, left_calm, function_same}
use Rattle.bundle_sched.proofs.SpacedFormed.{is_prompt, iteration_prompt, way_prompt, parts_prompt, idle_early, iteration_front}

-- ---- delay slots that do nothing are prompt

idles_prompt : (bs : List PlainBundle) → list_all is_idle bs ≡ true → list_all is_prompt bs ≡ true
idles_prompt [] h = refl
idles_prompt (b ∷ bs) h =
    let both = and_parts (is_idle b) (list_all is_idle bs) h in
    let nothing = and_parts (is_idle_op b.first.op) (is_none b.second) (and_parts (is_always b.first.guard)
    (is_idle_op b.first.op && is_none b.second) both.0).1 in
    and_from (is_prompt b) (list_all is_prompt bs) (ap not (idle_early b.first.op nothing.0)) (idles_prompt bs both.1)

-- ---- packed code

-- it asks for no flow
abbrev is_calm : PlainBundle → Bool
is_calm b = not (is_flow b.first.op)

each_calm : (bs : List PlainBundle) → are_calm bs ≡ list_all is_calm bs
each_calm [] = refl
each_calm (b ∷ bs) = ap (λ others. is_calm b && others) (each_calm bs)

pub calm_packed : (bs : List PlainBundle) → are_calm bs ≡ true → are_calm (packed bs) ≡ true
calm_packed bs h =
    each_calm (packed bs) ∙ all_packed is_calm (λ b h. h) (λ a b busy can ha hb. ha) bs (sym (each_calm bs) ∙ h)

calm_arranged : (held front back : List PlainBundle) → are_calm held ≡ true → are_calm front ≡ true
    → are_calm (packed (arranged held front back)) ≡ true
calm_arranged held front back hh hf =
    each_calm (packed (arranged held front back)) ∙ all_arranged is_calm (λ b h. h) (λ a b busy can ha hb.
    ha) held front back (sym (each_calm held) ∙ hh) (sym (each_calm front) ∙ hf)

calm_front : (b : PlainBundle) (bs : List PlainBundle) → are_calm (b ∷ bs) ≡ true → are_calm (but_last b bs) ≡ true
calm_front b [] h = refl
calm_front b (c ∷ cs) h =
    let both = and_parts (not (is_flow b.first.op)) (are_calm (c ∷ cs)) h in
    and_from (not (is_flow b.first.op)) (are_calm (but_last c cs)) both.0 (calm_front c cs both.1)

calm_once : (bs tail : List PlainBundle) → are_calm bs ≡ true → are_calm (kept_by_one bs tail) ≡ true
calm_once [] tail h = refl
calm_once (b ∷ bs) tail h =
    elim (goes_down (b ∷ bs) tail) as (λ down. are_calm (if down then but_last b bs else b ∷ bs) ≡ true)
    [ true ↦ calm_front b bs h | false ↦ h ]

pub calm_kept : (n : ℕ) (bs tail : List PlainBundle) → are_calm bs ≡ true → are_calm (kept_after n bs tail) ≡ true
calm_kept zero bs tail h = h
calm_kept (suc n) bs tail h = calm_kept n (kept_by_one bs tail) (way_by_one bs tail) (calm_once bs tail h)

-- a bundle that can move is calm and prompt
move_parts : (b : PlainBundle) → can_move b ≡ true → (not (is_late b.first.op) ≡ true)
    × (not (is_flow b.first.op) ≡ true)
move_parts b h =
    let both = and_parts (not (is_late b.first.op)) (not (is_flow b.first.op) && not (holds_special b)) h in
    (both.0, (and_parts (not (is_flow b.first.op)) (not (holds_special b)) both.1).0)

-- as many delay slots, and calm, with another for the last
slots_filled : (n : ℕ) (b slot : PlainBundle) (slots : List PlainBundle) → can_move b ≡ true
    → are_delay_slots n (slot ∷ slots)
    ≡ true → are_delay_slots n (b ∷ but_last slot slots) ≡ true
slots_filled n b slot slots can h =
    let both = and_parts (length (slot ∷ slots) == n) (are_calm (slot ∷ slots)) h in
    and_from (length (b ∷ but_last slot slots) == n) (are_calm (b ∷ but_last slot slots))
    (ap (λ k. suc k == n) (length_front slot slots) ∙ both.0)
    (and_from (not (is_flow b.first.op)) (are_calm (but_last slot slots)) (move_parts b can).1
    (calm_front slot slots both.1))
  where
    length_front : (slot : PlainBundle) (slots : List PlainBundle) → length (but_last slot slots) ≡ length slots
    length_front slot [] = refl
    length_front slot (c ∷ cs) = ap suc (length_front c cs)

filled_way : (is_it : Op → Bool) (b : PlainBundle) (tail : List PlainBundle) → can_move b ≡ true
    → is_way is_it tail ≡ true
    → is_way is_it (filled b tail) ≡ true
filled_way is_it b [] can h = h
filled_way is_it b (t ∷ []) can h = h
filled_way is_it b (t ∷ slot ∷ slots) can h =
    let one = and_parts (is_it t.first.op) (is_always t.first.guard && are_delay_slots 3 (slot ∷ slots)) h in
    let two = and_parts (is_always t.first.guard) (are_delay_slots 3 (slot ∷ slots)) one.1 in
    and_from (is_it t.first.op) (is_always t.first.guard && are_delay_slots 3 (b ∷ but_last slot slots)) one.0
    (and_from (is_always t.first.guard) (are_delay_slots 3 (b ∷ but_last slot slots)) two.0
    (slots_filled 3 b slot slots can two.1))

-- what holds of a tail after each bundle that goes into it
module _ (holds : List PlainBundle → Bool) (fills : (b : PlainBundle) (tail : List PlainBundle) → can_move b ≡ true
    → holds tail ≡ true
    → holds (filled b tail) ≡ true) where
  one_holds : (bs tail : List PlainBundle) → holds tail ≡ true → holds (way_by_one bs tail) ≡ true
  one_holds [] tail h = h
  one_holds (b ∷ bs) tail h =
      elim (goes_down (b ∷ bs) tail) as (λ down. goes_down (b ∷ bs) tail ≡ down
      → holds (if down then filled (last_or b bs) tail else tail) ≡ true) [
        | true ↦ λ is. fills (last_or b bs) tail (and_parts (can_move (last_or b bs))
            (has_room (last_or b bs) tail) is).0 h
        | false ↦ λ is. h
      ] refl

  way_holds : (n : ℕ) (bs tail : List PlainBundle) → holds tail ≡ true → holds (way_after n bs tail) ≡ true
  way_holds zero bs tail h = h
  way_holds (suc n) bs tail h = way_holds n (kept_by_one bs tail) (way_by_one bs tail) (one_holds bs tail h)

-- what holds of a tail, by the first instructions of its bundles, holds of it with bundles in all its delay slots
slots_hold : (holds : List PlainBundle → Bool) → ((b : PlainBundle) (tail : List PlainBundle) → can_move b ≡ true
    → holds tail ≡ true
    → holds (filled b tail) ≡ true)
    → ((flow : PlainBundle) (slots : List PlainBundle) → holds (flow ∷ slots) ≡ true → holds (lone flow.first ∷ slots)
    ≡ true)
    → (bs tail : List PlainBundle) → holds tail ≡ true → holds (way bs tail) ≡ true
slots_hold holds fills alone bs tail h =
    way_holds holds fills MOST_SLOTS bs (freed tail) (freed_holds holds fills alone tail h)

pub way_formed : (is_it : Op → Bool) (bs tail : List PlainBundle) → is_way is_it tail ≡ true
    → is_way is_it (way bs tail)
    ≡ true
way_formed is_it = slots_hold (is_way is_it) (filled_way is_it) (λ flow slots h. h)

filled_prompt : (b : PlainBundle) (tail : List PlainBundle) → can_move b ≡ true → way_prompt tail ≡ true
    → way_prompt (filled b tail) ≡ true
filled_prompt b [] can h = refl
filled_prompt b (t ∷ []) can h = refl
filled_prompt b (t ∷ slot ∷ slots) can h = and_from (is_prompt b) (list_all is_prompt (but_last slot slots))
    (move_parts b can).0 (all_but_last is_prompt slot slots h).0

idle_way : (tail : List PlainBundle) → way_idles tail ≡ true → way_prompt tail ≡ true
idle_way [] h = refl
idle_way (t ∷ slots) h = idles_prompt slots h

pub prompt_way : (bs tail : List PlainBundle) → way_idles tail ≡ true → way_prompt (way bs tail) ≡ true
prompt_way bs tail h = slots_hold way_prompt filled_prompt (λ flow slots h. h) bs tail (idle_way tail h)

-- ---- tails of loops

-- no branch
abbrev is_plain : PlainBundle → Bool
is_plain b = not (is_branch b.first.op)

-- a branch is the first, where there is any bundle
abbrev at_branch : List PlainBundle → Bool
at_branch [] = true
at_branch (b ∷ bs) = is_branch b.first.op

before_plain : (tail : List PlainBundle) → list_all is_plain (before_branch tail) ≡ true
before_plain [] = refl
before_plain (b ∷ bs) =
    elim (is_branch b.first.op) as (λ back. is_branch b.first.op ≡ back → list_all is_plain (if back then [] else b
    ∷ before_branch bs) ≡ true) [
      | true ↦ λ is. refl
      | false ↦ λ is. and_from (is_plain b) (list_all is_plain (before_branch bs)) (ap not is) (before_plain bs)
    ] refl

from_at : (tail : List PlainBundle) → at_branch (from_branch tail) ≡ true
from_at [] = refl
from_at (b ∷ bs) =
    elim (is_branch b.first.op) as (λ back. is_branch b.first.op ≡ back
    → at_branch (if back then b ∷ bs else from_branch bs) ≡ true) [
      | true ↦ λ is. is
      | false ↦ λ is.
          from_at bs
    ] refl

from_idles : (tail : List PlainBundle) → iteration_idles tail ≡ true → iteration_idles (from_branch tail) ≡ true
from_idles [] h = refl
from_idles (b ∷ bs) h =
    elim (is_branch b.first.op) as (λ back. is_branch b.first.op ≡ back
    → (if back then list_all is_idle bs else iteration_idles bs) ≡ true
    → iteration_idles (if back then b ∷ bs else from_branch bs) ≡ true) [
      | true ↦ λ is idles. ap (λ back. if back then list_all is_idle bs else iteration_idles bs) is ∙ idles
      | false ↦ λ is idles. from_idles bs idles
    ] refl h

plain_then : (xs ys : List PlainBundle) → list_all is_plain xs ≡ true → iteration_prompt ys ≡ true
    → iteration_prompt (xs ++ ys) ≡ true
plain_then [] ys plain h = h
plain_then (x ∷ xs) ys plain h =
    let both = and_parts (is_plain x) (list_all is_plain xs) plain in
    ap (λ back. if back then list_all is_prompt (xs ++ ys) else iteration_prompt (xs ++ ys)) (not-true
    (is_branch x.first.op) both.0) ∙ plain_then xs ys both.1 h

idle_iteration : (tail : List PlainBundle) → iteration_idles tail ≡ true → iteration_prompt tail ≡ true
idle_iteration [] h = refl
idle_iteration (b ∷ bs) h =
    elim (is_branch b.first.op) as (λ back. (if back then list_all is_idle bs else iteration_idles bs) ≡ true
    → (if back then list_all is_prompt bs else iteration_prompt bs) ≡ true) [
      | true ↦ λ idles. idles_prompt bs idles
      | false ↦ λ idles. idle_iteration bs idles
    ] h

-- the branch first, and then slots of which something holds
abbrev at_prompt : List PlainBundle → Bool
at_prompt tail = at_branch tail && iteration_prompt tail

abbrev at_iteration : List PlainBundle → Bool
at_iteration tail = at_branch tail && is_iteration tail

filled_prompt_iteration : (b : PlainBundle) (tail : List PlainBundle) → can_move b ≡ true → at_prompt tail ≡ true
    → at_prompt (filled b tail) ≡ true
filled_prompt_iteration b [] can h = h
filled_prompt_iteration b (t ∷ []) can h = h
filled_prompt_iteration b (t ∷ slot ∷ slots) can h =
    let both = and_parts (is_branch t.first.op) (iteration_prompt (t ∷ slot ∷ slots)) h in
    let own = ap (λ back. if back then list_all is_prompt (slot ∷ slots) else iteration_prompt (slot ∷ slots))
    (sym both.0) ∙ both.1 in
    and_from (is_branch t.first.op) (iteration_prompt (t ∷ b ∷ but_last slot slots)) both.0
    (ap (λ back. if back then list_all is_prompt (b ∷ but_last slot slots) else iteration_prompt
    (b ∷ but_last slot slots)) both.0
    ∙ and_from (is_prompt b) (list_all is_prompt (but_last slot slots)) (move_parts b can).0 (all_but_last is_prompt
    slot slots own).0)

way_prompt_iteration : (bs tail : List PlainBundle) → at_branch tail ≡ true → iteration_idles tail ≡ true
    → iteration_prompt (way bs tail) ≡ true
way_prompt_iteration bs tail at h =
    (and_parts (at_branch (way bs tail)) (iteration_prompt (way bs tail)) (slots_hold at_prompt filled_prompt_iteration
    (λ flow slots h. h) bs tail (and_from (at_branch tail) (iteration_prompt tail) at (idle_iteration tail h)))).1

calm_branch : (op : Op) → is_flow op ≡ false → is_branch op ≡ false
calm_branch op h =
    elim (is_branch op) as (λ back. (if back then true else (if is_call op then true else
    (if is_return op then true else is_fill op))) ≡ false → back ≡ false) [ true ↦ λ x. x | false ↦ λ x. refl ] h

calm_plain : (bs : List PlainBundle) → are_calm bs ≡ true → list_all is_plain bs ≡ true
calm_plain [] h = refl
calm_plain (b ∷ bs) h =
    let both = and_parts (not (is_flow b.first.op)) (are_calm bs) h in
    and_from (is_plain b) (list_all is_plain bs)
    (ap not (calm_branch b.first.op (not-true (is_flow b.first.op) both.0))) (calm_plain bs both.1)

prompt_iteration : (before tail : List PlainBundle) → are_calm before ≡ true → iteration_idles tail ≡ true
    → iteration_prompt (iteration_packed before tail) ≡ true
prompt_iteration before tail calm h =
    let back = from_branch tail in
    let p = packed (arranged before (before_branch tail) back) in
    plain_then (kept p back) (way p back)
    (all_kept is_plain MOST_SLOTS p (freed back) (all_arranged is_plain (λ b h. h) (λ a b busy can ha hb. ha) before
    (before_branch tail) back (calm_plain before calm) (before_plain tail)))
    (way_prompt_iteration p back (from_at tail) (from_idles tail h))

calm_before : (tail : List PlainBundle) → is_iteration tail ≡ true → are_calm (before_branch tail) ≡ true
calm_before [] h = refl
calm_before (b ∷ bs) h =
    elim (is_branch b.first.op) as (λ back. (if back then are_delay_slots 2 bs else
    (not (is_flow b.first.op) && is_iteration bs)) ≡ true → are_calm (if back then [] else b ∷ before_branch bs)
    ≡ true) [
      | true ↦ λ iteration. refl
      | false ↦ λ iteration.
          let both = and_parts (not (is_flow b.first.op)) (is_iteration bs) iteration in
          and_from (not (is_flow b.first.op)) (are_calm (before_branch bs)) both.0 (calm_before bs both.1)
    ] h

from_iteration : (tail : List PlainBundle) → is_iteration tail ≡ true → is_iteration (from_branch tail) ≡ true
from_iteration [] h = h
from_iteration (b ∷ bs) h =
    elim (is_branch b.first.op) as (λ back. is_branch b.first.op ≡ back
    → (if back then are_delay_slots 2 bs else (not (is_flow b.first.op) && is_iteration bs)) ≡ true
    → is_iteration (if back then b ∷ bs else from_branch bs) ≡ true) [
      | true ↦ λ is iteration. ap (λ back. if back then are_delay_slots 2 bs else
          (not (is_flow b.first.op) && is_iteration bs)) is ∙ iteration
      | false ↦ λ is iteration. from_iteration bs (and_parts (not (is_flow b.first.op)) (is_iteration bs) iteration).1
    ] refl h

calm_iteration : (xs ys : List PlainBundle) → are_calm xs ≡ true → is_iteration ys ≡ true
    → is_iteration (xs ++ ys) ≡ true
calm_iteration [] ys calm h = h
calm_iteration (x ∷ xs) ys calm h =
    let both = and_parts (not (is_flow x.first.op)) (are_calm xs) calm in
    iteration_front x (xs ++ ys) (calm_branch x.first.op (not-true (is_flow x.first.op) both.0)) both.0
    (calm_iteration xs ys both.1 h)

filled_iteration : (b : PlainBundle) (tail : List PlainBundle) → can_move b ≡ true → at_iteration tail ≡ true
    → at_iteration (filled b tail) ≡ true
filled_iteration b [] can h = h
filled_iteration b (t ∷ []) can h = h
filled_iteration b (t ∷ slot ∷ slots) can h =
    let both = and_parts (is_branch t.first.op) (is_iteration (t ∷ slot ∷ slots)) h in
    let own = ap (λ back. if back then are_delay_slots 2 (slot ∷ slots) else
    (not (is_flow t.first.op) && is_iteration (slot ∷ slots))) (sym both.0) ∙ both.1 in
    and_from (is_branch t.first.op) (is_iteration (t ∷ b ∷ but_last slot slots)) both.0
    (ap (λ back. if back then are_delay_slots 2 (b ∷ but_last slot slots) else
    (not (is_flow t.first.op) && is_iteration (b ∷ but_last slot slots))) both.0
    ∙ slots_filled 2 b slot slots can own)

way_iteration : (bs tail : List PlainBundle) → at_branch tail ≡ true → is_iteration tail ≡ true
    → is_iteration (way bs tail)
    ≡ true
way_iteration bs tail at h =
    (and_parts (at_branch (way bs tail)) (is_iteration (way bs tail)) (slots_hold at_iteration filled_iteration
    (λ flow slots h. h) bs tail (and_from (at_branch tail) (is_iteration tail) at h))).1

iteration_formed : (before tail : List PlainBundle) → are_calm before ≡ true → is_iteration tail ≡ true
    → is_iteration (iteration_packed before tail) ≡ true
iteration_formed before tail calm h =
    let back = from_branch tail in
    let p = packed (arranged before (before_branch tail) back) in
    calm_iteration (kept p back) (way p back) (calm_kept MOST_SLOTS p (freed back)
    (calm_arranged before (before_branch tail) back calm (calm_before tail h))) (way_iteration p back (from_at tail)
    (from_iteration tail h))

-- ---- parts

prompt_straights : (bs : List PlainBundle) (rest : PlainParts) → parts_prompt rest ≡ true
    → parts_prompt (straights bs rest)
    ≡ true
prompt_straights [] rest h = h
prompt_straights (b ∷ bs) rest h = h

pub merged_prompt : (held : List PlainBundle) (ps : PlainParts) → parts_shaped ps ≡ true → parts_idle ps ≡ true
    → parts_prompt (parts_merged held ps) ≡ true
merged_prompt held no_part shaped h = refl
merged_prompt held (part (straight bs) rest) shaped h =
    merged_prompt (held ++ bs) rest (and_parts (are_calm bs) (parts_shaped rest) shaped).1 h
merged_prompt held (part (repeats count body tail) rest) shaped h =
    let s = and_parts (parts_shaped body && is_iteration tail) (parts_shaped rest) shaped in
    let body_shaped = (and_parts (parts_shaped body) (is_iteration tail) s.0).0 in
    let both = and_parts (parts_idle body && iteration_idles tail) (parts_idle rest) h in
    let own = and_parts (parts_idle body) (iteration_idles tail) both.0 in
    let left = left_over [] body in
    prompt_straights (packed held) (part (repeats count (parts_merged [] body) (iteration_packed left tail))
    (parts_merged [] rest))
    (and_from (parts_prompt (parts_merged [] body) && iteration_prompt (iteration_packed left tail))
    (parts_prompt (parts_merged [] rest))
    (and_from (parts_prompt (parts_merged [] body)) (iteration_prompt (iteration_packed left tail))
    (merged_prompt [] body body_shaped own.0) (prompt_iteration left tail (left_calm [] body refl body_shaped)
    own.1)) (merged_prompt [] rest s.1 both.1))
merged_prompt held (part (calls_to k tail) rest) shaped h =
    let s = and_parts (is_way is_call tail) (parts_shaped rest) shaped in
    let both = and_parts (way_idles tail) (parts_idle rest) h in
    prompt_straights (kept (packed held) tail) (part (calls_to k (way (packed held) tail)) (parts_merged [] rest))
    (and_from (way_prompt (way (packed held) tail)) (parts_prompt (parts_merged [] rest))
    (prompt_way (packed held) tail both.0) (merged_prompt [] rest s.1 both.1))
merged_prompt held (part (leaves tail) rest) shaped h =
    let s = and_parts (is_way is_return tail) (parts_shaped rest) shaped in
    let both = and_parts (way_idles tail) (parts_idle rest) h in
    prompt_straights (kept (packed held) tail) (part (leaves (way (packed held) tail)) (parts_merged [] rest))
    (and_from (way_prompt (way (packed held) tail)) (parts_prompt (parts_merged [] rest))
    (prompt_way (packed held) tail both.0) (merged_prompt [] rest s.1 both.1))

formed_straights : (n : ℕ) (bs : List PlainBundle) (rest : PlainParts) → are_calm bs ≡ true → parts_formed n rest ≡ true
    → parts_formed n (straights bs rest) ≡ true
formed_straights n [] rest hb h = h
formed_straights n (b ∷ bs) rest hb h = and_from (are_calm (b ∷ bs)) (parts_formed n rest) hb h

pub merged_formed : (n : ℕ) (held : List PlainBundle) (ps : PlainParts) → are_calm held ≡ true
    → parts_formed n ps ≡ true
    → parts_formed n (parts_merged held ps) ≡ true
merged_formed n held no_part hh h = refl
merged_formed n held (part (straight bs) rest) hh h =
    let both = and_parts (are_calm bs) (parts_formed n rest) h in
    merged_formed n (held ++ bs) rest (calm_append held bs hh both.0) both.1
merged_formed n held (part (repeats count body tail) rest) hh h =
    let both = and_parts (part_formed n (repeats count body tail)) (parts_formed n rest) h in
    let some = and_parts (nat_lt 0 count) (parts_formed n body && is_iteration tail) both.0 in
    let own = and_parts (parts_formed n body) (is_iteration tail) some.1 in
    formed_straights n (packed held)
    (part (repeats count (parts_merged [] body) (iteration_packed (left_over [] body) tail)) (parts_merged [] rest))
    (calm_packed held hh)
    (and_from (part_formed n (repeats count (parts_merged [] body) (iteration_packed (left_over [] body) tail)))
    (parts_formed n (parts_merged [] rest))
    (and_from (nat_lt 0 count) (parts_formed n (parts_merged [] body) && is_iteration (iteration_packed
    (left_over [] body) tail)) some.0 (and_from (parts_formed n (parts_merged [] body))
    (is_iteration (iteration_packed (left_over [] body) tail)) (merged_formed n [] body refl own.0)
    (iteration_formed (left_over [] body) tail (left_calm [] body refl (parts_are_shaped n body own.0))
    own.1)))
    (merged_formed n [] rest refl both.1))
merged_formed n held (part (calls_to k tail) rest) hh h =
    let both = and_parts (nat_lt k n && is_way is_call tail) (parts_formed n rest) h in
    let own = and_parts (nat_lt k n) (is_way is_call tail) both.0 in
    formed_straights n (kept (packed held) tail) (part (calls_to k (way (packed held) tail)) (parts_merged [] rest))
    (calm_kept MOST_SLOTS (packed held) (freed tail) (calm_packed held hh))
    (and_from (nat_lt k n && is_way is_call (way (packed held) tail)) (parts_formed n (parts_merged [] rest))
    (and_from (nat_lt k n) (is_way is_call (way (packed held) tail)) own.0
    (way_formed is_call (packed held) tail own.1)) (merged_formed n [] rest refl both.1))
merged_formed n held (part (leaves tail) rest) hh h = absurd (true≢false (sym h))

-- ---- functions: after straight code the function goes on

function_straights : (n : ℕ) (bs : List PlainBundle) (p : PlainPart) (rest : PlainParts) → are_calm bs ≡ true
    → function_formed n (part p rest) ≡ true → function_formed n (straights bs (part p rest)) ≡ true
function_straights n [] p rest hb h = h
function_straights n (b ∷ bs) p rest hb h = and_from (are_calm (b ∷ bs)) (function_formed n (part p rest)) hb h

pub merged_function : (n : ℕ) (held : List PlainBundle) (ps : PlainParts) → are_calm held ≡ true
    → function_formed n ps ≡ true
    → function_formed n (parts_merged held ps) ≡ true
merged_function n held no_part hh h = absurd (true≢false (sym h))
merged_function n held (part (straight bs) rest) hh h =
    let both = and_parts (are_calm bs) (function_formed n rest) h in
    merged_function n (held ++ bs) rest (calm_append held bs hh both.0) both.1
merged_function n held (part (repeats count body tail) rest) hh h =
    let both = and_parts (part_formed n (repeats count body tail)) (function_formed n rest) h in
    let some = and_parts (nat_lt 0 count) (parts_formed n body && is_iteration tail) both.0 in
    let own = and_parts (parts_formed n body) (is_iteration tail) some.1 in
    function_straights n (packed held) (repeats count (parts_merged [] body)
    (iteration_packed (left_over [] body) tail)) (parts_merged [] rest) (calm_packed held hh)
    (function_then n (repeats count (parts_merged [] body) (iteration_packed (left_over [] body) tail))
    (parts_merged [] rest)
    (and_from (nat_lt 0 count) (parts_formed n (parts_merged [] body) && is_iteration (iteration_packed
    (left_over [] body) tail)) some.0 (and_from (parts_formed n (parts_merged [] body))
    (is_iteration (iteration_packed (left_over [] body) tail)) (merged_formed n [] body refl own.0)
    (iteration_formed (left_over [] body) tail (left_calm [] body refl (parts_are_shaped n body own.0))
    own.1)))
    (merged_function n [] rest refl both.1))
merged_function n held (part (calls_to k tail) rest) hh h =
    let both = and_parts (nat_lt k n && is_way is_call tail) (function_formed n rest) h in
    let own = and_parts (nat_lt k n) (is_way is_call tail) both.0 in
    function_straights n (kept (packed held) tail) (calls_to k (way (packed held) tail)) (parts_merged [] rest)
    (calm_kept MOST_SLOTS (packed held) (freed tail) (calm_packed held hh))
    (function_then n (calls_to k (way (packed held) tail)) (parts_merged [] rest)
    (and_from (nat_lt k n) (is_way is_call (way (packed held) tail)) own.0
    (way_formed is_call (packed held) tail own.1)) (merged_function n [] rest refl both.1))
merged_function n held (part (leaves tail) no_part) hh h =
    function_straights n (kept (packed held) tail) (leaves (way (packed held) tail)) no_part
    (calm_kept MOST_SLOTS (packed held) (freed tail) (calm_packed held hh))
    (way_formed is_return (packed held) tail h)
merged_function n held (part (leaves tail) (part p rest)) hh h = absurd (true≢false (sym h))

merged_functions : (fs : List PlainParts) (n : ℕ) → functions_formed fs n ≡ true
    → functions_formed (map function_merged fs) n ≡ true
merged_functions fs zero h = refl
merged_functions fs (suc n) h =
    let f = slice_index_or fs n no_part in
    let both = and_parts (functions_formed fs n) (function_formed n f) h in
    and_from (functions_formed (map function_merged fs) n)
    (function_formed n (slice_index_or (map function_merged fs) n no_part)) (merged_functions fs n both.0)
    (ap (function_formed n) (merged_at fs n ∙ function_same n f both.1) ∙ merged_function n [] f refl both.1)

pub merged_is_formed : (s : PlainShape) → is_formed s ≡ true → is_formed (merged s) ≡ true
merged_is_formed s h =
    let fs = map function_merged s.functions in
    let count = length s.functions in
    let few = and_parts (nat_le count MOST_FUNCTIONS) (functions_formed s.functions count && nat_lt s.entry count) h in
    let both = and_parts (functions_formed s.functions count) (nat_lt s.entry count) few.1 in
    ap (λ n. nat_le n MOST_FUNCTIONS && (functions_formed fs n && nat_lt s.entry n))
    (length-map s.functions function_merged)
    ∙ and_from (nat_le count MOST_FUNCTIONS) (functions_formed fs count && nat_lt s.entry count) few.0
    (and_from (functions_formed fs count) (nat_lt s.entry count) (merged_functions s.functions count both.0) both.1)

-- Packed code that is spaced is packed.
use Rattle.patmos_instr.specs.declared.instructions.Op.TheVariants.{Call, Return}
use Rattle.std.proofs.Common.{◌≡◌, ℕ, zero, suc, Bool, true, false, not, true≢false, if◌then◌else◌, Option, Some, None, List, [], ◌∷◌, ◌++◌, refl, sym, ap, ◌∙◌, subst}
use Rattle.std.specs.Prelude.{◌&&◌, ◌||◌, is_none}
use Rattle.std.specs.List.{list_all}
use Rattle.std.proofs.lemmas.Bool.{and_parts, and_from, not-true}
use Rattle.std.proofs.Math.Bool.{and-true}
use Rattle.patmos_instr.specs.Bundles.{PlainBundle, is_legal}
use Rattle.patmos_instr.specs.Instructions.{is_long, is_second_kind}
use Rattle.sp_shape.specs.Bundles.{is_idle_op, is_idle, way_idles, iteration_idles, parts_idle}
use Rattle.sp_shape.specs.Formed.{is_branch, is_call, is_return, is_fill, is_flow, is_always, are_calm, are_delay_slots, is_iteration, is_way}
use Rattle.sp_shape.specs.Parts.{PlainPart, straight, repeats, calls_to, leaves, PlainParts, no_part, part}
use Rattle.sp_shape.specs.Small.{idle}
use Rattle.sp_shape.specs.Words.{is_late}
use Rattle.patmos_instr.specs.declared.instructions.Instr.{Instr}
use Rattle.patmos_instr.specs.declared.instructions.Op.{Op}
use Rattle.sp_shape.proofs.Lists.{calm_append, all_append, all_weaker}
use Rattle.bundle_sched.proofs.AfterFlow.{flow_early}
use Rattle.bundle_sched.proofs.PackedFormed.{calm_packed}
use Rattle.bundle_sched.proofs.SpacedAll.{awaited_late}
use Rattle.bundle_sched.proofs.SpacedFormed.{none_awaited}
use Rattle.bundle_sched.specs.Placed.{is_awaited, spaced, parts_placed}
use Rattle.bundle_sched.specs.Ordered.{without_nop, put, ordered_after, ordered}
use Rattle.bundle_sched.specs.Packed.{is_small, can_join, can_pair, mergeable, none_mergeable, first_apart, pair, is_nop, is_filled, holds_special, last_or, slot_used, is_used, can_follow, some_bundle, part_packed, parts_packed, lone}
use Rattle.bundle_sched.specs.Legal.{has_legal_flow, parts_legal}
use Rattle.bundle_sched.specs.Packing.{paired, in_pairs, packed, can_move, spares_guard, lets_pass, has_room, filled, but_last, goes_down, kept_by_one, way_by_one, kept_after, way_after, can_leave, freed, kept, way, before_branch, from_branch, arranged, iteration_packed, straights, left_over, parts_merged}
use Rattle.bundle_sched.specs.declared.slots.TheConstants.{MOST_SLOTS}
use Rattle.bundle_sched.proofs.EachStep.{cleaned, pairs_cleaned, put_steps}
use Rattle.bundle_sched.proofs.Shaped.{parts_shaped}
use Rattle.bundle_sched.proofs.TwoInOne.{pairs, second_false, pair_idle}
use Rattle.bundle_sched.proofs.Merged.{all_steps, all_but_last, all_kept, all_way}

-- a bundle of one instruction
abbrev pub is_alone : PlainBundle → Bool
is_alone b = is_none b.second

-- ---- no neighbours that can be one

abbrev pairless : List PlainBundle → Bool
pairless (a ∷ b ∷ bs) = not (can_pair a b) && pairless (b ∷ bs)
pairless _ = true

pair_full : (z a b : PlainBundle) → can_pair z (pair a b) ≡ false
pair_full z a b = second_false (not (is_late z.first.op)) (is_small z && false) (second_false (is_small z) false refl)

after_paired : (z a : PlainBundle) (bs : List PlainBundle) → can_pair z a ≡ false → pairless (z ∷ paired a bs) ≡ true
after_paired z a [] apart = and_from (not (can_pair z a)) true (ap not apart) refl
after_paired z a (b ∷ bs) apart =
    elim (is_idle b) as (λ idles. pairless (z ∷ (if idles then paired a bs else
    (if can_pair a b then paired (pair a b) bs else a ∷ paired b bs))) ≡ true) [
      | true ↦ after_paired z a bs apart
      | false ↦ elim (can_pair a b) as (λ can. can_pair a b ≡ can
          → pairless (z ∷ (if can then paired (pair a b) bs else a ∷ paired b bs)) ≡ true) [
            | true ↦ λ is. after_paired z (pair a b) bs (pair_full z a b)
            | false ↦ λ is. and_from (not (can_pair z a)) (pairless (a ∷ paired b bs)) (ap not apart)
                (after_paired a b bs is)
          ] refl
    ]

paired_pairless : (a : PlainBundle) (bs : List PlainBundle) → pairless (paired a bs) ≡ true
paired_pairless a [] = refl
paired_pairless a (b ∷ bs) =
    elim (is_idle b) as (λ idles. pairless (if idles then paired a bs else
    (if can_pair a b then paired (pair a b) bs else a ∷ paired b bs)) ≡ true) [
      | true ↦ paired_pairless a bs
      | false ↦ elim (can_pair a b) as (λ can. can_pair a b ≡ can → pairless (if can then paired (pair a b) bs else a
          ∷ paired b bs) ≡ true) [
            | true ↦ λ is. paired_pairless (pair a b) bs
            | false ↦ λ is. after_paired a b bs is
          ] refl
    ]

pairs_pairless : (bs : List PlainBundle) → pairless (in_pairs bs) ≡ true
pairs_pairless [] = refl
pairs_pairless (b ∷ bs) = elim (is_idle b) as (λ idles. pairless (if idles then in_pairs bs else paired b bs) ≡ true)
    [ true ↦ pairs_pairless bs | false ↦ paired_pairless b bs ]

packed_pairless : (bs : List PlainBundle) → pairless (packed bs) ≡ true
packed_pairless bs = pairs_pairless (ordered bs)

front_pairless : (b : PlainBundle) (bs : List PlainBundle) → pairless (b ∷ bs) ≡ true → pairless (but_last b bs) ≡ true
front_pairless b [] h = refl
front_pairless b (c ∷ []) h = refl
front_pairless b (c ∷ d ∷ ds) h =
    let both = and_parts (not (can_pair b c)) (pairless (c ∷ d ∷ ds)) h in
    and_from (not (can_pair b c)) (pairless (but_last c (d ∷ ds))) both.0 (front_pairless c (d ∷ ds) both.1)

one_pairless : (bs tail : List PlainBundle) → pairless bs ≡ true → pairless (kept_by_one bs tail) ≡ true
one_pairless [] tail h = refl
one_pairless (b ∷ bs) tail h = elim (goes_down (b ∷ bs) tail) as (λ down. pairless (if down then but_last b bs else b
    ∷ bs) ≡ true) [ true ↦ front_pairless b bs h | false ↦ h ]

kept_pairless : (n : ℕ) (bs tail : List PlainBundle) → pairless bs ≡ true → pairless (kept_after n bs tail) ≡ true
kept_pairless zero bs tail h = h
kept_pairless (suc n) bs tail h = kept_pairless n (kept_by_one bs tail) (way_by_one bs tail) (one_pairless bs tail h)

-- ---- spaced, no three are mergeable

merge_from : (x a b : PlainBundle) (bs : List PlainBundle) → mergeable x a b ≡ false → none_mergeable (a ∷ b ∷ bs)
    ≡ true
    → none_mergeable (x ∷ a ∷ b ∷ bs) ≡ true
merge_from x a b bs apart h = and_from (not (mergeable x a b)) (none_mergeable (a ∷ b ∷ bs)) (ap not apart) h

after_late : (x : PlainBundle) → is_late x.first.op ≡ true → (a b : PlainBundle) → mergeable x a b ≡ false
after_late x late a b = ap (λ l. not l && can_pair a b) late

late_alone : (x a b : PlainBundle) → is_late a.first.op ≡ true → mergeable x a b ≡ false
late_alone x a b late = second_false (not (is_late x.first.op)) (can_pair a b) (ap (λ l. not l && can_join a b) late)

-- three of which the first or the second is late, or the two after cannot be one
before_any : (x a : PlainBundle) (ys : List PlainBundle) → ((b : PlainBundle) → mergeable x a b ≡ false)
    → none_mergeable (a ∷ ys) ≡ true
    → none_mergeable (x ∷ a ∷ ys) ≡ true
before_any x a [] apart h = refl
before_any x a (b ∷ ys) apart h = merge_from x a b ys (apart b) h

before_head : (x a c : PlainBundle) (awaited : Bool) (ys : List PlainBundle) → mergeable x a c ≡ false
    → none_mergeable (a ∷ ((if awaited then c ∷ idle ∷ [] else c ∷ []) ++ ys)) ≡ true
    → none_mergeable (x ∷ a ∷ ((if awaited then c ∷ idle ∷ [] else c ∷ []) ++ ys)) ≡ true
before_head x a c true ys apart h = merge_from x a c (idle ∷ ys) apart h
before_head x a c false ys apart h = merge_from x a c ys apart h

spaced_after : (x : PlainBundle) (bs : List PlainBundle) → pairless bs ≡ true → none_mergeable (x ∷ spaced bs) ≡ true
spaced_after x [] h = refl
spaced_after x (b ∷ []) h =
    elim (is_late b.first.op) as (λ late. is_late b.first.op ≡ late
    → none_mergeable (x ∷ ((if late then b ∷ idle ∷ [] else b ∷ []) ++ [])) ≡ true) [
      | true ↦ λ is. before_any x b (idle ∷ []) (λ c. late_alone x b c is) refl
      | false ↦ λ is. refl
    ] refl
spaced_after x (b ∷ c ∷ cs) h =
    let both = and_parts (not (can_pair b c)) (pairless (c ∷ cs)) h in
    elim (is_awaited b (c ∷ cs)) as (λ awaited. is_awaited b (c ∷ cs) ≡ awaited
    → none_mergeable (x ∷ ((if awaited then b ∷ idle ∷ [] else b ∷ []) ++ spaced (c ∷ cs))) ≡ true) [
      | true ↦ λ is.
          let late = awaited_late b (c ∷ cs) is in
          before_any x b (idle ∷ spaced (c ∷ cs)) (λ d. late_alone x b d late) (before_any b idle (spaced (c ∷ cs))
          (λ d. after_late b late idle d) (spaced_after idle (c ∷ cs) both.1))
      | false ↦ λ is. before_head x b c (is_awaited c cs) (spaced cs) (second_false (not (is_late x.first.op))
          (can_pair b c) (not-true (can_pair b c) both.0)) (spaced_after b (c ∷ cs) both.1)
    ] refl

spaced_none : (bs : List PlainBundle) → pairless bs ≡ true → none_mergeable (spaced bs) ≡ true
spaced_none [] h = refl
spaced_none (b ∷ bs) h =
    elim (is_awaited b bs) as (λ awaited. is_awaited b bs ≡ awaited
    → none_mergeable ((if awaited then b ∷ idle ∷ [] else b ∷ []) ++ spaced bs) ≡ true) [
      | true ↦ λ is. before_any b idle (spaced bs) (λ d. after_late b (awaited_late b bs is) idle d)
          (spaced_after idle bs (rest_pairless b bs h))
      | false ↦ λ is. spaced_after b bs (rest_pairless b bs h)
    ] refl
  where
    rest_pairless : (b : PlainBundle) (bs : List PlainBundle) → pairless (b ∷ bs) ≡ true → pairless bs ≡ true
    rest_pairless b [] h = refl
    rest_pairless b (c ∷ cs) h = (and_parts (not (can_pair b c)) (pairless (c ∷ cs)) h).1

-- nor the first two
first_spaced : (bs : List PlainBundle) → pairless bs ≡ true → first_apart (spaced bs) ≡ true
first_spaced [] h = refl
first_spaced (b ∷ bs) h =
    elim (is_awaited b bs) as (λ awaited. is_awaited b bs ≡ awaited
    → first_apart ((if awaited then b ∷ idle ∷ [] else b ∷ []) ++ spaced bs) ≡ true) [
      | true ↦ λ is. ap (λ late. not (not late && can_join b idle)) (awaited_late b bs is)
      | false ↦ λ is. so bs h
    ] refl
  where
    so : (bs : List PlainBundle) → pairless (b ∷ bs) ≡ true → first_apart (b ∷ spaced bs) ≡ true
    so [] h = refl
    so (c ∷ cs) h =
        let first = (and_parts (not (can_pair b c)) (pairless (c ∷ cs)) h).0 in
        elim (is_awaited c cs) as (λ awaited. first_apart (b ∷ ((if awaited then c ∷ idle ∷ [] else c ∷ [])
        ++ spaced cs)) ≡ true) [ true ↦ first | false ↦ first ]

-- ---- no bundle of packed code does nothing, alone or in its second slot

abbrev is_busy : PlainBundle → Bool
is_busy b = not (is_idle b)

alone_filled : (b : PlainBundle) → is_alone b ≡ true → is_filled b ≡ true
alone_filled b h = so b.second h
  where
    so : (o : Option Instr) → is_none o ≡ true → (elim o as (λ _. Bool) [ None ↦ true | Some i ↦ not (is_nop i) ])
        ≡ true
    so None h = refl
    so (Some i) h = absurd (true≢false (sym h))

busy_nop : (b : PlainBundle) → is_alone b ≡ true → is_idle b ≡ false → is_nop b.first ≡ false
busy_nop b alone busy =
    elim (is_always b.first.guard) as (λ always. (always && (is_idle_op b.first.op && is_none b.second)) ≡ false
    → (always && is_idle_op b.first.op) ≡ false) [
      | true ↦ λ h. sym (ap (λ n. is_idle_op b.first.op && n) alone ∙ and-true (is_idle_op b.first.op)) ∙ h
      | false ↦ λ h. refl
    ] busy

-- filled, and it does something
abbrev is_good : PlainBundle → Bool
is_good b = is_filled b && is_busy b

pair_busy : (a b : PlainBundle) → is_busy (pair a b) ≡ true
pair_busy a b = ap not (pair_idle a b)

-- the second of a pair does something
pair_filled : (a b : PlainBundle) → is_idle b ≡ false → can_join a b ≡ true → is_filled (pair a b) ≡ true
pair_filled a b busy can = ap not (busy_nop b (pairs a b can).second_alone busy)

good_paired : (a : PlainBundle) (bs : List PlainBundle) → is_good a ≡ true → list_all is_filled bs ≡ true
    → list_all is_good (paired a bs) ≡ true
good_paired a [] ha h = and_from (is_good a) true ha refl
good_paired a (b ∷ bs) ha h =
    let both = and_parts (is_filled b) (list_all is_filled bs) h in
    elim (is_idle b) as (λ idles. is_idle b ≡ idles → list_all is_good (if idles then paired a bs else
    (if can_pair a b then paired (pair a b) bs else a ∷ paired b bs)) ≡ true) [
      | true ↦ λ is. good_paired a bs ha both.1
      | false ↦ λ is. elim (can_pair a b) as (λ can. can_pair a b ≡ can
          → list_all is_good (if can then paired (pair a b) bs else a ∷ paired b bs) ≡ true) [
            | true ↦ λ can. good_paired (pair a b) bs (and_from (is_filled (pair a b)) (is_busy (pair a b))
                (pair_filled a b is (and_parts (not (is_late a.first.op)) (can_join a b) can).1) (pair_busy a b)) both.1
            | false ↦ λ can. and_from (is_good a) (list_all is_good (paired b bs)) ha
                (good_paired b bs (and_from (is_filled b) (is_busy b) both.0 (ap not is)) both.1)
          ] refl
    ] refl

good_pairs : (bs : List PlainBundle) → list_all is_filled bs ≡ true → list_all is_good (in_pairs bs) ≡ true
good_pairs [] h = refl
good_pairs (b ∷ bs) h =
    let both = and_parts (is_filled b) (list_all is_filled bs) h in
    elim (is_idle b) as (λ idles. is_idle b ≡ idles → list_all is_good (if idles then in_pairs bs else paired b bs)
    ≡ true) [
      | true ↦ λ is. good_pairs bs both.1
      | false ↦ λ is. good_paired b bs (and_from (is_filled b) (is_busy b) both.0 (ap not is)) both.1
    ] refl

-- ordered code is filled, since what comes in has no second instruction that does nothing
nop_filled : (b : PlainBundle) → is_filled (without_nop b) ≡ true
nop_filled b = so b.second refl
  where
    so : (o : Option Instr) → b.second ≡ o
        → is_filled (elim o as (λ _. PlainBundle) [ None ↦ b | Some i ↦ if is_nop i then lone b.first else b ]) ≡ true
    so None is = ap (λ o. elim o as (λ _. Bool) [ None ↦ true | Some i ↦ not (is_nop i) ]) is
    so (Some i) is =
        elim (is_nop i) as (λ nop. is_nop i ≡ nop → is_filled (if nop then lone b.first else b) ≡ true) [
          | true ↦ λ nop. refl
          | false ↦ λ busy. ap (λ o. elim o as (λ _. Bool) [ None ↦ true | Some i ↦ not (is_nop i) ]) is ∙ ap not busy
        ] refl

after_filled : (done bs : List PlainBundle) → list_all is_filled (cleaned done) ≡ true
    → list_all is_filled (cleaned (ordered_after done bs)) ≡ true
after_filled done [] h = h
after_filled done (b ∷ bs) h =
    let c = without_nop b in
    elim (is_idle c) as (λ idles. is_idle c ≡ idles
    → list_all is_filled (cleaned (ordered_after (if idles then done else put c done) bs)) ≡ true) [
      | true ↦ λ is. after_filled done bs h
      | false ↦ λ busy.
          after_filled (put c done) bs
          (put_steps (λ xs ys. list_all is_filled xs ≡ true → list_all is_filled ys ≡ true)
          (all_steps is_filled (λ b h. refl) (λ a b busy can ha hb. pair_filled a b busy can)) c busy done
          (all_append is_filled (cleaned done) (c ∷ []) h (and_from (is_filled c) true (nop_filled b) refl)))
    ] refl

good_packed : (bs : List PlainBundle) → list_all is_good (packed bs) ≡ true
good_packed bs = ap (list_all is_good) (sym (pairs_cleaned (ordered bs)))
    ∙ good_pairs (cleaned (ordered bs)) (after_filled [] bs refl)

filled_spaced : (bs : List PlainBundle) → list_all is_filled bs ≡ true → list_all is_filled (spaced bs) ≡ true
filled_spaced [] h = refl
filled_spaced (b ∷ bs) h =
    let both = and_parts (is_filled b) (list_all is_filled bs) h in
    let others = filled_spaced bs both.1 in
    elim (is_awaited b bs) as (λ awaited. list_all is_filled ((if awaited then b ∷ idle ∷ [] else b ∷ []) ++ spaced bs)
    ≡ true) [
      | true ↦ and_from (is_filled b) (list_all is_filled (spaced bs)) both.0 others
      | false ↦ and_from (is_filled b) (list_all is_filled (spaced bs)) both.0 others
    ]

-- ---- pieces of straight code

some_spaced : (b : PlainBundle) (bs : List PlainBundle) → some_bundle (spaced (b ∷ bs)) ≡ true
some_spaced b bs = elim (is_awaited b bs) as (λ awaited. some_bundle ((if awaited then b ∷ idle ∷ [] else b ∷ [])
    ++ spaced bs) ≡ true) [ true ↦ refl | false ↦ refl ]

good_fills : (b : PlainBundle) → is_good b ≡ true → is_filled b ≡ true
good_fills b h = (and_parts (is_filled b) (is_busy b) h).0

straights_packed : (bs : List PlainBundle) (rest : PlainParts) → list_all is_good bs ≡ true → pairless bs ≡ true
    → can_follow (straight (spaced bs)) (parts_placed rest) ≡ true → parts_packed (parts_placed rest) ≡ true
    → parts_packed (parts_placed (straights bs rest)) ≡ true
straights_packed [] rest good apart follows h = h
straights_packed (b ∷ bs) rest good apart follows h =
    let cs = spaced (b ∷ bs) in
    and_from (some_bundle cs && (list_all is_filled cs && (first_apart cs && none_mergeable cs)))
    (can_follow (straight cs) (parts_placed rest) && parts_packed (parts_placed rest))
    (and_from (some_bundle cs) (list_all is_filled cs && (first_apart cs && none_mergeable cs)) (some_spaced b bs)
    (and_from (list_all is_filled cs) (first_apart cs && none_mergeable cs)
    (filled_spaced (b ∷ bs) (all_weaker is_good is_filled good_fills (b ∷ bs) good))
    (and_from (first_apart cs) (none_mergeable cs) (first_spaced (b ∷ bs) apart) (spaced_none (b ∷ bs) apart))))
    (and_from (can_follow (straight cs) (parts_placed rest)) (parts_packed (parts_placed rest)) follows h)

-- ---- the first delay slot

or_true : (x y : Bool) → y ≡ true → (x || y) ≡ true
or_true true y h = refl
or_true false y h = h

or_first : (x y : Bool) → x ≡ true → (x || y) ≡ true
or_first true y h = refl
or_first false y h = absurd (true≢false (sym h))

used_by_slot : (bs tail : List PlainBundle) → slot_used tail ≡ true → is_used bs tail ≡ true
used_by_slot [] tail h = refl
used_by_slot (b ∷ bs) tail h = or_true (is_idle (last_or b bs) || holds_special (last_or b bs)) (slot_used tail) h

used_by_last : (z : PlainBundle) (bs tail : List PlainBundle) → (is_idle (last_or z bs) || holds_special (last_or z bs))
    ≡ true
    → is_used bs tail ≡ true
used_by_last z [] tail h = refl
used_by_last z (b ∷ bs) tail h = or_first (is_idle (last_or b bs) || holds_special (last_or b bs)) (slot_used tail) h

last_spaced : (z c : PlainBundle) (cs : List PlainBundle) → last_or z (spaced (c ∷ cs))
    ≡ (if is_late (last_or c cs).first.op then idle else last_or c cs)
last_spaced z c [] = elim (is_late c.first.op) as (λ late. last_or z ((if late then c ∷ idle ∷ [] else c ∷ []) ++ [])
    ≡ (if late then idle else c)) [ true ↦ refl | false ↦ refl ]
last_spaced z c (d ∷ ds) =
    elim (is_awaited c (d ∷ ds)) as (λ awaited. last_or z ((if awaited then c ∷ idle ∷ [] else c ∷ [])
    ++ spaced (d ∷ ds)) ≡ (if is_late (last_or d ds).first.op then idle else last_or d ds)) [
      | true ↦ last_spaced idle d ds
      | false ↦ last_spaced c d ds
    ]

-- a flow, and after it a bundle that does something
abbrev slot_busy : List PlainBundle → Bool
slot_busy (t ∷ slot ∷ slots) = is_flow t.first.op && is_busy slot
slot_busy _ = false

slot_spaced : (tail : List PlainBundle) → slot_busy tail ≡ true → slot_used (spaced tail) ≡ true
slot_spaced [] h = absurd (true≢false (sym h))
slot_spaced (t ∷ []) h = absurd (true≢false (sym h))
slot_spaced (t ∷ b ∷ slots) h =
    let both = and_parts (is_flow t.first.op) (is_busy b) h in
    ap (λ awaited. slot_used ((if awaited then t ∷ idle ∷ [] else t ∷ []) ++ spaced (b ∷ slots)))
    (none_awaited t (b ∷ slots) (flow_early t.first.op both.0))
    ∙ elim (is_awaited b slots) as (λ awaited. slot_used (t ∷ ((if awaited then b ∷ idle ∷ [] else b ∷ [])
    ++ spaced slots)) ≡ true) [ true ↦ both.1 | false ↦ both.1 ]

filled_busy : (b : PlainBundle) (tail : List PlainBundle) → has_room b tail ≡ true → is_busy b ≡ true
    → slot_busy (filled b tail) ≡ true
filled_busy b [] room busy = absurd (true≢false (sym room))
filled_busy b (t ∷ []) room busy = absurd (true≢false (sym room))
filled_busy b (t ∷ slot ∷ slots) room busy =
    let both = and_parts (lets_pass t b) (is_idle (last_or slot slots)) room in
    and_from (is_flow t.first.op) (is_busy b) (and_parts (is_flow t.first.op)
    (is_none t.second && spares_guard b t.first.guard) both.0).0 busy

last_good : (b : PlainBundle) (bs : List PlainBundle) → list_all is_good (b ∷ bs) ≡ true → is_busy (last_or b bs) ≡ true
last_good b bs good =
    (and_parts (is_filled (last_or b bs)) (is_busy (last_or b bs)) (all_but_last is_good b bs good).1).1

-- it stays so
one_busy : (bs tail : List PlainBundle) → list_all is_good bs ≡ true → slot_busy tail ≡ true
    → slot_busy (way_by_one bs tail)
    ≡ true
one_busy [] tail good h = h
one_busy (b ∷ bs) tail good h =
    elim (goes_down (b ∷ bs) tail) as (λ down. goes_down (b ∷ bs) tail ≡ down
    → slot_busy (if down then filled (last_or b bs) tail else tail) ≡ true) [
      | true ↦ λ is. filled_busy (last_or b bs) tail (and_parts (can_move (last_or b bs)) (has_room (last_or b bs) tail)
          is).1 (last_good b bs good)
      | false ↦ λ is. h
    ] refl

way_busy : (n : ℕ) (bs tail : List PlainBundle) → list_all is_good bs ≡ true → slot_busy tail ≡ true
    → slot_busy (way_after n bs tail) ≡ true
way_busy zero bs tail good h = h
way_busy (suc n) bs tail good h =
    way_busy n (kept_by_one bs tail) (way_by_one bs tail) (all_kept is_good 1 bs tail good) (one_busy bs tail good h)

-- where the last does not go, none goes
none_goes : (n : ℕ) (b : PlainBundle) (bs tail : List PlainBundle) → goes_down (b ∷ bs) tail ≡ false
    → (kept_after n (b ∷ bs) tail
    ≡ b ∷ bs) × (way_after n (b ∷ bs) tail ≡ tail)
none_goes zero b bs tail up = (refl, refl)
none_goes (suc n) b bs tail up =
    let front = ap (λ down. if down then but_last b bs else b ∷ bs) up in
    let back = ap (λ down. if down then filled (last_or b bs) tail else tail) up in
    let others = none_goes n b bs tail up in
    ((λ k. kept_after n (front k) (back k)) ∙ others.0, (λ k. way_after n (front k) (back k)) ∙ others.1)

none_before : (n : ℕ) (tail : List PlainBundle) → kept_after n [] tail ≡ []
none_before zero tail = refl
none_before (suc n) tail = none_before n tail

-- what cannot move is late, or holds a special register's write
stays_put : (b : PlainBundle) → can_move b ≡ false → is_flow b.first.op ≡ false → (z : PlainBundle) → z
    ≡ (if is_late b.first.op then idle else b) → (is_idle z || holds_special z) ≡ true
stays_put b put calm z is =
    ap (λ x. is_idle x || holds_special x) is
    ∙ elim (is_late b.first.op) as (λ late. (not late && (not (is_flow b.first.op) && not (holds_special b))) ≡ false
    → (is_idle (if late then idle else b) || holds_special (if late then idle else b)) ≡ true) [
      | true ↦ λ h. refl
      | false ↦ λ h. or_true (is_idle b) (holds_special b)
          (not_back (holds_special b) (sym (ap (λ flow. not flow && not (holds_special b)) calm) ∙ h))
    ] put
  where
    not_back : (x : Bool) → not x ≡ false → x ≡ true
    not_back true h = refl
    not_back false h = absurd (true≢false h)

calm_last : (b : PlainBundle) (bs : List PlainBundle) → are_calm (b ∷ bs) ≡ true → is_flow (last_or b bs).first.op
    ≡ false
calm_last b [] h = not-true (is_flow b.first.op) (and_parts (not (is_flow b.first.op)) true h).0
calm_last b (c ∷ cs) h = calm_last c cs (and_parts (not (is_flow b.first.op)) (are_calm (c ∷ cs)) h).1

way_used : (n : ℕ) (bs tail : List PlainBundle) → are_calm bs ≡ true → list_all is_good bs ≡ true
    → ((b : PlainBundle) → has_room b tail ≡ true) → is_used (spaced (kept_after (suc n) bs tail)) (spaced
    (way_after (suc n) bs tail)) ≡ true
way_used n [] tail calm good room = ap (λ xs. is_used (spaced xs) (spaced (way_after n [] tail))) (none_before n tail)
way_used n (b ∷ bs) tail calm good room =
    let last = last_or b bs in
    elim (goes_down (b ∷ bs) tail) as (λ down. goes_down (b ∷ bs) tail ≡ down
    → is_used (spaced (kept_after n (if down then but_last b bs else b ∷ bs) (if down then filled last tail else tail)))
    (spaced (way_after n (if down then but_last b bs else b ∷ bs) (if down then filled last tail else tail)))
    ≡ true) [
      | true ↦ λ is.
          used_by_slot (spaced (kept_after n (but_last b bs) (filled last tail)))
          (spaced (way_after n (but_last b bs) (filled last tail)))
          (slot_spaced (way_after n (but_last b bs) (filled last tail)) (way_busy n (but_last b bs) (filled last tail)
          (all_but_last is_good b bs good).0 (filled_busy last tail (room last) (last_good b bs good))))
      | false ↦ λ is.
          let same = none_goes n b bs tail is in
          (λ k. is_used (spaced (same.0 k)) (spaced (same.1 k)))
          ∙ used_by_last idle (spaced (b ∷ bs)) (spaced tail)
          (stays_put last (sym (and-true (can_move last)) ∙ ap (λ r. can_move last && r) (sym (room last)) ∙ is)
          (calm_last b bs calm) (last_or idle (spaced (b ∷ bs))) (last_spaced idle b bs))
    ] refl

-- ---- a tail whose delay slots do nothing

idle_filled : (b : PlainBundle) → is_idle b ≡ true → is_filled b ≡ true
idle_filled b h = alone_filled b (and_parts (is_idle_op b.first.op) (is_none b.second)
    (and_parts (is_always b.first.guard) (is_idle_op b.first.op && is_none b.second) h).1).1

-- what is said of it once its flow stands alone: no second slot does nothing, and it has room for what spares the
-- flow's guard
record FlowAlone (flow : PlainBundle) (tail : List PlainBundle) : Type 0 where
  pub filled : list_all is_filled tail ≡ true
  pub room : (b : PlainBundle) → spares_guard b flow.first.guard ≡ true → has_room b tail ≡ true

flow_alone : (flow slot other : PlainBundle) (slots : List PlainBundle) → is_flow flow.first.op ≡ true
    → is_legal flow.first flow.second ≡ true → list_all is_idle (slot ∷ other ∷ slots) ≡ true
    → FlowAlone flow (freed (flow ∷ slot ∷ other ∷ slots))
flow_alone flow slot other slots flows legal idles = so flow.second refl legal
  where
    last : PlainBundle
    last = last_or slot (other ∷ slots)

    parts : (list_all is_idle (but_last slot (other ∷ slots)) ≡ true) × (is_idle last ≡ true)
    parts = all_but_last is_idle slot (other ∷ slots) idles

    lets : (b t : PlainBundle) → t.first ≡ flow.first → is_none t.second ≡ true → spares_guard b flow.first.guard ≡ true
        → lets_pass t b ≡ true
    lets b t same alone spares =
        and_from (is_flow t.first.op) (is_none t.second && spares_guard b t.first.guard)
        (ap (λ i. is_flow i.op) same ∙ flows)
        (and_from (is_none t.second) (spares_guard b t.first.guard) alone
        (ap (λ i. spares_guard b i.guard) same ∙ spares))

    so : (o : Option Instr) → flow.second ≡ o → is_legal flow.first o ≡ true
        → FlowAlone flow (elim o as (λ _. List PlainBundle) [
          | None ↦ flow ∷ slot ∷ other
              ∷ slots
          | Some i ↦ if can_leave flow i last then lone flow.first ∷ lone i
              ∷ but_last slot (other ∷ slots) else flow ∷ slot ∷ other ∷ slots
        ])
    so None is h =
        let alone = ap is_none is in
        record {
          filled = and_from (is_filled flow) (list_all is_filled (slot ∷ other ∷ slots)) (alone_filled flow alone)
              (all_weaker is_idle is_filled idle_filled (slot ∷ other ∷ slots) idles);
          room = λ b spares. and_from (lets_pass flow b) (is_idle last) (lets b flow refl alone spares) parts.1;
        }
    so (Some i) is h =
        let kind = (and_parts (not (is_long flow.first.op)) (is_second_kind i.op) h).1 in
        let can = and_from (is_flow flow.first.op) (is_second_kind i.op && is_idle last) flows
        (and_from (is_second_kind i.op) (is_idle last) kind parts.1) in
        subst (λ out. FlowAlone flow (if out then lone flow.first ∷ lone i ∷ but_last slot (other ∷ slots) else flow
        ∷ slot ∷ other ∷ slots)) (sym can) (record {
          filled = all_weaker is_idle is_filled idle_filled (but_last slot (other ∷ slots)) parts.0;
          room = λ b spares. and_from (lets_pass (lone flow.first) b) (is_idle (last_or slot (but_last other slots)))
              (lets b (lone flow.first) refl refl spares) (all_but_last is_idle slot (but_last other slots) parts.0).1;
        })

-- of the tail of a call or a return
way_alone : (is_it : Op → Bool) → ((op : Op) → is_it op ≡ true → is_flow op ≡ true) → (tail : List PlainBundle)
    → is_way is_it tail ≡ true → way_idles tail ≡ true → has_legal_flow tail ≡ true
    → (list_all is_filled (freed tail) ≡ true) × ((b : PlainBundle) → has_room b (freed tail) ≡ true)
way_alone is_it flows [] h idles legal = absurd (true≢false (sym h))
way_alone is_it flows (t ∷ slots) h idles legal =
    let one = and_parts (is_it t.first.op) (is_always t.first.guard && are_delay_slots 3 slots) h in
    let two = and_parts (is_always t.first.guard) (are_delay_slots 3 slots) one.1 in
    so slots idles two.1 (flows t.first.op one.0) two.0
  where
    so : (slots : List PlainBundle) → list_all is_idle slots ≡ true → are_delay_slots 3 slots ≡ true
        → is_flow t.first.op
        ≡ true → is_always t.first.guard ≡ true
        → (list_all is_filled (freed (t ∷ slots)) ≡ true) × ((b : PlainBundle) → has_room b (freed (t ∷ slots)) ≡ true)
    so [] idles three flow always = absurd (true≢false (sym three))
    so (slot ∷ []) idles three flow always = absurd (true≢false (sym three))
    so (slot ∷ other ∷ more) idles three flow always =
        let alone = flow_alone t slot other more flow legal idles in
        (alone.filled, λ b. alone.room b (or_first (is_always t.first.guard) _ always))

-- of a branch
iteration_alone : (tail : List PlainBundle) → is_iteration tail ≡ true → iteration_idles tail ≡ true
    → has_legal_flow (from_branch tail) ≡ true → list_all is_filled (freed (from_branch tail)) ≡ true
iteration_alone [] h idles legal = refl
iteration_alone (t ∷ slots) h idles legal =
    elim (is_branch t.first.op) as (λ back. is_branch t.first.op ≡ back → (if back then are_delay_slots 2 slots else
    (not (is_flow t.first.op) && is_iteration slots)) ≡ true
    → (if back then list_all is_idle slots else iteration_idles slots) ≡ true
    → has_legal_flow (if back then t ∷ slots else from_branch slots) ≡ true
    → list_all is_filled (freed (if back then t ∷ slots else from_branch slots)) ≡ true) [
      | true ↦ λ is two idles legal. so slots idles two
          (ap (λ back. if back then true else (if is_call t.first.op then true else
          (if is_return t.first.op then true else is_fill t.first.op))) is) legal
      | false ↦ λ is iteration idles legal. iteration_alone slots (and_parts (not (is_flow t.first.op))
          (is_iteration slots) iteration).1 idles legal
    ] refl h idles legal
  where
    so : (slots : List PlainBundle) → list_all is_idle slots ≡ true → are_delay_slots 2 slots ≡ true
        → is_flow t.first.op
        ≡ true → is_legal t.first t.second ≡ true → list_all is_filled (freed (t ∷ slots)) ≡ true
    so [] idles two flow legal = absurd (true≢false (sym two))
    so (slot ∷ []) idles two flow legal = absurd (true≢false (sym two))
    so (slot ∷ other ∷ more) idles two flow legal = (flow_alone t slot other more flow legal idles).filled

call_flows : (op : Op) → is_call op ≡ true → is_flow op ≡ true
call_flows (Call target) h = refl
call_flows _ h = absurd (true≢false (sym h))

return_flows : (op : Op) → is_return op ≡ true → is_flow op ≡ true
return_flows Return h = refl
return_flows _ h = absurd (true≢false (sym h))

-- ---- parts

-- after what is no straight code
then_packed : (p : PlainPart) (rest : PlainParts) → part_packed p ≡ true → can_follow p rest ≡ true → parts_packed rest
    ≡ true → parts_packed (part p rest) ≡ true
then_packed p rest hp follows h = and_from (part_packed p) (can_follow p rest && parts_packed rest) hp
    (and_from (can_follow p rest) (parts_packed rest) follows h)

iteration_filled : (held tail : List PlainBundle) → list_all is_filled (freed (from_branch tail)) ≡ true
    → list_all is_filled (spaced (iteration_packed held tail)) ≡ true
iteration_filled held tail filled =
    let back = from_branch tail in
    let all = arranged held (before_branch tail) back in
    let p = packed all in
    let front = all_weaker is_good is_filled good_fills p (good_packed all) in
    filled_spaced (iteration_packed held tail)
    (all_append is_filled (kept p back) (way p back) (all_kept is_filled MOST_SLOTS p (freed back) front)
    (all_way is_filled MOST_SLOTS p (freed back) front filled))

way_filled : (bs tail : List PlainBundle) → list_all is_good bs ≡ true → list_all is_filled (freed tail) ≡ true
    → list_all is_filled (spaced (way bs tail)) ≡ true
way_filled bs tail good filled = filled_spaced (way bs tail) (all_way is_filled MOST_SLOTS bs (freed tail)
    (all_weaker is_good is_filled good_fills bs good) filled)

pub merged_packed : (held : List PlainBundle) (ps : PlainParts) → are_calm held ≡ true → parts_shaped ps ≡ true
    → parts_idle ps ≡ true → parts_legal ps ≡ true → parts_packed (parts_placed (parts_merged held ps)) ≡ true
merged_packed held no_part calm shaped idles legal = refl
merged_packed held (part (straight bs) rest) calm shaped idles legal =
    let s = and_parts (are_calm bs) (parts_shaped rest) shaped in
    merged_packed (held ++ bs) rest (calm_append held bs calm s.0) s.1 idles legal
merged_packed held (part (repeats count body tail) rest) calm shaped idles legal =
    let s = and_parts (parts_shaped body && is_iteration tail) (parts_shaped rest) shaped in
    let own_s = and_parts (parts_shaped body) (is_iteration tail) s.0 in
    let i = and_parts (parts_idle body && iteration_idles tail) (parts_idle rest) idles in
    let own_i = and_parts (parts_idle body) (iteration_idles tail) i.0 in
    let l = and_parts (parts_legal body && has_legal_flow (from_branch tail)) (parts_legal rest) legal in
    let own_l = and_parts (parts_legal body) (has_legal_flow (from_branch tail)) l.0 in
    let left = left_over [] body in
    straights_packed (packed held) (part (repeats count (parts_merged [] body) (iteration_packed left tail))
    (parts_merged [] rest)) (good_packed held) (packed_pairless held) refl
    (then_packed (repeats count (parts_placed (parts_merged [] body)) (spaced (iteration_packed left tail)))
    (parts_placed (parts_merged [] rest))
    (and_from (parts_packed (parts_placed (parts_merged [] body)))
    (list_all is_filled (spaced (iteration_packed left tail)))
    (merged_packed [] body refl own_s.0 own_i.0 own_l.0)
    (iteration_filled left tail (iteration_alone tail own_s.1 own_i.1 own_l.1)))
    refl (merged_packed [] rest refl s.1 i.1 l.1))
merged_packed held (part (calls_to k tail) rest) calm shaped idles legal =
    let s = and_parts (is_way is_call tail) (parts_shaped rest) shaped in
    let i = and_parts (way_idles tail) (parts_idle rest) idles in
    let l = and_parts (has_legal_flow tail) (parts_legal rest) legal in
    let alone = way_alone is_call call_flows tail s.0 i.0 l.0 in
    let p = packed held in
    let good = good_packed held in
    straights_packed (kept p tail) (part (calls_to k (way p tail)) (parts_merged [] rest))
    (all_kept is_good MOST_SLOTS p (freed tail) good) (kept_pairless MOST_SLOTS p (freed tail)
    (packed_pairless held))
    (way_used 2 p (freed tail) (calm_packed held calm) good alone.1)
    (then_packed (calls_to k (spaced (way p tail))) (parts_placed (parts_merged [] rest))
    (way_filled p tail good alone.0) refl (merged_packed [] rest refl s.1 i.1 l.1))
merged_packed held (part (leaves tail) rest) calm shaped idles legal =
    let s = and_parts (is_way is_return tail) (parts_shaped rest) shaped in
    let i = and_parts (way_idles tail) (parts_idle rest) idles in
    let l = and_parts (has_legal_flow tail) (parts_legal rest) legal in
    let alone = way_alone is_return return_flows tail s.0 i.0 l.0 in
    let p = packed held in
    let good = good_packed held in
    straights_packed (kept p tail) (part (leaves (way p tail)) (parts_merged [] rest)) (all_kept is_good MOST_SLOTS p
    (freed tail) good) (kept_pairless MOST_SLOTS p (freed tail) (packed_pairless held))
    (way_used 2 p (freed tail) (calm_packed held calm) good alone.1)
    (then_packed (leaves (spaced (way p tail))) (parts_placed (parts_merged [] rest)) (way_filled p tail good alone.0)
    refl (merged_packed [] rest refl s.1 i.1 l.1))

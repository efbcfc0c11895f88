-- The last bundle of a list, and the first delay slot that it goes into; and where the branch of a loop's tail stands.
use Rattle.std.proofs.Common.{◌≡◌, ◌<◌, true, false, true≢false, if◌then◌else◌, None, Some, List, [], ◌∷◌, ◌++◌, length, take, drop, get_or, append_assoc, append-nil, add-one, refl, sym, ap, ◌∙◌, arith, ℕ, zero, suc, ◌+◌, ◌-◌, ◌≤◌}
use Rattle.std.specs.Prelude.{◌&&◌}
use Rattle.std.specs.List.{insert}
use Rattle.std.proofs.lemmas.Bool.{and_parts}
use Rattle.std.proofs.lemmas.List.{drop_all, take_all}
use Rattle.tc_word.proofs.Items.{drop_item}
use Rattle.sp_shape.specs.Bundles.{is_idle}
use Rattle.sp_shape.specs.Formed.{is_branch}
use Rattle.patmos_instr.specs.Bundles.{PlainBundle, is_legal}
use Rattle.patmos_instr.specs.declared.instructions.Instr.{Instr}
use Rattle.bundle_sched.specs.Packed.{lone, last_or}
use Rattle.bundle_sched.specs.Legal.{has_legal_flow}
use Rattle.bundle_sched.specs.Packing.{can_move, has_room, fills, filled, but_last, goes_down, kept_by_one, way_by_one, kept_after, way_after, lets_pass, can_leave, freed, before_branch, from_branch}

last_is : (x b : PlainBundle) (xs : List PlainBundle) → last_or x (xs ++ b ∷ []) ≡ b
last_is x b [] = refl
last_is x b (y ∷ ys) = last_is y b ys

front_is : (x b : PlainBundle) (xs : List PlainBundle) → but_last x (xs ++ b ∷ []) ≡ x ∷ xs
front_is x b [] = refl
front_is x b (y ∷ ys) = ap (λ zs. x ∷ zs) (front_is y b ys)

pub last_goes : (bs front tail : List PlainBundle) (b : PlainBundle) → bs ≡ front ++ b ∷ []
    → goes_down bs tail ≡ fills b tail
last_goes bs [] tail b is = ap (λ xs. goes_down xs tail) is
last_goes bs (x ∷ xs) tail b is = ap (λ ys. goes_down ys tail) is ∙ ap (λ l. fills l tail) (last_is x b xs)

pub room_below : (bs tail : List PlainBundle) → goes_down bs tail ≡ true → 1 < length tail
room_below [] tail h = absurd (true≢false (sym h))
room_below (b ∷ bs) tail h = so tail (and_parts (can_move (last_or b bs)) (has_room (last_or b bs) tail) h).1
  where
    so : (tail : List PlainBundle) → has_room (last_or b bs) tail ≡ true → 1 < length tail
    so [] room = absurd (true≢false (sym room))
    so (t ∷ []) room = absurd (true≢false (sym room))
    so (t ∷ slot ∷ slots) room = omega arith

-- the last of the slots goes, and the bundle comes after the flow
filled_is : (b l : PlainBundle) (tail slots : List PlainBundle) → tail ≡ slots ++ l ∷ [] → 1 < length tail
    → insert slots 1 b
    ≡ filled b tail
filled_is b l tail [] is more = absurd (omega (arith, more, ap length is))
filled_is b l tail (t ∷ []) is more = sym (ap (filled b) is)
filled_is b l tail (t ∷ slot ∷ slots) is more =
    ap (λ xs. t ∷ b ∷ xs) (sym (front_is slot l slots)) ∙ sym (ap (filled b) is)

pub kept_down : (bs front tail : List PlainBundle) (b : PlainBundle) → bs ≡ front ++ b ∷ []
    → goes_down bs tail ≡ true → front
    ≡ kept_by_one bs tail
kept_down bs [] tail b is down = sym (ap (λ xs. kept_by_one xs tail) is
    ∙ ap (λ d. if d then [] else b ∷ []) (ap (λ xs. goes_down xs tail) (sym is) ∙ down))
kept_down bs (x ∷ xs) tail b is down =
    sym (ap (λ ys. kept_by_one ys tail) is ∙ ap (λ d. if d then but_last x (xs ++ b ∷ []) else x ∷ (xs ++ b ∷ []))
    (ap (λ ys. goes_down ys tail) (sym is) ∙ down) ∙ front_is x b xs)

pub way_down : (bs front tail slots : List PlainBundle) (b l : PlainBundle) → bs ≡ front ++ b ∷ [] → tail
    ≡ slots ++ l ∷ []
    → goes_down bs tail ≡ true → insert slots 1 b ≡ way_by_one bs tail
way_down bs front tail slots b l is last down =
    filled_is b l tail slots last (room_below bs tail down) ∙ sym (so front is)
  where
    so : (front : List PlainBundle) → bs ≡ front ++ b ∷ [] → way_by_one bs tail ≡ filled b tail
    so [] is = ap (λ xs. way_by_one xs tail) is ∙ ap (λ d. if d then filled b tail else tail)
        (ap (λ xs. goes_down xs tail) (sym is) ∙ down)
    so (x ∷ xs) is =
        ap (λ ys. way_by_one ys tail) is ∙ ap (λ d. if d then filled (last_or x (xs ++ b ∷ [])) tail else tail)
        (ap (λ ys. goes_down ys tail) (sym is) ∙ down) ∙ ap (λ l. filled l tail) (last_is x b xs)

pub kept_up : (bs tail : List PlainBundle) → goes_down bs tail ≡ false → bs ≡ kept_by_one bs tail
kept_up [] tail up = refl
kept_up (b ∷ bs) tail up = sym (ap (λ d. if d then but_last b bs else b ∷ bs) up)

pub way_up : (bs tail : List PlainBundle) → goes_down bs tail ≡ false → tail ≡ way_by_one bs tail
way_up [] tail up = refl
way_up (b ∷ bs) tail up = sym (ap (λ d. if d then filled (last_or b bs) tail else tail) up)

-- ---- the two pieces of a loop's tail, by the place of the branch

take_item : (bs : List PlainBundle) (i : ℕ) (b : PlainBundle) → i < length bs → b ≡ get_or bs i b → take (suc i) bs
    ≡ take i bs ++ b ∷ []
take_item [] i b within is = absurd (omega (arith, within))
take_item (x ∷ xs) zero b within is = ap (λ y. y ∷ []) (sym is)
take_item (x ∷ xs) (suc i) b within is = ap (λ ys. x ∷ ys) (take_item xs i b (omega (arith, within)) is)

pub before_next : (bs : List PlainBundle) (i : ℕ) (b : PlainBundle) (whole : List PlainBundle) → i < length bs → b
    ≡ get_or bs i b
    → is_branch b.first.op ≡ false
    → take i bs ++ before_branch (drop i bs) ≡ whole → take (i + 1) bs ++ before_branch (drop (i + 1) bs) ≡ whole
before_next bs i b whole within is other before =
    let rest = drop (i + 1) bs in
    ap (λ n. take n bs ++ before_branch rest) (add-one i) ∙ ap (λ xs. xs ++ before_branch rest) (take_item bs i b within
    is) ∙ append_assoc (take i bs) (b ∷ []) (before_branch rest)
    ∙ ap (λ back. take i bs ++ (if back then [] else b ∷ before_branch rest)) (sym other)
    ∙ ap (λ xs. take i bs ++ before_branch xs) (sym (drop_item bs i b within is)) ∙ before

pub from_next : (bs : List PlainBundle) (i : ℕ) (b : PlainBundle) (whole : List PlainBundle) → i < length bs → b
    ≡ get_or bs i b
    → is_branch b.first.op ≡ false
    → from_branch (drop i bs) ≡ whole → from_branch (drop (i + 1) bs) ≡ whole
from_next bs i b whole within is other before =
    let rest = drop (i + 1) bs in
    ap (λ back. if back then b ∷ rest else from_branch rest) (sym other)
    ∙ ap from_branch (sym (drop_item bs i b within is)) ∙ before

pub before_here : (bs : List PlainBundle) (i : ℕ) (b : PlainBundle) (whole : List PlainBundle) → i < length bs → b
    ≡ get_or bs i b
    → is_branch b.first.op ≡ true
    → take i bs ++ before_branch (drop i bs) ≡ whole → take i bs ≡ whole
before_here bs i b whole within is back before =
    sym (append-nil (take i bs)) ∙ ap (λ here. take i bs ++ (if here then [] else b ∷ before_branch (drop (i + 1) bs)))
    (sym back)
    ∙ ap (λ xs. take i bs ++ before_branch xs) (sym (drop_item bs i b within is)) ∙ before

pub from_here : (bs : List PlainBundle) (i : ℕ) (b : PlainBundle) (whole : List PlainBundle) → i < length bs → b
    ≡ get_or bs i b
    → is_branch b.first.op ≡ true
    → from_branch (drop i bs) ≡ whole → drop i bs ≡ whole
from_here bs i b whole within is back before =
    let rest = drop (i + 1) bs in
    drop_item bs i b within is ∙ ap (λ here. if here then b ∷ rest else from_branch rest) (sym back)
    ∙ ap from_branch (sym (drop_item bs i b within is)) ∙ before

pub before_all : (bs : List PlainBundle) (i : ℕ) (whole : List PlainBundle) → length bs ≤ i → take i bs
    ++ before_branch (drop i bs)
    ≡ whole → take i bs ≡ whole
before_all bs i whole past before =
    sym (append-nil (take i bs)) ∙ ap (λ xs. take i bs ++ before_branch xs) (sym (drop_all i bs past)) ∙ before

pub from_all : (bs : List PlainBundle) (i : ℕ) (whole : List PlainBundle) → length bs ≤ i
    → from_branch (drop i bs) ≡ whole
    → drop i bs ≡ whole
from_all bs i whole past before = drop_all i bs past ∙ ap from_branch (sym (drop_all i bs past)) ∙ before

-- ---- a tail's last slot

pub room_at : (b : PlainBundle) (tail front : List PlainBundle) (t l : PlainBundle) → t ≡ get_or tail 0 t
    → take (length tail - 1) (drop 1 tail) ≡ front ++ l ∷ [] → has_room b tail ≡ (lets_pass t b && is_idle l)
room_at b [] [] t l is last = absurd (omega (arith, ap length last))
room_at b [] (s ∷ ss) t l is last = absurd (omega (arith, ap length last))
room_at b (u ∷ us) front t l is last = so front (sym (take_all (length (u ∷ us) - 1) us (omega arith)) ∙ last)
  where
    so : (front : List PlainBundle) → us ≡ front ++ l ∷ [] → has_room b (u ∷ us) ≡ (lets_pass t b && is_idle l)
    so [] last = ap (λ xs. has_room b (u ∷ xs)) last ∙ ap (λ x. lets_pass x b && is_idle l) (sym is)
    so (s ∷ ss) last = ap (λ xs. has_room b (u ∷ xs)) last ∙ (λ k. lets_pass (sym is k) b && is_idle (last_is s l ss k))

pub room_none : (b : PlainBundle) (tail : List PlainBundle) → length (drop 1 tail) ≡ 0 → has_room b tail ≡ false
room_none b [] none = refl
room_none b (t ∷ []) none = refl
room_none b (t ∷ s ∷ ss) none = absurd (omega (arith, none))

-- ---- a tail whose flow stands alone

-- a list by its first item, and the rest by its last
first_then : (tail front : List PlainBundle) (t l : PlainBundle) → t ≡ get_or tail 0 t
    → take (length tail - 1) (drop 1 tail)
    ≡ front ++ l ∷ [] → tail ≡ t ∷ (front ++ l ∷ [])
first_then [] [] t l is last = absurd (omega (arith, ap length last))
first_then [] (s ∷ ss) t l is last = absurd (omega (arith, ap length last))
first_then (u ∷ us) front t l is last = λ k. sym is k ∷ (sym (take_all (length (u ∷ us) - 1) us (omega arith)) ∙ last) k

pub no_flow : (tail : List PlainBundle) → length tail ≡ 0 → freed tail ≡ tail
no_flow [] none = refl
no_flow (t ∷ ts) none = absurd (omega (arith, none))

pub no_slot : (tail : List PlainBundle) → length (drop 1 tail) ≡ 0 → freed tail ≡ tail
no_slot [] none = refl
no_slot (t ∷ []) none = refl
no_slot (t ∷ s ∷ ss) none = absurd (omega (arith, none))

pub flow_lone : (tail : List PlainBundle) (t : PlainBundle) → t ≡ get_or tail 0 t → t.second ≡ None → freed tail ≡ tail
flow_lone [] t is none = refl
flow_lone (u ∷ []) t is none = refl
flow_lone (u ∷ s ∷ ss) t is none =
    ap (λ o. elim o as (λ _. List PlainBundle) [
      | None ↦ u ∷ s ∷ ss
      | Some i ↦ if can_leave u i (last_or s ss) then filled
          (lone i) (lone u.first ∷ s ∷ ss) else u ∷ s ∷ ss
    ]) (ap (λ x. x.second) (sym is) ∙ none)

freed_from : (t l : PlainBundle) (i : Instr) (front : List PlainBundle) → t.second ≡ Some i
    → freed (t ∷ (front ++ l ∷ []))
    ≡ (if can_leave t i l then lone t.first ∷ lone i ∷ front else t ∷ (front ++ l ∷ []))
freed_from t l i [] is =
    ap (λ o. elim o as (λ _. List PlainBundle) [
      | None ↦ t ∷ l ∷ []
      | Some i ↦ if can_leave t i l then lone t.first ∷ lone i
          ∷ [] else t ∷ l ∷ []
    ]) is
freed_from t l i (s ∷ ss) is =
    ap (λ o. elim o as (λ _. List PlainBundle) [
      | None ↦ t ∷ s ∷ (ss ++ l ∷ [])
      | Some i ↦ if can_leave t i (last_or s
          (ss ++ l ∷ [])) then lone t.first ∷ lone i ∷ but_last s (ss ++ l ∷ []) else t ∷ s ∷ (ss ++ l ∷ [])
    ]) is
    ∙ (λ k. if can_leave t i (last_is s l ss k) then lone t.first ∷ lone i ∷ front_is s l ss k else t ∷ s
    ∷ (ss ++ l ∷ []))

pub flow_stays : (tail front : List PlainBundle) (t l : PlainBundle) (i : Instr) → t ≡ get_or tail 0 t
    → t.second ≡ Some i
    → take (length tail - 1) (drop 1 tail) ≡ front ++ l ∷ [] → can_leave t i l ≡ false → freed tail ≡ tail
flow_stays tail front t l i is beside last stays =
    let all = first_then tail front t l is last in
    ap freed all ∙ freed_from t l i front beside ∙ ap (λ out. if out then lone t.first ∷ lone i ∷ front else t
    ∷ (front ++ l ∷ [])) stays ∙ sym all

pub flow_left : (tail front : List PlainBundle) (t l flow next : PlainBundle) (i : Instr) → t ≡ get_or tail 0 t
    → t.second ≡ Some i
    → take (length tail - 1) (drop 1 tail) ≡ front ++ l ∷ [] → can_leave t i l ≡ true
    → flow ≡ lone t.first → next ≡ lone i → freed tail ≡ flow ∷ next ∷ front
flow_left tail front t l flow next i is beside last out first second =
    ap freed (first_then tail front t l is last) ∙ freed_from t l i front beside
    ∙ ap (λ out. if out then lone t.first ∷ lone i ∷ front else t ∷ (front ++ l ∷ [])) out
    ∙ (λ k. sym first k ∷ sym second k ∷ front)

pub flow_legal : (tail : List PlainBundle) (t : PlainBundle) → t ≡ get_or tail 0 t → is_legal t.first t.second ≡ true
    → has_legal_flow tail ≡ true
flow_legal [] t is legal = refl
flow_legal (u ∷ us) t is legal = ap (λ x. is_legal x.first x.second) (sym is) ∙ legal

-- ---- delay slot by delay slot

-- one iteration more
pub kept_more : (n k : ℕ) (bs tail next slots whole : List PlainBundle) → k < n → next ≡ kept_by_one bs tail → slots
    ≡ way_by_one bs tail → kept_after (n - k) bs tail ≡ whole → kept_after (n - (k + 1)) next slots ≡ whole
kept_more n k bs tail next slots whole within front back before =
    let one : n - k ≡ suc (n - (k + 1)) = omega (arith, within) in
    (λ i. kept_after (n - (k + 1)) (front i) (back i)) ∙ sym (ap (λ m. kept_after m bs tail) one) ∙ before

pub way_more : (n k : ℕ) (bs tail next slots whole : List PlainBundle) → k < n → next ≡ kept_by_one bs tail → slots
    ≡ way_by_one bs tail → way_after (n - k) bs tail ≡ whole → way_after (n - (k + 1)) next slots ≡ whole
way_more n k bs tail next slots whole within front back before =
    let one : n - k ≡ suc (n - (k + 1)) = omega (arith, within) in
    (λ i. way_after (n - (k + 1)) (front i) (back i)) ∙ sym (ap (λ m. way_after m bs tail) one) ∙ before

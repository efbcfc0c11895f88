-- What else packed code has of the code: words, what is always done, and form.
use Rattle.std.proofs.Common.{◌≡◌, ℕ, zero, suc, ◌+◌, ◌≤◌, Bool, true, false, true≢false, if◌then◌else◌, Option, None, Some, List, [], ◌∷◌, ◌++◌, refl, ap, ◌∙◌, arith, sym}
use Rattle.std.specs.Prelude.{◌&&◌, ◌||◌, is_some}
use Rattle.std.specs.List.{list_all}
use Rattle.std.proofs.lemmas.Bool.{and_parts, and_from}
use Rattle.std.proofs.lemmas.List.Folds.{list_all-append}
use Rattle.patmos_instr.specs.Bundles.{PlainBundle}
use Rattle.patmos_instr.specs.Instructions.{is_long, is_second_kind}
use Rattle.patmos_instr.specs.declared.instructions.Instr.{Instr}
use Rattle.patmos_instr.specs.declared.instructions.Op.{Op}
use Rattle.patmos_instr.specs.declared.instructions.Op.TheVariants.{AluImm, AluReg, Cmp, CmpImm, Comb}
use Rattle.sp_shape.specs.Bundles.{is_idle, part_all, parts_all}
use Rattle.sp_shape.specs.Parts.{straight, repeats, calls_to, leaves, PlainParts, no_part, part, joined}
use Rattle.sp_shape.specs.Words.{is_late, bundle_words, bundle_room, bundles_room, parts_room}
use Rattle.sp_shape.proofs.Lists.{all_append, room_append}
use Rattle.bundle_sched.specs.Ordered.{without_nop}
use Rattle.bundle_sched.specs.Packed.{can_join, pair, lone, last_or}
use Rattle.bundle_sched.specs.Packing.{packed, filled, but_last, goes_down, kept_by_one, way_by_one, kept_after, way_after, freed, kept, way, before_branch, from_branch, arranged, iteration_packed, straights, left_over, parts_merged, function_merged}
use Rattle.bundle_sched.specs.declared.slots.TheConstants.{MOST_SLOTS}
use Rattle.bundle_sched.proofs.Alike.{tail_split}
use Rattle.bundle_sched.proofs.Freed.{without_nop_as, freed_as}
use Rattle.bundle_sched.proofs.EachStep.{AtEachStep, packed_steps, arranged_steps}
use Rattle.bundle_sched.proofs.Shaped.{left_all}
use Rattle.bundle_sched.proofs.TwoInOne.{pairs}

-- ---- what holds of each bundle holds of each packed one, where it holds of one that two become

module _ (holds : PlainBundle → Bool) (alone : (b : PlainBundle) → holds b ≡ true → holds (lone b.first) ≡ true)
    (closed : (a b : PlainBundle) → is_idle b ≡ false → can_join a b ≡ true → holds a ≡ true → holds b ≡ true
    → holds (pair a b) ≡ true) where
  pub all_steps : AtEachStep (λ xs ys. list_all holds xs ≡ true → list_all holds ys ≡ true)
  all_steps = record {
    same = λ bs h. h;
    through = λ xs ys zs f g h. g (f h);
    behind = λ b xs ys f h. let both =
        and_parts (holds b) (list_all holds xs) h in and_from (holds b) (list_all holds ys) both.0 (f both.1);
    left_out = λ b bs is h. (and_parts (holds b) (list_all holds bs) h).1;
    emptied = λ b bs h.
        let both = and_parts (holds b) (list_all holds bs) h in
        and_from (holds (without_nop b)) (list_all holds bs) (without_nop_as (λ c b. holds b ≡ true → holds c ≡ true)
        (λ b hb. hb) (λ b i is nop hb. alone b hb) b both.0) both.1;
    joined = λ a b bs busy can h.
        let one = and_parts (holds a) (holds b && list_all holds bs) h in
        let two = and_parts (holds b) (list_all holds bs) one.1 in
        and_from (holds (pair a b)) (list_all holds bs) (closed a b busy can one.0 two.0) two.1;
    swapped = λ b x bs by h.
        let one = and_parts (holds b) (holds x && list_all holds bs) h in
        let two = and_parts (holds x) (list_all holds bs) one.1 in
        and_from (holds x) (holds b && list_all holds bs) two.0 (and_from (holds b) (list_all holds bs) one.0 two.1);
  }

  pub all_packed : (bs : List PlainBundle) → list_all holds bs ≡ true → list_all holds (packed bs) ≡ true
  all_packed bs = packed_steps (λ xs ys. list_all holds xs ≡ true → list_all holds ys ≡ true) all_steps bs

  pub all_arranged : (held front back : List PlainBundle) → list_all holds held ≡ true → list_all holds front ≡ true
      → list_all holds (packed (arranged held front back)) ≡ true
  all_arranged held front back hh hf = arranged_steps (λ xs ys. list_all holds xs ≡ true → list_all holds ys ≡ true)
      all_steps held front back (all_append holds held front hh hf)

pub all_but_last : (holds : PlainBundle → Bool) (b : PlainBundle) (bs : List PlainBundle)
    → list_all holds (b ∷ bs) ≡ true
    → (list_all holds (but_last b bs) ≡ true) × (holds (last_or b bs) ≡ true)
all_but_last holds b [] h = (refl, (and_parts (holds b) true h).0)
all_but_last holds b (c ∷ cs) h =
    let both = and_parts (holds b) (list_all holds (c ∷ cs)) h in
    let others = all_but_last holds c cs both.1 in
    (and_from (holds b) (list_all holds (but_last c cs)) both.0 others.0, others.1)

kept_all : (holds : PlainBundle → Bool) (bs tail : List PlainBundle) → list_all holds bs ≡ true
    → list_all holds (kept_by_one bs tail) ≡ true
kept_all holds [] tail h = refl
kept_all holds (b ∷ bs) tail h =
    elim (goes_down (b ∷ bs) tail) as (λ down. list_all holds (if down then but_last b bs else b ∷ bs) ≡ true)
    [ true ↦ (all_but_last holds b bs h).0 | false ↦ h ]

all_filled : (holds : PlainBundle → Bool) (b : PlainBundle) (tail : List PlainBundle) → holds b ≡ true
    → list_all holds tail ≡ true
    → list_all holds (filled b tail) ≡ true
all_filled holds b [] hb h = h
all_filled holds b (t ∷ []) hb h = h
all_filled holds b (t ∷ slot ∷ slots) hb h =
    let both = and_parts (holds t) (list_all holds (slot ∷ slots)) h in
    and_from (holds t) (holds b && list_all holds (but_last slot slots)) both.0
    (and_from (holds b) (list_all holds (but_last slot slots)) hb (all_but_last holds slot slots both.1).0)

way_all : (holds : PlainBundle → Bool) (bs tail : List PlainBundle) → list_all holds bs ≡ true
    → list_all holds tail ≡ true
    → list_all holds (way_by_one bs tail) ≡ true
way_all holds [] tail hb h = h
way_all holds (b ∷ bs) tail hb h =
    elim (goes_down (b ∷ bs) tail) as (λ down. list_all holds (if down then filled (last_or b bs) tail else tail)
    ≡ true) [ true ↦ all_filled holds (last_or b bs) tail (all_but_last holds b bs hb).1 h | false ↦ h ]

pub all_kept : (holds : PlainBundle → Bool) (n : ℕ) (bs tail : List PlainBundle) → list_all holds bs ≡ true
    → list_all holds (kept_after n bs tail) ≡ true
all_kept holds zero bs tail h = h
all_kept holds (suc n) bs tail h =
    all_kept holds n (kept_by_one bs tail) (way_by_one bs tail) (kept_all holds bs tail h)

pub all_way : (holds : PlainBundle → Bool) (n : ℕ) (bs tail : List PlainBundle) → list_all holds bs ≡ true
    → list_all holds tail
    ≡ true → list_all holds (way_after n bs tail) ≡ true
all_way holds zero bs tail hb h = h
all_way holds (suc n) bs tail hb h =
    all_way holds n (kept_by_one bs tail) (way_by_one bs tail) (kept_all holds bs tail hb) (way_all holds bs tail hb h)

-- of the tail with its flow alone
pub all_freed : (holds : PlainBundle → Bool) → ((b : PlainBundle) → holds b ≡ true → holds (lone b.first) ≡ true)
    → ((i : Instr) → is_second_kind i.op ≡ true → holds (lone i) ≡ true) → (tail : List PlainBundle)
    → list_all holds tail ≡ true → list_all holds (freed tail) ≡ true
all_freed holds alone second =
    freed_as (λ xs tail. list_all holds tail ≡ true → list_all holds xs ≡ true) (λ tail h. h)
    (λ flow slot slots i out h.
    let both = and_parts (holds flow) (list_all holds (slot ∷ slots)) h in
    all_filled holds (lone i) (lone flow.first ∷ slot ∷ slots) (second i out.kind) (and_from (holds (lone flow.first))
    (list_all holds (slot ∷ slots)) (alone flow both.0) both.1))

-- of the two pieces of a loop's tail
pub all_split : (holds : PlainBundle → Bool) (tail : List PlainBundle) → list_all holds tail ≡ true
    → (list_all holds (before_branch tail) ≡ true) × (list_all holds (from_branch tail) ≡ true)
all_split holds tail h =
    and_parts (list_all holds (before_branch tail)) (list_all holds (from_branch tail))
    (sym (list_all-append holds (before_branch tail) (from_branch tail)) ∙ ap (list_all holds) (tail_split tail) ∙ h)

pub all_straights : (holds : PlainBundle → Bool) (bs : List PlainBundle) (rest : PlainParts) → list_all holds bs ≡ true
    → parts_all holds rest ≡ true → parts_all holds (straights bs rest) ≡ true
all_straights holds [] rest hb h = h
all_straights holds (b ∷ bs) rest hb h = and_from (list_all holds (b ∷ bs)) (parts_all holds rest) hb h

module _ (holds : PlainBundle → Bool) (alone : (b : PlainBundle) → holds b ≡ true → holds (lone b.first) ≡ true)
    (second : (i : Instr) → is_second_kind i.op ≡ true → holds (lone i) ≡ true)
    (closed : (a b : PlainBundle) → is_idle b ≡ false → can_join a b ≡ true → holds a ≡ true → holds b ≡ true
    → holds (pair a b) ≡ true) where
  all_iteration : (before tail : List PlainBundle) → list_all holds before ≡ true → list_all holds tail ≡ true
      → list_all holds (iteration_packed before tail) ≡ true
  all_iteration before tail hb h =
      let back = from_branch tail in
      let p = packed (arranged before (before_branch tail) back) in
      let own = all_split holds tail h in
      let front = all_arranged holds alone closed before (before_branch tail) back hb own.0 in
      all_append holds (kept p back) (way p back) (all_kept holds MOST_SLOTS p (freed back) front)
      (all_way holds MOST_SLOTS p (freed back) front (all_freed holds alone second back own.1))

  pub all_merged : (held : List PlainBundle) (ps : PlainParts) → list_all holds held ≡ true → parts_all holds ps ≡ true
      → parts_all holds (parts_merged held ps) ≡ true
  all_merged held no_part hh h = refl
  all_merged held (part (straight bs) rest) hh h =
      let both = and_parts (list_all holds bs) (parts_all holds rest) h in
      all_merged (held ++ bs) rest (all_append holds held bs hh both.0) both.1
  all_merged held (part (repeats count body tail) rest) hh h =
      let both = and_parts (parts_all holds body && list_all holds tail) (parts_all holds rest) h in
      let own = and_parts (parts_all holds body) (list_all holds tail) both.0 in
      all_straights holds (packed held)
      (part (repeats count (parts_merged [] body) (iteration_packed (left_over [] body) tail))
      (parts_merged [] rest)) (all_packed holds alone closed held hh)
      (and_from (parts_all holds (parts_merged [] body) && list_all holds (iteration_packed (left_over [] body) tail))
      (parts_all holds (parts_merged [] rest))
      (and_from (parts_all holds (parts_merged [] body)) (list_all holds (iteration_packed (left_over [] body) tail))
      (all_merged [] body refl own.0) (all_iteration (left_over [] body) tail (left_all holds [] body refl own.0)
      own.1)) (all_merged [] rest refl both.1))
  all_merged held (part (calls_to k tail) rest) hh h =
      let both = and_parts (list_all holds tail) (parts_all holds rest) h in
      let own = all_packed holds alone closed held hh in
      all_straights holds (kept (packed held) tail) (part (calls_to k (way (packed held) tail)) (parts_merged [] rest))
      (all_kept holds MOST_SLOTS (packed held) (freed tail) own)
      (and_from (list_all holds (way (packed held) tail)) (parts_all holds (parts_merged [] rest))
      (all_way holds MOST_SLOTS (packed held) (freed tail) own (all_freed holds alone second tail both.0))
      (all_merged [] rest refl both.1))
  all_merged held (part (leaves tail) rest) hh h =
      let both = and_parts (list_all holds tail) (parts_all holds rest) h in
      let own = all_packed holds alone closed held hh in
      all_straights holds (kept (packed held) tail) (part (leaves (way (packed held) tail)) (parts_merged [] rest))
      (all_kept holds MOST_SLOTS (packed held) (freed tail) own)
      (and_from (list_all holds (way (packed held) tail)) (parts_all holds (parts_merged [] rest))
      (all_way holds MOST_SLOTS (packed held) (freed tail) own (all_freed holds alone second tail both.0))
      (all_merged [] rest refl both.1))

  pub all_function : (ps : PlainParts) → parts_all holds ps ≡ true → parts_all holds (function_merged ps) ≡ true
  all_function ps h =
      let left = left_over [] ps in
      all_joined (parts_merged [] ps) (straights (packed left) no_part) (all_merged [] ps refl h)
      (all_straights holds (packed left) no_part (all_packed holds alone closed left (left_all holds [] ps refl h))
      refl)
    where
      all_joined : (xs ys : PlainParts) → parts_all holds xs ≡ true → parts_all holds ys ≡ true
          → parts_all holds (joined xs ys) ≡ true
      all_joined no_part ys hx hy = hy
      all_joined (part p xs) ys hx hy =
          let both = and_parts (part_all holds p) (parts_all holds xs) hx in
          and_from (part_all holds p) (parts_all holds (joined xs ys)) both.0 (all_joined xs ys both.1 hy)

-- ---- room

words_some : (b : PlainBundle) → 1 ≤ bundle_words b
words_some b = elim (is_long b.first.op || is_some b.second) as (λ two. 1 ≤ (if two then 2 else 1))
    [ true ↦ omega arith | false ↦ omega arith ]

pair_room : (a b : PlainBundle) → can_join a b ≡ true → bundle_room (pair a b) ≤ bundle_room a + bundle_room b
pair_room a b h =
    let two : bundle_words (pair a b) ≡ 2 = ap (λ long. if long || true then 2 else 1) (pairs a b h).first_short in
    omega (arith, two, words_some a, words_some b)

lone_room : (b : PlainBundle) → bundle_room (lone b.first) ≤ bundle_room b
lone_room b = let less = so (is_long b.first.op) b.second in omega (arith, less)
  where
    so : (long : Bool) (o : Option Instr) → (if long || false then 2 else 1) ≤ (if long || is_some o then 2 else 1)
    so true o = omega arith
    so false None = omega arith
    so false (Some i) = omega arith

nop_room : (b : PlainBundle) → bundle_room (without_nop b) ≤ bundle_room b
nop_room = without_nop_as (λ c b. bundle_room c ≤ bundle_room b) (λ b. omega arith) (λ b i is nop. lone_room b)

room_steps : AtEachStep (λ xs ys. bundles_room ys ≤ bundles_room xs)
room_steps = record {
  same = λ bs. omega arith;
  through = λ xs ys zs less fewer. omega (arith, less, fewer);
  behind = λ b xs ys less. omega (arith, less);
  left_out = λ b bs is. omega arith;
  emptied = λ b bs. let less = nop_room b in omega (arith, less);
  joined = λ a b bs busy can. let one = pair_room a b can in omega (arith, one);
  swapped = λ b x bs by. omega arith;
}

pub packed_room : (bs : List PlainBundle) → bundles_room (packed bs) ≤ bundles_room bs
packed_room bs = packed_steps (λ xs ys. bundles_room ys ≤ bundles_room xs) room_steps bs

arranged_room : (held front back : List PlainBundle) → bundles_room (packed (arranged held front back))
    ≤ bundles_room (held ++ front)
arranged_room held front back = arranged_steps (λ xs ys. bundles_room ys ≤ bundles_room xs) room_steps held front back

room_split : (b : PlainBundle) (bs : List PlainBundle) → bundles_room (but_last b bs) + bundle_room (last_or b bs)
    ≡ bundle_room b
    + bundles_room bs
room_split b [] = omega arith
room_split b (c ∷ cs) = let others = room_split c cs in omega (arith, others)

filled_room : (b : PlainBundle) (tail : List PlainBundle) → bundles_room (filled b tail) ≤ bundle_room b
    + bundles_room tail
filled_room b [] = omega arith
filled_room b (t ∷ []) = omega arith
filled_room b (t ∷ slot ∷ slots) = let fewer = room_split slot slots in omega (arith, fewer)

one_room : (bs tail : List PlainBundle) → bundles_room (kept_by_one bs tail) + bundles_room (way_by_one bs tail)
    ≤ bundles_room bs + bundles_room tail
one_room [] tail = omega arith
one_room (b ∷ bs) tail =
    elim (goes_down (b ∷ bs) tail) as (λ down. bundles_room (if down then but_last b bs else b ∷ bs)
    + bundles_room (if down then filled (last_or b bs) tail else tail) ≤ bundle_room b + bundles_room bs
    + bundles_room tail) [
      | true ↦ let front = room_split b bs in let down = filled_room (last_or b bs) tail in omega (arith, front, down)
      | false ↦ omega arith
    ]

way_room : (n : ℕ) (bs tail : List PlainBundle) → bundles_room (kept_after n bs tail)
    + bundles_room (way_after n bs tail)
    ≤ bundles_room bs + bundles_room tail
way_room zero bs tail = omega arith
way_room (suc n) bs tail = let one = one_room bs tail in let others = way_room n (kept_by_one bs tail)
    (way_by_one bs tail) in omega (arith, one, others)

-- one word, and its value does not come late
second_room : (i : Instr) → is_second_kind i.op ≡ true → bundle_room (lone i) ≡ 1
second_room i kind = so i.op kind
  where
    so : (op : Op) → is_second_kind op ≡ true → ((if is_long op || false then 2 else 1) + (if is_late op then 1 else 0))
        ≡ 1
    so (AluImm func rd ra imm) h = refl
    so (AluReg func rd ra rb) h = refl
    so (Cmp func pd ra rb) h = refl
    so (CmpImm func pd ra imm) h = refl
    so (Comb func pd a b) h = refl
    so _ h = absurd (true≢false (sym h))

freed_room : (tail : List PlainBundle) → bundles_room (freed tail) ≤ bundles_room tail
freed_room =
    freed_as (λ xs tail. bundles_room xs ≤ bundles_room tail) (λ tail. omega arith)
    (λ flow slot slots i out.
    let one = lone_room flow in
    let two = second_room i out.kind in
    let last = words_some (last_or slot slots) in
    let fewer = room_split slot slots in
    omega (arith, one, two, last, fewer))

-- with bundles in all delay slots
slots_room : (bs tail : List PlainBundle) → bundles_room (kept bs tail) + bundles_room (way bs tail) ≤ bundles_room bs
    + bundles_room tail
slots_room bs tail =
    let front = way_room MOST_SLOTS bs (freed tail) in let back = freed_room tail in omega (arith, front, back)

straights_room : (bs : List PlainBundle) (rest : PlainParts) → parts_room (straights bs rest) ≡ bundles_room bs
    + parts_room rest
straights_room [] rest = omega arith
straights_room (b ∷ bs) rest = refl

iteration_room : (before tail : List PlainBundle) → bundles_room (iteration_packed before tail) ≤ bundles_room before
    + bundles_room tail
iteration_room before tail =
    let front = before_branch tail in
    let back = from_branch tail in
    let p = packed (arranged before front back) in
    omega (
      arith,
      room_append (kept p back) (way p back),
      slots_room p back,
      arranged_room before front back,
      room_append before front,
      room_append front back,
      ap bundles_room (tail_split tail),
    )

merged_room : (held : List PlainBundle) (ps : PlainParts) → parts_room (parts_merged held ps)
    + bundles_room (left_over held ps) ≤ bundles_room held + parts_room ps
merged_room held no_part = omega arith
merged_room held (part (straight bs) rest) =
    let a = merged_room (held ++ bs) rest in let b = room_append held bs in omega (arith, a, b)
merged_room held (part (repeats count body tail) rest) =
    let left = left_over [] body in
    let a = straights_room (packed held) (part (repeats count (parts_merged [] body) (iteration_packed left tail))
    (parts_merged [] rest)) in
    let b = packed_room held in
    let c = merged_room [] body in
    let d = merged_room [] rest in
    let e = iteration_room left tail in
    omega (arith, a, b, c, d, e)
merged_room held (part (calls_to k tail) rest) =
    let a = straights_room (kept (packed held) tail) (part (calls_to k (way (packed held) tail))
    (parts_merged [] rest)) in
    let b = packed_room held in
    let c = slots_room (packed held) tail in
    let d = merged_room [] rest in
    omega (arith, a, b, c, d)
merged_room held (part (leaves tail) rest) =
    let a = straights_room (kept (packed held) tail) (part (leaves (way (packed held) tail)) (parts_merged [] rest)) in
    let b = packed_room held in
    let c = slots_room (packed held) tail in
    let d = merged_room [] rest in
    omega (arith, a, b, c, d)

room_joined : (xs ys : PlainParts) → parts_room (joined xs ys) ≡ parts_room xs + parts_room ys
room_joined no_part ys = omega arith
room_joined (part p xs) ys = let others = room_joined xs ys in omega (arith, others)

pub function_room : (ps : PlainParts) → parts_room (function_merged ps) ≤ parts_room ps
function_room ps =
    let left = left_over [] ps in
    let a = room_joined (parts_merged [] ps) (straights (packed left) no_part) in
    let b = straights_room (packed left) no_part in
    let c = packed_room left in
    let d = merged_room [] ps in
    omega (arith, a, b, c, d)

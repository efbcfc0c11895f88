-- Packed code, read at once, leaves what the code leaves that it was made of.
use Rattle.std.proofs.Common.{◌≡◌, ℕ, zero, suc, ◌==◌, true, false, true≢false, if◌then◌else◌, List, [], ◌∷◌, ◌++◌, length, map, slice_index_or, refl, sym, ap, ◌∙◌, subst, append_assoc, append-nil}
use Rattle.std.proofs.lemmas.Bool.{and_parts}
use Rattle.std.proofs.lemmas.List.{length-map}
use Rattle.patmos_instr.specs.Bundles.{PlainBundle}
use Rattle.sp_shape.specs.Bundles.{is_idle}
use Rattle.sp_shape.specs.Formed.{is_branch}
use Rattle.sp_shape.specs.Parts.{PlainPart, straight, repeats, calls_to, leaves, PlainParts, no_part, part, PlainShape}
use Rattle.sp_shape.proofs.Whole.{once_whole, begun_whole, run_append, run_whole}
use Rattle.sp_shape.specs.Run.{Run, IsWhole, Sources, once, begun, run}
use Rattle.sp_shape.specs.Trail.{Step, does, begins, all_done, copies, part_trail, parts_trail, trails, trail}
use Rattle.sp_shape.proofs.Joins.{trail_joined}
use Rattle.sp_shape.proofs.Lists.{done_append}
use Rattle.bundle_sched.specs.Ordered.{goes_by}
use Rattle.bundle_sched.specs.Packed.{can_join, pair, lone, last_or}
use Rattle.bundle_sched.specs.Packing.{packed, can_move, lets_pass, has_room, filled, but_last, goes_down, kept_by_one, way_by_one, kept_after, way_after, freed, kept, way, before_branch, from_branch, turned, arranged, iteration_packed, straights, left_over, parts_merged, function_merged, merged}
use Rattle.bundle_sched.specs.declared.slots.TheConstants.{MOST_SLOTS}
use Rattle.bundle_sched.proofs.Commute.{idle_is, idle_once}
use Rattle.bundle_sched.proofs.AfterFlow.{moved_once}
use Rattle.bundle_sched.proofs.Beside.{without_nop_once, beside_once}
use Rattle.bundle_sched.proofs.Freed.{freed_as}
use Rattle.bundle_sched.proofs.EachStep.{AtEachStep, packed_steps, arranged_steps}
use Rattle.bundle_sched.proofs.Swapping.{swap_once, join_once}

-- ---- trails that leave the same, read at once

pub record Alike (from : Sources) (xs ys : List Step) : Type 0 where
  pub runs : (m : Run) → IsWhole m → run from xs m ≡ run from ys m

pub alike_same : (from : Sources) (xs : List Step) → Alike from xs xs
alike_same from xs = record { runs = λ m whole. refl }

pub alike_then : {from : Sources} {xs ys us vs : List Step} → Alike from xs us → Alike from ys vs
    → Alike from (xs ++ ys) (us ++ vs)
alike_then {from} {xs} {ys} {us} {vs} a b = record {
  runs = λ m whole. run_append from xs ys m ∙ ap (run from ys) (a.runs m whole)
      ∙ b.runs (run from us m) (run_whole from us m whole) ∙ sym (run_append from us vs m);
}

pub alike_on : {from : Sources} {xs ys zs : List Step} → Alike from xs ys → Alike from ys zs → Alike from xs zs
alike_on a b = record { runs = λ m whole. a.runs m whole ∙ b.runs m whole }

pub alike_is : (from : Sources) (xs ys : List Step) → xs ≡ ys → Alike from xs ys
alike_is from xs ys is = record { runs = λ m whole. ap (λ zs. run from zs m) is }

pub alike_begun : {from : Sources} {xs ys : List Step} → Alike from xs ys → Alike from (begins ∷ xs) (begins ∷ ys)
alike_begun a = record { runs = λ m whole. a.runs (begun m) (begun_whole m whole) }

pub alike_done : {from : Sources} (b : PlainBundle) {xs ys : List Step} → Alike from xs ys
    → Alike from (does b ∷ xs) (does b ∷ ys)
alike_done {from} b a = record { runs = λ m whole. a.runs (once from b m) (once_whole from b m whole) }

pub alike_copies : {from : Sources} {xs ys : List Step} → Alike from xs ys → (n : ℕ)
    → Alike from (copies n xs) (copies n ys)
alike_copies {from} a zero = alike_same from []
alike_copies a (suc n) = alike_then a (alike_copies a n)

-- ---- bundles

left_out : (from : Sources) (b : PlainBundle) (bs : List Step) → is_idle b ≡ true → Alike from bs (does b ∷ bs)
left_out from b bs is = record {
  runs = λ m whole. ap (run from bs) (sym (ap (λ x. once from x m) (idle_is b is)
      ∙ idle_once from m whole));
}

in_one : (from : Sources) (a b : PlainBundle) (bs : List Step) → can_join a b ≡ true
    → Alike from (does (pair a b) ∷ bs) (does a ∷ does b ∷ bs)
in_one from a b bs can = record { runs = λ m whole. ap (run from bs) (join_once from a b m whole can) }

changed : (from : Sources) (b x : PlainBundle) (bs : List Step) → goes_by b x ≡ true
    → Alike from (does x ∷ does b ∷ bs) (does b ∷ does x ∷ bs)
changed from b x bs by = record { runs = λ m whole. ap (run from bs) (sym (swap_once from b x m whole by)) }

alike_steps : (from : Sources) → AtEachStep (λ xs ys. Alike from (all_done ys) (all_done xs))
alike_steps from = record {
  same = λ bs. alike_same from (all_done bs);
  through = λ xs ys zs a b. alike_on b a;
  behind = λ b xs ys a. alike_done b a;
  left_out = λ b bs is. left_out from b (all_done bs) is;
  emptied = λ b bs. record { runs = λ m whole. ap (run from (all_done bs)) (without_nop_once from b m whole) };
  joined = λ a b bs busy can. in_one from a b (all_done bs) can;
  swapped = λ b x bs by. changed from b x (all_done bs) by;
}

pub packed_alike : (from : Sources) (bs : List PlainBundle) → Alike from (all_done (packed bs)) (all_done bs)
packed_alike from bs = packed_steps (λ xs ys. Alike from (all_done ys) (all_done xs)) (alike_steps from) bs

arranged_alike : (from : Sources) (held front back : List PlainBundle)
    → Alike from (all_done (packed (arranged held front back))) (all_done (held ++ front))
arranged_alike from held front back =
    arranged_steps (λ xs ys. Alike from (all_done ys) (all_done xs)) (alike_steps from) held front back

-- ---- a bundle in a delay slot

pub in_front : (b : PlainBundle) (bs xs : List PlainBundle) → but_last b bs ++ (last_or b bs ∷ xs) ≡ b ∷ (bs ++ xs)
in_front b [] xs = refl
in_front b (c ∷ cs) xs = ap (λ ys. b ∷ ys) (in_front c cs xs)

-- a last bundle that does nothing, left out
pub last_left : (from : Sources) (b : PlainBundle) (bs : List PlainBundle) → is_idle (last_or b bs) ≡ true
    → Alike from (all_done (but_last b bs)) (all_done (b ∷ bs))
last_left from b [] is = left_out from b [] is
last_left from b (c ∷ cs) is = alike_done b (last_left from c cs is)

-- the flow after a bundle, and the bundle in its first slot
slot_filled : (from : Sources) (b : PlainBundle) (tail : List PlainBundle) → can_move b ≡ true → has_room b tail ≡ true
    → Alike from (all_done (filled b tail)) (all_done (b ∷ tail))
slot_filled from b [] can room = absurd (true≢false (sym room))
slot_filled from b (t ∷ []) can room = absurd (true≢false (sym room))
slot_filled from b (t ∷ slot ∷ slots) can room =
    let both = and_parts (lets_pass t b) (is_idle (last_or slot slots)) room in
    alike_on (record {
      runs = λ m whole. ap (run from (all_done (but_last slot slots)))
          (moved_once from b can t m whole both.0);
    })
    (alike_done b (alike_done t (last_left from slot slots both.1)))

one_alike : (from : Sources) (bs tail : List PlainBundle) → Alike from (all_done (kept_by_one bs tail)
    ++ all_done (way_by_one bs tail)) (all_done bs ++ all_done tail)
one_alike from [] tail = alike_same from (all_done tail)
one_alike from (b ∷ bs) tail =
    elim (goes_down (b ∷ bs) tail) as (λ down. goes_down (b ∷ bs) tail ≡ down
    → Alike from (all_done (if down then but_last b bs else b ∷ bs)
    ++ all_done (if down then filled (last_or b bs) tail else tail)) (all_done (b ∷ bs) ++ all_done tail)) [
      | true ↦ λ is.
          let both = and_parts (can_move (last_or b bs)) (has_room (last_or b bs) tail) is in
          alike_on (alike_then (alike_same from (all_done (but_last b bs)))
          (slot_filled from (last_or b bs) tail both.0 both.1))
          (alike_is from (all_done (but_last b bs) ++ all_done (last_or b bs ∷ tail)) (all_done (b ∷ bs)
          ++ all_done tail)
          (sym (done_append (but_last b bs) (last_or b bs ∷ tail)) ∙ ap all_done (in_front b bs tail)
          ∙ done_append (b ∷ bs) tail))
      | false ↦ λ is. alike_same from (all_done (b ∷ bs) ++ all_done tail)
    ] refl

way_alike : (from : Sources) (n : ℕ) (bs tail : List PlainBundle) → Alike from (all_done (kept_after n bs tail)
    ++ all_done (way_after n bs tail)) (all_done bs ++ all_done tail)
way_alike from zero bs tail = alike_same from (all_done bs ++ all_done tail)
way_alike from (suc n) bs tail =
    alike_on (way_alike from n (kept_by_one bs tail) (way_by_one bs tail)) (one_alike from bs tail)

-- a tail with its flow alone
freed_alike : (from : Sources) (tail : List PlainBundle) → Alike from (all_done (freed tail)) (all_done tail)
freed_alike from tail =
    freed_as (λ xs tail. Alike from (all_done xs) (all_done tail)) (λ tail. alike_same from (all_done tail))
    (λ flow slot slots i out.
    alike_on (alike_done (lone flow.first) (alike_done (lone i) (last_left from slot slots out.idles)))
    (record {
      runs = λ m whole. ap (run from (all_done (slot ∷ slots))) (beside_once from flow (last_or slot slots) i m
          whole out);
    })) tail

-- bundles in all delay slots
pub slots_alike : (from : Sources) (bs tail : List PlainBundle) → Alike from (all_done (kept bs tail)
    ++ all_done (way bs tail)) (all_done bs ++ all_done tail)
slots_alike from bs tail = alike_on (way_alike from MOST_SLOTS bs (freed tail))
    (alike_then (alike_same from (all_done bs)) (freed_alike from tail))

-- ---- tails of loops

pub tail_split : (tail : List PlainBundle) → before_branch tail ++ from_branch tail ≡ tail
tail_split [] = refl
tail_split (b ∷ bs) =
    elim (is_branch b.first.op) as (λ back. (if back then [] else b ∷ before_branch bs)
    ++ (if back then b ∷ bs else from_branch bs) ≡ b ∷ bs) [
      | true ↦ refl
      | false ↦ ap (λ xs. b ∷ xs)
          (tail_split bs)
    ]

pub iteration_alike : (from : Sources) (held tail : List PlainBundle)
    → Alike from (all_done (iteration_packed held tail))
    (all_done held ++ all_done tail)
iteration_alike from held tail =
    let front = before_branch tail in
    let back = from_branch tail in
    let p = packed (arranged held front back) in
    alike_on (alike_is from (all_done (turned p back)) (all_done (kept p back) ++ all_done (way p back))
    (done_append (kept p back) (way p back)))
    (alike_on (slots_alike from p back)
    (alike_on (alike_then (arranged_alike from held front back) (alike_same from (all_done back)))
    (alike_is from (all_done (held ++ front) ++ all_done back) (all_done held ++ all_done tail)
    (ap (λ xs. xs ++ all_done back) (done_append held front) ∙ append_assoc (all_done held) (all_done front)
    (all_done back)
    ∙ ap (λ xs. all_done held ++ xs) (sym (done_append front back) ∙ ap all_done (tail_split tail))))))

-- an iteration, of whose body some straight code comes with the tail
pub body_alike : (from : Sources) (xs us : List Step) (left tail : List PlainBundle)
    → Alike from (xs ++ all_done left) us
    → Alike from (xs ++ all_done (iteration_packed left tail)) (us ++ all_done tail)
body_alike from xs us left tail a =
    alike_on (alike_then (alike_same from xs) (iteration_alike from left tail))
    (alike_on (alike_is from (xs ++ (all_done left ++ all_done tail)) ((xs ++ all_done left) ++ all_done tail)
    (sym (append_assoc xs (all_done left) (all_done tail)))) (alike_then a (alike_same from (all_done tail))))

-- ---- parts, over trails of functions that leave the same

pub straights_trail : (f : ℕ → List Step) (bs : List PlainBundle) (rest : PlainParts)
    → parts_trail f (straights bs rest)
    ≡ all_done bs ++ parts_trail f rest
straights_trail f [] rest = refl
straights_trail f (b ∷ bs) rest = refl

module _ (from : Sources) (f g : ℕ → List Step) (each : (k : ℕ) → Alike from (g k) (f k)) where
  -- straight code and a part after it
  pub leave_front : (held tail : List PlainBundle) → Alike from (all_done (kept (packed held) tail)
      ++ all_done (way (packed held) tail)) (all_done held ++ all_done tail)
  leave_front held tail = alike_on (slots_alike from (packed held) tail) (alike_then (packed_alike from held)
      (alike_same from (all_done tail)))

  pub way_front : (held tail : List PlainBundle) (xs us : List Step) → Alike from xs us
      → Alike from (all_done (kept (packed held) tail) ++ (all_done (way (packed held) tail) ++ xs)) (all_done held
      ++ (all_done tail ++ us))
  way_front held tail xs us a =
      let p = kept (packed held) tail in
      let q = way (packed held) tail in
      alike_on (alike_is from (all_done p ++ (all_done q ++ xs)) ((all_done p ++ all_done q) ++ xs)
      (sym (append_assoc (all_done p) (all_done q) xs)))
      (alike_on (alike_then (leave_front held tail) a) (alike_is from ((all_done held ++ all_done tail) ++ us)
      (all_done held ++ (all_done tail ++ us)) (append_assoc (all_done held) (all_done tail) us)))

  pub call_front : (held : List PlainBundle) (k : ℕ) (tail : List PlainBundle)
      → Alike from (all_done (kept (packed held) tail)
      ++ (all_done (way (packed held) tail) ++ begins ∷ g k)) (all_done held ++ (all_done tail ++ begins ∷ f k))
  call_front held k tail = way_front held tail (begins ∷ g k) (begins ∷ f k) (alike_begun (each k))

  pub repeat_front : (held : List PlainBundle) (count : ℕ) (body : PlainParts) (tail : List PlainBundle)
      → Alike from (parts_trail g (parts_merged [] body) ++ all_done (left_over [] body)) (parts_trail f body)
      → Alike from (all_done (packed held) ++ copies count (parts_trail g (parts_merged [] body)
      ++ all_done (iteration_packed (left_over [] body) tail))) (all_done held ++ copies count (parts_trail f body
      ++ all_done tail))
  repeat_front held count body tail a =
      alike_then (packed_alike from held) (alike_copies (body_alike from (parts_trail g (parts_merged [] body))
      (parts_trail f body) (left_over [] body) tail a) count)

  -- and what comes after them
  then_left : (bs held left : List PlainBundle) (q p : PlainPart) (ms rest : PlainParts)
      → Alike from (all_done bs ++ part_trail g q) (all_done held ++ part_trail f p)
      → Alike from (parts_trail g ms ++ all_done left) (parts_trail f rest)
      → Alike from (parts_trail g (straights bs (part q ms)) ++ all_done left) (all_done held
      ++ (part_trail f p ++ parts_trail f rest))
  then_left bs held left q p ms rest a b =
      let own = part_trail g q in
      let more = parts_trail g ms in
      alike_on (alike_is from (parts_trail g (straights bs (part q ms)) ++ all_done left) ((all_done bs ++ own)
      ++ (more ++ all_done left))
      (ap (λ xs. xs ++ all_done left) (straights_trail g bs (part q ms) ∙ sym (append_assoc (all_done bs) own more))
      ∙ append_assoc (all_done bs ++ own) more (all_done left)))
      (alike_on (alike_then a b) (alike_is from ((all_done held ++ part_trail f p) ++ parts_trail f rest) (all_done held
      ++ (part_trail f p ++ parts_trail f rest)) (append_assoc (all_done held) (part_trail f p)
      (parts_trail f rest))))

  pub merged_alike : (held : List PlainBundle) (ps : PlainParts) → Alike from (parts_trail g (parts_merged held ps)
      ++ all_done (left_over held ps)) (all_done held ++ parts_trail f ps)
  merged_alike held no_part = alike_is from (all_done held) (all_done held ++ []) (sym (append-nil (all_done held)))
  merged_alike held (part (straight bs) rest) =
      alike_on (merged_alike (held ++ bs) rest)
      (alike_is from (all_done (held ++ bs) ++ parts_trail f rest) (all_done held
      ++ (all_done bs ++ parts_trail f rest))
      (ap (λ xs. xs ++ parts_trail f rest) (done_append held bs) ∙ append_assoc (all_done held) (all_done bs)
      (parts_trail f rest)))
  merged_alike held (part (repeats count body tail) rest) =
      then_left (packed held) held (left_over [] rest) (repeats count (parts_merged [] body)
      (iteration_packed (left_over [] body) tail)) (repeats count body tail) (parts_merged [] rest) rest
      (repeat_front held count body tail (merged_alike [] body)) (merged_alike [] rest)
  merged_alike held (part (calls_to k tail) rest) =
      then_left (kept (packed held) tail) held (left_over [] rest) (calls_to k (way (packed held) tail))
      (calls_to k tail) (parts_merged [] rest) rest (call_front held k tail) (merged_alike [] rest)
  merged_alike held (part (leaves tail) rest) =
      then_left (kept (packed held) tail) held (left_over [] rest) (leaves (way (packed held) tail)) (leaves tail)
      (parts_merged [] rest) rest (leave_front held tail) (merged_alike [] rest)

  pub function_alike : (ps : PlainParts) → Alike from (parts_trail g (function_merged ps)) (parts_trail f ps)
  function_alike ps =
      let left = left_over [] ps in
      let xs = parts_trail g (parts_merged [] ps) in
      alike_on (alike_is from (parts_trail g (function_merged ps)) (xs ++ all_done (packed left))
      (trail_joined g (parts_merged [] ps) (straights (packed left) no_part)
      ∙ ap (λ ys. xs ++ ys) (straights_trail g (packed left) no_part ∙ append-nil (all_done (packed left)))))
      (alike_on (alike_then (alike_same from xs) (packed_alike from left)) (merged_alike [] ps))

-- ---- functions and shapes

pub merged_at : (fs : List PlainParts) (n : ℕ) → slice_index_or (map function_merged fs) n no_part
    ≡ function_merged (slice_index_or fs n no_part)
merged_at [] n = refl
merged_at (ps ∷ fs) zero = refl
merged_at (ps ∷ fs) (suc n) = merged_at fs n

pub functions_alike : (from : Sources) (fs : List PlainParts) (n k : ℕ)
    → Alike from (trails (map function_merged fs) n k) (trails fs n k)
functions_alike from fs zero k = alike_same from []
functions_alike from fs (suc n) k =
    let gs = map function_merged fs in
    let earlier = λ (j : ℕ). functions_alike from fs n j in
    let own = function_alike from (trails fs n) (trails gs n) earlier (slice_index_or fs n no_part) in
    elim (k == n) as (λ b. Alike from (if b then parts_trail (trails gs n) (slice_index_or gs n no_part) else trails gs
    n k) (if b then parts_trail (trails fs n) (slice_index_or fs n no_part) else trails fs n k)) [
      | true ↦ subst (λ ps. Alike from (parts_trail (trails gs n) ps)
          (parts_trail (trails fs n) (slice_index_or fs n no_part))) (sym (merged_at fs n)) own
      | false ↦ earlier k
    ]

pub merged_runs : (s : PlainShape) (from : Sources) (m : Run) → IsWhole m → run from (trail (merged s)) m
    ≡ run from (trail s) m
merged_runs s from m whole =
    ap (λ n. run from (trails (map function_merged s.functions) n s.entry) m) (length-map s.functions function_merged)
    ∙ (functions_alike from s.functions (length s.functions) s.entry).runs m whole

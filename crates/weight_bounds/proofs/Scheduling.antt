-- Scheduled code has no more iterations, calls and transactions past one than the code that is scheduled.
use Rattle.std.proofs.Common.{◌≡◌, ℕ, zero, suc, ◌+◌, ◌≤◌, Bool, true, false, true≢false, if◌then◌else◌, List, [], ◌∷◌, ◌++◌, sym, ap, arith, mul-le-mul_left}
use Rattle.patmos_instr.specs.Bundles.{PlainBundle}
use Rattle.patmos_instr.specs.Instructions.{is_second_kind}
use Rattle.patmos_instr.specs.declared.instructions.Instr.{Instr}
use Rattle.patmos_instr.specs.declared.instructions.Op.{Op}
use Rattle.patmos_instr.specs.declared.instructions.Op.TheVariants.{AluImm, AluReg, Cmp, CmpImm, Comb}
use Rattle.sp_shape.specs.Small.{idle}
use Rattle.sp_shape.specs.Parts.{PlainPart, straight, repeats, calls_to, leaves, PlainParts, no_part, part}
use Rattle.cycle_bound.specs.Bound.{op_moves}
use Rattle.bundle_sched.specs.Packed.{lone, last_or}
use Rattle.bundle_sched.specs.Packing.{packed, arranged, filled, but_last, goes_down, kept_by_one, way_by_one, kept_after, way_after, freed, kept, way, before_branch, from_branch, iteration_packed, straights, left_over, parts_merged, function_merged}
use Rattle.bundle_sched.specs.Placed.{is_awaited, spaced, part_placed, parts_placed}
use Rattle.bundle_sched.specs.declared.slots.TheConstants.{MOST_SLOTS}
use Rattle.bundle_sched.proofs.Alike.{tail_split}
use Rattle.bundle_sched.proofs.EachStep.{AtEachStep, packed_steps, arranged_steps}
use Rattle.bundle_sched.proofs.Freed.{without_nop_as, freed_as}
use Rattle.weight_bounds.specs.Counts.{part_iterations, parts_iterations, part_calls, parts_calls, bundle_past, bundles_past, part_past, parts_past}
use Rattle.weight_bounds.proofs.Joins.{some_iterations, joined_iterations, joined_calls, joined_past, past_append}

-- ---- transactions past one, of bundles

past_steps : AtEachStep (λ xs ys. bundles_past ys ≤ bundles_past xs)
past_steps = record {
  same = λ bs. omega arith;
  through = λ xs ys zs less fewer. omega (arith, less, fewer);
  behind = λ b xs ys less. omega (arith, less);
  left_out = λ b bs is. omega arith;
  emptied = λ b bs. let less = without_nop_as (λ c b. bundle_past c ≤ bundle_past b) (λ b. omega arith)
      (λ b i is nop. omega arith) b in omega (arith, less);
  joined = λ a b bs busy can. omega arith;
  swapped = λ b x bs by. omega arith;
}

packed_past : (bs : List PlainBundle) → bundles_past (packed bs) ≤ bundles_past bs
packed_past bs = packed_steps (λ xs ys. bundles_past ys ≤ bundles_past xs) past_steps bs

arranged_past : (held front back : List PlainBundle) → bundles_past (packed (arranged held front back))
    ≤ bundles_past (held ++ front)
arranged_past held front back = arranged_steps (λ xs ys. bundles_past ys ≤ bundles_past xs) past_steps held front back

past_split : (b : PlainBundle) (bs : List PlainBundle) → bundles_past (but_last b bs) + bundle_past (last_or b bs)
    ≡ bundle_past b
    + bundles_past bs
past_split b [] = omega arith
past_split b (c ∷ cs) = omega (arith, past_split c cs)

filled_past : (b : PlainBundle) (tail : List PlainBundle) → bundles_past (filled b tail) ≤ bundle_past b
    + bundles_past tail
filled_past b [] = omega arith
filled_past b (t ∷ []) = omega arith
filled_past b (t ∷ slot ∷ slots) = omega (arith, past_split slot slots)

one_past : (bs tail : List PlainBundle) → bundles_past (kept_by_one bs tail) + bundles_past (way_by_one bs tail)
    ≤ bundles_past bs + bundles_past tail
one_past [] tail = omega arith
one_past (b ∷ bs) tail =
    elim (goes_down (b ∷ bs) tail) as (λ down. bundles_past (if down then but_last b bs else b ∷ bs)
    + bundles_past (if down then filled (last_or b bs) tail else tail) ≤ bundle_past b + bundles_past bs
    + bundles_past tail) [
      | true ↦ omega (arith, past_split b bs, filled_past (last_or b bs) tail)
      | false ↦ omega arith
    ]

way_past : (n : ℕ) (bs tail : List PlainBundle) → bundles_past (kept_after n bs tail)
    + bundles_past (way_after n bs tail)
    ≤ bundles_past bs + bundles_past tail
way_past zero bs tail = omega arith
way_past (suc n) bs tail = omega (arith, one_past bs tail, way_past n (kept_by_one bs tail) (way_by_one bs tail))

second_past : (i : Instr) → is_second_kind i.op ≡ true → bundle_past (lone i) ≡ 0
second_past i kind = let none = so i.op kind in omega (arith, none)
  where
    so : (op : Op) → is_second_kind op ≡ true → op_moves op ≡ 0
    so (AluImm func rd ra imm) h = omega arith
    so (AluReg func rd ra rb) h = omega arith
    so (Cmp func pd ra rb) h = omega arith
    so (CmpImm func pd ra imm) h = omega arith
    so (Comb func pd a b) h = omega arith
    so _ h = absurd (true≢false (sym h))

freed_past : (tail : List PlainBundle) → bundles_past (freed tail) ≤ bundles_past tail
freed_past = freed_as (λ xs tail. bundles_past xs ≤ bundles_past tail) (λ tail. omega arith)
    (λ flow slot slots i out. omega (arith, second_past i out.kind, past_split slot slots))

slots_past : (bs tail : List PlainBundle) → bundles_past (kept bs tail) + bundles_past (way bs tail) ≤ bundles_past bs
    + bundles_past tail
slots_past bs tail = omega (arith, way_past MOST_SLOTS bs (freed tail), freed_past tail)

iteration_past : (before tail : List PlainBundle) → bundles_past (iteration_packed before tail) ≤ bundles_past before
    + bundles_past tail
iteration_past before tail =
    let front = before_branch tail in
    let back = from_branch tail in
    let p = packed (arranged before front back) in
    omega (
      arith,
      past_append (kept p back) (way p back),
      slots_past p back,
      arranged_past before front back,
      past_append before front,
      past_append front back,
      ap bundles_past (tail_split tail),
    )

spaced_past : (bs : List PlainBundle) → bundles_past (spaced bs) ≤ bundles_past bs
spaced_past [] = omega arith
spaced_past (b ∷ bs) = by (is_awaited b bs) (spaced_past bs)
  where
    by : (late : Bool) → bundles_past (spaced bs) ≤ bundles_past bs
        → bundles_past ((if late then b ∷ idle ∷ [] else b ∷ []) ++ spaced bs) ≤ bundles_past (b ∷ bs)
    by true others = omega (arith, others)
    by false others = omega (arith, others)

-- ---- of parts

-- code with no more of each than other code, and some straight code that is left over
pub record Keeps (ps qs : PlainParts) (held left : List PlainBundle) : Type 0 where
  pub iterations : parts_iterations qs ≤ parts_iterations ps
  pub calls : parts_calls qs ≤ parts_calls ps
  pub past : parts_past qs + bundles_past left ≤ bundles_past held + parts_past ps

record Straight (bs : List PlainBundle) (rest : PlainParts) : Type 0 where
  iterations : parts_iterations (straights bs rest) ≡ parts_iterations rest
  calls : parts_calls (straights bs rest) ≡ parts_calls rest
  past : parts_past (straights bs rest) ≡ bundles_past bs + parts_past rest

straights_are : (bs : List PlainBundle) (rest : PlainParts) → Straight bs rest
straights_are [] rest = record { iterations = omega arith; calls = omega arith; past = omega arith }
straights_are (b ∷ bs) rest =
    record { iterations = omega (arith, some_iterations rest); calls = omega arith; past = omega arith }

merged_keeps : (held : List PlainBundle) (ps : PlainParts) → Keeps ps (parts_merged held ps) held (left_over held ps)
merged_keeps held no_part = record { iterations = omega arith; calls = omega arith; past = omega arith }
merged_keeps held (part (straight bs) rest) =
    let a = merged_keeps (held ++ bs) rest in
    record {
      iterations = omega (arith, a.iterations);
      calls = omega (arith, a.calls);
      past = omega (
        arith,
        a.past,
        past_append held bs,
      );
    }
merged_keeps held (part (repeats count body tail) rest) =
    let left = left_over [] body in
    let s = straights_are (packed held) (part (repeats count (parts_merged [] body) (iteration_packed left tail))
    (parts_merged [] rest)) in
    let a = merged_keeps [] body in
    let b = merged_keeps [] rest in
    let times = mul-le-mul_left count a.iterations in
    record {
      iterations = omega (arith, s.iterations, times, b.iterations);
      calls = omega (arith, s.calls, a.calls, b.calls);
      past = omega (arith, s.past, a.past, b.past, packed_past held, iteration_past left tail);
    }
merged_keeps held (part (calls_to k tail) rest) =
    let p = packed held in
    let s = straights_are (kept p tail) (part (calls_to k (way p tail)) (parts_merged [] rest)) in
    let b = merged_keeps [] rest in
    record {
      iterations = omega (arith, s.iterations, b.iterations);
      calls = omega (arith, s.calls, b.calls);
      past = omega (arith, s.past, b.past, packed_past held, slots_past p tail);
    }
merged_keeps held (part (leaves tail) rest) =
    let p = packed held in
    let s = straights_are (kept p tail) (part (leaves (way p tail)) (parts_merged [] rest)) in
    let b = merged_keeps [] rest in
    record {
      iterations = omega (arith, s.iterations, b.iterations);
      calls = omega (arith, s.calls, b.calls);
      past = omega (arith, s.past, b.past, packed_past held, slots_past p tail);
    }

pub record IsNoMore (ps qs : PlainParts) : Type 0 where
  pub iterations : parts_iterations qs ≤ parts_iterations ps
  pub calls : parts_calls qs ≤ parts_calls ps
  pub past : parts_past qs ≤ parts_past ps

function_keeps : (ps : PlainParts) → IsNoMore ps (function_merged ps)
function_keeps ps =
    let left = left_over [] ps in
    let last = straights (packed left) no_part in
    let a = merged_keeps [] ps in
    let s = straights_are (packed left) no_part in
    record {
      iterations =
          omega (arith, joined_iterations (parts_merged [] ps) last, a.iterations, s.iterations, some_iterations ps);
      calls = omega (arith, joined_calls (parts_merged [] ps) last, a.calls, s.calls);
      past = omega (arith, joined_past (parts_merged [] ps) last, a.past, s.past, packed_past left);
    }

mutual
  part_placed_iterations : (p : PlainPart) → part_iterations (part_placed p) ≤ part_iterations p
  part_placed_iterations (repeats count body tail) =
      let times = mul-le-mul_left count (parts_placed_keep body).iterations in omega (arith, times)
  part_placed_iterations _ = omega arith

  part_placed_calls : (p : PlainPart) → part_calls (part_placed p) ≤ part_calls p
  part_placed_calls (repeats count body tail) = omega (arith, (parts_placed_keep body).calls)
  part_placed_calls _ = omega arith

  part_placed_past : (p : PlainPart) → part_past (part_placed p) ≤ part_past p
  part_placed_past (straight bs) = omega (arith, spaced_past bs)
  part_placed_past (repeats count body tail) = omega (arith, (parts_placed_keep body).past, spaced_past tail)
  part_placed_past (calls_to k tail) = omega (arith, spaced_past tail)
  part_placed_past (leaves tail) = omega (arith, spaced_past tail)

  parts_placed_keep : (ps : PlainParts) → IsNoMore ps (parts_placed ps)
  parts_placed_keep no_part = record { iterations = omega arith; calls = omega arith; past = omega arith }
  parts_placed_keep (part p rest) =
      let a = parts_placed_keep rest in
      record {
        iterations = omega (arith, part_placed_iterations p, a.iterations);
        calls = omega (arith, part_placed_calls p, a.calls);
        past = omega (arith, part_placed_past p, a.past);
      }

pub scheduled_has_no_more : (ps : PlainParts) → IsNoMore ps (parts_placed (function_merged ps))
scheduled_has_no_more ps =
    let a = function_keeps ps in
    let b = parts_placed_keep (function_merged ps) in
    record {
      iterations = omega (arith, a.iterations, b.iterations);
      calls = omega (arith, a.calls, b.calls);
      past = omega (arith, a.past, b.past);
    }

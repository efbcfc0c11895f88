-- The loop of a division makes all its iterations.
use Rattle.std.proofs.Common.{◌≡◌, ℕ, zero, suc, ◌^◌, ◌<◌, ◌==◌, not, List, [], ◌∷◌, ◌++◌, refl, ap, ◌∙◌, arith, ne_eqb}
use Rattle.patmos_instr.specs.Bundles.{PlainBundle}
use Rattle.patmos_instr.specs.declared.functions.CmpFunc.TheVariants as cmp
use Rattle.patmos_instr.specs.declared.functions.ImmFunc.TheVariants as imm
use Rattle.sp_shape.proofs.Whole.{once_whole, run_whole}
use Rattle.sp_shape.specs.Parts.{no_part}
use Rattle.sp_shape.specs.Run.{Run, Sources, Back, branches, once, run, IsWhole}
use Rattle.sp_shape.specs.Trail.{Step, all_done}
use Rattle.sp_shape.specs.Iterating.{AsksAgain, AsksNoMore, AllIterations, PartsIteration}
use Rattle.sp_emit.specs.Division.{operands, without_signs, highest_bit, four_digits, digit_iteration, digit_tail, around}
use Rattle.sp_emit.specs.Holding.{held, so}
use Rattle.sp_emit.specs.Instructions.{always, set_short, copy, with_short, compare_short}
use Rattle.sp_emit.specs.declared.registers.TheConstants.{DIVIDEND, DIVISOR, REMAINDER, DIGITS, MORE}
use Rattle.sp_emit.proofs.Asking.{same_ways, back_again, again, no_more, counts_down, tests_count}
use Rattle.sp_emit.proofs.Dividing.{run_before}
use Rattle.sp_emit.proofs.Leaving.{did_set_short}
use Rattle.sp_emit.proofs.Once.{got}
use Rattle.sp_emit.proofs.Untouched.{register, predicate, left_once, left_run}

-- ---- an iteration

-- the iterations that are left, before the branch
record Counted (n : ℕ) (m t : Run) : Type 0 where
  whole : IsWhole t
  more : so MORE t ≡ not (n == 0)
  left : held DIGITS t ≡ n
  ways : t.ways ≡ m.ways

iteration_counted : (from : Sources) (n : ℕ) (m : Run) → IsWhole m → held DIGITS m ≡ suc n → suc n < 2 ^ 32
    → Counted n m (run from (all_done digit_iteration) m)
iteration_counted from n m whole is word =
    let m1 = once from (with_short always imm.Sub DIGITS DIGITS 1) m in
    let h1 = once_whole from (with_short always imm.Sub DIGITS DIGITS 1) m whole in
    let c1 = counts_down from DIGITS n m whole (omega arith) (omega arith) is word in
    let m2 = once from (compare_short cmp.Neq MORE DIGITS 0) m1 in
    let h2 = once_whole from (compare_short cmp.Neq MORE DIGITS 0) m1 h1 in
    record {
      whole = run_whole from (all_done digit_iteration) m whole;
      more = left_run from (predicate MORE) four_digits m2 (omega arith) h2 refl
          ∙ tests_count from MORE DIGITS n m1 h1 (omega arith) (omega arith) c1;
      left = left_run from (register DIGITS) (compare_short cmp.Neq MORE DIGITS 0 ∷ four_digits) m1
          (omega arith) h1 refl ∙ c1;
      ways = same_ways from digit_iteration m refl;
    }

tail_again : (from : Sources) (n : ℕ) (m : Run) → IsWhole m → held DIGITS m ≡ suc (suc n) → suc (suc n) < 2 ^ 32
    → AsksAgain (run from) digit_tail m
tail_again from n m whole is word =
    let c = iteration_counted from (suc n) m whole is word in
    again from MORE (run from (all_done digit_iteration) m) c.whole (c.more ∙ ap not (ne_eqb (suc n) 0 (omega arith)))
    ∙ ap (λ w. w ++ branches ∷ []) c.ways

tail_no_more : (from : Sources) (m : Run) → IsWhole m → held DIGITS m ≡ 1 → AsksNoMore (run from) digit_tail m
tail_no_more from m whole is =
    let c = iteration_counted from 0 m whole is (omega arith) in
    no_more from MORE (run from (all_done digit_iteration) m) c.whole c.more ∙ c.ways

tail_left : (from : Sources) (n : ℕ) (m : Run) → IsWhole m → held DIGITS m ≡ suc n → suc n < 2 ^ 32
    → held DIGITS (run from (all_done digit_tail) m) ≡ n
tail_left from n m whole is word =
    let c = iteration_counted from n m whole is word in
    left_run from (register DIGITS) (back_again MORE) (run from (all_done digit_iteration) m) (omega arith) c.whole refl
    ∙ c.left

-- ---- all iterations

pub digits_iteration : (from : Sources) (f : ℕ → List Step) (Called : ℕ → Run → Type 0) (back : Back) (n : ℕ)
    → n < 2 ^ 32 → (m : Run) → IsWhole m → held DIGITS m ≡ n
    → AllIterations (run from) (PartsIteration (run from) f Called back no_part) [] digit_tail n m
digits_iteration from f Called back zero word m whole is = tt
digits_iteration from f Called back (suc zero) word m whole is = (tt, tail_no_more from m whole is)
digits_iteration from f Called back (suc (suc n)) word m whole is = (
  tt,
  tail_again from n m whole is word,
  digits_iteration from f Called back (suc n) (omega (arith, word)) (run from (all_done digit_tail) m)
      (run_whole from (all_done digit_tail) m whole) (tail_left from (suc n) m whole is word),
)

-- the operands stand in their registers, and 8 iterations are to be made
operands_set : (from : Sources) (ra rb : ℕ) (m : Run) → IsWhole m → held DIGITS (run from (all_done (operands ra rb)) m)
    ≡ 8
operands_set from ra rb m whole =
    let n = run from (all_done (copy DIVIDEND ra ∷ copy DIVISOR rb ∷ set_short always REMAINDER 0 ∷ [])) m in
    let h = run_whole from (all_done (copy DIVIDEND ra ∷ copy DIVISOR rb ∷ set_short always REMAINDER 0 ∷ [])) m
    whole in
    ap (held DIGITS) (did_set_short from always DIGITS 8 n h h.fits.always)
    ∙ got DIGITS _ n h (omega arith) (omega arith)

around_iterations : (from : Sources) (f : ℕ → List Step) (Called : ℕ → Run → Type 0) (back : Back)
    (before behind : List PlainBundle) (m : Run) → IsWhole m → held DIGITS (run from (all_done before) m) ≡ 8
    → PartsIteration (run from) f Called back (around before behind) m
around_iterations from f Called back before behind m whole is =
    let n = run from (all_done before) m in
    let h = run_whole from (all_done before) m whole in
    let u = run from (all_done (before ++ highest_bit ∷ [])) m in
    let left : held DIGITS u ≡ 8 = ap (held DIGITS) (run_before from before m)
    ∙ left_once from (register DIGITS) highest_bit n (omega arith) h refl ∙ is in (
      tt,
      (
        digits_iteration from f Called back 8 (omega arith) u (run_whole from (all_done (before ++ highest_bit ∷ []))
            m whole) left,
        (tt, tt),
      ),
    )

pub division_iterations : (from : Sources) (f : ℕ → List Step) (Called : ℕ → Run → Type 0) (back : Back) (ra rb : ℕ)
    (behind : List PlainBundle) (m : Run) → IsWhole m → PartsIteration (run from) f Called back (around
    (operands ra rb) behind) m
division_iterations from f Called back ra rb behind m whole =
    around_iterations from f Called back (operands ra rb) behind m whole (operands_set from ra rb m whole)

pub signed_division_iterations : (from : Sources) (f : ℕ → List Step) (Called : ℕ → Run → Type 0) (back : Back)
    (p q ra rb : ℕ) (behind : List PlainBundle) (m : Run) → IsWhole m → PartsIteration (run from) f Called back (around
    (operands ra rb ++ without_signs p q) behind) m
signed_division_iterations from f Called back p q ra rb behind m whole =
    let n = run from (all_done (operands ra rb)) m in
    let h = run_whole from (all_done (operands ra rb)) m whole in
    around_iterations from f Called back (operands ra rb ++ without_signs p q) behind m whole
    (left_run from (register DIGITS) (without_signs p q) n (omega arith) h refl ∙ operands_set from ra rb m whole)

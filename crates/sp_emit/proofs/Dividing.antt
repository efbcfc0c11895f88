-- What the code of quotients and remainders leaves in its registers, iteration by iteration.
use Rattle.std.proofs.Common.{◌≡◌, ℕ, zero, suc, ◌+◌, ◌-◌, ◌*◌, ◌/◌, ◌%◌, ◌^◌, ◌<◌, ◌≤◌, Bool, true, false, if◌then◌else◌, List, [], ◌∷◌, ◌++◌, refl, sym, ap, ◌∙◌, subst, arith}
use Rattle.std.specs.Prelude.{nat_le, ◌&&◌}
use Rattle.std.specs.List.{list_all}
use Rattle.std.proofs.lemmas.Bool.{and_parts}
use Rattle.patmos_instr.specs.Bundles.{PlainBundle}
use Rattle.patmos_instr.specs.declared.functions.AluFunc.TheVariants as alu
use Rattle.patmos_instr.specs.declared.functions.CmpFunc.TheVariants as cmp
use Rattle.patmos_instr.specs.declared.functions.ImmFunc.TheVariants as imm
use Rattle.patmos_instr.specs.declared.instructions.Op.{Op}
use Rattle.patmos_instr.specs.declared.instructions.Op.TheVariants.{AluImm, AluReg}
use Rattle.patmos_sem.specs.Effects.{write_of, begun, asked}
use Rattle.patmos_sem.specs.declared.effects.Effect.TheVariants as effect
use Rattle.patmos_sem.specs.declared.pending.Pending.TheVariants as pending
use Rattle.patmos_sem.specs.declared.writes.Write.TheVariants as write
use Rattle.sp_shape.proofs.Lists.{done_append}
use Rattle.sp_shape.proofs.Whole.{once_whole, run_whole, run_append}
use Rattle.sp_shape.specs.Run.{Run, Sources, once, run, IsWhole}
use Rattle.sp_shape.specs.Trail.{all_done, copies}
use Rattle.sp_emit.specs.Division.{highest_bit, digit, counted, digit_tail}
use Rattle.sp_emit.specs.Holding.{held, so}
use Rattle.sp_emit.specs.Instructions.{under, always, where_so, with_short, compute, compare}
use Rattle.sp_emit.specs.declared.registers.TheConstants.{SPARE, DIVIDEND, DIVISOR, REMAINDER, TEST, SECOND, MORE}
use Rattle.sp_emit.proofs.Asking.{back_again}
use Rattle.sp_emit.proofs.Digits.{shifted, goes, next_rest, next_dividend, step, iterated}
use Rattle.sp_emit.proofs.Leaving.{did_compare, did_compute, did_with_short}
use Rattle.sp_emit.proofs.Once.{with_written, did_write, did_nothing, got, so_got}
use Rattle.sp_emit.proofs.Untouched.{register, predicate, leaves, left_once, left_run}

-- the registers of a division, and the predicate of its sign, and what they hold
pub record Divides (negative : Bool) (dividend rest divisor : ℕ) (m : Run) : Type 0 where
  pub whole : IsWhole m
  pub sign : so SECOND m ≡ negative
  pub dividend_is : held DIVIDEND m ≡ dividend
  pub rest_is : held REMAINDER m ≡ rest
  pub divisor_is : held DIVISOR m ≡ divisor

-- bundles that write none of them
abbrev pub leaves_division : List PlainBundle → Bool
leaves_division bs =
    list_all (leaves (predicate SECOND)) bs && (list_all (leaves (register DIVIDEND)) bs
    && (list_all (leaves (register REMAINDER)) bs && list_all (leaves (register DIVISOR)) bs))

pub still_divides : (from : Sources) (negative : Bool) (dividend rest divisor : ℕ) (bs : List PlainBundle) (m : Run)
    → leaves_division bs ≡ true → Divides negative dividend rest divisor m
    → Divides negative dividend rest divisor (run from (all_done bs) m)
still_divides from negative dividend rest divisor bs m quiet d =
    let a = and_parts (list_all (leaves (predicate SECOND)) bs) _ quiet in
    let b = and_parts (list_all (leaves (register DIVIDEND)) bs) _ a.1 in
    let c = and_parts (list_all (leaves (register REMAINDER)) bs) (list_all (leaves (register DIVISOR)) bs) b.1 in
    record {
      whole = run_whole from (all_done bs) m d.whole;
      sign = left_run from (predicate SECOND) bs m (omega arith) d.whole a.0 ∙ d.sign;
      dividend_is = left_run from (register DIVIDEND) bs m (omega arith) d.whole b.0 ∙ d.dividend_is;
      rest_is = left_run from (register REMAINDER) bs m (omega arith) d.whole c.0 ∙ d.rest_is;
      divisor_is = left_run from (register DIVISOR) bs m (omega arith) d.whole c.1 ∙ d.divisor_is;
    }

-- ---- the highest bit of the dividend

bit_taken : (from : Sources) (dividend : ℕ) (m : Run) → IsWhole m → held DIVIDEND m ≡ dividend
    → held SPARE (once from highest_bit m) ≡ dividend / 2 ^ 31
bit_taken from dividend m whole is = ap (held SPARE) (did_with_short from imm.Sr SPARE DIVIDEND 31 m whole)
    ∙ got SPARE _ m whole (omega arith) (omega arith) ∙ ap (λ n. n / 2 ^ 31) is

-- it stands apart too
record Iterations (negative : Bool) (dividend rest divisor : ℕ) (m : Run) : Type 0 where
  divides : Divides negative dividend rest divisor m
  bit_is : held SPARE m ≡ dividend / 2 ^ 31

stands_apart : (from : Sources) (negative : Bool) (dividend rest divisor : ℕ) (m : Run)
    → Divides negative dividend rest divisor m → Iterations negative dividend rest divisor (once from highest_bit m)
stands_apart from negative dividend rest divisor m d = record {
  divides = still_divides from negative dividend rest divisor (highest_bit ∷ []) m refl d;
  bit_is = bit_taken from dividend m d.whole d.dividend_is;
}

-- ---- up to the test

-- a digit's bundles up to whether the divisor goes into what is left
abbrev compared : List PlainBundle
compared =
    compute always alu.Shadd REMAINDER REMAINDER SPARE
    ∷ compute always alu.Add DIVIDEND DIVIDEND DIVIDEND
    ∷ compare cmp.Ule TEST DIVISOR REMAINDER
    ∷ highest_bit
    ∷ []

record Tested (dividend rest divisor : ℕ) (m : Run) : Type 0 where
  whole : IsWhole m
  dividend_is : held DIVIDEND m ≡ (dividend + dividend) % 2 ^ 32
  rest_is : held REMAINDER m ≡ shifted dividend rest
  divisor_is : held DIVISOR m ≡ divisor
  bit_is : held SPARE m ≡ (dividend + dividend) % 2 ^ 32 / 2 ^ 31
  test : so TEST m ≡ goes divisor dividend rest

compares : (from : Sources) (negative : Bool) (dividend rest divisor : ℕ) (m : Run)
    → Iterations negative dividend rest divisor m → Tested dividend rest divisor (run from (all_done compared) m)
compares from negative dividend rest divisor m t =
    let d = t.divides in
    let b1 = compute always alu.Shadd REMAINDER REMAINDER SPARE in
    let b2 = compute always alu.Add DIVIDEND DIVIDEND DIVIDEND in
    let b3 = compare cmp.Ule TEST DIVISOR REMAINDER in
    let m1 = once from b1 m in
    let h1 = once_whole from b1 m d.whole in
    let m2 = once from b2 m1 in
    let h2 = once_whole from b2 m1 h1 in
    let m3 = once from b3 m2 in
    let h3 = once_whole from b3 m2 h2 in
    let shifts : held REMAINDER m1 ≡ shifted dividend rest =
    ap (held REMAINDER) (did_compute from alu.Shadd REMAINDER REMAINDER SPARE m d.whole)
    ∙ got REMAINDER _ m d.whole (omega arith) (omega arith)
    ∙ ap (λ n. (2 * n + held SPARE m) % 2 ^ 32) d.rest_is ∙ ap (λ n. (2 * rest + n) % 2 ^ 32) t.bit_is in
    let doubles : held DIVIDEND m2 ≡ (dividend + dividend) % 2 ^ 32 =
    ap (held DIVIDEND) (did_compute from alu.Add DIVIDEND DIVIDEND DIVIDEND m1 h1)
    ∙ got DIVIDEND _ m1 h1 (omega arith) (omega arith)
    ∙ ap (λ n. (n + n) % 2 ^ 32) (left_once from (register DIVIDEND) b1 m (omega arith) d.whole refl ∙ d.dividend_is) in
    let rest_2 = left_once from (register REMAINDER) b2 m1 (omega arith) h1 refl ∙ shifts in
    let divisor_2 = left_run from (register DIVISOR) (b1 ∷ b2 ∷ []) m (omega arith) d.whole refl ∙ d.divisor_is in
    let goes_3 : so TEST m3 ≡ goes divisor dividend rest =
    ap (so TEST) (did_compare from cmp.Ule TEST DIVISOR REMAINDER m2 h2)
    ∙ so_got TEST _ m2 h2 (omega arith) (omega arith) ∙ ap (λ n. nat_le n (held REMAINDER m2)) divisor_2
    ∙ ap (nat_le divisor) rest_2 in
    let dividend_3 = left_once from (register DIVIDEND) b3 m2 (omega arith) h2 refl ∙ doubles in
    record {
      whole = once_whole from highest_bit m3 h3;
      dividend_is = left_once from (register DIVIDEND) highest_bit m3 (omega arith) h3 refl ∙ dividend_3;
      rest_is = left_run from (register REMAINDER) (b3 ∷ highest_bit ∷ []) m2 (omega arith) h2 refl ∙ rest_2;
      divisor_is = left_run from (register DIVISOR) (b3 ∷ highest_bit ∷ []) m2 (omega arith) h2 refl ∙ divisor_2;
      bit_is = bit_taken from _ m3 h3 dividend_3;
      test = left_once from (predicate TEST) highest_bit m3 (omega arith) h3 refl ∙ goes_3;
    }

-- ---- after the test

-- a register that an instruction writes where a predicate is true
pub written_where : (from : Sources) (p rd v : ℕ) (op : Op) (m : Run) → IsWhole m → 1 ≤ rd → rd < 32
    → write_of m.st m.ss m.regs op ≡ write.Register rd v → asked m.regs op ≡ effect.Nothing
    → begun m.regs op ≡ pending.Nothing → held rd (once from (under (where_so p) op) m)
    ≡ (if so p m then v else held rd m)
written_where from p rd v op m whole some few is quiet nothing = by (so p m) refl
  where
    by : (on : Bool) → so p m ≡ on → held rd (once from (under (where_so p) op) m) ≡ (if on then v else held rd m)
    by true on = ap (held rd) (did_write from (where_so p) op m whole on quiet nothing)
        ∙ ap (λ w. held rd (with_written w m)) is ∙ got rd v m whole some few
    by false off = ap (held rd) (did_nothing from (where_so p) op m whole off)

-- the divisor goes off what is left, and the quotient's digit is 1, where the test holds
abbrev taken_off : List PlainBundle
taken_off = compute (where_so TEST) alu.Sub REMAINDER REMAINDER DIVISOR ∷ with_short (where_so TEST) imm.Add DIVIDEND
    DIVIDEND 1 ∷ []

record TakenOff (dividend rest divisor : ℕ) (m : Run) : Type 0 where
  bit_is : held SPARE m ≡ next_dividend divisor dividend rest / 2 ^ 31
  dividend_is : held DIVIDEND m ≡ next_dividend divisor dividend rest
  rest_is : held REMAINDER m ≡ next_rest divisor dividend rest

-- the quotient's digit is the lowest, so the highest bit is as it was
same_bit : (divisor dividend rest : ℕ) → next_dividend divisor dividend rest / 2 ^ 31 ≡ (dividend + dividend)
    % 2 ^ 32 / 2 ^ 31
same_bit divisor dividend rest = by (goes divisor dividend rest)
  where
    by : (on : Bool) → (if on then ((dividend + dividend) % 2 ^ 32 + 1) % 2 ^ 32 else (dividend + dividend) % 2 ^ 32)
        / 2 ^ 31 ≡ (dividend + dividend) % 2 ^ 32 / 2 ^ 31
    by true = omega arith
    by false = refl

takes_off : (from : Sources) (dividend rest divisor : ℕ) (m : Run) → Tested dividend rest divisor m
    → TakenOff dividend rest divisor (run from (all_done taken_off) m)
takes_off from dividend rest divisor m x =
    let off = compute (where_so TEST) alu.Sub REMAINDER REMAINDER DIVISOR in
    let one = with_short (where_so TEST) imm.Add DIVIDEND DIVIDEND 1 in
    let m1 = once from off m in
    let h1 = once_whole from off m x.whole in
    let on = goes divisor dividend rest in
    let bit_1 = left_run from (register SPARE) taken_off m (omega arith) x.whole refl ∙ x.bit_is in
    let test_1 : so TEST m1 ≡ on = left_once from (predicate TEST) off m (omega arith) x.whole refl ∙ x.test in
    let dividend_1 = left_once from (register DIVIDEND) off m (omega arith) x.whole refl ∙ x.dividend_is in
    record {
      bit_is = bit_1 ∙ sym (same_bit divisor dividend rest);
      dividend_is = written_where from TEST DIVIDEND _ (AluImm imm.Add DIVIDEND DIVIDEND 1) m1 h1 (omega arith)
          (omega arith) refl refl refl
          ∙ ap (λ b. if b then (held DIVIDEND m1 + 1) % 2 ^ 32 else held DIVIDEND m1) test_1
          ∙ ap (λ n. if on then (n + 1) % 2 ^ 32 else n) dividend_1;
      rest_is = left_once from (register REMAINDER) one m1 (omega arith) h1 refl
          ∙ written_where from TEST REMAINDER _ (AluReg alu.Sub REMAINDER REMAINDER DIVISOR) m x.whole (omega arith)
          (omega arith) refl refl refl
          ∙ ap (λ b. if b then (held REMAINDER m + (2 ^ 32 - held DIVISOR m)) % 2 ^ 32 else held REMAINDER m) x.test
          ∙ ap (λ n. if on then (n + (2 ^ 32 - held DIVISOR m)) % 2 ^ 32 else n) x.rest_is
          ∙ ap (λ n. if on then (shifted dividend rest + (2 ^ 32 - n))
          % 2 ^ 32 else shifted dividend rest) x.divisor_is;
    }

-- ---- iterations

digit_done : (from : Sources) (negative : Bool) (dividend rest divisor : ℕ) (m : Run)
    → Iterations negative dividend rest divisor m
    → Iterations negative (next_dividend divisor dividend rest) (next_rest divisor dividend rest) divisor (run from
    (all_done digit) m)
digit_done from negative dividend rest divisor m t =
    let d = t.divides in
    let o = takes_off from dividend rest divisor (run from (all_done compared) m)
    (compares from negative dividend rest divisor m t) in
    record {
      divides = record {
        whole = run_whole from (all_done digit) m d.whole;
        sign = left_run from (predicate SECOND) digit m (omega arith) d.whole refl ∙ d.sign;
        dividend_is = o.dividend_is;
        rest_is = o.rest_is;
        divisor_is = left_run from (register DIVISOR) digit m (omega arith) d.whole refl ∙ d.divisor_is;
      };
      bit_is = o.bit_is;
    }

still_iterations : (from : Sources) (negative : Bool) (dividend rest divisor : ℕ) (bs : List PlainBundle) (m : Run)
    → leaves_division bs ≡ true → list_all (leaves (register SPARE)) bs ≡ true
    → Iterations negative dividend rest divisor m
    → Iterations negative dividend rest divisor (run from (all_done bs) m)
still_iterations from negative dividend rest divisor bs m quiet spare t = record {
  divides = still_divides from negative dividend rest divisor bs m quiet t.divides;
  bit_is = left_run from (register SPARE) bs m (omega arith) t.divides.whole spare ∙ t.bit_is;
}

-- an iteration is counted, and takes four digits
iteration_done : (from : Sources) (negative : Bool) (d : ℕ × ℕ) (divisor : ℕ) (m : Run)
    → Iterations negative d.0 d.1 divisor m
    → Iterations negative (iterated 4 divisor d).0 (iterated 4 divisor d).1 divisor (run from (all_done digit_tail) m)
iteration_done from negative d divisor m t =
    let m1 = run from (all_done counted) m in
    let m2 = run from (all_done digit) m1 in
    let m3 = run from (all_done digit) m2 in
    let m4 = run from (all_done digit) m3 in
    let one = step divisor d in
    let two = step divisor one in
    let three = step divisor two in
    let four = step divisor three in
    let t1 = still_iterations from negative d.0 d.1 divisor counted m refl refl t in
    let t2 = digit_done from negative d.0 d.1 divisor m1 t1 in
    let t3 = digit_done from negative one.0 one.1 divisor m2 t2 in
    let t4 = digit_done from negative two.0 two.1 divisor m3 t3 in
    let t5 = digit_done from negative three.0 three.1 divisor m4 t4 in
    still_iterations from negative four.0 four.1 divisor (back_again MORE) (run from (all_done digit) m4) refl refl t5

abbrev fourfold : ℕ → ℕ
fourfold zero = zero
fourfold (suc n) = suc (suc (suc (suc (fourfold n))))

iterations_done : (from : Sources) (negative : Bool) (n : ℕ) (d : ℕ × ℕ) (divisor : ℕ) (m : Run)
    → Iterations negative d.0 d.1 divisor m
    → Iterations negative (iterated (fourfold n) divisor d).0 (iterated (fourfold n) divisor d).1 divisor (run from
    (copies n (all_done digit_tail)) m)
iterations_done from negative zero d divisor m t = t
iterations_done from negative (suc n) d divisor m t =
    subst (Iterations negative _ _ divisor)
    (sym (run_append from (all_done digit_tail) (copies n (all_done digit_tail)) m))
    (iterations_done from negative n (iterated 4 divisor d) divisor (run from (all_done digit_tail) m)
    (iteration_done from negative d divisor m t))

-- the first bit stands apart after what is before
pub run_before : (from : Sources) (before : List PlainBundle) (m : Run)
    → run from (all_done (before ++ highest_bit ∷ [])) m
    ≡ once from highest_bit (run from (all_done before) m)
run_before from before m = ap (λ l. run from l m) (done_append before (highest_bit ∷ []))
    ∙ run_append from (all_done before) (all_done (highest_bit ∷ [])) m

-- all digits then
pub digits_done : (from : Sources) (negative : Bool) (dividend divisor : ℕ) (m : Run)
    → Divides negative dividend 0 divisor m
    → Divides negative (iterated 32 divisor (dividend, 0)).0 (iterated 32 divisor (dividend, 0)).1 divisor (run from
    (copies 8 (all_done digit_tail)) (once from highest_bit m))
digits_done from negative dividend divisor m d =
    let t = run from (copies 8 (all_done digit_tail)) (once from highest_bit m) in
    let same : fourfold 8 ≡ 32 = refl in
    subst (λ k. Divides negative (iterated k divisor (dividend, 0)).0 (iterated k divisor (dividend, 0)).1 divisor t)
    same
    (iterations_done from negative 8 (dividend, 0) divisor (once from highest_bit m)
    (stands_apart from negative dividend 0 divisor m d)).divides

-- What the code of quotients and remainders leaves: the words of both operands are taken, divided digit by digit, and
-- what is asked for is put into a register.
use Rattle.std.proofs.Common.{◌≡◌, ℕ, zero, suc, ◌+◌, ◌-◌, ◌*◌, ◌/◌, ◌%◌, ◌^◌, ◌<◌, ◌≤◌, ◌==◌, ◌⊎◌, inl, inr, Bool, true, false, ◌&&◌, if◌then◌else◌, List, [], ◌∷◌, ◌++◌, refl, sym, ap, ◌∙◌, subst, arith, append-nil, ne_eqb}
use Rattle.std.specs.Prelude.{nat_le}
use Rattle.std.proofs.Math.Arith.{digits_div, digits_mod}
use Rattle.std.proofs.lemmas.Bool.{cases_lt, leb-true, leb-false, eqb-true, eqb-false}
use Rattle.patmos_instr.specs.Bundles.{PlainBundle}
use Rattle.patmos_instr.specs.declared.functions.AluFunc.TheVariants as alu
use Rattle.patmos_instr.specs.declared.functions.CmpFunc.TheVariants as cmp
use Rattle.patmos_instr.specs.declared.functions.ImmFunc.TheVariants as imm
use Rattle.patmos_instr.specs.declared.functions.PredFunc.TheVariants as comb
use Rattle.patmos_instr.specs.declared.instructions.Op.TheVariants.{AluImm, AluReg}
use Rattle.patmos_sem.specs.Operations.{has_bit}
use Rattle.patmos_sem.specs.declared.writes.Write.TheVariants as write
use Rattle.tc_word.specs.Word.{quotient, rest, quotient_unsigned, rest_unsigned}
use Rattle.sp_shape.proofs.Whole.{once_whole, run_whole, run_append}
use Rattle.sp_shape.specs.Run.{Run, Sources, once, run, IsWhole}
use Rattle.sp_shape.specs.Trail.{Step, all_done, copies, parts_trail}
use Rattle.sp_emit.specs.Division.{operands, without_signs, highest_bit, digit_tail, is_large, large_quotient, large_rest, quotient_to, rest_to, unsigned_quotient_to, unsigned_rest_to, signed_quotient_to, signed_rest_to, around, unsigned_division, signed_division}
use Rattle.sp_emit.specs.Holding.{held, so}
use Rattle.sp_emit.specs.Instructions.{always, where_so, set_short, copy, with_short, compute, compare, compare_short, combine}
use Rattle.sp_emit.specs.declared.registers.TheConstants.{DIVIDEND, DIVISOR, REMAINDER, DIGITS, TEST, SECOND}
use Rattle.sp_emit.proofs.Digits.{iterated, divides_words, divides_by_zero, quotient_word, rest_word}
use Rattle.sp_emit.proofs.Calm.{calm_done, calm_copies}
use Rattle.sp_emit.proofs.Dividing.{Divides, written_where, run_before, digits_done}
use Rattle.sp_emit.proofs.Leaving.{did_compare, did_compare_short, did_combine, did_set_short}
use Rattle.sp_emit.proofs.Once.{with_written, did_write, did_nothing, whole_written, held_written, so_written, got, kept, kept_by_pred, so_got, so_kept, so_by_register}
use Rattle.sp_emit.proofs.Signs.{signed, size_of, differ, size_word, size_most, signed_quotient, signed_rest}
use Rattle.sp_emit.proofs.Untouched.{register, predicate, left_once, left_run}

-- ---- before the digits

pub did_copy : (from : Sources) (rd ra : ℕ) (m : Run) → IsWhole m → once from (copy rd ra) m
    ≡ with_written (write.Register rd ((held ra m + 0) % 2 ^ 32)) m
did_copy from rd ra m whole = did_write from always (AluImm imm.Add rd ra 0) m whole whole.fits.always refl refl

pub word_copied : (a : ℕ) → a < 2 ^ 32 → (a + 0) % 2 ^ 32 ≡ a
word_copied a word = omega (arith, word)

-- the operands stand in their registers, and nothing is left so far; the predicate of a sign is as it was
pub starts : (from : Sources) (ra rb a b : ℕ) (m : Run) → IsWhole m → rb < 27 → held ra m ≡ a → held rb m ≡ b
    → a < 2 ^ 32 → b < 2 ^ 32
    → Divides (so SECOND m) a 0 b (run from (all_done (operands ra rb)) m)
starts from ra rb a b m whole few is_a is_b word_a word_b =
    let v = (held ra m + 0) % 2 ^ 32 in
    let w1 = write.Register DIVIDEND v in
    let m1 = with_written w1 m in
    let h1 = whole_written w1 m whole in
    let w2 = write.Register DIVISOR ((held rb m1 + 0) % 2 ^ 32) in
    let m2 = with_written w2 m1 in
    let h2 = whole_written w2 m1 h1 in
    let w3 = write.Register REMAINDER 0 in
    let m3 = with_written w3 m2 in
    let h3 = whole_written w3 m2 h2 in
    let w4 = write.Register DIGITS 8 in
    let steps : run from (all_done (operands ra rb)) m ≡ with_written w4 m3 =
    ap (λ t. once from (set_short always DIGITS 8) (once from (set_short always REMAINDER 0)
    (once from (copy DIVISOR rb) t))) (did_copy from DIVIDEND ra m whole)
    ∙ ap (λ t. once from (set_short always DIGITS 8) (once from (set_short always REMAINDER 0) t)) (did_copy from
    DIVISOR rb m1 h1)
    ∙ ap (once from (set_short always DIGITS 8)) (did_set_short from always REMAINDER 0 m2 h2 h2.fits.always)
    ∙ did_set_short from always DIGITS 8 m3 h3 h3.fits.always in
    let b1 : held rb m1 ≡ b =
    kept DIVIDEND v rb m whole (omega (arith, few)) (λ same. absurd (omega (arith, same, few))) ∙ is_b in
    let d1 = held_written w1 DIVIDEND m whole (omega arith) ∙ ap (λ n. (n + 0) % 2 ^ 32) is_a ∙ word_copied a word_a in
    let d2 = held_written w2 DIVISOR m1 h1 (omega arith) ∙ ap (λ n. (n + 0) % 2 ^ 32) b1 ∙ word_copied b word_b in
    subst (Divides _ a 0 b) (sym steps) (record {
      whole = whole_written w4 m3 h3;
      sign = so_written w4 SECOND m3 h3 (omega arith) ∙ so_written w3 SECOND m2 h2 (omega arith)
          ∙ so_written w2 SECOND m1 h1 (omega arith) ∙ so_written w1 SECOND m whole (omega arith);
      dividend_is = held_written w4 DIVIDEND m3 h3 (omega arith) ∙ held_written w3 DIVIDEND m2 h2 (omega arith)
          ∙ held_written w2 DIVIDEND m1 h1 (omega arith) ∙ d1;
      rest_is = held_written w4 REMAINDER m3 h3 (omega arith) ∙ held_written w3 REMAINDER m2 h2 (omega arith);
      divisor_is = held_written w4 DIVISOR m3 h3 (omega arith) ∙ held_written w3 DIVISOR m2 h2 (omega arith) ∙ d2;
    })

-- ---- signs

-- a register is negated where a predicate says so, and all other registers and predicates are as they were
pub record Negated (r : ℕ) (on : Bool) (m t : Run) : Type 0 where
  pub whole : IsWhole t
  pub value : held r t ≡ signed on (held r m)
  pub others : (x : ℕ) → x < 32 → (r ≡ x → ⊥) → held x t ≡ held x m
  pub preds : (p : ℕ) → p < 8 → so p t ≡ so p m

pub negates : (from : Sources) (p r : ℕ) (on : Bool) (m : Run) → IsWhole m → 1 ≤ r → r < 32 → so p m ≡ on
    → Negated r on m (once from (compute (where_so p) alu.Sub r 0 r) m)
negates from p r true m whole some few on =
    let v = (held 0 m + (2 ^ 32 - held r m)) % 2 ^ 32 in
    subst (Negated r true m) (sym (did_write from (where_so p) (AluReg alu.Sub r 0 r) m whole on refl refl)) (record {
      whole = whole_written (write.Register r v) m whole;
      value = got r v m whole some few ∙ ap (λ z. (z + (2 ^ 32 - held r m)) % 2 ^ 32) whole.fits.zero;
      others = λ x lt other. kept r v x m whole lt other;
      preds = λ q lt. so_by_register r v q m whole lt;
    })
negates from p r false m whole some few off =
    subst (Negated r false m) (sym (did_nothing from (where_so p) (AluReg alu.Sub r 0 r) m whole off))
    (record { whole = whole; value = refl; others = λ x lt other. refl; preds = λ q lt. refl })

-- both operands have lost their signs, and two predicates say which results are negative
record Signless (p q a b : ℕ) (t : Run) : Type 0 where
  divides : Divides (so SECOND t) (size_of a) 0 (size_of b) t
  rest_negative : so p t ≡ has_bit a 31
  quotient_negative : so q t ≡ differ (has_bit a 31) (has_bit b 31)

signs_go : (from : Sources) (p q : ℕ) (negative : Bool) (a b : ℕ) (m : Run) → 1 ≤ p → p < 8 → 1 ≤ q → q < 8
    → (q ≡ p → ⊥) → Divides negative a 0 b m → Signless p q a b (run from (all_done (without_signs p q)) m)
signs_go from p q negative a b m some_p few_p some_q few_q other d =
    let b1 = compare_short cmp.Btest p DIVIDEND 31 in
    let b2 = compare_short cmp.Btest q DIVISOR 31 in
    let b3 = compute (where_so p) alu.Sub DIVIDEND 0 DIVIDEND in
    let b4 = compute (where_so q) alu.Sub DIVISOR 0 DIVISOR in
    let b5 = combine comb.Pxor q p q in
    let w1 = write.Predicate p (has_bit (held DIVIDEND m) 31) in
    let m1 = with_written w1 m in
    let h1 = whole_written w1 m d.whole in
    let w2 = write.Predicate q (has_bit (held DIVISOR m1) 31) in
    let m2 = with_written w2 m1 in
    let h2 = whole_written w2 m1 h1 in
    let still_2 : (r : ℕ) → r < 32 → held r m2 ≡ held r m = λ r few. kept_by_pred q (has_bit (held DIVISOR m1) 31) r m1
    h1 few ∙ kept_by_pred p (has_bit (held DIVIDEND m) 31) r m d.whole few in
    let p2 : so p m2 ≡ has_bit a 31 = so_kept q (has_bit (held DIVISOR m1) 31) p m1 h1 few_p other
    ∙ so_got p (has_bit (held DIVIDEND m) 31) m d.whole some_p few_p ∙ ap (λ n. has_bit n 31) d.dividend_is in
    let q2 : so q m2 ≡ has_bit b 31 = so_got q (has_bit (held DIVISOR m1) 31) m1 h1 some_q few_q
    ∙ ap (λ n. has_bit n 31) (kept_by_pred p (has_bit (held DIVIDEND m) 31) DIVISOR m d.whole (omega arith)
    ∙ d.divisor_is) in
    let m3 = once from b3 m2 in
    let n3 = negates from p DIVIDEND (has_bit a 31) m2 h2 (omega arith) (omega arith) p2 in
    let m4 = once from b4 m3 in
    let n4 = negates from q DIVISOR (has_bit b 31) m3 n3.whole (omega arith) (omega arith) (n3.preds q few_q ∙ q2) in
    let p4 = n4.preds p few_p ∙ n3.preds p few_p ∙ p2 in
    let q4 = n4.preds q few_q ∙ n3.preds q few_q ∙ q2 in
    let v = differ (so p m4) (so q m4) in
    let w5 = write.Predicate q v in
    let steps : run from (all_done (without_signs p q)) m ≡ with_written w5 m4 =
    ap (λ t. once from b5 (once from b4 (once from b3 (once from b2 t))))
    (did_compare_short from cmp.Btest p DIVIDEND 31 m d.whole)
    ∙ ap (λ t. once from b5 (once from b4 (once from b3 t))) (did_compare_short from cmp.Btest q DIVISOR 31 m1 h1)
    ∙ did_combine from comb.Pxor q p q m4 n4.whole in
    subst (Signless p q a b) (sym steps) (record {
      divides = record {
        whole = whole_written w5 m4 n4.whole;
        sign = refl;
        dividend_is = kept_by_pred q v DIVIDEND m4 n4.whole (omega arith) ∙ n4.others DIVIDEND (omega arith) (λ same.
            absurd (omega (arith, same))) ∙ n3.value
            ∙ ap (signed (has_bit a 31)) (still_2 DIVIDEND (omega arith) ∙ d.dividend_is);
        rest_is = kept_by_pred q v REMAINDER m4 n4.whole (omega arith) ∙ n4.others REMAINDER (omega arith) (λ same.
            absurd (omega (arith, same)))
            ∙ n3.others REMAINDER (omega arith) (λ same. absurd (omega (arith, same))) ∙ still_2 REMAINDER (omega arith)
            ∙ d.rest_is;
        divisor_is = kept_by_pred q v DIVISOR m4 n4.whole (omega arith) ∙ n4.value
            ∙ ap (signed (has_bit b 31)) (n3.others DIVISOR (omega arith) (λ same. absurd (omega (arith, same)))
            ∙ still_2 DIVISOR (omega arith) ∙ d.divisor_is);
      };
      rest_negative = so_kept q v p m4 n4.whole few_p other ∙ p4;
      quotient_negative =
          so_got q v m4 n4.whole some_q few_q ∙ ap (λ x. differ x (so q m4)) p4 ∙ ap (differ (has_bit a 31)) q4;
    })

-- ---- after the digits

-- a result stands in its register, and the predicate of its sign is as it was
record Given (negative : Bool) (rd v : ℕ) (t : Run) : Type 0 where
  whole : IsWhole t
  value : held rd t ≡ v
  sign : so SECOND t ≡ negative

rest_given : (from : Sources) (negative : Bool) (q r b rd : ℕ) (m : Run) → Divides negative q r b m → 1 ≤ rd → rd < 32
    → r < 2 ^ 32 → Given negative rd r (run from (all_done (rest_to rd)) m)
rest_given from negative q r b rd m d some few word =
    let v = (held REMAINDER m + 0) % 2 ^ 32 in
    subst (Given negative rd r) (sym (did_copy from rd REMAINDER m d.whole)) (record {
      whole = whole_written (write.Register rd v) m d.whole;
      value = got rd v m d.whole some few ∙ ap (λ n. (n + 0) % 2 ^ 32) d.rest_is ∙ word_copied r word;
      sign = so_by_register rd v SECOND m d.whole (omega arith) ∙ d.sign;
    })

quotient_given : (from : Sources) (negative : Bool) (q r b rd : ℕ) (m : Run) → Divides negative q r b m → 1 ≤ rd
    → rd < 32 → q < 2 ^ 32
    → Given negative rd (if b == 0 then 0 else q) (run from (all_done (quotient_to rd)) m)
quotient_given from negative q r b rd m d some few word =
    let w1 = write.Predicate TEST (held DIVISOR m == 0) in
    let m1 = with_written w1 m in
    let h1 = whole_written w1 m d.whole in
    let v = (held DIVIDEND m1 + 0) % 2 ^ 32 in
    let m2 = with_written (write.Register rd v) m1 in
    let h2 = whole_written (write.Register rd v) m1 h1 in
    let steps : run from (all_done (quotient_to rd)) m ≡ once from (set_short (where_so TEST) rd 0) m2 =
    ap (λ t. once from (set_short (where_so TEST) rd 0) (once from (copy rd DIVIDEND) t))
    (did_compare_short from cmp.Eq TEST DIVISOR 0 m d.whole)
    ∙ ap (once from (set_short (where_so TEST) rd 0)) (did_copy from rd DIVIDEND m1 h1) in
    let test : so TEST m2 ≡ (b == 0) = so_by_register rd v TEST m1 h1 (omega arith)
    ∙ so_written w1 TEST m d.whole (omega arith) ∙ ap (λ n. n == 0) d.divisor_is in
    subst (Given negative rd (if b == 0 then 0 else q)) (sym steps) (by m2 (b == 0) test (record {
      whole = h2;
      value = got rd v m1 h1 some few ∙ ap (λ n. (n + 0) % 2 ^ 32) (held_written w1 DIVIDEND m d.whole (omega arith)
          ∙ d.dividend_is) ∙ word_copied q word;
      sign = so_by_register rd v SECOND m1 h1 (omega arith) ∙ so_written w1 SECOND m d.whole (omega arith) ∙ d.sign;
    }))
  where
    by : (t : Run) → (on : Bool) → so TEST t ≡ on → Given negative rd q t
        → Given negative rd (if on then 0 else q) (once from (set_short (where_so TEST) rd 0) t)
    by t true on g = subst (Given negative rd 0) (sym (did_set_short from (where_so TEST) rd 0 t g.whole on)) (record {
      whole = whole_written (write.Register rd 0) t g.whole;
      value = got rd 0 t g.whole some few;
      sign = so_by_register rd 0 SECOND t g.whole (omega arith) ∙ g.sign;
    })
    by t false off g =
        subst (Given negative rd q) (sym (did_nothing from (where_so TEST) (AluImm imm.Add rd 0 0) t g.whole off)) g

-- ---- large divisors

-- whether a divisor is large and goes into the dividend
abbrev large_goes : ℕ → ℕ → Bool
large_goes a b = nat_le b a && has_bit b 31

-- the predicate of a sign says then that a divisor is large
record Large (q r a b ra : ℕ) (m : Run) : Type 0 where
  divides : Divides (has_bit b 31) q r b m
  dividend : held ra m ≡ a
  goes : so TEST m ≡ large_goes a b

tests_large : (from : Sources) (negative : Bool) (q r a b ra : ℕ) (m : Run) → Divides negative q r b m → ra < 32
    → held ra m ≡ a → Large q r a b ra (run from (all_done (is_large ra)) m)
tests_large from negative q r a b ra m d few is_a =
    let b1 = compare_short cmp.Btest SECOND DIVISOR 31 in
    let b2 = compare cmp.Ule TEST DIVISOR ra in
    let b3 = combine comb.Pand TEST TEST SECOND in
    let m1 = once from b1 m in
    let h1 = once_whole from b1 m d.whole in
    let m2 = once from b2 m1 in
    let h2 = once_whole from b2 m1 h1 in
    let large_1 : so SECOND m1 ≡ has_bit b 31 =
    ap (so SECOND) (did_compare_short from cmp.Btest SECOND DIVISOR 31 m d.whole)
    ∙ so_got SECOND _ m d.whole (omega arith) (omega arith) ∙ ap (λ n. has_bit n 31) d.divisor_is in
    let goes_2 : so TEST m2 ≡ nat_le b a =
    ap (so TEST) (did_compare from cmp.Ule TEST DIVISOR ra m1 h1) ∙ so_got TEST _ m1 h1 (omega arith) (omega arith)
    ∙ ap (λ n. nat_le n (held ra m1)) (left_once from (register DIVISOR) b1 m (omega arith) d.whole refl ∙ d.divisor_is)
    ∙ ap (nat_le b) (left_once from (register ra) b1 m few d.whole refl ∙ is_a) in
    let large_2 = left_once from (predicate SECOND) b2 m1 (omega arith) h1 refl ∙ large_1 in
    record {
      divides = record {
        whole = run_whole from (all_done (is_large ra)) m d.whole;
        sign = left_once from (predicate SECOND) b3 m2 (omega arith) h2 refl ∙ large_2;
        dividend_is = left_run from (register DIVIDEND) (is_large ra) m (omega arith) d.whole refl ∙ d.dividend_is;
        rest_is = left_run from (register REMAINDER) (is_large ra) m (omega arith) d.whole refl ∙ d.rest_is;
        divisor_is = left_run from (register DIVISOR) (is_large ra) m (omega arith) d.whole refl ∙ d.divisor_is;
      };
      dividend = left_run from (register ra) (is_large ra) m few d.whole refl ∙ is_a;
      goes = ap (so TEST) (did_combine from comb.Pand TEST TEST SECOND m2 h2)
          ∙ so_got TEST _ m2 h2 (omega arith) (omega arith)
          ∙ ap (λ x. x && so SECOND m2) goes_2 ∙ ap (λ x. nat_le b a && x) large_2;
    }

-- the quotient is set, and what is left
abbrev with_large : ℕ → ℕ → ℕ → ℕ
with_large a b q = if large_goes a b then 1 else (if has_bit b 31 then 0 else q)

sets_quotient : (from : Sources) (negative : Bool) (q r a b ra : ℕ) (m : Run) → Divides negative q r b m → ra < 32
    → held ra m ≡ a → Divides (has_bit b 31) (with_large a b q) r b (run from (all_done (large_quotient ra)) m)
sets_quotient from negative q r a b ra m d few is_a =
    let t = run from (all_done (is_large ra)) m in
    let x = tests_large from negative q r a b ra m d few is_a in
    let e = x.divides in
    let zero = set_short (where_so SECOND) DIVIDEND 0 in
    let one = set_short (where_so TEST) DIVIDEND 1 in
    let t1 = once from zero t in
    let h1 = once_whole from zero t e.whole in
    let zeroed : held DIVIDEND t1 ≡ (if has_bit b 31 then 0 else q) =
    written_where from SECOND DIVIDEND _ (AluImm imm.Add DIVIDEND 0 0) t e.whole (omega arith)
    (omega arith) refl refl refl
    ∙ ap (λ on. if on then (held 0 t + 0) % 2 ^ 32 else held DIVIDEND t) e.sign
    ∙ ap (λ z. if has_bit b 31 then (z + 0) % 2 ^ 32 else held DIVIDEND t) e.whole.fits.zero
    ∙ ap (λ n. if has_bit b 31 then 0 else n) e.dividend_is in
    let goes_1 = left_once from (predicate TEST) zero t (omega arith) e.whole refl ∙ x.goes in
    let both = zero ∷ one ∷ [] in
    record {
      whole = run_whole from (all_done both) t e.whole;
      sign = left_run from (predicate SECOND) both t (omega arith) e.whole refl ∙ e.sign;
      dividend_is = written_where from TEST DIVIDEND _ (AluImm imm.Add DIVIDEND 0 1) t1 h1 (omega arith)
          (omega arith) refl refl refl
          ∙ ap (λ on. if on then (held 0 t1 + 1) % 2 ^ 32 else held DIVIDEND t1) goes_1
          ∙ ap (λ z. if large_goes a b then (z + 1) % 2 ^ 32 else held DIVIDEND t1) h1.fits.zero
          ∙ ap (λ n. if large_goes a b then 1 else n) zeroed;
      rest_is = left_run from (register REMAINDER) both t (omega arith) e.whole refl ∙ e.rest_is;
      divisor_is = left_run from (register DIVISOR) both t (omega arith) e.whole refl ∙ e.divisor_is;
    }

abbrev left_by_large : ℕ → ℕ → ℕ → ℕ
left_by_large a b r = if large_goes a b then ((if has_bit b 31 then a else r) + (2 ^ 32 - b))
    % 2 ^ 32 else (if has_bit b 31 then a else r)

sets_rest : (from : Sources) (negative : Bool) (q r a b ra : ℕ) (m : Run) → Divides negative q r b m → ra < 32
    → held ra m ≡ a → a < 2 ^ 32 → Divides (has_bit b 31) q (left_by_large a b r) b (run from
    (all_done (large_rest ra)) m)
sets_rest from negative q r a b ra m d few is_a word =
    let t = run from (all_done (is_large ra)) m in
    let x = tests_large from negative q r a b ra m d few is_a in
    let e = x.divides in
    let all = with_short (where_so SECOND) imm.Add REMAINDER ra 0 in
    let off = compute (where_so TEST) alu.Sub REMAINDER REMAINDER DIVISOR in
    let t1 = once from all t in
    let h1 = once_whole from all t e.whole in
    let big = has_bit b 31 in
    let taken : held REMAINDER t1 ≡ (if big then a else r) =
    written_where from SECOND REMAINDER _ (AluImm imm.Add REMAINDER ra 0) t e.whole (omega arith)
    (omega arith) refl refl refl
    ∙ ap (λ on. if on then (held ra t + 0) % 2 ^ 32 else held REMAINDER t) e.sign
    ∙ ap (λ n. if big then n else held REMAINDER t) (ap (λ n. (n + 0) % 2 ^ 32) x.dividend ∙ word_copied a word)
    ∙ ap (λ n. if big then a else n) e.rest_is in
    let goes_1 = left_once from (predicate TEST) all t (omega arith) e.whole refl ∙ x.goes in
    let divisor_1 = left_once from (register DIVISOR) all t (omega arith) e.whole refl ∙ e.divisor_is in
    let both = all ∷ off ∷ [] in
    record {
      whole = run_whole from (all_done both) t e.whole;
      sign = left_run from (predicate SECOND) both t (omega arith) e.whole refl ∙ e.sign;
      dividend_is = left_run from (register DIVIDEND) both t (omega arith) e.whole refl ∙ e.dividend_is;
      rest_is = written_where from TEST REMAINDER _ (AluReg alu.Sub REMAINDER REMAINDER DIVISOR) t1 h1 (omega arith)
          (omega arith) refl refl refl
          ∙ ap (λ on. if on then (held REMAINDER t1 + (2 ^ 32 - held DIVISOR t1))
          % 2 ^ 32 else held REMAINDER t1) goes_1
          ∙ ap (λ n. if large_goes a b then (n + (2 ^ 32 - held DIVISOR t1)) % 2 ^ 32 else n) taken
          ∙ ap (λ n. if large_goes a b then ((if big then a else r) + (2 ^ 32 - n))
          % 2 ^ 32 else (if big then a else r)) divisor_1;
      divisor_is = left_run from (register DIVISOR) both t (omega arith) e.whole refl ∙ e.divisor_is;
    }

-- what they come to
large_bit : (b : ℕ) → b < 2 ^ 32 → has_bit b 31 ≡ true → 2 ^ 31 ≤ b
large_bit b word on = omega (arith, eqb-true (b / 2 ^ 31 % 2) 1 on, word)

small_bit : (b : ℕ) → b < 2 ^ 32 → has_bit b 31 ≡ false → b < 2 ^ 31
small_bit b word off = by (cases_lt b (2 ^ 31))
  where
    by : (b < 2 ^ 31) ⊎ (2 ^ 31 ≤ b) → b < 2 ^ 31
    by (inl less) = less
    by (inr more) = absurd (eqb-false (b / 2 ^ 31 % 2) 1 off (omega (arith, more, word)))

-- the result of a division of words, and that it is a word
record Comes (v w : ℕ) (b : ℕ) : Type 0 where
  word : v < 2 ^ 32
  is : 0 < b → v ≡ w

large_quotient_is : (a b q : ℕ) → a < 2 ^ 32 → b < 2 ^ 32 → (b ≤ 2 ^ 31 → q < 2 ^ 32) → (b ≤ 2 ^ 31 → 0 < b → q ≡ a / b)
    → Comes (with_large a b q) (a / b) b
large_quotient_is a b q word_a word_b word_q is_q = by (has_bit b 31) refl (nat_le b a) refl
  where
    by : (big : Bool) → has_bit b 31 ≡ big → (le : Bool) → nat_le b a ≡ le
        → Comes (if le && big then 1 else (if big then 0 else q)) (a / b) b
    by true on true le =
        let much = large_bit b word_b on in
        let within = leb-true b a le in
        let lt : a - b < b = omega (arith, much, word_a, within) in
        let whole : 1 * b + (a - b) ≡ a = omega (arith, within) in
        record { word = omega arith; is = λ some. sym (digits_div 1 lt) ∙ ap (λ n. n / b) whole }
    by true on false past =
        let lt : a < b = leb-false b a past in
        let whole : 0 * b + a ≡ a = omega arith in
        record { word = omega arith; is = λ some. sym (digits_div 0 lt) ∙ ap (λ n. n / b) whole }
    by false off true le = let low = small_bit b word_b off in record {
      word = word_q (omega (arith, low));
      is = is_q (omega (arith, low));
    }
    by false off false past = let low = small_bit b word_b off in record {
      word = word_q (omega (arith, low));
      is = is_q (omega (arith, low));
    }

large_rest_is : (a b r : ℕ) → a < 2 ^ 32 → b < 2 ^ 32 → (b ≤ 2 ^ 31 → r < 2 ^ 32) → (b ≤ 2 ^ 31 → 0 < b → r ≡ a % b)
    → Comes (left_by_large a b r) (a % b) b
large_rest_is a b r word_a word_b word_r is_r = by (has_bit b 31) refl (nat_le b a) refl
  where
    by : (big : Bool) → has_bit b 31 ≡ big → (le : Bool) → nat_le b a ≡ le
        → Comes (if le && big then ((if big then a else r) + (2 ^ 32 - b)) % 2 ^ 32 else (if big then a else r)) (a
        % b) b
    by true on true le =
        let much = large_bit b word_b on in
        let within = leb-true b a le in
        let lt : a - b < b = omega (arith, much, word_a, within) in
        let less : (a + (2 ^ 32 - b)) % 2 ^ 32 ≡ a - b = omega (arith, within, word_a, word_b) in
        let whole : 1 * b + (a - b) ≡ a = omega (arith, within) in
        record { word = omega (arith, less, word_a); is = λ some. less ∙ sym (digits_mod 1 lt) ∙ ap (λ n. n % b) whole }
    by true on false past =
        let lt : a < b = leb-false b a past in
        let whole : 0 * b + a ≡ a = omega arith in
        record { word = word_a; is = λ some. sym (digits_mod 0 lt) ∙ ap (λ n. n % b) whole }
    by false off true le = let low = small_bit b word_b off in record {
      word = word_r (omega (arith, low));
      is = is_r (omega (arith, low));
    }
    by false off false past = let low = small_bit b word_b off in record {
      word = word_r (omega (arith, low));
      is = is_r (omega (arith, low));
    }

-- ---- the whole

run_around : (from : Sources) (f : ℕ → List Step) (before behind : List PlainBundle) (m : Run)
    → run from (parts_trail f (around before behind)) m
    ≡ run from (all_done behind) (run from (copies 8 (all_done digit_tail))
    (once from highest_bit (run from (all_done before) m)))
run_around from f before behind m =
    let first = all_done (before ++ highest_bit ∷ []) in
    run_append from first (copies 8 (all_done digit_tail) ++ (all_done behind ++ [])) m
    ∙ run_append from (copies 8 (all_done digit_tail)) (all_done behind ++ []) (run from first m)
    ∙ ap (λ steps. run from steps (run from (copies 8 (all_done digit_tail)) (run from first m))) (append-nil
    (all_done behind))
    ∙ ap (λ t. run from (all_done behind) (run from (copies 8 (all_done digit_tail)) t)) (run_before from before m)

-- after the digits of unsigned words: the dividend still stands in its register
record UnsignedDivided (a b ra : ℕ) (m t : Run) : Type 0 where
  divides : Divides (so SECOND m) (iterated 32 b (a, 0)).0 (iterated 32 b (a, 0)).1 b t
  dividend : held ra t ≡ a

unsigned_divided : (from : Sources) (ra rb a b : ℕ) (m : Run) → IsWhole m → ra < 27 → rb < 27 → held ra m ≡ a
    → held rb m ≡ b → a < 2 ^ 32 → b < 2 ^ 32
    → UnsignedDivided a b ra m (run from (copies 8 (all_done digit_tail))
    (once from highest_bit (run from (all_done (operands ra rb)) m)))
unsigned_divided from ra rb a b m whole low few is_a is_b word_a word_b =
    let before = operands ra rb ++ highest_bit ∷ [] in
    let n = run from (all_done before) m in
    let k1 = calm_done from 27 0 before m (omega arith) whole refl in
    let k2 = calm_copies from 27 0 8 digit_tail n (omega arith) k1.whole refl in
    record {
      divides = digits_done from _ a b (run from (all_done (operands ra rb)) m)
          (starts from ra rb a b m whole few is_a is_b word_a word_b);
      dividend = k2.low ra low ∙ k1.low ra low ∙ is_a;
    }

-- by 0 too
unsigned_is : (v w b : ℕ) → Comes v w b → (if b == 0 then 0 else v) ≡ (if b == 0 then 0 else w)
unsigned_is v w zero c = refl
unsigned_is v w (suc b) c = ap (λ n. if suc b == 0 then 0 else n) (c.is (omega arith))

pub unsigned_quotient_left : (from : Sources) (f : ℕ → List Step) (rd ra rb a b : ℕ) (m : Run) → IsWhole m → 1 ≤ rd
    → rd < 32 → ra < 27 → rb < 27 → held ra m ≡ a → held rb m ≡ b → a < 2 ^ 32 → b < 2 ^ 32
    → held rd (run from (parts_trail f (unsigned_division (unsigned_quotient_to rd ra) ra rb)) m)
    ≡ quotient_unsigned a b
unfolding unsigned_quotient_to
unsigned_quotient_left from f rd ra rb a b m whole some few low_a low is_a is_b word_a word_b =
    let u = unsigned_divided from ra rb a b m whole low_a low is_a is_b word_a word_b in
    let c = large_quotient_is a b (iterated 32 b (a, 0)).0 word_a word_b (λ low_b. quotient_word a b word_a low_b)
    (λ low_b some_b. (divides_words a b word_a low_b some_b).0) in
    ap (held rd) (run_around from f (operands ra rb) (unsigned_quotient_to rd ra) m)
    ∙ (quotient_given from _ _ _ b rd _ (sets_quotient from _ _ _ a b ra _ u.divides (omega (arith, low_a)) u.dividend)
    some few c.word).value ∙ unsigned_is _ (a / b) b c

rest_left : (a b r v : ℕ) → v ≡ left_by_large a b r → (b ≡ 0 → r ≡ a) → Comes v (a % b) b → v ≡ rest_unsigned a b
rest_left a zero r v is none c = is ∙ by (nat_le 0 a)
  where
    by : (le : Bool) → (if le && false then (r + (2 ^ 32 - 0)) % 2 ^ 32 else r) ≡ a
    by true = none refl
    by false = none refl
rest_left a (suc b) r v is none c =
    c.is (omega arith) ∙ ap (λ on. if on then a else a % suc b) (sym (ne_eqb (suc b) 0 (omega arith)))

-- what is left by 0 is all
left_by_zero : (a b : ℕ) → a < 2 ^ 32 → b ≡ 0 → (iterated 32 b (a, 0)).1 ≡ a
left_by_zero a b word none = ap (λ n. (iterated 32 n (a, 0)).1) none ∙ divides_by_zero a word

pub unsigned_rest_left : (from : Sources) (f : ℕ → List Step) (rd ra rb a b : ℕ) (m : Run) → IsWhole m → 1 ≤ rd
    → rd < 32 → ra < 27 → rb < 27 → held ra m ≡ a → held rb m ≡ b → a < 2 ^ 32 → b < 2 ^ 32
    → held rd (run from (parts_trail f (unsigned_division (unsigned_rest_to rd ra) ra rb)) m) ≡ rest_unsigned a b
unsigned_rest_left from f rd ra rb a b m whole some few low_a low is_a is_b word_a word_b =
    let u = unsigned_divided from ra rb a b m whole low_a low is_a is_b word_a word_b in
    let c = large_rest_is a b (iterated 32 b (a, 0)).1 word_a word_b (λ low_b. rest_word a b word_a low_b)
    (λ low_b some_b. (divides_words a b word_a low_b some_b).1) in
    ap (held rd) (run_around from f (operands ra rb) (unsigned_rest_to rd ra) m)
    ∙ (rest_given from _ _ _ b rd _ (sets_rest from _ _ _ a b ra _ u.divides (omega (arith, low_a)) u.dividend word_a)
    some few c.word).value ∙ rest_left a b (iterated 32 b (a, 0)).1 _ refl (left_by_zero a b word_a) c

-- signed words without their signs are at most 2^31
quotient_is : (a b : ℕ) → a < 2 ^ 32 → b ≤ 2 ^ 31 → (if b == 0 then 0 else (iterated 32 b (a, 0)).0)
    ≡ (if b == 0 then 0 else a / b)
quotient_is a zero word_a low_b = refl
quotient_is a (suc b) word_a low_b =
    ap (λ n. if suc b == 0 then 0 else n) (divides_words a (suc b) word_a low_b (omega arith)).0

rest_is : (a b : ℕ) → a < 2 ^ 32 → b ≤ 2 ^ 31 → (iterated 32 b (a, 0)).1 ≡ (if b == 0 then a else a % b)
rest_is a zero word_a low_b = divides_by_zero a word_a
rest_is a (suc b) word_a low_b = (divides_words a (suc b) word_a low_b (omega arith)).1
    ∙ ap (λ on. if on then a else a % suc b) (sym (ne_eqb (suc b) 0 (omega arith)))

-- both operands lose their signs
signless : (from : Sources) (p q ra rb a b : ℕ) (m : Run) → 1 ≤ p → p < 8 → 1 ≤ q → q < 8 → (q ≡ p → ⊥) → IsWhole m
    → rb < 27 → held ra m ≡ a → held rb m ≡ b → a < 2 ^ 32 → b < 2 ^ 32
    → Signless p q a b (run from (all_done (operands ra rb ++ without_signs p q)) m)
signless from p q ra rb a b m some_p few_p some_q few_q other whole few is_a is_b word_a word_b =
    signs_go from p q _ a b (run from (all_done (operands ra rb)) m) some_p few_p some_q few_q other
    (starts from ra rb a b m whole few is_a is_b word_a word_b)

-- the sign that is asked for stays through the digits
signed_divided : (from : Sources) (p q a b : ℕ) (on : Bool) (t : Run) → Signless p q a b t → so SECOND t ≡ on
    → Divides on (iterated 32 (size_of b) (size_of a, 0)).0 (iterated 32 (size_of b) (size_of a, 0)).1 (size_of b)
    (run from (copies 8 (all_done digit_tail)) (once from highest_bit t))
signed_divided from p q a b on t x is =
    digits_done from on (size_of a) (size_of b) t (subst (λ s. Divides s (size_of a) 0 (size_of b) t) is x.divides)

pub signed_quotient_left : (from : Sources) (f : ℕ → List Step) (rd ra rb a b : ℕ) (m : Run) → IsWhole m → 1 ≤ rd
    → rd < 32 → rb < 27 → held ra m ≡ a → held rb m ≡ b → a < 2 ^ 32 → b < 2 ^ 32
    → held rd (run from (parts_trail f (signed_division TEST SECOND (signed_quotient_to rd) ra rb)) m) ≡ quotient a b
signed_quotient_left from f rd ra rb a b m whole some few low is_a is_b word_a word_b =
    let on = differ (has_bit a 31) (has_bit b 31) in
    let x = signless from TEST SECOND ra rb a b m (omega arith) (omega arith) (omega arith) (omega arith)
    (λ same. absurd (omega (arith, same))) whole low is_a is_b word_a word_b in
    let g = quotient_given from _ _ _ (size_of b) rd _ (signed_divided from TEST SECOND a b on _ x x.quotient_negative)
    some few
    (quotient_word (size_of a) (size_of b) (size_word a word_a) (size_most b word_b)) in
    ap (held rd) (run_around from f (operands ra rb ++ without_signs TEST SECOND) (signed_quotient_to rd) m)
    ∙ (negates from SECOND rd on _ g.whole some few g.sign).value ∙ ap (signed on) g.value
    ∙ ap (signed on) (quotient_is (size_of a) (size_of b) (size_word a word_a) (size_most b word_b))
    ∙ sym (signed_quotient a b word_a word_b)

pub signed_rest_left : (from : Sources) (f : ℕ → List Step) (rd ra rb a b : ℕ) (m : Run) → IsWhole m → 1 ≤ rd → rd < 32
    → rb < 27 → held ra m ≡ a → held rb m ≡ b → a < 2 ^ 32 → b < 2 ^ 32
    → held rd (run from (parts_trail f (signed_division SECOND TEST (signed_rest_to rd) ra rb)) m) ≡ rest a b
signed_rest_left from f rd ra rb a b m whole some few low is_a is_b word_a word_b =
    let on = has_bit a 31 in
    let x = signless from SECOND TEST ra rb a b m (omega arith) (omega arith) (omega arith) (omega arith)
    (λ same. absurd (omega (arith, same))) whole low is_a is_b word_a word_b in
    let g = rest_given from _ _ _ (size_of b) rd _ (signed_divided from SECOND TEST a b on _ x x.rest_negative) some few
    (rest_word (size_of a) (size_of b) (size_word a word_a) (size_most b word_b)) in
    ap (held rd) (run_around from f (operands ra rb ++ without_signs SECOND TEST) (signed_rest_to rd) m)
    ∙ (negates from SECOND rd on _ g.whole some few g.sign).value ∙ ap (signed on) g.value
    ∙ ap (signed on) (rest_is (size_of a) (size_of b) (size_word a word_a) (size_most b word_b))
    ∙ sym (signed_rest a b word_a word_b)

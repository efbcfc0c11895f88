-- What the code of quotients and remainders by constants leaves.
use Rattle.std.proofs.Common.{◌≡◌, ℕ, ◌+◌, ◌-◌, ◌*◌, ◌/◌, ◌%◌, ◌^◌, ◌<◌, ◌≤◌, ◌==◌, Bool, true, false, if◌then◌else◌, List, [], ◌∷◌, ◌++◌, refl, sym, ap, ◌∙◌, arith, ne_eqb}
use Rattle.std.specs.List.{list_all}
use Rattle.std.proofs.lemmas.Nat.{div-add-mod'}
use Rattle.patmos_instr.specs.Bundles.{PlainBundle}
use Rattle.patmos_instr.specs.declared.functions.AluFunc.TheVariants as alu
use Rattle.patmos_instr.specs.declared.functions.CmpFunc.TheVariants as cmp
use Rattle.patmos_instr.specs.declared.functions.ImmFunc.TheVariants as imm
use Rattle.patmos_instr.specs.declared.instructions.Op.TheVariants.{FromSpecial}
use Rattle.patmos_instr.specs.declared.specials.Special.TheVariants as special
use Rattle.patmos_sem.specs.Operations.{has_bit}
use Rattle.patmos_sem.specs.declared.writes.Write.TheVariants as write
use Rattle.tc_word.specs.Word.{low_word, high_word, quotient, rest, quotient_unsigned, rest_unsigned}
use Rattle.sp_shape.proofs.Lists.{done_append}
use Rattle.sp_shape.proofs.Whole.{run_append, run_whole}
use Rattle.sp_shape.specs.Run.{Run, Sources, once, run, IsWhole}
use Rattle.sp_shape.specs.Trail.{all_done}
use Rattle.sp_emit.specs.Divisors.{highest, is_power, moved, scale, factor, power_quotient_to, power_rest_to, factor_quotient_to, factor_rest_to, signed_to}
use Rattle.sp_emit.specs.Holding.{held, so}
use Rattle.sp_emit.specs.Instructions.{always, where_so, copy, with_short, compute, multiply_unsigned, from_special}
use Rattle.sp_emit.specs.declared.registers.TheConstants.{DIVIDEND, DIVISOR, REMAINDER, TEST}
use Rattle.sp_emit.proofs.Factors.{power_some, power_quotient, power_rest, Exact, exact_quotient, upper_moved}
use Rattle.sp_emit.proofs.Leaving.{did_compare_short, did_compute, did_set_long, did_with_short, held_computed_leaves}
use Rattle.sp_emit.proofs.Once.{with_written, did_write, did_multiply, whole_written, got, kept, kept_by_pred, kept_by_product, so_got, so_by_register}
use Rattle.sp_emit.proofs.Quotients.{did_copy, word_copied, negates}
use Rattle.sp_emit.proofs.Signs.{signed, size_of, size_most, signed_quotient_by, signed_rest_by}
use Rattle.sp_emit.proofs.Untouched.{register, predicate, leaves, left_run}

-- ---- words without signs, by powers of two

power_quotient_leaves : (from : Sources) (rd ra n : ℕ) (m : Run) → IsWhole m → 1 ≤ rd → rd < 32 → is_power n ≡ true
    → held rd (run from (all_done (power_quotient_to rd ra n)) m) ≡ held ra m / n
power_quotient_leaves from rd ra n m whole some few power =
    held_computed_leaves from imm.Sr rd ra (highest n) m whole some few ∙ power_quotient (held ra m) n power

power_rest_leaves : (from : Sources) (rd ra n : ℕ) (m : Run) → IsWhole m → 1 ≤ rd → rd < 32 → is_power n ≡ true
    → held rd (run from (all_done (power_rest_to rd ra n)) m) ≡ held ra m % n
power_rest_leaves from rd ra n m whole some few power =
    held_computed_leaves from imm.And rd ra (n - 1) m whole some few ∙ power_rest (held ra m) n power

-- ---- by others

number_word : (n : ℕ) → n < 2 ^ 32 → (0 + n) % 2 ^ 32 ≡ n
number_word n word = omega (arith, word)

factor_quotient_leaves : (from : Sources) (rd ra most n : ℕ) (m : Run) → IsWhole m → 1 ≤ rd → rd < 32 → ra < 29
    → Exact most n → held ra m ≤ most → held rd (run from (all_done (factor_quotient_to rd ra n)) m) ≡ held ra m / n
factor_quotient_leaves from rd ra most n m whole some few low exact le =
    let f = (0 + factor n) % 2 ^ 32 in
    let m1 = with_written (write.Register DIVISOR f) m in
    let h1 = whole_written (write.Register DIVISOR f) m whole in
    let y = held ra m1 * held DIVISOR m1 in
    let w2 = write.Product (low_word y) (high_word y) in
    let m2 = with_written w2 m1 in
    let h2 = whole_written w2 m1 h1 in
    let m3 = with_written (write.Register rd (high_word y)) m2 in
    let h3 = whole_written (write.Register rd (high_word y)) m2 h2 in
    let down = with_short always imm.Sr rd rd (moved n) in
    let a1 : held ra m1 ≡ held ra m =
    kept DIVISOR f ra m whole (omega (arith, low)) (λ same. absurd (omega (arith, same, low))) in
    let f1 : held DIVISOR m1 ≡ factor n =
    got DIVISOR f m whole (omega arith) (omega arith) ∙ number_word (factor n) exact.word in
    let steps : run from (all_done (factor_quotient_to rd ra n)) m ≡ once from down m3 =
    ap (λ t. once from down (once from (from_special rd special.Sh) (once from (multiply_unsigned ra DIVISOR) t)))
    (did_set_long from DIVISOR (factor n) m whole)
    ∙ ap (λ t. once from down (once from (from_special rd special.Sh) t)) (did_multiply from always true ra DIVISOR m1
    h1 h1.fits.always)
    ∙ ap (once from down) (did_write from always (FromSpecial rd special.Sh) m2 h2 h2.fits.always refl refl) in
    ap (held rd) (steps ∙ did_with_short from imm.Sr rd rd (moved n) m3 h3) ∙ got rd _ m3 h3 some few
    ∙ ap (λ v. v / 2 ^ (moved n % 32)) (got rd (high_word y) m2 h2 some few)
    ∙ upper_moved y n
    ∙ ap (λ a. a * held DIVISOR m1 / scale n) a1
    ∙ ap (λ b. held ra m * b / scale n) f1
    ∙ exact_quotient most n (held ra m) exact le

-- what the quotient times the divisor lacks of a word
lacks : (a n : ℕ) → a < 2 ^ 32 → (a + (2 ^ 32 - low_word (a / n * n))) % 2 ^ 32 ≡ a % n
lacks a n word = omega (arith, div-add-mod' a n, word)

factor_rest_leaves : (from : Sources) (rd ra most n : ℕ) (m : Run) → IsWhole m → 1 ≤ rd → rd < 32 → ra < 29
    → Exact most n → held ra m ≤ most → n < 2 ^ 32 → held ra m < 2 ^ 32
    → held rd (run from (all_done (factor_rest_to rd ra n)) m) ≡ held ra m % n
unfolding factor_rest_to
factor_rest_leaves from rd ra most n m whole some few low exact le word_n word =
    let t = run from (all_done (factor_quotient_to REMAINDER ra n)) m in
    let h = run_whole from (all_done (factor_quotient_to REMAINDER ra n)) m whole in
    let d = (0 + n) % 2 ^ 32 in
    let t1 = with_written (write.Register DIVISOR d) t in
    let h1 = whole_written (write.Register DIVISOR d) t h in
    let y = held REMAINDER t1 * held DIVISOR t1 in
    let w2 = write.Product (low_word y) (high_word y) in
    let t2 = with_written w2 t1 in
    let h2 = whole_written w2 t1 h1 in
    let t3 = with_written (write.Register REMAINDER (low_word y)) t2 in
    let h3 = whole_written (write.Register REMAINDER (low_word y)) t2 h2 in
    let last = compute always alu.Sub rd ra REMAINDER in
    let not_divisor : DIVISOR ≡ ra → ⊥ = λ same. absurd (omega (arith, same, low)) in
    let not_rest : REMAINDER ≡ ra → ⊥ = λ same. absurd (omega (arith, same, low)) in
    let few_a : ra < 32 = omega (arith, low) in
    let kept_a : list_all (leaves (register ra)) (factor_quotient_to REMAINDER ra n) ≡ true =
    rw (ne_eqb DIVISOR ra not_divisor, ne_eqb REMAINDER ra not_rest) refl in
    let a3 : held ra t3 ≡ held ra m =
    kept REMAINDER (low_word y) ra t2 h2 few_a not_rest ∙ kept_by_product (low_word y) (high_word y) ra t1 h1 few_a
    ∙ kept DIVISOR d ra t h few_a not_divisor
    ∙ left_run from (register ra) (factor_quotient_to REMAINDER ra n) m few_a whole kept_a in
    let q1 : held REMAINDER t1 ≡ held ra m / n = kept DIVISOR d REMAINDER t h (omega arith) (λ same. absurd
    (omega (arith, same))) ∙ factor_quotient_leaves from REMAINDER ra most n m whole (omega arith)
    (omega arith) low exact le in
    let d1 : held DIVISOR t1 ≡ n = got DIVISOR d t h (omega arith) (omega arith) ∙ number_word n word_n in
    let steps : run from (all_done (factor_rest_to rd ra n)) m ≡ once from last t3 =
    ap (λ x. once from last (once from (from_special REMAINDER special.Sl)
    (once from (multiply_unsigned REMAINDER DIVISOR) x))) (did_set_long from DIVISOR n t h)
    ∙ ap (λ x. once from last (once from (from_special REMAINDER special.Sl) x)) (did_multiply from always true
    REMAINDER DIVISOR t1 h1 h1.fits.always)
    ∙ ap (once from last) (did_write from always (FromSpecial REMAINDER special.Sl) t2 h2 h2.fits.always refl refl) in
    ap (held rd) (steps ∙ did_compute from alu.Sub rd ra REMAINDER t3 h3) ∙ got rd _ t3 h3 some few
    ∙ ap (λ a. (a + (2 ^ 32 - held REMAINDER t3)) % 2 ^ 32) a3
    ∙ ap (λ b. (held ra m + (2 ^ 32 - b)) % 2 ^ 32) (got REMAINDER (low_word y) t2 h2 (omega arith) (omega arith))
    ∙ ap (λ q. (held ra m + (2 ^ 32 - low_word (q * held DIVISOR t1))) % 2 ^ 32) q1
    ∙ ap (λ k. (held ra m + (2 ^ 32 - low_word (held ra m / n * k))) % 2 ^ 32) d1
    ∙ lacks (held ra m) n word

-- ---- signed words

-- what code makes of the dividend without its sign, with the sign
signed_leaves : (from : Sources) (rd ra : ℕ) (code : List PlainBundle) (v : ℕ) (m : Run) → IsWhole m → 1 ≤ rd → rd < 32
    → ra < 32 → held ra m < 2 ^ 32 → list_all (leaves (predicate TEST)) code ≡ true
    → ((t : Run) → IsWhole t → held DIVIDEND t ≡ size_of (held ra m) → held rd (run from (all_done code) t) ≡ v)
    → held rd (run from (all_done (signed_to rd ra code)) m) ≡ signed (has_bit (held ra m) 31) v
signed_leaves from rd ra code v m whole some few few_a word quiet leaves_it =
    let a = held ra m in
    let on = has_bit a 31 in
    let m1 = with_written (write.Predicate TEST on) m in
    let h1 = whole_written (write.Predicate TEST on) m whole in
    let w2 = write.Register DIVIDEND ((held ra m1 + 0) % 2 ^ 32) in
    let m2 = with_written w2 m1 in
    let h2 = whole_written w2 m1 h1 in
    let off = compute (where_so TEST) alu.Sub DIVIDEND 0 DIVIDEND in
    let back = compute (where_so TEST) alu.Sub rd 0 rd in
    let m3 = once from off m2 in
    let test2 : so TEST m2 ≡ on = so_by_register DIVIDEND ((held ra m1 + 0) % 2 ^ 32) TEST m1 h1 (omega arith)
    ∙ so_got TEST on m whole (omega arith) (omega arith) in
    let d2 : held DIVIDEND m2 ≡ a = got DIVIDEND ((held ra m1 + 0) % 2 ^ 32) m1 h1 (omega arith) (omega arith)
    ∙ ap (λ x. (x + 0) % 2 ^ 32) (kept_by_pred TEST on ra m whole few_a) ∙ word_copied a word in
    let n3 = negates from TEST DIVIDEND on m2 h2 (omega arith) (omega arith) test2 in
    let m4 = run from (all_done code) m3 in
    let h4 = run_whole from (all_done code) m3 n3.whole in
    let test4 : so TEST m4 ≡ on =
    left_run from (predicate TEST) code m3 (omega arith) n3.whole quiet ∙ n3.preds TEST (omega arith) ∙ test2 in
    let steps : run from (all_done (signed_to rd ra code)) m ≡ once from back m4 =
    ap (λ t. run from (all_done (code ++ back ∷ [])) (once from off (once from (copy DIVIDEND ra) t)))
    (did_compare_short from cmp.Btest TEST ra 31 m whole)
    ∙ ap (λ t. run from (all_done (code ++ back ∷ [])) (once from off t)) (did_copy from DIVIDEND ra m1 h1)
    ∙ ap (λ l. run from l m3) (done_append code (back ∷ [])) ∙ run_append from (all_done code) (all_done
    (back ∷ [])) m3 in
    ap (held rd) steps ∙ (negates from TEST rd on m4 h4 some few test4).value
    ∙ ap (signed on) (leaves_it m3 n3.whole (n3.value ∙ ap (signed on) d2))

-- ---- operators

unsigned_some : (n x y : ℕ) → 1 ≤ n → x ≡ (if n == 0 then y else x)
unsigned_some n x y some = ap (λ b. if b then y else x) (sym (ne_eqb n 0 (omega (arith, some))))

pub divides_unsigned : (from : Sources) (rd ra n : ℕ) (m : Run) → IsWhole m → 1 ≤ rd → rd < 32 → ra < 27
    → held ra m < 2 ^ 32 → (b : Bool) → is_power n ≡ b → (b ≡ false → Exact (2 ^ 32 - 1) n)
    → held rd (run from (all_done (if b then power_quotient_to rd ra n else factor_quotient_to rd ra n)) m)
    ≡ quotient_unsigned (held ra m) n
divides_unsigned from rd ra n m whole some few low word true power exact =
    power_quotient_leaves from rd ra n m whole some few power ∙ unsigned_some n (held ra m / n) 0 (power_some n power)
divides_unsigned from rd ra n m whole some few low word false other exact =
    let e = exact refl in
    factor_quotient_leaves from rd ra (2 ^ 32 - 1) n m whole some few (omega (arith, low)) e (omega (arith, word))
    ∙ unsigned_some n (held ra m / n) 0 (omega (arith, e.some))

pub leaves_unsigned : (from : Sources) (rd ra n : ℕ) (m : Run) → IsWhole m → 1 ≤ rd → rd < 32 → ra < 27
    → held ra m < 2 ^ 32 → n < 2 ^ 32 → (b : Bool) → (b ≡ true → is_power n ≡ true) → (b ≡ false → Exact (2 ^ 32 - 1) n)
    → held rd (run from (all_done (if b then power_rest_to rd ra n else factor_rest_to rd ra n)) m)
    ≡ rest_unsigned (held ra m) n
leaves_unsigned from rd ra n m whole some few low word word_n true power exact =
    power_rest_leaves from rd ra n m whole some few (power refl) ∙ unsigned_some n (held ra m % n) (held ra m)
    (power_some n (power refl))
leaves_unsigned from rd ra n m whole some few low word word_n false power exact =
    let e = exact refl in
    factor_rest_leaves from rd ra (2 ^ 32 - 1) n m whole some few (omega (arith, low)) e (omega (arith, word)) word_n
    word ∙ unsigned_some n (held ra m % n) (held ra m) (omega (arith, e.some))

pub divides_signed : (from : Sources) (rd ra n : ℕ) (m : Run) → IsWhole m → 1 ≤ rd → rd < 32 → ra < 27
    → held ra m < 2 ^ 32 → n < 2 ^ 31 → (b : Bool) → is_power n ≡ b → (b ≡ false → Exact (2 ^ 31) n)
    → held rd (run from (all_done (if b then signed_to rd ra (power_quotient_to rd DIVIDEND n) else signed_to rd ra
    (factor_quotient_to rd DIVIDEND n))) m) ≡ quotient (held ra m) n
divides_signed from rd ra n m whole some few low word small true power exact =
    signed_leaves from rd ra (power_quotient_to rd DIVIDEND n) (size_of (held ra m) / n) m whole some few
    (omega (arith, low)) word refl
    (λ t h is. power_quotient_leaves from rd DIVIDEND n t h some few power ∙ ap (λ x. x / n) is)
    ∙ sym (signed_quotient_by (held ra m) n word (power_some n power) small)
divides_signed from rd ra n m whole some few low word small false other exact =
    let e = exact refl in
    signed_leaves from rd ra (factor_quotient_to rd DIVIDEND n) (size_of (held ra m) / n) m whole some few
    (omega (arith, low)) word refl
    (λ t h is. factor_quotient_leaves from rd DIVIDEND (2 ^ 31) n t h some few (omega arith) e (omega
    (arith, is, size_most (held ra m) word)) ∙ ap (λ x. x / n) is)
    ∙ sym (signed_quotient_by (held ra m) n word (omega (arith, e.some)) small)

pub leaves_signed : (from : Sources) (rd ra n : ℕ) (m : Run) → IsWhole m → 1 ≤ rd → rd < 32 → ra < 27
    → held ra m < 2 ^ 32 → n < 2 ^ 31 → (b : Bool) → (b ≡ true → is_power n ≡ true) → (b ≡ false → Exact (2 ^ 31) n)
    → held rd (run from (all_done (if b then signed_to rd ra (power_rest_to rd DIVIDEND n) else signed_to rd ra
    (factor_rest_to rd DIVIDEND n))) m) ≡ rest (held ra m) n
unfolding factor_rest_to
leaves_signed from rd ra n m whole some few low word small true power exact =
    signed_leaves from rd ra (power_rest_to rd DIVIDEND n) (size_of (held ra m) % n) m whole some few
    (omega (arith, low)) word refl
    (λ t h is. power_rest_leaves from rd DIVIDEND n t h some few (power refl) ∙ ap (λ x. x % n) is)
    ∙ sym (signed_rest_by (held ra m) n word (power_some n (power refl)) small)
leaves_signed from rd ra n m whole some few low word small false power exact =
    let e = exact refl in
    signed_leaves from rd ra (factor_rest_to rd DIVIDEND n) (size_of (held ra m) % n) m whole some few
    (omega (arith, low)) word refl
    (λ t h is. factor_rest_leaves from rd DIVIDEND (2 ^ 31) n t h some few (omega arith) e (omega
    (arith, is, size_most (held ra m) word)) (omega (arith, small)) (omega (arith, is, size_most (held ra m) word))
    ∙ ap (λ x. x % n) is)
    ∙ sym (signed_rest_by (held ra m) n word (omega (arith, e.some)) small)

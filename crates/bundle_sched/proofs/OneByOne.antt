-- What an operation leaves, register by register and predicate by predicate.
use Rattle.std.proofs.Common.{◌≡◌, ℕ, zero, suc, ◌<◌, Bool, true, [], ◌∷◌, refl, sym, ap, arith}
use Rattle.std.specs.Prelude.{◌&&◌, nat_lt}
use Rattle.std.specs.List.{list_all}
use Rattle.std.proofs.Math.Bool.{and-true}
use Rattle.patmos_instr.specs.declared.instructions.Op.{Op}
use Rattle.patmos_instr.specs.declared.instructions.Op.TheVariants.{Cmp, CmpImm, Comb, ToSpecial}
use Rattle.patmos_instr.specs.declared.specials.WritableSpecial.TheVariants as special
use Rattle.bundle_sched.specs.Operands.{all_preds, lacks, apart, spares, results}

pub apart_one : (op : Op) (r : ℕ) → apart (results op) (r ∷ []) ≡ lacks (results op) r
apart_one op r = and-true (lacks (results op) r)

pub apart_two : (op : Op) (r s : ℕ) → apart (results op) (r ∷ s ∷ []) ≡ (lacks (results op) r && lacks (results op) s)
apart_two op r s = ap (λ x. lacks (results op) r && x) (and-true (lacks (results op) s))

three : (f : ℕ → Bool) (p q r : ℕ) → (f p && (f q && (f r && true)))
    ≡ ((f p && true) && ((f q && true) && (f r && true)))
three f p q r = λ k. sym (and-true (f p)) k && (sym (and-true (f q)) k && (f r && true))

pub spares_three : (op : Op) (p q r : ℕ) → spares op (p ∷ q ∷ r ∷ [])
    ≡ (spares op (p ∷ []) && (spares op (q ∷ []) && spares op (r ∷ [])))
spares_three (ToSpecial special.S0 ra) p q r = refl
spares_three (Cmp func pd ra rb) p q r = three (lacks (pd ∷ [])) p q r
spares_three (CmpImm func pd ra imm) p q r = three (lacks (pd ∷ [])) p q r
spares_three (Comb func pd a b) p q r = three (lacks (pd ∷ [])) p q r
spares_three _ p q r = refl

pub spares_all : (op : Op) (p : ℕ) → spares op (p ∷ all_preds) ≡ (spares op (p ∷ []) && spares op all_preds)
spares_all (ToSpecial special.S0 ra) p = refl
spares_all (Cmp func pd ra rb) p =
    ap (λ x. x && list_all (lacks (pd ∷ [])) all_preds) (sym (and-true (lacks (pd ∷ []) p)))
spares_all (CmpImm func pd ra imm) p =
    ap (λ x. x && list_all (lacks (pd ∷ [])) all_preds) (sym (and-true (lacks (pd ∷ []) p)))
spares_all (Comb func pd a b) p =
    ap (λ x. x && list_all (lacks (pd ∷ [])) all_preds) (sym (and-true (lacks (pd ∷ []) p)))
spares_all _ p = refl

-- a predicate is one of all
pub one_of_all : (pd : ℕ) → pd < 8 → apart (pd ∷ []) all_preds ≡ nat_lt 7 pd
one_of_all (suc (suc (suc (suc (suc (suc (suc (suc n)))))))) h = absurd (omega (arith, h))
one_of_all _ h = refl

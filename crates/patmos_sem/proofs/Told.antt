-- Register files told register by register: a file written at one place, a file that keeps its values,
-- and one write after another.
use Rattle.std.proofs.Common.{◌≡◌, ◌≢◌, ℕ, zero, suc, add-zero, ◌+◌, ◌<◌, ◌==◌, Bool, true, false, if◌then◌else◌, List, [], ◌∷◌, ◌++◌, length, get_or, set, refl, sym, ◌∙◌, ap, arith, zero-add, length-set}
use Rattle.std.proofs.lemmas.List.{ext_get_or, get_or-set_same, get_or-set_other}
use Rattle.std.proofs.lemmas.Bool.{cases_eq}
use Rattle.std.proofs.lemmas.Grind.{common_steps}
use Rattle.patmos_instr.specs.declared.specials.WritableSpecial.TheVariants as special
use Rattle.patmos_sem.specs.declared.writes.Write.{Write}
use Rattle.patmos_sem.specs.declared.writes.Write.TheVariants as write
use Rattle.patmos_sem.specs.declared.pending.Pending.TheVariants as pending
use Rattle.patmos_sem.specs.Operations.{has_bit}
use Rattle.patmos_sem.specs.Registers.{Registers}
use Rattle.patmos_sem.specs.Writes.{renewed_from, renewed, register_by, pred_by, register_after, pred_after, last_by, low_by, high_by, base_by, offset_by, after_writes, came}

pub length-renewed_from : {A : Type 0} (n : ℕ) (f : ℕ → A → A) (xs : List A) → length (renewed_from n f xs) ≡ length xs
length-renewed_from n f [] = refl
length-renewed_from n f (x ∷ xs) = ap suc (length-renewed_from (n + 1) f xs)

pub get_or-renewed_from : {A : Type 0} (n : ℕ) (f : ℕ → A → A) (xs : List A) (i : ℕ) (d : A) → i < length xs
    → get_or (renewed_from n f xs) i d ≡ f (n + i) (get_or xs i d)
get_or-renewed_from n f [] i d h = absurd (omega (arith, h))
get_or-renewed_from n f (x ∷ xs) zero d h = ap (λ k. f k x) (sym (add-zero n))
get_or-renewed_from n f (x ∷ xs) (suc i) d h =
    let lt : i < length xs = omega (arith, h) in
    let next : n + 1 + i ≡ n + suc i = omega arith in
    get_or-renewed_from (n + 1) f xs i d lt ∙ ap (λ k. f k (get_or xs i d)) next

pub get_or-renewed : {A : Type 0} (f : ℕ → A → A) (xs : List A) (i : ℕ) (d : A) → i < length xs
    → get_or (renewed f xs) i d ≡ f i (get_or xs i d)
get_or-renewed f xs i d h = get_or-renewed_from 0 f xs i d h ∙ ap (λ k. f k (get_or xs i d)) (zero-add i)

-- a file is the told one where each register is
pub renewed_is : {A : Type 0} (f : ℕ → A → A) (xs ys : List A) (d : A) → length ys ≡ length xs
    → ((i : ℕ) → i < length xs → get_or ys i d ≡ f i (get_or xs i d)) → ys ≡ renewed f xs
renewed_is f xs ys d e each = ext_get_or d ys (renewed f xs) (e ∙ sym (length-renewed_from 0 f xs))
    (λ i h. let lt : i < length xs = omega (arith, e) in each i lt ∙ sym (get_or-renewed f xs i d lt))

-- a general register written
pub set_register : (xs : List ℕ) (rd value : ℕ) → rd ≢ 0 → rd < length xs → get_or xs 0 0 ≡ 0 → set xs rd value
    ≡ renewed (register_after (write.Register rd value ∷ [])) xs
set_register xs rd value ne lt first =
    renewed_is (register_after (write.Register rd value ∷ [])) xs (set xs rd value) 0 (length-set xs rd value)
    (λ i h. grind (arith, common_steps, get_or-set_same, get_or-set_other, cases_eq i rd, cases_eq i 0))

-- a predicate written
pub set_pred : (xs : List Bool) (pd : ℕ) (value : Bool) → pd ≢ 0 → pd < length xs → get_or xs 0 false ≡ true
    → set xs pd value ≡ renewed (pred_after (write.Predicate pd value ∷ [])) xs
set_pred xs pd value ne lt first =
    renewed_is (pred_after (write.Predicate pd value ∷ [])) xs (set xs pd value) false (length-set xs pd value)
    (λ i h. grind (arith, common_steps, get_or-set_same, get_or-set_other, cases_eq i pd, cases_eq i 0))

-- what a write does not name keeps its value
pub kept_registers : (w : Write) (xs : List ℕ) → get_or xs 0 0 ≡ 0 → ((r old : ℕ) → r ≢ 0 → register_by r w old ≡ old)
    → xs ≡ renewed (register_after (w ∷ [])) xs
kept_registers w xs first same =
    renewed_is (register_after (w ∷ [])) xs xs 0 refl (λ i h. grind (arith, common_steps, same, cases_eq i 0))

pub kept_preds : (w : Write) (xs : List Bool) → get_or xs 0 false ≡ true → ((p : ℕ) (old : Bool) → p ≢ 0
    → pred_by p w old ≡ old) → xs ≡ renewed (pred_after (w ∷ [])) xs
kept_preds w xs first same =
    renewed_is (pred_after (w ∷ [])) xs xs false refl (λ i h. grind (arith, common_steps, same, cases_eq i 0))

-- the registers after a write, part by part
pub parts_after : (w : Write) (regs : Registers) (general : List ℕ) (preds : List Bool) → general
    ≡ renewed (register_after (w ∷ [])) regs.general → preds ≡ renewed (pred_after (w ∷ [])) regs.preds
    → record {
      general = general;
      preds = preds;
      sl = low_by w regs.sl;
      sh = high_by w regs.sh;
      srb = base_by w regs.srb;
      sro = offset_by w regs.sro;
      pending = regs.pending;
    } ≡ after_writes (w ∷ []) regs
parts_after w regs general preds g p = λ k. record {
  general = g k;
  preds = p k;
  sl = low_by w regs.sl;
  sh = high_by w regs.sh;
  srb = base_by w regs.srb;
  sro = offset_by w regs.sro;
  pending = regs.pending;
}

-- one after another
pub renewed-renewed : {A : Type 0} (n : ℕ) (f g h : ℕ → A → A) → ((r : ℕ) (x : A) → g r (f r x) ≡ h r x) → (xs : List A)
    → renewed_from n g (renewed_from n f xs) ≡ renewed_from n h xs
renewed-renewed n f g h e [] = refl
renewed-renewed n f g h e (x ∷ xs) = rw (e n x, renewed-renewed (n + 1) f g h e xs)

pub last_by-append : {A : Type 0} (by : Write → A → A) (us vs : List Write) (x : A) → last_by by vs (last_by by us x)
    ≡ last_by by (us ++ vs) x
last_by-append by [] vs x = refl
last_by-append by (u ∷ us) vs x = last_by-append by us vs (by u x)

pub register_after-append : (us vs : List Write) (r x : ℕ) → register_after vs r (register_after us r x)
    ≡ register_after (us ++ vs) r x
register_after-append us vs r x =
    elim (r == 0) as (λ z. (if z then 0 else last_by (register_by r) vs (if z then 0 else last_by (register_by r) us x))
    ≡ (if z then 0 else last_by (register_by r) (us ++ vs) x))
    [ true ↦ refl | false ↦ last_by-append (register_by r) us vs x ]

pub pred_after-append : (us vs : List Write) (p : ℕ) (x : Bool) → pred_after vs p (pred_after us p x)
    ≡ pred_after (us ++ vs) p x
pred_after-append us vs p x =
    elim (p == 0) as (λ z. (if z then true else last_by (pred_by p) vs (if z then true else last_by (pred_by p) us x))
    ≡ (if z then true else last_by (pred_by p) (us ++ vs) x))
    [ true ↦ refl | false ↦ last_by-append (pred_by p) us vs x ]

pub after_writes-append : (us vs : List Write) (regs : Registers) → after_writes vs (after_writes us regs)
    ≡ after_writes (us ++ vs) regs
after_writes-append us vs regs = λ k. record {
  general = renewed-renewed 0 (register_after us) (register_after vs) (register_after (us ++ vs))
      (register_after-append us vs) regs.general k;
  preds = renewed-renewed 0 (pred_after us) (pred_after vs) (pred_after (us ++ vs))
      (pred_after-append us vs) regs.preds k;
  sl = last_by-append low_by us vs regs.sl k;
  sh = last_by-append high_by us vs regs.sh k;
  srb = last_by-append base_by us vs regs.srb k;
  sro = last_by-append offset_by us vs regs.sro k;
  pending = regs.pending;
}

pub in_turn : (a b c : Write) (regs : Registers) → after_writes (c ∷ []) (after_writes (b ∷ [])
    (after_writes (a ∷ []) regs)) ≡ after_writes (a ∷ b ∷ c ∷ []) regs
in_turn a b c regs = ap (after_writes (c ∷ [])) (after_writes-append (a ∷ []) (b ∷ []) regs)
    ∙ after_writes-append (a ∷ b ∷ []) (c ∷ []) regs

pub one_alone : (a b : Write) (regs : Registers) → after_writes (b ∷ []) (after_writes (a ∷ []) regs)
    ≡ after_writes (a ∷ b ∷ write.Nothing ∷ []) regs
one_alone a b regs = after_writes-append (a ∷ []) (b ∷ []) regs

-- where nothing was pending, nothing comes
pub still_nothing : (w : Write) (regs : Registers) → regs.pending ≡ pending.Nothing
    → after_writes (w ∷ []) regs ≡ record (after_writes (came regs.pending ∷ w ∷ write.Nothing ∷ []) regs) {
      pending = pending.Nothing;
    }
still_nothing w regs none =
    λ i. record (after_writes (came (sym none i) ∷ w ∷ write.Nothing ∷ []) regs) { pending = none i }

-- s0 written: each predicate gets its bit
pub s0_bits : (xs : List Bool) (value : ℕ) → length xs ≡ 8
    → true ∷ has_bit value 1 ∷ has_bit value 2 ∷ has_bit value 3 ∷ has_bit value 4 ∷ has_bit value 5 ∷ has_bit value 6
    ∷ has_bit value 7 ∷ [] ≡ renewed (pred_after (write.Special special.S0 value ∷ [])) xs
s0_bits (a ∷ b ∷ c ∷ d ∷ e ∷ f ∷ g ∷ h ∷ []) value eight = refl
s0_bits _ value eight = absurd (omega (arith, eight))

-- What an instruction does depends on what it reads alone.
use Rattle.std.proofs.Common.{◌≡◌, ℕ, ◌*◌, ◌+◌, Bool, true, false, not, true≢false, if◌then◌else◌, List, [], ◌∷◌, refl, sym, ap}
use Rattle.std.specs.Prelude.{◌&&◌}
use Rattle.std.specs.List.{list_all}
use Rattle.std.proofs.lemmas.Bool.{and_parts}
use Rattle.patmos_instr.specs.declared.guards.Guard.{Guard}
use Rattle.patmos_instr.specs.declared.instructions.Instr.{Instr}
use Rattle.patmos_instr.specs.declared.instructions.Op.{Op}
use Rattle.patmos_instr.specs.declared.instructions.Op.TheVariants.{AluImm, AluReg, AluLong, Mul, Cmp, CmpImm, Comb, ToSpecial, FromSpecial, Load, Store, Return}
use Rattle.patmos_instr.specs.declared.specials.Special.TheVariants as special
use Rattle.patmos_sem.specs.Bundles.{slot_write}
use Rattle.patmos_sem.specs.Effects.{address_of, width_bytes, store_bytes, special_in, write_of, begun, asked}
use Rattle.patmos_sem.specs.Operations.{alu_of, alu_value, compare_value, pred_value}
use Rattle.patmos_sem.specs.Registers.{Registers, word_in, pred_in, holds, preds_number}
use Rattle.patmos_sem.specs.declared.effects.Effect.TheVariants as effect
use Rattle.patmos_sem.specs.declared.effects.FlowKind.TheVariants as flow
use Rattle.patmos_sem.specs.declared.pending.Pending.TheVariants as pending
use Rattle.patmos_sem.specs.declared.writes.Write.TheVariants as write
use Rattle.tc_word.specs.Word.{product, low_word, high_word}
use Rattle.bundle_sched.specs.Operands.{all_preds, reads, op_tests, tests}
use Rattle.bundle_sched.specs.Ordered.{is_plain_op}

-- a special register that is read is the same
abbrev pub SameSpecial : ℕ → ℕ → Registers → Registers → Op → Type 0
SameSpecial st ss regs next (FromSpecial rd from) = special_in st ss next from ≡ special_in st ss regs from
SameSpecial st ss regs next _ = Unit {0}

pub each_true : (xs : List ℕ) → list_all (λ x. true) xs ≡ true
each_true [] = refl
each_true (x ∷ xs) = each_true xs

-- registers of which those are the same that are left, and those predicates
module _ (regs next : Registers) (left leaves : ℕ → Bool) (word : (r : ℕ) → left r ≡ true → word_in next r
    ≡ word_in regs r)
    (pred : (p : ℕ) → leaves p ≡ true → pred_in next p ≡ pred_in regs p) where
  one_word : {A : Type 0} (f : ℕ → A) (r : ℕ) → list_all left (r ∷ []) ≡ true → f (word_in next r) ≡ f (word_in regs r)
  one_word f r free = ap f (word r (and_parts (left r) true free).0)

  two_words : {A : Type 0} (f : ℕ → ℕ → A) (r s : ℕ) → list_all left (r ∷ s ∷ []) ≡ true
      → f (word_in next r) (word_in next s) ≡ f (word_in regs r) (word_in regs s)
  two_words f r s free =
      let both = and_parts (left r) (left s && true) free in
      let p = word r both.0 in
      let q = word s (and_parts (left s) true both.1).0 in
      λ k. f (p k) (q k)

  guard_same : (g : Guard) → leaves g.pred ≡ true → holds next g ≡ holds regs g
  guard_same g h = ap (λ b. if g.negated then not b else b) (pred g.pred h)

  -- where the guard's predicate is left too
  pub slot_same : {A : Type 0} (f : Registers → Op → A) (none : A) (i : Instr) → list_all leaves (tests i) ≡ true
      → f next i.op ≡ f regs i.op
      → (if holds next i.guard then f next i.op else none) ≡ (if holds regs i.guard then f regs i.op else none)
  slot_same f none i tested same = let on = guard_same i.guard (and_parts (leaves i.guard.pred)
      (list_all leaves (op_tests i.op)) tested).0 in λ k. if on k then same k else none

  -- of a plain one, wherever the stack is
  plain_write : (st ss st' ss' : ℕ) (op : Op) → is_plain_op op ≡ true → list_all left (reads op) ≡ true
      → list_all leaves (op_tests op) ≡ true
      → write_of st' ss' next op ≡ write_of st ss regs op
  plain_write st ss st' ss' (AluImm func rd ra imm) kind free tested =
      one_word (λ x. write.Register rd (alu_value (alu_of func) x imm)) ra free
  plain_write st ss st' ss' (AluReg func rd ra rb) kind free tested =
      two_words (λ x y. write.Register rd (alu_value func x y)) ra rb free
  plain_write st ss st' ss' (AluLong func rd ra constant) kind free tested =
      one_word (λ x. write.Register rd (alu_value func x constant)) ra free
  plain_write st ss st' ss' (Cmp func pd ra rb) kind free tested =
      two_words (λ x y. write.Predicate pd (compare_value func x y)) ra rb free
  plain_write st ss st' ss' (CmpImm func pd ra imm) kind free tested =
      one_word (λ x. write.Predicate pd (compare_value func x imm)) ra free
  plain_write st ss st' ss' (Comb func pd a b) kind free tested =
      let both = and_parts (leaves a.pred) (leaves b.pred && true) tested in
      let p = guard_same a both.0 in
      let q = guard_same b (and_parts (leaves b.pred) true both.1).0 in
      λ k. write.Predicate pd (pred_value func (p k) (q k))
  plain_write st ss st' ss' _ kind free tested = absurd (true≢false (sym kind))

  pub plain_slot : (st ss st' ss' : ℕ) (i : Instr) → is_plain_op i.op ≡ true → list_all left (reads i.op) ≡ true
      → list_all leaves (tests i) ≡ true
      → slot_write st' ss' next i ≡ slot_write st ss regs i
  plain_slot st ss st' ss' i kind free tested =
      let both = and_parts (leaves i.guard.pred) (list_all leaves (op_tests i.op)) tested in
      let on = guard_same i.guard both.0 in
      let same = plain_write st ss st' ss' i.op kind free both.1 in
      λ k. if on k then same k else write.Nothing

  -- the predicates as a number
  number_same : list_all leaves all_preds ≡ true → preds_number next.preds ≡ preds_number regs.preds
  number_same all =
      let h0 = and_parts (leaves 0) (list_all leaves (1 ∷ 2 ∷ 3 ∷ 4 ∷ 5 ∷ 6 ∷ 7 ∷ [])) all in
      let h1 = and_parts (leaves 1) (list_all leaves (2 ∷ 3 ∷ 4 ∷ 5 ∷ 6 ∷ 7 ∷ [])) h0.1 in
      let h2 = and_parts (leaves 2) (list_all leaves (3 ∷ 4 ∷ 5 ∷ 6 ∷ 7 ∷ [])) h1.1 in
      let h3 = and_parts (leaves 3) (list_all leaves (4 ∷ 5 ∷ 6 ∷ 7 ∷ [])) h2.1 in
      let h4 = and_parts (leaves 4) (list_all leaves (5 ∷ 6 ∷ 7 ∷ [])) h3.1 in
      let h5 = and_parts (leaves 5) (list_all leaves (6 ∷ 7 ∷ [])) h4.1 in
      let h6 = and_parts (leaves 6) (list_all leaves (7 ∷ [])) h5.1 in
      let h7 = and_parts (leaves 7) true h6.1 in
      let bit = λ (p : ℕ) (h : leaves p ≡ true). ap {B = ℕ} (λ b. if b then 1 else 0) (pred p h) in
      let b0 = bit 0 h0.0 in
      let b1 = bit 1 h1.0 in
      let b2 = bit 2 h2.0 in
      let b3 = bit 3 h3.0 in
      let b4 = bit 4 h4.0 in
      let b5 = bit 5 h5.0 in
      let b6 = bit 6 h6.0 in
      let b7 = bit 7 h7.0 in
      λ k. b0 k + b1 k * 2 + b2 k * 4 + b3 k * 8 + b4 k * 16 + b5 k * 32 + b6 k * 64 + b7 k * 128

  -- where the special registers are the same, each reads the same
  pub specials_same : next.sl ≡ regs.sl → next.sh ≡ regs.sh → next.srb ≡ regs.srb → next.sro ≡ regs.sro
      → (st ss : ℕ) (op : Op) → list_all leaves (op_tests op) ≡ true → SameSpecial st ss regs next op
  specials_same low high base offset st ss (FromSpecial rd special.S0) tested = number_same tested
  specials_same low high base offset st ss (FromSpecial rd special.Sl) tested = low
  specials_same low high base offset st ss (FromSpecial rd special.Sh) tested = high
  specials_same low high base offset st ss (FromSpecial rd special.Srb) tested = base
  specials_same low high base offset st ss (FromSpecial rd special.Sro) tested = offset
  specials_same low high base offset st ss (FromSpecial rd special.St) tested = refl
  specials_same low high base offset st ss (FromSpecial rd special.Ss) tested = refl
  specials_same low high base offset st ss _ tested = tt

  -- of any
  pub any_write : (st ss : ℕ) (op : Op) → list_all left (reads op) ≡ true → list_all leaves (op_tests op) ≡ true
      → SameSpecial st ss regs next op → write_of st ss next op ≡ write_of st ss regs op
  any_write st ss (AluImm func rd ra imm) free tested same =
      plain_write st ss st ss (AluImm func rd ra imm) refl free tested
  any_write st ss (AluReg func rd ra rb) free tested same =
      plain_write st ss st ss (AluReg func rd ra rb) refl free tested
  any_write st ss (AluLong func rd ra constant) free tested same =
      plain_write st ss st ss (AluLong func rd ra constant) refl free tested
  any_write st ss (Cmp func pd ra rb) free tested same = plain_write st ss st ss (Cmp func pd ra rb) refl free tested
  any_write st ss (CmpImm func pd ra imm) free tested same =
      plain_write st ss st ss (CmpImm func pd ra imm) refl free tested
  any_write st ss (Comb func pd a b) free tested same = plain_write st ss st ss (Comb func pd a b) refl free tested
  any_write st ss (ToSpecial to ra) free tested same = one_word (λ x. write.Special to x) ra free
  any_write st ss (FromSpecial rd from) free tested same = ap (write.Register rd) same
  any_write st ss _ free tested same = refl

  pub any_begun : (op : Op) → list_all left (reads op) ≡ true → begun next op ≡ begun regs op
  any_begun (Mul true ra rb) free = two_words (λ x y. pending.Product (low_word (x * y)) (high_word (x * y))) ra rb free
  any_begun (Mul false ra rb) free =
      two_words (λ x y. pending.Product (low_word (product x y)) (high_word (product x y))) ra rb free
  any_begun _ free = refl

  pub any_asked : next.srb ≡ regs.srb → next.sro ≡ regs.sro → (op : Op) → list_all left (reads op) ≡ true
      → asked next op ≡ asked regs op
  any_asked base offset (Load space width rd ra imm) free =
      one_word (λ x. effect.Load space width rd (address_of x imm (width_bytes width))) ra free
  any_asked base offset (Store space width ra rs imm) free =
      two_words (λ x y. effect.Store space width (address_of x imm (store_bytes width)) y) ra rs free
  any_asked base offset Return free = λ k. effect.Flow (flow.Return (base k) (offset k))
  any_asked base offset _ free = refl

-- A register and a predicate that nothing names stay as they are.
use Rattle.std.proofs.Common.{◌≡◌, ℕ, zero, suc, ◌+◌, ◌==◌, Bool, true, false, not, true≢false, if◌then◌else◌, Option, Some, None, List, [], ◌∷◌, get_or, refl, sym, ap, ◌∙◌, arith, ne_eqb, add-zero, zero-add}
use Rattle.std.specs.Prelude.{◌&&◌}
use Rattle.std.specs.List.{list_all}
use Rattle.std.proofs.lemmas.Bool.{and_parts, and_from, not-true}
use Rattle.patmos_instr.specs.declared.instructions.Instr.{Instr}
use Rattle.patmos_instr.specs.declared.instructions.Op.{Op}
use Rattle.patmos_instr.specs.declared.instructions.Op.TheVariants.{AluImm, AluReg, AluLong, Cmp, CmpImm, Comb, ToSpecial, FromSpecial}
use Rattle.patmos_instr.specs.declared.specials.WritableSpecial.TheVariants as special
use Rattle.patmos_sem.specs.Bundles.{second_write}
use Rattle.patmos_sem.specs.Effects.{special_in, write_of}
use Rattle.patmos_sem.specs.Operations.{alu_of, alu_value, compare_value, pred_value}
use Rattle.patmos_sem.specs.Registers.{Registers, FitsRegisters, word_in, pred_in, holds}
use Rattle.patmos_sem.specs.Writes.{after_writes, register_after, pred_after, register_by, pred_by, last_by, renewed_from}
use Rattle.patmos_sem.specs.declared.pending.Pending.TheVariants as pending
use Rattle.patmos_sem.specs.declared.writes.Write.{Write}
use Rattle.patmos_sem.specs.declared.writes.Write.TheVariants as write
use Rattle.sp_shape.proofs.Whole.{with_pending, writes_fit}
use Rattle.bundle_sched.specs.Operands.{results, lacks, spares}

-- ---- registers after one write, where it is not named

kept_at : {A : Type 0} (n : ℕ) (f : ℕ → A → A) (xs : List A) (i : ℕ) (d : A) → ((x : A) → f (n + i) x ≡ x)
    → get_or (renewed_from n f xs) i d ≡ get_or xs i d
kept_at n f [] i d same = refl
kept_at n f (x ∷ xs) zero d same = ap (λ k. f k x) (sym (add-zero n)) ∙ same x
kept_at n f (x ∷ xs) (suc i) d same =
    let next : n + 1 + i ≡ n + suc i = omega arith in
    kept_at (n + 1) f xs i d (λ y. ap (λ k. f k y) next ∙ same y)

-- the writes of a bundle of one instruction, with nothing pending
abbrev pub alone : Write → List Write
alone w = write.Nothing ∷ w ∷ write.Nothing ∷ []

abbrev pub after_one : Write → Registers → Registers
after_one w regs = with_pending (after_writes (alone w) regs) pending.Nothing

pub word_kept : (ws : List Write) (regs : Registers) (r : ℕ) → FitsRegisters regs
    → ((x : ℕ) → last_by (register_by r) ws x ≡ x)
    → word_in (with_pending (after_writes ws regs) pending.Nothing) r ≡ word_in regs r
word_kept ws regs zero fits same = (writes_fit ws pending.Nothing regs fits).zero ∙ sym fits.zero
word_kept ws regs (suc r) fits same =
    kept_at 0 (register_after ws) regs.general (suc r) 0
    (λ x. ap (λ k. register_after ws k x) (zero-add (suc r)) ∙ ap (λ b. if b then 0 else last_by (register_by (suc r))
    ws x) (ne_eqb (suc r) 0 (λ e. omega (arith, e))) ∙ same x)

pub pred_kept : (ws : List Write) (regs : Registers) (p : ℕ) → FitsRegisters regs
    → ((x : Bool) → last_by (pred_by p) ws x ≡ x)
    → pred_in (with_pending (after_writes ws regs) pending.Nothing) p ≡ pred_in regs p
pred_kept ws regs zero fits same = (writes_fit ws pending.Nothing regs fits).always ∙ sym fits.always
pred_kept ws regs (suc p) fits same =
    kept_at 0 (pred_after ws) regs.preds (suc p) false
    (λ x. ap (λ k. pred_after ws k x) (zero-add (suc p)) ∙ ap (λ b. if b then true else last_by (pred_by (suc p)) ws x)
    (ne_eqb (suc p) 0 (λ e. omega (arith, e))) ∙ same x)

-- ---- what an instruction does not write it leaves

pub word_spared : (rd r value x : ℕ) → lacks (rd ∷ []) r ≡ true → register_by r (write.Register rd value) x ≡ x
word_spared rd r value x h = ap (λ b. if b then value else x) (not-true (rd == r) (and_parts (not (rd == r)) true h).0)

pub register_spared : (on : Bool) (op : Op) (st ss : ℕ) (regs : Registers) (r x : ℕ) → lacks (results op) r ≡ true
    → register_by r (if on then write_of st ss regs op else write.Nothing) x ≡ x
register_spared false op st ss regs r x h = refl
register_spared true (AluImm func rd ra imm) st ss regs r x h =
    word_spared rd r (alu_value (alu_of func) (word_in regs ra) imm) x h
register_spared true (AluReg func rd ra rb) st ss regs r x h =
    word_spared rd r (alu_value func (word_in regs ra) (word_in regs rb)) x h
register_spared true (AluLong func rd ra constant) st ss regs r x h =
    word_spared rd r (alu_value func (word_in regs ra) constant) x h
register_spared true (FromSpecial rd from) st ss regs r x h = word_spared rd r (special_in st ss regs from) x h
register_spared true _ st ss regs r x h = refl

flag_spared : (pd p : ℕ) (value x : Bool) (others : Bool) → ((not (pd == p) && true) && others) ≡ true
    → pred_by p (write.Predicate pd value) x ≡ x
flag_spared pd p value x others h =
    let own = and_parts (not (pd == p) && true) others h in
    ap (λ b. if b then value else x) (not-true (pd == p) (and_parts (not (pd == p)) true own.0).0)

pub pred_spared : (on : Bool) (op : Op) (st ss : ℕ) (regs : Registers) (p : ℕ) (ps : List ℕ) (x : Bool)
    → spares op (p ∷ ps) ≡ true
    → pred_by p (if on then write_of st ss regs op else write.Nothing) x ≡ x
pred_spared false op st ss regs p ps x h = refl
pred_spared true (Cmp func pd ra rb) st ss regs p ps x h =
    flag_spared pd p (compare_value func (word_in regs ra) (word_in regs rb)) x (list_all (lacks (pd ∷ [])) ps) h
pred_spared true (CmpImm func pd ra imm) st ss regs p ps x h =
    flag_spared pd p (compare_value func (word_in regs ra) imm) x (list_all (lacks (pd ∷ [])) ps) h
pred_spared true (Comb func pd a b) st ss regs p ps x h =
    flag_spared pd p (pred_value func (holds regs a) (holds regs b)) x (list_all (lacks (pd ∷ [])) ps) h
pred_spared true (ToSpecial special.S0 ra) st ss regs p ps x h = absurd (true≢false (sym h))
pred_spared true _ st ss regs p ps x h = refl

-- the second slot, where there is one
pub second_lacks : (o : Option Instr) (st ss : ℕ) (regs : Registers) (r x : ℕ)
    → (elim o as (λ _. Bool) [ None ↦ true | Some i ↦ lacks (results i.op) r ]) ≡ true
    → register_by r (second_write st ss regs o) x ≡ x
second_lacks None st ss regs r x h = refl
second_lacks (Some i) st ss regs r x h = register_spared (holds regs i.guard) i.op st ss regs r x h

pub second_spared : (o : Option Instr) (st ss : ℕ) (regs : Registers) (p : ℕ) (x : Bool)
    → (elim o as (λ _. Bool) [ None ↦ true | Some i ↦ spares i.op (p ∷ []) ]) ≡ true
    → pred_by p (second_write st ss regs o) x ≡ x
second_spared None st ss regs p x h = refl
second_spared (Some i) st ss regs p x h = pred_spared (holds regs i.guard) i.op st ss regs p [] x h

spares_rest : (op : Op) (p : ℕ) (ps : List ℕ) → spares op (p ∷ ps) ≡ true → spares op ps ≡ true
spares_rest (ToSpecial special.S0 ra) p ps h = h
spares_rest (ToSpecial _ ra) p ps h = h
spares_rest (Cmp func pd ra rb) p ps h = (and_parts (lacks (pd ∷ []) p) (list_all (lacks (pd ∷ [])) ps) h).1
spares_rest (CmpImm func pd ra imm) p ps h = (and_parts (lacks (pd ∷ []) p) (list_all (lacks (pd ∷ [])) ps) h).1
spares_rest (Comb func pd a b) p ps h = (and_parts (lacks (pd ∷ []) p) (list_all (lacks (pd ∷ [])) ps) h).1
spares_rest _ p ps h = h

-- predicate by predicate
pub spares_each : (op : Op) (ps : List ℕ) → spares op ps ≡ true → list_all (λ p. spares op (p ∷ [])) ps ≡ true
spares_each op [] h = refl
spares_each op (p ∷ ps) h = and_from (spares op (p ∷ [])) (list_all (λ q. spares op (q ∷ [])) ps) (first op h)
    (spares_each op ps (spares_rest op p ps h))
  where
    one : (pd : ℕ) → list_all (lacks (pd ∷ [])) (p ∷ ps) ≡ true → list_all (lacks (pd ∷ [])) (p ∷ []) ≡ true
    one pd h = and_from (lacks (pd ∷ []) p) true (and_parts (lacks (pd ∷ []) p) (list_all (lacks (pd ∷ [])) ps) h).0
        refl

    first : (op : Op) → spares op (p ∷ ps) ≡ true → spares op (p ∷ []) ≡ true
    first (ToSpecial special.S0 ra) h = h
    first (ToSpecial _ ra) h = refl
    first (Cmp func pd ra rb) h = one pd h
    first (CmpImm func pd ra imm) h = one pd h
    first (Comb func pd a b) h = one pd h
    first _ h = refl

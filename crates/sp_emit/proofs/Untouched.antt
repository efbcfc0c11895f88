-- A register or a predicate that no bundle writes is left as it is.
use Rattle.std.proofs.Common.{◌≡◌, ℕ, ◌<◌, ◌==◌, Bool, true, false, not, ◌&&◌, is_none, Option, None, Some, List, [], ◌∷◌, refl, sym, ◌∙◌, subst, true≢false, ap}
use Rattle.std.specs.List.{list_all}
use Rattle.std.proofs.lemmas.Bool.{and_parts, not-true, eqb-false}
use Rattle.patmos_instr.specs.Bundles.{PlainBundle}
use Rattle.patmos_instr.specs.declared.guards.Guard.{Guard}
use Rattle.patmos_instr.specs.declared.instructions.Instr.{Instr}
use Rattle.patmos_instr.specs.declared.instructions.Op.{Op}
use Rattle.patmos_instr.specs.declared.instructions.Op.TheVariants.{AluImm, AluReg, AluLong, Mul, Cmp, CmpImm, Comb, ToSpecial, FromSpecial, Load}
use Rattle.patmos_instr.specs.declared.memories.Mem.{Mem}
use Rattle.patmos_instr.specs.declared.memories.Width.TheVariants as load
use Rattle.patmos_instr.specs.declared.specials.WritableSpecial.{WritableSpecial}
use Rattle.patmos_instr.specs.declared.specials.WritableSpecial.TheVariants as special
use Rattle.patmos_sem.specs.Registers.{holds, word_in, pred_in}
use Rattle.patmos_sem.specs.declared.writes.Write.TheVariants as write
use Rattle.sp_shape.proofs.Whole.{once_whole}
use Rattle.sp_shape.specs.Run.{Run, Sources, word_given, once, run, IsWhole}
use Rattle.sp_shape.specs.Trail.{all_done}
use Rattle.sp_emit.specs.Holding.{held, so}
use Rattle.sp_emit.specs.Instructions.{under}
use Rattle.sp_emit.proofs.Once.{with_written, loaded, did_write, did_nothing, did_multiply, did_load, regs_stay, kept, kept_by_pred, kept_by_product, kept_by_special, so_left, so_kept, so_by_register, so_by_product}

-- ---- what an instruction leaves

-- a register or a predicate, by its number
pub data Operand : Type 0 where
  register : ℕ → Operand
  predicate : ℕ → Operand

-- there is one of that number
abbrev pub IsThere : Operand → Type 0
IsThere (register r) = r < 32
IsThere (predicate p) = p < 8

-- it holds the same in two states
abbrev pub Same : Operand → Run → Run → Type 0
Same (register r) m t = held r t ≡ held r m
Same (predicate p) m t = so p t ≡ so p m

-- it is not the register of a number, or not the predicate
abbrev pub no_register : Operand → ℕ → Bool
no_register (register r) rd = not (rd == r)
no_register (predicate p) rd = true

abbrev pub no_predicate : Operand → ℕ → Bool
no_predicate (register r) pd = true
no_predicate (predicate p) pd = not (pd == p)

-- nor among what a special register has: all predicates stand in one of them
abbrev no_special : Operand → WritableSpecial → Bool
no_special (predicate p) special.S0 = false
no_special _ _ = true

-- an instruction that does not write it, and a bundle of such a one; only whole words are loaded
abbrev pub leaves_op : Operand → Op → Bool
leaves_op x (AluImm func rd ra imm) = no_register x rd
leaves_op x (AluReg func rd ra rb) = no_register x rd
leaves_op x (AluLong func rd ra constant) = no_register x rd
leaves_op x (FromSpecial rd special) = no_register x rd
leaves_op x (Load space load.Word rd ra imm) = no_register x rd
leaves_op x (Load space width rd ra imm) = false
leaves_op x (Cmp func pd ra rb) = no_predicate x pd
leaves_op x (CmpImm func pd ra imm) = no_predicate x pd
leaves_op x (Comb func pd a b) = no_predicate x pd
leaves_op x (ToSpecial special ra) = no_special x special
leaves_op x _ = true

abbrev pub leaves : Operand → PlainBundle → Bool
leaves x b = leaves_op x b.first.op && is_none b.second

-- ---- it holds the same after such bundles

same_all : (x : Operand) (m : Run) → Same x m m
same_all (register r) m = refl
same_all (predicate p) m = refl

same_both : (x : Operand) (m n t : Run) → Same x m n → Same x n t → Same x m t
same_both (register r) m n t a b = b ∙ a
same_both (predicate p) m n t a b = b ∙ a

apart : (rd r : ℕ) → not (rd == r) ≡ true → rd ≡ r → ⊥
apart rd r other = eqb-false rd r (not-true (rd == r) other)

by_register : (x : Operand) (rd v : ℕ) (m : Run) → IsThere x → IsWhole m → no_register x rd ≡ true
    → Same x m (with_written (write.Register rd v) m)
by_register (register r) rd v m there whole left = kept rd v r m whole there (apart rd r left)
by_register (predicate p) rd v m there whole left = so_by_register rd v p m whole there

by_predicate : (x : Operand) (pd : ℕ) (b : Bool) (m : Run) → IsThere x → IsWhole m → no_predicate x pd ≡ true
    → Same x m (with_written (write.Predicate pd b) m)
by_predicate (register r) pd b m there whole left = kept_by_pred pd b r m whole there
by_predicate (predicate p) pd b m there whole left = so_kept pd b p m whole there (apart pd p left)

by_product : (x : Operand) (low high : ℕ) (m : Run) → IsThere x → IsWhole m
    → Same x m (with_written (write.Product low high) m)
by_product (register r) low high m there whole = kept_by_product low high r m whole there
by_product (predicate p) low high m there whole = so_by_product low high p m whole there

by_special : (x : Operand) (s : WritableSpecial) (v : ℕ) (m : Run) → IsThere x → IsWhole m → no_special x s ≡ true
    → Same x m (with_written (write.Special s v) m)
by_special (register r) s v m there whole left = kept_by_special s v r m whole there
by_special (predicate p) special.S0 v m there whole left = absurd (true≢false (sym left))
by_special (predicate p) s v m there whole left = so_left (write.Special s v) p m whole there (λ old. refl)

by_load : (from : Sources) (x : Operand) (space : Mem) (rd address : ℕ) (m : Run) → IsThere x → IsWhole m
    → no_register x rd ≡ true → Same x m (loaded from space rd address m)
by_load from (register r) space rd address m there whole left =
    by_register (register r) rd (word_given from space address m) m there whole left
by_load from (predicate p) space rd address m there whole left =
    by_register (predicate p) rd (word_given from space address m) m there whole left

by_registers : (x : Operand) (m t : Run) → t.regs ≡ m.regs → Same x m t
by_registers (register r) m t same = ap (λ regs. word_in regs r) same
by_registers (predicate p) m t same = ap (λ regs. pred_in regs p) same

-- one whose guard is true
left_on : (from : Sources) (x : Operand) (g : Guard) (op : Op) (m : Run) → IsThere x → IsWhole m → leaves_op x op ≡ true
    → holds m.regs g ≡ true → Same x m (once from (under g op) m)
left_on from x g (AluImm func rd ra imm) m there whole left on =
    subst (Same x m) (sym (did_write from g (AluImm func rd ra imm) m whole on refl refl))
    (by_register x rd _ m there whole left)
left_on from x g (AluReg func rd ra rb) m there whole left on =
    subst (Same x m) (sym (did_write from g (AluReg func rd ra rb) m whole on refl refl))
    (by_register x rd _ m there whole left)
left_on from x g (AluLong func rd ra constant) m there whole left on =
    subst (Same x m) (sym (did_write from g (AluLong func rd ra constant) m whole on refl refl))
    (by_register x rd _ m there whole left)
left_on from x g (FromSpecial rd special) m there whole left on =
    subst (Same x m) (sym (did_write from g (FromSpecial rd special) m whole on refl refl))
    (by_register x rd _ m there whole left)
left_on from x g (Load space load.Word rd ra imm) m there whole left on =
    subst (Same x m) (sym (did_load from g space rd ra imm m whole on)) (by_load from x space rd _ m there whole left)
left_on from x g (Load space _ rd ra imm) m there whole left on = absurd (true≢false (sym left))
left_on from x g (Mul unsigned ra rb) m there whole left on =
    subst (Same x m) (sym (did_multiply from g unsigned ra rb m whole on)) (by_product x _ _ m there whole)
left_on from x g (Cmp func pd ra rb) m there whole left on = subst (Same x m)
    (sym (did_write from g (Cmp func pd ra rb) m whole on refl refl)) (by_predicate x pd _ m there whole left)
left_on from x g (CmpImm func pd ra imm) m there whole left on =
    subst (Same x m) (sym (did_write from g (CmpImm func pd ra imm) m whole on refl refl))
    (by_predicate x pd _ m there whole left)
left_on from x g (Comb func pd a b) m there whole left on = subst (Same x m)
    (sym (did_write from g (Comb func pd a b) m whole on refl refl)) (by_predicate x pd _ m there whole left)
left_on from x g (ToSpecial s ra) m there whole left on = subst (Same x m)
    (sym (did_write from g (ToSpecial s ra) m whole on refl refl)) (by_special x s _ m there whole left)
left_on from x g other m there whole left on =
    by_registers x m (once from (under g other) m) (regs_stay from g other m whole on refl refl refl)

pub left_once : (from : Sources) (x : Operand) (b : PlainBundle) (m : Run) → IsThere x → IsWhole m → leaves x b ≡ true
    → Same x m (once from b m)
left_once from x b m there whole left =
    let both = and_parts (leaves_op x b.first.op) (is_none b.second) left in
    by b.second both.1 (alone both.0 (holds m.regs b.first.guard) refl)
  where
    alone : leaves_op x b.first.op ≡ true → (on : Bool) → holds m.regs b.first.guard ≡ on
        → Same x m (once from (under b.first.guard b.first.op) m)
    alone lone true on = left_on from x b.first.guard b.first.op m there whole lone on
    alone lone false off = subst (Same x m) (sym (did_nothing from b.first.guard b.first.op m whole off)) (same_all x m)

    by : (second : Option Instr) → is_none second ≡ true → Same x m (once from (under b.first.guard b.first.op) m)
        → Same x m (once from (record { first = b.first; second = second }) m)
    by None none h = h
    by (Some i) none h = absurd (true≢false (sym none))

pub left_run : (from : Sources) (x : Operand) (bs : List PlainBundle) (m : Run) → IsThere x → IsWhole m
    → list_all (leaves x) bs ≡ true → Same x m (run from (all_done bs) m)
left_run from x [] m there whole left = same_all x m
left_run from x (b ∷ bs) m there whole left =
    let both = and_parts (leaves x b) (list_all (leaves x) bs) left in
    let whole_after = once_whole from b m whole in
    same_both x m (once from b m) _ (left_once from x b m there whole both.0)
    (left_run from x bs (once from b m) there whole_after both.1)

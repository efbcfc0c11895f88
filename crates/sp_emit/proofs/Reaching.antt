-- An index is compared with the length of an array, and the address of its element is made: what these bundles leave.
use Rattle.std.proofs.Common.{◌≡◌, ℕ, ◌+◌, ◌-◌, ◌*◌, ◌%◌, ◌^◌, ◌<◌, ◌≤◌, Bool, true, false, true≢false, not, if◌then◌else◌, refl, sym, ap, ◌∙◌, subst, arith, nat_lt}
use Rattle.std.specs.Prelude.{◌==◌}
use Rattle.std.proofs.lemmas.Bool.{and_parts, eqb-true}
use Rattle.patmos_instr.specs.declared.functions.AluFunc.TheVariants as alu
use Rattle.patmos_instr.specs.declared.functions.CmpFunc.TheVariants as cmp
use Rattle.patmos_instr.specs.declared.functions.ImmFunc.TheVariants as imm
use Rattle.patmos_instr.specs.declared.instructions.Op.TheVariants.{AluImm, AluReg, Cmp, CmpImm}
use Rattle.tc_word.specs.Word.{moved_up}
use Rattle.patmos_sem.specs.Effects.{address_of as address_by}
use Rattle.patmos_sem.specs.declared.writes.Write.TheVariants as write
use Rattle.c_world.specs.Shown.{room_in}
use Rattle.sp_tree.specs.Formed.{all_rooms}
use Rattle.sp_tree.specs.declared.expressions.SpArray.{SpArray}
use Rattle.sp_shape.specs.Run.{Run, Sources, once, IsWhole}
use Rattle.sp_emit.specs.Expressions.{base_of, address_of, spare_op, length_op, below_op, has_offset, offset_of, base_op, scaled_op, at_word_0}
use Rattle.sp_emit.specs.Holding.{held, so}
use Rattle.sp_emit.specs.Instructions.{always, where_not, under}
use Rattle.sp_emit.specs.declared.registers.TheConstants.{SPARE}
use Rattle.sp_emit.proofs.Cells.{element_address, few_words}
use Rattle.sp_emit.proofs.Leaving.{did_set_number, did_compute, did_compare, did_compare_short, did_with_short}
use Rattle.sp_emit.proofs.Once.{with_written, did_write, did_nothing, whole_written, got, kept, kept_by_pred, so_got, so_kept, so_by_register}
use Rattle.sp_emit.proofs.WordPlaces.{nothing_written}

-- ---- the spare register gets a number, unless another instruction holds it

pub record Spared (is_held : Bool) (n : ℕ) (m t : Run) : Type 0 where
  pub whole : IsWhole t
  pub spare : is_held ≡ false → held SPARE t ≡ n
  pub regs : (r : ℕ) → r < SPARE → held r t ≡ held r m
  pub preds : (p : ℕ) → p < 8 → so p t ≡ so p m
  pub memory : t.memory ≡ m.memory
  pub asked : t.asked ≡ m.asked

spared : (from : Sources) (is_held : Bool) (n : ℕ) (m : Run) → IsWhole m → n < 2 ^ 32
    → Spared is_held n m (once from (under always (spare_op is_held n)) m)
unfolding spare_op
spared from true n m whole small =
    let v = (held 0 m + 0) % 2 ^ 32 in
    subst (Spared true n m) (sym (did_write from always (AluImm imm.Add 0 0 0) m whole whole.fits.always refl refl))
    (record {
      whole = whole_written (write.Register 0 v) m whole;
      spare = λ is. absurd (true≢false is);
      regs = λ r lt. nothing_written v r m whole (omega (arith, lt));
      preds = λ p lt. so_by_register 0 v p m whole lt;
      memory = refl;
      asked = refl;
    })
spared from false n m whole small =
    let v = (0 + n) % 2 ^ 32 in
    subst (Spared false n m) (sym (did_set_number from SPARE n m whole)) (record {
      whole = whole_written (write.Register SPARE v) m whole;
      spare = λ is. got SPARE v m whole (omega arith) (omega arith) ∙ omega (arith, small);
      regs = λ r lt. kept SPARE v r m whole (omega (arith, lt)) (λ same. absurd (omega (arith, same, lt)));
      preds = λ p lt. so_by_register SPARE v p m whole lt;
      memory = refl;
      asked = refl;
    })

-- ---- the comparison

pub record Compares (pd ra length : ℕ) (m t : Run) : Type 0 where
  pub whole : IsWhole t
  pub test : so pd t ≡ nat_lt (held ra m) length
  pub regs : (r : ℕ) → r < SPARE → held r t ≡ held r m
  pub preds : (p : ℕ) → p < 8 → (pd ≡ p → ⊥) → so p t ≡ so p m
  pub memory : t.memory ≡ m.memory
  pub asked : t.asked ≡ m.asked

did_below : (from : Sources) (pd ra length : ℕ) (t : Run) → IsWhole t
    → (nat_lt length 32 ≡ false → held SPARE t ≡ length)
    → once from (under always (below_op pd ra length)) t
    ≡ with_written (write.Predicate pd (nat_lt (held ra t) length)) t
unfolding below_op
did_below from pd ra length t whole spare = by (nat_lt length 32) refl
  where
    by : (b : Bool) → nat_lt length 32 ≡ b
        → once from (under always (if b then CmpImm cmp.Ult pd ra length else Cmp cmp.Ult pd ra SPARE)) t
        ≡ with_written (write.Predicate pd (nat_lt (held ra t) length)) t
    by true is = did_compare_short from cmp.Ult pd ra length t whole
    by false is = did_compare from cmp.Ult pd ra SPARE t whole
        ∙ ap (λ n. with_written (write.Predicate pd (nat_lt (held ra t) n)) t) (spare is)

pub compares : (from : Sources) (pd ra length : ℕ) (m : Run) → IsWhole m → 1 ≤ pd → pd < 8 → ra < SPARE
    → length < 2 ^ 32
    → Compares pd ra length m (once from (under always (below_op pd ra length))
    (once from (under always (length_op length)) m))
compares from pd ra length m whole some few low small =
    by (once from (under always (length_op length)) m) (spared from (nat_lt length 32) length m whole small)
  where
    by : (t : Run) → Spared (nat_lt length 32) length m t
        → Compares pd ra length m (once from (under always (below_op pd ra length)) t)
    by t x =
        let b = nat_lt (held ra t) length in
        subst (Compares pd ra length m) (sym (did_below from pd ra length t x.whole x.spare)) (record {
          whole = whole_written (write.Predicate pd b) t x.whole;
          test = so_got pd b t x.whole some few ∙ ap (λ n. nat_lt n length) (x.regs ra low);
          regs = λ r lt. kept_by_pred pd b r t x.whole (omega (arith, lt)) ∙ x.regs r lt;
          preds = λ p lt other. so_kept pd b p t x.whole lt other ∙ x.preds p lt;
          memory = x.memory;
          asked = x.asked;
        })

-- ---- the address

pub record Scales (a : SpArray) (rd ra : ℕ) (m t : Run) : Type 0 where
  pub whole : IsWhole t
  pub address : a.first + held ra m < room_in a.region all_rooms → address_by (held rd t) (offset_of a) 4
      ≡ address_of a.region (a.first + held ra m)
  pub preds : (p : ℕ) → p < 8 → so p t ≡ so p m
  pub memory : t.memory ≡ m.memory
  pub asked : t.asked ≡ m.asked

-- an access adds the offset where the memory begins at byte 0
offset_address : (a : SpArray) (index : ℕ) → has_offset a ≡ true → a.first + index < room_in a.region all_rooms
    → address_by (moved_up index 2) a.first 4 ≡ address_of a.region (a.first + index)
offset_address a index is lies =
    let low = eqb-true (base_of a.region) 0 (and_parts (base_of a.region == 0) (nat_lt a.first 128) is).0 in
    omega (arith, low, lies, few_words a.region)

pub scales : (from : Sources) (a : SpArray) (rd ra : ℕ) (m : Run) → IsWhole m → 1 ≤ rd → rd < 32 → ra < SPARE
    → address_of a.region a.first < 2 ^ 32
    → Scales a rd ra m (once from (under always (scaled_op a rd ra)) (once from (under always (base_op a)) m))
unfolding scaled_op
scales from a rd ra m whole some few low small =
    by (has_offset a) refl (once from (under always (base_op a)) m)
    (spared from (has_offset a) (address_of a.region a.first) m whole small)
  where
    by : (b : Bool) → has_offset a ≡ b → (t : Run) → Spared (has_offset a) (address_of a.region a.first) m t
        → Scales a rd ra m (once from
        (under always (if b then AluImm imm.Sl rd ra 2 else AluReg alu.Shadd2 rd ra SPARE)) t)
    by true is t x =
        let v = moved_up (held ra t) 2 in
        subst (Scales a rd ra m) (sym (did_with_short from imm.Sl rd ra 2 t x.whole)) (record {
          whole = whole_written (write.Register rd v) t x.whole;
          address = λ lies. ap (λ n. address_by n (offset_of a) 4) (got rd v t x.whole some few)
              ∙ ap (λ b. address_by v (if b then a.first else 0) 4) is
              ∙ ap (λ i. address_by (moved_up i 2) a.first 4) (x.regs ra low) ∙ offset_address a (held ra m) is lies;
          preds = λ p lt. so_by_register rd v p t x.whole lt ∙ x.preds p lt;
          memory = x.memory;
          asked = x.asked;
        })
    by false is t x =
        let v = (4 * held ra t + held SPARE t) % 2 ^ 32 in
        subst (Scales a rd ra m) (sym (did_compute from alu.Shadd2 rd ra SPARE t x.whole)) (record {
          whole = whole_written (write.Register rd v) t x.whole;
          address = λ lies. ap (λ n. address_by n (offset_of a) 4) (got rd v t x.whole some few)
              ∙ ap (λ b. address_by v (if b then a.first else 0) 4) is
              ∙ ap (λ i. address_by ((4 * i + held SPARE t) % 2 ^ 32) 0 4) (x.regs ra low)
              ∙ ap (λ n. address_by ((4 * held ra m + n) % 2 ^ 32) 0 4) (x.spare is)
              ∙ element_address a.region a.first (held ra m) lies;
          preds = λ p lt. so_by_register rd v p t x.whole lt ∙ x.preds p lt;
          memory = x.memory;
          asked = x.asked;
        })

-- ---- word 0

-- what the register holds there, to which so many words are added
abbrev pub before_0 : ℕ → ℕ
before_0 words = (0 + (2 ^ 32 - 4 * words)) % 2 ^ 32

pub word_0 : (words : ℕ) → words < 128 → address_by (before_0 words) words 4 ≡ 0
word_0 words near = omega (arith, near)

pub did_at_word_0 : (from : Sources) (p rd words : ℕ) (m : Run) → IsWhole m → so p m ≡ false
    → once from (at_word_0 p rd words) m ≡ with_written (write.Register rd (before_0 words)) m
did_at_word_0 from p rd words m whole off =
    did_write from (where_not p) (AluImm imm.Sub rd 0 (4 * words)) m whole (ap not off) refl refl
    ∙ ap (λ z. with_written (write.Register rd ((z + (2 ^ 32 - 4 * words)) % 2 ^ 32)) m) whole.fits.zero

pub not_at_word_0 : (from : Sources) (p rd words : ℕ) (m : Run) → IsWhole m → so p m ≡ true
    → once from (at_word_0 p rd words) m ≡ m
not_at_word_0 from p rd words m whole on =
    did_nothing from (where_not p) (AluImm imm.Sub rd 0 (4 * words)) m whole (ap not on)

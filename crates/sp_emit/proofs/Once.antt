-- What a bundle of one instruction leaves that is read at once.
use Rattle.std.proofs.Common.{◌≡◌, ℕ, ℤ, zero, suc, ◌<◌, ◌≤◌, Bool, true, false, true≢false, if◌then◌else◌, [], ◌∷◌, ◌++◌, length, refl, sym, ap, ◌∙◌, arith, eq-eqb, ne_eqb}
use Rattle.patmos_instr.specs.declared.guards.Guard.{Guard}
use Rattle.patmos_instr.specs.declared.functions.StackFunc.TheVariants.{Sres, Sens, Sfree}
use Rattle.patmos_instr.specs.declared.instructions.Op.{Op}
use Rattle.patmos_instr.specs.declared.instructions.Op.TheVariants.{Mul, Load, Branch}
use Rattle.patmos_instr.specs.declared.memories.Mem.{Mem}
use Rattle.patmos_instr.specs.declared.memories.Mem.TheVariants as mem
use Rattle.patmos_instr.specs.declared.memories.Width.TheVariants as load
use Rattle.patmos_sem.specs.Bundles.{arrived}
use Rattle.patmos_sem.specs.Effects.{address_of, write_of, begun, asked}
use Rattle.patmos_sem.specs.Registers.{Registers, FitsRegisters, holds}
use Rattle.patmos_sem.specs.Writes.{pred_by, after_writes, came, register_after, pred_after}
use Rattle.patmos_instr.specs.declared.specials.WritableSpecial.{WritableSpecial}
use Rattle.patmos_sem.specs.declared.effects.Effect.{Effect}
use Rattle.patmos_sem.specs.declared.effects.Effect.TheVariants as effect
use Rattle.patmos_sem.specs.declared.pending.Pending.{Pending}
use Rattle.patmos_sem.specs.declared.pending.Pending.TheVariants as pending
use Rattle.patmos_sem.specs.declared.writes.Write.{Write}
use Rattle.patmos_sem.specs.declared.writes.Write.TheVariants as write
use Rattle.patmos_sem.proofs.Told.{after_writes-append, kept_registers, kept_preds, get_or-renewed, length-renewed_from}
use Rattle.sp_shape.specs.Run.{Run, Sources, branches, word_given, other_loads, settled, once, effected, with_settled, IsWhole}
use Rattle.sp_emit.specs.Holding.{held, so}
use Rattle.sp_emit.specs.Instructions.{under}

-- ---- what a bundle leaves

-- the registers with nothing pending; with a write made
abbrev at_rest : Registers → Registers
at_rest regs = record regs { pending = pending.Nothing }

abbrev pub with_written : Write → Run → Run
with_written w m = record m { regs = at_rest (after_writes (w ∷ []) m.regs) }

-- a word that was loaded
abbrev with_load : Mem → ℕ → ℕ → Run → Run
with_load space rd address m =
    record m { loads = other_loads m.loads; asked = m.asked ++ effect.Load space load.Word rd address ∷ [] }

abbrev pub loaded : Sources → Mem → ℕ → ℕ → Run → Run
loaded from space rd address m =
    record (with_load space rd address m) {
      regs = at_rest
          (after_writes (write.Register rd (word_given from space address m) ∷ []) m.regs);
    }

-- ---- registers

-- a bundle of one slot, of which nothing is pending any more
pub behind_slot : (w : Write) (left : Pending) (regs : Registers) → regs.pending ≡ pending.Nothing
    → settled (record (after_writes (came regs.pending ∷ w ∷ write.Nothing ∷ []) regs) { pending = left })
    ≡ at_rest (after_writes (w ∷ came left ∷ []) regs)
behind_slot w left regs nothing =
    ap at_rest (after_writes-append (came regs.pending ∷ w ∷ write.Nothing ∷ []) (came left ∷ []) regs)
    ∙ ap (λ p. at_rest (after_writes (came p ∷ w ∷ write.Nothing ∷ came left ∷ []) regs)) nothing

-- the registers after a bundle of one slot, whose guard is true or false
unfoldable pub slot_after : (on : Bool) → Op → Run → Registers
slot_after on op m =
    record (after_writes (came m.regs.pending ∷ (if on then write_of m.st m.ss m.regs op else write.Nothing)
    ∷ write.Nothing ∷ []) m.regs) { pending = if on then begun m.regs op else pending.Nothing }

unfoldable pub with_regs : Run → Registers → Run
with_regs m regs = record m { regs = regs }

-- a write of nothing
pub unchanged : (regs : Registers) → FitsRegisters regs → regs.pending ≡ pending.Nothing
    → at_rest (after_writes (write.Nothing ∷ write.Nothing ∷ []) regs) ≡ regs
unchanged regs fits nothing = λ k. record {
  general = sym (kept_registers write.Nothing regs.general fits.zero (λ r old ne. refl)) k;
  preds = sym (kept_preds write.Nothing regs.preds fits.always (λ p old ne. refl)) k;
  sl = regs.sl;
  sh = regs.sh;
  srb = regs.srb;
  sro = regs.sro;
  pending = sym nothing k;
}

-- what a bundle leaves that asks for nothing outside the registers, whose guard is true
pub did_write : (from : Sources) (g : Guard) (op : Op) (m : Run) → IsWhole m → holds m.regs g ≡ true → asked m.regs op
    ≡ effect.Nothing → begun m.regs op ≡ pending.Nothing
    → once from (under g op) m ≡ with_written (write_of m.st m.ss m.regs op) m
unfolding slot_after with_regs
did_write from g op m whole on quiet nothing =
    ap (λ e. with_settled (effected from e (with_regs m (slot_after (holds m.regs g) op m))))
    (ap (λ h. if h then asked m.regs op else effect.Nothing) on ∙ quiet)
    ∙ ap (λ h. with_regs m (settled (slot_after h op m))) on
    ∙ ap (with_regs m) (behind_slot (write_of m.st m.ss m.regs op) (begun m.regs op) m.regs whole.pending
    ∙ ap (λ p. at_rest (after_writes (write_of m.st m.ss m.regs op ∷ came p ∷ []) m.regs)) nothing)

-- one whose guard is false leaves all as it is
pub did_nothing : (from : Sources) (g : Guard) (op : Op) (m : Run) → IsWhole m → holds m.regs g ≡ false
    → once from (under g op) m ≡ m
unfolding slot_after with_regs
did_nothing from g op m whole off =
    ap (λ e. with_settled (effected from e (with_regs m (slot_after (holds m.regs g) op m))))
    (ap (λ h. if h then asked m.regs op else effect.Nothing) off)
    ∙ ap (λ h. with_regs m (settled (slot_after h op m))) off
    ∙ ap (with_regs m) (behind_slot write.Nothing pending.Nothing m.regs whole.pending
    ∙ unchanged m.regs whole.fits whole.pending)

-- a product that a bundle begins is there after it
pub did_multiply : (from : Sources) (g : Guard) (unsigned : Bool) (ra rb : ℕ) (m : Run) → IsWhole m
    → holds m.regs g ≡ true
    → once from (under g (Mul unsigned ra rb)) m ≡ with_written (came (begun m.regs (Mul unsigned ra rb))) m
unfolding slot_after with_regs
did_multiply from g unsigned ra rb m whole on =
    ap (λ e. with_settled (effected from e (with_regs m (slot_after (holds m.regs g) (Mul unsigned ra rb) m))))
    (ap (λ h. if h then effect.Nothing else effect.Nothing) on)
    ∙ ap (λ h. with_regs m (settled (slot_after h (Mul unsigned ra rb) m))) on
    ∙ ap (with_regs m) (behind_slot write.Nothing (begun m.regs (Mul unsigned ra rb)) m.regs whole.pending)

-- a branch is asked for
pub did_branch : (from : Sources) (g : Guard) (offset : ℤ) (m : Run) → IsWhole m → holds m.regs g ≡ true
    → once from (under g (Branch offset)) m ≡ record m { ways = m.ways ++ branches ∷ [] }
unfolding slot_after with_regs
did_branch from g offset m whole on =
    ap (λ e. with_settled (effected from e (with_regs m (slot_after (holds m.regs g) (Branch offset) m))))
    (ap (λ h. if h then asked m.regs (Branch offset) else effect.Nothing) on)
    ∙ ap (λ h. with_regs (record m { ways = m.ways ++ branches ∷ [] }) (settled (slot_after h (Branch offset) m))) on
    ∙ ap (with_regs (record m { ways = m.ways ++ branches ∷ [] })) (behind_slot write.Nothing pending.Nothing m.regs
    whole.pending ∙ unchanged m.regs whole.fits whole.pending)

-- what writes no register and loads nothing leaves them all
abbrev pub is_load : Effect → Bool
is_load (effect.Load space width rd address) = true
is_load _ = false

regs_asked : (from : Sources) (e : Effect) (m : Run) (regs : Registers) → is_load e ≡ false
    → (effected from e (with_regs m regs)).regs ≡ regs
unfolding with_regs
regs_asked from (effect.Load space width rd address) m regs other = absurd (true≢false other)
regs_asked from (effect.Store mem.S width address value) m regs other = refl
regs_asked from (effect.StackOp Sres count) m regs other = refl
regs_asked from (effect.StackOp Sens count) m regs other = refl
regs_asked from (effect.StackOp Sfree count) m regs other = refl
regs_asked from _ m regs other = refl

pub regs_stay : (from : Sources) (g : Guard) (op : Op) (m : Run) → IsWhole m → holds m.regs g ≡ true
    → is_load (asked m.regs op) ≡ false → begun m.regs op ≡ pending.Nothing → write_of m.st m.ss m.regs op
    ≡ write.Nothing
    → (once from (under g op) m).regs ≡ m.regs
unfolding slot_after with_regs
regs_stay from g op m whole on other nothing none =
    ap (λ e. settled (effected from e (with_regs m (slot_after (holds m.regs g) op m))).regs)
    (ap (λ h. if h then asked m.regs op else effect.Nothing) on)
    ∙ ap (λ h. settled (effected from (asked m.regs op) (with_regs m (slot_after h op m))).regs) on
    ∙ ap settled (regs_asked from (asked m.regs op) m (slot_after true op m) other)
    ∙ behind_slot (write_of m.st m.ss m.regs op) (begun m.regs op) m.regs whole.pending
    ∙ ap (λ w. at_rest (after_writes (w ∷ came (begun m.regs op) ∷ []) m.regs)) none
    ∙ ap (λ p. at_rest (after_writes (write.Nothing ∷ came p ∷ []) m.regs)) nothing
    ∙ unchanged m.regs whole.fits whole.pending

-- ---- loads

given_same : (from : Sources) (space : Mem) (address : ℕ) (m : Run) (regs : Registers)
    → word_given from space address (with_regs m regs) ≡ word_given from space address m
unfolding with_regs
given_same from mem.S address m regs = refl
given_same from _ address m regs = refl

-- a word that is loaded is there after its bundle
pub did_load : (from : Sources) (g : Guard) (space : Mem) (rd ra imm : ℕ) (m : Run) → IsWhole m → holds m.regs g ≡ true
    → once from (under g (Load space load.Word rd ra imm)) m ≡ loaded from space rd (address_of (held ra m) imm 4) m
unfolding slot_after with_regs
did_load from g space rd ra imm m whole on =
    let op = Load space load.Word rd ra imm in
    let address = address_of (held ra m) imm 4 in
    ap (λ e. with_settled (effected from e (with_regs m (slot_after (holds m.regs g) op m))))
    (ap (λ h. if h then asked m.regs op else effect.Nothing) on)
    ∙ ap (λ h. with_settled (effected from (asked m.regs op) (with_regs m (slot_after h op m)))) on
    ∙ ap (λ v. with_regs (with_load space rd address m) (settled (arrived rd v (slot_after true op m))))
    (given_same from space address m (slot_after true op m))
    ∙ ap (with_regs (with_load space rd address m)) (behind_slot write.Nothing
    (pending.Value rd (word_given from space address m)) m.regs whole.pending)

-- ---- register by register

below : (r : ℕ) (m : Run) → IsWhole m → r < 32 → r < length m.regs.general
below r m whole lt = omega (arith, lt, whole.fits.count)

below_preds : (p : ℕ) (m : Run) → IsWhole m → p < 8 → p < length m.regs.preds
below_preds p m whole lt = omega (arith, lt, whole.fits.pred_count)

pub held_written : (w : Write) (r : ℕ) (m : Run) → IsWhole m → r < 32 → held r (with_written w m)
    ≡ register_after (w ∷ []) r (held r m)
held_written w r m whole lt = get_or-renewed (register_after (w ∷ [])) m.regs.general r 0 (below r m whole lt)

pub so_written : (w : Write) (p : ℕ) (m : Run) → IsWhole m → p < 8 → so p (with_written w m)
    ≡ pred_after (w ∷ []) p (so p m)
so_written w p m whole lt = get_or-renewed (pred_after (w ∷ [])) m.regs.preds p false (below_preds p m whole lt)

pub whole_written : (w : Write) (m : Run) → IsWhole m → IsWhole (with_written w m)
whole_written w m whole = record {
  fits = record {
    count = length-renewed_from 0 (register_after (w ∷ [])) m.regs.general ∙ whole.fits.count;
    pred_count = length-renewed_from 0 (pred_after (w ∷ [])) m.regs.preds ∙ whole.fits.pred_count;
    zero = held_written w 0 m whole (omega arith);
    always = so_written w 0 m whole (omega arith);
  };
  pending = refl;
}

-- a register that is written, and the others
pub got : (rd v : ℕ) (m : Run) → IsWhole m → 1 ≤ rd → rd < 32 → held rd (with_written (write.Register rd v) m) ≡ v
got rd v m whole some lt =
    held_written (write.Register rd v) rd m whole lt ∙ rw (ne_eqb rd 0 (omega (arith, some)), eq-eqb rd rd refl)

pub stays_zero : (w : Write) (m : Run) → IsWhole m → held 0 (with_written w m) ≡ held 0 m
stays_zero w m whole = held_written w 0 m whole (omega arith) ∙ sym whole.fits.zero

pub kept : (rd v r : ℕ) (m : Run) → IsWhole m → r < 32 → (rd ≡ r → ⊥) → held r (with_written (write.Register rd v) m)
    ≡ held r m
kept rd v zero m whole lt other = stays_zero (write.Register rd v) m whole
kept rd v (suc r) m whole lt other = held_written (write.Register rd v) (suc r) m whole lt
    ∙ rw (ne_eqb (suc r) 0 (omega arith), ne_eqb rd (suc r) other)

pub kept_by_pred : (p : ℕ) (b : Bool) (r : ℕ) (m : Run) → IsWhole m → r < 32
    → held r (with_written (write.Predicate p b) m) ≡ held r m
kept_by_pred p b zero m whole lt = stays_zero (write.Predicate p b) m whole
kept_by_pred p b (suc r) m whole lt =
    held_written (write.Predicate p b) (suc r) m whole lt ∙ rw (ne_eqb (suc r) 0 (omega arith))

pub kept_by_product : (low high r : ℕ) (m : Run) → IsWhole m → r < 32 → held r (with_written (write.Product low high) m)
    ≡ held r m
kept_by_product low high zero m whole lt = stays_zero (write.Product low high) m whole
kept_by_product low high (suc r) m whole lt =
    held_written (write.Product low high) (suc r) m whole lt ∙ rw (ne_eqb (suc r) 0 (omega arith))

pub kept_by_special : (s : WritableSpecial) (v r : ℕ) (m : Run) → IsWhole m → r < 32
    → held r (with_written (write.Special s v) m) ≡ held r m
kept_by_special s v zero m whole lt = stays_zero (write.Special s v) m whole
kept_by_special s v (suc r) m whole lt =
    held_written (write.Special s v) (suc r) m whole lt ∙ rw (ne_eqb (suc r) 0 (omega arith))

pub so_got : (p : ℕ) (b : Bool) (m : Run) → IsWhole m → 1 ≤ p → p < 8 → so p (with_written (write.Predicate p b) m) ≡ b
so_got p b m whole some lt =
    so_written (write.Predicate p b) p m whole lt ∙ rw (ne_eqb p 0 (omega (arith, some)), eq-eqb p p refl)

stays_true : (w : Write) (m : Run) → IsWhole m → so 0 (with_written w m) ≡ so 0 m
stays_true w m whole = so_written w 0 m whole (omega arith) ∙ sym whole.fits.always

pub so_left : (w : Write) (q : ℕ) (m : Run) → IsWhole m → q < 8 → ((old : Bool) → pred_by q w old ≡ old)
    → so q (with_written w m) ≡ so q m
so_left w zero m whole lt left = stays_true w m whole
so_left w (suc q) m whole lt left =
    so_written w (suc q) m whole lt ∙ rw (ne_eqb (suc q) 0 (omega arith)) (left (so (suc q) m))

pub so_kept : (p : ℕ) (b : Bool) (q : ℕ) (m : Run) → IsWhole m → q < 8 → (p ≡ q → ⊥)
    → so q (with_written (write.Predicate p b) m) ≡ so q m
so_kept p b q m whole lt other = so_left (write.Predicate p b) q m whole lt (λ old. rw (ne_eqb p q other) refl)

pub so_by_register : (rd v q : ℕ) (m : Run) → IsWhole m → q < 8 → so q (with_written (write.Register rd v) m) ≡ so q m
so_by_register rd v q m whole lt = so_left (write.Register rd v) q m whole lt (λ old. refl)

pub so_by_product : (low high q : ℕ) (m : Run) → IsWhole m → q < 8 → so q (with_written (write.Product low high) m)
    ≡ so q m
so_by_product low high q m whole lt = so_left (write.Product low high) q m whole lt (λ old. refl)

pub whole_loaded : (from : Sources) (space : Mem) (rd address : ℕ) (m : Run) → IsWhole m
    → IsWhole (loaded from space rd address m)
whole_loaded from space rd address m whole =
    let w = whole_written (write.Register rd (word_given from space address m)) m whole in
    record { fits = w.fits; pending = w.pending }

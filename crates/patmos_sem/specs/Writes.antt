-- To be believed. Writes to registers, and which one stands (Patmos Reference Handbook, register files and dual issue).
-- All of it is told register by register: a register holds what the last of the writes that name it
-- gives, and else its old value.
use Rattle.std.specs.Prelude.{ℕ, ◌+◌, ◌==◌, Bool, true, if◌then◌else◌, List, [], ◌∷◌}
use Rattle.patmos_instr.specs.declared.specials.WritableSpecial.TheVariants as special
use Rattle.patmos_sem.specs.declared.pending.Pending.{Pending}
use Rattle.patmos_sem.specs.declared.pending.Pending.TheVariants as pending
use Rattle.patmos_sem.specs.declared.writes.Write.{Write}
use Rattle.patmos_sem.specs.declared.writes.Write.TheVariants as write
use Rattle.patmos_sem.specs.Operations.{has_bit}
use Rattle.patmos_sem.specs.Registers.{Registers}

-- general register r after a write, when it held old before
abbrev pub register_by : ℕ → Write → ℕ → ℕ
register_by r (write.Register rd value) old = if rd == r then value else old
register_by _ _ old = old

-- predicate p after a write: a write of s0 gives each its bit
abbrev pub pred_by : ℕ → Write → Bool → Bool
pred_by p (write.Predicate pd value) old = if pd == p then value else old
pred_by p (write.Special special.S0 value) old = has_bit value p
pred_by _ _ old = old

-- the halves of a product after a write
abbrev pub low_by : Write → ℕ → ℕ
low_by (write.Special special.Sl value) old = value
low_by (write.Product low high) old = low
low_by _ old = old

abbrev pub high_by : Write → ℕ → ℕ
high_by (write.Special special.Sh value) old = value
high_by (write.Product low high) old = high
high_by _ old = old

-- the base and the offset of a return after a write
abbrev pub base_by : Write → ℕ → ℕ
base_by (write.Special special.Srb value) old = value
base_by _ old = old

abbrev pub offset_by : Write → ℕ → ℕ
offset_by (write.Special special.Sro value) old = value
offset_by _ old = old

-- the last of the writes stands
abbrev pub last_by : {A : Type 0} → (Write → A → A) → List Write → A → A
last_by by [] old = old
last_by by (w ∷ ws) old = last_by by ws (by w old)

-- r0 stays 0 and p0 stays true
abbrev pub register_after : List Write → ℕ → ℕ → ℕ
register_after ws r old = if r == 0 then 0 else last_by (register_by r) ws old

abbrev pub pred_after : List Write → ℕ → Bool → Bool
pred_after ws p old = if p == 0 then true else last_by (pred_by p) ws old

-- a register file, each register told by its number and its old value; the first one's number is n
abbrev pub renewed_from : {A : Type 0} → ℕ → (ℕ → A → A) → List A → List A
renewed_from n f [] = []
renewed_from n f (x ∷ xs) = f n x ∷ renewed_from (n + 1) f xs

abbrev pub renewed : {A : Type 0} → (ℕ → A → A) → List A → List A
renewed f xs = renewed_from 0 f xs

-- the registers after some writes
abbrev pub after_writes : List Write → Registers → Registers
after_writes ws regs = record {
  general = renewed (register_after ws) regs.general;
  preds = renewed (pred_after ws) regs.preds;
  sl = last_by low_by ws regs.sl;
  sh = last_by high_by ws regs.sh;
  srb = last_by base_by ws regs.srb;
  sro = last_by offset_by ws regs.sro;
  pending = regs.pending;
}

-- a pending value comes as a write
abbrev pub came : Pending → Write
came pending.Nothing = write.Nothing
came (pending.Value rd value) = write.Register rd value
came (pending.Product low high) = write.Product low high

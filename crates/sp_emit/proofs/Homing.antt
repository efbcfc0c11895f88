-- A function returns to the place that was set when it began, whatever its loads from other memories give.
use Rattle.std.proofs.Common.{true≢false, ◌≡◌, ℕ, Bool, true, false, if◌then◌else◌, is_none, Option, None, Some, List, refl, sym, ◌∙◌}
use Rattle.std.proofs.lemmas.Bool.{and_parts}
use Rattle.patmos_instr.specs.Bundles.{PlainBundle}
use Rattle.patmos_instr.specs.declared.functions.StackFunc.TheVariants.{Sres, Sens, Sfree}
use Rattle.patmos_instr.specs.declared.guards.Guard.{Guard}
use Rattle.patmos_instr.specs.declared.instructions.Instr.{Instr}
use Rattle.patmos_instr.specs.declared.instructions.Op.{Op}
use Rattle.patmos_instr.specs.declared.instructions.Op.TheVariants.{ToSpecial}
use Rattle.patmos_instr.specs.declared.memories.Mem.TheVariants as mem
use Rattle.patmos_sem.specs.Bundles.{slot_write, second_write, effect_of}
use Rattle.patmos_sem.specs.Effects.{write_of}
use Rattle.patmos_sem.specs.Registers.{Registers, holds}
use Rattle.patmos_sem.specs.Writes.{came, base_by, offset_by}
use Rattle.patmos_sem.specs.declared.effects.Effect.{Effect}
use Rattle.patmos_sem.specs.declared.effects.Effect.TheVariants as effect
use Rattle.patmos_sem.specs.declared.pending.Pending.{Pending}
use Rattle.patmos_sem.specs.declared.pending.Pending.TheVariants as pending
use Rattle.patmos_sem.specs.declared.writes.Write.{Write}
use Rattle.patmos_sem.specs.declared.writes.Write.TheVariants as write
use Rattle.sp_shape.proofs.Along.{parts_have, Relates, run_done, run_parts}
use Rattle.sp_shape.proofs.Whole.{behind}
use Rattle.sp_shape.specs.Parts.{PlainParts}
use Rattle.sp_shape.specs.Run.{Run, Sources, once, effected, run}
use Rattle.sp_shape.specs.Trail.{Step, all_done, parts_trail}
use Rattle.patmos_instr.specs.declared.specials.WritableSpecial.TheVariants as special
use Rattle.sp_emit.proofs.Effects.{Footprint, keeps_to, is_in, AreIn, none, everything, IsWide}

-- the place that is set, in another state
pub record SameBack (m t : Run) : Type 0 where
  pub base : t.regs.srb ≡ m.regs.srb
  pub offset : t.regs.sro ≡ m.regs.sro

pub back_then : {m n t : Run} → SameBack m n → SameBack n t → SameBack m t
back_then a b = record { base = b.base ∙ a.base; offset = b.offset ∙ a.offset }

-- a write that sets no special register sets no place
abbrev is_special : Write → Bool
is_special (write.Special special value) = true
is_special _ = false

base_same : (w : Write) (old : ℕ) → is_special w ≡ false → base_by w old ≡ old
base_same (write.Special special value) old none = absurd (true≢false none)
base_same _ old none = refl

offset_same : (w : Write) (old : ℕ) → is_special w ≡ false → offset_by w old ≡ old
offset_same (write.Special special value) old none = absurd (true≢false none)
offset_same _ old none = refl

came_none : (p : Pending) → is_special (came p) ≡ false
came_none pending.Nothing = refl
came_none (pending.Value rd value) = refl
came_none (pending.Product low high) = refl

back_effected : (from : Sources) (e : Effect) (m : Run) → SameBack m (effected from e m)
back_effected from (effect.Store mem.S width address value) m = record { base = refl; offset = refl }
back_effected from (effect.Store _ width address value) m = record { base = refl; offset = refl }
back_effected from (effect.StackOp Sres count) m = record { base = refl; offset = refl }
back_effected from (effect.StackOp Sens count) m = record { base = refl; offset = refl }
back_effected from (effect.StackOp Sfree count) m = record { base = refl; offset = refl }
back_effected from _ m = record { base = refl; offset = refl }

-- code that sets no special register
abbrev pub homing : Footprint
homing = record everything { specials = false }

pub homing_wide : IsWide homing
homing_wide = record { sets = λ r. refl; reads = λ word. refl; stores = λ word. refl }

written_none : (st ss : ℕ) (regs : Registers) (on : Bool) (g : Guard) (op : Op) → keeps_to homing g op ≡ true
    → is_special (if on then write_of st ss regs op else write.Nothing) ≡ false
written_none st ss regs false g op keeps = refl
written_none st ss regs true g (ToSpecial special.S0 ra) keeps = absurd cc
written_none st ss regs true g (ToSpecial _ ra) keeps = absurd (true≢false (sym keeps))
written_none st ss regs true g _ keeps = refl

second_none : (st ss : ℕ) (regs : Registers) (second : Option Instr) → is_none second ≡ true
    → is_special (second_write st ss regs second) ≡ false
second_none st ss regs None none = refl
second_none st ss regs (Some i) none = absurd (true≢false (sym none))

after_back : (b : PlainBundle) (m : Run) → is_in homing b ≡ true → SameBack m (behind b m)
after_back b m within =
    let both = and_parts (keeps_to homing b.first.guard b.first.op) (is_none b.second) within in
    let p = came m.regs.pending in
    let w = slot_write m.st m.ss m.regs b.first in
    let v = second_write m.st m.ss m.regs b.second in
    let first = written_none m.st m.ss m.regs (holds m.regs b.first.guard) b.first.guard b.first.op both.0 in
    let second = second_none m.st m.ss m.regs b.second both.1 in
    record {
      base = base_same v (base_by w (base_by p m.regs.srb)) second ∙ base_same w (base_by p m.regs.srb) first
          ∙ base_same p m.regs.srb (came_none m.regs.pending);
      offset = offset_same v (offset_by w (offset_by p m.regs.sro)) second
          ∙ offset_same w (offset_by p m.regs.sro) first ∙ offset_same p m.regs.sro (came_none m.regs.pending);
    }

once_back : (from : Sources) (b : PlainBundle) (m : Run) → is_in homing b ≡ true → SameBack m (once from b m)
once_back from b m within =
    let e = effected from (effect_of b m.regs) (behind b m) in
    let x = back_then (after_back b m within) (back_effected from (effect_of b m.regs) (behind b m)) in
    record {
      base = base_same (came e.regs.pending) e.regs.srb (came_none e.regs.pending) ∙ x.base;
      offset = offset_same (came e.regs.pending) e.regs.sro (came_none e.regs.pending) ∙ x.offset;
    }

-- ---- trails

homing_relates : Relates (λ m. Unit {0}) SameBack
homing_relates = record {
  same = λ m fit. record { base = refl; offset = refl };
  then = λ m n t a b. back_then a b;
  fit = λ m t fit a. tt;
}

pub done_back : (from : Sources) (bs : List PlainBundle) (m : Run) → AreIn homing bs
    → SameBack m (run from (all_done bs) m)
done_back from bs m all = run_done from (λ m. Unit {0}) SameBack homing_relates (is_in homing)
    (λ b m within fit. once_back from b m within) bs all m tt

-- code that calls no function
pub parts_back : (from : Sources) (f : ℕ → List Step) (ps : PlainParts) → parts_have (is_in homing) none ps ≡ true
    → (m : Run) → SameBack m (run from (parts_trail f ps) m)
parts_back from f ps all m = run_parts from (λ m. Unit {0}) SameBack homing_relates (is_in homing)
    (λ b m within fit. once_back from b m within) f none (λ k called. absurd (true≢false (sym called))) ps all m tt

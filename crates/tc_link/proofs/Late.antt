-- What bundles that are read late keep: all registers are there, and the places to which calls return; and without a
-- flow, what flows were asked for.
use Rattle.std.proofs.Common.{◌≡◌, ℕ, Bool, true, false, not, None, is_some, List, [], ◌∷◌, if◌then◌else◌, refl, sym, ap, ◌∙◌, true≢false}
use Rattle.std.proofs.lemmas.Bool.{and_parts}
use Rattle.patmos_instr.specs.Bundles.{PlainBundle}
use Rattle.patmos_instr.specs.declared.functions.StackFunc.{StackFunc}
use Rattle.patmos_instr.specs.declared.functions.StackFunc.TheVariants.{Sres, Sens, Sfree}
use Rattle.patmos_instr.specs.declared.instructions.Op.{Op}
use Rattle.patmos_instr.specs.declared.instructions.Op.TheVariants.{Branch, Call, BranchFill, Return}
use Rattle.patmos_instr.specs.declared.memories.Mem.{Mem}
use Rattle.patmos_instr.specs.declared.memories.Mem.TheVariants as mem
use Rattle.patmos_instr.specs.declared.memories.StoreWidth.{StoreWidth}
use Rattle.patmos_sem.specs.Bundles.{effect_of}
use Rattle.patmos_sem.specs.Effects.{asked}
use Rattle.patmos_sem.specs.Registers.{Registers, FitsRegisters, holds}
use Rattle.patmos_sem.specs.declared.effects.Effect.{Effect}
use Rattle.patmos_sem.specs.declared.effects.Effect.TheVariants as effect
use Rattle.patmos_model.specs.Bundle.{asked_flow}
use Rattle.sp_shape.proofs.Whole.{behind, late_fits}
use Rattle.sp_shape.specs.Formed.{is_flow, are_calm}
use Rattle.sp_shape.specs.Run.{Run, Sources, stored, stacked, effected, late, run_late}
use Rattle.sp_shape.specs.Trail.{all_done}

-- ---- flows

pub not_flow : (b : Bool) → not b ≡ true → b ≡ false
not_flow true e = absurd (true≢false (sym e))
not_flow false e = refl

pub calm_first : (b : PlainBundle) (bs : List PlainBundle) → are_calm (b ∷ bs) ≡ true → is_flow b.first.op ≡ false
calm_first b bs calm = not_flow (is_flow b.first.op) (and_parts (not (is_flow b.first.op)) (are_calm bs) calm).0

pub calm_rest : (b : PlainBundle) (bs : List PlainBundle) → are_calm (b ∷ bs) ≡ true → are_calm bs ≡ true
calm_rest b bs calm = (and_parts (not (is_flow b.first.op)) (are_calm bs) calm).1

-- what is asked for is no flow
asks_none : (offset : ℕ) (regs : Registers) (on : Bool) (op : Op) → is_flow op ≡ false
    → asked_flow offset (if on then asked regs op else effect.Nothing) ≡ None
asks_none offset regs false op calm = refl
asks_none offset regs true (Branch by) calm = absurd (true≢false calm)
asks_none offset regs true (Call target) calm = absurd (true≢false calm)
asks_none offset regs true (BranchFill target) calm = absurd (true≢false calm)
asks_none offset regs true Return calm = absurd (true≢false calm)
asks_none offset regs true _ calm = refl

pub calm_asks : (offset : ℕ) (b : PlainBundle) (regs : Registers) → is_flow b.first.op ≡ false
    → asked_flow offset (effect_of b regs) ≡ None
calm_asks offset b regs calm = asks_none offset regs (holds regs b.first.guard) b.first.op calm

-- ---- what is asked for

stored_backs : (space : Mem) (width : StoreWidth) (address value : ℕ) (m : Run)
    → (stored space width address value m).backs ≡ m.backs
stored_backs mem.S width address value m = refl
stored_backs _ width address value m = refl

stored_ways : (space : Mem) (width : StoreWidth) (address value : ℕ) (m : Run)
    → (stored space width address value m).ways ≡ m.ways
stored_ways mem.S width address value m = refl
stored_ways _ width address value m = refl

stacked_backs : (func : StackFunc) (count : ℕ) (m : Run) → (stacked func count m).backs ≡ m.backs
stacked_backs Sres count m = refl
stacked_backs Sens count m = refl
stacked_backs Sfree count m = refl

stacked_ways : (func : StackFunc) (count : ℕ) (m : Run) → (stacked func count m).ways ≡ m.ways
stacked_ways Sres count m = refl
stacked_ways Sens count m = refl
stacked_ways Sfree count m = refl

effected_backs : (from : Sources) (e : Effect) (m : Run) → (effected from e m).backs ≡ m.backs
effected_backs from (effect.Store space width address value) m = stored_backs space width address value m
effected_backs from (effect.StackOp func count) m = stacked_backs func count m
effected_backs from _ m = refl

effected_ways : (from : Sources) (offset : ℕ) (e : Effect) (m : Run) → asked_flow offset e ≡ None
    → (effected from e m).ways ≡ m.ways
effected_ways from offset effect.Nothing m calm = refl
effected_ways from offset (effect.Load space width rd address) m calm = refl
effected_ways from offset (effect.Store space width address value) m calm = stored_ways space width address value m
effected_ways from offset (effect.StackOp func count) m calm = stacked_ways func count m
effected_ways from offset (effect.Flow flow) m calm = absurd (true≢false (ap is_some calm))

-- ---- bundles

pub late_backs : (from : Sources) (b : PlainBundle) (m : Run) → (late from b m).backs ≡ m.backs
late_backs from b m = effected_backs from (effect_of b m.regs) (behind b m)

pub late_ways : (from : Sources) (b : PlainBundle) (m : Run) → is_flow b.first.op ≡ false
    → (late from b m).ways ≡ m.ways
late_ways from b m calm = effected_ways from 0 (effect_of b m.regs) (behind b m) (calm_asks 0 b m.regs calm)

pub done_backs : (from : Sources) (bs : List PlainBundle) (m : Run) → (run_late from (all_done bs) m).backs ≡ m.backs
done_backs from [] m = refl
done_backs from (b ∷ bs) m = done_backs from bs (late from b m) ∙ late_backs from b m

pub done_fits : (from : Sources) (bs : List PlainBundle) (m : Run) → FitsRegisters m.regs
    → FitsRegisters (run_late from (all_done bs) m).regs
done_fits from [] m fits = fits
done_fits from (b ∷ bs) m fits = done_fits from bs (late from b m) (late_fits from b m fits)

pub calm_ways : (from : Sources) (bs : List PlainBundle) (m : Run) → are_calm bs ≡ true
    → (run_late from (all_done bs) m).ways
    ≡ m.ways
calm_ways from [] m calm = refl
calm_ways from (b ∷ bs) m calm =
    calm_ways from bs (late from b m) (calm_rest b bs calm) ∙ late_ways from b m (calm_first b bs calm)

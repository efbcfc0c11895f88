-- Nothing is pending after a bundle that is read at once, and all registers are there.
use Rattle.std.proofs.Common.{◌≡◌, ℕ, List, [], ◌∷◌, ◌++◌, false, refl, sym, ◌∙◌, subst, arith}
use Rattle.patmos_instr.specs.Bundles.{PlainBundle}
use Rattle.patmos_instr.specs.declared.functions.StackFunc.{StackFunc}
use Rattle.patmos_instr.specs.declared.functions.StackFunc.TheVariants.{Sres, Sens, Sfree}
use Rattle.patmos_instr.specs.declared.memories.Mem.{Mem}
use Rattle.patmos_instr.specs.declared.memories.Mem.TheVariants as mem
use Rattle.patmos_instr.specs.declared.memories.StoreWidth.{StoreWidth}
use Rattle.patmos_sem.specs.Bundles.{after_bundle, effect_of, all_writes, slot_begun}
use Rattle.patmos_sem.specs.Registers.{Registers, FitsRegisters}
use Rattle.patmos_sem.specs.Writes.{after_writes, came, register_after, pred_after}
use Rattle.patmos_sem.specs.declared.effects.Effect.{Effect}
use Rattle.patmos_sem.specs.declared.effects.Effect.TheVariants as effect
use Rattle.patmos_sem.specs.declared.pending.Pending.{Pending}
use Rattle.patmos_sem.specs.declared.pending.Pending.TheVariants as pending
use Rattle.patmos_sem.specs.declared.writes.Write.{Write}
use Rattle.patmos_sem.proofs.Told.{get_or-renewed, length-renewed_from}
use Rattle.sp_shape.specs.Run.{Run, IsWhole, Sources, stored, stacked, effected, late, once, begun, run_late, run}
use Rattle.sp_shape.specs.Trail.{Step, does, begins}

-- ---- registers that are written are still all there

abbrev pub with_pending : Registers → Pending → Registers
with_pending regs p = record regs { pending = p }

pub writes_fit : (ws : List Write) (p : Pending) (regs : Registers) → FitsRegisters regs
    → FitsRegisters (with_pending (after_writes ws regs) p)
writes_fit ws p regs fits = record {
  count = length-renewed_from 0 (register_after ws) regs.general ∙ fits.count;
  pred_count = length-renewed_from 0 (pred_after ws) regs.preds ∙ fits.pred_count;
  zero = get_or-renewed (register_after ws) regs.general 0 0 (omega (arith, fits.count));
  always = get_or-renewed (pred_after ws) regs.preds 0 false (omega (arith, fits.pred_count));
}

-- ---- what a bundle asks for changes no register but a load's

pub stored_regs : (space : Mem) (width : StoreWidth) (address value : ℕ) (m : Run)
    → (stored space width address value m).regs ≡ m.regs
stored_regs mem.S width address value m = refl
stored_regs _ width address value m = refl

pub stacked_regs : (func : StackFunc) (count : ℕ) (m : Run) → (stacked func count m).regs ≡ m.regs
stacked_regs Sres count m = refl
stacked_regs Sens count m = refl
stacked_regs Sfree count m = refl

effected_fits : (from : Sources) (e : Effect) (m : Run) → FitsRegisters m.regs → FitsRegisters (effected from e m).regs
effected_fits from effect.Nothing m fits = fits
effected_fits from (effect.Load space width rd address) m fits =
    record { count = fits.count; pred_count = fits.pred_count; zero = fits.zero; always = fits.always }
effected_fits from (effect.Store space width address value) m fits =
    subst FitsRegisters (sym (stored_regs space width address value m)) fits
effected_fits from (effect.StackOp func count) m fits = subst FitsRegisters (sym (stacked_regs func count m)) fits
effected_fits from (effect.Flow flow) m fits = fits

-- ---- bundles and trails

-- the registers after a bundle, before what it asks for
abbrev pub behind : PlainBundle → Run → Run
behind b m = record m { regs = after_bundle m.st m.ss b m.regs }

pub late_fits : (from : Sources) (b : PlainBundle) (m : Run) → FitsRegisters m.regs → FitsRegisters (late from b m).regs
late_fits from b m fits = effected_fits from (effect_of b m.regs) (behind b m)
    (writes_fit (all_writes m.st m.ss b m.regs) (slot_begun m.regs b.first) m.regs fits)

pub once_whole : (from : Sources) (b : PlainBundle) (m : Run) → IsWhole m → IsWhole (once from b m)
once_whole from b m whole =
    let regs = (late from b m).regs in
    record {
      fits = writes_fit (came regs.pending ∷ []) pending.Nothing regs (late_fits from b m whole.fits);
      pending = refl;
    }

pub begun_whole : (m : Run) → IsWhole m → IsWhole (begun m)
begun_whole m whole = record {
  fits = record {
    count = whole.fits.count;
    pred_count = whole.fits.pred_count;
    zero = whole.fits.zero;
    always = whole.fits.always;
  };
  pending = whole.pending;
}

pub run_whole : (from : Sources) (steps : List Step) (m : Run) → IsWhole m → IsWhole (run from steps m)
run_whole from [] m whole = whole
run_whole from (does b ∷ steps) m whole = run_whole from steps (once from b m) (once_whole from b m whole)
run_whole from (begins ∷ steps) m whole = run_whole from steps (begun m) (begun_whole m whole)

pub run_append : (from : Sources) (xs ys : List Step) (m : Run) → run from (xs ++ ys) m ≡ run from ys (run from xs m)
run_append from [] ys m = refl
run_append from (does b ∷ xs) ys m = run_append from xs ys (once from b m)
run_append from (begins ∷ xs) ys m = run_append from xs ys (begun m)

pub late_append : (from : Sources) (xs ys : List Step) (m : Run) → run_late from (xs ++ ys) m
    ≡ run_late from ys (run_late from xs m)
late_append from [] ys m = refl
late_append from (does b ∷ xs) ys m = late_append from xs ys (late from b m)
late_append from (begins ∷ xs) ys m = late_append from xs ys (begun m)

-- A write that names no register of a file leaves the files as they are.
use Rattle.std.proofs.Common.{◌≡◌, ℕ, Bool, [], ◌∷◌}
use Rattle.patmos_sem.specs.declared.writes.Write.{Write}
use Rattle.patmos_sem.specs.declared.registers.Regs.TheInside.{Inside}
use Rattle.patmos_sem.specs.contracts.registers.Regs.{the_view, the_invariant}
use Rattle.patmos_sem.specs.Writes.{register_by, pred_by, low_by, high_by, base_by, offset_by, after_writes}
use Rattle.patmos_sem.proofs.Told.{parts_after, kept_registers, kept_preds}

-- a write that names no general register and no predicate
pub quiet : (w : Write) (r : Inside) → the_invariant r → ((n old : ℕ) → register_by n w old ≡ old)
    → ((n : ℕ) (old : Bool) → pred_by n w old ≡ old)
    → record (the_view r) { sl = low_by w r.sl; sh = high_by w r.sh; srb = base_by w r.srb; sro = offset_by w r.sro }
    ≡ after_writes (w ∷ []) (the_view r)
quiet w r fits g p = parts_after w (the_view r) r.general r.preds (kept_registers w r.general fits.zero
    (λ n old _. g n old)) (kept_preds w r.preds fits.always (λ n old _. p n old))

-- What a bundle leaves that stores a word.
use Rattle.std.proofs.Common.{◌≡◌, ℕ, ◌+◌, ◌*◌, ◌/◌, ◌%◌, ◌^◌, ◌<◌, true, if◌then◌else◌, [], ◌∷◌, ◌++◌, refl, ap, ◌∙◌, arith}
use Rattle.shared_order.specs.Words.{put}
use Rattle.patmos_instr.specs.declared.guards.Guard.{Guard}
use Rattle.patmos_instr.specs.declared.instructions.Op.TheVariants.{Store}
use Rattle.patmos_instr.specs.declared.memories.Mem.{Mem}
use Rattle.patmos_instr.specs.declared.memories.Mem.TheVariants as mem
use Rattle.patmos_instr.specs.declared.memories.StoreWidth.TheVariants as store
use Rattle.patmos_sem.specs.Effects.{address_of as address_by, asked}
use Rattle.patmos_sem.specs.Registers.{Registers, holds}
use Rattle.patmos_sem.specs.declared.effects.Effect.TheVariants as effect
use Rattle.patmos_sem.specs.declared.pending.Pending.TheVariants as pending
use Rattle.patmos_sem.specs.declared.writes.Write.TheVariants as write
use Rattle.sp_shape.specs.Run.{Run, Sources, once, effected, with_settled, settled, stored, IsWhole}
use Rattle.sp_emit.specs.Holding.{held}
use Rattle.sp_emit.specs.Instructions.{under, store_slot}
use Rattle.sp_emit.proofs.Once.{behind_slot, slot_after, unchanged, with_regs}

abbrev pub with_store : Mem → ℕ → ℕ → Run → Run
with_store space address value m = record (stored space store.Word address value m) {
  asked = m.asked
      ++ effect.Store space store.Word address value ∷ [];
}

stored_apart : (space : Mem) (address value : ℕ) (m : Run) (regs : Registers)
    → with_settled (with_store space address value (with_regs m regs))
    ≡ with_regs (with_store space address value m) (settled regs)
unfolding with_regs
stored_apart mem.S address value m regs = refl
stored_apart _ address value m regs = refl

stored_keeps : (space : Mem) (address value : ℕ) (m : Run) → with_regs (with_store space address value m) m.regs
    ≡ with_store space address value m
unfolding with_regs
stored_keeps mem.S address value m = refl
stored_keeps _ address value m = refl

pub did_store : (from : Sources) (g : Guard) (space : Mem) (ra rs imm : ℕ) (m : Run) → IsWhole m → holds m.regs g ≡ true
    → once from (under g (Store space store.Word ra rs imm)) m
    ≡ with_store space (address_by (held ra m) imm 4) (held rs m) m
unfolding slot_after with_regs
did_store from g space ra rs imm m whole on =
    let op = Store space store.Word ra rs imm in
    let address = address_by (held ra m) imm 4 in
    ap (λ e. with_settled (effected from e (with_regs m (slot_after (holds m.regs g) op m))))
    (ap (λ h. if h then asked m.regs op else effect.Nothing) on)
    ∙ ap (λ h. with_settled (effected from (asked m.regs op) (with_regs m (slot_after h op m)))) on
    ∙ stored_apart space address (held rs m) m (slot_after true op m)
    ∙ ap (with_regs (with_store space address (held rs m) m)) (behind_slot write.Nothing pending.Nothing m.regs
    whole.pending ∙ unchanged m.regs whole.fits whole.pending)
    ∙ stored_keeps space address (held rs m) m

-- a word of the frame
abbrev pub with_slot_word : ℕ → ℕ → Run → Run
with_slot_word slot value m = record m {
  stack = put (m.st + slot) value m.stack;
  asked = m.asked ++ effect.Store mem.S store.Word ((0 + slot * 4) % 2 ^ 32) value ∷ [];
}

pub did_store_slot : (from : Sources) (g : Guard) (slot rs : ℕ) (m : Run) → IsWhole m → holds m.regs g ≡ true
    → slot < 128 → once from (store_slot g slot rs) m ≡ with_slot_word slot (held rs m) m
did_store_slot from g slot rs m whole on few =
    did_store from g mem.S 0 rs slot m whole on ∙ ap (λ z. with_store mem.S (address_by z slot 4) (held rs m) m)
    whole.fits.zero
    ∙ ap (λ n. record m {
      stack = put (m.st + n) (held rs m) m.stack;
      asked = m.asked
          ++ effect.Store mem.S store.Word ((0 + slot * 4) % 2 ^ 32) (held rs m) ∷ [];
    })
    (let e : (0 + slot * 4) % 2 ^ 32 / 4 ≡ slot = omega (arith, few) in e)

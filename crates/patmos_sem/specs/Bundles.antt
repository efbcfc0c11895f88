-- To be believed. The effect of a bundle (Patmos Reference Handbook, dual issue, delays and predication). Every operand
-- is read from the registers before the bundle.
use Rattle.std.specs.Prelude.{ℕ, Option, Some, None, List, [], ◌∷◌, if◌then◌else◌}
use Rattle.patmos_instr.specs.Bundles.{PlainBundle}
use Rattle.patmos_instr.specs.declared.instructions.Instr.{Instr}
use Rattle.patmos_sem.specs.declared.pending.Pending.{Pending}
use Rattle.patmos_sem.specs.declared.pending.Pending.TheVariants as pending
use Rattle.patmos_sem.specs.declared.writes.Write.{Write}
use Rattle.patmos_sem.specs.declared.writes.Write.TheVariants as write
use Rattle.patmos_sem.specs.declared.effects.Effect.{Effect}
use Rattle.patmos_sem.specs.declared.effects.Effect.TheVariants as effect
use Rattle.patmos_sem.specs.Registers.{Registers, holds}
use Rattle.patmos_sem.specs.Writes.{after_writes, came}
use Rattle.patmos_sem.specs.Effects.{write_of, begun, asked}

-- the write of a slot: its instruction's, where the guard is true
abbrev pub slot_write : ℕ → ℕ → Registers → Instr → Write
slot_write st ss regs i = if holds regs i.guard then write_of st ss regs i.op else write.Nothing

abbrev pub second_write : ℕ → ℕ → Registers → Option Instr → Write
second_write st ss regs None = write.Nothing
second_write st ss regs (Some i) = slot_write st ss regs i

-- the product that a slot's instruction begins, and what it asks for, where the guard is true
abbrev pub slot_begun : Registers → Instr → Pending
slot_begun regs i = if holds regs i.guard then begun regs i.op else pending.Nothing

abbrev pub slot_asked : Registers → Instr → Effect
slot_asked regs i = if holds regs i.guard then asked regs i.op else effect.Nothing

-- the writes of a bundle: the first slot's, then the second's
abbrev pub own_writes : ℕ → ℕ → Registers → PlainBundle → List Write
own_writes st ss regs b = slot_write st ss regs b.first ∷ second_write st ss regs b.second ∷ []

-- all that is written in a bundle: what was pending comes first, so that an own write wins over it
abbrev pub all_writes : ℕ → ℕ → PlainBundle → Registers → List Write
all_writes st ss b regs = came regs.pending ∷ own_writes st ss regs b

-- the registers after a bundle; a product that it began is pending
abbrev pub after_bundle : ℕ → ℕ → PlainBundle → Registers → Registers
after_bundle st ss b regs = record (after_writes (all_writes st ss b regs) regs) { pending = slot_begun regs b.first }

-- what a bundle asks for: the first slot alone can
abbrev pub effect_of : PlainBundle → Registers → Effect
effect_of b regs = slot_asked regs b.first

-- where a load was asked for, this holds
abbrev pub OnLoad : Effect → Type 0 → Type 0
OnLoad (effect.Load _ _ _ _) p = p
OnLoad _ _ = Unit {0}

-- the registers once a load's value has come from memory
abbrev pub arrived : ℕ → ℕ → Registers → Registers
arrived rd value regs = record regs { pending = pending.Value rd value }

-- When a core does nothing of its own.
use Rattle.std.proofs.Common.{◌≡◌, ℕ, ◌<◌, ◌≤◌, ◌==◌, nat_le, Bool, true, false, refl, arith, inl, inr}
use Rattle.std.proofs.lemmas.Bool.{leb-true, ne_eqb}
use Rattle.slot_arbiter.specs.Order.{IsNext}
use Rattle.slot_arbiter.specs.Slot.{is_slot_start}
use Rattle.patmos_model.specs.State.{Plain, is_running}
use Rattle.patmos_model.proofs.Waits.{none_right}
use Rattle.core_pace.proofs.OwnActs.{idle_not_due, sleeps_early, sleeps_unslotted}
use Rattle.pipe_five.specs.Lone.{Sleeps}

pub stopped : (x : Plain) (u : ℕ) → is_running x ≡ false → Sleeps u x
stopped x u still = inl still

pub early : (x : Plain) (u : ℕ) → u < x.free → Sleeps u x
early x u before = sleeps_early x u before

-- with nothing to move it is free in one cycle alone
pub late : (x : Plain) (u : ℕ) → x.transfer.words ≡ 0 → x.free < u → Sleeps u x
late x u none after = inr (
  none_right (x.transfer.words == 0) (x.free == u) (ne_eqb x.free u (λ e. omega (arith, after, e))),
  idle_not_due x u none,
)

-- with words to move, no slot of its own starts yet
pub no_slot : (x : Plain) (u t start : ℕ) → 0 < x.transfer.words → (x.free ≤ u → t ≤ u) → u < start
    → IsNext (is_slot_start x.site.table x.site.slot x.site.core) t start → Sleeps u x
no_slot x u t start some reach before next = by (nat_le x.free u) refl
  where
    starts : (b : Bool) → is_slot_start x.site.table x.site.slot x.site.core u ≡ b → t ≤ u → Sleeps u x
    starts true is from = absurd (omega (arith, before, next.least u from is))
    starts false is from = sleeps_unslotted x u some is

    by : (b : Bool) → nat_le x.free u ≡ b → Sleeps u x
    by true is = starts (is_slot_start x.site.table x.site.slot x.site.core u) refl (reach (leb-true x.free u is))
    by false is = sleeps_early x u (grind (arith, is))

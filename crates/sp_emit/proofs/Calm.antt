-- Calm bundles keep what they are to keep, whatever their guards are.
use Rattle.std.proofs.Common.{◌≡◌, ℕ, zero, suc, ◌<◌, ◌≤◌, ◌==◌, Bool, true, false, not, ◌&&◌, ◌||◌, List, ◌∙◌, sym, ap, refl, arith, ne_eqb, true≢false}
use Rattle.std.specs.Prelude.{nat_le, nat_lt}
use Rattle.std.proofs.lemmas.Bool.{lt-ltb, or_left, or_right, and_from, le-leb}
use Rattle.patmos_instr.specs.Bundles.{PlainBundle}
use Rattle.patmos_instr.specs.declared.memories.Mem.TheVariants as mem
use Rattle.patmos_sem.specs.Bundles.{effect_of}
use Rattle.patmos_sem.specs.declared.effects.Effect.{Effect}
use Rattle.patmos_sem.specs.declared.effects.Effect.TheVariants as effect
use Rattle.patmos_sem.specs.declared.writes.Write.TheVariants as write
use Rattle.sp_shape.specs.Parts.{PlainParts}
use Rattle.sp_shape.specs.Run.{Run, Sources, once, effected, run, IsWhole}
use Rattle.sp_shape.specs.Trail.{Step, all_done, copies, parts_trail}
use Rattle.sp_shape.proofs.Along.{parts_have, copied, Relates, Leaves, relates, run_done, run_parts}
use Rattle.sp_shape.proofs.Whole.{behind, once_whole}
use Rattle.sp_emit.specs.Holding.{held, Keeps, KeepsFrom}
use Rattle.sp_emit.specs.declared.registers.TheConstants.{OVERRUN, SPARE, FLAGS}
use Rattle.sp_emit.proofs.Effects.{Footprint, is_in, AreIn, none, of_bodies, is_passing, AsksIn, effect_in, Spared, spared_once}
use Rattle.sp_emit.proofs.Once.{with_written, whole_written, stays_zero, kept, so_by_register}
use Rattle.sp_emit.proofs.Untouched.{Operand, register, predicate, IsThere, Same}

-- ---- calm code

-- a register from this one on before the window, or after the flag of loops; and register 0, which stays 0
abbrev pub is_free : ℕ → ℕ → ℕ → Bool
is_free low homes r = (r == 0) || (nat_lt OVERRUN r || (not (r == OVERRUN) && (nat_le low r && nat_lt r homes)))

pub spare_free : (low homes r : ℕ) → OVERRUN < r → is_free low homes r ≡ true
spare_free low homes r lt =
    or_right (r == 0) (nat_lt OVERRUN r || (not (r == OVERRUN) && (nat_le low r && nat_lt r homes)))
    (or_left (nat_lt OVERRUN r) (not (r == OVERRUN) && (nat_le low r && nat_lt r homes)) (lt-ltb OVERRUN r lt))

pub own_free : (low homes r : ℕ) → low ≤ r → r < OVERRUN → r < homes → is_free low homes r ≡ true
own_free low homes r le few within =
    or_right (r == 0) (nat_lt OVERRUN r || (not (r == OVERRUN) && (nat_le low r && nat_lt r homes)))
    (or_right (nat_lt OVERRUN r) (not (r == OVERRUN) && (nat_le low r && nat_lt r homes)) (and_from (not (r == OVERRUN))
    (nat_le low r && nat_lt r homes) (ap not (ne_eqb r OVERRUN (omega (arith, few))))
    (and_from (nat_le low r) (nat_lt r homes) (le-leb low r le) (lt-ltb r homes within))))

-- it sets no other register or predicate, and stores nothing
abbrev pub calm : ℕ → ℕ → Footprint
calm low homes = record of_bodies {
  sets = is_free low homes;
  tells = is_passing;
  stores = none;
  stacks = λ func count. false;
  writes = false;
  calls = false;
  zero = refl;
  spare = spare_free low homes;
  passing = λ p lt. lt-ltb p FLAGS lt;
}

-- and calls no function
abbrev pub IsCalm : ℕ → ℕ → PlainParts → Type 0
IsCalm low homes ps = parts_have (is_in (calm low homes)) none ps ≡ true

-- ---- what is kept

pub keeps_all : (rd homes : ℕ) (m : Run) → IsWhole m → Keeps rd homes m m
keeps_all rd homes m whole = record {
  whole = whole;
  low = λ r lt. refl;
  high = λ r at lt. refl;
  flags = λ p from lt.
      refl;
  flag = refl;
  stack = refl;
  st = refl;
  memory = refl;
}

pub keeps_both : {rd homes : ℕ} {m n t : Run} → Keeps rd homes m n → Keeps rd homes n t → Keeps rd homes m t
keeps_both a b = record {
  whole = b.whole;
  low = λ r lt. b.low r lt ∙ a.low r lt;
  high = λ r at lt. b.high r at lt ∙ a.high r at lt;
  flags = λ p from lt. b.flags p from lt ∙ a.flags p from lt;
  flag = b.flag ∙ a.flag;
  stack = b.stack ∙ a.stack;
  st = b.st ∙ a.st;
  memory = b.memory ∙ a.memory;
}

-- what is kept from one register on is kept from a lower one on
pub keeps_fewer : {rd homes : ℕ} {m t : Run} (low : ℕ) → low ≤ rd → Keeps rd homes m t → Keeps low homes m t
keeps_fewer low le a = record {
  whole = a.whole;
  low = λ r lt. a.low r (omega (arith, lt, le));
  high = a.high;
  flags = a.flags;
  flag = a.flag;
  stack = a.stack;
  st = a.st;
  memory = a.memory;
}

-- ---- what is not free

low_held : (rd homes r : ℕ) → rd ≤ SPARE → 1 ≤ r → r < rd → is_free rd homes r ≡ false
low_held rd homes r few some lt = grind (arith, few, some, lt)

high_held : (rd homes r : ℕ) → 1 ≤ r → homes ≤ r → r < OVERRUN → is_free rd homes r ≡ false
high_held rd homes r some at lt = grind (arith, some, at, lt)

-- ---- writes

-- a register that is free
pub keeps_register : (rd homes r v : ℕ) (m : Run) → rd ≤ SPARE → IsWhole m → is_free rd homes r ≡ true
    → Keeps rd homes m (with_written (write.Register r v) m)
keeps_register rd homes r v m few whole free = record {
  whole = whole_written (write.Register r v) m whole;
  low = low;
  high = high;
  flags = λ p from lt. so_by_register r v p m whole lt;
  flag = left OVERRUN (omega arith) refl;
  stack = refl;
  st = refl;
  memory = refl;
}
  where
    left : (x : ℕ) → x < 32 → is_free rd homes x ≡ false → held x (with_written (write.Register r v) m) ≡ held x m
    left x lt spared = kept r v x m whole lt
        (λ same. true≢false (sym free ∙ ap (is_free rd homes) same ∙ spared))

    low : (x : ℕ) → x < rd → held x (with_written (write.Register r v) m) ≡ held x m
    low zero lt = stays_zero (write.Register r v) m whole
    low (suc x) lt = left (suc x) (omega (arith, lt, few)) (low_held rd homes (suc x) few (omega arith) lt)

    high : KeepsFrom homes m (with_written (write.Register r v) m)
    high zero at lt = stays_zero (write.Register r v) m whole
    high (suc x) at lt = left (suc x) (omega (arith, lt)) (high_held rd homes (suc x) (omega arith) at lt)

-- ---- bundles

-- the stack and all memories are as they were
record SameMemories (m t : Run) : Type 0 where
  stack : t.stack ≡ m.stack
  st : t.st ≡ m.st
  memory : t.memory ≡ m.memory

calm_effected : (from : Sources) (rd homes : ℕ) (e : Effect) (m : Run) → AsksIn (calm rd homes) e
    → SameMemories m (effected from e m)
calm_effected from rd homes (effect.Store mem.S width address value) m asks = absurd (true≢false (sym asks.1.1))
calm_effected from rd homes (effect.Store _ width address value) m asks = absurd (true≢false (sym asks))
calm_effected from rd homes (effect.StackOp func count) m asks = absurd (true≢false (sym asks))
calm_effected from rd homes _ m asks = record { stack = refl; st = refl; memory = refl }

calm_once : (from : Sources) (rd homes : ℕ) → rd ≤ SPARE → (b : PlainBundle) (m : Run)
    → is_in (calm rd homes) b ≡ true → IsWhole m → Keeps rd homes m (once from b m)
calm_once from rd homes few b m within whole = record {
  whole = after;
  low = low;
  high = high;
  flags = λ p at lt. left (predicate p) lt (grind (arith, at));
  flag = left (register OVERRUN) (omega arith) refl;
  stack = still.stack;
  st = still.st;
  memory = still.memory;
}
  where
    after : IsWhole (once from b m)
    after = once_whole from b m whole

    still : SameMemories m (effected from (effect_of b m.regs) (behind b m))
    still = let e = calm_effected from rd homes (effect_of b m.regs) (behind b m)
        (effect_in (calm rd homes) b m.regs whole.fits.zero within) in
        record { stack = e.stack; st = e.st; memory = e.memory }

    left : (x : Operand) → IsThere x → Spared (calm rd homes) x → Same x m (once from b m)
    left x there spared = spared_once from (calm rd homes) x b m there whole within spared

    low : (x : ℕ) → x < rd → held x (once from b m) ≡ held x m
    low zero lt = after.fits.zero ∙ sym whole.fits.zero
    low (suc x) lt = left (register (suc x)) (omega (arith, lt, few)) (low_held rd homes (suc x) few (omega arith) lt)

    high : KeepsFrom homes m (once from b m)
    high zero at lt = after.fits.zero ∙ sym whole.fits.zero
    high (suc x) at lt = left (register (suc x)) (omega (arith, lt)) (high_held rd homes (suc x) (omega arith) at lt)

-- ---- trails

keeping : (rd homes : ℕ) → Relates IsWhole (Keeps rd homes)
keeping rd homes = record {
  same = keeps_all rd homes;
  then = λ m n t a b. keeps_both a b;
  fit = λ m t whole a. a.whole;
}

pub calm_done : (from : Sources) (rd homes : ℕ) (bs : List PlainBundle) (m : Run) → rd ≤ SPARE → IsWhole m
    → AreIn (calm rd homes) bs → Keeps rd homes m (run from (all_done bs) m)
calm_done from rd homes bs m few whole all =
    run_done from IsWhole (Keeps rd homes) (keeping rd homes) (is_in (calm rd homes)) (calm_once from rd homes few)
    bs all m whole

pub calm_copies : (from : Sources) (rd homes count : ℕ) (bs : List PlainBundle) (m : Run) → rd ≤ SPARE → IsWhole m
    → AreIn (calm rd homes) bs → Keeps rd homes m (run from (copies count (all_done bs)) m)
calm_copies from rd homes count bs m few whole all =
    copied (Leaves from IsWhole (Keeps rd homes)) (relates from IsWhole (Keeps rd homes) (keeping rd homes)) count
    (all_done bs) (λ m whole. calm_done from rd homes bs m few whole all) m whole

pub calm_parts : (from : Sources) (rd homes : ℕ) (f : ℕ → List Step) (ps : PlainParts) (m : Run) → rd ≤ SPARE
    → IsWhole m → IsCalm rd homes ps → Keeps rd homes m (run from (parts_trail f ps) m)
calm_parts from rd homes f ps m few whole all =
    run_parts from IsWhole (Keeps rd homes) (keeping rd homes) (is_in (calm rd homes)) (calm_once from rd homes few) f
    none (λ k called. absurd (true≢false (sym called))) ps all m whole

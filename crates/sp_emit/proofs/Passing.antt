-- What code leaves of the stack after the first words of a frame, and of the registers from one on, whatever its
-- loads give.
use Rattle.std.proofs.Common.{◌≡◌, ℕ, zero, suc, ◌+◌, ◌/◌, ◌<◌, ◌≤◌, ◌==◌, Bool, true, false, ◌&&◌, ◌||◌, List, ◌∷◌, nat_lt, slice_index_or, ◌∙◌, sym, ap, subst, refl, arith, true≢false}
use Rattle.std.specs.Prelude.{nat_le}
use Rattle.std.proofs.lemmas.Bool.{and_parts, leb-true, lt-ltb, ltb-true, le-leb, or_right}
use Rattle.shared_order.specs.Words.{put}
use Rattle.patmos_instr.specs.Bundles.{PlainBundle}
use Rattle.patmos_instr.specs.declared.functions.StackFunc.TheVariants.{Sres, Sfree}
use Rattle.patmos_instr.specs.declared.memories.Mem.TheVariants as mem
use Rattle.patmos_sem.specs.Bundles.{effect_of}
use Rattle.patmos_sem.specs.declared.effects.Effect.{Effect}
use Rattle.patmos_sem.specs.declared.effects.Effect.TheVariants as effect
use Rattle.sp_shape.proofs.Along.{parts_have, Relates, run_done, run_parts}
use Rattle.sp_shape.proofs.Whole.{behind, once_whole, begun_whole}
use Rattle.sp_shape.specs.Parts.{PlainParts}
use Rattle.sp_shape.specs.Run.{Run, Sources, once, effected, run, begun, IsWhole}
use Rattle.sp_shape.specs.Trail.{Step, begins, all_done, parts_trail}
use Rattle.sp_emit.specs.Holding.{held, KeepsFrom}
use Rattle.sp_emit.specs.Means.{KeepsAfter}
use Rattle.sp_emit.specs.declared.registers.TheConstants.{OVERRUN}
use Rattle.sp_emit.proofs.Effects.{Footprint, is_in, AreIn, brings, everything, IsWordOf, AsksIn, effect_in, spared_once}
use Rattle.sp_emit.proofs.Frames.{put_other}
use Rattle.sp_emit.proofs.Untouched.{register}

-- ---- what a bundle may change

-- a register that is none of those from one on, before the flag of loops; register 0 stays 0
abbrev pub is_outside : ℕ → ℕ → Bool
is_outside top r = (r == 0) || (nat_lt r top || nat_le OVERRUN r)

pub outside_low : (top r : ℕ) → r < top → is_outside top r ≡ true
outside_low top r lt = or_right (r == 0) (nat_lt r top || nat_le OVERRUN r) (rw (lt-ltb r top lt) refl)

pub outside_past : (top r : ℕ) → OVERRUN ≤ r → is_outside top r ≡ true
outside_past top r past = or_right (r == 0) (nat_lt r top || nat_le OVERRUN r)
    (or_right (nat_lt r top) (nat_le OVERRUN r) (le-leb OVERRUN r past))

-- no word of the stack but one of the first so many, and no register from one on, before the flag of loops; the top of
-- the stack stays
abbrev pub low : ℕ → ℕ → Footprint
low top count = record everything {
  sets = is_outside top;
  stores = λ word. nat_lt word count;
  stacks = brings;
  zero = refl;
  spare = λ r lt. outside_past top r (omega (arith, lt));
}

-- nothing is pending, and the stack after so many words and the registers from one on are as they were
pub record Passes (top count : ℕ) (m t : Run) : Type 0 where
  pub whole : IsWhole t
  pub keeps : KeepsAfter top count m t

high_spared : (top r : ℕ) → 1 ≤ r → top ≤ r → r < OVERRUN → is_outside top r ≡ false
high_spared top r some from few = grind (arith, some, from, few)

high_once : (from : Sources) (top count : ℕ) (b : PlainBundle) (m : Run) → IsWhole m → is_in (low top count) b ≡ true
    → KeepsFrom top m (once from b m)
high_once from top count b m whole within = by
  where
    by : (r : ℕ) → top ≤ r → r < OVERRUN → held r (once from b m) ≡ held r m
    by zero at lt = (once_whole from b m whole).fits.zero ∙ sym whole.fits.zero
    by (suc r) at lt = spared_once from (low top count) (register (suc r)) b m (omega (arith, lt)) whole within
        (high_spared top (suc r) (omega arith) at lt)

-- ---- the stack

-- a later state has the words of the stack after so many of the frame as they were
record KeepsStack (count : ℕ) (m t : Run) : Type 0 where
  st : t.st ≡ m.st
  stack : (a : ℕ) → m.st + count ≤ a → t.stack a ≡ m.stack a

stays : (count : ℕ) (m t : Run) → t.st ≡ m.st → t.stack ≡ m.stack → KeepsStack count m t
stays count m t st stack = record { st = st; stack = λ a above. ap (λ words. words a) stack }

slot_stored : (count address value : ℕ) (m : Run) → count ≤ 128 → IsWordOf (λ word. nat_lt word count) address
    → (a : ℕ) → m.st + count ≤ a → put (m.st + address / 4) value m.stack a ≡ m.stack a
slot_stored count address value m few w a above =
    let lt = ltb-true w.0 count w.1 in
    let slot : address / 4 ≡ w.0 = omega (arith, w.2, lt, few) in
    put_other (m.st + address / 4) a value m.stack (λ same. absurd (omega (arith, same, slot, lt, above)))

passes_effected : (from : Sources) (top count : ℕ) (e : Effect) (m : Run) → count ≤ 128 → AsksIn (low top count) e
    → KeepsStack count m (effected from e m)
passes_effected from top count (effect.Store mem.S width address value) m few asks =
    record { st = refl; stack = slot_stored count address _ m few asks.1 }
passes_effected from top count (effect.Store _ width address value) m few asks = stays count m _ refl refl
passes_effected from top count (effect.StackOp Sres n) m few asks = absurd (true≢false (sym asks))
passes_effected from top count (effect.StackOp Sfree n) m few asks = absurd (true≢false (sym asks))
passes_effected from top count _ m few asks = stays count m _ refl refl

passes_once : (from : Sources) (top count : ℕ) → count ≤ 128 → (b : PlainBundle) (m : Run)
    → is_in (low top count) b ≡ true → IsWhole m → Passes top count m (once from b m)
passes_once from top count few b m within whole =
    let k = passes_effected from top count (effect_of b m.regs) (behind b m) few
    (effect_in (low top count) b m.regs whole.fits.zero within) in
    record {
      whole = once_whole from b m whole;
      keeps = record {
        st = k.st;
        stack = k.stack;
        high = high_once from top count b m whole within;
      };
    }

-- ---- trails

pub kept_all : (top count : ℕ) (m : Run) → KeepsAfter top count m m
kept_all top count m = record { st = refl; stack = λ a above. refl; high = λ r at lt. refl }

pub passes_all : (top count : ℕ) (m : Run) → IsWhole m → Passes top count m m
passes_all top count m whole = record { whole = whole; keeps = kept_all top count m }

pub keeps_then : {top count : ℕ} {m n t : Run} → KeepsAfter top count m n → KeepsAfter top count n t
    → KeepsAfter top count m t
keeps_then {top} {count} {m} {n} {t} a b = record {
  st = b.st ∙ a.st;
  stack = λ at above. b.stack at (subst (λ st. st + count ≤ at) (sym a.st) above) ∙ a.stack at above;
  high = λ r at lt. b.high r at lt ∙ a.high r at lt;
}

pub passes_then : {top count : ℕ} {m n t : Run} → Passes top count m n → Passes top count n t → Passes top count m t
passes_then a b = record { whole = b.whole; keeps = keeps_then a.keeps b.keeps }

pub passes_more : {top more_top count more : ℕ} {m t : Run} → top ≤ more_top → count ≤ more → Passes top count m t
    → Passes more_top more m t
passes_more higher le a = record {
  whole = a.whole;
  keeps = record {
    st = a.keeps.st;
    stack = λ at above. a.keeps.stack at (omega (arith, above, le));
    high = λ r from lt.
        a.keeps.high r (omega (arith, from, higher)) lt;
  };
}

-- a state with so much room on its stack
abbrev pub Ready : ℕ → Run → Type 0
Ready low m = IsWhole m × (low ≤ m.st)

pub ready_still : {top count least : ℕ} {m t : Run} → Ready least m → Passes top count m t → Ready least t
ready_still {m = m} r p = (p.whole, omega (arith, r.1, p.keeps.st))

passing : (top count least : ℕ) → Relates (Ready least) (Passes top count)
passing top count least = record {
  same = λ m ready. passes_all top count m ready.0;
  then = λ m n t a b. passes_then a b;
  fit = λ m t ready a. ready_still ready a;
}

pub passes_done : (from : Sources) (top count : ℕ) (bs : List PlainBundle) (m : Run) → count ≤ 128 → IsWhole m
    → AreIn (low top count) bs → Passes top count m (run from (all_done bs) m)
passes_done from top count bs m few whole all =
    run_done from (Ready 0) (Passes top count) (passing top count 0) (is_in (low top count))
    (λ b m within ready. passes_once from top count few b m within ready.0) bs all m (whole, omega arith)

-- functions that leave the whole stack, and the registers after their windows, as they were, where there is so much
-- room
pub record AllPass (from : Sources) (f : ℕ → List Step) (tops : List ℕ) (number low : ℕ) : Type 0 where
  pub called : (k : ℕ) → k < number → (m : Run) → Ready low m
      → Passes (slice_index_or tops k 0) 0 m (run from (f k) m)

-- earlier functions whose windows end before a register
abbrev pub may_pass : List ℕ → ℕ → ℕ → ℕ → Bool
may_pass tops number top k = nat_lt k number && nat_le (slice_index_or tops k 0) top

abbrev pub Low : List ℕ → ℕ → ℕ → ℕ → PlainParts → Type 0
Low tops number top count ps = parts_have (is_in (low top count)) (may_pass tops number top) ps ≡ true

-- where a function begins
pub passes_begun : (top count : ℕ) (m : Run) → IsWhole m → Passes top count m (begun m)
passes_begun top count m whole = record {
  whole = begun_whole m whole;
  keeps = record {
    st = refl;
    stack = λ a above.
        refl;
    high = λ r at lt. refl;
  };
}

passes_called : (from : Sources) (f : ℕ → List Step) (tops : List ℕ) (number least top count : ℕ)
    → AllPass from f tops number least → (k : ℕ) → may_pass tops number top k ≡ true → (m : Run) → Ready least m
    → Passes top count m (run from (begins ∷ f k) m)
passes_called from f tops number least top count others k may m ready =
    let both = and_parts (nat_lt k number) (nat_le (slice_index_or tops k 0) top) may in
    let first = passes_begun top count m ready.0 in
    passes_then first (passes_more (leb-true (slice_index_or tops k 0) top both.1) (omega arith)
    (others.called k (ltb-true k number both.0) (begun m) (ready_still ready first)))

pub passes_parts : (from : Sources) (f : ℕ → List Step) (tops : List ℕ) (number least top count : ℕ) → count ≤ 128
    → AllPass from f tops number least → (ps : PlainParts) → Low tops number top count ps → (m : Run) → Ready least m
    → Passes top count m (run from (parts_trail f ps) m)
passes_parts from f tops number least top count few others ps all m ready =
    run_parts from (Ready least) (Passes top count) (passing top count least) (is_in (low top count))
    (λ b m within ready. passes_once from top count few b m within ready.0) f (may_pass tops number top)
    (passes_called from f tops number least top count others) ps all m ready

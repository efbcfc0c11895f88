-- What code asks for lies within its frame, and so within the stack, whatever its loads give.
use Rattle.std.proofs.Common.{◌≡◌, ℕ, ◌+◌, ◌/◌, ◌<◌, ◌≤◌, Bool, true, false, true≢false, nat_lt, List, [], ◌∷◌, ◌++◌, append-nil, refl, sym, ap, ◌∙◌, subst, arith}
use Rattle.std.proofs.lemmas.Bool.{ltb-true}
use Rattle.std.proofs.lemmas.List.{append_assoc}
use Rattle.patmos_instr.specs.Bundles.{PlainBundle}
use Rattle.patmos_instr.specs.declared.memories.Mem.TheVariants as mem
use Rattle.patmos_sem.specs.Bundles.{effect_of}
use Rattle.patmos_sem.specs.declared.effects.Effect.{Effect}
use Rattle.patmos_sem.specs.declared.effects.Effect.TheVariants as effect
use Rattle.sp_shape.proofs.Along.{Composes, Relates, Leaves, relates, run_done}
use Rattle.sp_shape.proofs.Whole.{behind, once_whole}
use Rattle.sp_shape.specs.Pointers.{Pointers, pointers_of, moved, moved_by, IsWithinStack, AreWithinStack}
use Rattle.sp_shape.specs.Run.{Run, IsWhole, Sources, once, effected, run}
use Rattle.sp_shape.specs.Trail.{Step, all_done}
use Rattle.sp_emit.proofs.Effects.{Footprint, is_in, AreIn, everything, IsWordOf, AsksIn, effect_in}

-- ---- what is asked for more lies within the stack

pub record Points (m t : Run) : Type 0 where
  pub news : List Effect
  pub is : t.asked ≡ m.asked ++ news
  pub within : AreWithinStack news (pointers_of m)
  pub pointers : moved_by news (pointers_of m) ≡ pointers_of t

within_append : (xs ys : List Effect) (p : Pointers) → AreWithinStack xs p → AreWithinStack ys (moved_by xs p)
    → AreWithinStack (xs ++ ys) p
within_append [] ys p a b = b
within_append (x ∷ xs) ys p a b = (a.0, within_append xs ys (moved x p) a.1 b)

moved_append : (xs ys : List Effect) (p : Pointers) → moved_by (xs ++ ys) p ≡ moved_by ys (moved_by xs p)
moved_append [] ys p = refl
moved_append (x ∷ xs) ys p = moved_append xs ys (moved x p)

pub points_then : {m n t : Run} → Points m n → Points n t → Points m t
points_then {m} {n} {t} a b = record {
  news = a.news ++ b.news;
  is = b.is ∙ ap (λ l. l ++ b.news) a.is ∙ append_assoc m.asked a.news b.news;
  within = within_append a.news b.news (pointers_of m) a.within (subst (AreWithinStack b.news)
      (sym a.pointers) b.within);
  pointers = moved_append a.news b.news (pointers_of m) ∙ ap (moved_by b.news) a.pointers ∙ b.pointers;
}

pub points_none : (m t : Run) → t.asked ≡ m.asked → pointers_of m ≡ pointers_of t → Points m t
points_none m t asked same = record { news = []; is = asked ∙ sym (append-nil m.asked); within = tt; pointers = same }

pub points_one : (e : Effect) (m t : Run) → t.asked ≡ m.asked ++ e ∷ [] → IsWithinStack e (pointers_of m)
    → moved e (pointers_of m) ≡ pointers_of t → Points m t
points_one e m t is within same = record { news = e ∷ []; is = is; within = (within, tt); pointers = same }

-- ---- bundles that reach the first words of a frame alone

abbrev below : ℕ → ℕ → Bool
below frame word = nat_lt word frame

abbrev pub inside : ℕ → Footprint
inside frame = record everything { reads = below frame; stores = below frame; stacks = λ func count. false }

-- a frame is taken: it lies in the stack's region, and the stack cache holds it
pub record Framed (frame : ℕ) (m : Run) : Type 0 where
  pub whole : IsWhole m
  pub few : frame ≤ 128
  pub high : m.st + frame ≤ 65536
  pub held : m.st + frame ≤ m.ss

-- it still is
pub record Stays (frame : ℕ) (m t : Run) : Type 0 where
  pub points : Points m t
  pub framed : Framed frame t
  pub st : t.st ≡ m.st

pub stays_then : {frame : ℕ} {m n t : Run} → Stays frame m n → Stays frame n t → Stays frame m t
stays_then a b = record { points = points_then a.points b.points; framed = b.framed; st = b.st ∙ a.st }

pub stays_all : (frame : ℕ) (m : Run) → Framed frame m → Stays frame m m
stays_all frame m framed = record { points = points_none m m refl refl; framed = framed; st = refl }

-- an access of the frame
slot_within : (frame address : ℕ) (m : Run) → frame ≤ 128 → m.st + frame ≤ m.ss → IsWordOf (below frame) address
    → m.st + address / 4 < m.ss
slot_within frame address m few held w =
    let lt = ltb-true w.0 frame w.1 in
    let slot : address / 4 ≡ w.0 = omega (arith, w.2, lt, few) in
    omega (arith, slot, lt, held)

inside_asked : (from : Sources) (frame : ℕ) (e : Effect) (m : Run) → frame ≤ 128 → m.st + frame ≤ m.ss
    → AsksIn (inside frame) e → Points m (effected from e m)
inside_asked from frame (effect.Load mem.S width rd address) m few held asks = points_one
    (effect.Load mem.S width rd address) m _ refl (slot_within frame address m few held asks.1) refl
inside_asked from frame (effect.Load _ width rd address) m few held asks =
    points_one (effect.Load _ width rd address) m _ refl tt refl
inside_asked from frame (effect.Store mem.S width address value) m few held asks = points_one
    (effect.Store mem.S width address value) m _ refl (slot_within frame address m few held asks.1) refl
inside_asked from frame (effect.Store _ width address value) m few held asks =
    points_one (effect.Store _ width address value) m _ refl tt refl
inside_asked from frame (effect.StackOp func count) m few held asks = absurd (true≢false (sym asks))
inside_asked from frame _ m few held asks = points_none m _ refl refl

-- such a bundle moves no pointer
same_pointers : (from : Sources) (frame : ℕ) (e : Effect) (m : Run) → AsksIn (inside frame) e
    → pointers_of (effected from e m) ≡ pointers_of m
same_pointers from frame (effect.StackOp func count) m asks = absurd (true≢false (sym asks))
same_pointers from frame (effect.Store mem.S width address value) m asks = refl
same_pointers from frame (effect.Store _ width address value) m asks = refl
same_pointers from frame _ m asks = refl

framed_as : (frame : ℕ) (m t : Run) → Framed frame m → IsWhole t → pointers_of t ≡ pointers_of m → Framed frame t
framed_as frame m t framed whole same =
    record {
      whole = whole;
      few = framed.few;
      high = subst (λ p. p.st + frame ≤ 65536) (sym same) framed.high;
      held = subst (λ p. p.st + frame ≤ p.ss) (sym same) framed.held;
    }

inside_once : (from : Sources) (frame : ℕ) (b : PlainBundle) (m : Run) → is_in (inside frame) b ≡ true
    → Framed frame m → Stays frame m (once from b m)
inside_once from frame b m within framed =
    let asks = effect_in (inside frame) b m.regs framed.whole.fits.zero within in
    let p = inside_asked from frame (effect_of b m.regs) (behind b m) framed.few framed.held asks in
    let same = same_pointers from frame (effect_of b m.regs) (behind b m) asks in
    record {
      points = record { news = p.news; is = p.is; within = p.within; pointers = p.pointers };
      framed = framed_as frame m (once from b m) framed (once_whole from b m framed.whole) same;
      st = ap (λ p. p.st) same;
    }

-- ---- trails, where so many words are left

abbrev pub HasLeft : ℕ → ℕ → Run → Type 0
HasLeft frame low m = Framed frame m × (low ≤ m.st)

abbrev pub StaysFrom : Sources → ℕ → ℕ → List Step → Type 0
StaysFrom from frame low steps = Leaves from (HasLeft frame low) (Stays frame) steps

staying : (frame low : ℕ) → Relates (HasLeft frame low) (Stays frame)
staying frame low = record {
  same = λ m left. stays_all frame m left.0;
  then = λ m n t a b. stays_then a b;
  fit = λ m t left a. (a.framed, omega (arith, left.1, a.st));
}

pub stays_compose : (from : Sources) (frame low : ℕ) → Composes (StaysFrom from frame low)
stays_compose from frame low = relates from (HasLeft frame low) (Stays frame) (staying frame low)

pub inside_done : (from : Sources) (frame : ℕ) (bs : List PlainBundle) (m : Run) → Framed frame m
    → AreIn (inside frame) bs → Stays frame m (run from (all_done bs) m)
inside_done from frame bs m framed all =
    run_done from (HasLeft frame 0) (Stays frame) (staying frame 0) (is_in (inside frame))
    (λ b m within left. inside_once from frame b m within left.0) bs all m (framed, omega arith)

-- A core goes by itself from one cycle to another, one stretch after another.
use Rattle.std.proofs.Common.{◌≡◌, ℕ, zero, suc, ◌+◌, ◌-◌, ◌<◌, ◌≤◌, refl, sym, ◌∙◌, subst, add-suc, arith}
use Rattle.patmos_model.specs.State.{History, Core}
use Rattle.patmos_model.specs.Cells.{now}
use Rattle.patmos_model.specs.Cycle.{own}
use Rattle.patmos_step.specs.declared.body.Body.{Body}
use Rattle.patmos_step.specs.Ready.{CanGoOn}
use Rattle.patmos_step.specs.Shown.{Shows, KeepsInterface, OnlyPlain, core_of}
use Rattle.patmos_alone.specs.Alone.{IsAlone, DoesAlone, ComesAlone, GoesAlone}

pub keeps_both : (a b c : Body) → KeepsInterface a b → KeepsInterface b c → KeepsInterface a c
keeps_both a b c first second = record {
  ni = second.ni ∙ first.ni;
  frame = record { place = second.frame.place ∙ first.frame.place; room = second.frame.room ∙ first.frame.room };
}

pub only_both : (a b c : Body) → OnlyPlain a b → OnlyPlain b c → OnlyPlain a c
only_both a b c first second = record {
  shows = λ h shown. second.shows h (first.shows h shown);
  keeps = keeps_both a b c first.keeps second.keeps;
}

keeps_none : (b : Body) → KeepsInterface b b
keeps_none b = record { ni = refl; frame = record { place = refl; room = refl } }

-- cycles in which a core does nothing
waits_alone : (from later : ℕ) (b : Body) (h : History) → Shows b h → ((u : ℕ) → from ≤ u → u < later
    → own u (core_of b h) ≡ now (core_of b h))
    → ComesAlone from later (core_of b h) b
waits_alone from later b h shows asleep =
    record { seen = h; shows = shows; alone = λ count to. by count (omega (arith, to)) }
  where
    by : (count : ℕ) → from + count ≤ later → DoesAlone from count (core_of b h) (core_of b h)
    by zero within = refl
    by (suc count) within = (
      core_of b h,
      by count (omega (arith, within)),
      record { act = asleep (from + count) (omega arith) (omega (arith, within)); interface = refl },
    )

-- one stretch after another
joined : (from n m to : ℕ) (c d e : Core) → from + n ≡ to → DoesAlone from n c d → DoesAlone to m d e
    → DoesAlone from (n + m) c e
joined from n zero to c d e here first second =
    subst (λ k. DoesAlone from k c e) (omega arith) (subst (DoesAlone from n c) second first)
joined from n (suc m) to c d e here first second =
    let at : to + m ≡ from + (n + m) = omega (arith, here) in
    subst (λ k. DoesAlone from k c e) (sym (add-suc n m))
    (second.0, joined from n m to c d second.0 here first second.1, subst (λ q. IsAlone q second.0 e) at second.2)

comes_on : (from to later : ℕ) (c : Core) (b last : Body) → (before : ComesAlone from to c b)
    → ComesAlone to later (core_of b before.seen) last
    → from ≤ to → to ≤ later → ComesAlone from later c last
comes_on from to later c b last before after first second = record {
  seen = after.seen;
  shows = after.shows;
  alone = λ count at.
      let n : from + (to - from) ≡ to = omega (arith, first) in
      let m : to + (later - to) ≡ later = omega (arith, second) in
      let whole : (to - from) + (later - to) ≡ count = omega (arith, at, first, second) in
      subst (λ k. DoesAlone from k c (core_of last after.seen)) whole
      (joined from (to - from) (later - to) to c (core_of b before.seen) (core_of last after.seen) n
      (before.alone (to - from) n) (after.alone (later - to) m));
}

-- a stretch of one cycle
one_alone : (cycle : ℕ) (c : Core) (last : Body) (h : History) → Shows last h → IsAlone cycle c (core_of last h)
    → ComesAlone cycle (cycle + 1) c last
one_alone cycle c last h shows alone = record { seen = h; shows = shows; alone = by }
  where
    by : (count : ℕ) → cycle + count ≡ cycle + 1 → DoesAlone cycle count c (core_of last h)
    by zero at = absurd (omega (arith, at))
    by (suc zero) at = (c, refl, subst (λ q. IsAlone q c (core_of last h)) (omega arith) alone)
    by (suc (suc count)) at = absurd (omega (arith, at))

-- cycles in which the core does nothing
pub waits : (from to : ℕ) (b : Body) → CanGoOn b → from ≤ to
    → ((h : History) (u : ℕ) → from ≤ u → u < to → own u (core_of b h) ≡ now (core_of b h))
    → GoesAlone from to b b
waits from to b can ahead asleep = record {
  ahead = ahead;
  alone = λ h shows. waits_alone from to b h shows (asleep h);
  can = can;
  keeps = keeps_none b;
}

-- one stretch after another
pub goes_on : (from to later : ℕ) (a b c : Body) → GoesAlone from to a b → GoesAlone to later b c
    → GoesAlone from later a c
goes_on from to later a b c first second = record {
  ahead = omega (arith, first.ahead, second.ahead);
  alone = λ h shows.
      let before : ComesAlone from to (core_of a h) b = first.alone h shows in
      comes_on from to later (core_of a h) b c before (second.alone before.seen before.shows) first.ahead second.ahead;
  can = second.can;
  keeps = keeps_both a b c first.keeps second.keeps;
}

-- a stretch of one cycle, after which the core has this history
pub goes_one : (cycle : ℕ) (b last : Body) (after : History → History)
    → ((h : History) → IsAlone cycle (core_of b h) (core_of last (after h)))
    → ((h : History) → Shows b h → Shows last (after h)) → CanGoOn last → KeepsInterface b last
    → GoesAlone cycle (cycle + 1) b last
goes_one cycle b last after does shows can keeps = record {
  ahead = omega arith;
  alone = λ h shown. one_alone cycle (core_of b h) last (after h) (shows h shown) (does h);
  can = can;
  keeps = keeps;
}

-- one that changes no more than the plain part of its state
pub goes_by : (cycle : ℕ) (b last : Body) → ((h : History) → IsAlone cycle (core_of b h) (core_of last h))
    → CanGoOn last → OnlyPlain b last → GoesAlone cycle (cycle + 1) b last
goes_by cycle b last does can only = goes_one cycle b last (λ h. h) does only.shows can only.keeps

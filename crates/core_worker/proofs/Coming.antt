-- What comes next in a core's run apart, and so in the course's list of it.
use Rattle.std.proofs.Common.{◌≡◌, ℕ, zero, suc, ◌+◌, ◌*◌, ◌<◌, ◌≤◌, List, [], ◌++◌, length, take, sym, ap, ◌∙◌, subst, append_assoc, append-nil, ◌-◌, arith}
use Rattle.std.specs.List.{AllByRecursion as Each}
use Rattle.std.proofs.Math.Nat.{mul-le-mul_right}
use Rattle.std.proofs.lemmas.List.{length-take, append_cancel_left}
use Rattle.slot_arbiter.specs.Stamp.{stamp}
use Rattle.slot_arbiter.specs.declared.event.Event.{Event}
use Rattle.slot_arbiter.specs.declared.place.Place.{Place}
use Rattle.shared_order.specs.declared.operation.Operation.{Operation}
use Rattle.shared_order.specs.Operation.{loads}
use Rattle.shared_order.specs.Order.{GoesOn}
use Rattle.shared_order.specs.Program.{Prog, Fed, fed}
use Rattle.shared_order.specs.Event.{asked_by}
use Rattle.shared_order.specs.Apart.{Alone, turn_apart, apart}
use Rattle.shared_order.proofs.Lists.{loads-append, each_map, each-append}
use Rattle.shared_order.proofs.Runs.{stamps_fed}
use Rattle.patmos_model.specs.State.{Core}
use Rattle.patmos_model.specs.Cycle.{turn}
use Rattle.patmos_model.specs.Apart.{apart_from}
use Rattle.patmos_core.specs.Position.{IsNextOf, IsWholeOf, HasMadeAll, EventFits}
use Rattle.core_worker.specs.Runs.{Makes, IsNextWhole}
use Rattle.core_worker.specs.Pieces.{stamp_from}
use Rattle.shared_order.proofs.Events.{stamps_filled, first_at}

-- ---- stamps of cycles

-- they rise with the cycles
pub stamps_rise : (n a b : ℕ) → a ≤ b → stamp_from n a ≤ stamp_from n b
stamps_rise n a b h = let twice : 2 * a ≤ 2 * b = omega (arith, h) in mul-le-mul_right n twice

-- an act is not before its cycle
act_late : (n core t u phase : ℕ) → t ≤ u → stamp_from n t ≤ stamp n core u phase
act_late n core t u phase h =
    let twice : 2 * t ≤ 2 * u + phase = omega (arith, h) in
    let k : 2 * t * n ≤ (2 * u + phase) * n = mul-le-mul_right n twice in
    omega (arith, k)

-- ---- a run apart goes on

module _ {X : Type 0} (turn : ℕ → ℕ → X → Prog X) (n core : ℕ) where
  -- one turn more
  turn_grows : (cycle phase s : ℕ) (a : Alone X) (before : List Operation) → s ≤ stamp n core cycle phase
      → GoesOn s before a.made → GoesOn s before (turn_apart turn n cycle phase core a).made
  turn_grows cycle phase s a before low h =
      let at : ℕ = stamp n core cycle phase in
      let p : Fed X = fed at (turn phase cycle a.core) a.left in
      record {
        later = h.later ++ p.ops;
        whole = ap (λ l. l ++ p.ops) h.whole ∙ append_assoc before h.later p.ops;
        from = each-append (λ o. s ≤ o.stamp) h.later p.ops h.from
            (each_map (λ o. o.stamp ≡ at) (λ o. s ≤ o.stamp) (λ o e. omega (arith, e, low)) p.ops
            (stamps_fed at (turn phase cycle a.core) a.left));
      }

  -- some cycles more
  pub apart_grows : (x : X) (values : List ℕ) (t d : ℕ) → GoesOn (stamp_from n t) (apart turn n core x values t).made
      (apart turn n core x values (t + d)).made
  apart_grows x values t zero =
      let same : t + 0 ≡ t = omega arith in
      record {
        later = [];
        whole = ap (λ u. (apart turn n core x values u).made) same
            ∙ sym (append-nil (apart turn n core x values t).made);
        from = tt;
      }
  apart_grows x values t (suc d) =
      let next : suc (t + d) ≡ t + suc d = omega arith in
      let a : Alone X = apart turn n core x values (t + d) in
      let before : List Operation = (apart turn n core x values t).made in
      subst (λ u. GoesOn (stamp_from n t) before (apart turn n core x values u).made) next
      (turn_grows (t + d) 1 (stamp_from n t) (turn_apart turn n (t + d) 0 core a) before
      (act_late n core t (t + d) 1 (omega arith))
      (turn_grows (t + d) 0 (stamp_from n t) a before (act_late n core t (t + d) 0 (omega arith))
      (apart_grows x values t d)))

  -- up to a later cycle
  pub apart_later : (x : X) (values : List ℕ) (t u : ℕ) → t ≤ u
      → GoesOn (stamp_from n t) (apart turn n core x values t).made (apart turn n core x values u).made
  apart_later x values t u h =
      let there : t + (u - t) ≡ u = omega (arith, h) in
      subst (λ v. GoesOn (stamp_from n t) (apart turn n core x values t).made (apart turn n core x values v).made) there
      (apart_grows x values t (u - t))

-- what goes on from some operations goes on as well once there are more
goes_further : (s u : ℕ) (made all more : List Operation) → s ≤ u → GoesOn s made all → GoesOn u all more
    → GoesOn s made more
goes_further s u made all more h one two = record {
  later = one.later ++ two.later;
  whole = two.whole ∙ ap (λ l. l ++ two.later) one.whole ∙ append_assoc made one.later two.later;
  from = each-append (λ o. s ≤ o.stamp) one.later two.later one.from (each_map (λ o. u ≤ o.stamp) (λ o. s ≤ o.stamp)
      (λ o k. omega (arith, k, h)) two.later two.from);
}

-- what is next before the end of a piece is next before the limit
next_of_limit : (x : Core) (made : List Operation) (end limit : ℕ) (e : Event) → end ≤ limit
    → e.stamp < stamp_from x.plain.site.cores end → IsNextOf x made end e → IsNextOf x made limit e
next_of_limit x made end limit e within below next = λ more.
    goes_further e.stamp (stamp_from x.plain.site.cores end) (made ++ asked_by e more)
    (apart_from x (loads made ++ more) end).made (apart_from x (loads made ++ more) limit).made
    (omega (arith, below)) (next more) (apart_later turn x.plain.site.cores x.plain.site.core x (loads made ++ more)
    end limit within)

-- and what is whole before the end of the piece is whole before the limit
whole_of_limit : (x : Core) (made : List Operation) (end limit : ℕ) (e : Event) → end ≤ limit
    → e.stamp < stamp_from x.plain.site.cores end → IsWholeOf x made end e → IsWholeOf x made limit e
whole_of_limit x made end limit e within below whole = λ more. record {
  rest = (whole more).rest;
  left = (whole more).left;
  goes_on = goes_further (suc e.stamp) (stamp_from x.plain.site.cores end)
      (made ++ (asked_by e more ++ (whole more).rest)) (apart_from x (loads made ++ more) end).made
      (apart_from x (loads made ++ more) limit).made
      (omega (arith, below)) (whole more).goes_on (apart_later turn x.plain.site.cores x.plain.site.core x
      (loads made ++ more) end limit within);
}

-- so that both hold there
pub next_whole : (x : Core) (made : List Operation) (end limit : ℕ) (e : Event) → end ≤ limit
    → e.stamp < stamp_from x.plain.site.cores end → IsNextOf x made end e → IsWholeOf x made end e
    → IsNextWhole x made limit e
next_whole x made end limit e within below next whole =
    record {
      next = next_of_limit x made end limit e within below next;
      whole = whole_of_limit x made end limit e
          within below whole;
    }

-- and it fits there
pub fits_limit : (place : Place) (end limit : ℕ) (e : Event) → end ≤ limit → EventFits place end e
    → EventFits place limit e
fits_limit place end limit e within fits =
    let k : stamp_from place.cores end ≤ stamp_from place.cores limit = stamps_rise place.cores end limit within in
    record {
      core = fits.core;
      below = omega (arith, fits.below, k);
      some = fits.some;
      words = fits.words;
      unread = fits.unread;
      loads_first = fits.loads_first;
    }

-- ---- in a list that is made and then left

module _ (x : Core) (made left list : List Operation) (limit : ℕ) (makes : Makes x list limit)
    (whole : list ≡ made ++ left) where
  -- its run apart on the list's own values
  makes_whole : (apart_from x (loads made ++ loads left) limit).made ≡ made ++ left
  makes_whole = ap (λ l. (apart_from x l limit).made) (sym (loads-append made left))
      ∙ ap (λ l. (apart_from x (loads l) limit).made) (sym whole) ∙ makes ∙ whole

  -- what comes next in the run is what is left first
  pub comes_first : (e : Event) → IsNextOf x made limit e → GoesOn e.stamp (asked_by e (loads left)) left
  comes_first e next =
      let h : GoesOn e.stamp (made ++ asked_by e (loads left)) (apart_from x (loads made ++ loads left) limit).made =
      next (loads left) in
      record {
        later = h.later;
        whole = append_cancel_left made left (asked_by e (loads left) ++ h.later) (sym makes_whole ∙ h.whole
            ∙ append_assoc made (asked_by e (loads left)) h.later);
        from = h.from;
      }

  -- so nothing that is left is before it
  pub none_before : (e : Event) → IsNextOf x made limit e → Each (λ o. e.stamp ≤ o.stamp) left
  none_before e next =
      let h = comes_first e next in
      subst (Each (λ o. e.stamp ≤ o.stamp)) (sym h.whole)
      (each-append (λ o. e.stamp ≤ o.stamp) (asked_by e (loads left)) h.later (each_map (λ o. o.stamp ≡ e.stamp)
      (λ o. e.stamp ≤ o.stamp) (λ o k. omega (arith, k)) (asked_by e (loads left))
      (stamps_filled e.stamp (take e.count e.ops) (loads left))) h.from)

  -- and it is not before what nothing left is before
  pub not_before : (s : ℕ) (e : Event) → IsNextOf x made limit e → 1 ≤ e.count → length e.ops ≡ 8
      → Each (λ o. s ≤ o.stamp) left → s ≤ e.stamp
  not_before s e next some sized low =
      let h = comes_first e next in
      let any : 0 < length (take e.count e.ops) = omega (arith, length-take e.count e.ops, sized, some) in
      first_at s e.stamp (take e.count e.ops) (loads left) h.later any (subst (Each (λ o. s ≤ o.stamp)) h.whole low)

  -- where all that comes before a cycle is made, what is left is not before it
  pub all_late : (end : ℕ) → end ≤ limit → HasMadeAll x made end → Each (λ o. stamp_from x.plain.site.cores end
      ≤ o.stamp) left
  all_late end within all =
      let far : GoesOn (stamp_from x.plain.site.cores end) (apart_from x (loads made ++ loads left) end).made
      (apart_from x (loads made ++ loads left) limit).made =
      apart_later turn x.plain.site.cores x.plain.site.core x (loads made ++ loads left) end limit within in
      subst (Each (λ o. stamp_from x.plain.site.cores end ≤ o.stamp))
      (sym (append_cancel_left made left far.later (sym makes_whole ∙ far.whole
      ∙ ap (λ a. a.made ++ far.later) (all (loads left))))) far.from

  -- and at the limit nothing is left
  pub none_left : HasMadeAll x made limit → left ≡ []
  none_left all =
      append_cancel_left made left [] (sym makes_whole ∙ ap (λ a. a.made) (all (loads left)) ∙ sym (append-nil made))

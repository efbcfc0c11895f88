-- A worker's pieces: its core was asked what it does up to the end of the next piece.
use Rattle.std.proofs.Common.{◌≡◌, ℕ, ◌*◌, ◌%◌, ◌<◌, ◌≤◌, Bool, false, true≢false, nat_eq, eqb-true, List, [], ◌∷◌, ◌++◌, length, None, Some, IfSome, is_some, refl, sym, ap, ◌∙◌, subst, append-nil, inl, inr, arith}
use Rattle.std.specs.List.{AllByRecursion as Each, Contains}
use Rattle.std.proofs.lemmas.Bool.{cases_lt}
use Rattle.std.proofs.lemmas.List.Elements.{Contains-append_left, Contains-append_right}
use Rattle.slot_arbiter.specs.declared.event.Event.{Event}
use Rattle.shared_order.specs.declared.operation.Operation.{Operation}
use Rattle.clock_board.specs.declared.known.View.{View}
use Rattle.clock_board.specs.Record.{clock_of, with_stamp}
use Rattle.clock_board.specs.View.{own, todo, given, IsGiven}
use Rattle.clock_board.proofs.Steps.{clock-push}
use Rattle.patmos_core.specs.declared.cpu.Core.{Core as Cpu}
use Rattle.patmos_model.specs.State.{Core}
use Rattle.patmos_core.specs.Position.{StandsFor, waiting_of, place_of, IsNextOf, IsWholeOf, HasMadeAll, EventFits, ComesTo}
use Rattle.patmos_core.proofs.Sites.{sited}
use Rattle.core_worker.specs.Runs.{listed, RunsAs, GoesOnAs, IsNextWhole}
use Rattle.core_worker.specs.Pieces.{piece_end, stamp_from}
use Rattle.core_worker.specs.Kept.{IsShown, HasEnded, IsKept}
use Rattle.core_worker.proofs.Coming.{stamps_rise, next_whole, fits_limit, none_before, not_before, all_late, none_left}

module _ (limit reached : ℕ) (ended : Bool) (k k' : Cpu) (v : View) (kept : IsKept limit reached ended k v)
    (end : ℕ) (is : end ≡ piece_end limit reached) (comes : ComesTo k k' end) where
  -- a piece ends within the limit
  end_within : end ≤ limit
  end_within = omega (arith, is)

  -- a pass is a core's, whatever it publishes
  still_given : (s : ℕ) → IsGiven (given v (with_stamp (own v) s))
  still_given s = record { role = refl; among = kept.given.among; whole = kept.given.whole }

  -- the clock once a stamp is published that nothing left is before
  left_from : (s : ℕ) → Each (λ o. s ≤ o.stamp) (todo v) → Each (λ o. clock_of ((own v).published ++ s ∷ [])
      ≤ o.stamp) (todo v)
  left_from s h = subst (λ c. Each (λ o. c ≤ o.stamp) (todo v)) (sym (clock-push (own v).published s)) h

  -- ---- it has an event there

  module _ (e : Event) (waits : waiting_of k' ≡ Some e) (sized : length e.ops ≡ 8) where
    -- it fits, comes next, and is whole
    fits : EventFits (place_of k) end e
    fits = subst (λ w. IfSome w (EventFits (place_of k) end)) waits comes.fits

    next : (x : Core) (made : List Operation) → StandsFor k x made → IsNextOf x made end e
    next = subst (λ w. IfSome w (λ f. (x : Core) (made : List Operation) → StandsFor k x made → IsNextOf x made end f))
        waits comes.event

    whole : (x : Core) (made : List Operation) → StandsFor k x made → IsWholeOf x made end e
    whole = subst (λ w. IfSome w (λ f. (x : Core) (made : List Operation) → StandsFor k x made
        → IsWholeOf x made end f)) waits comes.whole

    -- it comes next in the run up to the limit, and is whole
    next_at_limit : (x : Core) → RunsAs x limit k v → IsNextWhole x (own v).made limit e
    next_at_limit x r =
        let below : e.stamp < stamp_from x.plain.site.cores end =
        subst (λ n. e.stamp < stamp_from n end) (sym (sited k x (own v).made r.stands).0) fits.below in
        next_whole x (own v).made end limit e end_within below (next x (own v).made r.stands)
        (whole x (own v).made r.stands)

    -- nothing that is left is before it
    pub event_left : Each (λ o. e.stamp ≤ o.stamp) (todo v)
    event_left = none_before kept.run.0 (own v).made (todo v) (listed v) limit kept.run.1.makes kept.given.whole e
        (next_at_limit kept.run.0 kept.run.1).next

    -- the clock is not past it
    pub event_late : clock_of (own v).published ≤ e.stamp
    event_late =
        not_before kept.run.0 (own v).made (todo v) (listed v) limit kept.run.1.makes kept.given.whole
        (clock_of (own v).published) e (next_at_limit kept.run.0 kept.run.1).next fits.some sized kept.left

    -- once its stamp is published the worker goes on as the same
    pub event_goes_on : GoesOnAs limit k v k' (given v (with_stamp (own v) e.stamp))
    event_goes_on = record {
      runs = λ x r. record {
        stands = comes.stands x (own v).made r.stands;
        makes = r.makes;
        next = subst (λ w. IfSome w (IsNextWhole x (own v).made limit)) (sym waits) (next_at_limit x r);
      };
      place = comes.place;
      room = comes.room;
      cores = refl;
      course = refl;
      core = refl;
    }

    -- and keeps what a worker keeps
    pub event_kept : ended ≡ false → IsKept limit reached ended k' (given v (with_stamp (own v) e.stamp))
    event_kept going =
        let early : e.stamp < stamp_from v.cores end = subst (λ n. e.stamp < stamp_from n end) kept.cores fits.below in
        record {
          given = still_given e.stamp;
          cores = ap (λ p. p.cores) comes.place ∙ kept.cores;
          core = ap (λ p. p.core) comes.place ∙ kept.core;
          most = kept.most;
          within = kept.within;
          asked = omega (arith, comes.at, is);
          clock = omega (arith, clock-push (own v).published e.stamp, early, ap (stamp_from v.cores) is);
          left = left_from e.stamp event_left;
          grid = kept.grid;
          ends = λ h some low. Contains-append_left (own v).published (e.stamp ∷ []) (stamp_from v.cores (1024 * h))
              (kept.ends h some low);
          waits = subst (λ w. IfSome w (IsShown (place_of k') limit ((own v).published ++ e.stamp ∷ []))) (sym waits)
              (record {
                fits = subst (λ p. EventFits p limit e) (sym comes.place)
                    (fits_limit (place_of k) end limit e end_within fits);
                sized =
                    sized;
                shown = ((own v).published, refl);
              });
          over = λ over. absurd (true≢false (sym over ∙ going));
          run = (kept.run.0, event_goes_on.runs kept.run.0 kept.run.1);
        }

  -- ---- it has none

  module _ (waits : waiting_of k' ≡ None) where
    -- it has made all before the end
    all : (x : Core) (made : List Operation) → StandsFor k x made → HasMadeAll x made end
    all = comes.all (ap is_some waits)

    -- nothing that is left is before the end of the piece
    pub end_left : Each (λ o. stamp_from v.cores (end) ≤ o.stamp) (todo v)
    end_left =
        let r : RunsAs kept.run.0 limit k v = kept.run.1 in
        let site : kept.run.0.plain.site.cores ≡ v.cores = (sited k kept.run.0 (own v).made r.stands).0 ∙ kept.cores in
        subst (λ n. Each (λ o. stamp_from n end ≤ o.stamp) (todo v)) site
        (all_late kept.run.0 (own v).made (todo v) (listed v) limit r.makes kept.given.whole end end_within
        (all kept.run.0 (own v).made r.stands))

    -- once a stamp is published the worker goes on as the same
    pub end_goes_on : (s : ℕ) → GoesOnAs limit k v k' (given v (with_stamp (own v) s))
    end_goes_on s = record {
      runs = λ x r. record {
        stands = comes.stands x (own v).made r.stands;
        makes = r.makes;
        next = subst (λ w. IfSome w (IsNextWhole x (own v).made limit)) (sym waits) tt;
      };
      place = comes.place;
      room = comes.room;
      cores = refl;
      course = refl;
      core = refl;
    }

    -- the end of this piece is published, and each one before it was
    end_shown : (h : ℕ) → 0 < h → 1024 * h ≤ end → Contains ((own v).published ++ stamp_from v.cores (end) ∷ [])
        (stamp_from v.cores (1024 * h))
    end_shown h some low = elim (cases_lt reached (1024 * h)) [
      | inl new ↦
          let whole : reached % 1024 ≡ 0 = kept.grid (omega (arith, new, low)) in
          let same : 1024 * h ≡ end = omega (arith, whole, new, low, is) in
          Contains-append_right (own v).published (stamp_from v.cores end ∷ []) (stamp_from v.cores (1024 * h))
          (0, omega arith, ap (stamp_from v.cores) (sym same))
      | inr old ↦ Contains-append_left (own v).published (stamp_from v.cores end ∷ []) (stamp_from v.cores (1024 * h))
          (kept.ends h some old)
    ]

    -- where the piece ends at the limit, nothing is left
    over_at_end : end ≡ limit → HasEnded limit k' (given v (with_stamp (own v) (stamp_from v.cores (end))))
    over_at_end last_one =
        let r : RunsAs kept.run.0 limit k v = kept.run.1 in
        let nothing : todo v ≡ [] = none_left kept.run.0 (own v).made (todo v) (listed v) limit r.makes kept.given.whole
        (subst (HasMadeAll kept.run.0 (own v).made) last_one (all kept.run.0 (own v).made r.stands)) in
        let last : stamp_from v.cores end ≡ stamp_from v.cores limit = ap (stamp_from v.cores) last_one in
        record {
          made = sym (append-nil (own v).made) ∙ ap (λ l. (own v).made ++ l) (sym nothing) ∙ sym kept.given.whole;
          past = omega (arith, last, clock-push (own v).published (stamp_from v.cores end));
          through = comes.through (ap is_some waits);
          at = comes.at ∙ last_one;
          waiting = waits;
        }

    -- and the worker keeps what a worker keeps
    pub end_kept : IsKept limit (end) (nat_eq (end) limit) k' (given v (with_stamp (own v) (stamp_from v.cores (end))))
    end_kept = record {
      given = still_given (stamp_from v.cores end);
      cores = ap (λ p. p.cores) comes.place ∙ kept.cores;
      core = ap (λ p. p.core) comes.place ∙ kept.core;
      most = kept.most;
      within = end_within;
      asked = omega (arith, comes.at, end_within);
      clock = omega (
        arith,
        clock-push (own v).published (stamp_from v.cores end),
        stamps_rise v.cores end
            (piece_end limit end) (omega (arith, end_within)),
      );
      left = left_from (stamp_from v.cores end) end_left;
      grid = λ going. let before : reached < limit = omega (arith, going, is, kept.within) in let whole : reached % 1024
          ≡ 0 = kept.grid before in omega (arith, whole, going, is);
      ends = end_shown;
      waits = subst (λ w. IfSome w (IsShown (place_of k') limit ((own v).published ++ stamp_from v.cores end ∷ [])))
          (sym waits) tt;
      over = λ over. over_at_end (eqb-true end limit over);
      run = (kept.run.0, (end_goes_on (stamp_from v.cores end)).runs kept.run.0 kept.run.1);
    }

-- What came of a turn: first the next event is found, then others are looked at, then it is made.
use Rattle.std.proofs.Common.{◌≡◌, ℕ, Bool, List, ◌++◌, Option, None, Some, IfSome, refl, sym, ap, ◌∙◌, subst, subst₂, option_map}
use Rattle.std.proofs.lemmas.Option.{same_Some}
use Rattle.slot_arbiter.specs.declared.event.Event.{Event}
use Rattle.shared_order.specs.Event.{asked_by}
use Rattle.clock_board.specs.View.{own, HasSeen}
use Rattle.clock_board.specs.Board.{PassFace}
use Rattle.patmos_core.specs.declared.cpu.Core.{Core as Cpu}
use Rattle.patmos_model.specs.State.{Core}
use Rattle.patmos_core.specs.Position.{waiting_of, place_of, EventFits}
use Rattle.core_worker.specs.Runs.{RunsAs, GoesOnAs, IsNextWhole, with_made, with_published, with_looks}
use Rattle.core_worker.specs.Pieces.{EndsWith}
use Rattle.core_worker.specs.Looked.{SawAll, SawOne}
use Rattle.core_worker.specs.Kept.{IsShown, IsKept}
use Rattle.core_worker.specs.Worker.{face, IsNextEvent, HasMoved, IsBlocked}
use Rattle.core_worker.proofs.Going.{made_kept, looks_kept, shown_event}

-- a core with a stamp waits for an event of that stamp
pub waits_at : (w : Option Event) (s : ℕ) → option_map (λ f. f.stamp) w ≡ Some s → (e : Event)
    × ((w ≡ Some e) × (s ≡ e.stamp))
waits_at None s told = absurd (let none : None ≡ Some s = told in cc)
waits_at (Some e) s told = (e, (refl, sym (same_Some e.stamp s told)))

module _ (limit limit' reached : ℕ) (ended : Bool) (k k' : Cpu) (p p' : PassFace)
    (kept : IsKept limit' reached ended k' p'.view) (goes_on : GoesOnAs limit k p.view k' p'.view)
    (same : p'.view ≡ with_published p.view (own p'.view).published) (limit_is : limit' ≡ limit) where
  module _ (e : Event) (s : ℕ) (waits : waiting_of k' ≡ Some e) (at : s ≡ e.stamp)
      (before : IfSome (waiting_of k) (λ f. waiting_of k' ≡ Some f)) where
    -- the event's stamp is published
    shown : IsShown (place_of k') limit' (own p'.view).published e
    shown = shown_event limit' reached ended k' p'.view kept e waits

    -- it comes next in the run, as it stood before the turn, and is whole
    next_in : (x : Core) → RunsAs x limit k p.view → IsNextWhole x (own p.view).made limit e
    next_in x r =
        let h : IfSome (Some e) (IsNextWhole x (own p'.view).made limit) =
        subst (λ w. IfSome w (IsNextWhole x (own p'.view).made limit)) waits (goes_on.runs x r).next in
        subst (λ made. IsNextWhole x made limit e) (made_kept p.view p'.view same) h

    -- where the core waited before the turn, it is what it waited for
    the_same : (w : Option Event) → IfSome w (λ f. waiting_of k' ≡ Some f) → IfSome w (λ f. e ≡ f)
    the_same None h = tt
    the_same (Some f) h = same_Some e f (sym waits ∙ h)

    -- it is the worker's next event
    is_next : IsNextEvent (face k p limit) e
    is_next = record {
      fits = subst₂ (λ place most. EventFits place most e) goes_on.place limit_is shown.fits;
      sized = shown.sized;
      next = λ x r. (next_in x r).next;
      whole = λ x r. (next_in x r).whole;
      waits = the_same (waiting_of k) before;
    }

    -- a look showed less than its stamp
    pub blocked_turn : (core seen : ℕ) (p'' : PassFace) → p''.view ≡ with_looks p'.view (own p''.view).looks
        → SawOne s core seen (own p'.view).looks (own p''.view).looks
        → IsBlocked core seen s (face k p limit) (face k' p'' limit')
    blocked_turn core seen p'' looked low = record {
      event = e;
      is = is_next;
      waits = waits;
      wanted_is = at;
      made = ap (λ u. (own u).made) looked ∙ made_kept p.view p'.view same;
      last = subst₂ EndsWith (sym at) (sym (ap (λ u. (own u).published) looked)) shown.shown;
      looks = subst (λ before. SawOne s core seen before (own p''.view).looks) (looks_kept p.view p'.view same) low;
    }

    -- no look did, and it was made
    pub moved_turn : (k'' : Cpu) (p'' p''' : PassFace) (limit'' : ℕ) → p''.view
        ≡ with_looks p'.view (own p''.view).looks → SawAll s (own p'.view).looks (own p''.view).looks
        → HasSeen p''.view s
        → p'''.view ≡ with_made p''.view (own p'''.view).made → IfSome (waiting_of k') (λ f. (values : List ℕ)
        × ((own p'''.view).made ≡ (own p''.view).made ++ asked_by f values))
        → HasMoved (face k p limit) (face k'' p''' limit'')
    moved_turn k'' p'' p''' limit'' looked high seen resumed made_as =
        let made : (values : List ℕ) × ((own p'''.view).made ≡ (own p''.view).made ++ asked_by e values) =
        subst (λ w. IfSome w (λ f. (values : List ℕ) × ((own p'''.view).made ≡ (own p''.view).made
        ++ asked_by f values))) waits made_as in
        record {
          event = e;
          is = is_next;
          values = made.0;
          made = made.1 ∙ ap (λ l. l ++ asked_by e made.0) (ap (λ u. (own u).made) looked
              ∙ made_kept p.view p'.view same);
          last = subst (EndsWith e.stamp)
              (sym (ap (λ u. (own u).published) resumed ∙ ap (λ u. (own u).published) looked)) shown.shown;
          seen = subst₂ HasSeen (sym resumed) at seen;
          looks = subst₂ (λ t before. SawAll t before (own p'''.view).looks) at (looks_kept p.view p'.view same)
              (subst (SawAll s (own p'.view).looks) (sym (ap (λ u. (own u).looks) resumed)) high);
        }

-- The times of code at each start of a core are those of one clock.
use Rattle.std.proofs.Common.{◌≡◌, ℕ, ◌+◌, ◌*◌, List, [], ◌∷◌, ap, ◌∙◌, arith}
use Rattle.slot_arbiter.specs.Slot.{period}
use Rattle.slot_arbiter.specs.declared.place.Place.{Place}
use Rattle.slot_arbiter.proofs.Entries.{owner_has_entry}
use Rattle.patmos_model.specs.Apart.{site_of}
use Rattle.patmos_model.specs.Begin.{entry}
use Rattle.patmos_model.specs.Site.{Site, method_at}
use Rattle.core_pace.specs.Pace.{Pace, Event, clock}
use Rattle.core_pace.specs.Run.{first_event, starting}
use Rattle.core_pace.specs.Spans.{IsSlotted, start_in}
use Rattle.core_pace.specs.Times.{Times, times_in}
use Rattle.core_pace.proofs.Bundlewise.{all_passed}
use Rattle.sp_shape.specs.Parts.{PlainShape}
use Rattle.sp_shape.specs.Trail.{trail}
use Rattle.tc_link.specs.Backs.{back}
use Rattle.tc_link.specs.Dues.{dues_of}
use Rattle.tc_link.specs.Placed.{linked}
use Rattle.code_core.specs.Fixed.{fixed_events, IsLinkable, Behaves}
use Rattle.code_core.specs.Sound.{bundles_in}
use Rattle.code_core.proofs.Shapes.{ends}
use Rattle.code_times.specs.Times.{bound_at, times_at}
use Rattle.code_times.proofs.Exact.{stands_so}
use Rattle.start_times.specs.Later.{IsSameCore, times_later}
use Rattle.start_times.proofs.Rounds.{started, clock_later, clock_from_slot}
use Rattle.start_times.proofs.Still.{behaves_still}

-- the times that a pace tells
abbrev told : Pace → Times
told p = record { accesses = p.accesses; end = p.free }

-- a core at a place has slots
pub slotted : (place : Place) (s : PlainShape) → IsSlotted (site_of place (linked s))
slotted place s = record {
  lasts = omega (arith, place.in_range.slot_least);
  entry = owner_has_entry place.cores place.core place.table place.owned place.in_range.among;
}

module _ (place : Place) (s : PlainShape) (addresses : List ℕ) where
  abbrev site : Site
  site = site_of place (linked s)

  abbrev events : List Event
  events = fixed_events (linked s) (trail s) (dues_of s (back 0 0)) addresses

  -- the times that the clock gives from a start
  abbrev pub times_from : ℕ → Times
  times_from start = told (clock (started site start) (first_event site ∷ events) (starting (started site start)))

  pub from_later : (periods start : ℕ) → times_from (start + periods * period place.table place.slot)
      ≡ times_later (periods * period place.table place.slot) (times_from start)
  from_later periods start = ap told (clock_later site (slotted place s) periods start (first_event site ∷ events))

  pub from_slot : (t u : ℕ) → start_in site t ≡ start_in site u → times_from t ≡ times_from u
  from_slot t u next = ap told (clock_from_slot site t u (method_at (linked s) (entry (linked s))) events next)

  module _ (link : IsLinkable s) (behaves : Behaves s place addresses) where
    own_times : times_at place s ≡ times_from place.start
    own_times =
        let slots : IsSlotted site = slotted place s in
        ap times_in (stands_so place s addresses link behaves slots place.in_range.among [] [] (tt, tt)
        (bound_at place s) (omega arith))
        ∙ ap told (all_passed place.cores place.core site [] [] (bundles_in (trail s)) slots).pace
        ∙ ap (λ es. told (clock site es (starting site))) (ends place s addresses link behaves slots
        place.in_range.among [] [] (tt, tt)).events

-- they are the times of code at each place of the core
pub times_are : (place other : Place) (s : PlainShape) (addresses : List ℕ) → IsLinkable s → Behaves s place addresses
    → IsSameCore place other → times_at other s ≡ times_from place s addresses other.start
times_are place other s addresses link behaves same =
    let there : started (site_of other (linked s)) other.start ≡ started (site_of place (linked s)) other.start =
    λ i. record {
      cores = same.cores i;
      core = same.core i;
      slot = same.slot i;
      table = same.table i;
      start = other.start;
      image = linked s;
    } in
    own_times other s addresses link (behaves_still place other s addresses same behaves)
    ∙ ap (λ (site : Site). told
    (clock site (first_event site ∷ fixed_events (linked s) (trail s) (dues_of s (back 0 0)) addresses)
    (starting site))) there

-- Code ends within its persistent bound.
use Rattle.std.proofs.Common.{◌≡◌, ℕ, zero, suc, ◌+◌, ◌-◌, ◌*◌, ◌<◌, ◌≤◌, ◌&&◌, if◌then◌else◌, Bool, true, false, List, [], ◌∷◌, length, map, sum_by, slice_index_or, refl, ap, arith}
use Rattle.std.specs.Prelude.{nat_le}
use Rattle.std.proofs.lemmas.List.{length-map}
use Rattle.std.proofs.lemmas.List.Sums.{sum_by-cons}
use Rattle.std.specs.List.{Contains}
use Rattle.slot_arbiter.specs.declared.place.Place.{Place}
use Rattle.slot_arbiter.specs.Slot.{is_slot_start}
use Rattle.method_cache.specs.declared.cache.Method.{Method}
use Rattle.method_cache.specs.Residents.{fits, fill_of, words_of}
use Rattle.patmos_model.specs.Apart.{site_of}
use Rattle.patmos_model.specs.Site.{Site, method_at}
use Rattle.core_pace.specs.Bound.{most_in_slot}
use Rattle.core_pace.specs.Pace.{clock}
use Rattle.core_pace.specs.Run.{first_event, starting}
use Rattle.core_pace.specs.Spans.{IsSlotted}
use Rattle.core_pace.specs.Starts.{gap_in}
use Rattle.core_pace.proofs.SlotStarts.{gap_is_greatest}
use Rattle.sp_shape.specs.Parts.{no_part, PlainShape}
use Rattle.sp_shape.specs.Trail.{trail}
use Rattle.sp_shape.specs.Words.{parts_words}
use Rattle.cycle_bound.specs.Bound.{fill_moves, shape_bound}
use Rattle.cycle_bound.specs.Gap.{gap}
use Rattle.cycle_bound.proofs.Earlier.{ShapeFormed, shape_parts}
use Rattle.cycle_bound.proofs.Gaps.{one_gap, place_gap}
use Rattle.tc_link.specs.Backs.{back}
use Rattle.tc_link.specs.Dues.{dues_of}
use Rattle.tc_link.specs.Placed.{start_of, linked}
use Rattle.tc_link.proofs.Standing.{size_stands}
use Rattle.code_core.specs.Fixed.{fixed_events, IsLinkable, Behaves}
use Rattle.bound_persist.specs.Persist.{fetched_once, persist, place_persist}
use Rattle.bound_persist.specs.Reached.{reaches, picked, reached, functions_words, stays}
use Rattle.bound_persist.proofs.Marking.{reaches_itself}
use Rattle.code_times.specs.Times.{times_at}
use Rattle.code_times.proofs.Ending.{few_fixed, cycle_is, clock_within}
use Rattle.code_times.proofs.Exact.{ended_cycle}
use Rattle.code_persist.specs.Events.{AreAmong}
use Rattle.code_persist.proofs.Bare.{fixed_bare, runs_is}
use Rattle.code_persist.proofs.Going.{contains_picked, fixed_among, functions_for}
use Rattle.code_persist.proofs.Once.{fills, clock_once}

-- ---- the functions that are reached, as the method cache knows them

abbrev methods : PlainShape → List Method
methods s = map (λ k. method_at (linked s) (start_of s k)) (reached s)

picked_sum : (v : Method → ℕ) (w : ℕ → ℕ) (f : ℕ → Method) (test : ℕ → Bool) (n : ℕ) → ((k : ℕ) → k < n → v (f k) ≡ w k)
    → sum_by v (map f (picked test n)) ≡ sum_by w (picked test n)
picked_sum v w f test zero same = refl
picked_sum v w f test (suc n) same =
    by (picked_sum v w f test n (λ k less. same k (omega (arith, less)))) (same n (omega arith)) (test n)
  where
    by : sum_by v (map f (picked test n)) ≡ sum_by w (picked test n) → v (f n) ≡ w n → (b : Bool)
        → sum_by v (map f (if b then n ∷ picked test n else picked test n))
        ≡ sum_by w (if b then n ∷ picked test n else picked test n)
    by rest here true = let e = sum_by-cons v (f n) (map f (picked test n)) in let g = sum_by-cons w n
        (picked test n) in omega (arith, rest, here, e, g)
    by rest here false = rest

methods_fit : (s : PlainShape) → fits (methods s) ≡ stays s
methods_fit s =
    let long = length-map (reached s) (λ k. method_at (linked s) (start_of s k)) in
    let words : words_of (methods s) ≡ functions_words s.functions (reached s) =
    picked_sum (λ m. m.words) (λ k. parts_words (slice_index_or s.functions k no_part))
    (λ k. method_at (linked s) (start_of s k)) (λ j. reaches s.functions j (length s.functions) s.entry)
    (length s.functions) (size_stands s) in
    (λ i. nat_le (long i) 16 && nat_le (words i) 4096)

methods_fill : (s : PlainShape) → fills (methods s) ≡ sum_by (fill_moves s.functions) (reached s)
methods_fill s =
    picked_sum (λ m. fill_of m.words) (fill_moves s.functions) (λ k. method_at (linked s) (start_of s k))
    (λ j. reaches s.functions j (length s.functions) s.entry) (length s.functions)
    (λ k less. let e = size_stands s k less in omega (arith, e))

-- ---- the end of code

module _ (place : Place) (s : PlainShape) (addresses : List ℕ) (link : IsLinkable s)
    (behaves : Behaves s place addresses) (slots : IsSlotted (site_of place (linked s)))
    (among : place.core < place.cores) where
  -- no other is gone to
  all_among : AreAmong (methods s) (first_event (site_of place (linked s)) ∷ fixed_events (linked s) (trail s)
      (dues_of s (back 0 0)) addresses)
  all_among =
      let h : ShapeFormed s = shape_parts s link.formed in
      let test : ℕ → Bool = λ j. reaches s.functions j (length s.functions) s.entry in
      let have : (j : ℕ) → j < length s.functions → test j ≡ true → Contains (methods s) (method_at (linked s)
      (start_of s j)) =
      (λ j less is. contains_picked (λ k. method_at (linked s) (start_of s k)) test j (length s.functions) less is) in (
        have s.entry h.entry (reaches_itself s.functions s.entry (length s.functions) h.entry),
        fixed_among (linked s) (methods s) (trail s) (dues_of s (back 0 0)) addresses
            (functions_for (linked s) (methods s) s.functions (start_of s) (length s.functions)
            (omega arith) h.functions s.entry h.entry (back 0 0) have tt),
      )

  -- the cycle in which all events are over
  events_sooner : (clock (site_of place (linked s)) (first_event (site_of place (linked s))
      ∷ fixed_events (linked s) (trail s) (dues_of s (back 0 0)) addresses) (starting (site_of place (linked s)))).free
      ≤ place.start + persist (most_in_slot (site_of place (linked s))) s
  events_sooner = by (stays s) (methods_fit s)
    where
      by : (b : Bool) → fits (methods s) ≡ b
          → (clock (site_of place (linked s)) (first_event (site_of place (linked s))
          ∷ fixed_events (linked s) (trail s) (dues_of s (back 0 0)) addresses)
          (starting (site_of place (linked s)))).free
          ≤ place.start + (if b then fetched_once (most_in_slot (site_of place (linked s))) s else shape_bound
          (most_in_slot (site_of place (linked s))) s)
      by false is = clock_within place s addresses link behaves slots among
      by true room =
          let site : Site = site_of place (linked s) in
          let each : ℕ = most_in_slot site in
          let time = clock_once site (methods s) slots room
          (first_event site ∷ fixed_events (linked s) (trail s) (dues_of s (back 0 0)) addresses) (starting site)
          (few_fixed place s addresses link behaves slots among) refl (omega arith) refl all_among in
          let plain = fixed_bare (linked s) each (trail s) (dues_of s (back 0 0)) addresses in
          let is = runs_is each s.functions (length s.functions) s.entry in
          let fetched : each * fills (methods s) ≡ each * sum_by (fill_moves s.functions) (reached s) =
          ap (λ n. each * n) (methods_fill s) in
          omega (arith, time, plain, is, fetched)

  -- and in it code ends, whatever is put in and read
  pub ends_sooner : (times_at place s).end ≤ place.start + place_persist place.table place.slot place.core s
  ends_sooner =
      let end = ended_cycle place s addresses link behaves slots among [] [] (tt, tt) in
      let cycle = cycle_is place s addresses link behaves slots among [] [] (tt, tt) in
      let sooner = events_sooner in
      let same : gap_in place.table place.slot place.core ≡ gap place.table place.slot place.core =
      one_gap (is_slot_start place.table place.slot place.core) (gap_in place.table place.slot place.core)
      (gap place.table place.slot place.core) (gap_is_greatest place.table place.slot place.core slots)
      (place_gap place) in
      let told : persist (most_in_slot (site_of place (linked s))) s
      ≡ place_persist place.table place.slot place.core s = ap (λ far. persist (far + place.slot - 1) s) same in
      omega (arith, end, cycle, sooner, told)

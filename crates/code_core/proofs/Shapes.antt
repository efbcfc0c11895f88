-- The core of a task does what its shape says, whatever is put in and read; and always in the same times.
use Rattle.std.proofs.Common.{◌≡◌, ℕ, ◌+◌, ◌<◌, ◌==◌, ◌||◌, Bool, true, false, if◌then◌else◌, List, [], ◌∷◌, map, refl, sym, ap, ◌∙◌, arith}
use Rattle.std.specs.List.{list_any, AllByRecursion as Each}
use Rattle.std.proofs.lemmas.Bool.{ne_eqb}
use Rattle.slot_arbiter.specs.declared.place.Place.{Place}
use Rattle.patmos_sem.specs.Registers.{FitsRegisters}
use Rattle.patmos_model.specs.Apart.{site_of}
use Rattle.patmos_model.specs.Begin.{begun, entry}
use Rattle.core_pace.specs.Moment.{core_in}
use Rattle.core_pace.specs.Run.{first_event, first_moment, after_bundles, past}
use Rattle.core_pace.specs.Spans.{IsSlotted}
use Rattle.sp_shape.specs.Parts.{PlainShape}
use Rattle.sp_shape.specs.Run.{Run}
use Rattle.sp_shape.specs.Trail.{trail}
use Rattle.tc_link.proofs.Followed.{shape_followed}
use Rattle.tc_link.specs.Backs.{back, backs_of}
use Rattle.tc_link.specs.Dues.{dues_of}
use Rattle.tc_link.specs.Placed.{size_of, others_below, place as place_of, start_of, order, linked}
use Rattle.tc_link.specs.Walk.{Follows, walk_from}
use Rattle.std.proofs.lemmas.List.{get_or-replicate}
use Rattle.argo_ni.specs.Port.{unused}
use Rattle.argo_ni.specs.declared.port.Port.{Port}
use Rattle.code_core.specs.Held.{HoldsPorts}
use Rattle.code_core.specs.Fixed.{fixed_events, IsLinkable, no_memory, begun_run, Behaves}
use Rattle.code_core.specs.Followed.{IsFollowed}
use Rattle.code_core.specs.Goes.{by_stack, loads_from}
use Rattle.code_core.specs.Sound.{bundles_in}
use Rattle.code_core.specs.Words.{AreGiven}
use Rattle.code_core.proofs.InRange.{loads_are_words}
use Rattle.patmos_model.specs.Range.{IsWord}
use Rattle.code_core.proofs.Beginning.{RunsAs, runs_as}
use Rattle.code_core.proofs.Fixed.{fixed, steady_trail}
use Rattle.code_core.proofs.Landing.{StartsAfter, running_by}

-- ---- no function starts at word 0

pub start_after : (size : ℕ → ℕ) (at k : ℕ) → 0 < place_of size at k
start_after size at k = by (k == at)
  where
    by : (b : Bool) → 0 < (if b then 1 else 1 + size at + others_below size at k + 1)
    by true = omega arith
    by false = omega arith

pub starts_after : (s : PlainShape) → StartsAfter (linked s)
starts_after s = all (order s)
  where
    all : (ks : List ℕ) → list_any (λ start. 0 == start) (map (start_of s) ks) ≡ false
    all [] = refl
    all (k ∷ ks) =
        let one : (0 == start_of s k) ≡ false =
        ne_eqb 0 (start_of s k) (λ e. omega (arith, e, start_after (size_of s) s.entry k)) in
        (λ i. one i || all ks i)

-- ---- a run

module _ (place : Place) (s : PlainShape) (addresses : List ℕ) (link : IsLinkable s)
    (behaves : Behaves s place addresses) (slots : IsSlotted (site_of place (linked s)))
    (among : place.core < place.cores) where
  pub unused_ports : (input : List ℕ) → HoldsPorts no_memory (begun (site_of place (linked s)) input).plain.interface
  unused_ports input = record {
    count = refl;
    source = λ d few. ap (λ (p : Port). p.source) (get_or-replicate 16 d unused unused few);
    target = λ d few. ap (λ (p : Port). p.target) (get_or-replicate 16 d unused unused few);
  }

  pub ends : (input values : List ℕ) → AreGiven input values → IsFollowed place s addresses input values
  ends input values given =
      let loads : List ℕ = loads_from place.cores place.core (bundles_in (trail s)) (first_moment place.cores place.core
      (begun (site_of place (linked s)) input) values) in
      let m : Run = begun_run s loads in
      let words : Each IsWord loads = loads_are_words place.cores place.core (site_of place (linked s)) input values
      (bundles_in (trail s)) among link.words link.initial given in
      let fits : FitsRegisters m.regs = record { count = refl; pred_count = refl; zero = refl; always = refl } in
      let f : Follows (linked s) by_stack (trail s) (dues_of s (back 0 0)) (walk_from (entry (linked s)) m) =
      shape_followed s by_stack m link.formed link.fits link.bundles fits refl
      (behaves.iterations no_memory loads words) in
      let r : RunsAs place.cores place.core (site_of place (linked s)) input values (trail s)
      (dues_of s (back 0 0)) m f.last =
      runs_as place.cores place.core (site_of place (linked s)) input values (trail s) (dues_of s (back 0 0)) no_memory
      (backs_of s) f.last 0 (unused_ports input) slots (starts_after s) f.does_so
      (behaves.sound no_memory loads words) f.returns in
      record {
        loads = loads;
        status = r.ended.status;
        still = running_by (core_in (after_bundles place.cores place.core (begun (site_of place (linked s)) input)
            values (bundles_in (trail s)))).plain true r.ended.status r.ended.ended;
        bundles = r.done;
        regs = sym r.ended.goes.is_as.regs ∙ ap (λ (z : Run). z.regs) f.run;
        events = r.events ∙ ap (λ l. first_event (site_of place (linked s)) ∷ l)
            (fixed (linked s) by_stack (trail s) (dues_of s (back 0 0)) m (steady_trail s link.steady) fits
            ∙ ap (fixed_events (linked s) (trail s) (dues_of s (back 0 0))) (behaves.same no_memory loads words));
      }

  -- two runs have the same events
  pub same_past : (input values input' values' : List ℕ) → AreGiven input values → AreGiven input' values'
      → past place.cores place.core (begun (site_of place (linked s)) input) values (bundles_in (trail s))
      ≡ past place.cores place.core (begun (site_of place (linked s)) input') values' (bundles_in (trail s))
  same_past input values input' values' given given' =
      (ends input values given).events ∙ sym (ends input' values' given').events

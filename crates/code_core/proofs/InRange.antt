-- A core that is given words holds words at each moment, and so its loads give words.
use Rattle.std.proofs.Common.{ℕ, zero, suc, ◌-◌, ◌<◌, Bool, true, false, List, [], ◌∷◌, arith}
use Rattle.std.specs.List.{AllByRecursion as Each}
use Rattle.slot_arbiter.specs.Stamp.{stamp}
use Rattle.shared_order.specs.Program.{Prog, done, get, set, fed, first as first_value, others as other_values, and_then}
use Rattle.shared_order.specs.Fit.{IsFit}
use Rattle.shared_order.proofs.Fits.{fit-then}
use Rattle.shared_order.proofs.Lists.{each-append}
use Rattle.argo_ni.specs.Packet.{comm_word}
use Rattle.patmos_sem.specs.Registers.{Registers}
use Rattle.patmos_sem.specs.declared.effects.Effect.{Effect}
use Rattle.patmos_sem.specs.declared.effects.Effect.TheVariants as effect
use Rattle.patmos_sem.specs.declared.pending.Pending.{Pending}
use Rattle.patmos_sem.specs.declared.pending.Pending.TheVariants as pending
use Rattle.patmos_model.specs.Apart.{Followed, injected, after_delivery}
use Rattle.patmos_model.specs.Begin.{begun}
use Rattle.patmos_model.specs.Bundle.{bundle}
use Rattle.patmos_model.specs.Cells.{Acted}
use Rattle.patmos_model.specs.Cycle.{delivered, settled}
use Rattle.patmos_model.specs.Flows.{flowed}
use Rattle.patmos_model.specs.Range.{IsWord, PendingFits, HasCode, SiteFits, InRange, ActedFits}
use Rattle.patmos_model.specs.Site.{Site}
use Rattle.patmos_model.specs.State.{Core, is_running}
use Rattle.patmos_model.specs.Transaction.{transaction}
use Rattle.patmos_model.proofs.CoreRanges.{fit_bundle, fit_transaction, flowed_fits, fit_settled, fit_delivered, fit_injected, begun_in_range}
use Rattle.core_pace.specs.Moment.{Moment, core_in, interfaced, before}
use Rattle.core_pace.specs.Next.{acting, bundled, landing, waited, freed, all_moved, next}
use Rattle.core_pace.specs.Run.{first_moment, onward}
use Rattle.core_pace.proofs.Listed.{all_moved_keeps}
use Rattle.code_core.specs.Goes.{pending_value, asked_at, given_by, given, loads_from}
use Rattle.code_core.specs.Words.{AreGiven}

-- ---- programs that are fed words

first_word : (values : List ℕ) → Each IsWord values → IsWord (first_value values)
first_word [] h = omega arith
first_word (v ∷ vs) h = h.0

other_words : (values : List ℕ) → Each IsWord values → Each IsWord (other_values values)
other_words [] h = tt
other_words (v ∷ vs) h = h.1

fed_fits : {X : Type 0} (Good : X → Type 0) (words at : ℕ) (p : Prog X) (values : List ℕ) → IsFit Good words p
    → Each IsWord values → Good (fed at p values).core × Each IsWord (fed at p values).left
fed_fits Good words at (done x) values fit h = (fit, h)
fed_fits Good words at (get word go_on) values fit h = fed_fits Good words at (go_on (first_value values))
    (other_values values) (fit.1 (first_value values) (first_word values h)) (other_words values h)
fed_fits Good words at (set word value rest) values fit h = fed_fits Good words at rest values fit.2 h

-- ---- moments

module _ (n core words : ℕ) where
  pub record FitsAt (m : Moment) : Type 0 where
    pub ranged : InRange words (core_in m)
    pub left : Each IsWord m.told.run.left

  acting_fits : (p : Prog Acted) (m : Moment) → IsFit (ActedFits words) words p → FitsAt m → FitsAt (acting n core p m)
  acting_fits p m fit h =
      let f = fed_fits (InRange words) words (stamp n core m.cycle 1) (and_then p settled) m.told.run.left
      (fit-then (ActedFits words) (InRange words) words p settled fit (fit_settled words)) h.left in
      record { ranged = f.0; left = f.1 }

  interfaced_fits : (m : Moment) → FitsAt m → FitsAt (interfaced n core m)
  interfaced_fits m h =
      let a = fed_fits (InRange words) words (stamp n core m.cycle 0) (delivered m.cycle (core_in m)) m.told.run.left
      (fit_delivered words m.cycle (core_in m) h.ranged) h.left in
      let f : Followed = after_delivery n core m.cycle m.told in
      let b = fed_fits (InRange words) words (stamp n core m.cycle 1) (injected m.cycle f.run.core) f.run.left
      (fit_injected words m.cycle f.run.core a.0) a.1 in
      record { ranged = b.0; left = b.1 }

  waited_fits : (d : ℕ) (m : Moment) → FitsAt m → FitsAt (waited n core d m)
  waited_fits zero m h = h
  waited_fits (suc d) m h =
      let w = waited_fits d m h in
      interfaced_fits (record (waited n core d m) { cycle = suc (waited n core d m).cycle })
      (record { ranged = w.ranged; left = w.left })

  all_moved_fits : (m : Moment) → FitsAt m → FitsAt (all_moved n core m)
  all_moved_fits = all_moved_keeps n core FitsAt waited_fits (λ m h. acting_fits (transaction m.cycle (core_in m)) m
      (fit_transaction words m.cycle (core_in m) h.ranged) h)

  landing_fits : (m : Moment) → FitsAt m → FitsAt (landing m)
  landing_fits m h = record { ranged = by (is_running (core_in m).plain); left = h.left }
    where
      by : (b : Bool) → InRange words (elim b as (λ _. Core) [ true ↦ flowed m.cycle (core_in m) | false ↦ core_in m ])
      by true = flowed_fits words m.cycle (core_in m) h.ranged
      by false = h.ranged

  bundled_fits : (m : Moment) → FitsAt m → FitsAt (bundled n core m)
  bundled_fits m h =
      let a : FitsAt (acting n core (bundle m.cycle (core_in m)) m) =
      acting_fits (bundle m.cycle (core_in m)) m (fit_bundle words m.cycle (core_in m) h.ranged) h in
      record { ranged = a.ranged; left = a.left }

  pub next_fits : (m : Moment) → FitsAt m → FitsAt (next n core m)
  next_fits m h =
      let b : Moment = all_moved n core (bundled n core m) in
      all_moved_fits (landing b) (landing_fits b (all_moved_fits (bundled n core m) (bundled_fits m h)))

  onward_fits : (m : Moment) → FitsAt m → FitsAt (onward n core m)
  onward_fits m h = by (is_running (core_in m).plain)
    where
      by : (b : Bool) → FitsAt (elim b as (λ _. Moment) [ true ↦ next n core m | false ↦ m ])
      by true = next_fits m h
      by false = h

  -- ---- what loads give

  pending_word : (p : Pending) → PendingFits p → IsWord (pending_value p)
  pending_word pending.Nothing h = omega arith
  pending_word (pending.Value rd value) h = h
  pending_word (pending.Product low high) h = omega arith

  given_words : (e : Effect) (regs : Registers) → PendingFits regs.pending → Each IsWord (given_by e regs)
  given_words (effect.Load space width rd address) regs h = (pending_word regs.pending h, tt)
  given_words _ regs h = tt

  pub loads_fit : (count : ℕ) (m : Moment) → FitsAt m → Each IsWord (loads_from n core count m)
  loads_fit zero m h = tt
  loads_fit (suc count) m h =
      each-append IsWord (given n core m) (loads_from n core count (onward n core m))
      (given_words (asked_at (core_in m).plain) (core_in (next n core m)).plain.regs
      (next_fits m h).ranged.plain.regs.pending)
      (loads_fit count (onward n core m) (onward_fits m h))

-- ---- from the beginning

-- a task that is given words reads words, which its loads give
pub loads_are_words : (n core : ℕ) (site : Site) (input values : List ℕ) (count : ℕ) → site.core < site.cores
    → HasCode site.image → Each IsWord site.image.initial → AreGiven input values
    → Each IsWord (loads_from n core count (first_moment n core (begun site input) values))
loads_are_words n core site input values count among code initial given_so =
    let words = comm_word site.cores 0 in
    let fits : SiteFits words site = record { among = among; room = omega arith; code = code } in
    let z : Moment = before n core (begun site input) values 0 in
    let h : FitsAt n core words z =
    record { ranged = begun_in_range words site input fits initial given_so.0; left = given_so.1 } in
    let m : Moment = interfaced n core z in
    loads_fit n core words count (all_moved n core (freed n core m)) (all_moved_fits n core words (freed n core m)
    (waited_fits n core words ((core_in m).plain.free - m.cycle) m (interfaced_fits n core words z h)))

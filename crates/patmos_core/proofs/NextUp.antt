-- What a core that has come to an event or to its limit does next.
use Rattle.std.proofs.Common.{◌≡◌, ℕ, ◌*◌, ◌<◌, ◌≤◌, List, [], ◌++◌, refl, sym, ap, ◌∙◌, IfSome, IsSome, IsNone, IsTrue, Bool, true, false, subst, append-nil, arith}
use Rattle.slot_arbiter.specs.declared.event.Event.{Event}
use Rattle.slot_arbiter.specs.declared.place.Place.{Place}
use Rattle.shared_order.specs.declared.operation.Operation.{Operation}
use Rattle.shared_order.specs.Operation.{loads}
use Rattle.shared_order.specs.Apart.{Alone, apart}
use Rattle.shared_order.specs.Stamps.{act_at}
use Rattle.shared_order.specs.Stands.{Stands}
use Rattle.shared_order.proofs.ByCycles.{stands_by_cycles}
use Rattle.patmos_core.specs.declared.phase.Phase.{Phase}
use Rattle.patmos_core.specs.declared.phase.Phase.TheVariants.{Delivery, Act, Completion}
use Rattle.patmos_core.specs.declared.tasked.Tasked.{Tasked}
use Rattle.slot_arbiter.specs.Stamp.{stamp}
use Rattle.patmos_model.specs.State.{Core}
use Rattle.patmos_model.specs.Begin.{idle}
use Rattle.patmos_model.specs.Cycle.{turn}
use Rattle.patmos_model.specs.Apart.{apart_from, site_of}
use Rattle.patmos_core.specs.Events.{if_found}
use Rattle.patmos_core.specs.Position.{IsThere, IsOn, IsResting, IsNextOf, IsWholeIn, IsWholeOf, HasMadeAll, EventFits}
use Rattle.patmos_core.specs.Waiting.{AsksIn, LeavesIn, stamp_phase, IsAskedAt, IsOfPlace}
use Rattle.patmos_step.specs.Shown.{core_of}
use Rattle.patmos_model.proofs.Idle.{idle_stands}
use Rattle.patmos_core.proofs.Moving.{delivery_whole, whole_completion, act_whole, whole_next, stamp_below}

-- the event of a part has all of its stamp, but for what is left of a narrow store
whole_in : (n core : ℕ) (x : Core) (made : List Operation) (cycle limit : ℕ) (phase : Phase) (y : Core) (e : Event)
    → core < n → cycle < limit
    → e.stamp ≡ stamp n core cycle (stamp_phase phase) → AsksIn phase cycle y e → LeavesIn phase cycle y e
    → IsThere n core cycle phase x made y
    → (more : List ℕ) → IsWholeIn made (apart turn n core x (loads made ++ more) limit).made e more
whole_in n core x made cycle limit Delivery y e among early is asks leaves there =
    delivery_whole n core x cycle among limit early e made y is asks there
whole_in n core x made cycle limit Act y e among early is asks leaves there =
    act_whole n core x cycle among limit early e made y is asks leaves there
whole_in n core x made cycle limit (Completion pending_store) y e among early is asks leaves there =
    whole_completion n core x cycle among limit early e made y pending_store is asks there

-- the run apart of a core is that at its own place
at_place : (x : Core) (n core : ℕ) (values : List ℕ) (t : ℕ) → x.plain.site.cores ≡ n → x.plain.site.core ≡ core
    → apart turn n core x values t ≡ apart_from x values t
at_place x n core values t cores among = λ i. apart turn (sym cores i) (sym among i) x values t

pub whole_of : (t : Tasked) (e : Event) (x : Core) (made : List Operation) (limit : ℕ) → t.cycle < limit → IsAskedAt t e
    → IsOn t x made → IsWholeOf x made limit e
whole_of t e x made limit early asked on = λ more.
    subst (λ (a : Alone Core). IsWholeIn made a.made e more)
    (at_place x t.body.place.cores t.body.place.core (loads made ++ more) limit on.cores on.core)
    (whole_in t.body.place.cores t.body.place.core x made t.cycle limit t.phase (core_of t.body on.seen) e
    t.body.place.in_range.among early asked.stamp
    (asked.asks on.seen on.shows) (asked.leaves on.seen on.shows) on.there more)

-- so it comes next
pub next_of : (t : Tasked) (e : Event) (x : Core) (made : List Operation) (limit : ℕ) → t.cycle < limit → IsAskedAt t e
    → IsOn t x made → IsNextOf x made limit e
next_of t e x made limit early asked on = λ more. whole_next made (apart_from x (loads made ++ more) limit).made e more
    (whole_of t e x made limit early asked on more)

phase_low : (phase : Phase) → stamp_phase phase ≤ 1
phase_low Delivery = omega arith
phase_low Act = omega arith
phase_low (Completion pending_store) = omega arith

pub fits_at : (t : Tasked) (e : Event) (x : Core) (limit : ℕ) → t.cycle < limit → IsAskedAt t e
    → IsOfPlace t.body.place e → EventFits t.body.place limit e
fits_at t e x limit early asked of_place = record {
  core = of_place.core;
  below = omega (
    arith,
    asked.stamp,
    stamp_below t.body.place.cores t.body.place.core x t.cycle
        t.body.place.in_range.among limit early (stamp_phase t.phase) (phase_low t.phase),
  );
  some = of_place.some;
  words = of_place.words;
  unread = of_place.unread;
  loads_first = of_place.loads_first;
}

-- at the limit a core has made all
all_made : (n core : ℕ) (x y : Core) (made : List Operation) (limit : ℕ) → core < n → x.plain.site.cores ≡ n
    → x.plain.site.core ≡ core
    → Stands (act_at turn n) n core x made (2 * limit * n) y → (more : List ℕ) → apart_from x (loads made ++ more) limit
    ≡ record { core = y; left = more; made = made }
all_made n core x y made limit among cores is stands more =
    sym (at_place x n core (loads made ++ more) limit cores is)
    ∙ stands_by_cycles turn n core x made limit y among stands more

-- and the values besides do not matter
any_more : (x y : Core) (made : List Operation) (limit : ℕ) → ((more : List ℕ) → apart_from x (loads made ++ more) limit
    ≡ record { core = y; left = more; made = made }) → HasMadeAll x made limit
any_more x y made limit all = λ more.
    all more ∙ ap (λ z. record { core = z; left = more; made = made }) (sym (ap (λ (a : Alone Core). a.core)
    (ap (λ values. apart_from x values limit) (sym (append-nil (loads made))) ∙ all [])))

pub task_made_all : (t : Tasked) (x : Core) (made : List Operation) (limit : ℕ) → t.cycle ≡ limit → t.phase ≡ Delivery
    → IsOn t x made → HasMadeAll x made limit
task_made_all t x made limit is whole on =
    any_more x (core_of t.body on.seen) made limit
    (all_made t.body.place.cores t.body.place.core x (core_of t.body on.seen) made limit t.body.place.in_range.among
    on.cores on.core
    (subst (λ q. Stands (act_at turn t.body.place.cores) t.body.place.cores t.body.place.core x made
    (2 * q * t.body.place.cores) (core_of t.body on.seen)) is
    (subst (λ p. IsThere t.body.place.cores t.body.place.core t.cycle p x made (core_of t.body on.seen))
    whole on.there)))

pub idle_made_all : (place : Place) (x : Core) (made : List Operation) (limit : ℕ) → IsResting place x made
    → HasMadeAll x made limit
idle_made_all place x made limit rests =
    let y : Core = idle (site_of place rests.image) in
    any_more x y made limit
    (subst (λ z. (more : List ℕ) → apart_from z (loads made ++ more) limit ≡ record {
      core = y;
      left = more;
      made = made;
    }) (sym rests.is)
    (subst (λ os. (more : List ℕ) → apart_from y (loads os ++ more) limit ≡ record { core = y; left = more; made = os })
    (sym rests.none)
    (all_made place.cores place.core y y [] limit place.in_range.among refl refl (idle_stands place.cores place.core
    (site_of place rests.image) limit place.in_range.among))))

-- ---- an event that was found, or none

pub if_some : (P : Event → Type 0) (found : Bool) (e : Event) → (IsTrue found → P e) → IfSome (if_found found e) P
if_some P true e holds = holds refl
if_some P false e holds = tt

pub found_where : (found : Bool) (e : Event) → IsSome (if_found found e) → IsTrue found
found_where true e some = refl
found_where false e some = some

pub none_where : (found : Bool) (e : Event) → IsNone (if_found found e) → found ≡ false
none_where true e none = none
none_where false e none = refl

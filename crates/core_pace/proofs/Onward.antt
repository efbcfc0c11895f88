-- From a moment in which a core is about to do a bundle to the next.
use Rattle.std.proofs.Common.{◌≡◌, ℕ, suc, ◌+◌, ◌<◌, ◌≤◌, ◌==◌, ◌&&◌, not, Bool, true, false, List, [], ◌∷◌, ◌++◌, Option, None, Some, refl, sym, ap, ◌∙◌, subst, arith, append-nil, inl, inr, ◌⊎◌}
use Rattle.std.proofs.lemmas.Bool.{eqb-true, eq-eqb, and_parts, and_from}
use Rattle.slot_arbiter.specs.Stamp.{stamp}
use Rattle.shared_order.specs.Program.{and_then, fed}
use Rattle.method_cache.specs.declared.cache.Method.{Method}
use Rattle.method_cache.specs.Residents.{resident, is_among, touched}
use Rattle.patmos_sem.specs.declared.effects.Effect.{Effect}
use Rattle.patmos_model.specs.declared.flow.Flow.{Flow}
use Rattle.patmos_model.specs.declared.flow.Goal.{Goal}
use Rattle.patmos_model.specs.declared.flow.Goal.TheVariants.{Within, Call, Fill, Return}
use Rattle.patmos_model.specs.declared.state.Status.{Status}
use Rattle.patmos_model.specs.declared.state.Status.TheVariants.{Idle, Running, Trapped}
use Rattle.patmos_model.specs.declared.transfer.Transfer.{Transfer}
use Rattle.patmos_model.specs.declared.transfer.Then.TheVariants as then_on
use Rattle.patmos_model.specs.declared.trap.Trap.{Trap}
use Rattle.patmos_model.specs.declared.trap.Trap.TheVariants as trap
use Rattle.patmos_model.specs.Site.{Site, method_at}
use Rattle.patmos_model.specs.State.{Plain, Core, with_plain, stopped, is_running, is_free, has_ended, is_end}
use Rattle.patmos_model.specs.Transfers.{nothing, reads}
use Rattle.patmos_model.specs.Cells.{Acted}
use Rattle.patmos_model.specs.Flows.{flowed, gone, entered, with_return}
use Rattle.patmos_model.specs.Bundle.{bundle, done_as}
use Rattle.patmos_model.specs.Cycle.{settled}
use Rattle.patmos_model.specs.Apart.{by_task, after_own}
use Rattle.patmos_model.proofs.Leaves.{Leaves}
use Rattle.core_pace.specs.Spans.{IsSlotted}
use Rattle.core_pace.specs.Moment.{Moment, core_in, done_by, done_in, landed, fetched_in, finished, Passes}
use Rattle.core_pace.specs.Next.{IsAboutTo, IsAtBundle, IsDue, ComesTo, about_to, ended, trapped, is_due_flow, line_in, bundled, landing, all_moved, next}
use Rattle.core_pace.specs.Pace.{Pace, Event, pace_of, asks_method, asked_by, carried, clock, event_of, bundle_event, goal_event, flow_event, landing_event, events_in}
use Rattle.core_pace.proofs.Parts.{leaves_map}
use Rattle.core_pace.proofs.OwnActs.{Follows, Lands, stays, halts, goes, none_done, idle_or_busy, not_free, idle_not_due, sleeps_early, early_not_due, landed_running, landed_stopped, flow_stays, bundle_first, lands, gone_status, gone_flow, running_status, landed_first}
use Rattle.core_pace.proofs.Answered.{Bundles, traps, does, leaves_bundle, Asks, some_words, no_words, asks_of_event}
use Rattle.core_pace.proofs.Waits.{Enters, acting_leaves, acts_first}
use Rattle.core_pace.proofs.Quick.{nothing_moved, freed_now}
use Rattle.core_pace.proofs.Moves.{IsAllMoved, IsLeft, moves_all, carried_line, carried_idle, carried_free, carried_later}

-- a core runs, or was stopped in the cycle in which it is, with nothing to move
abbrev pub RunsOrHalted : Core → Type 0
RunsOrHalted c = (c.plain.status ≡ Running) ⊎ ((fault : Trap) × ((c.plain.status ≡ Trapped fault c.plain.free)
    × (c.plain.transfer.words ≡ 0)))

-- whether a core with nothing to move runs
abbrev runs_idle : Status → Option Flow → Bool
runs_idle status flow = elim status as (λ _. Bool) [
  | Idle ↦ false
  | Running ↦ not (elim flow as (λ _. Bool) [ None ↦ false | Some f ↦ is_end f && (0 == 0) ])
  | Trapped fault at ↦ false
]

running_idle : (x : Plain) → x.transfer.words ≡ 0 → is_running x ≡ runs_idle x.status x.flow
running_idle x none = ap (λ words. elim x.status as (λ _. Bool) [
  | Idle ↦ false
  | Running ↦ not (elim x.flow as (λ _. Bool) [ None ↦ false | Some f ↦ is_end f && (words == 0) ])
  | Trapped fault at ↦ false
]) none

-- ---- the bundle

-- how a bundle may leave a core
data BundledTo (c : Core) (events : List Event) (d : Core) : Type 0 where
  halted_by : (fault : Trap) → d ≡ with_plain (stopped fault c.plain.free) c → events ≡ [] → BundledTo c events d
  went : (asked : Effect) (flow : Option Flow) → events ≡ event_of asked ∷ []
      → IsLeft c.plain.site c.plain.status flow (asked_by (event_of asked) (pace_of c)) d → BundledTo c events d

bundles_to : (c : Core) (events : List Event) (y : Acted) → Bundles c events y → BundledTo c events y.core
bundles_to c events y (traps fault is no_event) = halted_by fault (ap (λ (z : Acted). z.core) is) no_event
bundles_to c events y (does asked flow one h) =
    went asked flow one (record { site_is = h.site_is; status_is = h.status_is; flow_is = h.flow_is; pace = h.pace })

-- what is known of a core that is about to do a bundle
record Ready (u : ℕ) (c : Core) : Type 0 where
  runs : is_running c.plain ≡ true
  status : c.plain.status ≡ Running
  free_test : is_free u c.plain ≡ true
  free : c.plain.free ≡ u
  words : c.plain.transfer.words ≡ 0
  not_due : is_due_flow c.plain.flow ≡ false

ready : (m : Moment) → IsAboutTo m → Ready m.cycle (core_in m)
ready m about =
    let x : Plain = (core_in m).plain in
    let tests = and_parts (x.transfer.words == 0) (x.free == m.cycle) about.free in
    record {
      runs = about.running;
      status = running_status x about.running;
      free_test = about.free;
      free = eqb-true x.free m.cycle tests.1;
      words = eqb-true x.transfer.words 0 tests.0;
      not_due = about.settled;
    }

leaves_of_bundle : (c : Core) (u : ℕ) → Ready u c
    → Leaves (Bundles c (bundle_event (fetched_in c.plain) c.plain)) (bundle u c)
leaves_of_bundle c u h =
    subst (λ t. Leaves (Bundles c (bundle_event (fetched_in c.plain) c.plain)) (done_as (fetched_in c.plain) t c))
    h.free (leaves_bundle (fetched_in c.plain) c)

follows_bundle : (c : Core) (u : ℕ) (events : List Event) → Ready u c → (y : Acted) → Bundles c events y → Follows u y
follows_bundle c u events h y (traps fault is none_of) =
    subst (Follows u) (sym is) (inl (inl refl, idle_not_due (stopped fault c.plain.free c.plain) u h.words))
follows_bundle c u events h y (does asked flow one left) = by (asks_of_event asked (pace_of c))
  where
    words_are : y.core.plain.transfer.words ≡ (asked_by (event_of asked) (pace_of c)).words
    words_are = ap (λ (p : Pace). p.words) left.pace

    free_is : y.core.plain.free ≡ (asked_by (event_of asked) (pace_of c)).free
    free_is = ap (λ (p : Pace). p.free) left.pace

    by : Asks (pace_of c) (asked_by (event_of asked) (pace_of c)) → Follows u y
    by (some_words more free) = let moving : 0 < y.core.plain.transfer.words = omega (arith, words_are, more) in
        inr (left.pending h.words moving, (left.status_is ∙ h.status, moving))
    by (no_words words line free) =
        let later : u < y.core.plain.free = omega (arith, free_is, free, h.free) in
        inl (sleeps_early y.core.plain u later, early_not_due y.core.plain u later)

undone_after : (u : ℕ) (y : Acted) → Follows u y → (is_running y.core.plain ≡ false) ⊎ (is_free u y.core.plain ≡ false)
undone_after u y (inl rests) = idle_or_busy y.core u rests.0
undone_after u y (inr moving) = inr (not_free y.core.plain u moving.1.1)

module _ (n core : ℕ) where
  bundled_to : (m : Moment) → IsAboutTo m → BundledTo (core_in m) (bundle_event (fetched_in (core_in m).plain)
      (core_in m).plain) (core_in (bundled n core m))
  bundled_to m about =
      let c : Core = core_in m in
      let events : List Event = bundle_event (fetched_in c.plain) c.plain in
      acting_leaves n core (BundledTo c events) (bundle m.cycle c) m
      (leaves_map (Bundles c events) (λ (y : Acted). BundledTo c events y.core) (bundles_to c events) (bundle m.cycle c)
      (leaves_of_bundle c m.cycle (ready m about)))

  -- a bundle and what is left of its cycle are the whole cycle
  bundle_finishes : (m : Moment) → IsAboutTo m → finished n core m ≡ finished n core (bundled n core m)
  bundle_finishes m about = λ i. record { cycle = suc u; told = told i; bundles = bundles i }
    where
      c : Core
      c = core_in m

      u : ℕ
      u = m.cycle

      h : Ready u c
      h = ready m about

      events : List Event
      events = bundle_event (fetched_in c.plain) c.plain

      follows : Leaves (Follows u) (bundle u c)
      follows = leaves_map (Bundles c events) (Follows u) (follows_bundle c u events h) (bundle u c)
          (leaves_of_bundle c u h)

      told : after_own n core u m.told ≡ after_own n core u (bundled n core m).told
      told = acts_first n core (bundle u c) m (bundle_first c u h.runs h.free_test h.not_due follows)

      here : done_in u c ≡ done_by u c
      here = ap (done_by u) (landed_running c u h.runs ∙ flow_stays c u h.not_due)

      undone : (is_running (core_in (bundled n core m)).plain ≡ false)
          ⊎ (is_free u (core_in (bundled n core m)).plain ≡ false)
      undone = acting_leaves n core (λ (d : Core). (is_running d.plain ≡ false) ⊎ (is_free u d.plain ≡ false))
          (bundle u c) m
          (leaves_map (Follows u) (λ (y : Acted). (is_running y.core.plain ≡ false) ⊎ (is_free u y.core.plain ≡ false))
          (undone_after u) (bundle u c) follows)

      bundles : m.bundles ++ done_in u c ≡ (m.bundles ++ done_by u c) ++ done_in u (core_in (bundled n core m))
      bundles =
          ap (λ l. m.bundles ++ l) here
          ∙ sym (ap (λ l. (m.bundles ++ done_by u c) ++ l) (none_done (core_in (bundled n core m)) u undone)
          ∙ append-nil (m.bundles ++ done_by u c))

  -- the pace after the bundle's event, and what is then to be moved
  record IsBundled (x : Core) (values : List ℕ) (m : Moment) : Type 0 where
    due : IsDue (bundled n core m)
    site_is : (core_in (bundled n core m)).plain.site ≡ (core_in m).plain.site
    pace : carried (core_in m).plain.site (pace_of (core_in (bundled n core m)))
        ≡ clock (core_in m).plain.site (bundle_event (fetched_in (core_in m).plain) (core_in m).plain)
        (pace_of (core_in m))
    no_line : (carried (core_in m).plain.site (pace_of (core_in (bundled n core m)))).line ≡ None
    halted : RunsOrHalted (core_in (bundled n core m))
    later : (core_in (bundled n core m)).plain.status ≡ Running → m.cycle < (carried (core_in m).plain.site
        (pace_of (core_in (bundled n core m)))).free

  is_bundled : (x : Core) (values : List ℕ) (m : Moment) → IsAboutTo m → IsSlotted (core_in m).plain.site
      → IsBundled x values m
  is_bundled x values m about slots = by (bundled_to m about)
    where
      c : Core
      c = core_in m

      d : Core
      d = core_in (bundled n core m)

      h : Ready m.cycle c
      h = ready m about

      events : List Event
      events = bundle_event (fetched_in c.plain) c.plain

      by : BundledTo c events d → IsBundled x values m
      by (halted_by fault is no_event) =
          let site_is : d.plain.site ≡ c.plain.site = ap (λ (z : Core). z.plain.site) is in
          let words : d.plain.transfer.words ≡ 0 = ap (λ (z : Core). z.plain.transfer.words) is ∙ h.words in
          let free : d.plain.free ≡ m.cycle = ap (λ (z : Core). z.plain.free) is ∙ h.free in
          let same : pace_of d ≡ pace_of c = ap pace_of is in
          let idle : carried c.plain.site (pace_of d) ≡ pace_of c =
          carried_idle c.plain.site (pace_of d) words ∙ same in
          record {
            due = record {
              slots = subst IsSlotted (sym site_is) slots;
              near = omega (arith, free);
              moving = λ more.
                  absurd (omega (arith, more, words));
            };
            site_is = site_is;
            pace = idle ∙ sym (ap (λ es. clock c.plain.site es (pace_of c)) no_event);
            no_line = ap (λ (p : Pace). p.line) idle ∙ about.no_line;
            halted = inr (
              fault,
              (
                ap (λ (z : Core). z.plain.status) is ∙ ap (Trapped fault) (h.free ∙ sym free),
                words,
              ),
            );
            later = λ runs. absurd (let bad : Trapped fault c.plain.free ≡ Running = sym (ap
                (λ (z : Core). z.plain.status) is) ∙ runs in cc);
          }
      by (went asked flow one left) =
          let e : Event = event_of asked in
          let p : Pace = asked_by e (pace_of c) in
          let words : d.plain.transfer.words ≡ p.words = ap (λ (q : Pace). q.words) left.pace in
          let free : d.plain.free ≡ p.free = ap (λ (q : Pace). q.free) left.pace in
          record {
            due = due_of left.site_is (left.status_is ∙ h.status) p words free (asks_of_event asked (pace_of c));
            site_is = left.site_is;
            pace = ap (carried c.plain.site) left.pace ∙ sym (ap (λ es. clock c.plain.site es (pace_of c)) one);
            no_line = ap (λ q. (carried c.plain.site q).line) left.pace ∙ carried_line c.plain.site p (comes_or_none p
                (asks_of_event asked (pace_of c)));
            halted = inl (left.status_is ∙ h.status);
            later = λ runs. subst (λ q. m.cycle < (carried c.plain.site q).free) (sym left.pace)
                (later_by p (asks_of_event asked (pace_of c)));
          }
        where
          due_of : d.plain.site ≡ c.plain.site → d.plain.status ≡ Running → (p : Pace) → d.plain.transfer.words
              ≡ p.words → d.plain.free ≡ p.free → Asks (pace_of c) p → IsDue (bundled n core m)
          due_of site_is status p words free (some_words more same) = record {
            slots = subst IsSlotted (sym site_is) slots;
            near = omega (arith, free, same, h.free);
            moving = λ moves. (status, free ∙ same ∙ h.free);
          }
          due_of site_is status p words free (no_words idle line later) = record {
            slots = subst IsSlotted (sym site_is) slots;
            near = omega (arith, free, later, h.free);
            moving = λ moves. absurd (omega (arith, moves, words, idle, h.words));
          }

          later_by : (p : Pace) → Asks (pace_of c) p → m.cycle < (carried c.plain.site p).free
          later_by p (some_words more same) = let after : p.free < (carried c.plain.site p).free =
              carried_later c.plain.site p slots more in omega (arith, after, same, h.free)
          later_by p (no_words idle line later) = let after : p.free ≤ (carried c.plain.site p).free =
              carried_free c.plain.site p slots in omega (arith, after, later, h.free)

          comes_or_none : (p : Pace) → Asks (pace_of c) p → (0 < p.words) ⊎ (p.line ≡ None)
          comes_or_none p (some_words more same) = inl more
          comes_or_none p (no_words idle line later) = inr (line ∙ about.no_line)

-- ---- the flow

pub gone_site : (goal : Goal) (c : Core) → (gone goal c).plain.site ≡ c.plain.site
gone_site (Within offset) c = refl
gone_site _ c = refl

gone_free : (goal : Goal) (c : Core) → (gone goal c).plain.free ≡ c.plain.free
gone_free (Within offset) c = refl
gone_free _ c = refl

-- a function that is gone to is an event
entered_pace : (base offset : ℕ) (c : Core) → pace_of (entered base offset c)
    ≡ asks_method (method_at c.plain.site.image base) (pace_of c)
entered_pace base offset c = by (is_among base (resident c.seen.misses))
  where
    method : Method
    method = method_at c.plain.site.image base

    fetch : Bool → Transfer
    fetch b = elim b as (λ _. Transfer) [ true ↦ nothing | false ↦ reads (method.words + 1) then_on.Nothing ]

    by : (b : Bool) → ◌≡◌ {A = Pace} (record (pace_of c) {
      write = (fetch b).write;
      words = (fetch b).words;
      line = line_in (fetch b).then;
      misses = touched c.seen.misses method;
    })
        (elim b as (λ _. Pace) [
          | true ↦ record (pace_of c) { write = false; words = 0; line = None; misses = touched c.seen.misses method }
          | false ↦ record (pace_of c) {
            write = false;
            words = method.words + 1;
            line = None;
            misses = touched c.seen.misses method;
          }
        ])
    by true = refl
    by false = refl

method_line : (method : Method) (p : Pace) → (asks_method method p).line ≡ None
method_line method p = by (is_among method.function (resident p.misses))
  where
    by : (b : Bool) → (elim b as (λ _. Pace) [
      | true ↦ record p { write = false; words = 0; line = None; misses = touched p.misses method }
      | false ↦ record p { write = false; words = method.words + 1; line = None; misses = touched p.misses method }
    ]).line ≡ None
    by true = refl
    by false = refl

-- how a flow that is due leaves a core, with its events
record LandsTo (c : Core) (events : List Event) (d : Core) : Type 0 where
  site_is : d.plain.site ≡ c.plain.site
  free : d.plain.free ≡ c.plain.free
  halted : RunsOrHalted d
  pace : carried c.plain.site (pace_of d) ≡ clock c.plain.site events (pace_of c)
  no_line : (carried c.plain.site (pace_of d)).line ≡ None
  settled : runs_idle d.plain.status d.plain.flow ≡ true → is_due_flow d.plain.flow ≡ false
  ran : d.plain.status ≡ Running → c.plain.status ≡ Running
  same : d.plain.status ≡ Running → runs_idle d.plain.status d.plain.flow ≡ false → d ≡ c

-- as it is
lands_same : (c : Core) (events : List Event) → events ≡ [] → c.plain.transfer.words ≡ 0 → line_in c.plain.transfer.then
    ≡ None → RunsOrHalted c
    → (is_running c.plain ≡ true → is_due_flow c.plain.flow ≡ false) → LandsTo c events c
lands_same c events no_event words line halted settled =
    let idle : carried c.plain.site (pace_of c) ≡ pace_of c = carried_idle c.plain.site (pace_of c) words in
    record {
      site_is = refl;
      free = refl;
      halted = halted;
      pace = idle ∙ sym (ap (λ es. clock c.plain.site es (pace_of c)) no_event);
      no_line = ap (λ (p : Pace). p.line) idle ∙ line;
      settled = λ runs. settled (running_idle c.plain words ∙ runs);
      ran = λ runs. runs;
      same = λ runs still. refl;
    }

lands_halted : (c : Core) (u : ℕ) (events : List Event) → events ≡ [] → c.plain.transfer.words ≡ 0
    → line_in c.plain.transfer.then ≡ None → u ≡ c.plain.free
    → LandsTo c events (with_plain (stopped trap.Flow u) c)
lands_halted c u events no_event words line here =
    let idle : carried c.plain.site (pace_of c) ≡ pace_of c = carried_idle c.plain.site (pace_of c) words in
    record {
      site_is = refl;
      free = refl;
      halted = inr (trap.Flow, (ap (Trapped trap.Flow) here, words));
      pace = idle ∙ sym (ap (λ es. clock c.plain.site es (pace_of c)) no_event);
      no_line = ap (λ (p : Pace). p.line) idle ∙ line;
      settled = λ runs. absurd (let bad : false ≡ true = runs in cc);
      ran = λ runs. absurd (let bad : Trapped trap.Flow u ≡ Running = runs in cc);
      same = λ runs still. absurd (let bad : Trapped trap.Flow u ≡ Running = runs in cc);
    }

gone_pace : (goal : Goal) (c : Core) → c.plain.transfer.words ≡ 0 → carried c.plain.site (pace_of (gone goal c))
    ≡ clock c.plain.site (goal_event goal c.plain) (pace_of c)
gone_pace (Within offset) c words = carried_idle c.plain.site (pace_of c) words
gone_pace (Call target) c words = ap (carried c.plain.site) (entered_pace target 0 (with_plain with_return c))
gone_pace (Fill target) c words = ap (carried c.plain.site) (entered_pace target 0 c)
gone_pace (Return base offset) c words = ap (carried c.plain.site) (entered_pace base offset c)

gone_line : (goal : Goal) (c : Core) → line_in c.plain.transfer.then ≡ None → line_in (gone goal c).plain.transfer.then
    ≡ None
gone_line (Within offset) c line = line
gone_line (Call target) c line = ap (λ (p : Pace). p.line) (entered_pace target 0 (with_plain with_return c))
    ∙ method_line (method_at c.plain.site.image target) (pace_of c)
gone_line (Fill target) c line =
    ap (λ (p : Pace). p.line) (entered_pace target 0 c) ∙ method_line (method_at c.plain.site.image target) (pace_of c)
gone_line (Return base offset) c line = ap (λ (p : Pace). p.line) (entered_pace base offset c)
    ∙ method_line (method_at c.plain.site.image base) (pace_of c)

lands_gone : (goal : Goal) (c : Core) (events : List Event) → events ≡ goal_event goal c.plain → c.plain.transfer.words
    ≡ 0 → line_in c.plain.transfer.then ≡ None → c.plain.status ≡ Running
    → LandsTo c events (gone goal c)
lands_gone goal c events event words line status = record {
  site_is = gone_site goal c;
  free = gone_free goal c;
  halted = inl (gone_status goal c ∙ status);
  pace = gone_pace goal c words ∙ sym (ap (λ es. clock c.plain.site es (pace_of c)) event);
  no_line = carried_line c.plain.site (pace_of (gone goal c)) (inr (gone_line goal c line));
  settled = λ runs. ap is_due_flow (gone_flow goal c);
  ran = λ runs. status;
  same = λ runs still.
      let on : runs_idle (gone goal c).plain.status (gone goal c).plain.flow ≡ true =
      λ i. runs_idle (runs i) (gone_flow goal c i) in
      absurd (let bad : true ≡ false = sym on ∙ still in cc);
}

lands_to : (c : Core) (u : ℕ) → c.plain.transfer.words ≡ 0 → c.plain.free ≡ u → line_in c.plain.transfer.then ≡ None
    → RunsOrHalted c → LandsTo c (landing_event u c.plain) (landed u c)
lands_to c u words free line halted = by (is_running c.plain) refl
  where
    free_test : is_free u c.plain ≡ true
    free_test = and_from (c.plain.transfer.words == 0) (c.plain.free == u) (eq-eqb c.plain.transfer.words 0 words)
        (eq-eqb c.plain.free u free)

    events_by : Bool → List Event
    events_by b = elim b as (λ _. List Event) [ true ↦ flow_event u c.plain | false ↦ [] ]

    at : (d : Core) → landed u c ≡ d → LandsTo c (landing_event u c.plain) d
        → LandsTo c (landing_event u c.plain) (landed u c)
    at d is h = subst (LandsTo c (landing_event u c.plain)) (sym is) h

    not_due_free : (is_free u c.plain ≡ false) ⊎ (is_due_flow c.plain.flow ≡ false) → is_due_flow c.plain.flow ≡ false
    not_due_free (inl busy) = absurd (let bad : true ≡ false = sym free_test ∙ busy in cc)
    not_due_free (inr not_due) = not_due

    running : is_running c.plain ≡ true → landing_event u c.plain ≡ flow_event u c.plain
        → Lands u c (flowed u c) (flow_event u c.plain) → LandsTo c (landing_event u c.plain) (landed u c)
    running runs events (stays is no_event not_due) =
        at c (landed_running c u runs ∙ is) (lands_same c (landing_event u c.plain) (events ∙ no_event) words line
        halted (λ _. not_due_free not_due))
    running runs events (halts test is no_event) =
        at (with_plain (stopped trap.Flow u) c) (landed_running c u runs ∙ is)
        (lands_halted c u (landing_event u c.plain) (events ∙ no_event) words line (sym free))
    running runs events (goes goal test is event) =
        at (gone goal c) (landed_running c u runs ∙ is) (lands_gone goal c (landing_event u c.plain) (events ∙ event)
        words line (running_status c.plain runs))

    by : (b : Bool) → is_running c.plain ≡ b → LandsTo c (landing_event u c.plain) (landed u c)
    by false still =
        at c (landed_stopped c u still)
        (lands_same c (landing_event u c.plain) (ap events_by still) words line halted
        (λ runs. absurd (let bad : true ≡ false = sym runs ∙ still in cc)))
    by true runs = running runs (ap events_by runs) (lands c u)

pub clock-append : (site : Site) (es fs : List Event) (p : Pace) → clock site (es ++ fs) p
    ≡ clock site fs (clock site es p)
clock-append site [] fs p = refl
clock-append site (e ∷ es) fs p = clock-append site es fs (carried site (asked_by e p))

module _ (n core : ℕ) where
  landing_finishes : (m : Moment) → finished n core m ≡ finished n core (landing m)
  landing_finishes m =
      let c : Core = core_in m in
      let h = landed_first c m.cycle in
      λ i. record {
        cycle = suc m.cycle;
        told = by_task (fed (stamp n core m.cycle 1) (and_then (sym h.act i) settled) m.told.run.left) m.told;
        bundles = m.bundles ++ done_by m.cycle (sym h.still i);
      }

  -- what was moved leaves a core that runs, or was stopped, so
  pub moved_halted : (x : Core) (values : List ℕ) (m : Moment) → IsAllMoved n core x values m → RunsOrHalted (core_in m)
      → RunsOrHalted (core_in (all_moved n core m))
  moved_halted x values m moved (inl runs) = inl (moved.left.status_is ∙ runs)
  moved_halted x values m moved (inr halted) =
      let p : Pace = pace_of (core_in m) in
      let same : pace_of (core_in (all_moved n core m)) ≡ p =
      moved.left.pace ∙ carried_idle (core_in m).plain.site p halted.1.1 in
      inr (
        halted.0,
        (
          moved.left.status_is ∙ halted.1.0 ∙ ap (Trapped halted.0) (sym (ap (λ (q : Pace). q.free) same)),
          moved.words,
        ),
      )

  -- a core that is about to do a bundle comes to the next such moment, ends, or is stopped
  pub record GoesOnward (x : Core) (values : List ℕ) (m : Moment) : Type 0 where
    pub passes : Passes n core x values (next n core m)
    pub comes : ComesTo (next n core m)
    pub free : (core_in (next n core m)).plain.free ≡ (next n core m).cycle
    pub later : (core_in (next n core m)).plain.status ≡ Running → m.cycle < (next n core m).cycle
    pub ended_before : (core_in (next n core m)).plain.status ≡ Running → is_running (core_in (next n core m)).plain
        ≡ false → Enters n core x values (next n core m)
    pub site_is : (core_in (next n core m)).plain.site ≡ (core_in m).plain.site
    pub pace : pace_of (core_in (next n core m)) ≡ clock (core_in m).plain.site (events_in n core m)
        (pace_of (core_in m))

  pub comes_to : (m : Moment) → (core_in m).plain.free ≡ m.cycle → (core_in m).plain.transfer.words ≡ 0
      → line_in (core_in m).plain.transfer.then ≡ None → RunsOrHalted (core_in m)
      → (is_running (core_in m).plain ≡ true → is_due_flow (core_in m).plain.flow ≡ false) → ComesTo m
  comes_to m free words line halted settled = by (is_running (core_in m).plain) refl halted
    where
      y : Plain
      y = (core_in m).plain

      has_end : (b : Bool) → not b ≡ false → b ≡ true
      has_end true e = refl
      has_end false e = cc

      by : (b : Bool) → is_running y ≡ b → RunsOrHalted (core_in m) → ComesTo m
      by true runs halted = about_to (record {
        running = runs;
        free = and_from (y.transfer.words == 0) (y.free == m.cycle) (eq-eqb y.transfer.words 0 words)
            (eq-eqb y.free m.cycle free);
        settled = settled runs;
        no_line = line;
      })
      by false still (inl runs) =
          let test : not (has_ended y) ≡ false =
          sym (ap (λ (s : Status). elim s as (λ _. Bool) [
            | Idle ↦ false
            | Running ↦ not (has_ended y)
            | Trapped t at ↦
                false
          ]) runs) ∙ still in
          ended runs (has_end (has_ended y) test) free
      by false still (inr stop) = trapped stop.0 (stop.1.0 ∙ ap (Trapped stop.0) free)

  -- after its bundle, the words of which are moved, a core has nothing to move, and goes on in that cycle
  pub record IsAfter (m : Moment) : Type 0 where
    pub words : (core_in (all_moved n core (bundled n core m))).plain.transfer.words ≡ 0
    pub free : (core_in (all_moved n core (bundled n core m))).plain.free ≡ (all_moved n core (bundled n core m)).cycle

  pub is_after : (x : Core) (values : List ℕ) (m : Moment) → IsAtBundle n core x values m → IsAfter m
  is_after x values m at =
      let one : IsBundled n core x values m = is_bundled n core x values m at.about at.slots in
      let a : IsAllMoved n core x values (bundled n core m) =
      moves_all n core x values (bundled n core m) one.due (at.passes ∙ bundle_finishes n core m at.about) in
      record { words = a.words; free = sym a.cycle }

  pub goes_onward : (x : Core) (values : List ℕ) (m : Moment) → IsAtBundle n core x values m → GoesOnward x values m
  goes_onward x values m at =
      let slots : IsSlotted (core_in m).plain.site = at.slots in
      let about : IsAboutTo m = at.about in
      let site : Site = (core_in m).plain.site in
      let p : Pace = pace_of (core_in m) in
      let b : Moment = bundled n core m in
      let events : List Event = bundle_event (fetched_in (core_in m).plain) (core_in m).plain in
      let one : IsBundled n core x values m = is_bundled n core x values m about slots in
      let m1 : Moment = all_moved n core b in
      let a1 : IsAllMoved n core x values b =
      moves_all n core x values b one.due (at.passes ∙ bundle_finishes n core m about) in
      let site1 : (core_in m1).plain.site ≡ site = a1.left.site_is ∙ one.site_is in
      let pace1 : pace_of (core_in m1) ≡ carried site (pace_of (core_in b)) =
      a1.left.pace ∙ ap (λ s. carried s (pace_of (core_in b))) one.site_is in
      let line1 : line_in (core_in m1).plain.transfer.then ≡ None = ap (λ (q : Pace). q.line) pace1 ∙ one.no_line in
      let later : List Event = landing_event m1.cycle (core_in m1).plain in
      let l : LandsTo (core_in m1) later (core_in (landing m1)) =
      lands_to (core_in m1) m1.cycle a1.words (sym a1.cycle) line1 (moved_halted x values b a1 one.halted) in
      let m2 : Moment = landing m1 in
      let due2 : IsDue m2 = record {
        slots = subst IsSlotted (sym (l.site_is ∙ site1)) slots;
        near = omega (arith, l.free, a1.cycle);
        moving = λ more. (status_moving m2 l.halted more, l.free ∙ sym a1.cycle);
      } in
      let a3 : IsAllMoved n core x values m2 = moves_all n core x values m2 due2 (a1.passes ∙ landing_finishes m1) in
      let m3 : Moment = all_moved n core m2 in
      let pace3 : pace_of (core_in m3) ≡ carried (core_in m1).plain.site (pace_of (core_in m2)) =
      a3.left.pace ∙ ap (λ s. carried s (pace_of (core_in m2))) l.site_is in
      let idle3 : is_running (core_in m3).plain ≡ runs_idle (core_in m2).plain.status (core_in m2).plain.flow =
      running_idle (core_in m3).plain a3.words ∙ (λ i. runs_idle (a3.left.status_is i) (a3.left.flow_is i)) in
      record {
        passes = a3.passes;
        comes = comes_to m3 (sym a3.cycle) a3.words (ap (λ (q : Pace). q.line) pace3 ∙ l.no_line)
            (moved_halted x values m2 a3 l.halted)
            (λ runs. ap is_due_flow a3.left.flow_is ∙ l.settled (sym idle3 ∙ runs));
        free = sym a3.cycle;
        later = λ runs.
            let ran : (core_in b).plain.status ≡ Running =
            sym a1.left.status_is ∙ l.ran (sym a3.left.status_is ∙ runs) in
            let first : m.cycle < (carried site (pace_of (core_in b))).free = one.later ran in
            let free1 : (core_in m1).plain.free ≡ (carried site (pace_of (core_in b))).free =
            ap (λ (q : Pace). q.free) pace1 in
            let free3 : (core_in m3).plain.free ≡ (carried (core_in m2).plain.site (pace_of (core_in m2))).free =
            ap (λ (q : Pace). q.free) a3.left.pace in
            let grows : (core_in m2).plain.free ≤ (carried (core_in m2).plain.site (pace_of (core_in m2))).free =
            carried_free (core_in m2).plain.site (pace_of (core_in m2)) due2.slots in
            omega (arith, first, free1, free3, grows, l.free, a3.cycle);
        ended_before = λ runs still.
            let ran : (core_in b).plain.status ≡ Running =
            sym a1.left.status_is ∙ l.ran (sym a3.left.status_is ∙ runs) in
            let first : m.cycle < (carried site (pace_of (core_in b))).free = one.later ran in
            let free1 : (core_in m1).plain.free ≡ (carried site (pace_of (core_in b))).free =
            ap (λ (q : Pace). q.free) pace1 in
            let same_core : core_in m2 ≡ core_in m1 = l.same (sym a3.left.status_is ∙ runs) (sym idle3 ∙ still) in
            let same2 : m2 ≡ m1 =
            ap (λ c. record m1 { told = record m1.told { run = record m1.told.run { core = c } } }) same_core in
            let same3 : m3 ≡ m1 =
            ap (all_moved n core) same2 ∙ nothing_moved n core m1 a1.words ∙ freed_now n core m1 (sym a1.cycle) in
            subst (Enters n core x values) (sym same3) (a1.enters_it (omega (arith, first, free1)));
        site_is = a3.left.site_is ∙ l.site_is ∙ site1;
        pace = pace3 ∙ l.pace
            ∙ (λ i. clock (site1 i) later (pace1 i))
            ∙ ap (clock site later) one.pace
            ∙ sym (clock-append site events later p);
      }
    where
      status_moving : (m2 : Moment) → RunsOrHalted (core_in m2) → 0 < (core_in m2).plain.transfer.words
          → (core_in m2).plain.status ≡ Running
      status_moving m2 (inl runs) more = runs
      status_moving m2 (inr halted) more = absurd (omega (arith, more, halted.1.1))

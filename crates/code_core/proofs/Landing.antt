-- A flow that is due takes effect in a core as in a walk.
use Rattle.std.proofs.Common.{◌≡◌, if◌then◌else◌, ℕ, zero, suc, ◌+◌, ◌==◌, ◌&&◌, not, Bool, true, false, List, [], ◌∷◌, Option, None, Some, inl, inr, ◌⊎◌, refl, sym, ap, ◌∙◌, subst, arith, true≢false}
use Rattle.std.specs.List.{list_any}
use Rattle.std.proofs.lemmas.Bool.{eqb-true, eq-eqb, ne_eqb, and_parts, and_from}
use Rattle.method_cache.specs.declared.cache.Method.{Method}
use Rattle.method_cache.specs.Residents.{resident, is_among}
use Rattle.patmos_code.specs.Images.{Parts}
use Rattle.patmos_sem.specs.declared.pending.Pending.{Pending}
use Rattle.patmos_model.specs.declared.flow.Flow.{Flow}
use Rattle.patmos_model.specs.declared.flow.Goal.{Goal}
use Rattle.patmos_model.specs.declared.flow.Goal.TheVariants as goal
use Rattle.patmos_model.specs.declared.state.Status.{Status}
use Rattle.patmos_model.specs.declared.state.Status.TheVariants.{Idle, Running, Trapped}
use Rattle.patmos_model.specs.declared.transfer.Transfer.{Transfer}
use Rattle.patmos_model.specs.declared.transfer.Then.TheVariants as then_on
use Rattle.patmos_model.specs.declared.trap.Trap.TheVariants as trap
use Rattle.patmos_model.specs.Flows as model
use Rattle.patmos_model.specs.Flows.{fetch_of, is_placed, taken}
use Rattle.patmos_model.specs.Site.{Site, method_at}
use Rattle.patmos_model.specs.State.{Plain, Core, with_plain, stopped, is_end, has_ended, is_running, is_free}
use Rattle.patmos_model.specs.Transfers.{nothing, reads}
use Rattle.core_pace.specs.Moment.{landed}
use Rattle.core_pace.specs.Next.{is_due_flow}
use Rattle.core_pace.specs.Pace.{Event, came, goal_event, flow_event, landing_event}
use Rattle.core_pace.proofs.OwnActs.{Lands, stays, halts, goes, lands, landed_running, landed_stopped, flow_stays}
use Rattle.tc_link.proofs.Cores.{placed_alike, gone_alike}
use Rattle.tc_link.specs.Walk.{Walk, due, due_in, is_place, gone, gone_if, flowed, HasPlace, IsPlaced}
use Rattle.code_core.specs.Held.{HoldsStack, HoldsPorts}
use Rattle.code_core.specs.Goes.{Goes, goal_events}

-- ---- whatever takes effect

-- nothing is to be moved, or nothing is after what is
abbrev pub Rests : Transfer → Type 0
Rests t = (t.words ≡ 0) ⊎ (t.then ≡ then_on.Nothing)

pub fetch_rests : (misses : List Method) (method : Method) → Rests (fetch_of misses method)
fetch_rests misses method = by (is_among method.function (resident misses))
  where
    by : (b : Bool) → Rests (elim b as (λ _. Transfer) [
      | true ↦ nothing
      | false ↦ reads (method.words + 1)
          then_on.Nothing
    ])
    by true = inl refl
    by false = inr refl

pub gone_rests : (to : Goal) (c : Core) → Rests c.plain.transfer → Rests (model.gone to c).plain.transfer
gone_rests (goal.Within offset) c r = r
gone_rests (goal.Call target) c r = fetch_rests c.seen.misses (method_at c.plain.site.image target)
gone_rests (goal.Fill target) c r = fetch_rests c.seen.misses (method_at c.plain.site.image target)
gone_rests (goal.Return base offset) c r = fetch_rests c.seen.misses (method_at c.plain.site.image base)

gone_pending : (to : Goal) (c : Core) → (model.gone to c).plain.regs.pending ≡ c.plain.regs.pending
gone_pending (goal.Within offset) c = refl
gone_pending _ c = refl

-- what is pending stays so
pub record KeepsPending (p : Pending) (c : Core) : Type 0 where
  pub pending : c.plain.regs.pending ≡ p
  pub rests : Rests c.plain.transfer

pub landed_pending : (u : ℕ) (c : Core) → Rests c.plain.transfer → KeepsPending c.plain.regs.pending (landed u c)
landed_pending u c r = by (is_running c.plain) refl
  where
    as_it : KeepsPending c.plain.regs.pending c
    as_it = record { pending = refl; rests = r }

    so : (d : Core) (events : List Event) → Lands u c d events → KeepsPending c.plain.regs.pending d
    so d events (stays is none not_due) = subst (KeepsPending c.plain.regs.pending) (sym is) as_it
    so d events (halts free is none) =
        subst (KeepsPending c.plain.regs.pending) (sym is) (record { pending = refl; rests = r })
    so d events (goes to free is some) = subst (KeepsPending c.plain.regs.pending) (sym is)
        (record { pending = gone_pending to c; rests = gone_rests to c r })

    by : (b : Bool) → is_running c.plain ≡ b → KeepsPending c.plain.regs.pending (landed u c)
    by false still = subst (KeepsPending c.plain.regs.pending) (sym (landed_stopped c u still)) as_it
    by true runs = subst (KeepsPending c.plain.regs.pending) (sym (landed_running c u runs))
        (so (model.flowed u c) (flow_event u c.plain) (lands c u))

-- ---- a core that runs

pub ended_by : (x : Plain) (f : Flow) → x.flow ≡ Some f → x.transfer.words ≡ 0 → has_ended x ≡ is_end f
ended_by x f is none =
    ap (λ o. elim o as (λ _. Bool) [ None ↦ false | Some g ↦ is_end g && (x.transfer.words == 0) ]) is
    ∙ ap (λ b. is_end f && b) (eq-eqb x.transfer.words 0 none) ∙ right (is_end f)
  where
    right : (b : Bool) → (b && true) ≡ b
    right true = refl
    right false = refl

pub running_by : (x : Plain) (b : Bool) → x.status ≡ Running → has_ended x ≡ b → is_running x ≡ not b
running_by x b status ended =
    ap (λ (s : Status). elim s as (λ _. Bool) [ Idle ↦ false | Running ↦ not (has_ended x) | Trapped t at ↦ false ])
    status ∙ ap not ended

-- a flow that is not due is no end
pub waits_on : (x : Plain) → is_due_flow x.flow ≡ false → has_ended x ≡ false
waits_on x = by x.flow
  where
    slow : (to : Goal) (slots : ℕ) → (slots == 0) ≡ false → is_end (record { goal = to; slots = slots }) ≡ false
    slow (goal.Within offset) slots e = refl
    slow (goal.Call target) slots e = refl
    slow (goal.Fill target) slots e = refl
    slow (goal.Return base offset) slots e = by (base == 0)
      where
        by : (b : Bool) → (b && (slots == 0)) ≡ false
        by true = e
        by false = refl

    by : (flow : Option Flow) → is_due_flow flow ≡ false
        → (elim flow as (λ _. Bool) [ None ↦ false | Some f ↦ is_end f && (x.transfer.words == 0) ]) ≡ false
    by None e = refl
    by (Some f) e = ap (λ b. b && (x.transfer.words == 0)) (slow f.goal f.slots e)

-- ---- a flow that is due

-- no function starts at word 0
abbrev pub StartsAfter : Parts → Type 0
StartsAfter image = list_any (λ start. 0 == start) image.starts ≡ false

-- a flow to a place of the image is no end
goal_end : (image : Parts) (base : ℕ) (to : Goal) → StartsAfter image → is_place image base to ≡ true
    → is_end (record { goal = to; slots = 0 }) ≡ false
goal_end image base (goal.Within offset) behind placed = refl
goal_end image base (goal.Call target) behind placed = refl
goal_end image base (goal.Fill target) behind placed = refl
goal_end image base (goal.Return back offset) behind placed = by (back == 0) refl
  where
    by : (b : Bool) → (back == 0) ≡ b → is_end (record { goal = goal.Return back offset; slots = 0 }) ≡ false
    by false is = ap (λ t. t && (0 == 0)) is
    by true is =
        let here : list_any (λ start. 0 == start) image.starts ≡ true =
        ap (λ k. list_any (λ start. k == start) image.starts) (sym (eqb-true back 0 is))
        ∙ (and_parts (list_any (λ start. back == start) image.starts) _ placed).0 in
        absurd (true≢false (sym here ∙ behind))

-- whether a goal is due
pub data DueCase (flow : Option Flow) : Type 0 where
  none_due : due flow ≡ None → is_due_flow flow ≡ false → DueCase flow
  is_due : (to : Goal) → due flow ≡ Some to → flow ≡ Some (record { goal = to; slots = 0 }) → DueCase flow

pub due_case : (flow : Option Flow) → DueCase flow
due_case None = none_due refl refl
due_case (Some f) = by f.slots refl
  where
    by : (slots : ℕ) → f.slots ≡ slots → DueCase (Some f)
    by zero is = is_due f.goal (ap (λ k. due_in k f.goal) is) (ap (λ k. Some (record { goal = f.goal; slots = k })) is)
    by (suc slots) is =
        none_due (ap (λ k. due_in k f.goal) is) (ap (λ k. k == 0) is ∙ ne_eqb (suc slots) 0 (λ e. omega (arith, e)))

-- a core and a walk that are at one place, with their transfers done
pub record Meets (site : Site) (u : ℕ) (w : Walk) (c : Core) : Type 0 where
  pub goes : Goes w c.plain
  pub site_is : c.plain.site ≡ site
  pub status : c.plain.status ≡ Running
  pub words : c.plain.transfer.words ≡ 0
  pub free : c.plain.free ≡ u

-- the core where the walk comes to
pub record Lies (site : Site) (w : Walk) (c : Core) : Type 0 where
  pub goes : Goes w c.plain
  pub site_is : c.plain.site ≡ site
  pub status : c.plain.status ≡ Running
  pub rests : Rests c.plain.transfer

-- with the events of it
pub record LiesBy (site : Site) (u : ℕ) (to : Option Goal) (w : Walk) (c : Core) : Type 0 where
  pub lies : Lies site w (landed u c)
  pub events : landing_event u c.plain ≡ goal_events site.image to
  pub settled : is_due_flow w.flow ≡ false

module _ (site : Site) (u : ℕ) where
  free_test : (w : Walk) (c : Core) → Meets site u w c → is_free u c.plain ≡ true
  free_test w c h = and_from (c.plain.transfer.words == 0) (c.plain.free == u) (eq-eqb c.plain.transfer.words 0 h.words)
      (eq-eqb c.plain.free u h.free)

  -- nothing is due
  rests_on : (w : Walk) (c : Core) → Meets site u w c → is_due_flow w.flow ≡ false → LiesBy site u None w c
  rests_on w c h waits = record {
    lies = subst (Lies site w) (sym same) (record {
      goes = h.goes;
      site_is = h.site_is;
      status = h.status;
      rests = inl h.words;
    });
    events = ap (λ b. elim b as (λ _. List Event) [ true ↦ flow_event u c.plain | false ↦ [] ]) runs ∙ none;
    settled = waits;
  }
    where
      waits_there : is_due_flow c.plain.flow ≡ false
      waits_there = ap is_due_flow (sym h.goes.is_as.flow) ∙ waits

      runs : is_running c.plain ≡ true
      runs = running_by c.plain false h.status (waits_on c.plain waits_there)

      same : landed u c ≡ c
      same = landed_running c u runs ∙ flow_stays c u waits_there

      no_event : (flow : Option Flow) → is_due_flow flow ≡ false → elim flow as (λ _. List Event) [
        | None ↦ []
        | Some f ↦ elim (f.slots == 0) as (λ _. List Event) [
          | true ↦ elim (is_placed f.goal c.plain) as (λ _. List Event) [
            | true ↦ goal_event f.goal c.plain
            | false ↦
                []
          ]
          | false ↦ []
        ]
      ] ≡ []
      no_event None e = refl
      no_event (Some f) e = ap (λ b. elim b as (λ _. List Event) [
        | true ↦ elim (is_placed f.goal c.plain) as (λ _. List Event) [ true ↦ goal_event f.goal c.plain | false ↦ [] ]
        | false ↦ []
      ]) e

      none : flow_event u c.plain ≡ []
      none = ap (λ b. elim b as (λ _. List Event) [
        | true ↦ elim c.plain.flow as (λ _. List Event) [
          | None ↦ []
          | Some f ↦ elim (f.slots == 0) as (λ _. List Event) [
            | true ↦ elim (is_placed f.goal c.plain) as (λ _. List Event) [
              | true ↦ goal_event f.goal c.plain
              | false ↦
                  []
            ]
            | false ↦ []
          ]
        ]
        | false ↦ []
      ]) (free_test w c h) ∙ no_event c.plain.flow waits_there

  gone_stack : (to : Goal) (w : Walk) (c : Core) → HoldsStack w.run c.plain.stack c.plain.private
      → HoldsStack (gone to w).run (model.gone to c).plain.stack (model.gone to c).plain.private
  gone_stack (goal.Call target) w c h =
      record { is_stack = h.is_stack; st = h.st; ss = h.ss; held = h.held; spilled = h.spilled }
  gone_stack _ w c h = h

  gone_ports : (to : Goal) (w : Walk) (c : Core) → HoldsPorts w.run.memory c.plain.interface
      → HoldsPorts (gone to w).run.memory (model.gone to c).plain.interface
  gone_ports (goal.Within offset) w c h = h
  gone_ports _ w c h = h

  gone_kept : (to : Goal) (c : Core) → ((model.gone to c).plain.site ≡ c.plain.site) × ((model.gone to c).plain.status
      ≡ c.plain.status)
  gone_kept (goal.Within offset) c = (refl, refl)
  gone_kept _ c = (refl, refl)

  gone_flow : (to : Goal) (w : Walk) → is_due_flow (gone to w).flow ≡ false
  gone_flow (goal.Within offset) w = refl
  gone_flow _ w = refl

  -- of a goal that is a place
  events_of : (to : Goal) (x : Plain) → x.site.image ≡ site.image → is_end (record { goal = to; slots = 0 }) ≡ false
      → goal_event to x ≡ goal_events site.image (Some to)
  events_of (goal.Within offset) x is more = refl
  events_of (goal.Call target) x is more = ap (λ i. came (method_at i target) ∷ []) is
  events_of (goal.Fill target) x is more = ap (λ i. came (method_at i target) ∷ []) is
  events_of (goal.Return back offset) x is more = by (back == 0) refl
    where
      by : (b : Bool) → (back == 0) ≡ b → came (method_at x.site.image back) ∷ []
          ≡ (if back == 0 then [] else came (method_at site.image back) ∷ [])
      by true same = absurd (true≢false (sym (ap (λ t. t && (0 == 0)) same) ∙ more))
      by false same = ap (λ i. came (method_at i back) ∷ []) is
          ∙ sym (ap (λ t. if t then [] else came (method_at site.image back) ∷ []) same)

  -- a goal is due
  lands_on : (to : Goal) (w : Walk) (c : Core) → Meets site u w c → StartsAfter site.image → w.flow
      ≡ Some (record { goal = to; slots = 0 }) → is_place site.image w.base to ≡ true
      → LiesBy site u (Some to) (gone to w) c
  unfolding model.flowed
  lands_on to w c h behind flow placed = record {
    lies = subst (Lies site (gone to w)) (sym there) (record {
      goes = record {
        is_as = gone_alike to c w h.goes.is_as;
        stack = gone_stack to w c h.goes.stack;
        ports = gone_ports to w c h.goes.ports;
      };
      site_is = (gone_kept to c).0 ∙ h.site_is;
      status = (gone_kept to c).1 ∙ h.status;
      rests = gone_rests to c (inl h.words);
    });
    events = ap (λ b. elim b as (λ _. List Event) [ true ↦ flow_event u c.plain | false ↦ [] ]) runs ∙ one
        ∙ events_of to c.plain (ap (λ (s : Site). s.image) h.site_is) (goal_end site.image w.base to behind placed);
    settled = gone_flow to w;
  }
    where
      flow_there : c.plain.flow ≡ Some (record { goal = to; slots = 0 })
      flow_there = sym h.goes.is_as.flow ∙ flow

      runs : is_running c.plain ≡ true
      runs = running_by c.plain false h.status (ended_by c.plain (record { goal = to; slots = 0 }) flow_there h.words
          ∙ goal_end site.image w.base to behind placed)

      placed_there : is_placed to c.plain ≡ true
      placed_there = placed_alike to c.plain ∙ (λ i. is_place (h.site_is i).image (sym h.goes.is_as.base i) to) ∙ placed

      goes_there : model.flowed u c ≡ model.gone to c
      goes_there = flows_due
        where
          flows_due : model.flowed u c ≡ model.gone to c
          flows_due =
              ap (λ b. elim b as (λ _. Core) [
                | true ↦ elim c.plain.flow as (λ _. Core) [
                  | None ↦ c
                  | Some f ↦ elim (f.slots == 0) as (λ _. Core)
                      [ true ↦ taken u f.goal c | false ↦ c ]
                ]
                | false ↦ c
              ]) (free_test w c h)
              ∙ ap (λ flow. elim flow as (λ _. Core) [
                | None ↦ c
                | Some f ↦ elim (f.slots == 0) as (λ _. Core)
                    [ true ↦ taken u f.goal c | false ↦ c ]
              ]) flow_there
              ∙ ap (λ b. elim b as (λ _. Core) [ true ↦ model.gone to c | false ↦ with_plain (stopped trap.Flow u) c ])
              placed_there

      there : landed u c ≡ model.gone to c
      there = landed_running c u runs ∙ goes_there

      one : flow_event u c.plain ≡ goal_event to c.plain
      one =
          ap (λ b. elim b as (λ _. List Event) [
            | true ↦ elim c.plain.flow as (λ _. List Event) [
              | None ↦ []
              | Some f ↦ elim (f.slots == 0) as (λ _. List Event) [
                | true ↦ elim (is_placed f.goal c.plain) as (λ _. List Event)
                    [ true ↦ goal_event f.goal c.plain | false ↦ [] ]
                | false ↦ []
              ]
            ]
            | false ↦ []
          ]) (free_test w c h)
          ∙ ap (λ flow. elim flow as (λ _. List Event) [
            | None ↦ []
            | Some f ↦ elim (f.slots == 0) as (λ _. List Event) [
              | true ↦ elim (is_placed f.goal c.plain) as (λ _. List Event) [
                | true ↦ goal_event f.goal c.plain
                | false ↦
                    []
              ]
              | false ↦ []
            ]
          ]) flow_there
          ∙ ap (λ b. elim b as (λ _. List Event) [ true ↦ goal_event to c.plain | false ↦ [] ]) placed_there

  -- what is due takes effect, where it is a place
  pub lands_as : (w : Walk) (c : Core) → Meets site u w c → StartsAfter site.image → IsPlaced site.image w
      → LiesBy site u (due w.flow) (flowed w) c
  lands_as w c h behind placed = by (due_case w.flow)
    where
      by : DueCase w.flow → LiesBy site u (due w.flow) (flowed w) c
      by (none_due none waits) = subst (λ o. LiesBy site u o (gone_if o w) c) (sym none) (rests_on w c h waits)
      by (is_due to due_is flow) = subst (λ o. LiesBy site u o (gone_if o w) c) (sym due_is)
          (lands_on to w c h behind flow (subst (HasPlace site.image w.base) due_is placed))

  -- a return to base 0 is the end
  pub ends_there : (w : Walk) (c : Core) (offset : ℕ) → Meets site u w c → w.flow
      ≡ Some (record { goal = goal.Return 0 offset; slots = 0 })
      → (has_ended c.plain ≡ true) × ((landed u c ≡ c) × (landing_event u c.plain ≡ []))
  ends_there w c offset h flow =
      let ended : has_ended c.plain ≡ true = ended_by c.plain (record { goal = goal.Return 0 offset; slots = 0 })
      (sym h.goes.is_as.flow ∙ flow) h.words in
      let still : is_running c.plain ≡ false = running_by c.plain true h.status ended in (
        ended,
        (
          landed_stopped c u still,
          ap (λ b. elim b as (λ _. List Event) [ true ↦ flow_event u c.plain | false ↦ [] ]) still,
        ),
      )

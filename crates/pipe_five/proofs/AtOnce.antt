-- A bundle that the core does by itself, in a cycle of the machine of one core.
use Rattle.std.proofs.Common.{◌≡◌, ◌≢◌, ℕ, suc, ◌+◌, ◌<◌, ◌==◌, Bool, true, false, [], ◌∷◌, ◌++◌, Option, None, Some, refl, sym, ap, ◌∙◌, subst, arith}
use Rattle.std.proofs.lemmas.Bool.{lt-ltb}
use Rattle.shared_order.specs.Program.{done, and_then}
use Rattle.argo_ni.specs.Turn.{delivery, injection}
use Rattle.patmos_model.specs.declared.flow.Flow.{Flow}
use Rattle.patmos_model.specs.declared.flow.Goal.TheVariants.{Within}
use Rattle.patmos_model.specs.declared.state.Status.TheVariants.{Running}
use Rattle.patmos_model.specs.declared.trap.Trap.TheVariants as trap
use Rattle.patmos_model.specs.Site.{size_at}
use Rattle.patmos_model.specs.State.{Plain, Core, is_running, is_free, with_plain, stopped}
use Rattle.patmos_model.specs.Cells.{Acted, now}
use Rattle.patmos_model.specs.Flows.{flowed, taken, gone}
use Rattle.patmos_model.specs.Cycle.{turn, own, settled}
use Rattle.patmos_model.proofs.Leaves.{Leaves}
use Rattle.patmos_step.specs.declared.body.Body.{Body}
use Rattle.patmos_step.specs.declared.plan.Plan.{Plan}
use Rattle.patmos_step.specs.declared.plan.Plan.TheVariants.{Nothing, Waits, Does}
use Rattle.patmos_step.specs.Plan.{planned, carried_out, IsSettled}
use Rattle.patmos_step.specs.Shown.{Shows, core_of, plain_of}
use Rattle.patmos_alone.specs.Alone.{CanBegin, CanLand, IsAlone}
use Rattle.patmos_step.proofs.Own.{own_is_planned, flowed_settled}
use Rattle.core_pace.specs.Moment.{landed, done_in, fetched_in, passes}
use Rattle.core_pace.proofs.OwnActs.{landed_running, landed_first, flow_stays, gone_runs, running_status}
use Rattle.core_pace.specs.Next.{is_due_flow}
use Rattle.pipe_five.specs.declared.latches.Latches.{Latches}
use Rattle.pipe_five.specs.declared.lone.Lone.{Lone}
use Rattle.pipe_five.specs.Steps.{core_before, done_below}
use Rattle.pipe_five.specs.Latches.{shifted}
use Rattle.pipe_five.specs.Lone.{RunsAs, IsNextBundle}
use Rattle.pipe_five.proofs.Carried.{IsRun}
use Rattle.pipe_five.proofs.Cycles.{never_turns, first_quiet, second_quiet, next_core, next_words}
use Rattle.pipe_five.proofs.Kept.{keeps_start, stops_at}
use Rattle.pipe_five.proofs.Landing.{Placed, landed_goes}
use Rattle.pipe_five.proofs.Told.{one_passed}

-- ---- where the next bundle stands

-- a core that runs and is free begins with it
pub can_begin : (t : ℕ) (x : Plain) → is_running x ≡ true → is_free t x ≡ true → CanBegin t x
can_begin t x runs free = record { status = running_status x runs; free = free }

-- a core that is free is at the offset, and runs on, once a flow that is due has taken effect
pub record IsThere (t place : ℕ) (c d : Core) : Type 0 where
  pub base : d.plain.base ≡ c.plain.base
  pub offset : d.plain.offset ≡ place
  pub regs : d.plain.regs ≡ c.plain.regs
  pub runs : is_running d.plain ≡ true
  pub free : is_free t d.plain ≡ true

pub there : (t offset : ℕ) (c : Core) → is_running c.plain ≡ true → is_free t c.plain ≡ true → CanLand offset c.plain
    → IsThere t offset c (landed t c)
unfolding flowed
there t offset c runs free can = subst (IsThere t offset c) (sym (landed_running c t runs)) (by c.plain.flow refl can)
  where
    stays : is_due_flow c.plain.flow ≡ false → offset ≡ c.plain.offset → IsThere t offset c (flowed t c)
    stays late here = subst (IsThere t offset c) (sym (flow_stays c t late))
        (record { base = refl; offset = sym here; regs = refl; runs = runs; free = free })

    goes : (f : Flow) → c.plain.flow ≡ Some f → (f.slots == 0) ≡ true → f.goal ≡ Within offset
        → offset < size_at c.plain.site.image c.plain.base → flowed t c ≡ gone (Within offset) c
    goes f same due goal inside =
        ap (λ b. elim b as (λ _. Core) [
          | true ↦ elim c.plain.flow as (λ _. Core) [
            | None ↦ c
            | Some g ↦ elim (g.slots == 0) as (λ _. Core)
                [ true ↦ taken t g.goal c | false ↦ c ]
          ]
          | false ↦ c
        ]) free
        ∙ ap (λ flow. elim flow as (λ _. Core) [
          | None ↦ c
          | Some g ↦ elim (g.slots == 0) as (λ _. Core)
              [ true ↦ taken t g.goal c | false ↦ c ]
        ]) same
        ∙ ap (λ b. elim b as (λ _. Core) [ true ↦ taken t f.goal c | false ↦ c ]) due
        ∙ ap (λ g. taken t g c) goal
        ∙ ap (λ b. elim b as (λ _. Core) [ true ↦ gone (Within offset) c | false ↦ with_plain (stopped trap.Flow t) c ])
        (lt-ltb offset (size_at c.plain.site.image c.plain.base) inside)

    by_slots : (f : Flow) (due : Bool) → c.plain.flow ≡ Some f → (f.slots == 0) ≡ due
        → elim due as (λ _. Type 0) [
          | true ↦ (f.goal ≡ Within offset)
              × (offset < size_at c.plain.site.image c.plain.base)
          | false ↦ offset ≡ c.plain.offset
        ]
        → IsThere t offset c (flowed t c)
    by_slots f true same due can = subst (IsThere t offset c) (sym (goes f same due can.0 can.1))
        (record { base = refl; offset = refl; regs = refl; runs = gone_runs (Within offset) c runs; free = free })
    by_slots f false same due can = stays (ap is_due_flow same ∙ due) can

    by : (flow : Option Flow) → c.plain.flow ≡ flow → elim flow as (λ _. Type 0) [
      | None ↦ offset ≡ c.plain.offset
      | Some f ↦ elim (f.slots == 0) as (λ _. Type 0) [
        | true ↦ (f.goal ≡ Within offset) × (offset < size_at c.plain.site.image c.plain.base)
        | false ↦ offset ≡ c.plain.offset
      ]
    ] → IsThere t offset c (flowed t c)
    by None same can = stays (ap is_due_flow same) can
    by (Some f) same can = by_slots f (f.slots == 0) same refl can

-- ---- the core's own act

-- what it carries out where the next bundle stands
acts_there : (t : ℕ) (c : Core) → is_running c.plain ≡ true → own t c
    ≡ carried_out (planned t (landed t c).plain) t (landed t c)
acts_there t c runs =
    sym (landed_first c t).act
    ∙ own_is_planned t (landed t c) (subst (λ z. is_running z.plain ≡ true → IsSettled t z.plain)
    (sym (landed_running c t runs)) (flowed_settled t c))

-- it ends with a core that a function starts with
starts_there : (t : ℕ) (c d : Core) → is_running c.plain ≡ true → Placed c → own t c ≡ now d → Placed d
starts_there t c d runs placed act =
    subst (Leaves (λ (a : Acted). Placed a.core)) (sym (acts_there t c runs) ∙ act)
    (keeps_start (planned t (landed t c).plain) t (landed t c) ((landed_goes t c).0 placed))

-- and a bundle was done if it runs on
done_there : (t offset : ℕ) (c d : Core) → is_running c.plain ≡ true → IsThere t offset c (landed t c) → own t c ≡ now d
    → d.plain.status ≡ Running
    → done_in t c ≡ record { base = c.plain.base; offset = offset; cycle = t } ∷ []
done_there t offset c d runs at act on = by (passes (fetched_in (landed t c).plain) (landed t c).plain) refl
  where
    does : planned t (landed t c).plain ≡ Does (fetched_in (landed t c).plain)
    does =
        ap (λ b. elim b as (λ _. Plan) [
          | false ↦ Nothing
          | true ↦ elim (is_free t (landed t c).plain) as (λ _. Plan)
              [ true ↦ Does (fetched_in (landed t c).plain) | false ↦ Waits ]
        ]) at.runs
        ∙ ap (λ b. elim b as (λ _. Plan) [ true ↦ Does (fetched_in (landed t c).plain) | false ↦ Waits ]) at.free

    act_is : carried_out (Does (fetched_in (landed t c).plain)) t (landed t c) ≡ now d
    act_is = ap (λ plan. carried_out plan t (landed t c)) (sym does) ∙ sym (acts_there t c runs) ∙ act

    by : (b : Bool) → passes (fetched_in (landed t c).plain) (landed t c).plain ≡ b → done_in t c
        ≡ record { base = c.plain.base; offset = offset; cycle = t } ∷ []
    by true passed =
        one_passed t (landed t c) (planned t (landed t c).plain) (fetched_in (landed t c).plain) refl does passed
        ∙ (λ i. record { base = at.base i; offset = at.offset i; cycle = t } ∷ [])
    by false failed = absurd (subst (Leaves (λ (a : Acted). a.core.plain.status ≢ Running)) act_is
        (stops_at (fetched_in (landed t c).plain) t (landed t c) failed) on)

-- ---- the cycle of the machine

-- the core comes to the body, and the words stay
pub run_alone : (x : Core) (l : Lone) (next : Body) (later : ℕ) (runs : RunsAs l x) → is_running (plain_of l.body)
    ≡ true
    → IsAlone l.cycle (core_of l.body runs.seen) (core_of next runs.seen) → Shows next runs.seen → later ≡ suc l.cycle
    → IsRun x later next l.words.items
run_alone x l next later runs running alone shows far =
    let t : ℕ = l.cycle in
    let y : Core = core_before x t in
    let d : Core = core_of next runs.seen in
    let act : own t y ≡ now d = ap (own t) runs.core ∙ alone.act in
    let same : y.plain.interface ≡ l.body.ni.interface = ap (λ (c : Core). c.plain.interface) runs.core in
    let first : turn 0 t y ≡ done y = first_quiet t y (subst (λ i. delivery t i ≡ done i) (sym same)
    (never_turns l.body.ni l.can.never t 0 (omega arith))) in
    let second : turn 1 t y ≡ done d = second_quiet t y (subst (λ i. injection t i ≡ done i) (sym same)
    (never_turns l.body.ni l.can.never t 1 (omega arith)))
    ∙ ap (λ p. and_then p settled) act in
    subst (λ u. IsRun x u next l.words.items) (sym far) (record {
      seen = runs.seen;
      shows = shows;
      core = next_core x t y (done d) first second;
      board = λ w. (λ i. next_words x t y (done d) first second i w) ∙ runs.words w;
      placed = starts_there t (core_of l.body runs.seen) d running runs.placed alone.act;
    })

-- and its bundle is told
pub told_alone : (x : Core) (l : Lone) (next : Body) (offset place : ℕ) (before after : Latches) (later : ℕ)
    (runs : RunsAs l x) → is_running (plain_of l.body) ≡ true
    → is_free l.cycle (plain_of l.body) ≡ true → CanLand offset (plain_of l.body)
    → IsAlone l.cycle (core_of l.body runs.seen) (core_of next runs.seen)
    → next.status ≡ Running → place ≡ l.body.base + offset → after ≡ shifted (Some place) l.body.regs before
    → later ≡ suc l.cycle
    → IsNextBundle x l.cycle later before after
told_alone x l next offset place before after later runs running free can alone on is held far =
    let t : ℕ = l.cycle in
    let c : Core = core_of l.body runs.seen in
    let at : IsThere t offset c (landed t c) = there t offset c running free can in
    let found : (landed t (core_before x t)).plain.regs ≡ l.body.regs =
    ap (λ z. (landed t z).plain.regs) runs.core ∙ at.regs in
    record {
      bundle = record { base = l.body.base; offset = offset; cycle = t };
      only = ap (done_below x) far ∙ ap (λ z. done_in t z ++ done_below x t) runs.core
          ∙ ap (λ ds. ds ++ done_below x t) (done_there t offset c (core_of next runs.seen) running at alone.act on);
      at = omega (arith, far);
      held = held ∙ (λ i. shifted (Some (is i)) (sym found i) before);
    }

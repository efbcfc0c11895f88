-- A core's own act in a cycle, as it is planned: once a flow that was due has taken effect.
use Rattle.std.proofs.Common.{◌≡◌, ℕ, ◌<◌, ◌==◌, ◌&&◌, not, nat_lt, Bool, true, false, List, Option, None, Some, IfSome, refl, sym, ap, ◌∙◌, subst, arith}
use Rattle.std.proofs.lemmas.Bool.Decides.{nat_tests}
use Rattle.shared_order.specs.Program.{Prog, and_then, fed}
use Rattle.argo_ni.specs.Interface.{Interface}
use Rattle.patmos_model.specs.declared.pending_store.PendingStore.{PendingStore}
use Rattle.patmos_step.specs.declared.body.Body.{Body}
use Rattle.patmos_model.specs.declared.flow.Flow.{Flow}
use Rattle.patmos_model.specs.declared.flow.Goal.{Goal}
use Rattle.patmos_model.specs.declared.flow.Goal.TheVariants.{Within}
use Rattle.patmos_step.specs.declared.plan.Plan.{Plan}
use Rattle.patmos_step.specs.declared.plan.Plan.TheVariants.{Nothing, Waits, Does}
use Rattle.patmos_model.specs.declared.trap.Trap.TheVariants as trap
use Rattle.patmos_model.specs.declared.state.Status.{Status}
use Rattle.patmos_model.specs.declared.state.Status.TheVariants.{Idle, Running, Trapped}
use Rattle.patmos_model.specs.State.{History, Core, is_running, has_ended, is_free, with_plain, stopped}
use Rattle.patmos_model.specs.Flows.{flowed, taken, gone, is_placed}
use Rattle.patmos_model.specs.Cells.{Acted, now}
use Rattle.patmos_model.specs.Bundle.{fetched_at, bundle}
use Rattle.patmos_model.specs.Cycle.{own, with_interface, if_running, bundle_step, slot_step}
use Rattle.patmos_model.specs.Transaction.{transaction, is_due}
use Rattle.patmos_model.proofs.Waits.{words_test}
use Rattle.patmos_step.specs.Plan.{planned, carried_out, settled_at, IsSettled}
use Rattle.patmos_step.specs.Shown.{Shows, IsAt, IsActed, core_of, plain_of}

stays : (cycle : ℕ) (c : Core) (free : Bool) (flow : Option Flow) → (free ≡ true → IfSome flow (λ f. 0 < f.slots))
    → elim free [
      | true ↦ elim flow [ None ↦ c | Some f ↦ elim (f.slots == 0) [ true ↦ taken cycle f.goal c | false ↦ c ] ]
      | false ↦ c
    ] ≡ c
stays cycle c true None h = refl
stays cycle c true (Some f) h =
    ap (λ b. elim b [ true ↦ taken cycle f.goal c | false ↦ c ]) (words_test f.slots (h refl))
stays cycle c false flow h = refl

-- where no flow is due, none takes effect
flowed_stays : (cycle : ℕ) (c : Core) → IsSettled cycle c.plain → flowed cycle c ≡ c
unfolding flowed
flowed_stays cycle c h = stays cycle c (is_free cycle c.plain) c.plain.flow h

bundle_as_planned : (cycle : ℕ) (c : Core) (free : Bool) →
    and_then (elim free [ true ↦ bundle cycle c | false ↦ now c ]) (slot_step cycle)
    ≡ carried_out (elim free [
      | true ↦ Does (fetched_at c.plain.site.image c.plain.base c.plain.offset)
      | false ↦
          Waits
    ]) cycle c
bundle_as_planned cycle c true = refl
bundle_as_planned cycle c false = refl

own_as_planned : (cycle : ℕ) (c : Core) (running : Bool) → is_running c.plain ≡ running
    → (running ≡ true → IsSettled cycle c.plain) →
    elim running [ true ↦ and_then (if_running (bundle_step cycle) (flowed cycle c)) (slot_step cycle) | false ↦ now c ]
    ≡ carried_out (elim running [
      | false ↦ Nothing
      | true ↦ elim (is_free cycle c.plain) [
        | true ↦ Does (fetched_at c.plain.site.image c.plain.base c.plain.offset)
        | false ↦ Waits
      ]
    ]) cycle c
own_as_planned cycle c true running settled =
    ap (λ d. and_then (if_running (bundle_step cycle) d) (slot_step cycle)) (flowed_stays cycle c (settled refl))
    ∙ ap (λ b. and_then (elim b [ true ↦ bundle_step cycle c | false ↦ now c ]) (slot_step cycle)) running
    ∙ bundle_as_planned cycle c (is_free cycle c.plain)
own_as_planned cycle c false running settled = refl

-- where no flow is due, the core's own act in a cycle is what is planned
pub own_is_planned : (cycle : ℕ) (c : Core) → (is_running c.plain ≡ true → IsSettled cycle c.plain) → own cycle c
    ≡ carried_out (planned cycle c.plain) cycle c
own_is_planned cycle c settled = own_as_planned cycle c (is_running c.plain) refl settled

-- what holds where no flow is due, where its goal is no place, and where it has gone there, holds once it
-- has taken effect
taken_has : (P : Core → Type 0) (cycle : ℕ) (goal : Goal) (c : Core) (placed : Bool)
    → P (with_plain (stopped trap.Flow cycle) c) → P (gone goal c) →
    P (elim placed [ true ↦ gone goal c | false ↦ with_plain (stopped trap.Flow cycle) c ])
taken_has P cycle goal c true stop go = go
taken_has P cycle goal c false stop go = stop

slots_have : (P : Core → Type 0) (cycle : ℕ) (c : Core) (f : Flow) (none : Bool) → (f.slots == 0) ≡ none
    → (0 < f.slots → P c) →
    P (with_plain (stopped trap.Flow cycle) c) → P (gone f.goal c)
    → P (elim none [ true ↦ taken cycle f.goal c | false ↦ c ])
slots_have P cycle c f true is stay stop go = taken_has P cycle f.goal c (is_placed f.goal c.plain) stop go
slots_have P cycle c f false is stay stop go = stay (grind (arith, nat_tests))

free_has : (P : Core → Type 0) (cycle : ℕ) (c : Core) (free : Bool) (flow : Option Flow)
    → ((free ≡ true → IfSome flow (λ f. 0 < f.slots)) → P c) →
    (free ≡ true → P (with_plain (stopped trap.Flow cycle) c)) → (free ≡ true → (goal : Goal) → P (gone goal c))
    → P (elim free [
      | true ↦ elim flow [ None ↦ c | Some f ↦ elim (f.slots == 0) [ true ↦ taken cycle f.goal c | false ↦ c ] ]
      | false ↦ c
    ])
free_has P cycle c true None stay stop go = stay (λ free. tt)
free_has P cycle c true (Some f) stay stop go =
    slots_have P cycle c f (f.slots == 0) refl (λ some. stay (λ free. some)) (stop refl) (go refl f.goal)
free_has P cycle c false flow stay stop go = stay (λ free. cc)

flowed_has : (P : Core → Type 0) (cycle : ℕ) (c : Core) → (IsSettled cycle c.plain → P c) →
    (is_free cycle c.plain ≡ true → P (with_plain (stopped trap.Flow cycle) c)) → (is_free cycle c.plain ≡ true
    → (goal : Goal) → P (gone goal c)) →
    P (flowed cycle c)
unfolding flowed
flowed_has P cycle c stay stop go = free_has P cycle c (is_free cycle c.plain) c.plain.flow stay stop go

runs_on : (status : Status) (ended : Bool) → elim status [
  | Idle ↦ false
  | Running ↦ not ended
  | Trapped trap at ↦
      false
] ≡ true →
    elim status [ Idle ↦ false | Running ↦ true | Trapped trap at ↦ false ] ≡ true
runs_on Idle ended h = h
runs_on Running ended h = refl
runs_on (Trapped trap at) ended h = h

-- a core that has gone to a place runs on
gone_runs : (goal : Goal) (c : Core) → is_running c.plain ≡ true → is_running (gone goal c).plain ≡ true
gone_runs (Within offset) c h = runs_on c.plain.status (has_ended c.plain) h
gone_runs _ c h = runs_on c.plain.status (has_ended c.plain) h

gone_settled : (cycle : ℕ) (goal : Goal) (c : Core) → IsSettled cycle (gone goal c).plain
gone_settled cycle (Within offset) c free = tt
gone_settled cycle _ c free = tt

-- after a flow that was due has taken effect, none is due where the core runs
pub flowed_settled : (cycle : ℕ) (c : Core) → is_running (flowed cycle c).plain ≡ true
    → IsSettled cycle (flowed cycle c).plain
flowed_settled cycle c = flowed_has (λ d. is_running d.plain ≡ true → IsSettled cycle d.plain) cycle c
    (λ settled running. settled) (λ free running. cc) (λ free goal running. gone_settled cycle goal c)

not_due : (cycle words : ℕ) (free rest : Bool) → (words == 0) && free ≡ true → nat_lt 0 words && rest ≡ false
not_due cycle words free rest h = grind (arith, nat_tests)

-- a core that runs no longer has nothing to move
flowed_waits : (cycle : ℕ) (c : Core) → is_running c.plain ≡ true → is_running (flowed cycle c).plain ≡ false
    → is_due cycle (flowed cycle c).plain ≡ false
flowed_waits cycle c running = flowed_has (λ d. is_running d.plain ≡ false → is_due cycle d.plain ≡ false) cycle c
    (λ settled ended. cc)
    (λ free ended. not_due cycle c.plain.transfer.words (c.plain.free == cycle) _ free)
    (λ free goal ended. let runs : is_running (gone goal c).plain ≡ true = gone_runs goal c running in cc)

gone_with : (goal : Goal) (c : Core) (i : Interface) → gone goal (with_interface c i) ≡ with_interface (gone goal c) i
gone_with (Within offset) c i = refl
gone_with _ c i = refl

taken_with : (cycle : ℕ) (goal : Goal) (c : Core) (i : Interface) (placed : Bool) →
    elim placed [
      | true ↦ gone goal (with_interface c i)
      | false ↦ with_plain (stopped trap.Flow cycle)
          (with_interface c i)
    ]
    ≡ with_interface (elim placed [ true ↦ gone goal c | false ↦ with_plain (stopped trap.Flow cycle) c ]) i
taken_with cycle goal c i true = gone_with goal c i
taken_with cycle goal c i false = refl

slots_with : (cycle : ℕ) (goal : Goal) (c : Core) (i : Interface) (none : Bool) →
    elim none [ true ↦ taken cycle goal (with_interface c i) | false ↦ with_interface c i ]
    ≡ with_interface (elim none [ true ↦ taken cycle goal c | false ↦ c ]) i
slots_with cycle goal c i true = taken_with cycle goal c i (is_placed goal c.plain)
slots_with cycle goal c i false = refl

free_with : (cycle : ℕ) (c : Core) (i : Interface) (free : Bool) (flow : Option Flow) → elim free [
  | true ↦ elim flow [
    | None ↦ with_interface c i
    | Some f ↦ elim (f.slots == 0) [
      | true ↦ taken cycle f.goal
          (with_interface c i)
      | false ↦ with_interface c i
    ]
  ]
  | false ↦ with_interface c i
] ≡ with_interface (elim free [
  | true ↦ elim flow [ None ↦ c | Some f ↦ elim (f.slots == 0) [ true ↦ taken cycle f.goal c | false ↦ c ] ]
  | false ↦ c
]) i
free_with cycle c i true None = refl
free_with cycle c i true (Some f) = slots_with cycle f.goal c i (f.slots == 0)
free_with cycle c i false flow = refl

-- a flow looks at no interface
flowed_with : (cycle : ℕ) (c : Core) (i : Interface) → flowed cycle (with_interface c i)
    ≡ with_interface (flowed cycle c) i
unfolding flowed
flowed_with cycle c i = free_with cycle c i (is_free cycle c.plain) c.plain.flow

-- the core's own act in a cycle after its flow
abbrev after_flow : ℕ → Core → Prog Acted
after_flow cycle d = and_then (if_running (bundle_step cycle) d) (slot_step cycle)

settled_own : (cycle : ℕ) (d : Core) (running : Bool) → is_running d.plain ≡ running
    → (running ≡ true → IsSettled cycle d.plain) →
    (running ≡ false → is_due cycle d.plain ≡ false) →
    elim running [ true ↦ after_flow cycle (flowed cycle d) | false ↦ now d ] ≡ after_flow cycle d
settled_own cycle d true running settled waits = ap (after_flow cycle) (flowed_stays cycle d (settled refl))
settled_own cycle d false running settled waits = sym (
    ap (λ b. and_then (elim b [ true ↦ bundle_step cycle d | false ↦ now d ]) (slot_step cycle)) running
    ∙ ap (λ b. elim b [ true ↦ transaction cycle d | false ↦ now d ]) (waits refl))

own_again : (cycle : ℕ) (c : Core) (i : Interface) (running : Bool) → is_running c.plain ≡ running →
    own cycle (with_interface (elim running [ true ↦ flowed cycle c | false ↦ c ]) i)
    ≡ elim running [ true ↦ after_flow cycle (flowed cycle (with_interface c i)) | false ↦ now (with_interface c i) ]
own_again cycle c i true running =
    settled_own cycle (with_interface (flowed cycle c) i) (is_running (flowed cycle c).plain) refl
    (flowed_settled cycle c) (flowed_waits cycle c running)
    ∙ ap (after_flow cycle) (sym (flowed_with cycle c i))
own_again cycle c i false running =
    ap (λ b. elim b [ true ↦ after_flow cycle (flowed cycle (with_interface c i)) | false ↦ now (with_interface c i) ])
    running

-- a flow that is due takes effect once, whatever the interface is
pub own_after_settling : (cycle : ℕ) (c : Core) (i : Interface) → own cycle (with_interface (settled_at cycle c) i)
    ≡ own cycle (with_interface c i)
own_after_settling cycle c i = own_again cycle c i (is_running c.plain) refl

own_once : (cycle : ℕ) (c : Core) (running : Bool) → is_running c.plain ≡ running →
    own cycle (elim running [ true ↦ flowed cycle c | false ↦ c ])
    ≡ elim running [ true ↦ after_flow cycle (flowed cycle c) | false ↦ now c ]
own_once cycle c true running =
    settled_own cycle (flowed cycle c) (is_running (flowed cycle c).plain) refl (flowed_settled cycle c)
    (flowed_waits cycle c running)
own_once cycle c false running = ap (λ b. elim b [ true ↦ after_flow cycle (flowed cycle c) | false ↦ now c ]) running

-- a flow that is due takes effect, and then what is planned is carried out
pub own_in_parts : (s cycle : ℕ) (c : Core) (values : List ℕ) (plan : Plan) (between last : Body)
    (result : Option PendingStore) →
    IsAt between (settled_at cycle c) → (is_running (plain_of between) ≡ true → IsSettled cycle (plain_of between)) →
    plan ≡ planned cycle (plain_of between) →
    ((h : History) → Shows between h → IsActed last result (fed s (carried_out plan cycle (core_of between h))
    values).core) →
    IsActed last result (fed s (own cycle c) values).core
own_in_parts s cycle c values plan between last result at settled is carried =
    subst (λ p. IsActed last result (fed s p values).core)
    (ap (λ p. carried_out p cycle (core_of between at.seen)) is
    ∙ sym (own_is_planned cycle (core_of between at.seen) settled)
    ∙ ap (own cycle) (sym at.same) ∙ own_once cycle c (is_running c.plain) refl)
    (carried at.seen at.shows)

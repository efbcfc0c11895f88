-- The second phase of a cycle, step by step.
use Rattle.std.proofs.Common.{◌≡◌, ℕ, ◌<◌, true, List, [], ◌++◌, Option, None, Some, sym, ap, ◌∙◌, subst, append-nil, arith}
use Rattle.slot_arbiter.specs.Stamp.{stamp}
use Rattle.shared_order.specs.declared.operation.Operation.{Operation}
use Rattle.shared_order.specs.Program.{Prog, and_then, fed}
use Rattle.shared_order.specs.Stamps.{act_at}
use Rattle.shared_order.specs.Stands.{Midway}
use Rattle.argo_ni.specs.Interface.{Interface}
use Rattle.argo_ni.specs.Turn.{injection}
use Rattle.patmos_model.specs.declared.pending_store.PendingStore.{PendingStore}
use Rattle.patmos_step.specs.declared.ask.Ask.{Ask}
use Rattle.patmos_core.specs.declared.phase.Phase.{Phase}
use Rattle.patmos_core.specs.declared.phase.Phase.TheVariants.{Act}
use Rattle.patmos_step.specs.declared.plan.Plan.{Plan}
use Rattle.patmos_core.specs.declared.tasked.Tasked.{Tasked}
use Rattle.patmos_model.specs.State.{Core, History, is_running}
use Rattle.patmos_model.specs.Cells.{Acted}
use Rattle.patmos_model.specs.Cycle.{with_interface, own, acted, settled, turn}
use Rattle.patmos_step.specs.Plan.{planned, carried_out, settled_at, IsSettled}
use Rattle.patmos_step.specs.Asks.{FollowsAsk}
use Rattle.patmos_core.specs.Progress.{cycle_after, phase_after}
use Rattle.patmos_core.specs.Position.{IsThere, IsOn, phases_done}
use Rattle.patmos_step.specs.Shown.{Shows, IsFramed, core_of}
use Rattle.patmos_step.proofs.Own.{own_is_planned, own_after_settling}
use Rattle.patmos_core.proofs.Moving.{act_resumed}
use Rattle.patmos_core.proofs.Resumed.{there_after}

-- a core that has moved stands for the same run apart
pub on_moved : (t t' : Tasked) (x : Core) (made more : List Operation) → IsFramed t.body t'.body → IsOn t x made
    → (seen : History) → Shows t'.body seen
    → IsThere t.body.place.cores t.body.place.core t'.cycle t'.phase x more (core_of t'.body seen) → IsOn t' x more
on_moved t t' x made more frame on seen shows there = record {
  seen = seen;
  shows = shows;
  cores = on.cores ∙ ap (λ p. p.cores) (sym frame.place);
  core = on.core ∙ ap (λ p. p.core) (sym frame.place);
  there = subst (λ p. IsThere p.cores p.core t'.cycle t'.phase x more (core_of t'.body seen)) (sym frame.place) there;
}

-- settling a flow changes nothing of what the second phase does
settled_first : (cycle : ℕ) (y z : Core) → settled_at cycle y ≡ z → z.plain.interface ≡ y.plain.interface
    → acted cycle y ≡ acted cycle z
settled_first cycle y z is same =
    (λ j. and_then (injection cycle y.plain.interface) (λ i. sym (own_after_settling cycle y i) j))
    ∙ ap (λ d. and_then (injection cycle y.plain.interface) (λ i. own cycle (with_interface d i))) is
    ∙ ap (λ i. and_then (injection cycle i) (λ i. own cycle (with_interface z i))) (sym same)

pub there_settled : (n core : ℕ) (x : Core) (made : List Operation) (cycle : ℕ) (phase : Phase) (y z : Core) → phase
    ≡ Act → settled_at cycle y ≡ z → z.plain.interface ≡ y.plain.interface
    → IsThere n core cycle phase x made y → IsThere n core cycle phase x made z
there_settled n core x made cycle phase y z is settles same there =
    subst (λ p. IsThere n core cycle p x made z) (sym is)
    (subst (λ p. Midway (act_at turn n) n core x made (stamp n core cycle 1) (and_then p settled))
    (settled_first cycle y z settles same)
    (subst (λ p. IsThere n core cycle p x made y) is there))

-- what the plan asks for, the own part does
pub own_asks : (cycle : ℕ) (y : Core) (i : Interface) (plan : Plan) (ask : Ask) → plan ≡ planned cycle y.plain
    → (is_running y.plain ≡ true → IsSettled cycle y.plain)
    → FollowsAsk ask (carried_out plan cycle (with_interface y i)) → FollowsAsk ask (own cycle (with_interface y i))
own_asks cycle y i plan ask is settled follows =
    subst (FollowsAsk ask) (ap (λ p. carried_out p cycle (with_interface y i)) is
    ∙ sym (own_is_planned cycle (with_interface y i) settled)) follows

-- a second phase that was done leaves the core before the next cycle, or before its pending store
pub there_at : (n core : ℕ) (x : Core) (made : List Operation) (cycle later : ℕ) (next : Phase) (z : Core)
    (pending_store : Option PendingStore) → later ≡ cycle_after cycle pending_store → next ≡ phase_after pending_store
    → IsThere n core (cycle_after cycle pending_store) (phase_after pending_store) x made z
    → IsThere n core later next x made z
there_at n core x made cycle later next z pending_store is then_at there =
    subst (λ q. IsThere n core q next x made z) (sym is)
    (subst (λ p. IsThere n core (cycle_after cycle pending_store) p x made z) (sym then_at) there)

-- one that asks for nothing is done at once
pub alone_resumed : (n core : ℕ) (x : Core) (made : List Operation) (cycle : ℕ) (phase : Phase) (y z : Core)
    (pending_store : Option PendingStore) (p : Prog Acted) → core < n → phase ≡ Act
    → acted cycle y ≡ p → (fed (stamp n core cycle 1) p []).ops ≡ [] → (fed (stamp n core cycle 1) p []).core
    ≡ record { core = z; pending_store = pending_store }
    → IsThere n core cycle phase x made y → IsThere n core (cycle_after cycle pending_store)
    (phase_after pending_store) x made z
alone_resumed n core x made cycle phase y z pending_store p among act is silent leaves there =
    there_after n core x made z cycle pending_store among
    (subst (λ all. Midway (act_at turn n) n core x all (stamp n core cycle 1)
    (settled (record { core = z; pending_store = pending_store })))
    (ap (λ p. made ++ (fed (stamp n core cycle 1) p []).ops) is ∙ ap (λ os. made ++ os) silent ∙ append-nil made)
    (act_resumed n core x cycle among made y z [] pending_store (ap (λ p. (fed (stamp n core cycle 1) p []).core) is
    ∙ leaves)
    (subst (λ p. IsThere n core cycle p x made y) act there)))

pub further : (cycle later : ℕ) (phase next : Phase) (pending_store : Option PendingStore) → phase ≡ Act → later
    ≡ cycle_after cycle pending_store → next ≡ phase_after pending_store
    → phases_done cycle phase < phases_done later next
further cycle later phase next None act is then_at = subst (λ p. phases_done cycle p < phases_done later next) (sym act)
    (subst (λ p. phases_done cycle Act < phases_done later p) (sym then_at) (omega (arith, is)))
further cycle later phase next (Some o) act is then_at = subst (λ p. phases_done cycle p < phases_done later next)
    (sym act) (subst (λ p. phases_done cycle Act < phases_done later p) (sym then_at) (omega (arith, is)))

-- What a core's own act keeps of where the core is, and what it makes of its status, whatever its loads give.
use Rattle.std.proofs.Common.{◌≡◌, ◌≢◌, ℕ, ◌==◌, true, false, [], ◌∷◌, ◌++◌, length, Option, None, Some, is_none, refl, sym, ap, ◌∙◌}
use Rattle.shared_order.specs.Program.{Prog, done, and_then}
use Rattle.data_cache.specs.Accesses as cache
use Rattle.local_store.specs.declared.map.Space.TheVariants.{Local, Main}
use Rattle.local_store.specs.declared.map.Cell.{Cell}
use Rattle.local_store.specs.declared.map.Cell.TheVariants as cell
use Rattle.argo_ni.specs.Interface.{port_to}
use Rattle.argo_ni.specs.Start.{with_source, with_target, started}
use Rattle.stack_cache.specs.Stack.{reserved, spilled, missing}
use Rattle.patmos_instr.specs.declared.functions.StackFunc.{StackFunc}
use Rattle.patmos_instr.specs.declared.functions.StackFunc.TheVariants.{Sres, Sens, Sfree}
use Rattle.patmos_instr.specs.declared.memories.Mem.TheVariants as mem
use Rattle.patmos_instr.specs.declared.memories.Width.{Width}
use Rattle.patmos_instr.specs.declared.memories.StoreWidth.{StoreWidth}
use Rattle.patmos_instr.specs.declared.memories.StoreWidth.TheVariants as store
use Rattle.patmos_instr.specs.Bundles.{PlainBundle}
use Rattle.patmos_sem.specs.declared.effects.Effect.{Effect}
use Rattle.patmos_sem.specs.declared.effects.Effect.TheVariants as effect
use Rattle.patmos_sem.specs.Bundles.{effect_of}
use Rattle.patmos_model.specs.declared.fetched.Fetched.{Fetched}
use Rattle.patmos_model.specs.declared.fetched.Fetched.TheVariants.{Outside, NoBundle, Found}
use Rattle.patmos_model.specs.declared.state.Status.{Status}
use Rattle.patmos_model.specs.declared.state.Status.TheVariants.{Running, Trapped}
use Rattle.patmos_model.specs.declared.transfer.Transfer.{Transfer}
use Rattle.patmos_model.specs.declared.transfer.Then.{Then}
use Rattle.patmos_model.specs.declared.transfer.Then.TheVariants as then_on
use Rattle.patmos_model.specs.declared.trap.Trap.{Trap}
use Rattle.patmos_model.specs.declared.trap.Trap.TheVariants as trap
use Rattle.patmos_model.specs.Site.{Site}
use Rattle.patmos_model.specs.State.{Plain, Core, with_plain, stopped}
use Rattle.patmos_model.specs.Transfers.{reads, writes}
use Rattle.patmos_model.specs.Cells.{Acted, now, cell_of, writing, storing, port_set, with_value}
use Rattle.patmos_model.specs.Checks.{fault_of}
use Rattle.patmos_model.specs.Bundle.{ends, moves, advanced, with_words, refilled, stacked, cache_loaded, answered, done_as}
use Rattle.patmos_model.specs.Transaction.{counted, moved, with_store, line_taken, line_address, transaction_then, transaction, is_due}
use Rattle.patmos_model.specs.Cycle.{slot_step}
use Rattle.patmos_model.proofs.Acts.{Keeps, keeps_then, Any, leaves_kept, Gives, gives_any, Left, acts_found, acts_slot, steps_of_place}
use Rattle.patmos_model.proofs.Leaves.{Leaves}
use Rattle.core_pace.specs.Moment.{passes}
use Rattle.core_pace.proofs.Parts.{leaves_then}
use Rattle.core_pace.proofs.Answered.{leaves_reading, leaves_reading_line}
use Rattle.patmos_step.specs.declared.plan.Plan.{Plan}
use Rattle.patmos_step.specs.declared.plan.Plan.TheVariants.{Nothing, Waits, Does}
use Rattle.patmos_step.specs.Plan.{carried_out}
use Rattle.pipe_five.specs.Stages.{is_start}

-- what is said of where a core is, and of its status
module _ (Q : Site → ℕ → Status → Type 0) where
  abbrev At : Core → Type 0
  At c = Q c.plain.site c.plain.base c.plain.status

  abbrev Remains : Acted → Type 0
  Remains a = At a.core

  gives_at : Gives Any Any At
  gives_at = gives_any Any At (λ c word h below. tt) (λ c word h below. tt)

  abbrev Stays : Acted → Type 0
  Stays = Left Any Any At gives_at (steps_of_place Q)

  keeps_slot : (cycle : ℕ) (a : Acted) → Stays a → Keeps Any Any Stays (slot_step cycle a)
  keeps_slot = acts_slot Any Any At gives_at (steps_of_place Q)

  -- a bundle that passes its checks, or is stopped by one
  keeps_done : (fetched : Fetched) (cycle : ℕ) (c : Core) → ((f : Trap) → passes fetched c.plain ≡ false
      → At (with_plain (stopped f cycle) c)) → (passes fetched c.plain ≡ true → At c)
      → Keeps Any Any Stays (done_as fetched cycle c)
  keeps_done Outside cycle c stops goes = (stops trap.Flow refl, tt)
  keeps_done NoBundle cycle c stops goes = (stops trap.Decode refl, tt)
  keeps_done (Found b words) cycle c stops goes = by (fault_of c.plain (effect_of b c.plain.regs)) refl
    where
      by : (fault : Option Trap) → fault_of c.plain (effect_of b c.plain.regs) ≡ fault
          → Keeps Any Any Stays (elim fault as (λ _. Prog Acted) [
            | None ↦ answered (effect_of b c.plain.regs) cycle (with_plain (advanced words b) c)
            | Some f ↦ now (with_plain (stopped f cycle) c)
          ])
      by None none =
          let h = goes (ap is_none none) in acts_found Any Any At gives_at (steps_of_place Q) b words cycle c h h none
      by (Some f) fails = (stops f (ap is_none fails), tt)

  -- what was fetched, and then the words of a slot
  keeps_both : (fetched : Fetched) (cycle : ℕ) (c : Core) → ((f : Trap) → passes fetched c.plain ≡ false
      → At (with_plain (stopped f cycle) c)) → (passes fetched c.plain ≡ true → At c)
      → Leaves Remains (and_then (done_as fetched cycle c) (slot_step cycle))
  keeps_both fetched cycle c stops goes =
      leaves_kept Stays Remains (λ a h. h.0) (and_then (done_as fetched cycle c) (slot_step cycle))
      (keeps_then Any Any Stays Stays (slot_step cycle) (keeps_slot cycle) (done_as fetched cycle c)
      (keeps_done fetched cycle c stops goes))

-- a function starts where the core's does
abbrev pub Starts : Site → ℕ → Status → Type 0
Starts site base status = is_start site.image base ≡ true

pub keeps_start : (plan : Plan) (cycle : ℕ) (c : Core) → is_start c.plain.site.image c.plain.base ≡ true
    → Leaves (λ a. is_start a.core.plain.site.image a.core.plain.base ≡ true) (carried_out plan cycle c)
keeps_start Nothing cycle c h = h
keeps_start Waits cycle c h =
    leaves_kept (Stays Starts) (Remains Starts) (λ a k. k.0)
    (slot_step cycle (record { core = c; pending_store = None }))
    (keeps_slot Starts cycle (record { core = c; pending_store = None }) (h, tt))
keeps_start (Does fetched) cycle c h = keeps_both Starts fetched cycle c (λ f is. h) (λ is. h)

-- a core that runs goes on where what was fetched passes its checks, and stops where it does not
abbrev Runs : Site → ℕ → Status → Type 0
Runs site base status = status ≡ Running

abbrev Stops : Site → ℕ → Status → Type 0
Stops site base status = status ≢ Running

pub runs_on : (fetched : Fetched) (cycle : ℕ) (c : Core) → c.plain.status ≡ Running → passes fetched c.plain ≡ true
    → Leaves (λ a. a.core.plain.status ≡ Running) (carried_out (Does fetched) cycle c)
runs_on fetched cycle c runs passed =
    keeps_both Runs fetched cycle c (λ f is. absurd (let bad : true ≡ false = sym passed ∙ is in cc)) (λ is. runs)

pub stops_at : (fetched : Fetched) (cycle : ℕ) (c : Core) → passes fetched c.plain ≡ false
    → Leaves (λ a. a.core.plain.status ≢ Running) (carried_out (Does fetched) cycle c)
stops_at fetched cycle c failed = keeps_both Stops fetched cycle c (λ f is. trapped f)
    (λ is. absurd (let bad : true ≡ false = sym is ∙ failed in cc))
  where
    trapped : (f : Trap) → Trapped f cycle ≢ Running
    trapped f e = cc

-- In a cycle in which words move, a core's own act moves them.
use Rattle.std.proofs.Common.{◌≡◌, ℕ, ◌==◌, ◌&&◌, nat_lt, not, Bool, true, false, Option, None, Some, refl, ap, ◌∙◌, arith}
use Rattle.std.proofs.lemmas.Bool.Decides.{nat_tests}
use Rattle.shared_order.specs.Program.{Prog, and_then}
use Rattle.patmos_model.specs.declared.flow.Flow.{Flow}
use Rattle.patmos_model.specs.declared.state.Status.TheVariants.{Idle, Running, Trapped}
use Rattle.patmos_model.specs.State.{Plain, Core, is_end, has_ended, is_running, is_free}
use Rattle.patmos_model.specs.Flows.{flowed}
use Rattle.patmos_model.specs.Cells.{Acted, now}
use Rattle.patmos_model.specs.Transaction.{transaction}
use Rattle.patmos_model.specs.Cycle.{own, if_running, bundle_step, slot_step}
use Rattle.patmos_model.proofs.Waits.{none_right, flow_waits, bundle_waits}
use Rattle.patmos_step.specs.Moving.{MovesIn}

pub runs : (x : Plain) → x.status ≡ Running → has_ended x ≡ false → is_running x ≡ true
runs x status goes =
    ap (λ s. elim s as (λ _. Bool) [ Idle ↦ false | Running ↦ not (has_ended x) | Trapped trap at ↦ false ]) status
    ∙ ap not goes

-- it has not ended, and is not free for a bundle
is_more : (words : ℕ) (rest : Bool) → nat_lt 0 words && rest ≡ true → (words == 0) ≡ false
is_more words rest h = grind (arith, nat_tests)

goes_on : (flow : Option Flow) (moved : Bool) → moved ≡ false
    → elim flow as (λ _. Bool) [ None ↦ false | Some f ↦ is_end f && moved ] ≡ false
goes_on None moved h = refl
goes_on (Some f) moved h = none_right (is_end f) moved h

-- so its own act in the cycle moves the words
pub own_moves : (cycle : ℕ) (c : Core) → MovesIn cycle c.plain → own cycle c ≡ transaction cycle c
own_moves cycle c moves =
    let some : (c.plain.transfer.words == 0) ≡ false = is_more c.plain.transfer.words _ moves.due in
    let running : is_running c.plain ≡ true =
    runs c.plain moves.status (goes_on c.plain.flow (c.plain.transfer.words == 0) some) in
    let busy : is_free cycle c.plain ≡ false = ap (λ b. b && (c.plain.free == cycle)) some in
    ap (λ b. elim b as (λ _. Prog Acted) [
      | true ↦ and_then (if_running (bundle_step cycle) (flowed cycle c))
          (slot_step cycle)
      | false ↦ now c
    ]) running
    ∙ ap (λ d. and_then (if_running (bundle_step cycle) d) (slot_step cycle)) (flow_waits c cycle busy)
    ∙ ap (λ b. and_then (elim b as (λ _. Prog Acted) [ true ↦ bundle_step cycle c | false ↦ now c ])
    (slot_step cycle)) running
    ∙ ap (λ p. and_then p (slot_step cycle)) (bundle_waits c cycle busy)
    ∙ ap (λ b. elim b as (λ _. Prog Acted) [ true ↦ transaction cycle c | false ↦ now c ]) moves.due

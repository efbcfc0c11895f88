-- A core that waits in a cycle does nothing of its own.
use Rattle.std.proofs.Common.{◌≡◌, ℕ, ◌<◌, ◌==◌, ◌&&◌, Bool, true, false, None, Some, refl, ap, arith}
use Rattle.std.proofs.lemmas.Bool.{ne_eqb}
use Rattle.shared_order.specs.Program.{Prog, done, and_then}
use Rattle.patmos_model.specs.State.{Core, is_running, is_free}
use Rattle.patmos_model.specs.Cells.{Acted, now}
use Rattle.patmos_model.specs.Bundle.{bundle}
use Rattle.patmos_model.specs.Transaction.{transaction, is_due}
use Rattle.patmos_model.specs.Flows.{flowed, taken}
use Rattle.patmos_model.specs.Cycle.{own, bundle_step, slot_step, if_running}

-- ---- of two tests one fails

pub none_right : (a b : Bool) → b ≡ false → (a && b) ≡ false
none_right true b h = h
none_right false b h = refl

pub none_left : (a b : Bool) → a ≡ false → (a && b) ≡ false
none_left a b h = ap (λ x. x && b) h

-- some words are not none
pub words_test : (words : ℕ) → 0 < words → (words == 0) ≡ false
words_test words some = ne_eqb words 0 (λ e. omega (arith, some, e))

-- ---- its own act, part by part

-- it does not run
pub stopped_own : (c : Core) (u : ℕ) → is_running c.plain ≡ false → own u c ≡ now c
stopped_own c u is = ap (λ b. elim b as (λ _. Prog Acted) [
  | true ↦ and_then (if_running (bundle_step u) (flowed u c)) (slot_step u)
  | false ↦ now c
]) is

-- it is not free: no flow takes effect, and no bundle begins
pub flow_waits : (c : Core) (u : ℕ) → is_free u c.plain ≡ false → flowed u c ≡ c
unfolding flowed
flow_waits c u busy = ap (λ b. elim b as (λ _. Core) [
  | true ↦ elim c.plain.flow [
    | None ↦ c
    | Some f ↦ elim (f.slots == 0) [ true ↦ taken u f.goal c | false ↦ c ]
  ]
  | false ↦ c
]) busy

pub bundle_waits : (c : Core) (u : ℕ) → is_free u c.plain ≡ false → bundle_step u c ≡ now c
bundle_waits c u busy = ap (λ b. elim b as (λ _. Prog Acted) [ true ↦ bundle u c | false ↦ now c ]) busy

pub bundle_if_running : (c : Core) (u : ℕ) (runs : Bool) → bundle_step u c ≡ now c
    → elim runs as (λ _. Prog Acted) [ true ↦ bundle_step u c | false ↦ now c ] ≡ now c
bundle_if_running c u true none = none
bundle_if_running c u false none = refl

-- no slot is due: no words move
pub slot_waits : (a : Acted) (u : ℕ) → is_due u a.core.plain ≡ false → slot_step u a ≡ done a
slot_waits a u none = ap (λ b. elim b as (λ _. Prog Acted) [ true ↦ transaction u a.core | false ↦ done a ]) none

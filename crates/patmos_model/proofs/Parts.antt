-- A run apart that is told part by part is the run apart.
use Rattle.std.proofs.Common.{◌≡◌, ℕ, zero, suc, List, ◌++◌, refl, sym, ◌∙◌, ap, append_assoc}
use Rattle.slot_arbiter.specs.Stamp.{stamp}
use Rattle.shared_order.specs.declared.operation.Operation.{Operation}
use Rattle.shared_order.specs.Program.{Prog, done, get, set, and_then, Fed, fed}
use Rattle.shared_order.specs.Apart.{gone_on, apart, turn_apart}
use Rattle.shared_order.proofs.Parts.{fed-then}
use Rattle.argo_ni.specs.Turn.{injection}
use Rattle.patmos_model.specs.State.{Core}
use Rattle.patmos_model.specs.Cycle.{with_interface, own, settled, turn}
use Rattle.patmos_model.specs.Apart.{Followed, followed, after_delivery, injected}

-- one program after another, and then a third
pub in_line : {X Y Z : Type 0} (p : Prog X) (f : X → Prog Y) (g : Y → Prog Z) → and_then (and_then p f) g
    ≡ and_then p (λ x. and_then (f x) g)
in_line (done x) f g = refl
in_line (get word go_on) f g = λ i. get word (λ value. in_line (go_on value) f g i)
in_line (set word value rest) f g = λ i. set word value (in_line rest f g i)

-- phase 1 is the injection, and then the core's own act
phase_in_parts : (cycle : ℕ) (c : Core) → turn 1 cycle c ≡ and_then (injected cycle c) (λ d. and_then
    (own cycle d) settled)
phase_in_parts cycle c =
    in_line (injection cycle c.plain.interface) (λ i. own cycle (with_interface c i)) settled
    ∙ sym (in_line (injection cycle c.plain.interface) (λ i. done (with_interface c i))
    (λ d. and_then (own cycle d) settled))

-- two programs at one stamp go on one after the other
pub gone_in_parts : {X Y : Type 0} (s : ℕ) (p : Prog X) (f : X → Prog Y) (values : List ℕ) (made : List Operation) →
    gone_on (fed s (and_then p f) values) made
    ≡ gone_on (fed s (f (fed s p values).core) (fed s p values).left) (made ++ (fed s p values).ops)
gone_in_parts s p f values made =
    let then_on : Fed _ = fed s (f (fed s p values).core) (fed s p values).left in
    ap (λ x. gone_on x made) (fed-then s p f values)
    ∙ ap (λ ops. record { core = then_on.core; left = then_on.left; made = ops }) (sym
    (append_assoc made (fed s p values).ops then_on.ops))

pub followed-run : (n core : ℕ) (x : Core) (values : List ℕ) (t : ℕ) → (followed n core x values t).run
    ≡ apart turn n core x values t
followed-run n core x values zero = refl
followed-run n core x values (suc t) =
    let before : Followed = after_delivery n core t (followed n core x values t) in
    sym (ap (λ p. gone_on (fed (stamp n core t 1) p before.run.left) before.run.made) (phase_in_parts t before.run.core)
    ∙ gone_in_parts (stamp n core t 1) (injected t before.run.core) (λ d. and_then (own t d) settled) before.run.left
    before.run.made)
    ∙ ap (λ a. turn_apart turn n t 1 core (turn_apart turn n t 0 core a)) (followed-run n core x values t)

-- The interface in its run apart: from half-cycle to half-cycle.
use Rattle.std.proofs.Common.{◌≡◌, ℕ, suc, ◌+◌, ◌-◌, ◌*◌, ◌/◌, ◌%◌, ◌<◌, ◌≤◌, List, ◌++◌, ap, subst, arith}
use Rattle.std.proofs.lemmas.Nat.{div-add-mod', mod_below, mod-mul-add}
use Rattle.slot_arbiter.specs.Stamp.{stamp}
use Rattle.slot_arbiter.proofs.Cycles.{slot_order}
use Rattle.shared_order.specs.declared.operation.Operation.{Operation}
use Rattle.shared_order.specs.Program.{Prog, fed}
use Rattle.shared_order.specs.Stamps.{act_at}
use Rattle.shared_order.specs.Stands.{Stands}
use Rattle.shared_order.proofs.ByStamps.{act_here}
use Rattle.shared_order.proofs.Standing.{skips, reaches, passes, resumed}
use Rattle.argo_ni.specs.Interface.{Interface, Standing}
use Rattle.argo_ni.specs.Turn.{turn}
use Rattle.argo_ni.specs.Event.{stamp_in, IsQuiet}

pub stays : (n core : ℕ) (x : Interface) (made : List Operation) (s : Standing) (to : ℕ) → core < n → s.from ≤ to
    → IsQuiet s.interface s.from to → Stands (act_at turn n) n core x made (s.from * n) s.interface
    → Stands (act_at turn n) n core x made (to * n) s.interface
stays n core x made s to among later quiet stands =
    let length : s.from * n + (to - s.from) * n ≡ to * n = whole s.from to later in
    subst (λ u. Stands (act_at turn n) n core x made u s.interface) length
    (skips (act_at turn n) n core x made (s.from * n) s.interface ((to - s.from) * n)
    (λ u after before own.
    let place : u ≡ u / n * n + u % n = omega (arith, div-add-mod' u n) in
    let below : u % n < n = mod_below u n (omega arith) in
    let low : s.from ≤ u / n = slot_order s.from (u / n) n (omega arith) in
    let high : u / n + 1 ≤ to = slot_order (u / n + 1) to n (omega arith) in
    quiet (u / n / 2) (u / n % 2) (omega arith) (omega arith) (omega arith))
    stands)
  where
    whole : (a b : ℕ) → a ≤ b → a * n + (b - a) * n ≡ b * n
    whole a b h = let e : b ≡ a + (b - a) = omega arith in omega (arith, ap (λ k. k * n) e)

pub takes_turn : (n core : ℕ) (x : Interface) (made : List Operation) (cycle phase : ℕ) (y : Interface)
    (values : List ℕ) → core < n → phase ≤ 1 → Stands (act_at turn n) n core x made ((2 * cycle + phase) * n) y
    → Stands (act_at turn n) n core x (made ++ (fed (stamp_in n core (2 * cycle + phase)) (turn phase cycle y)
    values).ops) ((2 * cycle + phase) * n + n) (fed (stamp_in n core (2 * cycle + phase))
    (turn phase cycle y) values).core
takes_turn n core x made cycle phase y values among few stands =
    let at : ℕ = stamp n core cycle phase in
    let own : at % n ≡ core = mod-mul-add (2 * cycle + phase) n core among in
    let there = resumed (act_at turn n) n core x made at y own (reaches turn n core x made cycle phase y among stands)
    values in
    let same : act_at turn n at y ≡ turn phase cycle y = act_here turn n core cycle phase among few y in
    passes turn n core x (made ++ (fed at (turn phase cycle y) values).ops) cycle phase
    (fed at (turn phase cycle y) values).core among
    (subst (λ (p : Prog Interface). Stands (act_at turn n) n core x (made ++ (fed at p values).ops) (suc at)
    (fed at p values).core) same there)

-- A core without a task does nothing.
use Rattle.std.proofs.Common.{◌≡◌, ℕ, ◌+◌, ◌*◌, ◌/◌, ◌%◌, ◌<◌, ◌==◌, true, false, nat_lt, nat_le, [], refl, ap, subst, arith, inl, inr}
use Rattle.std.proofs.lemmas.Bool.{cases_lt, and_right}
use Rattle.std.proofs.lemmas.List.{get_or-replicate, get_or_past}
use Rattle.std.proofs.Math.ListN.{length-replicate}
use Rattle.shared_order.specs.Program.{Prog, done, and_then, gets}
use Rattle.shared_order.specs.Stamps.{act_at}
use Rattle.shared_order.specs.Stands.{Stands}
use Rattle.shared_order.proofs.Standing.{skips_cycles}
use Rattle.argo_ni.specs.declared.port.Port.{Port}
use Rattle.argo_ni.specs.Packet.{comm_word}
use Rattle.argo_ni.specs.Port.{unused, all_unused, port_at}
use Rattle.argo_ni.specs.Window.{target_in}
use Rattle.argo_ni.specs.Interface.{Interface, new_interface, port_to}
use Rattle.argo_ni.specs.Turn.{sends, target_at, packet_size, injection, injected}
use Rattle.patmos_model.specs.Site.{Site}
use Rattle.patmos_model.specs.Begin.{idle}
use Rattle.patmos_model.specs.Cycle.{turn, own, with_interface, settled}

-- the ports of an interface that nothing was done with have nothing to send
nothing_left : (d : ℕ) → nat_lt 0 (port_at all_unused d).channel.left ≡ false
nothing_left d = elim (cases_lt d 16) [
  | inl below ↦ ap (λ (p : Port). nat_lt 0 p.channel.left) (get_or-replicate 16 d unused unused below)
  | inr past ↦ ap (λ (p : Port). nat_lt 0 p.channel.left) (get_or_past all_unused d unused
      (omega (arith, past, length-replicate 16 unused)))
]

-- so it sends nothing, and its phase of injections does nothing
sends_nothing : (n core cycle : ℕ) → sends (new_interface n core) cycle ≡ false
sends_nothing n core cycle =
    and_right (cycle % 3 == 0) _ (and_right (nat_le 2 n) _ (nothing_left (target_in n core (cycle / 3))))

injects_nothing : (n core cycle : ℕ) → injection cycle (new_interface n core) ≡ done (new_interface n core)
injects_nothing n core cycle =
    let x : Interface = new_interface n core in
    ap (λ b. elim b as (λ _. Prog Interface) [
      | true ↦ gets (packet_size (port_to x (target_at x cycle)).channel.left)
          (comm_word x.core (port_to x (target_at x cycle)).channel.source)
          (λ values. done (injected cycle values x))
      | false ↦ done x
    ]) (sends_nothing n core cycle)

-- in neither phase does it do anything
pub idle_rests : (site : Site) (cycle : ℕ) → (turn 0 cycle (idle site) ≡ done (idle site))
    × (turn 1 cycle (idle site) ≡ done (idle site))
idle_rests site cycle = (
  refl,
  ap (λ p. and_then (and_then p (λ i. own cycle (with_interface (idle site) i))) settled)
      (injects_nothing site.cores site.core cycle),
)

-- so before any cycle it stands as it is, having made nothing
pub idle_stands : (n core : ℕ) (site : Site) (cycle : ℕ) → core < n → Stands (act_at turn n) n core (idle site) [] (2
    * cycle * n) (idle site)
idle_stands n core site cycle among =
    let here : 2 * (0 + cycle) * n ≡ 2 * cycle * n = omega arith in
    subst (λ s. Stands (act_at turn n) n core (idle site) [] s (idle site)) here
    (skips_cycles turn n core (idle site) [] 0 (idle site) cycle among (λ u from below. idle_rests site u) at_first)
  where
    at_first : Stands (act_at turn n) n core (idle site) [] (2 * 0 * n) (idle site)
    at_first =
        let none : 0 ≡ 2 * 0 * n = omega arith in
        subst (λ s. Stands (act_at turn n) n core (idle site) [] s (idle site)) none (λ more. refl)

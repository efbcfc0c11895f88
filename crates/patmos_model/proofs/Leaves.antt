-- What a program leaves, whatever its loads give; an interface is always left with the same place.
use Rattle.std.proofs.Common.{◌≡◌, ℕ, zero, suc, ◌+◌, ◌==◌, true, false, List, [], ◌∷◌, filter, refl}
use Rattle.shared_order.specs.Program.{Prog, done, get, set, gets, sets}
use Rattle.shared_order.specs.Fit.{IsFit}
use Rattle.argo_ni.specs.declared.packet.Packet.{Packet}
use Rattle.argo_ni.specs.Packet.{carried, comm_word, written}
use Rattle.argo_ni.specs.Interface.{Interface, port_to}
use Rattle.argo_ni.specs.Turn.{comes, sends, target_at, packet_size, delivered, delivery, injected, injection}

-- the program leaves what has a property
abbrev pub Leaves : {X : Type 0} → (X → Type 0) → Prog X → Type 0
Leaves P (done x) = P x
Leaves P (get word go_on) = (value : ℕ) → Leaves P (go_on value)
Leaves P (set word value rest) = Leaves P rest

-- what is left in range has the property too
pub fit_leaves : {X : Type 0} (P Q : X → Type 0) (words : ℕ) (p : Prog X) → IsFit P words p → Leaves Q p
    → IsFit (λ x. P x × Q x) words p
fit_leaves P Q words (done x) fit left = (fit, left)
fit_leaves P Q words (get word go_on) fit left =
    (fit.0, λ value small. fit_leaves P Q words (go_on value) (fit.1 value small) (left value))
fit_leaves P Q words (set word value p) fit left = (fit.0, fit.1, fit_leaves P Q words p fit.2 left)

pub leaves_sets : {X : Type 0} (P : X → Type 0) (word : ℕ) (values : List ℕ) (rest : Prog X) → Leaves P rest
    → Leaves P (sets word values rest)
leaves_sets P word [] rest h = h
leaves_sets P word (value ∷ values) rest h = leaves_sets P (word + 1) values rest h

pub leaves_written : {X : Type 0} (P : X → Type 0) (ps : List Packet) (rest : Prog X) → Leaves P rest
    → Leaves P (written ps rest)
leaves_written P [] rest h = h
leaves_written P (p ∷ ps) rest h =
    leaves_sets P (comm_word p.target p.first) (carried p.payload) (written ps rest) (leaves_written P ps rest h)

pub leaves_gets : {X : Type 0} (P : X → Type 0) (count word : ℕ) (go_on : List ℕ → Prog X)
    → ((values : List ℕ) → Leaves P (go_on values)) → Leaves P (gets count word go_on)
leaves_gets P zero word go_on h = h []
leaves_gets P (suc count) word go_on h =
    λ value. leaves_gets P count (word + 1) (λ values. go_on (value ∷ values)) (λ values. h (value ∷ values))

-- the same core among as many
pub record IsSamePlace (x y : Interface) : Type 0 where
  pub core : y.core ≡ x.core
  pub cores : y.cores ≡ x.cores

pub same_delivery : (cycle : ℕ) (x : Interface) → Leaves (IsSamePlace x) (delivery cycle x)
same_delivery cycle x =
    let written_ones : Prog Interface = written (filter (λ p. p.due == cycle) x.under_way) (done (delivered cycle x)) in
    elim (comes x cycle) as (λ b. Leaves (IsSamePlace x) (elim b [ true ↦ written_ones | false ↦ done x ])) [
      | true ↦ leaves_written (IsSamePlace x) (filter (λ p. p.due == cycle) x.under_way) (done (delivered cycle x))
          (record { core = refl; cores = refl })
      | false ↦ record { core = refl; cores = refl }
    ]

pub same_injection : (cycle : ℕ) (x : Interface) → Leaves (IsSamePlace x) (injection cycle x)
same_injection cycle x =
    let left : ℕ = (port_to x (target_at x cycle)).channel.left in
    let first : ℕ = comm_word x.core (port_to x (target_at x cycle)).channel.source in
    elim (sends x cycle) as (λ b. Leaves (IsSamePlace x) (elim b [
      | true ↦ gets (packet_size left) first (λ values. done (injected cycle values x))
      | false ↦ done x
    ])) [
      | true ↦ leaves_gets (IsSamePlace x) (packet_size left) first (λ values. done (injected cycle values x))
          (λ values. record { core = refl; cores = refl })
      | false ↦ record { core = refl; cores = refl }
    ]

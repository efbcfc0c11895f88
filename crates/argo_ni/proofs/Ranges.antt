-- An interface keeps its ranges.
use Rattle.std.proofs.Common.{◌≡◌, ℕ, zero, suc, ◌+◌, ◌-◌, ◌*◌, ◌/◌, ◌%◌, ◌^◌, ◌<◌, ◌≤◌, true, false, not, ◌==◌, List, [], ◌∷◌, length, filter, set, sym, ap, subst, refl, arith, inl, inr}
use Rattle.std.specs.List.{AllByRecursion as Each}
use Rattle.std.proofs.lemmas.Nat.{mod_below}
use Rattle.std.proofs.lemmas.Bool.{cases_lt, cases_eq, eq-eqb, ne_eqb}
use Rattle.std.proofs.lemmas.List.{set_past, get_or-replicate, get_or_past}
use Rattle.std.proofs.lemmas.Bool.Decides.{nat_tests}
use Rattle.std.proofs.Math.ListN.{length-replicate}
use Rattle.shared_order.specs.Program.{Prog, done, gets, sets}
use Rattle.shared_order.specs.Fit.{IsFit}
use Rattle.argo_ni.specs.declared.packet.Packet.{Packet}
use Rattle.argo_ni.specs.declared.packet.Payload.{Payload}
use Rattle.argo_ni.specs.declared.packet.Payload.TheVariants.{One, Two}
use Rattle.argo_ni.specs.declared.port.Port.{Port}
use Rattle.argo_ni.specs.Port.{unused, all_unused, port_at, IsWithin}
use Rattle.argo_ni.specs.Packet.{comm_word, carried, payload, written}
use Rattle.argo_ni.specs.Interface.{Interface, new_interface, port_to}
use Rattle.argo_ni.specs.declared.event.Started.TheVariants.{Begun, Dropped, Refused}
use Rattle.argo_ni.specs.Start.{with_port, with_source, with_target, is_in_range, answer_to, begun, started_by, started}
use Rattle.argo_ni.specs.Turn.{comes, delivered, delivery, sends, target_at, moved_on, packet_of, packet_size, injected, injection, turn}
use Rattle.argo_ni.specs.Range.{IsBound, InRange}
use Rattle.argo_ni.proofs.Acts.{sends_means}
use Rattle.argo_ni.proofs.Kept.{true_or_false, within_after}
use Rattle.shared_order.proofs.Lists.{each_filter, each-append}

-- the words of the cores below n
below_end : (n core word words : ℕ) → core < n → word < 512 → comm_word n 0 ≤ words → comm_word core word < words
below_end n core word words among within room =
    let next : 512 * core + 512 ≤ 512 * n = omega arith in omega arith

fit_carried : (n core word words : ℕ) (load : Payload) (rest : Prog Interface) → core < n → word + length (carried load)
    ≤ 512 → Each (λ w. w < 2 ^ 32) (carried load) → comm_word n 0 ≤ words → IsFit InRange words rest
    → IsFit InRange words (sets (comm_word core word) (carried load) rest)
fit_carried n core word words (One a) rest among within small room h =
    (omega (arith, below_end n core word words among (omega arith) room), small.0, h)
fit_carried n core word words (Two a b) rest among within small room h = (
  below_end n core word words among (omega arith) room,
  small.0,
  (omega (arith, below_end n core (word + 1) words among (omega arith) room), small.1.0, h),
)

fit_written : (n words : ℕ) (ps : List Packet) (rest : Prog Interface) → Each (IsBound n) ps → comm_word n 0 ≤ words
    → IsFit InRange words rest → IsFit InRange words (written ps rest)
fit_written n words [] rest bound room h = h
fit_written n words (p ∷ ps) rest bound room h =
    fit_carried n p.target p.first words p.payload (written ps rest) bound.0.among bound.0.within bound.0.words room
    (fit_written n words ps rest bound.1 room h)

fit_delivery : (x : Interface) (cycle words : ℕ) → InRange x → comm_word x.cores 0 ≤ words
    → IsFit InRange words (delivery cycle x)
fit_delivery x cycle words h room = elim (true_or_false (comes x cycle)) [
  | inl here ↦ subst (IsFit InRange words) (let e : written (filter (λ p. p.due == cycle) x.under_way) (done
      (delivered cycle x)) ≡ delivery cycle x = rw (here, delivery) refl in e)
      (fit_written x.cores words (filter (λ p. p.due == cycle) x.under_way) (done (delivered cycle x))
      (each_filter (IsBound x.cores) (λ p. p.due == cycle) x.under_way h.packets) room
      (record {
        among = h.among;
        channels = h.channels;
        packets = each_filter (IsBound x.cores)
            (λ p. not (p.due == cycle)) x.under_way h.packets;
      }))
  | inr none ↦ subst (IsFit InRange words) (let e : done x ≡ delivery cycle x = rw (none, delivery) refl in e) h
]

-- the channels lie within after one port was changed to one that does
within_set : (ports : List Port) (d : ℕ) (port : Port) → ((e : ℕ) → IsWithin (port_at ports e).channel)
    → IsWithin port.channel → (e : ℕ) → IsWithin (port_at (set ports d port) e).channel
within_set ports d port h here = elim (cases_lt d (length ports)) [
  | inl below ↦ within_after ports d port below h here
  | inr past ↦ subst (λ (ps : List Port). (e : ℕ) → IsWithin (port_at ps e).channel)
      (sym (set_past ports d port past)) h
]

-- an injection of one word or of two
injected_in_range : (x : Interface) (cycle size : ℕ) (values : List ℕ) → InRange x → sends x cycle ≡ true
    → packet_size (port_to x (target_at x cycle)).channel.left ≡ size
    → length (carried (payload (port_to x (target_at x cycle)).channel.left values)) ≡ size
    → Each (λ w. w < 2 ^ 32) (carried (payload (port_to x (target_at x cycle)).channel.left values))
    → InRange (injected cycle values x)
injected_in_range x cycle size values h here taken same small =
    let target : ℕ = target_at x cycle in
    let port : Port = port_to x target in
    let fits : IsWithin port.channel = h.channels target in
    let kept : IsWithin (moved_on port).channel =
    record { source = omega (arith, fits.source); target = omega (arith, fits.target) } in
    let bound : IsBound x.cores (packet_of cycle target (payload port.channel.left values) port) = record {
      among = mod_below (x.core + (cycle / 3 % (x.cores - 1) + 1)) x.cores (omega (arith, h.among));
      within = omega (arith, fits.target, taken, same);
      words = small;
    } in
    record {
      among = h.among;
      channels = within_set x.ports target (moved_on port) h.channels kept;
      packets = each-append (IsBound x.cores) x.under_way
          (packet_of cycle target (payload port.channel.left values) port ∷ []) h.packets (bound, tt);
    }

fit_injection : (x : Interface) (cycle words : ℕ) → InRange x → comm_word x.cores 0 ≤ words
    → IsFit InRange words (injection cycle x)
fit_injection x cycle words h room = elim (true_or_false (sends x cycle)) [
  | inl here ↦
      let target : ℕ = target_at x cycle in
      let left : ℕ = (port_to x target).channel.left in
      let first : ℕ = (port_to x target).channel.source in
      let fits : IsWithin (port_to x target).channel = h.channels target in
      let some : 0 < left = (sends_means x cycle here).some in
      let reads : (size : ℕ) → packet_size left ≡ size → gets size (comm_word x.core first) (λ values. done
      (injected cycle values x)) ≡ injection cycle x =
      λ size e. sym
      (rw (here, injection) (ap (λ s. gets s (comm_word x.core first) (λ values. done (injected cycle values x)))
      e)) in
      elim (cases_eq left 1) [
        | inl one ↦
            let alone : (left == 1) ≡ true = eq-eqb left 1 one in
            subst (IsFit InRange words) (reads 1 (omega arith)) (
              below_end x.cores x.core first words h.among (omega (arith, fits.source)) room,
              (λ value small. injected_in_range x cycle 1 (value ∷ []) h here (omega arith) (rw (alone, payload) refl)
                  (rw (alone, payload) (small, tt))),
            )
        | inr more ↦
            let not_alone : (left == 1) ≡ false = ne_eqb left 1 more in
            subst (IsFit InRange words) (reads 2 (omega arith)) (
              below_end x.cores x.core first words h.among (omega (arith, fits.source)) room,
              (λ value small. (
                omega (arith, below_end x.cores x.core (first + 1) words h.among (omega (arith, fits.source)) room),
                (λ next small'. injected_in_range x cycle 2 (value ∷ next ∷ []) h here (omega arith)
                    (rw (not_alone, payload) refl) (rw (not_alone, payload) (small, (small', tt)))),
              )),
            )
      ]
  | inr none ↦ subst (IsFit InRange words) (let e : done x ≡ injection cycle x = rw (none, injection) refl in e) h
]

pub fit_turn : (x : Interface) (phase cycle words : ℕ) → InRange x → comm_word x.cores 0 ≤ words
    → IsFit InRange words (turn phase cycle x)
fit_turn x zero cycle words h room = fit_delivery x cycle words h room
fit_turn x (suc phase) cycle words h room = fit_injection x cycle words h room

pub new_in_range : (n core : ℕ) → core < n → InRange (new_interface n core)
new_in_range n core among = record { among = among; channels = unused_within; packets = tt }
  where
    unused_within : (d : ℕ) → IsWithin (port_at all_unused d).channel
    unused_within d = elim (cases_lt d 16) [
      | inl below ↦ subst (λ (p : Port). IsWithin p.channel) (sym (get_or-replicate 16 d unused unused below))
          (record { source = omega arith; target = omega arith })
      | inr past ↦ subst (λ (p : Port). IsWithin p.channel)
          (sym (get_or_past all_unused d unused (omega (arith, length-replicate 16 unused))))
          (record { source = omega arith; target = omega arith })
    ]

port_in_range : (x : Interface) (d : ℕ) (port : Port) → InRange x → IsWithin port.channel → InRange (with_port d port x)
port_in_range x d port h here =
    record { among = h.among; channels = within_set x.ports d port h.channels here; packets = h.packets }

pub source_in_range : (x : Interface) (d word : ℕ) → InRange x → InRange (with_source d word x)
source_in_range x d word h = port_in_range x d (record (port_to x d) { source = word }) h (h.channels d)

pub target_in_range : (x : Interface) (d word : ℕ) → InRange x → InRange (with_target d word x)
target_in_range x d word h = port_in_range x d (record (port_to x d) { target = word }) h (h.channels d)

pub started_in_range : (x : Interface) (d count : ℕ) → InRange x → InRange (started d count x)
started_in_range x d count h = elim (true_or_false (is_in_range (port_to x d) count)) [
  | inr outside ↦ subst InRange (let e : x ≡ started d count x = sym (ap (λ a. started_by a d count x)
      (refused outside)) in e) h
  | inl inside ↦ elim (true_or_false ((port_to x d).channel.left == 0)) [
    | inl free ↦ subst InRange (sym (ap (λ a. started_by a d count x) (begins inside free)))
        (port_in_range x d (begun (port_to x d) count) h (within inside))
    | inr busy ↦ subst InRange (sym (ap (λ a. started_by a d count x) (drops inside busy)))
        (record { among = h.among; channels = h.channels; packets = h.packets })
  ]
]
  where
    within : is_in_range (port_to x d) count ≡ true → IsWithin (begun (port_to x d) count).channel
    within inside = record { source = grind (arith, nat_tests); target = grind (arith, nat_tests) }

    refused : is_in_range (port_to x d) count ≡ false → answer_to (port_to x d) count ≡ Refused
    refused outside = rw (outside, answer_to) refl

    begins : is_in_range (port_to x d) count ≡ true → ((port_to x d).channel.left == 0) ≡ true
        → answer_to (port_to x d) count ≡ Begun
    begins inside free = rw (inside, free, answer_to) refl

    drops : is_in_range (port_to x d) count ≡ true → ((port_to x d).channel.left == 0) ≡ false
        → answer_to (port_to x d) count ≡ Dropped
    drops inside busy = rw (inside, busy, answer_to) refl

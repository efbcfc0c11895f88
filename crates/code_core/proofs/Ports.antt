-- The registers of a core's interface: what the interface itself does leaves them, and what the task sets is what its
-- run set.
use Rattle.std.proofs.Common.{◌≡◌, if◌then◌else◌, ℕ, zero, suc, ◌≤◌, ◌==◌, cond, Bool, true, false, List, [], ◌∷◌, ◌++◌, length, filter, get_or, set, inl, inr, refl, sym, ap, ◌∙◌, subst, arith, length-set, get_or-set_same, get_or-set_other}
use Rattle.std.proofs.lemmas.Bool.{cases_eq, cases_lt, eq-eqb, ne_eqb}
use Rattle.slot_arbiter.specs.Stamp.{stamp}
use Rattle.shared_order.specs.Program.{Prog, done, gets}
use Rattle.shared_order.specs.Words.{put}
use Rattle.argo_ni.specs.Interface.{Interface, port_to}
use Rattle.argo_ni.specs.Packet.{comm_word, written}
use Rattle.argo_ni.specs.declared.port.Port.{Port}
use Rattle.argo_ni.specs.declared.event.Started.{Started}
use Rattle.argo_ni.specs.declared.event.Started.TheVariants.{Begun, Dropped, Refused}
use Rattle.argo_ni.specs.Port.{unused}
use Rattle.argo_ni.specs.Start.{with_port, with_source, with_target, started_by, answer_to}
use Rattle.argo_ni.specs.Turn.{comes, sends, target_at, packet_size, moved_on, delivered, delivery, injected, injection}
use Rattle.patmos_model.specs.State.{Core}
use Rattle.patmos_model.specs.Cells.{port_set}
use Rattle.patmos_model.specs.Apart.{Followed, after_delivery}
use Rattle.patmos_model.proofs.Acts.{port_cases}
use Rattle.patmos_model.proofs.Leaves.{Leaves, leaves_written, leaves_gets}
use Rattle.core_pace.specs.Growth.{IsSameTask}
use Rattle.core_pace.specs.Moment.{Moment, core_in, interfaced}
use Rattle.core_pace.specs.Next.{waited}
use Rattle.core_pace.proofs.Parts.{fed_leaves, with_interface_left}
use Rattle.core_pace.proofs.Waits.{waited_same}
use Rattle.sp_shape.specs.Memory as run
use Rattle.sp_shape.specs.Memory.{Memory}
use Rattle.code_core.specs.Held.{HoldsPorts}

-- ---- the same registers

pub record SamePorts (i j : Interface) : Type 0 where
  pub count : length j.ports ≡ length i.ports
  pub source : (d : ℕ) → (port_to j d).source ≡ (port_to i d).source
  pub target : (d : ℕ) → (port_to j d).target ≡ (port_to i d).target

pub same_ports : (i : Interface) → SamePorts i i
same_ports i = record { count = refl; source = λ d. refl; target = λ d. refl }

pub ports_then : (i j k : Interface) → SamePorts i j → SamePorts j k → SamePorts i k
ports_then i j k a b =
    record { count = b.count ∙ a.count; source = λ d. b.source d ∙ a.source d; target = λ d. b.target d ∙ a.target d }

pub holds_still : (m : Memory) (i j : Interface) → SamePorts i j → HoldsPorts m i → HoldsPorts m j
holds_still m i j same h = record {
  count = same.count ∙ h.count;
  source = λ d few. same.source d ∙ h.source d few;
  target = λ d few. same.target d ∙ h.target d few;
}

-- a port with another in its place, of which this is the same
port_kept : {A : Type 0} (f : Port → A) (x : Interface) (t : ℕ) (port : Port) (d : ℕ) → f port ≡ f (port_to x t)
    → f (port_to (with_port t port x) d) ≡ f (port_to x d)
port_kept f x t port d same = elim (cases_lt t (length x.ports)) [
  | inl within ↦ elim (cases_eq d t) [
    | inl here ↦ ap (λ k. f (get_or (set x.ports t port) k unused)) here
        ∙ ap f (get_or-set_same x.ports t port unused within) ∙ same ∙ sym (ap (λ k. f (port_to x k)) here)
    | inr other ↦ ap f (get_or-set_other x.ports t d port unused other)
  ]
  | inr past ↦ elim (cases_eq d t) [
    | inl here ↦ ap (λ l. f (get_or l d unused)) (set-past x.ports t port past)
    | inr other ↦ ap f (get_or-set_other x.ports t d port unused other)
  ]
]
  where
    set-past : (l : List Port) (n : ℕ) (v : Port) → length l ≤ n → set l n v ≡ l
    set-past [] n v past = refl
    set-past (a ∷ l) zero v past = absurd (omega (arith, past))
    set-past (a ∷ l) (suc n) v past = ap (λ k. a ∷ k) (set-past l n v (omega (arith, past)))

-- with its registers
swapped : (x : Interface) (t : ℕ) (port : Port) → port.source ≡ (port_to x t).source → port.target
    ≡ (port_to x t).target → SamePorts x (with_port t port x)
swapped x t port source target = record {
  count = length-set x.ports t port;
  source = λ d. port_kept (λ (p : Port). p.source) x t port d source;
  target = λ d. port_kept (λ (p : Port). p.target) x t port d target;
}

-- ---- what the interface does

ports_delivered : (cycle : ℕ) (x : Interface) → Leaves (SamePorts x) (delivery cycle x)
ports_delivered cycle x = by (comes x cycle)
  where
    by : (b : Bool) → Leaves (SamePorts x) (elim b as (λ _. Prog Interface) [
      | true ↦ written
          (filter (λ p. p.due == cycle) x.under_way) (done (delivered cycle x))
      | false ↦ done x
    ])
    by true = leaves_written (SamePorts x) (filter (λ p. p.due == cycle) x.under_way) (done (delivered cycle x))
        (record { count = refl; source = λ d. refl; target = λ d. refl })
    by false = same_ports x

ports_injected : (cycle : ℕ) (x : Interface) → Leaves (SamePorts x) (injection cycle x)
ports_injected cycle x = by (sends x cycle)
  where
    t : ℕ
    t = target_at x cycle

    left : ℕ
    left = (port_to x t).channel.left

    sent : (values : List ℕ) → SamePorts x (injected cycle values x)
    sent values =
        let k = swapped x t (moved_on (port_to x t)) refl refl in
        record { count = k.count; source = k.source; target = k.target }

    by : (b : Bool) → Leaves (SamePorts x) (elim b as (λ _. Prog Interface) [
      | true ↦ gets (packet_size left) (comm_word x.core (port_to x t).channel.source)
          (λ values. done (injected cycle values x))
      | false ↦ done x
    ])
    by true = leaves_gets (SamePorts x) (packet_size left) (comm_word x.core (port_to x t).channel.source)
        (λ values. done (injected cycle values x)) sent
    by false = same_ports x

-- one task at two moments, with the registers of its interface
pub record IsStill (c d : Core) : Type 0 where
  pub task : IsSameTask c d
  pub ports : SamePorts c.plain.interface d.plain.interface

module _ (n core : ℕ) where
  interfaced_ports : (m : Moment) → SamePorts (core_in m).plain.interface (core_in
      (interfaced n core m)).plain.interface
  interfaced_ports m =
      let c : Core = core_in m in
      let f : Followed = after_delivery n core m.cycle m.told in
      let one = fed_leaves (SamePorts c.plain.interface) (stamp n core m.cycle 0) (delivery m.cycle c.plain.interface)
      m.told.run.left (ports_delivered m.cycle c.plain.interface) in
      let two = fed_leaves (SamePorts f.run.core.plain.interface) (stamp n core m.cycle 1)
      (injection m.cycle f.run.core.plain.interface) f.run.left
      (ports_injected m.cycle f.run.core.plain.interface) in
      let there : SamePorts c.plain.interface f.run.core.plain.interface =
      subst (λ (d : Core). SamePorts c.plain.interface d.plain.interface)
      (sym (with_interface_left c (stamp n core m.cycle 0) (delivery m.cycle c.plain.interface) m.told.run.left))
      one in
      ports_then c.plain.interface f.run.core.plain.interface (core_in (interfaced n core m)).plain.interface there
      (subst (λ (d : Core). SamePorts f.run.core.plain.interface d.plain.interface)
      (sym (with_interface_left f.run.core (stamp n core m.cycle 1) (injection m.cycle f.run.core.plain.interface)
      f.run.left)) two)

  waited_ports : (d : ℕ) (m : Moment) → SamePorts (core_in m).plain.interface (core_in
      (waited n core d m)).plain.interface
  waited_ports zero m = same_ports (core_in m).plain.interface
  waited_ports (suc d) m =
      let a : Moment = waited n core d m in
      let b : Moment = record a { cycle = suc a.cycle } in
      ports_then (core_in m).plain.interface (core_in a).plain.interface (core_in (interfaced n core b)).plain.interface
      (waited_ports d m) (interfaced_ports b)

  pub still_waited : (d : ℕ) (m : Moment) → IsStill (core_in m) (core_in (waited n core d m))
  still_waited d m = record { task = waited_same n core d m; ports = waited_ports d m }

  pub still_interfaced : (m : Moment) → IsSameTask (core_in m) (core_in (interfaced n core m))
      → IsStill (core_in m) (core_in (interfaced n core m))
  still_interfaced m same = record { task = same; ports = interfaced_ports m }

-- ---- what the task sets

put_there : (f : ℕ → ℕ) (at v d : ℕ) → (d ≡ at → ⊥) → put at v f d ≡ f d
put_there f at v d away = ap (λ b. cond b v (f d)) (ne_eqb at d (λ e. away (sym e)))

pub sets_port : (t register value : ℕ) (m : Memory) (c : Core) → HoldsPorts m c.plain.interface
    → HoldsPorts (run.with_port t register value m) (port_set t register value c).plain.interface
sets_port t register value m c h =
    let begun = start (answer_to (port_to x t) value) in
    port_cases (λ a b d. HoldsPorts (if a then record m { source = put t value m.source } else
    (if b then record m { target = put t value m.target }
    else record m {
      starts = m.starts ++ record { core = t; source = m.source t; target = m.target t; count = value }
          ∷ [];
    })) d.plain.interface) t register value c (λ b. source) target
    (record { count = begun.count; source = begun.source; target = begun.target })
  where
    x : Interface
    x = c.plain.interface

    source : HoldsPorts (record m { source = put t value m.source }) (with_source t value x)
    source = record {
      count = length-set x.ports t _ ∙ h.count;
      source = λ d few. elim (cases_eq d t) [
        | inl here ↦ ap (λ k. (port_to (with_source t value x) k).source) here
            ∙ ap (λ (p : Port). p.source) (get_or-set_same x.ports t (record (port_to x t) { source = value }) unused
            (omega (arith, here, few, h.count)))
            ∙ sym (ap (λ b. cond b value (m.source d)) (eq-eqb t d (sym here)))
        | inr other ↦ ap (λ (p : Port). p.source) (get_or-set_other x.ports t d
            (record (port_to x t) { source = value }) unused other) ∙ h.source d few
            ∙ sym (put_there m.source t value d other)
      ];
      target = λ d few. port_kept (λ (p : Port). p.target) x t (record (port_to x t) { source = value }) d refl
          ∙ h.target d few;
    }

    target : HoldsPorts (record m { target = put t value m.target }) (with_target t value x)
    target = record {
      count = length-set x.ports t _ ∙ h.count;
      source = λ d few. port_kept (λ (p : Port). p.source) x t (record (port_to x t) { target = value }) d refl
          ∙ h.source d few;
      target = λ d few. elim (cases_eq d t) [
        | inl here ↦ ap (λ k. (port_to (with_target t value x) k).target) here
            ∙ ap (λ (p : Port). p.target) (get_or-set_same x.ports t (record (port_to x t) { target = value }) unused
            (omega (arith, here, few, h.count)))
            ∙ sym (ap (λ b. cond b value (m.target d)) (eq-eqb t d (sym here)))
        | inr other ↦ ap (λ (p : Port). p.target) (get_or-set_other x.ports t d
            (record (port_to x t) { target = value }) unused other) ∙ h.target d few
            ∙ sym (put_there m.target t value d other)
      ];
    }

    start : (a : Started) → HoldsPorts m (started_by a t value x)
    start Begun = holds_still m x (started_by Begun t value x) (swapped x t _ refl refl) h
    start Dropped = record { count = h.count; source = h.source; target = h.target }
    start Refused = h

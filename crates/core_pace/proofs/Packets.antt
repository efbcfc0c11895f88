-- What a core's interface stores: the words of its packets. So a core's operations are known by those of its task and
-- by its packets.
use Rattle.std.proofs.Common.{◌≡◌, ℕ, zero, suc, ◌+◌, ◌<◌, ◌==◌, Bool, true, false, List, [], ◌∷◌, ◌++◌, length, filter, refl, sym, ap, ◌∙◌, subst, arith}
use Rattle.std.specs.List.{AllByRecursion as Each}
use Rattle.slot_arbiter.specs.Stamp.{stamp}
use Rattle.shared_order.specs.declared.operation.Operation.{Operation}
use Rattle.shared_order.specs.Program.{Prog, done, get, set, gets, sets, and_then, fed, first, others}
use Rattle.shared_order.specs.SomeWords.{StoresOnly, SeesOn, Outside}
use Rattle.shared_order.specs.Words.{after}
use Rattle.shared_order.proofs.Lists.{each_first, each_rest, each-append, each_filter}
use Rattle.shared_order.proofs.Words.{after-append}
use Rattle.argo_ni.specs.declared.packet.Packet.{Packet}
use Rattle.argo_ni.specs.Interface.{Interface, port_to}
use Rattle.argo_ni.specs.Packet.{carried, comm_word, written}
use Rattle.argo_ni.specs.Range.{IsBound}
use Rattle.argo_ni.specs.Turn.{comes, sends, target_at, packet_size, delivered, delivery, injected, injection}
use Rattle.patmos_model.specs.Apart.{Followed, followed, after_delivery, after_injection, injected as own_injected}
use Rattle.patmos_model.specs.Cycle.{with_interface, own, settled, delivered as own_delivered}
use Rattle.patmos_model.specs.State.{Core}
use Rattle.core_pace.specs.Stores.{Comes, ComesAll}
use Rattle.shared_order.proofs.SomeWords.{Agree, agree_after, agree_trans, leave_after, on_agreed, on-append, on_first, on_rest}

-- the program stores in such words alone
abbrev Stores : {X : Type 0} → (ℕ → Type 0) → Prog X → Type 0
Stores W (done x) = Unit {0}
Stores W (get word go_on) = (value : ℕ) → Stores W (go_on value)
Stores W (set word value rest) = W word × Stores W rest

stores_fed : {X : Type 0} (W : ℕ → Type 0) (s : ℕ) (p : Prog X) (values : List ℕ) → Stores W p
    → Each (StoresOnly W) (fed s p values).ops
stores_fed W s (done x) values h = tt
stores_fed W s (get word go_on) values h = (
  λ is. absurd (let bad : false ≡ true = is in cc),
  stores_fed W s
      (go_on (first values)) (others values) (h (first values)),
)
stores_fed W s (set word value rest) values h = (λ is. h.0, stores_fed W s rest values h.1)

stores_then : {X Y : Type 0} (W : ℕ → Type 0) (next : X → Prog Y) → ((x : X) → Stores W (next x)) → (p : Prog X)
    → Stores W p → Stores W (and_then p next)
stores_then W next on (done x) h = on x
stores_then W next on (get word go_on) h = λ value. stores_then W next on (go_on value) (h value)
stores_then W next on (set word value rest) h = (h.0, stores_then W next on rest h.1)

stores_gets : {X : Type 0} (W : ℕ → Type 0) (count word : ℕ) (go_on : List ℕ → Prog X)
    → ((values : List ℕ) → Stores W (go_on values)) → Stores W (gets count word go_on)
stores_gets W zero word go_on h = h []
stores_gets W (suc count) word go_on h =
    λ value. stores_gets W count (word + 1) (λ values. go_on (value ∷ values)) (λ values. h (value ∷ values))

stores_sets : {X : Type 0} (W : ℕ → Type 0) (word : ℕ) (values : List ℕ) (rest : Prog X) → ((i : ℕ) → i < length values
    → W (word + i)) → Stores W rest → Stores W (sets word values rest)
stores_sets W word [] rest h r = r
stores_sets W word (value ∷ values) rest h r =
    let here : word + 0 ≡ word = omega arith in (
      subst W here (h 0 (omega arith)),
      stores_sets W (word + 1) values rest (λ i below. let there : word + suc i ≡ word + 1 + i = omega arith in
          subst W there (h (suc i) (omega (arith, below)))) r,
    )

pub comes_bound : (W : ℕ → Type 0) (n : ℕ) (p : Packet) → IsBound n p → ((k : ℕ) → k < 512 → W (comm_word p.target k))
    → Comes W p
comes_bound W n p bound h i below =
    let same : comm_word p.target (p.first + i) ≡ comm_word p.target p.first + i = omega arith in
    subst W same (h (p.first + i) (omega (arith, below, bound.within)))

stores_written : {X : Type 0} (W : ℕ → Type 0) (ps : List Packet) (rest : Prog X) → Each (Comes W) ps → Stores W rest
    → Stores W (written ps rest)
stores_written W [] rest h r = r
stores_written W (p ∷ ps) rest h r = stores_sets W (comm_word p.target p.first) (carried p.payload) (written ps rest)
    h.0 (stores_written W ps rest h.1 r)

stores_delivery : (W : ℕ → Type 0) (cycle : ℕ) (x : Interface) → Each (Comes W) x.under_way
    → Stores W (delivery cycle x)
stores_delivery W cycle x h = by (comes x cycle)
  where
    by : (b : Bool)
        → Stores W (elim b as (λ _. Prog Interface) [
          | true ↦ written (filter (λ p. p.due == cycle) x.under_way)
              (done (delivered cycle x))
          | false ↦ done x
        ])
    by true = stores_written W (filter (λ p. p.due == cycle) x.under_way) (done (delivered cycle x))
        (each_filter (Comes W) (λ (p : Packet). p.due == cycle) x.under_way h) tt
    by false = tt

stores_injection : (W : ℕ → Type 0) (cycle : ℕ) (x : Interface) → Stores W (injection cycle x)
stores_injection W cycle x = by (sends x cycle)
  where
    left : ℕ
    left = (port_to x (target_at x cycle)).channel.left

    word : ℕ
    word = comm_word x.core (port_to x (target_at x cycle)).channel.source

    by : (b : Bool) → Stores W (elim b as (λ _. Prog Interface) [
      | true ↦ gets (packet_size left) word
          (λ values. done (injected cycle values x))
      | false ↦ done x
    ])
    by true = stores_gets W (packet_size left) word (λ values. done (injected cycle values x)) (λ values. tt)
    by false = tt

-- ---- the run

module _ (n core : ℕ) (x : Core) (values : List ℕ) where
  -- the packets that are under way before a cycle come to such words
  abbrev pub Coming : (ℕ → Type 0) → ℕ → Type 0
  Coming W t = ComesAll W (followed n core x values t).run.core.plain.interface

  abbrev pub came : ℕ → List Operation
  came t = (fed (stamp n core t 0) (own_delivered t (followed n core x values t).run.core)
      (followed n core x values t).run.left).ops

  abbrev pub there : ℕ → Followed
  there t = after_delivery n core t (followed n core x values t)

  abbrev pub sent : ℕ → List Operation
  sent t = (fed (stamp n core t 1) (own_injected t (there t).run.core) (there t).run.left).ops

  came_so : (W : ℕ → Type 0) (t : ℕ) → Coming W t → Each (StoresOnly W) (came t)
  came_so W t h =
      let c : Core = (followed n core x values t).run.core in
      stores_fed W (stamp n core t 0) (own_delivered t c) (followed n core x values t).run.left
      (stores_then W (λ i. done (with_interface c i)) (λ i. tt) (delivery t c.plain.interface)
      (stores_delivery W t c.plain.interface h))

  sent_so : (W : ℕ → Type 0) (t : ℕ) → Each (StoresOnly W) (sent t)
  sent_so W t =
      let c : Core = (there t).run.core in
      stores_fed W (stamp n core t 1) (own_injected t c) (there t).run.left
      (stores_then W (λ i. done (with_interface c i)) (λ i. tt) (injection t c.plain.interface)
      (stores_injection W t c.plain.interface))

  abbrev pub acted : ℕ → List Operation
  acted t =
      let g : Followed = after_injection n core t (there t) in
      (fed (stamp n core t 1) (and_then (own t g.run.core) settled) g.run.left).ops

  -- what the task itself stores, and its packets, are all that the core stores
  pub made_so : (W : ℕ → Type 0) (t : ℕ) → ((u : ℕ) → u < t → Coming W u)
      → Each (StoresOnly W) (followed n core x values t).own → Each (StoresOnly W) (followed n core x values t).run.made
  made_so W zero coming h = tt
  made_so W (suc t) coming h =
      let f : Followed = followed n core x values t in
      each-append (StoresOnly W) ((f.run.made ++ came t) ++ sent t) (acted t)
      (each-append (StoresOnly W) (f.run.made ++ came t) (sent t)
      (each-append (StoresOnly W) f.run.made (came t)
      (made_so W t (λ u below. coming u (omega (arith, below))) (each_first (StoresOnly W) f.own (acted t) h))
      (came_so W t (coming t (omega arith))))
      (sent_so W t))
      (each_rest (StoresOnly W) f.own (acted t) h)

  pub record OwnSees (W : ℕ → Type 0) (f : ℕ → ℕ) (t : ℕ) : Type 0 where
    pub sees : SeesOn W f (followed n core x values t).own
    pub agree : Agree W (after (followed n core x values t).run.made f) (after (followed n core x values t).own f)

  -- where its packets leave the words, the task's own loads of them see what the core's see
  pub own_sees : (W : ℕ → Type 0) (f : ℕ → ℕ) (t : ℕ) → ((u : ℕ) → u < t → Coming (Outside W) u)
      → SeesOn W f (followed n core x values t).run.made → OwnSees W f t
  own_sees W f zero coming h = record { sees = tt; agree = λ word here. refl }
  own_sees W f (suc t) coming h =
      let z : Followed = followed n core x values t in
      let until : List Operation = (z.run.made ++ came t) ++ sent t in
      let early : SeesOn W f until = on_first W f until (acted t) h in
      let before : OwnSees W f t = own_sees W f t (λ u below. coming u (omega (arith, below)))
      (on_first W f z.run.made (came t) (on_first W f (z.run.made ++ came t) (sent t) early)) in
      let quiet : Agree W (after until f) (after z.run.made f) =
      λ word here.
      ap (λ g. g word) (after-append (z.run.made ++ came t) (sent t) f)
      ∙ leave_after W (sent t) (after (z.run.made ++ came t) f) (sent_so (Outside W) t) word here
      ∙ ap (λ g. g word) (after-append z.run.made (came t) f)
      ∙ leave_after W (came t) (after z.run.made f) (came_so (Outside W) t (coming t (omega arith))) word here in
      let agree : Agree W (after until f) (after z.own f) =
      agree_trans W (after until f) (after z.run.made f) (after z.own f) quiet before.agree in
      record {
        sees = on-append W f z.own (acted t) before.sees (on_agreed W (after until f) (after z.own f) (acted t) agree
            (on_rest W f until (acted t) h));
        agree = λ word here.
            ap (λ g. g word) (after-append until (acted t) f)
            ∙ agree_after W (acted t) (after until f) (after z.own f) agree word here
            ∙ sym (ap (λ g. g word) (after-append z.own (acted t) f));
      }

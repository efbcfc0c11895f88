-- What a cycle does to an interface, as far as one of its channels and the packets under way go.
use Rattle.std.proofs.Common.{◌≡◌, ◌≢◌, ℕ, zero, suc, ◌+◌, ◌*◌, ◌<◌, true, false, not, ◌==◌, inl, inr, List, [], ◌∷◌, length, filter, get_or, set, slice_get, Some, refl, sym, ap, ◌∙◌, subst, arith}
use Rattle.std.proofs.Math.ListN.{length-set}
use Rattle.std.proofs.lemmas.Bool.{cases_lt, cases_eq, eq-eqb, ne_eqb, eqb-true}
use Rattle.std.proofs.lemmas.List.{get_or-set_same, get_or-set_other, set_past}
use Rattle.shared_order.specs.declared.operation.Operation.{Operation}
use Rattle.shared_order.specs.Operation.{load, store}
use Rattle.shared_order.specs.Program.{Prog, fed, done, gets, sets, first, others}
use Rattle.argo_ni.specs.declared.packet.Packet.{Packet}
use Rattle.argo_ni.specs.declared.packet.Payload.{Payload}
use Rattle.argo_ni.specs.declared.packet.Payload.TheVariants.{One, Two}
use Rattle.argo_ni.specs.declared.port.Channel.{Channel}
use Rattle.argo_ni.specs.declared.port.Port.{Port}
use Rattle.argo_ni.specs.declared.event.Started.{Started}
use Rattle.argo_ni.specs.declared.event.Started.TheVariants.{Begun, Dropped, Refused}
use Rattle.argo_ni.specs.Port.{unused, port_at}
use Rattle.argo_ni.specs.Packet.{comm_word, carried, payload, written}
use Rattle.argo_ni.specs.Interface.{Interface, port_to}
use Rattle.argo_ni.specs.Start.{with_port, is_in_range, answer_to, begun, started_by}
use Rattle.argo_ni.specs.Turn.{comes, delivered, delivery, sends, target_at, packet_size, injected_to, injected, injection}
use Rattle.argo_ni.specs.Event.{stamp_in}
use Rattle.argo_grid.specs.Transfer.{Touch, set_source, set_target, start, touched, touched_by, heard, delivering}
use Rattle.argo_grid.proofs.Lists.{true_or_false, Has, has_later, has_filter, passes_any}

-- values that are stored one after another
sets_core : (stamp word : ℕ) (vs : List ℕ) (rest : Prog Interface) (values : List ℕ)
    → (fed stamp (sets word vs rest) values).core ≡ (fed stamp rest values).core
sets_core stamp word [] rest values = refl
sets_core stamp word (v ∷ vs) rest values = sets_core stamp (word + 1) vs rest values

sets_later : (stamp word : ℕ) (vs : List ℕ) (rest : Prog Interface) (values : List ℕ) (o : Operation)
    → Has (fed stamp rest values).ops o → Has (fed stamp (sets word vs rest) values).ops o
sets_later stamp word [] rest values o has = has
sets_later stamp word (v ∷ vs) rest values o has =
    has_later (fed stamp (sets (word + 1) vs rest) values).ops (store stamp word v) o
    (sets_later stamp (word + 1) vs rest values o has)

sets_made : (stamp word : ℕ) (vs : List ℕ) (rest : Prog Interface) (values : List ℕ) (k v : ℕ) → slice_get vs k ≡ Some v
    → Has (fed stamp (sets word vs rest) values).ops (store stamp (word + k) v)
sets_made stamp word [] rest values k v here = cc
sets_made stamp word (u ∷ vs) rest values zero v here =
    let same : u ≡ v = cc in
    record { place = 0; here = λ i. Some (store stamp ((let e : word ≡ word + zero = omega arith in e) i) (same i)) }
sets_made stamp word (u ∷ vs) rest values (suc k) v here =
    let e : word + 1 + k ≡ word + suc k = omega arith in
    has_later (fed stamp (sets (word + 1) vs rest) values).ops (store stamp word u) (store stamp (word + suc k) v)
    (subst (λ w. Has (fed stamp (sets (word + 1) vs rest) values).ops (store stamp w v)) e
    (sets_made stamp (word + 1) vs rest values k v here))

-- packets that are delivered one after another
written_core : (stamp : ℕ) (ps : List Packet) (rest : Prog Interface) (values : List ℕ)
    → (fed stamp (written ps rest) values).core ≡ (fed stamp rest values).core
written_core stamp [] rest values = refl
written_core stamp (p ∷ ps) rest values =
    sets_core stamp (comm_word p.target p.first) (carried p.payload) (written ps rest) values
    ∙ written_core stamp ps rest values

written_made : (stamp : ℕ) (ps : List Packet) (rest : Prog Interface) (values : List ℕ) (i : ℕ) (p : Packet) (k v : ℕ)
    → slice_get ps i ≡ Some p → slice_get (carried p.payload) k ≡ Some v
    → Has (fed stamp (written ps rest) values).ops (store stamp (comm_word p.target p.first + k) v)
written_made stamp [] rest values i p k v here carries = cc
written_made stamp (q ∷ ps) rest values zero p k v here carries =
    let same : q ≡ p = cc in
    subst (λ (r : Packet). Has (fed stamp (written (r ∷ ps) rest) values).ops
    (store stamp (comm_word p.target p.first + k) v)) (sym same)
    (sets_made stamp (comm_word p.target p.first) (carried p.payload) (written ps rest) values k v carries)
written_made stamp (q ∷ ps) rest values (suc i) p k v here carries =
    sets_later stamp (comm_word q.target q.first) (carried q.payload) (written ps rest) values
    (store stamp (comm_word p.target p.first + k) v)
    (written_made stamp ps rest values i p k v here carries)

-- the interface after the deliveries of a cycle
pub record IsDelivered (cycle : ℕ) (x y : Interface) : Type 0 where
  pub cores : y.cores ≡ x.cores
  pub core : y.core ≡ x.core
  pub ports : y.ports ≡ x.ports
  pub others_stay : (p : Packet) → p.due ≢ cycle → Has x.under_way p → Has y.under_way p

pub is_delivered : (cycle : ℕ) (x : Interface) → IsDelivered cycle x (delivering cycle x).core
is_delivered cycle x = elim (true_or_false (comes x cycle)) [
  | inl some ↦
      let program : written (filter (λ p. p.due == cycle) x.under_way) (done (delivered cycle x)) ≡ delivery cycle x =
      rw (some, delivery) refl in
      let stamp : ℕ = stamp_in x.cores x.core (2 * cycle + 0) in
      let after : delivered cycle x ≡ (delivering cycle x).core =
      sym (written_core stamp (filter (λ p. p.due == cycle) x.under_way) (done (delivered cycle x)) [])
      ∙ ap (λ (p : Prog Interface). (fed stamp p []).core) program in
      subst (IsDelivered cycle x) after (record {
        cores = refl;
        core = refl;
        ports = refl;
        others_stay = λ p other has.
            let no_match : (p.due == cycle) ≡ false = ne_eqb p.due cycle other in
            has_filter (λ q. not (q.due == cycle)) x.under_way p has (ap not no_match);
      })
  | inr none ↦
      let program : done x ≡ delivery cycle x = rw (none, delivery) refl in
      let same : x ≡ (delivering cycle x).core =
      ap (λ (p : Prog Interface). (fed (stamp_in x.cores x.core (2 * cycle + 0)) p []).core) program in
      subst (IsDelivered cycle x) same (record {
        cores = refl;
        core = refl;
        ports = refl;
        others_stay = λ p other has. has;
      })
]

-- a packet that is due stores what it carries
pub stores : (cycle : ℕ) (x : Interface) (p : Packet) (k v : ℕ) → Has x.under_way p → p.due ≡ cycle
    → slice_get (carried p.payload) k ≡ Some v
    → Has (delivering cycle x).ops (store (stamp_in x.cores x.core (2 * cycle + 0)) (comm_word p.target p.first + k) v)
stores cycle x p k v has due carries =
    let stamp : ℕ = stamp_in x.cores x.core (2 * cycle + 0) in
    let now : (p.due == cycle) ≡ true = eq-eqb p.due cycle due in
    let some : comes x cycle ≡ true = passes_any (λ q. q.due == cycle) x.under_way has.place p has.here now in
    let coming = has_filter (λ q. q.due == cycle) x.under_way p has now in
    let program : written (filter (λ q. q.due == cycle) x.under_way) (done (delivered cycle x)) ≡ delivery cycle x =
    rw (some, delivery) refl in
    subst (λ (q : Prog Interface). Has (fed stamp q []).ops (store stamp (comm_word p.target p.first + k) v)) program
    (written_made stamp (filter (λ q. q.due == cycle) x.under_way) (done (delivered cycle x)) [] coming.place p k v
    coming.here carries)

-- the injection of a packet: the words that it carries are read
pub record IsInjected (cycle : ℕ) (values : List ℕ) (x : Interface) : Type 0 where
  pub payload : Payload
  pub size : length (carried payload) ≡ packet_size (port_to x (target_at x cycle)).channel.left
  pub after : (heard 1 cycle values x).core ≡ injected_to (target_at x cycle) cycle payload x
  pub reads : (k v : ℕ) → slice_get (carried payload) k ≡ Some v
      → Has (heard 1 cycle values x).ops (load (stamp_in x.cores x.core (2 * cycle + 1))
      (comm_word x.core ((port_to x (target_at x cycle)).channel.source + k)) v)

pub is_injected : (cycle : ℕ) (values : List ℕ) (x : Interface) → sends x cycle ≡ true
    → 0 < (port_to x (target_at x cycle)).channel.left → IsInjected cycle values x
is_injected cycle values x here some =
    let left : ℕ = (port_to x (target_at x cycle)).channel.left in
    let source : ℕ = (port_to x (target_at x cycle)).channel.source in
    let word : ℕ = comm_word x.core source in
    let stamp : ℕ = stamp_in x.cores x.core (2 * cycle + 1) in
    let reads : (size : ℕ) → packet_size left ≡ size → gets size word (λ vs. done (injected cycle vs x))
    ≡ injection cycle x =
    λ size e. sym (rw (here, injection) (ap (λ s. gets s word (λ vs. done (injected cycle vs x))) e)) in
    elim (cases_eq left 1) [
      | inl one ↦
          let is_one : (left == 1) ≡ true = eq-eqb left 1 one in
          let prog = reads 1 (omega arith) in
          let load_one : payload left (first values ∷ []) ≡ One (first values) = rw (is_one, payload) refl in
          record {
            payload = One (first values);
            size = omega (arith, one);
            after = ap (λ (p : Prog Interface). (fed stamp p values).core) (sym prog)
                ∙ ap (λ l. injected_to (target_at x cycle) cycle l x) load_one;
            reads = λ k v carries. subst (λ (p : Prog Interface). Has (fed stamp p values).ops
                (load stamp (comm_word x.core (source + k)) v)) prog
                (one_read stamp x.core source (first values) (done (injected cycle (first values ∷ []) x))
                values k v carries);
          }
      | inr more ↦
          let is_more : (left == 1) ≡ false = ne_eqb left 1 more in
          let prog = reads 2 (omega arith) in
          let load_two : payload left (first values ∷ first (others values) ∷ [])
          ≡ Two (first values) (first (others values)) = rw (is_more, payload) refl in
          record {
            payload = Two (first values) (first (others values));
            size = omega (arith, more);
            after = ap (λ (p : Prog Interface). (fed stamp p values).core) (sym prog)
                ∙ ap (λ l. injected_to (target_at x cycle) cycle l x) load_two;
            reads = λ k v carries. subst (λ (p : Prog Interface). Has (fed stamp p values).ops
                (load stamp (comm_word x.core (source + k)) v)) prog
                (two_read stamp x.core source (first values) (first (others values)) k v carries);
          }
    ]
  where
    one_read : (stamp core source value : ℕ) (rest : Prog Interface) (vs : List ℕ) (k v : ℕ) → slice_get (value ∷ []) k
        ≡ Some v → Has (load stamp (comm_word core source) value ∷ []) (load stamp (comm_word core (source + k)) v)
    one_read stamp core source value rest vs zero v carries =
        let same : value ≡ v = cc in
        record {
          place = 0;
          here = λ i. Some
              (load stamp (comm_word core ((let e : source ≡ source + zero = omega arith in e) i)) (same i));
        }
    one_read stamp core source value rest vs (suc k) v carries = cc

    two_read : (stamp core source value next k v : ℕ) → slice_get (value ∷ next ∷ []) k ≡ Some v
        → Has (load stamp (comm_word core source) value ∷ load stamp (comm_word core source + 1) next ∷ []) (load stamp
        (comm_word core (source + k)) v)
    two_read stamp core source value next zero v carries =
        let same : value ≡ v = cc in
        record {
          place = 0;
          here = λ i. Some
              (load stamp (comm_word core ((let e : source ≡ source + zero = omega arith in e) i)) (same i));
        }
    two_read stamp core source value next (suc zero) v carries =
        let same : next ≡ v = cc in
        record {
          place = 1;
          here = λ i. Some
              (load stamp ((let e : comm_word core source + 1 ≡ comm_word core (source + suc zero) = omega arith in e)
              i)
              (same i));
        }
    two_read stamp core source value next (suc (suc k)) v carries = cc

pub is_idle : (cycle : ℕ) (values : List ℕ) (x : Interface) → sends x cycle ≡ false → (heard 1 cycle values x).core ≡ x
is_idle cycle values x none =
    let program : injection cycle x ≡ done x = rw (none, injection) refl in
    ap (λ (p : Prog Interface). (fed (stamp_in x.cores x.core (2 * cycle + 1)) p values).core) program

-- what does not touch the channel to target d, while it has words, nor the packets under way
pub record LeavesChannel (d : ℕ) (x y : Interface) : Type 0 where
  pub cores : y.cores ≡ x.cores
  pub core : y.core ≡ x.core
  pub targets : length y.ports ≡ length x.ports
  pub packets : y.under_way ≡ x.under_way
  pub channel : 0 < (port_to x d).channel.left → (port_to y d).channel ≡ (port_to x d).channel

same_channel : (ports : List Port) (d e : ℕ) (port : Port) → (e ≡ d → port.channel ≡ (port_at ports d).channel)
    → (port_at (set ports e port) d).channel ≡ (port_at ports d).channel
same_channel ports d e port same = elim (cases_eq d e) [
  | inr other ↦ ap (λ (p : Port). p.channel) (get_or-set_other ports e d port unused other)
  | inl here ↦ elim (cases_lt e (length ports)) [
    | inl within ↦
        ap (λ i. (get_or (set ports e port) i unused).channel) here
        ∙ ap (λ (p : Port). p.channel) (get_or-set_same ports e port unused within)
        ∙ same (sym here)
    | inr past ↦ ap (λ (ps : List Port). (get_or ps d unused).channel) (set_past ports e port past)
  ]
]

changed : (d e : ℕ) (port : Port) (x : Interface) → (e ≡ d → 0 < (port_to x d).channel.left → port.channel
    ≡ (port_to x d).channel) → LeavesChannel d x (with_port e port x)
changed d e port x same = record {
  cores = refl;
  core = refl;
  targets = length-set x.ports e port;
  packets = refl;
  channel = λ some. same_channel x.ports d e port (λ here. same here some);
}

unchanged : (d : ℕ) (x : Interface) → LeavesChannel d x x
unchanged d x = record { cores = refl; core = refl; targets = refl; packets = refl; channel = λ some. refl }

-- a start begins only where the channel has no words left
pub begins_idle : (port : Port) (count : ℕ) → answer_to port count ≡ Begun → port.channel.left ≡ 0
begins_idle port count begins = elim (true_or_false (is_in_range port count)) [
  | inr outside ↦ let refused : answer_to port count ≡ Refused =
      rw (outside, answer_to) refl in absurd (let bad : Begun ≡ Refused = cc in cc)
  | inl inside ↦ elim (true_or_false (port.channel.left == 0)) [
    | inl free ↦ eqb-true port.channel.left 0 free
    | inr busy ↦ let dropped : answer_to port count ≡ Dropped =
        rw (inside, busy, answer_to) refl in absurd (let bad : Begun ≡ Dropped = cc in cc)
  ]
]

starting : (d e count : ℕ) (x : Interface) (a : Started) → answer_to (port_to x e) count ≡ a
    → LeavesChannel d x (started_by a e count x)
starting d e count x Begun is = changed d e (begun (port_to x e) count) x
    (λ here some.
    let idle : (port_to x e).channel.left ≡ 0 = begins_idle (port_to x e) count is in
    let same : (port_to x e).channel.left ≡ (port_to x d).channel.left = ap (λ k. (port_to x k).channel.left) here in
    absurd (omega (arith, idle, same, some)))
starting d e count x Dropped is =
    record { cores = refl; core = refl; targets = refl; packets = refl; channel = λ some. refl }
starting d e count x Refused is = unchanged d x

touching : (d : ℕ) (t : Touch) (x : Interface) → LeavesChannel d x (touched t x)
touching d (set_source e word) x =
    changed d e (record (port_to x e) { source = word }) x (λ here some. ap (λ k. (port_to x k).channel) here)
touching d (set_target e word) x =
    changed d e (record (port_to x e) { target = word }) x (λ here some. ap (λ k. (port_to x k).channel) here)
touching d (start e count) x = starting d e count x (answer_to (port_to x e) count) refl

then : (d : ℕ) (x y z : Interface) → LeavesChannel d x y → LeavesChannel d y z → LeavesChannel d x z
then d x y z one two = record {
  cores = two.cores ∙ one.cores;
  core = two.core ∙ one.core;
  targets = two.targets ∙ one.targets;
  packets = two.packets ∙ one.packets;
  channel = λ some.
      let same = one.channel some in
      let still : 0 < (port_to y d).channel.left = subst (λ (c : Channel). 0 < c.left) (sym same) some in
      two.channel still ∙ same;
}

pub touches_leave : (d : ℕ) (ts : List Touch) (x : Interface) → LeavesChannel d x (touched_by ts x)
touches_leave d [] x = unchanged d x
touches_leave d (t ∷ ts) x =
    then d x (touched t x) (touched_by ts (touched t x)) (touching d t x) (touches_leave d ts (touched t x))

pub other_channel : (ports : List Port) (d e : ℕ) (port : Port) → d ≢ e → (port_at (set ports e port) d).channel
    ≡ (port_at ports d).channel
other_channel ports d e port other = same_channel ports d e port (λ same. absurd (other (sym same)))

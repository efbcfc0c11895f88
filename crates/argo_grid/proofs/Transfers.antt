-- A transfer goes on to its end: in each round of windows one packet of it is sent.
use Rattle.std.proofs.Common.{◌≡◌, ◌≢◌, ℕ, zero, suc, ◌+◌, ◌-◌, ◌*◌, ◌/◌, ◌%◌, ◌<◌, ◌≤◌, true, false, ◌==◌, nat_lt, nat_le, ◌⊎◌, inl, inr, List, [], ◌∷◌, length, get_or, slice_get, Some, Contains, refl, sym, ap, ◌∙◌, subst, arith}
use Rattle.std.proofs.Math.ListN.{length-set}
use Rattle.std.proofs.Math.Nat.{mod-eq_of_lt}
use Rattle.std.proofs.lemmas.Bool.{cases_lt, cases_eq, eq-eqb}
use Rattle.std.proofs.lemmas.Bool.Decides.{nat_tests}
use Rattle.std.proofs.lemmas.List.{get_or-set_same}
use Rattle.std.proofs.lemmas.Nat.{mod-mul-add}
use Rattle.std.proofs.lemmas.Option.{slice_get-get_or}
use Rattle.slot_arbiter.proofs.Turns.{reach}
use Rattle.shared_order.specs.declared.operation.Operation.{Operation}
use Rattle.shared_order.specs.Operation.{load, store}
use Rattle.argo_ni.specs.declared.packet.Packet.{Packet}
use Rattle.argo_ni.specs.declared.port.Channel.{Channel}
use Rattle.argo_ni.specs.declared.port.Port.{Port}
use Rattle.argo_ni.specs.declared.event.Started.TheVariants.{Begun}
use Rattle.argo_ni.specs.Port.{unused, port_at}
use Rattle.argo_ni.specs.Packet.{comm_word, carried}
use Rattle.argo_ni.specs.Interface.{Interface, IsTarget, port_to}
use Rattle.argo_ni.specs.Start.{answer_to, begun, started_by, started}
use Rattle.argo_ni.specs.Turn.{sends, target_at, moved_on, packet_of, packet_size, injected_to}
use Rattle.argo_ni.specs.Window.{target_in}
use Rattle.argo_ni.specs.Event.{stamp_in}
use Rattle.argo_ni.proofs.Acts.{sends_means}
use Rattle.argo_grid.specs.Transfer.{latency_of, IsOneOf, Cycle, heard, delivering, injecting, after_cycle, before, IsBrought}
use Rattle.argo_grid.proofs.Lists.{true_or_false, Has, contains, has_append, has_last}
use Rattle.argo_grid.proofs.Turns.{IsDelivered, is_delivered, stores, is_injected, is_idle, LeavesChannel, touches_leave, other_channel}

-- a window in which the core sends to the target, from a cycle on
record NextWindow (n core d cycle : ℕ) : Type 0 where
  wait : ℕ
  soon : wait < 3 * (n - 1)
  begins : (cycle + wait) % 3 ≡ 0
  to : target_in n core ((cycle + wait) / 3) ≡ d

window_of_turn : (n core d cycle turn : ℕ) → turn < n - 1 → (core + (turn + 1)) % n ≡ d → NextWindow n core d cycle
window_of_turn n core d cycle turn within is =
    let first : ℕ = (cycle + 2) / 3 in
    let found = reach (n - 1) first turn within in
    let window : ℕ = first + found.0 in
    let near : found.0 < n - 1 = found.1.0 in
    let at : cycle + (3 * window - cycle) ≡ 3 * window = omega arith in
    let third : 3 * window / 3 ≡ window = omega arith in
    record {
      wait = 3 * window - cycle;
      soon = omega (arith, near);
      begins = ap (λ c. c % 3) at ∙ omega arith;
      to = ap (λ c. target_in n core (c / 3)) at ∙ ap (target_in n core) third
          ∙ ap (λ k. (core + (k + 1)) % n) found.1.1 ∙ is;
    }

next_window : (n core d cycle : ℕ) → core < n → d < n → d ≢ core → NextWindow n core d cycle
next_window n core d cycle among below other = elim (cases_lt core d) [
  | inl after ↦ window_of_turn n core d cycle (d - core - 1) (omega arith)
      (ap (λ x. x % n) (let e : core + (d - core - 1 + 1) ≡ d = omega arith in e) ∙ mod-eq_of_lt below)
  | inr up_to ↦
      let less : d < core = less_than core d up_to other in
      window_of_turn n core d cycle (d + n - core - 1) (omega arith)
      (ap (λ x. x % n) (let e : core + (d + n - core - 1 + 1) ≡ 1 * n + d = omega arith in e) ∙ mod-mul-add 1 n d below)
]
  where
    less_than : (a b : ℕ) → b ≤ a → b ≢ a → b < a
    less_than a b most apart = omega arith

-- the number of cores and the core never change, nor how many ports there are
record Same (n core : ℕ) (y : Interface) : Type 0 where
  cores : y.cores ≡ n
  core_is : y.core ≡ core
  targets : length y.ports ≡ 16

-- whether a packet goes to the target in the cycle
abbrev GoesTo : ℕ → ℕ → Interface → Type 0
GoesTo d cycle y = (sends y cycle ≡ true) × (target_at y cycle ≡ d)

goes_or_not : (d cycle : ℕ) (y : Interface) → GoesTo d cycle y ⊎ (GoesTo d cycle y → ⊥)
goes_or_not d cycle y = elim (true_or_false (sends y cycle)) [
  | inr none ↦ inr (λ goes. let a = goes.0 in let bad : true ≡ false = cc in cc)
  | inl some ↦ elim (cases_eq (target_at y cycle) d) [
    | inl here ↦ inl (some, here)
    | inr other ↦ inr (λ goes. other goes.1)
  ]
]

-- an injection, as far as target d goes
record Injects (n core d : ℕ) (y z : Interface) (goes : Type 0) : Type 0 where
  same : Same n core y → Same n core z
  packets : (p : Packet) → Has y.under_way p → Has z.under_way p
  channel : (goes → ⊥) → (port_to z d).channel ≡ (port_to y d).channel

injection : (n core d cycle : ℕ) (values : List ℕ) (y : Interface) → Injects n core d y (heard 1 cycle values y).core
    (GoesTo d cycle y)
injection n core d cycle values y = elim (true_or_false (sends y cycle)) [
  | inr none ↦ subst (λ z. Injects n core d y z (GoesTo d cycle y)) (sym (is_idle cycle values y none))
      (record { same = λ h. h; packets = λ p has. has; channel = λ not_here. refl })
  | inl some ↦
      let target : ℕ = target_at y cycle in
      let sent = is_injected cycle values y some (sends_means y cycle some).some in
      let packet : Packet = packet_of cycle target sent.payload (port_to y target) in
      subst (λ z. Injects n core d y z (GoesTo d cycle y)) (sym sent.after) (record {
        same = λ h. record {
          cores = h.cores;
          core_is = h.core_is;
          targets = length-set y.ports target (moved_on
              (port_to y target)) ∙ h.targets;
        };
        packets = λ p has. has_append y.under_way (packet ∷ []) p has;
        channel = λ not_here. other_channel y.ports d target (moved_on (port_to y target))
            (λ here. not_here (some, sym here));
      })
]

-- the core's touches keep it
same_touched : (n core d : ℕ) (y z : Interface) → LeavesChannel d y z → Same n core y → Same n core z
same_touched n core d y z leaves h = record {
  cores = leaves.cores ∙ h.cores;
  core_is = leaves.core ∙ h.core_is;
  targets = leaves.targets ∙ h.targets;
}

same_delivered : (n core cycle : ℕ) (y z : Interface) → IsDelivered cycle y z → Same n core y → Same n core z
same_delivered n core cycle y z came h = record {
  cores = came.cores ∙ h.cores;
  core_is = came.core ∙ h.core_is;
  targets = ap length came.ports ∙ h.targets;
}

-- a whole cycle, as far as target d goes
same_cycle : (n core cycle : ℕ) (c : Cycle) (y : Interface) → Same n core y → Same n core (after_cycle cycle c y)
same_cycle n core cycle c y h =
    let come : Interface = (delivering cycle y).core in
    let gone : Interface = (injecting cycle c y).core in
    same_touched n core 0 gone (after_cycle cycle c y) (touches_leave 0 c.touches gone)
    ((injection n core 0 cycle c.values come).same (same_delivered n core cycle y come (is_delivered cycle y) h))

keeps_packet : (cycle : ℕ) (c : Cycle) (y : Interface) (p : Packet) → p.due ≢ cycle → Has y.under_way p
    → Has (after_cycle cycle c y).under_way p
keeps_packet cycle c y p not_due has =
    let come : Interface = (delivering cycle y).core in
    let gone : Interface = (injecting cycle c y).core in
    subst (λ (ps : List Packet). Has ps p) (sym (touches_leave 0 c.touches gone).packets)
    ((injection 0 0 0 cycle c.values come).packets p ((is_delivered cycle y).others_stay p not_due has))

come_channel : (d cycle : ℕ) (y : Interface) → (port_to (delivering cycle y).core d).channel ≡ (port_to y d).channel
come_channel d cycle y = ap (λ (ps : List Port). (port_at ps d).channel) (is_delivered cycle y).ports

keeps_channel : (d cycle : ℕ) (c : Cycle) (y : Interface) → 0 < (port_to y d).channel.left
    → (GoesTo d cycle (delivering cycle y).core → ⊥) → (port_to (after_cycle cycle c y) d).channel
    ≡ (port_to y d).channel
keeps_channel d cycle c y some not_here =
    let come : Interface = (delivering cycle y).core in
    let gone : Interface = (injecting cycle c y).core in
    let same : (port_to gone d).channel ≡ (port_to y d).channel =
    (injection 0 0 d cycle c.values come).channel not_here ∙ come_channel d cycle y in
    let still : 0 < (port_to gone d).channel.left = subst (λ (ch : Channel). 0 < ch.left) (sym same) some in
    (touches_leave d c.touches gone).channel still ∙ same

-- a packet to target d goes in a cycle
record Sent (n core d cycle : ℕ) (c : Cycle) (y : Interface) (ch : Channel) : Type 0 where
  packet : Packet
  size : length (carried packet.payload) ≡ packet_size ch.left
  due : packet.due ≡ cycle + 9
  target : packet.target ≡ d
  word : packet.first ≡ ch.target
  reads : (k v : ℕ) → slice_get (carried packet.payload) k ≡ Some v
      → Has (injecting cycle c y).ops (load (stamp_in n core (2 * cycle + 1)) (comm_word core (ch.source + k)) v)
  under_way : Has (after_cycle cycle c y).under_way packet
  rest : 0 < ch.left - packet_size ch.left → (port_to (after_cycle cycle c y) d).channel
      ≡ record {
        source = ch.source + packet_size ch.left;
        target = ch.target + packet_size ch.left;
        left = ch.left
            - packet_size ch.left;
      }

sent_in : (n core d cycle : ℕ) (c : Cycle) (y : Interface) (ch : Channel) → Same n core y → d < 16
    → (port_to y d).channel ≡ ch → 0 < ch.left → GoesTo d cycle (delivering cycle y).core → Sent n core d cycle c y ch
sent_in n core d cycle c y ch h below is some goes =
    let come : Interface = (delivering cycle y).core in
    let gone : Interface = (injecting cycle c y).core in
    let here : Same n core come = same_delivered n core cycle y come (is_delivered cycle y) h in
    let there : (port_to come d).channel ≡ ch = come_channel d cycle y ∙ is in
    let gone_ops : List Operation = (injecting cycle c y).ops in
    let sent = is_injected cycle c.values come goes.0 (sends_means come cycle goes.0).some in
    let same : (port_to come (target_at come cycle)).channel ≡ ch = ap (λ t. (port_to come t).channel) goes.1 ∙ there in
    let packet : Packet = packet_of cycle d sent.payload (port_to come d) in
    let after : gone ≡ injected_to d cycle sent.payload come =
    sent.after ∙ ap (λ t. injected_to t cycle sent.payload come) goes.1 in
    let moved : Channel = record {
      source = ch.source + packet_size ch.left;
      target = ch.target + packet_size ch.left;
      left = ch.left - packet_size ch.left;
    } in
    let left : (port_to gone d).channel ≡ moved =
    ap (λ (z : Interface). (port_to z d).channel) after
    ∙ ap (λ (p : Port). p.channel) (get_or-set_same come.ports d (moved_on (port_to come d)) unused
    (omega (arith, here.targets)))
    ∙ ap (λ (k : Channel). let m : Channel = record {
      source = k.source + packet_size k.left;
      target = k.target
          + packet_size k.left;
      left = k.left - packet_size k.left;
    } in m) there in
    record {
      packet = packet;
      size = sent.size ∙ ap (λ (k : Channel). packet_size k.left) same;
      due = refl;
      target = refl;
      word = ap (λ (k : Channel). k.target) there;
      reads = λ k v carries.
          subst (λ m. Has gone_ops (load (stamp_in m core (2 * cycle + 1)) (comm_word core (ch.source + k)) v))
          here.cores
          (subst (λ m. Has gone_ops (load (stamp_in come.cores m (2 * cycle + 1)) (comm_word m (ch.source + k)) v))
          here.core_is
          (subst (λ (m : Channel). Has gone_ops (load (stamp_in come.cores come.core (2 * cycle + 1))
          (comm_word come.core (m.source + k)) v)) same
          (sent.reads k v carries)));
      under_way = subst (λ (ps : List Packet). Has ps packet) (sym (touches_leave 0 c.touches gone).packets)
          (subst (λ (z : Interface). Has z.under_way packet) (sym after) (has_last come.under_way packet));
      rest = λ more.
          let still : 0 < (port_to gone d).channel.left = subst (λ (k : Channel). 0 < k.left) (sym left) more in
          (touches_leave d c.touches gone).channel still ∙ left;
    }

-- the words of a channel, from so many cycles on, are brought within so many rounds
record Brought (n core : ℕ) (cycles : ℕ → Cycle) (from : ℕ) (x : Interface)
    (j rounds source d target : ℕ) : Type 0 where
  wait : ℕ
  value : ℕ
  soon : wait < j + 3 * (n - 1) * rounds
  read : Has (injecting (from + wait) (cycles (from + wait)) (before cycles from x wait)).ops
      (load (stamp_in n core (2 * (from + wait) + 1)) (comm_word core source) value)
  stored : Has (delivering (from + wait + 9) (before cycles from x (wait + 9))).ops
      (store (stamp_in n core (2 * (from + wait + 9) + 0)) (comm_word d target) value)

module _ (n d core : ℕ) (several : 2 ≤ n) (most : n ≤ 16) (among : core < n) (below : d < n) (other : d ≢ core)
    (cycles : ℕ → Cycle) (from : ℕ) (x : Interface) (first : Same n core x) where
  same_at : (j : ℕ) → Same n core (before cycles from x j)
  same_at zero = first
  same_at (suc j) = same_cycle n core (from + j) (cycles (from + j)) (before cycles from x j) (same_at j)

  -- a packet stays under way until it is due
  stays : (w e : ℕ) (p : Packet) → p.due ≡ from + w + 9 → e ≤ 8 → Has (before cycles from x (suc w)).under_way p
      → Has (before cycles from x (suc w + e)).under_way p
  stays w zero p due short has =
      let e : suc w + zero ≡ suc w = omega arith in subst (λ k. Has (before cycles from x k).under_way p) (sym e) has
  stays w (suc e) p due short has =
      let now : suc w + suc e ≡ suc (suc w + e) = omega arith in
      subst (λ k. Has (before cycles from x k).under_way p) (sym now)
      (keeps_packet (from + (suc w + e)) (cycles (from + (suc w + e))) (before cycles from x (suc w + e)) p
      (λ same. omega (arith, due, same)) (stays w e p due (omega arith) has))

  -- a cycle in which the channel, as it is, sends
  record Sends (j f : ℕ) (ch : Channel) : Type 0 where
    wait : ℕ
    after : j ≤ wait
    until : wait ≤ j + f
    channel : (port_to (before cycles from x wait) d).channel ≡ ch
    goes : GoesTo d (from + wait) (delivering (from + wait) (before cycles from x wait)).core

  -- in a window of the target a packet goes
  goes_in_window : (j : ℕ) (ch : Channel) → (port_to (before cycles from x j) d).channel ≡ ch → 0 < ch.left
      → (from + j) % 3 ≡ 0 → target_in n core ((from + j) / 3) ≡ d → GoesTo d (from + j) (delivering (from + j)
      (before cycles from x j)).core
  goes_in_window j ch is some window to =
      let y : Interface = before cycles from x j in
      let come : Interface = (delivering (from + j) y).core in
      let here : Same n core come = same_delivered n core (from + j) y come (is_delivered (from + j) y) (same_at j) in
      let target : target_at come (from + j) ≡ d = ap (λ k. target_in k come.core ((from + j) / 3)) here.cores
      ∙ ap (λ k. target_in n k ((from + j) / 3)) here.core_is ∙ to in
      let left : 0 < (port_to come (target_at come (from + j))).channel.left =
      subst (λ (k : Channel). 0 < k.left) (sym (ap (λ t. (port_to come t).channel) target ∙ come_channel d (from + j) y
      ∙ is)) some in
      let opens : ((from + j) % 3 == 0) ≡ true = eq-eqb ((from + j) % 3) 0 window in
      let enough : nat_le 2 come.cores ≡ true = rw here.cores (grind (arith, nat_tests)) in
      let words : nat_lt 0 (port_to come (target_at come (from + j))).channel.left ≡ true =
      grind (arith, nat_tests, left) in
      (rw (opens, enough, words) refl, target)

  sends_now : (f j : ℕ) (ch : Channel) → (port_to (before cycles from x j) d).channel ≡ ch
      → GoesTo d (from + j) (delivering (from + j) (before cycles from x j)).core → Sends j f ch
  sends_now f j ch is goes = record { wait = j; after = omega arith; until = omega arith; channel = is; goes = goes }

  sends_within : (f j : ℕ) (ch : Channel) → (port_to (before cycles from x j) d).channel ≡ ch → 0 < ch.left
      → (from + j + f) % 3 ≡ 0 → target_in n core ((from + j + f) / 3) ≡ d → Sends j f ch
  sends_within zero j ch is some window to =
      let e : from + j + zero ≡ from + j = omega arith in
      sends_now zero j ch is (goes_in_window j ch is some (ap (λ k. k % 3) (sym e) ∙ window)
      (ap (λ k. target_in n core (k / 3)) (sym e) ∙ to))
  sends_within (suc f) j ch is some window to =
      elim (goes_or_not d (from + j) (delivering (from + j) (before cycles from x j)).core) [
        | inl goes ↦ sends_now (suc f) j ch is goes
        | inr waits ↦
            let y : Interface = before cycles from x j in
            let words : 0 < (port_to y d).channel.left = subst (λ (k : Channel). 0 < k.left) (sym is) some in
            let e : from + suc j + f ≡ from + j + suc f = omega arith in
            let later = sends_within f (suc j) ch (keeps_channel d (from + j) (cycles (from + j)) y words waits ∙ is)
            some
            (ap (λ k. k % 3) e ∙ window) (ap (λ k. target_in n core (k / 3)) e ∙ to) in
            record {
              wait = later.wait;
              after = omega (arith, later.after);
              until = omega (arith, later.until);
              channel = later.channel;
              goes = later.goes;
            }
      ]

  -- the words of the packet that goes first
  first_words : (w i : ℕ) (ch : Channel) → Sent n core d (from + w) (cycles (from + w)) (before cycles from x w) ch
      → i < packet_size ch.left → (rounds j : ℕ) → w < j + 3 * (n - 1) * rounds
      → Brought n core cycles from x j rounds (ch.source + i) d (ch.target + i)
  first_words w i ch sent within rounds j soon =
      let p : Packet = sent.packet in
      let value : ℕ = get_or (carried p.payload) i 0 in
      let carries : slice_get (carried p.payload) i ≡ Some value =
      slice_get-get_or (carried p.payload) i 0 (omega (arith, sent.size)) in
      let then : suc w + 8 ≡ w + 9 = omega arith in
      let waiting : Has (before cycles from x (w + 9)).under_way p =
      subst (λ k. Has (before cycles from x k).under_way p) then
      (stays w 8 p sent.due (omega arith) sent.under_way) in
      let y : Interface = before cycles from x (w + 9) in
      let here : Same n core y = same_at (w + 9) in
      let ops : List Operation = (delivering (from + w + 9) y).ops in
      let word : comm_word p.target p.first + i ≡ comm_word d (ch.target + i) = omega (arith, sent.target, sent.word) in
      record {
        wait = w;
        value = value;
        soon = soon;
        read = sent.reads i value carries;
        stored =
            subst (λ k. Has ops (store (stamp_in n core (2 * (from + w + 9) + 0)) k value)) word
            (subst (λ m. Has ops (store (stamp_in n m (2 * (from + w + 9) + 0)) (comm_word p.target p.first + i) value))
            here.core_is
            (subst (λ m. Has ops (store (stamp_in m y.core (2 * (from + w + 9) + 0)) (comm_word p.target p.first + i)
            value)) here.cores
            (stores (from + w + 9) y p i value waiting sent.due carries)));
      }

  -- all words of a channel
  all_words : (rounds j : ℕ) (ch : Channel) → (port_to (before cycles from x j) d).channel ≡ ch → ch.left ≤ 2 * rounds
      → (i : ℕ) → i < ch.left → Brought n core cycles from x j rounds (ch.source + i) d (ch.target + i)
  all_words zero j ch is few i within = absurd (omega arith)
  all_words (suc rounds) j ch is few i within =
      let window = next_window n core d (from + j) among below other in
      let going = sends_within window.wait j ch is (omega arith) window.begins window.to in
      let w : ℕ = going.wait in
      let sent = sent_in n core d (from + w) (cycles (from + w)) (before cycles from x w) ch (same_at w)
      (omega arith) going.channel (omega arith) going.goes in
      let round : 3 * (n - 1) * suc rounds ≡ 3 * (n - 1) * rounds + 3 * (n - 1) = omega arith in
      let near : w < j + 3 * (n - 1) = omega (arith, going.until, window.soon) in
      elim (cases_lt i (packet_size ch.left)) [
        | inl early ↦ first_words w i ch sent early (suc rounds) j (omega (arith, round))
        | inr late ↦
            let size : ℕ = packet_size ch.left in
            let rest : Channel =
            record { source = ch.source + size; target = ch.target + size; left = ch.left - size } in
            let later = all_words rounds (suc w) rest (sent.rest (omega arith)) (omega arith) (i - size)
            (omega arith) in
            let source : ch.source + size + (i - size) ≡ ch.source + i = omega arith in
            let target : ch.target + size + (i - size) ≡ ch.target + i = omega arith in
            record {
              wait = later.wait;
              value = later.value;
              soon = omega (arith, round, later.soon);
              read = subst (λ k. Has (injecting (from + later.wait) (cycles (from + later.wait))
                  (before cycles from x later.wait)).ops (load (stamp_in n core (2 * (from + later.wait) + 1))
                  (comm_word core k) later.value)) source later.read;
              stored = subst (λ k. Has (delivering (from + later.wait + 9) (before cycles from x (later.wait + 9))).ops
                  (store (stamp_in n core (2 * (from + later.wait + 9) + 0)) (comm_word d k) later.value))
                  target later.stored;
            }
      ]

-- so a transfer that begins has been delivered in time
delivered_in_time : (n count : ℕ) (x : Interface) (d t i : ℕ) (cycles : ℕ → Cycle) → 2 ≤ n → n ≤ 16 → IsOneOf n x
    → IsTarget x d → answer_to (port_to x d) count ≡ Begun → i < count
    → IsBrought cycles (t + 1) (started d count x) ((port_to x d).source + i) d ((port_to x d).target + i) (t
    + latency_of n count)
delivered_in_time n count x d t i cycles several most one target begins within =
    let y : Interface = started d count x in
    let ch : Channel = record { source = (port_to x d).source; target = (port_to x d).target; left = count } in
    let after : started d count x ≡ started_by Begun d count x = ap (λ a. started_by a d count x) begins in
    let below : d < n = omega (arith, one.cores, target.among) in
    let same : Same n x.core x = record { cores = one.cores; core_is = refl; targets = one.targets } in
    let first : Same n x.core y = subst (Same n x.core) (sym after)
    (record {
      cores = same.cores;
      core_is = refl;
      targets = length-set x.ports d (begun (port_to x d) count)
          ∙ same.targets;
    }) in
    let is : (port_to y d).channel ≡ ch =
    ap (λ (z : Interface). (port_to z d).channel) after
    ∙ ap (λ (p : Port). p.channel) (get_or-set_same x.ports d (begun (port_to x d) count) unused
    (omega (arith, one.targets))) in
    let rounds : ℕ = (count + 1) / 2 in
    let all = all_words n d x.core several most one.among below target.other cycles (t + 1) y first rounds 0 ch is
    (omega arith) i within in
    let core : y.core ≡ x.core = first.core_is in
    let read_ops : List Operation =
    (injecting (t + 1 + all.wait) (cycles (t + 1 + all.wait)) (before cycles (t + 1) y all.wait)).ops in
    let stored_ops : List Operation =
    (delivering (t + 1 + all.wait + 9) (before cycles (t + 1) y (all.wait + 9))).ops in
    record {
      wait = all.wait;
      value = all.value;
      in_time = omega (arith, all.soon);
      read =
          subst (λ m. Contains read_ops (load (stamp_in m y.core (2 * (t + 1 + all.wait) + 1))
          (comm_word y.core ((port_to x d).source + i)) all.value)) (sym first.cores)
          (subst (λ m. Contains read_ops (load (stamp_in n m (2 * (t + 1 + all.wait) + 1))
          (comm_word m ((port_to x d).source + i)) all.value)) (sym core)
          (contains read_ops (load (stamp_in n x.core (2 * (t + 1 + all.wait) + 1))
          (comm_word x.core ((port_to x d).source + i)) all.value) all.read));
      stored =
          subst (λ m. Contains stored_ops (store (stamp_in m y.core (2 * (t + 1 + all.wait + 9) + 0))
          (comm_word d ((port_to x d).target + i)) all.value)) (sym first.cores)
          (subst (λ m. Contains stored_ops (store (stamp_in n m (2 * (t + 1 + all.wait + 9) + 0))
          (comm_word d ((port_to x d).target + i)) all.value)) (sym core)
          (contains stored_ops (store (stamp_in n x.core (2 * (t + 1 + all.wait + 9) + 0))
          (comm_word d ((port_to x d).target + i)) all.value) all.stored));
    }

pub delivered_by : (n count bound : ℕ) (x : Interface) (d t i : ℕ) (cycles : ℕ → Cycle) → 2 ≤ n → n ≤ 16 → bound
    ≡ latency_of n count → IsOneOf n x → IsTarget x d → answer_to (port_to x d) count ≡ Begun → i < count
    → IsBrought cycles (t + 1) (started d count x) ((port_to x d).source + i) d ((port_to x d).target + i) (t + bound)
delivered_by n count bound x d t i cycles several most is one target begins within =
    subst (λ (b : ℕ). IsBrought cycles (t + 1) (started d count x) ((port_to x d).source + i) d
    ((port_to x d).target + i) (t + b)) (sym is)
    (delivered_in_time n count x d t i cycles several most one target begins within)

-- What an interface keeps is kept by each of its calls.
use Rattle.std.proofs.Common.{◌≡◌, ℕ, suc, ◌+◌, ◌-◌, ◌*◌, ◌/◌, ◌%◌, ◌<◌, ◌≤◌, Bool, true, false, ◌==◌, ◌++◌, Option, Some, None, IfSome, List, [], ◌∷◌, length, drop, get_or, set, ap, sym, ◌∙◌, subst, refl, arith, inl, inr, ◌⊎◌, length-append}
use Rattle.std.specs.List.{AllByRecursion as Each}
use Rattle.std.proofs.lemmas.Bool.{cases_eq, eq-eqb, ne_eqb}
use Rattle.std.proofs.lemmas.Nat.{mod_below}
use Rattle.std.proofs.lemmas.Bool.Decides.{nat_tests}
use Rattle.std.proofs.lemmas.List.{get_or-set_same, get_or-set_other}
use Rattle.std.proofs.lemmas.List.Sums.{sum_by-set, sum_by-cons}
use Rattle.std.proofs.Math.ListN.{length-set}
use Rattle.slot_arbiter.specs.Order.{IsNext}
use Rattle.argo_ni.specs.declared.port.Channel.{Channel}
use Rattle.argo_ni.specs.declared.port.Port.{Port}
use Rattle.argo_ni.specs.declared.packet.Packet.{Packet}
use Rattle.argo_ni.specs.declared.event.Started.TheVariants.{Begun, Refused}
use Rattle.argo_ni.specs.Port.{unused, port_at, words_left, IsWithin}
use Rattle.argo_ni.specs.declared.packet.Payload.{Payload}
use Rattle.argo_ni.specs.Packet.{carried, payload}
use Rattle.argo_ni.specs.Interface.{Interface, Standing, IsTarget, port_to}
use Rattle.argo_ni.specs.Sound.{IsSent, IsFirst, IsFirstOf, IsSound, IsSoundAt, IsKept}
use Rattle.argo_ni.specs.Event.{IsNextAct, IsPast}
use Rattle.argo_ni.specs.Start.{with_port, is_in_range, answer_to, begun, standing_by}
use Rattle.argo_ni.specs.Turn.{target_at, sends, packet_of, moved_on, packet_size, injected, injected_to, acts}
use Rattle.argo_ni.proofs.Windows.{other_core}
use Rattle.argo_ni.proofs.Acts.{IsSending, none_late, is_sending_now, acts_odd, next_comes, same_sends}
use Rattle.argo_ni.proofs.Queue.{queue_from, queue_append, each_until, at_most_two, at_most_three}
use Rattle.shared_order.proofs.Lists.{each-append, each_drop}

pub true_or_false : (b : Bool) → (b ≡ true) ⊎ (b ≡ false)
true_or_false true = inl refl
true_or_false false = inr refl

-- the channels lie within after a port was changed to one that does
pub within_after : (ports : List Port) (d : ℕ) (port : Port) → d < length ports
    → ((e : ℕ) → IsWithin (port_at ports e).channel) → IsWithin port.channel → (e : ℕ)
    → IsWithin (port_at (set ports d port) e).channel
within_after ports d port below h here e = elim (cases_eq e d) [
  | inl same ↦ subst (λ p. IsWithin p.channel) (sym (ap (λ i. get_or (set ports d port) i unused) same
      ∙ get_or-set_same ports d port unused below)) here
  | inr other ↦ subst (λ p. IsWithin p.channel) (sym (get_or-set_other ports d e port unused other)) (h e)
]

-- at most 512 words are left in each of the channels
few_left : (ports : List Port) → ((e : ℕ) → IsWithin (port_at ports e).channel) → words_left ports ≤ 512 * length ports
few_left [] h = omega arith
few_left (p ∷ ports) h =
    omega (arith, (h 0).source, few_left ports (λ e. h (suc e)), sum_by-cons (λ (q : Port). q.channel.left) p ports)

-- what begins is in range
begins_in_range : (port : Port) (count : ℕ) → answer_to port count ≡ Begun → is_in_range port count ≡ true
begins_in_range port count e = elim (true_or_false (is_in_range port count)) [
  | inl inside ↦ inside
  | inr outside ↦ let refused : answer_to port count ≡ Refused =
      rw (outside, answer_to) refl in absurd (let never : Begun ≡ Refused = cc in cc)
]

-- a transfer begins
sound_begun : (s : Standing) (d count cycle : ℕ) → IsSoundAt s → IsTarget s.interface d → cycle ≤ 20000000
    → s.from ≤ 2 * cycle + 2 → IsPast s cycle → is_in_range (port_to s.interface d) count ≡ true
    → IsSoundAt (standing_by Begun d count cycle s)
sound_begun s d count cycle h target early after past fits =
    let ports : List Port = s.interface.ports in
    let port : Port = begun (port_to s.interface d) count in
    let here : IsWithin port.channel =
    record { source = grind (arith, nat_tests); target = grind (arith, nat_tests) } in
    let channels = within_after ports d port (omega (arith, h.targets, h.most, target.among)) h.channels here in
    let queue = queue_from s.interface.cores s.interface.core s.from (2 * cycle + 2) s.interface.under_way h.queue
    (none_late s cycle s.interface.cores s.interface.core h.queue past) in
    let sent = each_until (s.from + 16) (2 * cycle + 2 + 16) s.interface.under_way (omega arith) h.sent in
    let whole : length (set ports d port) ≡ 16 = length-set ports d port ∙ h.targets in
    let few = at_most_three s.interface.cores s.interface.core (2 * cycle + 2) s.interface.under_way queue sent in
    record {
      among = h.among;
      most = h.most;
      targets = whole;
      channels = channels;
      in_time = omega (arith, whole, few_left (set ports d port) channels, few);
      queue = queue;
      sent = sent;
    }

-- so it is where a start begins
pub begins : (s now : Standing) (d count cycle : ℕ) (port : Port) → s ≡ now → IsSoundAt s → IsTarget now.interface d
    → cycle ≤ 20000000 → now.from ≤ 2 * cycle + 2 → IsPast now cycle → answer_to (port_to s.interface d) count ≡ Begun
    → port ≡ begun (port_to s.interface d) count → IsSound s.interface.cores s.interface.core (set s.interface.ports
    d port) s.interface.under_way (2 * cycle + 2)
begins s now d count cycle port same h target early after past answer begun_there =
    subst (λ p. IsSound s.interface.cores s.interface.core (set s.interface.ports d p) s.interface.under_way
    (2 * cycle + 2)) (sym begun_there)
    (sound_begun s d count cycle h (subst (λ z. IsTarget z.interface d) (sym same) target) early
    (subst (λ z. z.from ≤ 2 * cycle + 2) (sym same) after) (subst (λ z. IsPast z cycle) (sym same) past)
    (begins_in_range (port_to s.interface d) count answer))

-- a payload takes as many words as its packet
carried_size : (left : ℕ) (values : List ℕ) → 0 < left → length (carried (payload left values)) ≡ packet_size left
carried_size left values some = elim (cases_eq left 1) [
  | inl one ↦ let yes : (left == 1) ≡ true = eq-eqb left 1 one in rw (yes, payload) (omega arith)
  | inr more ↦ let no : (left == 1) ≡ false = ne_eqb left 1 more in rw (no, payload) (omega arith)
]

-- a packet is injected, and there is room for it
pub record IsInjected (s : Standing) (cycle : ℕ) (values : List ℕ) : Type 0 where
  pub sound : IsSoundAt (record { interface = injected cycle values s.interface; from = 2 * cycle + 2 })
  pub room : length s.interface.under_way < 3

is_injected : (s : Standing) (cycle : ℕ) (values : List ℕ) → IsSoundAt s → IsSending s cycle → 2 * cycle + 1 < s.from
    + 90 → IsInjected s cycle values
is_injected s cycle values h sending near =
    let x : Interface = s.interface in
    let target : ℕ = target_at x cycle in
    let port : Port = port_to x target in
    let load : Payload = payload port.channel.left values in
    let packet : Packet = packet_of cycle target load port in
    let among : target < x.cores =
    mod_below (x.core + (cycle / 3 % (x.cores - 1) + 1)) x.cores (omega (arith, h.among)) in
    let below : target < length x.ports = omega (arith, h.targets, h.most) in
    let fits : IsWithin port.channel = h.channels target in
    let here : IsWithin (moved_on port).channel =
    record { source = omega (arith, fits.source); target = omega (arith, fits.target) } in
    let sum = sum_by-set (λ (p : Port). p.channel.left) x.ports target (moved_on port) unused below in
    let sent : IsSent x.cores x.core packet = record {
      among = among;
      other = other_core x.cores x.core (cycle / 3) sending.sends.several h.among;
      within = omega (arith, fits.target, carried_size port.channel.left values sending.sends.some);
      window = omega (arith, sending.sends.window);
    } in
    let queue = queue_from x.cores x.core s.from (2 * cycle + 2) x.under_way h.queue
    (λ due comes_then. omega (arith, sending.late due comes_then)) in
    let before = each_until (s.from + 16) (2 * cycle + 17) x.under_way (omega (arith, sending.after)) h.sent in
    record {
      sound = record {
        among = h.among;
        most = h.most;
        targets = length-set x.ports target (moved_on port) ∙ h.targets;
        channels = within_after x.ports target (moved_on port) below h.channels here;
        in_time = omega (arith, sum, h.in_time, sending.sends.some, length-append x.under_way (packet ∷ []));
        queue = queue_append x.cores x.core (2 * cycle + 2) (2 * cycle + 17) x.under_way packet queue before sent
            (omega arith) (omega arith);
        sent = each-append (λ q. 2 * q.due ≤ 2 * cycle + 2 + 16) x.under_way (packet ∷ []) (each_until (2 * cycle + 17)
            (2 * cycle + 2 + 16) x.under_way (omega arith) before) (omega arith, tt);
      };
      room = at_most_two x.cores x.core cycle x.under_way queue before sending.sends.window;
    }

-- so it is where the next act is the injection in that cycle
pub carried_out : (s now : Standing) (cycle : ℕ) (values : List ℕ) → s ≡ now → IsSoundAt s → (c : ℕ)
    × IsNextAct now (2 * c + 1) → IsNext (sends now.interface) (now.from / 2) cycle → 2 * cycle + 1 < now.from + 90
    → IsInjected s cycle values
carried_out s now cycle values same h next sent near =
    is_injected s cycle values h
    (is_sending_now s now cycle s.interface.cores s.interface.core same h.queue next sent)
    (subst (λ z. 2 * cycle + 1 < z.from + 90) (sym same) near)

-- the interface that has injected a packet, from its parts
pub injects : (s : Standing) (cycle target : ℕ) (values : List ℕ) (port : Port) (packet : Packet)
    (packets : List Packet) → target ≡ target_at s.interface cycle → port ≡ moved_on (port_to s.interface target)
    → packet ≡ packet_of cycle target (payload (port_to s.interface target).channel.left values)
    (port_to s.interface target) → packets ≡ s.interface.under_way ++ packet ∷ []
    → ◌≡◌ {A = Standing} (record {
      interface = record s.interface {
        ports = set s.interface.ports target
            port;
        under_way = packets;
      };
      from = 2 * cycle + 2;
    })
    (record { interface = injected cycle values s.interface; from = 2 * cycle + 2 })
injects s cycle target values port packet packets to moved made sent =
    let x : Interface = s.interface in
    let load : ℕ → Payload = λ t. payload (port_to x t).channel.left values in
    let whole : packets ≡ x.under_way ++ packet_of cycle target (load target) (port_to x target) ∷ [] =
    sent ∙ ap (λ (p : Packet). x.under_way ++ p ∷ []) made in
    let parts : ◌≡◌ {A = Standing}
    (record { interface = record x { ports = set x.ports target port; under_way = packets }; from = 2 * cycle + 2 })
    (record { interface = injected_to target cycle (load target) x; from = 2 * cycle + 2 }) =
    λ i. record {
      interface = record x { ports = set x.ports target (moved i); under_way = whole i };
      from = 2 * cycle + 2;
    } in
    let placed : ◌≡◌ {A = Standing} (record {
      interface = injected_to target cycle (load target) x;
      from = 2 * cycle
          + 2;
    }) (record { interface = injected cycle values x; from = 2 * cycle + 2 }) =
    λ i. record { interface = injected_to (to i) cycle (load (to i)) x; from = 2 * cycle + 2 } in
    parts ∙ placed

-- a packet is delivered
sound_delivered : (n core from : ℕ) (ports : List Port) (packets : List Packet) (p : Packet)
    → IsSound n core ports packets from → IsFirst n core from packets p
    → IsSound n core ports (drop 1 packets) (2 * p.due + 1)
sound_delivered n core from ports packets p h first =
    let near : 2 * p.due ≤ from + 16 = (let both : Each (λ q. 2 * q.due ≤ from + 16) (p ∷ drop 1 packets) = subst (Each
    (λ q. 2 * q.due ≤ from + 16)) first.whole h.sent in both.0) in
    let one_less : length packets ≡ length (drop 1 packets) + 1 = ap length first.whole ∙ omega arith in
    record {
      among = h.among;
      most = h.most;
      targets = h.targets;
      channels = h.channels;
      in_time = omega (arith, h.in_time);
      queue = first.rest;
      sent = each_until (from + 16) (2 * p.due + 1 + 16) (drop 1 packets) (omega (arith, first.after))
          (each_drop (λ q. 2 * q.due ≤ from + 16) 1 packets h.sent);
    }

-- the next injection is the same where each cycle sends as before
next_as_before : (test other : ℕ → Bool) (from : ℕ) (sending : Option ℕ) → ((cycle : ℕ) → other cycle ≡ test cycle)
    → IfSome sending (IsNext test from) → IfSome sending (IsNext other from)
next_as_before test other from sending same next =
    subst (λ f. IfSome sending (IsNext f from)) (λ i cycle. sym (same cycle) i) next

-- a register is set
pub kept_with_port : (s now : Standing) (d : ℕ) (port : Port) (sending : Option ℕ) → s ≡ now → IsKept s sending
    → IsTarget now.interface d → port.channel ≡ (port_to s.interface d).channel
    → IsKept (record s { interface = with_port d port s.interface }) sending
kept_with_port s now d port sending at h target same =
    let among : d < s.interface.cores = subst (λ z. d < z.interface.cores) (sym at) target.among in
    let below : d < length s.interface.ports = omega (arith, h.sound.most, h.sound.targets) in
    let ports : List Port = s.interface.ports in
    let here : IsWithin port.channel = subst IsWithin (sym same) (h.sound.channels d) in
    let left : port.channel.left ≡ (port_to s.interface d).channel.left = ap (λ (c : Channel). c.left) same in
    record {
      sound = record {
        among = h.sound.among;
        most = h.sound.most;
        targets = length-set ports d port ∙ h.sound.targets;
        channels = within_after ports d port below h.sound.channels here;
        in_time = omega (
          arith,
          left,
          h.sound.in_time,
          sum_by-set (λ (p : Port). p.channel.left) ports d
              port unused below,
        );
        queue = h.sound.queue;
        sent = h.sound.sent;
      };
      next = next_as_before (sends s.interface) (sends (with_port d port s.interface)) (s.from / 2) sending
          (λ cycle. same_sends s.interface d cycle port below same) h.next;
      near = h.near;
      none = λ idle cycle. same_sends s.interface d cycle port below same ∙ h.none idle cycle;
    }

-- a delivery goes before the next injection
next_after_delivery : (s : Standing) (due : ℕ) (sending : Option ℕ) → IsNextAct s (2 * due)
    → IfSome sending (IsNext (sends s.interface) (s.from / 2)) → IfSome sending (IsNext (sends s.interface)
    ((2 * due + 1) / 2))
next_after_delivery s due None act next = tt
next_after_delivery s due (Some cycle) act next = record {
  passes = next.passes;
  from =
      let there : acts s.interface (2 * cycle + 1) ≡ true =
      acts_odd s.interface (2 * cycle + 1) cycle refl ∙ next.passes in
      let later : 2 * due ≤ 2 * cycle + 1 = act.least (2 * cycle + 1) (omega (arith, next.from)) there in
      omega arith;
  least = λ v after sent. next.least v (omega (arith, act.from)) sent;
}

-- what is near from a half-cycle on is near from a later one on
nearer : (from to : ℕ) (sending : Option ℕ) → from ≤ to → IfSome sending (λ cycle. 2 * cycle + 1 < from + 90)
    → IfSome sending (λ cycle. 2 * cycle + 1 < to + 90)
nearer from to None later near = tt
nearer from to (Some cycle) later near = omega (arith, near)

-- the packet that was sent first is delivered
pub kept_delivered : (s now : Standing) (p : Packet) (packets : List Packet) (sending : Option ℕ) → s ≡ now
    → IsKept s sending → IsFirstOf s p → (cycle : ℕ) × IsNextAct now (2 * cycle) → packets
    ≡ drop 1 s.interface.under_way → IsKept (record {
      interface = record s.interface { under_way = packets };
      from = 2 * p.due + 1;
    }) sending
kept_delivered s now p packets sending same h first next taken =
    let x : Interface = s.interface in
    let act : IsNextAct s (2 * next.0) = subst (λ z. IsNextAct z (2 * next.0)) (sym same) next.1 in
    let due : p.due ≡ next.0 = next_comes x.cores x.core s.from next.0 x p act first in
    let now_due : IsNextAct s (2 * p.due) = subst (λ c. IsNextAct s (2 * c)) (sym due) act in
    record {
      sound = subst (λ ps. IsSound x.cores x.core x.ports ps (2 * p.due + 1)) (sym taken)
          (sound_delivered x.cores x.core s.from x.ports x.under_way p h.sound first);
      next = next_after_delivery s p.due sending now_due h.next;
      near = nearer s.from (2 * p.due + 1) sending (omega (arith, first.after)) h.near;
      none = h.none;
    }

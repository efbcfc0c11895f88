-- Half-cycles: an even one is that of a cycle's deliveries, an odd one that of its injections.
use Rattle.std.proofs.Common.{◌≡◌, ℕ, zero, suc, ◌+◌, ◌*◌, ◌/◌, ◌%◌, ◌<◌, ◌≤◌, Bool, true, false, ◌==◌, nat_lt, nat_le, length, set, ◌&&◌, List, [], ◌∷◌, drop, filter, not, slice_get, None, ap, sym, ◌∙◌, subst, refl, arith, inl, inr, ◌⊎◌}
use Rattle.std.proofs.lemmas.Bool.{cases_lt, cases_eq, eq-eqb, ne_eqb, eqb-true, ltb-true, leb-true, and_parts}
use Rattle.std.proofs.lemmas.List.{get_or-replicate, get_or_past, get_or-set_same, get_or-set_other}
use Rattle.std.proofs.Math.ListN.{length-replicate}
use Rattle.slot_arbiter.specs.Order.{IsNext}
use Rattle.shared_order.specs.Program.{done, gets, sets, fed, first, others}
use Rattle.argo_ni.specs.declared.packet.Payload.{Payload}
use Rattle.argo_ni.specs.declared.packet.Payload.TheVariants.{One, Two}
use Rattle.argo_ni.specs.declared.packet.Packet.{Packet}
use Rattle.argo_ni.specs.declared.port.Channel.{Channel}
use Rattle.argo_ni.specs.declared.port.Port.{Port}
use Rattle.argo_ni.specs.Port.{unused, all_unused, port_at}
use Rattle.argo_ni.specs.Start.{with_port}
use Rattle.argo_ni.specs.Packet.{comm_word, carried, payload, written}
use Rattle.argo_ni.specs.Interface.{Interface, Standing, new_interface, port_to}
use Rattle.argo_ni.specs.Turn.{comes, sends, target_at, delivery, delivered, packet_size, injection, injected, injected_to, turn, acts}
use Rattle.argo_ni.specs.Event.{IsQuiet, IsNextAct, IsPast}
use Rattle.argo_ni.specs.Sound.{IsQueue, IsFirst, IsFirstOf}
use Rattle.argo_ni.specs.Window.{is_used}
use Rattle.argo_ni.proofs.Queue.{due_from, is_empty, first_comes, first_due, first_alone, others_stay}

false_unless : (b : Bool) → (b ≡ true → ⊥) → b ≡ false
false_unless true h = absurd (h refl)
false_unless false h = refl

acts_even : (x : Interface) (half cycle : ℕ) → half ≡ 2 * cycle → acts x half ≡ comes x cycle
acts_even x half cycle e =
    let even : (half % 2 == 0) ≡ true = eq-eqb (half % 2) 0 (omega arith) in
    let same : half / 2 ≡ cycle = omega arith in
    ap (λ b. elim b as (λ _. Bool) [ true ↦ comes x (half / 2) | false ↦ sends x (half / 2) ]) even ∙ ap (comes x) same

pub acts_odd : (x : Interface) (half cycle : ℕ) → half ≡ 2 * cycle + 1 → acts x half ≡ sends x cycle
acts_odd x half cycle e =
    let odd : (half % 2 == 0) ≡ false = ne_eqb (half % 2) 0 (omega arith) in
    let same : half / 2 ≡ cycle = omega arith in
    ap (λ b. elim b as (λ _. Bool) [ true ↦ comes x (half / 2) | false ↦ sends x (half / 2) ]) odd ∙ ap (sends x) same

-- the half-cycle of the deliveries or that of the injections
each_half : (half : ℕ) → (half ≡ 2 * (half / 2)) ⊎ (half ≡ 2 * (half / 2) + 1)
each_half half = elim (cases_eq (half % 2) 0) [ inl even ↦ inl (omega arith) | inr odd ↦ inr (omega arith) ]

-- where what acts is a delivery or an injection not before `next`, nothing acts before `next`
least_act : (x : Interface) (from next : ℕ) → ((cycle : ℕ) → comes x cycle ≡ true → next ≤ 2 * cycle)
    → ((cycle : ℕ) → from / 2 ≤ cycle → sends x cycle ≡ true → next ≤ 2 * cycle + 1) → (half : ℕ) → from ≤ half
    → acts x half ≡ true → next ≤ half
least_act x from next deliveries injections half after here = elim (each_half half) [
  | inl even ↦ omega (arith, even, deliveries (half / 2) (sym (acts_even x half (half / 2) even) ∙ here))
  | inr odd ↦ omega (arith, odd, injections (half / 2) (omega arith) (sym (acts_odd x half (half / 2) odd) ∙ here))
]

-- the packet that was sent first comes next, where nothing is injected before its cycle
pub next_is_delivery : (n core from : ℕ) (x : Interface) (p : Packet) → IsFirst n core from x.under_way p
    → ((cycle : ℕ) → from / 2 ≤ cycle → sends x cycle ≡ true → p.due ≤ cycle) → IsNext (acts x) from (2 * p.due)
next_is_delivery n core from x p first none = record {
  passes = acts_even x (2 * p.due) p.due refl ∙ first_comes n core from x.under_way p first;
  from = first.after;
  least = least_act x from (2 * p.due)
      (λ cycle here. omega (arith, first_due n core from cycle x.under_way p first here))
      (λ cycle after here. omega (arith, none cycle after here));
}

-- the next injection comes next, where nothing is delivered before it or in its cycle
pub next_is_injection : (from cycle : ℕ) (x : Interface) → IsNext (sends x) (from / 2) cycle
    → ((due : ℕ) → comes x due ≡ true → cycle < due) → IsNext (acts x) from (2 * cycle + 1)
next_is_injection from cycle x h none = record {
  passes = acts_odd x (2 * cycle + 1) cycle refl ∙ h.passes;
  from = omega (arith, h.from);
  least = least_act x from (2 * cycle + 1)
      (λ due here. omega (arith, none due here))
      (λ other after here. omega (arith, h.least other after here));
}

-- what the next act says of deliveries and injections
pub next_sends : (from cycle other : ℕ) (x : Interface) → IsNext (acts x) from (2 * cycle + 1)
    → IsNext (sends x) (from / 2) other → other ≡ cycle
next_sends from cycle other x h next =
    let here : sends x cycle ≡ true = sym (acts_odd x (2 * cycle + 1) cycle refl) ∙ h.passes in
    let before : other ≤ cycle = next.least cycle (omega (arith, h.from)) here in
    let there : acts x (2 * other + 1) ≡ true = acts_odd x (2 * other + 1) other refl ∙ next.passes in
    let after : 2 * cycle + 1 ≤ 2 * other + 1 = h.least (2 * other + 1) (omega (arith, next.from)) there in
    omega arith

pub next_comes : (n core from cycle : ℕ) (x : Interface) (p : Packet) → IsNext (acts x) from (2 * cycle)
    → IsFirst n core from x.under_way p → p.due ≡ cycle
next_comes n core from cycle x p h first =
    let here : comes x cycle ≡ true = sym (acts_even x (2 * cycle) cycle refl) ∙ h.passes in
    let there : acts x (2 * p.due) ≡ true =
    acts_even x (2 * p.due) p.due refl ∙ first_comes n core from x.under_way p first in
    let after : 2 * cycle ≤ 2 * p.due = h.least (2 * p.due) first.after there in
    omega (arith, first_due n core from cycle x.under_way p first here)

-- where nothing acts, the interface's turn does nothing
still : (x : Interface) (cycle phase : ℕ) → phase ≤ 1 → acts x (2 * cycle + phase) ≡ false → turn phase cycle x ≡ done x
still x cycle zero few none =
    let quiet : comes x cycle ≡ false = sym (acts_even x (2 * cycle + zero) cycle (omega arith)) ∙ none in
    rw (quiet, delivery) refl
still x cycle (suc phase) few none =
    let quiet : sends x cycle ≡ false = sym (acts_odd x (2 * cycle + suc phase) cycle (omega arith)) ∙ none in
    rw (quiet, injection) refl

pub quiet_before : (x : Interface) (from next : ℕ) → IsNext (acts x) from next → IsQuiet x from next
quiet_before x from next h = λ cycle phase few after before.
    still x cycle phase few (false_unless (acts x (2 * cycle + phase))
    (λ here. let late : next ≤ 2 * cycle + phase = h.least (2 * cycle + phase) after here in omega arith))

pub quiet_for_ever : (x : Interface) (from to : ℕ) → ((half : ℕ) → acts x half ≡ false) → IsQuiet x from to
quiet_for_ever x from to none = λ cycle phase few after before. still x cycle phase few (none (2 * cycle + phase))

pub never_acts : (x : Interface) → ((cycle : ℕ) → sends x cycle ≡ false) → x.under_way ≡ [] → (half : ℕ)
    → acts x half ≡ false
never_acts x none empty half = elim (each_half half) [
  | inl even ↦ acts_even x half (half / 2) even ∙ rw empty refl
  | inr odd ↦ acts_odd x half (half / 2) odd ∙ none (half / 2)
]

-- the next act, of the next injection and of the packet that was sent first
pub sent_alone : (s : Standing) (half cycle : ℕ) → half ≡ 2 * cycle + 1 → IsNext (sends s.interface) (s.from / 2) cycle
    → s.interface.under_way ≡ [] → IsNextAct s half
sent_alone s half cycle e sent empty =
    subst (λ h. IsNext (acts s.interface) s.from h) (sym e)
    (next_is_injection s.from cycle s.interface sent (λ due here. let no : false ≡ true = rw empty at here in
    absurd (let bad : false ≡ true = no in cc)))

pub sent_before : (s : Standing) (p : Packet) (half cycle : ℕ) → half ≡ 2 * cycle + 1
    → IsNext (sends s.interface) (s.from / 2) cycle → IsFirstOf s p → cycle < p.due → IsNextAct s half
sent_before s p half cycle e sent first before =
    subst (λ h. IsNext (acts s.interface) s.from h) (sym e)
    (next_is_injection s.from cycle s.interface sent
    (λ due here. omega (
      arith,
      first_due s.interface.cores s.interface.core s.from due s.interface.under_way
          p first here,
    )))

pub comes_alone : (s : Standing) (p : Packet) (half : ℕ) → half ≡ 2 * p.due → IsFirstOf s p
    → ((cycle : ℕ) → sends s.interface cycle ≡ false) → IsNextAct s half
comes_alone s p half e first none =
    subst (λ h. IsNext (acts s.interface) s.from h) (sym e)
    (next_is_delivery s.interface.cores s.interface.core s.from s.interface p first
    (λ cycle after here. let never = none cycle in absurd (let no : true ≡ false = cc in cc)))

pub comes_before : (s : Standing) (p : Packet) (half cycle : ℕ) → half ≡ 2 * p.due → IsFirstOf s p
    → IsNext (sends s.interface) (s.from / 2) cycle → p.due ≤ cycle → IsNextAct s half
comes_before s p half cycle e first sent before =
    subst (λ h. IsNext (acts s.interface) s.from h) (sym e)
    (next_is_delivery s.interface.cores s.interface.core s.from s.interface p first
    (λ other after here. omega (arith, sent.least other after here)))

-- the packet that was sent first is delivered alone
pub first_program : (s : Standing) (p : Packet) → IsFirstOf s p → delivery p.due s.interface
    ≡ sets (comm_word p.target p.first) (carried p.payload) (done (delivered p.due s.interface))
first_program s p first =
    let here : comes s.interface p.due ≡ true =
    first_comes s.interface.cores s.interface.core s.from s.interface.under_way p first in
    let alone = first_alone s.interface.cores s.interface.core s.from s.interface.under_way p first in
    rw (here, delivery) (ap (λ ps. written ps (done (delivered p.due s.interface))) alone)

-- a delivery that comes next is that of a packet under way
pub some_under_way : (s : Standing) → (cycle : ℕ) × IsNextAct s (2 * cycle) → slice_get s.interface.under_way 0 ≡ None
    → ⊥
some_under_way s next none =
    let here : comes s.interface next.0 ≡ true = sym (acts_even s.interface (2 * next.0) next.0 refl) ∙ next.1.passes in
    let no : comes s.interface next.0 ≡ false = rw (is_empty s.interface.under_way none) refl in
    let bad : true ≡ false = cc in cc

-- the packet that was sent first is taken out
pub takes_first : (s : Standing) (p : Packet) (cycle : ℕ) (rest : List Packet) → IsFirstOf s p → IsNextAct s (2 * cycle)
    → rest ≡ drop 1 s.interface.under_way
    → ◌≡◌ {A = Standing} (record { interface = record s.interface { under_way = rest }; from = 2 * p.due + 1 })
    (record { interface = delivered cycle s.interface; from = 2 * cycle + 1 })
takes_first s p cycle rest first next taken =
    let same : p.due ≡ cycle = next_comes s.interface.cores s.interface.core s.from cycle s.interface p next first in
    let left : rest ≡ filter (λ q. not (q.due == cycle)) s.interface.under_way =
    taken ∙ sym (others_stay s.interface.cores s.interface.core s.from s.interface.under_way p first)
    ∙ ap (λ c. filter (λ q. not (q.due == c)) s.interface.under_way) same in
    λ i. record { interface = record s.interface { under_way = left i }; from = 2 * same i + 1 }

-- where nothing is left in a cycle or before it, each packet under way is due later
pub none_late : (s : Standing) (cycle n core : ℕ) → IsQueue n core s.from s.interface.under_way → IsPast s cycle
    → (due : ℕ) → comes s.interface due ≡ true → 2 * cycle + 2 ≤ 2 * due
none_late s cycle n core queue past due here =
    let after : s.from ≤ 2 * due = due_from n core s.from due s.interface.under_way queue here in
    let there : acts s.interface (2 * due) ≡ true = acts_even s.interface (2 * due) due refl ∙ here in
    omega (arith, past (2 * due) after there)

-- where the next act is an injection, it is that of the next cycle in which something is injected
pub sends_now : (s : Standing) (cycle : ℕ) → (c : ℕ) × IsNextAct s (2 * c + 1)
    → IsNext (sends s.interface) (s.from / 2) cycle → IsNextAct s (2 * cycle + 1)
sends_now s cycle next sent =
    let same : next.0 ≡ cycle = sym (next_sends s.from next.0 cycle s.interface next.1 sent) in
    subst (λ c. IsNextAct s (2 * c + 1)) same next.1

-- there is one
pub some_sent : (s : Standing) → (c : ℕ) × IsNextAct s (2 * c + 1) → ((cycle : ℕ) → sends s.interface cycle ≡ false) → ⊥
some_sent s next none =
    let here : sends s.interface next.0 ≡ true =
    sym (acts_odd s.interface (2 * next.0 + 1) next.0 refl) ∙ next.1.passes in
    let never : sends s.interface next.0 ≡ false = none next.0 in
    let bad : true ≡ false = cc in cc

-- what it means that something is injected: a window begins, and words are left to its target
pub record Sends (x : Interface) (cycle : ℕ) : Type 0 where
  pub window : cycle % 3 ≡ 0
  pub several : 2 ≤ x.cores
  pub some : 0 < (port_to x (target_at x cycle)).channel.left

pub sends_means : (x : Interface) (cycle : ℕ) → sends x cycle ≡ true → Sends x cycle
sends_means x cycle here =
    let opens = and_parts (cycle % 3 == 0) (is_used x.cores x.core x.ports (cycle / 3)) here in
    let used = and_parts (nat_le 2 x.cores) (nat_lt 0 (port_to x (target_at x cycle)).channel.left) opens.1 in
    record {
      window = eqb-true (cycle % 3) 0 opens.0;
      several = leb-true 2 x.cores used.0;
      some = ltb-true 0 (port_to x (target_at x cycle)).channel.left used.1;
    }

-- what an injection that comes next means: besides, each packet under way is due later
pub record IsSending (s : Standing) (cycle : ℕ) : Type 0 where
  pub sends : Sends s.interface cycle
  pub after : s.from ≤ 2 * cycle + 1
  pub late : (due : ℕ) → comes s.interface due ≡ true → cycle < due

is_sending : (s : Standing) (cycle n core : ℕ) → IsQueue n core s.from s.interface.under_way
    → IsNextAct s (2 * cycle + 1) → IsSending s cycle
is_sending s cycle n core queue next =
    let x : Interface = s.interface in
    record {
      sends = sends_means x cycle (sym (acts_odd x (2 * cycle + 1) cycle refl) ∙ next.passes);
      after = next.from;
      late = λ due comes_then.
          let after : s.from ≤ 2 * due = due_from n core s.from due x.under_way queue comes_then in
          let there : acts x (2 * due) ≡ true = acts_even x (2 * due) due refl ∙ comes_then in
          omega (arith, next.least (2 * due) after there);
    }

-- heard with the values read, an injection leaves the interface that has injected them
heard : (x : Interface) (cycle stamp : ℕ) (values : List ℕ) → sends x cycle ≡ true
    → (fed stamp (injection cycle x) values).core ≡ injected cycle values x
heard x cycle stamp values here =
    let left : ℕ = (port_to x (target_at x cycle)).channel.left in
    let some = (sends_means x cycle here).some in
    let word : ℕ = comm_word x.core (port_to x (target_at x cycle)).channel.source in
    let reads : (size : ℕ) → packet_size left ≡ size → injection cycle x
    ≡ gets size word (λ values. done (injected cycle values x)) =
    λ size e. rw (here, injection) (ap (λ s. gets s word (λ values. done (injected cycle values x))) e) in
    let loaded : (heard_values : List ℕ) → payload left heard_values ≡ payload left values
    → injected cycle heard_values x ≡ injected cycle values x =
    λ heard_values e. ap (λ load. injected_to (target_at x cycle) cycle load x) e in
    elim (cases_eq left 1) [
      | inl one ↦
          let yes : (left == 1) ≡ true = eq-eqb left 1 one in
          ap (λ p. (fed stamp p values).core) (reads 1 (omega arith))
          ∙ loaded (first values ∷ []) (rw (yes, payload) refl)
      | inr more ↦
          let no : (left == 1) ≡ false = ne_eqb left 1 more in
          ap (λ p. (fed stamp p values).core) (reads 2 (omega arith)) ∙ loaded (first values ∷ first (others values)
          ∷ []) (rw (no, payload) refl)
    ]

pub heard_next : (s : Standing) (cycle stamp : ℕ) (values : List ℕ) → IsNextAct s (2 * cycle + 1)
    → (fed stamp (injection cycle s.interface) values).core ≡ injected cycle values s.interface
heard_next s cycle stamp values next =
    heard s.interface cycle stamp values (sym (acts_odd s.interface (2 * cycle + 1) cycle refl) ∙ next.passes)

-- what is known at an injection that is carried out
pub is_sending_now : (s now : Standing) (cycle n core : ℕ) → s ≡ now → IsQueue n core s.from s.interface.under_way
    → (c : ℕ) × IsNextAct now (2 * c + 1) → IsNext (sends now.interface) (now.from / 2) cycle → IsSending s cycle
is_sending_now s now cycle n core same queue next sent =
    let there : IsNextAct s (2 * cycle + 1) =
    subst (λ z. IsNextAct z (2 * cycle + 1)) (sym same) (sends_now now cycle next sent) in
    is_sending s cycle n core queue there

-- no words are left in unused ports
none_in : (d : ℕ) → (port_at all_unused d).channel.left ≡ 0
none_in d = elim (cases_lt d 16) [
  | inl below ↦ ap (λ (p : Port). p.channel.left) (get_or-replicate 16 d unused unused below)
  | inr past ↦ ap (λ (p : Port). p.channel.left) (get_or_past all_unused d unused
      (omega (arith, length-replicate 16 unused)))
]

-- an interface with which nothing was done sends nothing
pub new_sends_none : (n core cycle : ℕ) → sends (new_interface n core) cycle ≡ false
new_sends_none n core cycle = false_unless (sends (new_interface n core) cycle) (λ here.
    let some = (sends_means (new_interface n core) cycle here).some in
    omega (arith, some, none_in (target_at (new_interface n core) cycle)))

-- so it does nothing
pub new_is_quiet : (n core half : ℕ) (packets : List Packet) → packets ≡ []
    → acts (record (new_interface n core) { under_way = packets }) half ≡ false
new_is_quiet n core half packets empty =
    never_acts (record (new_interface n core) { under_way = packets }) (new_sends_none n core) empty half

-- registers change nothing of what is sent
pub same_sends : (x : Interface) (d cycle : ℕ) (port : Port) → d < length x.ports → port.channel ≡ (port_to x d).channel
    → sends (with_port d port x) cycle ≡ sends x cycle
same_sends x d cycle port below same =
    let t : ℕ = target_at x cycle in
    let kept : (port_at (set x.ports d port) t).channel ≡ (port_at x.ports t).channel = elim (cases_eq t d) [
      | inl own ↦ ap (λ i. (port_at (set x.ports d port) i).channel) own
          ∙ ap (λ (p : Port). p.channel) (get_or-set_same x.ports d port unused below) ∙ same
          ∙ sym (ap (λ i. (port_at x.ports i).channel) own)
      | inr other ↦ ap (λ (p : Port). p.channel) (get_or-set_other x.ports d t port unused other)
    ] in
    ap (λ (c : Channel). (cycle % 3 == 0) && (nat_le 2 x.cores && nat_lt 0 c.left)) kept

-- so they change nothing of what is to come
pub same_acts : (x : Interface) (d half : ℕ) (port : Port) → d < length x.ports → port.channel ≡ (port_to x d).channel
    → acts (with_port d port x) half ≡ acts x half
same_acts x d half port below same =
    ap (λ sent. elim (half % 2 == 0) as (λ _. Bool) [ true ↦ comes x (half / 2) | false ↦ sent ])
    (same_sends x d (half / 2) port below same)

-- a packet that comes to its words leaves what follows
sets_carried : {X : Type 0} (stamp word : ℕ) (load : Payload) (x : X) (values : List ℕ)
    → (fed stamp (sets word (carried load) (done x)) values).core ≡ x
sets_carried stamp word (One a) x values = refl
sets_carried stamp word (Two a b) x values = refl

-- heard, a delivery leaves the interface without the packet
pub heard_delivery : (s now : Standing) (p : Packet) (cycle stamp : ℕ) (values : List ℕ) → s ≡ now → IsFirstOf s p
    → IsNextAct now (2 * cycle) → (fed stamp (delivery cycle now.interface) values).core ≡ delivered cycle now.interface
heard_delivery s now p cycle stamp values here first next_now =
    let next : IsNextAct s (2 * cycle) = subst (λ z. IsNextAct z (2 * cycle)) (sym here) next_now in
    let same : p.due ≡ cycle = next_comes s.interface.cores s.interface.core s.from cycle s.interface p next first in
    subst (λ z. (fed stamp (delivery cycle z.interface) values).core ≡ delivered cycle z.interface) here
    (subst (λ c. (fed stamp (delivery c s.interface) values).core ≡ delivered c s.interface) same
    (ap (λ q. (fed stamp q values).core) (first_program s p first)
    ∙ sets_carried stamp (comm_word p.target p.first) p.payload (delivered p.due s.interface) values))

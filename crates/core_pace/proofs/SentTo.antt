-- A core's packets go only to cores to which its task asked for a transfer.
use Rattle.std.specs.List.{list_any, AllByRecursion as Each}
use Rattle.std.proofs.Common.{◌≡◌, ℕ, ◌<◌, ◌==◌, ◌||◌, not, Bool, true, false, cond, List, [], ◌∷◌, ◌++◌, length, filter, refl, sym, ap, ◌∙◌, subst, arith, inl, inr}
use Rattle.std.proofs.Math.ListN.{set}
use Rattle.std.proofs.lemmas.Bool.{cases_lt, cases_eq, eq-eqb}
use Rattle.std.proofs.lemmas.List.{set_past, get_or-set_same, get_or-set_other, get_or-replicate, get_or_past, length-replicate}
use Rattle.std.proofs.lemmas.List.Folds.{list_any-append}
use Rattle.shared_order.specs.Program.{Prog, done, gets}
use Rattle.shared_order.proofs.Lists.{each_map, each-append}
use Rattle.argo_ni.specs.declared.port.Port.{Port}
use Rattle.argo_ni.specs.declared.packet.Packet.{Packet}
use Rattle.argo_ni.specs.declared.packet.Payload.{Payload}
use Rattle.argo_ni.specs.declared.event.Started.{Started}
use Rattle.argo_ni.specs.declared.event.Started.TheVariants.{Begun, Dropped, Refused}
use Rattle.argo_ni.specs.Port.{unused, all_unused, port_at}
use Rattle.argo_ni.specs.Packet.{comm_word, payload, written}
use Rattle.argo_ni.specs.Interface.{Interface, new_interface, port_to}
use Rattle.argo_ni.specs.Start.{with_port, with_source, with_target, begun, answer_to, started_by, started}
use Rattle.argo_ni.specs.Turn.{comes, sends, target_at, packet_size, moved_on, packet_of, delivered, delivery, injected, injection}
use Rattle.argo_ni.proofs.Acts.{sends_means}
use Rattle.patmos_model.specs.State.{Sending}
use Rattle.core_pace.specs.Stores.{is_sent_to, SendsAsAsked}
use Rattle.patmos_model.proofs.Leaves.{Leaves, leaves_written, leaves_gets}

-- ---- one transfer more

more_sent : (sendings : List Sending) (s : Sending) (d : ℕ) → is_sent_to sendings d ≡ true
    → is_sent_to (sendings ++ s ∷ []) d ≡ true
more_sent sendings s d h =
    list_any-append (λ z. z.target == d) sendings (s ∷ []) ∙ ap (λ b. b || list_any (λ z. z.target == d) (s ∷ [])) h

last_sent : (sendings : List Sending) (s : Sending) → is_sent_to (sendings ++ s ∷ []) s.target ≡ true
last_sent sendings s =
    list_any-append (λ z. z.target == s.target) sendings (s ∷ [])
    ∙ ap (λ b. list_any (λ z. z.target == s.target) sendings || (b || false)) (eq-eqb s.target s.target refl)
    ∙ either (list_any (λ z. z.target == s.target) sendings)
  where
    either : (b : Bool) → (b || true) ≡ true
    either true = refl
    either false = refl

more_asked : (x : Interface) (sendings : List Sending) (s : Sending) → SendsAsAsked x sendings
    → SendsAsAsked x (sendings ++ s ∷ [])
more_asked x sendings s h = record {
  channels = λ d some. more_sent sendings s d (h.channels d some);
  packets = each_map (λ (p : Packet). is_sent_to sendings p.target ≡ true)
      (λ (p : Packet). is_sent_to (sendings ++ s ∷ []) p.target ≡ true) (λ p k. more_sent sendings s p.target k)
      x.under_way h.packets;
}

-- ---- one port changed

port_changed : (x : Interface) (sendings : List Sending) (d : ℕ) (port : Port) → SendsAsAsked x sendings
    → (0 < port.channel.left → is_sent_to sendings d ≡ true)
    → (e : ℕ) → 0 < (port_at (set x.ports d port) e).channel.left → is_sent_to sendings e ≡ true
port_changed x sendings d port h here e some = elim (cases_lt d (length x.ports)) [
  | inr past ↦ h.channels e (subst (λ (ps : List Port). 0 < (port_at ps e).channel.left)
      (set_past x.ports d port past) some)
  | inl below ↦ elim (cases_eq e d) [
    | inl own ↦
        let same : port_at (set x.ports d port) e ≡ port =
        ap (port_at (set x.ports d port)) own ∙ get_or-set_same x.ports d port unused below in
        subst (λ k. is_sent_to sendings k ≡ true) (sym own) (here (subst (λ (q : Port). 0 < q.channel.left) same some))
    | inr other ↦ h.channels e (subst (λ (q : Port). 0 < q.channel.left)
        (get_or-set_other x.ports d e port unused other) some)
  ]
]

with_port_asked : (x : Interface) (sendings : List Sending) (d : ℕ) (port : Port) → SendsAsAsked x sendings
    → (0 < port.channel.left → is_sent_to sendings d ≡ true) → SendsAsAsked (with_port d port x) sendings
with_port_asked x sendings d port h here =
    record { channels = port_changed x sendings d port h here; packets = h.packets }

-- a register of a port, and a start
pub source_asked : (x : Interface) (sendings : List Sending) (d word : ℕ) → SendsAsAsked x sendings
    → SendsAsAsked (with_source d word x) sendings
source_asked x sendings d word h =
    with_port_asked x sendings d (record (port_to x d) { source = word }) h (h.channels d)

pub target_asked : (x : Interface) (sendings : List Sending) (d word : ℕ) → SendsAsAsked x sendings
    → SendsAsAsked (with_target d word x) sendings
target_asked x sendings d word h =
    with_port_asked x sendings d (record (port_to x d) { target = word }) h (h.channels d)

pub started_asked : (x : Interface) (sendings : List Sending) (s : Sending) (count : ℕ) → SendsAsAsked x sendings
    → SendsAsAsked (started s.target count x) (sendings ++ s ∷ [])
started_asked x sendings s count h = by (answer_to (port_to x s.target) count)
  where
    grown : SendsAsAsked x (sendings ++ s ∷ [])
    grown = more_asked x sendings s h

    by : (answer : Started) → SendsAsAsked (started_by answer s.target count x) (sendings ++ s ∷ [])
    by Begun = with_port_asked x (sendings ++ s ∷ []) s.target (begun (port_to x s.target) count) grown
        (λ some. last_sent sendings s)
    by Dropped = record { channels = grown.channels; packets = grown.packets }
    by Refused = grown

-- ---- the interface's part of a cycle

each_filter : (sendings : List Sending) (keep : Packet → Bool) (ps : List Packet)
    → Each (λ p. is_sent_to sendings p.target ≡ true) ps → Each (λ p. is_sent_to sendings p.target
    ≡ true) (filter keep ps)
each_filter sendings keep [] h = tt
each_filter sendings keep (p ∷ ps) h = by (keep p) (each_filter sendings keep ps h.1)
  where
    by : (b : Bool) → Each (λ p. is_sent_to sendings p.target ≡ true) (filter keep ps)
        → Each (λ p. is_sent_to sendings p.target ≡ true) (cond b (p ∷ filter keep ps) (filter keep ps))
    by true rest = (h.0, rest)
    by false rest = rest

pub delivery_asked : (x : Interface) (sendings : List Sending) (cycle : ℕ) → SendsAsAsked x sendings
    → Leaves (λ i. SendsAsAsked i sendings) (delivery cycle x)
delivery_asked x sendings cycle h = by (comes x cycle)
  where
    by : (b : Bool) → Leaves (λ i. SendsAsAsked i sendings) (elim b as (λ _. Prog Interface) [
      | true ↦ written
          (filter (λ p. p.due == cycle) x.under_way) (done (delivered cycle x))
      | false ↦ done x
    ])
    by true = leaves_written (λ i. SendsAsAsked i sendings) (filter (λ p. p.due == cycle) x.under_way)
        (done (delivered cycle x))
        (record {
          channels = h.channels;
          packets = each_filter sendings (λ p. not (p.due == cycle))
              x.under_way h.packets;
        })
    by false = h

injected_asked : (x : Interface) (sendings : List Sending) (cycle : ℕ) (values : List ℕ) → SendsAsAsked x sendings
    → sends x cycle ≡ true → SendsAsAsked (injected cycle values x) sendings
injected_asked x sendings cycle values h here =
    let d : ℕ = target_at x cycle in
    let port : Port = port_to x d in
    let load : Payload = payload port.channel.left values in
    let asked : is_sent_to sendings d ≡ true = h.channels d (sends_means x cycle here).some in
    record {
      channels = port_changed x sendings d (moved_on port) h (λ some. asked);
      packets = each-append (λ (p : Packet). is_sent_to sendings p.target ≡ true) x.under_way
          (packet_of cycle d load port ∷ []) h.packets (asked, tt);
    }

pub injection_asked : (x : Interface) (sendings : List Sending) (cycle : ℕ) → SendsAsAsked x sendings
    → Leaves (λ i. SendsAsAsked i sendings) (injection cycle x)
injection_asked x sendings cycle h = by (sends x cycle) refl
  where
    left : ℕ
    left = (port_to x (target_at x cycle)).channel.left

    word : ℕ
    word = comm_word x.core (port_to x (target_at x cycle)).channel.source

    by : (b : Bool) → sends x cycle ≡ b → Leaves (λ i. SendsAsAsked i sendings) (elim b as (λ _. Prog Interface)
        [ true ↦ gets (packet_size left) word (λ values. done (injected cycle values x)) | false ↦ done x ])
    by true here = leaves_gets (λ i. SendsAsAsked i sendings) (packet_size left) word
        (λ values. done (injected cycle values x)) (λ values. injected_asked x sendings cycle values h here)
    by false here = h

-- an interface that nothing was done with
pub new_asked : (n core : ℕ) → SendsAsAsked (new_interface n core) []
new_asked n core = record {
  channels = λ d some. absurd (omega (arith, some, none d));
  packets = tt;
}
  where
    none : (d : ℕ) → (port_to (new_interface n core) d).channel.left ≡ 0
    none d = elim (cases_lt d 16) [
      | inl below ↦ ap (λ (p : Port). p.channel.left) (get_or-replicate 16 d unused unused below)
      | inr past ↦ ap (λ (p : Port). p.channel.left) (get_or_past all_unused d unused
          (omega (arith, past, length-replicate 16 unused)))
    ]

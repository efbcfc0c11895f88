-- The task by itself is the run apart without what its interface reads.
use Rattle.std.proofs.Common.{◌≡◌, ℕ, zero, suc, ◌==◌, Bool, true, false, List, [], ◌++◌, filter, refl, sym, ap, ◌∙◌, append_assoc, append-nil}
use Rattle.slot_arbiter.specs.Stamp.{stamp}
use Rattle.shared_order.specs.Operation.{loads}
use Rattle.shared_order.specs.Program.{Prog, done, gets, and_then, Fed, fed}
use Rattle.shared_order.specs.Apart.{Alone, gone_on}
use Rattle.shared_order.proofs.Parts.{fed-then}
use Rattle.shared_order.proofs.Runs.{fed_fed}
use Rattle.shared_order.proofs.Lists.{loads-append}
use Rattle.argo_ni.specs.Packet.{comm_word, written}
use Rattle.argo_ni.specs.Interface.{Interface, port_to}
use Rattle.argo_ni.specs.Turn.{comes, sends, target_at, packet_size, delivered, delivery, injected, injection}
use Rattle.patmos_model.specs.State.{Core}
use Rattle.patmos_model.specs.Cycle.{with_interface, own, settled}
use Rattle.patmos_model.specs.Apart.{Followed, followed, after_delivery, after_injection}
use Rattle.patmos_model.proofs.Leaves.{Leaves, leaves_written, leaves_gets}
use Rattle.core_pace.specs.Task.{no_packets, unsent, counted_down, unheard, task_turn, task_apart}
use Rattle.core_pace.proofs.Parts.{fed_leaves, with_interface_left}
use Rattle.core_pace.proofs.Unsent.{forgets_act}

-- ---- the interface

-- deliveries change the packets alone
delivery_leaves : (cycle : ℕ) (x : Interface) → Leaves (λ i. no_packets i ≡ no_packets x) (delivery cycle x)
delivery_leaves cycle x = by (comes x cycle)
  where
    by : (b : Bool) → Leaves (λ i. no_packets i ≡ no_packets x) (elim b as (λ _. Prog Interface) [
      | true ↦ written
          (filter (λ p. p.due == cycle) x.under_way) (done (delivered cycle x))
      | false ↦ done x
    ])
    by true = leaves_written (λ i. no_packets i ≡ no_packets x) (filter (λ p. p.due == cycle) x.under_way)
        (done (delivered cycle x)) refl
    by false = refl

-- an injection counts down what is left, whatever it reads
injection_leaves : (cycle : ℕ) (x : Interface) → Leaves (λ i. no_packets i ≡ counted_down cycle x) (injection cycle x)
injection_leaves cycle x = by (sends x cycle)
  where
    left : ℕ
    left = (port_to x (target_at x cycle)).channel.left

    word : ℕ
    word = comm_word x.core (port_to x (target_at x cycle)).channel.source

    by : (b : Bool) → Leaves (λ i. no_packets i ≡ elim b as (λ _. Interface) [
      | true ↦ no_packets
          (injected cycle [] x)
      | false ↦ no_packets x
    ])
        (elim b as (λ _. Prog Interface) [
          | true ↦ gets (packet_size left) word
              (λ values. done (injected cycle values x))
          | false ↦ done x
        ])
    by true = leaves_gets (λ i. no_packets i ≡ no_packets (injected cycle [] x)) (packet_size left) word
        (λ values. done (injected cycle values x)) (λ values. refl)
    by false = refl

forgets_count : (cycle : ℕ) (x : Interface) → counted_down cycle (no_packets x) ≡ counted_down cycle x
forgets_count cycle x = by (sends x cycle)
  where
    by : (b : Bool) → elim b as (λ _. Interface) [
      | true ↦ no_packets (injected cycle [] (no_packets x))
      | false ↦
          no_packets (no_packets x)
    ]
        ≡ elim b as (λ _. Interface) [ true ↦ no_packets (injected cycle [] x) | false ↦ no_packets x ]
    by true = refl
    by false = refl

module _ (n core : ℕ) where
  -- the interface's part of a cycle is what the task can tell of it
  interface_heard : (t : ℕ) (f : Followed) → unheard t (unsent f.run.core)
      ≡ unsent (after_injection n core t (after_delivery n core t f)).run.core
  interface_heard t f =
      let c : Core = f.run.core in
      let f1 : Followed = after_delivery n core t f in
      let c1 : Core = f1.run.core in
      let d : Core = (after_injection n core t f1).run.core in
      let x1 : Interface = (fed (stamp n core t 0) (delivery t c.plain.interface) f.run.left).core in
      let x2 : Interface = (fed (stamp n core t 1) (injection t c1.plain.interface) f1.run.left).core in
      let one : c1 ≡ with_interface c x1 =
      with_interface_left c (stamp n core t 0) (delivery t c.plain.interface) f.run.left in
      let two : d ≡ with_interface c1 x2 =
      with_interface_left c1 (stamp n core t 1) (injection t c1.plain.interface) f1.run.left in
      let came : no_packets x1 ≡ no_packets c.plain.interface = fed_leaves (λ i. no_packets i
      ≡ no_packets c.plain.interface) (stamp n core t 0) (delivery t c.plain.interface) f.run.left
      (delivery_leaves t c.plain.interface) in
      let sent : no_packets x2 ≡ counted_down t c1.plain.interface =
      fed_leaves (λ i. no_packets i ≡ counted_down t c1.plain.interface) (stamp n core t 1)
      (injection t c1.plain.interface) f1.run.left (injection_leaves t c1.plain.interface) in
      let counts : counted_down t (no_packets c.plain.interface) ≡ no_packets x2 =
      ap (counted_down t) (sym came) ∙ forgets_count t x1 ∙ ap (λ (z : Core). counted_down t z.plain.interface)
      (sym one) ∙ sym sent in
      ap (with_interface c) counts
      ∙ sym (ap unsent two ∙ ap (λ z. with_interface z (no_packets x2)) one)

  pub task_is_apart : (x : Core) (values : List ℕ) (t : ℕ) (more : List ℕ)
      → task_apart n core x (loads (followed n core x values t).own ++ more) t
      ≡ record {
        core = unsent (followed n core x values t).run.core;
        left = more;
        made = (followed n core x values t).own;
      }
  task_is_apart x values zero more = refl
  task_is_apart x values (suc t) more =
      let f : Followed = followed n core x values t in
      let g : Followed = after_injection n core t (after_delivery n core t f) in
      let s : ℕ = stamp n core t 1 in
      let act : Prog Core = and_then (own t g.run.core) settled in
      let heard : Fed Core = fed s act g.run.left in
      let told : List ℕ = loads heard.ops ++ more in
      let forgets : fed s (and_then act (λ d. done (unsent d))) told ≡ record {
        core = unsent heard.core;
        left = more;
        ops = heard.ops ++ [];
      } =
      fed-then s act (λ d. done (unsent d)) told
      ∙ ap (λ (p : Fed Core). record { core = unsent p.core; left = p.left; ops = p.ops ++ [] }) (fed_fed s act
      g.run.left more) in
      ap (λ l. task_apart n core x l (suc t)) (ap (λ l. l ++ more) (loads-append f.own heard.ops)
      ∙ append_assoc (loads f.own) (loads heard.ops) more)
      ∙ ap (task_turn n core t) (task_is_apart x values t told)
      ∙ ap (λ c. gone_on (fed s (and_then (own t c) settled) told) f.own) (interface_heard t f)
      ∙ ap (λ p. gone_on (fed s p told) f.own) (forgets_act t g.run.core)
      ∙ ap (λ (p : Fed Core). gone_on p f.own) forgets
      ∙ ap (λ l. record { core = unsent heard.core; left = more; made = f.own ++ l }) (append-nil heard.ops)

  -- so the task's own loads determine all but the packets
  pub task_determined : (x : Core) (values values' : List ℕ) (t : ℕ) → loads (followed n core x values t).own
      ≡ loads (followed n core x values' t).own
      → (unsent (followed n core x values t).run.core ≡ unsent (followed n core x values' t).run.core)
      × ((followed n core x values t).own ≡ (followed n core x values' t).own)
  task_determined x values values' t same =
      let both : ◌≡◌ {A = Alone Core} (record {
        core = unsent (followed n core x values t).run.core;
        left = [];
        made = (followed n core x values t).own;
      })
      (record {
        core = unsent (followed n core x values' t).run.core;
        left = [];
        made = (followed n core x values' t).own;
      }) =
      sym (task_is_apart x values t []) ∙ ap (λ l. task_apart n core x (l ++ []) t) same
      ∙ task_is_apart x values' t [] in
      (ap (λ (a : Alone Core). a.core) both, ap (λ (a : Alone Core). a.made) both)

-- What was asked of the interface, and what a task has made, stays.
use Rattle.std.proofs.Common.{◌≡◌, ℕ, zero, suc, ◌+◌, ap, ◌∙◌, sym, arith, append_assoc, append-nil, List, [], ◌∷◌, ◌++◌}
use Rattle.slot_arbiter.specs.Stamp.{stamp}
use Rattle.shared_order.specs.declared.operation.Operation.{Operation}
use Rattle.shared_order.specs.Program.{Prog, done, get, set, and_then, fed}
use Rattle.argo_ni.specs.Interface.{Interface}
use Rattle.argo_ni.specs.Turn.{delivery, injection}
use Rattle.patmos_model.specs.State.{Core, Sending}
use Rattle.patmos_model.specs.Cycle.{own, settled}
use Rattle.patmos_model.specs.Apart.{followed, Followed, after_delivery, after_injection}
use Rattle.patmos_model.proofs.Leaves.{Leaves}
use Rattle.core_pace.specs.Growth.{BeginsWith}
use Rattle.core_pace.proofs.SentKept.{IsKept, kept_on}

leaves_all : {X : Type 0} (P : X → Type 0) (p : Prog X) → ((x : X) → P x) → Leaves P p
leaves_all P (done x) h = h x
leaves_all P (get word go_on) h = λ value. leaves_all P (go_on value) h
leaves_all P (set word value rest) h = leaves_all P rest h

grown : (xs sendings : List Sending) (s : Sending) → BeginsWith sendings xs → BeginsWith (sendings ++ s ∷ []) xs
grown xs sendings s h = (h.0 ++ s ∷ [], ap (λ l. l ++ s ∷ []) h.1 ∙ append_assoc xs h.0 (s ∷ []))

-- the transfers asked for begin with these, whatever the interface does
begins_is_kept : (xs : List Sending) → IsKept (λ x sendings. BeginsWith sendings xs)
begins_is_kept xs = record {
  source = λ x sendings d word h. h;
  target = λ x sendings d word h. h;
  start = λ x sendings s count h. grown xs sendings s h;
  delivery = λ x sendings cycle h. leaves_all (λ (i : Interface). BeginsWith sendings xs) (delivery cycle x) (λ i. h);
  injection = λ x sendings cycle h. leaves_all (λ (i : Interface). BeginsWith sendings xs) (injection cycle x) (λ i. h);
}

pub sendings_grow : (n core : ℕ) (x : Core) (values : List ℕ) (t d : ℕ)
    → BeginsWith (followed n core x values (t + d)).run.core.seen.sendings (followed n core x values
    t).run.core.seen.sendings
sendings_grow n core x values t d =
    let xs : List Sending = (followed n core x values t).run.core.seen.sendings in
    kept_on (λ y sendings. BeginsWith sendings xs) (begins_is_kept xs) n core x values t d ([], sym (append-nil xs))

pub own_grows : (n core : ℕ) (x : Core) (values : List ℕ) (t d : ℕ) → BeginsWith (followed n core x values (t + d)).own
    (followed n core x values t).own
own_grows n core x values t zero =
    let here : t + 0 ≡ t = omega arith in
    ([], ap (λ u. (followed n core x values u).own) here ∙ sym (append-nil (followed n core x values t).own))
own_grows n core x values t (suc d) =
    let next : t + suc d ≡ suc (t + d) = omega arith in
    let u : ℕ = t + d in
    let g : Followed = after_injection n core u (after_delivery n core u (followed n core x values u)) in
    let ops : List Operation = (fed (stamp n core u 1) (and_then (own u g.run.core) settled) g.run.left).ops in
    let before = own_grows n core x values t d in (
      before.0 ++ ops,
      ap (λ v. (followed n core x values v).own) next ∙ ap (λ l. l ++ ops) before.1
          ∙ append_assoc (followed n core x values t).own before.0 ops,
    )

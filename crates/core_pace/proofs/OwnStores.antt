-- A task stores into its own communication memory and into shared memory alone.
use Rattle.std.specs.List.{AllByRecursion as Each}
use Rattle.std.proofs.Common.{◌≡◌, ℕ, zero, suc, true, false, List, [], ap, ◌∙◌, inl, inr}
use Rattle.slot_arbiter.specs.Stamp.{stamp}
use Rattle.shared_order.specs.Program.{Prog, done, get, set, and_then, fed, first, others}
use Rattle.shared_order.proofs.Lists.{each-append}
use Rattle.argo_ni.specs.Packet.{comm_word}
use Rattle.patmos_model.specs.State.{Core}
use Rattle.patmos_model.specs.Cycle.{own, settled}
use Rattle.patmos_model.specs.Apart.{Followed, followed, after_delivery, after_injection}
use Rattle.patmos_model.proofs.Acts.{Keeps, Any, Gives, gives_any, act_kept, steps_of_place}
use Rattle.patmos_model.specs.Site.{Site}
use Rattle.core_pace.specs.Moment.{Moment}
use Rattle.core_pace.specs.Stores.{IsOwnWord, StoresOwn}
use Rattle.core_pace.proofs.Onward.{gone_site}
use Rattle.core_pace.proofs.Waits.{interface_apart}

-- ---- programs that name such words alone

kept_ops : {X : Type 0} (core : ℕ) (Q : X → Type 0) (s : ℕ) (p : Prog X) (values : List ℕ)
    → Keeps (IsOwnWord core) Any Q p → Each (StoresOwn core) (fed s p values).ops
kept_ops core Q s (done x) values h = tt
kept_ops core Q s (get word go_on) values h = (
  (λ is. absurd (let bad : false ≡ true = is in cc)),
  kept_ops core Q s
      (go_on (first values)) (others values) (h.1 (first values) tt),
)
kept_ops core Q s (set word value rest) values h = ((λ is. h.0), kept_ops core Q s rest values h.2)

kept_left : {X : Type 0} (core : ℕ) (Q : X → Type 0) (s : ℕ) (p : Prog X) (values : List ℕ)
    → Keeps (IsOwnWord core) Any Q p → Q (fed s p values).core
kept_left core Q s (done x) values h = h
kept_left core Q s (get word go_on) values h =
    kept_left core Q s (go_on (first values)) (others values) (h.1 (first values) tt)
kept_left core Q s (set word value rest) values h = kept_left core Q s rest values h.2

-- ---- the act

module _ (core : ℕ) where
  -- the core has this number
  abbrev IsAt : Core → Type 0
  IsAt c = c.plain.site.core ≡ core

  gives_own : Gives (IsOwnWord core) Any IsAt
  gives_own = gives_any (IsOwnWord core) IsAt (λ c word h below. inr (word, (below, ap (λ k. comm_word k word) h)))
      (λ c word h below. inl below)

  act_own : (u : ℕ) (c : Core) → IsAt c → Keeps (IsOwnWord core) Any IsAt (and_then (own u c) settled)
  act_own u c h = act_kept (IsOwnWord core) Any IsAt gives_own (steps_of_place (λ site base status. site.core ≡ core))
      (record {
        stops = λ c fault cycle h. h;
        goes = λ c goal h placed. ap (λ (s : Site). s.core) (gone_site goal c)
            ∙ h;
      }) u c h

-- ---- the run

-- what the task has stored until then, and its core's number
record HasStored (core : ℕ) (f : Followed) : Type 0 where
  place : f.run.core.plain.site.core ≡ core
  stores : Each (StoresOwn core) f.own

has_stored : (n core : ℕ) (x : Core) (values : List ℕ) (t : ℕ) → x.plain.site.core ≡ core
    → HasStored core (followed n core x values t)
has_stored n core x values zero e = record { place = e; stores = tt }
has_stored n core x values (suc t) e =
    let f : Followed = followed n core x values t in
    let m : Moment = record { cycle = t; told = f; bundles = [] } in
    let g : Followed = after_injection n core t (after_delivery n core t f) in
    let before : HasStored core f = has_stored n core x values t e in
    let here : g.run.core.plain.site.core ≡ core =
    ap (λ (c : Core). c.plain.site.core) (interface_apart n core m) ∙ before.place in
    let act = act_own core t g.run.core here in
    record {
      place = kept_left core (IsAt core) (stamp n core t 1) (and_then (own t g.run.core) settled) g.run.left act;
      stores = each-append (StoresOwn core) f.own (fed (stamp n core t 1) (and_then (own t g.run.core) settled)
          g.run.left).ops before.stores
          (kept_ops core (IsAt core) (stamp n core t 1) (and_then (own t g.run.core) settled) g.run.left act);
    }

pub own_stores : (n core : ℕ) (x : Core) (values : List ℕ) (t : ℕ) → x.plain.site.core ≡ core
    → Each (StoresOwn core) (followed n core x values t).own
own_stores n core x values t e = (has_stored n core x values t e).stores

-- What holds of an interface and of the transfers that were asked for, if each act keeps it, is kept for ever.
use Rattle.std.proofs.Common.{◌≡◌, ℕ, zero, suc, ◌+◌, arith, List, [], ◌∷◌, ◌++◌, sym, subst}
use Rattle.slot_arbiter.specs.Stamp.{stamp}
use Rattle.shared_order.specs.Program.{Prog, done, and_then, fed}
use Rattle.argo_ni.specs.Interface.{port_to}
use Rattle.argo_ni.specs.Start.{with_source, with_target, started}
use Rattle.patmos_model.specs.declared.flow.Goal.{Goal}
use Rattle.patmos_model.specs.declared.flow.Goal.TheVariants.{Within}
use Rattle.patmos_model.specs.State.{Core, Sending}
use Rattle.patmos_model.specs.Flows.{gone}
use Rattle.patmos_model.specs.Cycle.{own, settled}
use Rattle.patmos_model.specs.Apart.{Followed, followed, after_delivery, after_injection}
use Rattle.patmos_model.proofs.Acts.{Any, Steps, act_leaves}
use Rattle.patmos_model.proofs.Leaves.{Leaves}
use Rattle.core_pace.proofs.Parts.{fed_leaves}
use Rattle.argo_ni.specs.Interface.{Interface}
use Rattle.argo_ni.specs.Turn.{delivery, injection}
use Rattle.patmos_model.specs.Cycle.{with_interface}
use Rattle.core_pace.proofs.Parts.{with_interface_left}

-- each act of an interface, and each transfer that is asked for, keeps it
pub record IsKept (F : Interface → List Sending → Type 0) : Type 0 where
  pub source : (x : Interface) (sendings : List Sending) (d word : ℕ) → F x sendings → F (with_source d word x) sendings
  pub target : (x : Interface) (sendings : List Sending) (d word : ℕ) → F x sendings → F (with_target d word x) sendings
  pub start : (x : Interface) (sendings : List Sending) (s : Sending) (count : ℕ) → F x sendings
      → F (started s.target count x) (sendings ++ s ∷ [])
  pub delivery : (x : Interface) (sendings : List Sending) (cycle : ℕ) → F x sendings
      → Leaves (λ i. F i sendings) (delivery cycle x)
  pub injection : (x : Interface) (sendings : List Sending) (cycle : ℕ) → F x sendings
      → Leaves (λ i. F i sendings) (injection cycle x)

module _ (F : Interface → List Sending → Type 0) (k : IsKept F) where
  -- it holds of a core
  abbrev Fair : Core → Type 0
  Fair c = F c.plain.interface c.seen.sendings

  -- of a core's own steps, those that touch its interface keep it, and all others leave it
  steps_fair : Steps Any Fair
  steps_fair = record {
    waits = λ c t free h of. h;
    value = λ c rd width address word h kind. h;
    advances = λ c b words h found. h;
    stacks = λ c func count h room. h;
    sets = λ c width address value h kind. h;
    scratch = λ c word value h kind. h;
    private = λ c word value h kind. h;
    source = λ c target value h. k.source c.plain.interface c.seen.sendings target value h;
    target = λ c target value h. k.target c.plain.interface c.seen.sendings target value h;
    starts = λ c target count h. k.start c.plain.interface c.seen.sendings (record {
      target = target;
      from = (port_to c.plain.interface target).source;
      to = (port_to c.plain.interface target).target;
      count = count;
    }) count h;
    caches = λ c access h of. h;
    counts = λ c access h. h;
  }

  gone_fair : (goal : Goal) (c : Core) → Fair c → Fair (gone goal c)
  gone_fair (Within offset) c h = h
  gone_fair _ c h = h

  act_fair : (u : ℕ) (c : Core) → Fair c → Leaves Fair (and_then (own u c) settled)
  act_fair u c h = act_leaves Fair steps_fair (record {
    stops = λ c fault cycle h. h;
    goes = λ c goal h placed.
        gone_fair goal c h;
  }) u c h

  -- ---- the run

  -- the interface with which a core goes on
  with_fair : (c : Core) (s : ℕ) (p : Prog Interface) (values : List ℕ) → Leaves (λ i. F i c.seen.sendings) p
      → Fair (fed s (and_then p (λ i. done (with_interface c i))) values).core
  with_fair c s p values h =
      subst Fair (sym (with_interface_left c s p values)) (fed_leaves (λ i. F i c.seen.sendings) s p values h)

  -- in a run, from a cycle on
  pub kept_on : (n core : ℕ) (x : Core) (values : List ℕ) (t d : ℕ) → Fair (followed n core x values t).run.core
      → Fair (followed n core x values (t + d)).run.core
  kept_on n core x values t zero h =
      let here : t + 0 ≡ t = omega arith in
      subst (λ u. Fair (followed n core x values u).run.core) (sym here) h
  kept_on n core x values t (suc d) h =
      let next : t + suc d ≡ suc (t + d) = omega arith in
      let u : ℕ = t + d in
      let f : Followed = followed n core x values u in
      let c : Core = f.run.core in
      let f1 : Followed = after_delivery n core u f in
      let g : Followed = after_injection n core u f1 in
      let came : Fair f1.run.core = with_fair c (stamp n core u 0) (delivery u c.plain.interface) f.run.left
      (k.delivery c.plain.interface c.seen.sendings u (kept_on n core x values t d h)) in
      let sent : Fair g.run.core = with_fair f1.run.core (stamp n core u 1) (injection u f1.run.core.plain.interface)
      f1.run.left (k.injection f1.run.core.plain.interface f1.run.core.seen.sendings u came) in
      subst (λ v. Fair (followed n core x values v).run.core) (sym next)
      (fed_leaves Fair (stamp n core u 1) (and_then (own u g.run.core) settled) g.run.left (act_fair u g.run.core sent))

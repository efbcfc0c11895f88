-- Whatever is read, a task reaches of the words that others reach, and sends to, what its tree names.
use Rattle.std.proofs.Common.{◌≡◌, ℕ, ◌+◌, ◌<◌, ◌==◌, ◌||◌, Bool, true, false, List, [], ◌∷◌, ◌++◌, inl, inr, refl, sym, ap, ◌∙◌, subst, arith}
use Rattle.std.specs.List.{Contains, AllByRecursion as Each}
use Rattle.std.proofs.lemmas.Bool.{cases_lt, eqb-true}
use Rattle.slot_arbiter.specs.declared.place.Place.{Place}
use Rattle.shared_order.specs.Apart.{Alone}
use Rattle.shared_order.proofs.Lists.{each_first, each_map}
use Rattle.argo_ni.specs.Interface.{port_to}
use Rattle.argo_ni.specs.declared.packet.Packet.{Packet}
use Rattle.patmos_sem.specs.Registers.{FitsRegisters}
use Rattle.patmos_model.specs.Apart.{Followed, followed, site_of, apart_at, own_operations}
use Rattle.patmos_model.specs.Begin.{begun, entry}
use Rattle.patmos_model.specs.Range.{IsWord}
use Rattle.patmos_model.specs.Site.{Site}
use Rattle.patmos_model.specs.State.{Core, Sending}
use Rattle.core_pace.specs.Bound.{most_in_slot}
use Rattle.core_pace.specs.Growth.{IsSameTask}
use Rattle.core_pace.specs.Moment.{Moment, core_in}
use Rattle.core_pace.specs.Run.{first_moment, after_bundles}
use Rattle.core_pace.specs.Spans.{IsSlotted}
use Rattle.core_pace.specs.Stores.{is_sent_to, SendsAsAsked}
use Rattle.core_pace.proofs.Growing.{told_before, run_before}
use Rattle.core_pace.proofs.SentOnly.{sends_as_asked}
use Rattle.core_pace.proofs.SentTo.{new_asked}
use Rattle.sp_tree.specs.Statements.{PlainUnit}
use Rattle.sp_tree.specs.Uses.{Use, sends_to, uses_of}
use Rattle.sp_shape.specs.Parts.{PlainShape}
use Rattle.sp_shape.specs.Run.{Run, at_begin}
use Rattle.sp_shape.specs.Trail.{trail}
use Rattle.cycle_bound.specs.Bound.{shape_bound}
use Rattle.tc_link.proofs.Followed.{shape_followed}
use Rattle.tc_link.specs.Backs.{back, backs_of}
use Rattle.tc_link.specs.Dues.{dues_of}
use Rattle.tc_link.specs.Placed.{linked}
use Rattle.tc_link.specs.Walk.{Follows, walk_from}
use Rattle.code_core.specs.Followed.{IsFollowed}
use Rattle.code_core.specs.Fixed.{IsLinkable, Behaves, no_memory}
use Rattle.code_core.specs.Goes.{by_stack, loads_from}
use Rattle.code_words.specs.May.{MayMake, MadeWell}
use Rattle.code_core.specs.Sound.{bundles_in}
use Rattle.code_core.specs.Words.{AreGiven}
use Rattle.code_words.proofs.MayAlong.{well_as}
use Rattle.code_core.proofs.InRange.{loads_are_words}
use Rattle.code_core.proofs.Shapes.{ends, starts_after, unused_ports}
use Rattle.task_words.specs.Reach.{MayLoadWord, MayStoreWord, MaySendTo}
use Rattle.task_words.specs.Meant.{Names}
use Rattle.task_core.specs.Tasks.{code_of, IsRunnable, IsCode}
use Rattle.task_core.proofs.Behaving.{link, targets_of, asking, behaves, may_there}
use Rattle.code_times.proofs.Ending.{ends_within}
use Rattle.code_times.proofs.Exact.{stands_so}
use Rattle.task_words.proofs.Meaning.{Cached, cached_own, all_apart}
use Rattle.core_pace.proofs.Owned.{own_ended, own_ended_there}
use Rattle.task_words.proofs.Reaching.{all_reach}
use Rattle.core_pace.proofs.SentGrows.{sendings_grow, own_grows}
use Rattle.task_words.proofs.Whole.{uses_apart}

-- a core to which a transfer was asked for is one to which it may be
sent_named : (To : ℕ → Type 0) (sendings : List Sending) (d : ℕ) → is_sent_to sendings d ≡ true
    → Each (λ (s : Sending). To s.target) sendings → To d
sent_named To [] d sent may = absurd (let bad : false ≡ true = sent in cc)
sent_named To (s ∷ ss) d sent may = by (λ any. sent_named To ss d any may.1) (s.target == d) refl sent
  where
    by : (is_sent_to ss d ≡ true → To d) → (b : Bool) → (s.target == d) ≡ b → (b || is_sent_to ss d) ≡ true → To d
    by more true is any = subst To (eqb-true s.target d is) may.0
    by more false is any = more any

module _ (u : PlainUnit) (place : Place) (h : IsRunnable u place) (code : IsCode u)
    (slots : IsSlotted (site_of place (linked (code_of u)))) (among : place.core < place.cores) (input values : List ℕ)
    (given : AreGiven input values) where
  abbrev Use_named : Use → Type 0
  Use_named = Contains (uses_of u)

  abbrev s : PlainShape
  s = code_of u

  abbrev site : Site
  site = site_of place (linked (code_of u))

  abbrev last : Moment
  last = after_bundles place.cores place.core (begun site input) values (bundles_in (trail s))

  -- after its last bundle
  well_ended : MadeWell (MayLoadWord Use_named place.core) (MayStoreWord Use_named place.core) (MaySendTo Use_named)
      (core_in last) last.told.own
  well_ended =
      let k : IsLinkable s = link u code h.formed in
      let b : Behaves s place (asking u h.formed).cached = behaves u place h code in
      let loads : List ℕ = loads_from place.cores place.core (bundles_in (trail s)) (first_moment place.cores place.core
      (begun site input) values) in
      let words : Each IsWord loads = loads_are_words place.cores place.core site input values (bundles_in (trail s))
      among k.words k.initial given in
      let m : Run = at_begin no_memory loads (backs_of s) in
      let fits : FitsRegisters m.regs = record { count = refl; pred_count = refl; zero = refl; always = refl } in
      let f : Follows (linked s) by_stack (trail s) (dues_of s (back 0 0)) (walk_from (entry (linked s)) m) =
      shape_followed s by_stack m k.formed k.fits k.bundles fits refl (b.iterations no_memory loads words) in
      well_as (MayLoadWord Use_named place.core) (MayStoreWord Use_named place.core) (MaySendTo Use_named) place.cores
      place.core site input values (Cached u (uses_apart u place input (λ _. 0) h.formed))
      (cached_own u (uses_apart u place input (λ _. 0) h.formed))
      (trail s) (dues_of s (back 0 0)) no_memory (backs_of s) f.last 0 (unused_ports place s (asking u h.formed).cached
      k b slots among input) slots (starts_after s) f.does_so (b.sound no_memory loads words)
      (all_apart u (uses_apart u place input (λ _. 0) h.formed) by_stack (trail s) m
      (may_there u h.formed no_memory loads))
      (all_reach Use_named (λ target named. (targets_of u place h target named).0) place.core by_stack (trail s) m
      (may_there u h.formed no_memory loads)) f.returns

  -- at each number of cycles
  pub names : (cycles : ℕ) → Names u place input values cycles
  names cycles =
      let x : Core = begun site input in
      let k : IsLinkable s = link u code h.formed in
      let b : Behaves s place (asking u h.formed).cached = behaves u place h code in
      let far : ℕ = place.start + shape_bound (most_in_slot site) s in
      let limit : ℕ = cycles + far in
      let count : ℕ = bundles_in (trail s) in
      let e : IsFollowed place s (asking u h.formed).cached input values =
      ends place s (asking u h.formed).cached k b slots among input values given in
      let within = ends_within place s (asking u h.formed).cached k b slots among input values given in
      let own_is : own_operations place (linked s) input values limit ≡ last.told.own =
      elim (cases_lt last.cycle limit) [
        | inl late ↦ own_ended place.cores place.core site input values count slots limit e.still late
        | inr there ↦
            let at : last.cycle ≡ limit = omega (arith, within, there) in
            subst (λ t. own_operations place (linked s) input values t ≡ last.told.own) at
            (own_ended_there place.cores place.core site input values count slots e.status e.still)
      ] in
      let same : IsSameTask (core_in last) (apart_at place (linked s) input values limit).core =
      stands_so place s (asking u h.formed).cached k b slots among input values given limit (omega arith) in
      let told : (t : ℕ) → (followed place.cores place.core x values t).run ≡ apart_at place (linked s) input values t =
      λ t. ap (λ (f : Followed). f.run) (sym (told_before place.cores place.core x values t))
      ∙ run_before place.cores place.core x values t in
      let own = own_grows place.cores place.core x values cycles far in
      let sent = sendings_grow place.cores place.core x values cycles far in
      let sent_is : (core_in last).seen.sendings
      ≡ (followed place.cores place.core x values cycles).run.core.seen.sendings ++ sent.0 =
      sym (ap (λ (c : Core). c.seen.sendings) same) ∙ sym (ap (λ (a : Alone Core). a.core.seen.sendings) (told limit))
      ∙ sent.1 in
      let asked : Each (λ (z : Sending). Use_named (sends_to z.target))
      (followed place.cores place.core x values cycles).run.core.seen.sendings =
      each_first (λ (z : Sending). Use_named (sends_to z.target))
      (followed place.cores place.core x values cycles).run.core.seen.sendings sent.0
      (subst (Each (λ (z : Sending). Use_named (sends_to z.target))) sent_is well_ended.1) in
      let fair : SendsAsAsked (followed place.cores place.core x values cycles).run.core.plain.interface
      (followed place.cores place.core x values cycles).run.core.seen.sendings =
      sends_as_asked place.cores place.core x values cycles (new_asked place.cores place.core) in
      record {
        operations = each_first (MayMake (MayLoadWord Use_named place.core) (MayStoreWord Use_named place.core)
            (MaySendTo Use_named)) (own_operations place (linked s) input values cycles) own.0
            (subst (Each (MayMake (MayLoadWord Use_named place.core) (MayStoreWord Use_named place.core)
            (MaySendTo Use_named))) (sym own_is ∙ own.1) well_ended.0);
        sendings = subst (λ (a : Alone Core). Each (λ (z : Sending). Use_named (sends_to z.target))
            a.core.seen.sendings) (told cycles) asked;
        channels = subst (λ (a : Alone Core). (d : ℕ) → 0 < (port_to a.core.plain.interface d).channel.left
            → Use_named (sends_to d)) (told cycles)
            (λ d some. sent_named (λ target. Use_named (sends_to target))
            (followed place.cores place.core x values cycles).run.core.seen.sendings d
            (fair.channels d some) asked);
        packets = subst (λ (a : Alone Core). Each (λ (p : Packet). Use_named (sends_to p.target))
            a.core.plain.interface.under_way) (told cycles)
            (each_map (λ (p : Packet). is_sent_to (followed place.cores place.core x values
            cycles).run.core.seen.sendings p.target ≡ true) (λ (p : Packet). Use_named (sends_to p.target))
            (λ p is. sent_named (λ target. Use_named (sends_to target))
            (followed place.cores place.core x values cycles).run.core.seen.sendings p.target is asked)
            (followed place.cores place.core x values cycles).run.core.plain.interface.under_way fair.packets);
      }

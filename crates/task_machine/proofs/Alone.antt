-- A task that is alone with what it reads: the world of zeros fits its loads.
use Rattle.std.specs.List.{AllByRecursion as Each, Contains}
use Rattle.std.proofs.Common.{◌≡◌, ◌≢◌, ℕ, ◌*◌, ◌^◌, ◌<◌, ◌≤◌, List, [], inl, inr, refl, sym, ap, ◌∙◌, subst, arith}
use Rattle.slot_arbiter.specs.declared.place.Place.{Place}
use Rattle.slot_arbiter.proofs.Entries.{owner_has_entry}
use Rattle.shared_order.specs.declared.operation.Operation.{Operation}
use Rattle.shared_order.specs.Operation.{operations_of}
use Rattle.shared_order.specs.Words.{zeros, Sees}
use Rattle.shared_order.specs.Machine.{State, cycled}
use Rattle.shared_order.specs.Apart.{Alone, apart}
use Rattle.shared_order.proofs.ByCycles.{all_reads, stands_by_cycles}
use Rattle.shared_order.proofs.Lists.{each_all, each_map, each_zip}
use Rattle.shared_order.proofs.Words.{sees_from}
use Rattle.argo_ni.specs.declared.packet.Packet.{Packet}
use Rattle.argo_ni.specs.Packet.{comm_word}
use Rattle.argo_ni.specs.Range as ni
use Rattle.patmos_code.specs.Images.{Parts}
use Rattle.patmos_model.specs.Apart.{site_of, apart_at, followed, own_operations}
use Rattle.patmos_model.specs.Begin.{begun, idle}
use Rattle.patmos_model.specs.Cycle.{turn}
use Rattle.patmos_model.specs.Range.{InRange}
use Rattle.patmos_model.specs.Site.{Site}
use Rattle.patmos_model.specs.State.{Core}
use Rattle.patmos_model.proofs.Idle.{idle_stands}
use Rattle.patmos_model.proofs.CoreRanges.{core_keeps}
use Rattle.core_pace.specs.Spans.{IsSlotted}
use Rattle.core_pace.specs.Stores.{Comes}
use Rattle.sp_tree.specs.Statements.{PlainUnit}
use Rattle.sp_tree.specs.Uses.{Use, sends_to, uses_of}
use Rattle.tc_link.specs.Placed.{linked}
use Rattle.code_core.specs.Words.{AreGiven}
use Rattle.code_words.specs.May.{MayMake}
use Rattle.task_core.specs.Tasks.{code_of, IsRunnable, IsCode}
use Rattle.task_words.specs.Meant.{Names}
use Rattle.task_words.specs.Reach.{MayLoadWord, MayStoreWord, MaySendTo}
use Rattle.task_words.proofs.Names.{names}
use Rattle.task_machine.specs.Machines.{HasTask, KnownTask, none, unknown, compiled, BeginsCompiled, BeginsAs, MayChange, IsAlone}
use Rattle.task_machine.specs.Reported.{read_by, task_operations}
use Rattle.task_machine.proofs.Cores.{is_apart, with_image, values_fit}
use Rattle.core_pace.proofs.Packets.{comes_bound, Coming, made_so, OwnSees, own_sees}
use Rattle.shared_order.proofs.RangesApart.{Kept, apart_keeps}
use Rattle.shared_order.specs.SomeWords.{LoadsOnly, StoresOnly, Outside, SeesOn}
use Rattle.shared_order.proofs.SomeWords.{on_all, all_on, part_sees, by_cores}
use Rattle.patmos_model.proofs.Parts.{followed-run}

pub slotted : (place : Place) (image : Parts) → IsSlotted (site_of place image)
slotted place image = record {
  lasts = omega (arith, place.in_range.slot_least);
  entry = owner_has_entry place.cores place.core place.table place.owned place.in_range.among;
}

-- ---- one task apart

module _ (u : PlainUnit) (place : Place) (h : IsRunnable u place) (code : IsCode u) (input values : List ℕ)
    (given : AreGiven input values) (words : ℕ)
    (fits : InRange words (begun (site_of place (linked (code_of u))) input)) where
  abbrev Named : Use → Type 0
  Named = Contains (uses_of u)

  abbrev image : Parts
  image = linked (code_of u)

  abbrev x : Core
  x = begun (site_of place (linked (code_of u))) input

  names_at : (t : ℕ) → Names u place input values t
  names_at t = names u place h code (slotted place image) place.in_range.among input values given t

  in_range : (t : ℕ) → InRange words (followed place.cores place.core x values t).run.core
  in_range t =
      let a : Alone Core = apart turn place.cores place.core x values t in
      let kept : Kept (InRange words) a.core a.left =
      apart_keeps turn place.cores place.core words (InRange words) x values t (core_keeps words) fits given.1 in
      subst (λ (z : Alone Core). InRange words z.core) (sym (followed-run place.cores place.core x values t)) kept.good

  -- its packets come to the communication memories of cores that the tree sends to
  pub packets_come : (W : ℕ → Type 0) → ((d : ℕ) → Named (sends_to d) → (k : ℕ) → k < 512 → W (comm_word d k)) → (t : ℕ)
      → Coming place.cores place.core x values W t
  packets_come W there t =
      let c : Core = (followed place.cores place.core x values t).run.core in
      let asked : Each (λ (p : Packet). Named (sends_to p.target)) c.plain.interface.under_way =
      subst (λ (z : Alone Core). Each (λ (p : Packet). Named (sends_to p.target)) z.core.plain.interface.under_way)
      (sym (followed-run place.cores place.core x values t)) (names_at t).packets in
      each_zip (ni.IsBound c.plain.interface.cores) (λ (p : Packet). Named (sends_to p.target)) (Comes W)
      (λ p bound is. comes_bound W c.plain.interface.cores p bound (there p.target is))
      c.plain.interface.under_way (in_range t).plain.interface.packets asked

  pub loads_named : (t : ℕ) → Each (LoadsOnly (MayLoadWord Named place.core)) (own_operations place image
      input values t)
  loads_named t =
      each_map (MayMake (MayLoadWord Named place.core) (MayStoreWord Named place.core) (MaySendTo Named))
      (LoadsOnly (MayLoadWord Named place.core)) (λ o m. m.0) (own_operations place image input values t)
      (names_at t).operations

  -- all that it stores, by itself or by packets
  pub stores_named : (t : ℕ) → Each (StoresOnly (MayChange (compiled u) place.core)) (apart_at place image
      input values t).made
  stores_named t =
      subst (λ (z : Alone Core). Each (StoresOnly (MayChange (compiled u) place.core)) z.made)
      (followed-run place.cores place.core x values t)
      (made_so place.cores place.core x values (MayChange (compiled u) place.core) t
      (λ v below. packets_come (MayChange (compiled u) place.core) (λ d is k few. inr (d, (is, (k, (few, refl))))) v)
      (each_map (MayMake (MayLoadWord Named place.core) (MayStoreWord Named place.core) (MaySendTo Named))
      (StoresOnly (MayChange (compiled u) place.core)) (λ o m is. inl (m.1 is))
      (own_operations place image input values t) (names_at t).operations))

-- ---- the machine

module _ (words : ℕ) (cores : ℕ → Core) (limit : ℕ) (fits : (core : ℕ) → InRange words (cores core)) where
  begun_fits : (place : Place) (image : Parts) (input : List ℕ) → cores place.core ≡ begun (site_of place image) input
      → InRange words (begun (site_of place image) input)
  begun_fits place image input begins = subst (InRange words) begins (fits place.core)

  pub given_there : (place : Place) (input : List ℕ) → Each (λ v. v < 2 ^ 32) input → 2 * limit * place.cores ≤ 2 ^ 64
      → AreGiven input (read_by place.cores place.core (cycled turn place.cores cores limit))
  given_there place input given room = (given, values_fit place cores limit place.in_range.among words fits room)

  -- all that the core of a compiled task stores
  seated_stores : (v : PlainUnit) (place : Place) (input : List ℕ) → IsRunnable v place → IsCode v
      → Each (λ w. w < 2 ^ 32) input → 2 * limit * place.cores ≤ 2 ^ 64
      → cores place.core ≡ begun (site_of place (linked (code_of v))) input
      → Each (StoresOnly (MayChange (compiled v) place.core)) (operations_of place.cores place.core
      (cycled turn place.cores cores limit).made)
  seated_stores v place input h code given room begins =
      subst (λ (z : Alone Core). Each (StoresOnly (MayChange (compiled v) place.core)) z.made)
      (with_image place cores limit place.in_range.among (linked (code_of v)) input begins)
      (stores_named v place h code input (read_by place.cores place.core (cycled turn place.cores cores limit))
      (given_there place input given room) words (begun_fits place (linked (code_of v)) input begins) limit)

  other_stores : (n core : ℕ) (v : PlainUnit) → 2 * limit * n ≤ 2 ^ 64 → BeginsCompiled n core (cores core) v
      → Each (StoresOnly (MayChange (compiled v) core)) (operations_of n core (cycled turn n cores limit).made)
  other_stores n core v room b =
      subst (λ k. Each (StoresOnly (MayChange (compiled v) k)) (operations_of n k (cycled turn n cores limit).made))
      b.core_is
      (subst (λ k. Each (StoresOnly (MayChange (compiled v) b.place.core)) (operations_of k b.place.core
      (cycled turn k cores limit).made)) b.cores
      (seated_stores v b.place b.input b.runs b.code b.given (subst (λ k. 2 * limit * k ≤ 2 ^ 64) (sym b.cores) room)
      (ap cores b.core_is ∙ b.begins)))

  resting_makes : (n core : ℕ) (site : Site) → core < n → cores core ≡ idle site
      → operations_of n core (cycled turn n cores limit).made ≡ []
  resting_makes n core site among is =
      let values : List ℕ = read_by n core (cycled turn n cores limit) in
      sym (ap (λ (a : Alone Core). a.made) (is_apart n cores limit core among))
      ∙ ap (λ y. (apart turn n core y values limit).made) is
      ∙ ap (λ (a : Alone Core). a.made) (stands_by_cycles turn n core (idle site) [] limit (idle site) among
      (idle_stands n core site limit among) values)

  -- no other core stores in a word that the tree reads
  others_leave : (u : PlainUnit) (n core : ℕ) (tasks : ℕ → KnownTask) → 2 * limit * n ≤ 2 ^ 64 → IsAlone u n core tasks
      → (other : ℕ) → other < n → other ≢ core → BeginsAs n other (cores other) (tasks other)
      → Each (StoresOnly (Outside (MayLoadWord (Contains (uses_of u)) core))) (operations_of n other
      (cycled turn n cores limit).made)
  others_leave u n core tasks room alone other below away begins =
      by (tasks other) (λ word read. alone other below away word read) begins
    where
      os : List Operation
      os = operations_of n other (cycled turn n cores limit).made

      by : (t : KnownTask) → ((word : ℕ) → MayLoadWord (Contains (uses_of u)) core word → MayChange t other word → ⊥)
          → BeginsAs n other (cores other) t
          → Each (StoresOnly (Outside (MayLoadWord (Contains (uses_of u)) core))) (operations_of n other
          (cycled turn n cores limit).made)
      by none left b = subst (Each (StoresOnly (Outside (MayLoadWord (Contains (uses_of u)) core))))
          (sym (resting_makes n other b.0 below b.1)) tt
      by unknown left b = each_all (StoresOnly (Outside (MayLoadWord (Contains (uses_of u)) core)))
          (λ o is read. left o.act.word read tt) os
      by (compiled v) left b =
          each_map (StoresOnly (MayChange (compiled v) other))
          (StoresOnly (Outside (MayLoadWord (Contains (uses_of u)) core)))
          (λ o changes is read. left o.act.word read (changes is)) os (other_stores n other v room b)

-- so the world of zeros fits the loads of the task
module _ (u : PlainUnit) (place : Place) (input : List ℕ) (words : ℕ) (cores : ℕ → Core) (limit : ℕ)
    (t : HasTask u place input words cores limit) where
  abbrev Read : ℕ → Type 0
  Read = MayLoadWord (Contains (uses_of u)) place.core

  -- where it sends to, it does not read
  unread : (d : ℕ) → Contains (uses_of u) (sends_to d) → (k : ℕ) → k < 512 → Outside Read (comm_word d k)
  unread d named k few (inl (low, reads)) = omega (arith, low)
  unread d named k few (inr (j, (fewer, (same, reads)))) = (t.runs.targets d named).1 (omega (arith, few, fewer, same))

  pub zeros_fit : (tasks : ℕ → KnownTask) → ((other : ℕ) → other < place.cores → BeginsAs place.cores other (cores other)
      (tasks other)) → IsAlone u place.cores place.core tasks
      → Sees zeros (task_operations u place input (cycled turn place.cores cores limit) limit)
  zeros_fit tasks begin alone =
      let m : State Core = cycled turn place.cores cores limit in
      let values : List ℕ = read_by place.cores place.core m in
      let c : Core = begun (site_of place (linked (code_of u))) input in
      let own : List Operation = task_operations u place input m limit in
      let given : AreGiven input values = given_there words cores limit t.fits place input t.given t.room in
      let there : InRange words c = begun_fits words cores limit t.fits place (linked (code_of u)) input t.begins in
      let all_sees : SeesOn Read zeros m.made =
      on_all Read zeros m.made (sees_from [] m.made (all_reads turn place.cores cores limit)) in
      let leave = by_cores (StoresOnly (Outside Read)) place.cores place.core m.made
      (omega (arith, place.in_range.among))
      (λ other below away. others_leave words cores limit t.fits u place.cores place.core tasks t.room alone other below
      away (begin other below)) in
      let part : SeesOn Read zeros (operations_of place.cores place.core m.made) =
      part_sees Read place.cores place.core zeros zeros m.made (λ word here. refl) leave all_sees in
      let made : operations_of place.cores place.core m.made
      ≡ (followed place.cores place.core c values limit).run.made =
      sym (ap (λ (a : Alone Core). a.made) (with_image place cores limit place.in_range.among (linked (code_of u)) input
      t.begins)) ∙ sym (ap (λ (a : Alone Core). a.made) (followed-run place.cores place.core c values limit)) in
      let seen : OwnSees place.cores place.core c values Read zeros limit =
      own_sees place.cores place.core c values Read zeros limit
      (λ v below. packets_come u place t.runs t.code input values given words there (Outside Read) unread v)
      (subst (SeesOn Read zeros) made part) in
      all_on Read zeros own (loads_named u place t.runs t.code input values given words there limit) seen.sees

-- Along a walk a task makes only what it may.
use Rattle.std.proofs.Common.{◌≡◌, ℕ, List, [], ◌∷◌, Option, Some, inl, refl, sym, ap, ◌∙◌, subst}
use Rattle.local_store.specs.declared.map.Cell.{Cell}
use Rattle.shared_order.specs.declared.operation.Operation.{Operation}
use Rattle.patmos_instr.specs.Bundles.{PlainBundle}
use Rattle.patmos_instr.specs.declared.memories.Mem.{Mem}
use Rattle.patmos_instr.specs.declared.memories.Mem.TheVariants as mem
use Rattle.patmos_sem.specs.Bundles.{effect_of}
use Rattle.patmos_sem.specs.declared.effects.Effect.{Effect}
use Rattle.patmos_sem.specs.declared.effects.Effect.TheVariants as effect
use Rattle.patmos_model.specs.declared.flow.Goal.{Goal}
use Rattle.patmos_model.specs.declared.flow.Goal.TheVariants as goal
use Rattle.patmos_model.specs.Begin.{begun}
use Rattle.patmos_model.specs.Bundle.{advanced}
use Rattle.patmos_model.specs.Flows as model
use Rattle.patmos_model.specs.Site.{Site}
use Rattle.patmos_model.specs.State.{Core, with_plain}
use Rattle.core_pace.specs.Moment.{Moment, core_in, landed}
use Rattle.core_pace.specs.Next.{bundled, landing, all_moved, next}
use Rattle.core_pace.specs.Run.{after_bundles}
use Rattle.core_pace.specs.Spans.{IsSlotted}
use Rattle.core_pace.proofs.OwnActs.{landed_kept}
use Rattle.sp_shape.specs.Memory.{Memory}
use Rattle.sp_shape.specs.Pointers.{pointers_of}
use Rattle.sp_shape.specs.Run.{Run, Sources, Back, at_begin, late}
use Rattle.sp_shape.specs.Run as run
use Rattle.sp_shape.specs.Trail.{Step, does, begins}
use Rattle.tc_link.specs.Walk.{Walk, Does, Fetches, due, flowed}
use Rattle.code_core.specs.Goes.{by_stack, pending_value, loads_from, Stands}
use Rattle.code_core.specs.Held.{HoldsPorts}
use Rattle.code_core.specs.Sound.{IsSound, AreSound, bundles_in}
use Rattle.code_core.proofs.Beginning.{first, walk}
use Rattle.code_core.proofs.Landing.{landed_pending, StartsAfter}
use Rattle.code_words.specs.Own.{AreOwn, KeepsApart, AllPass, AllApart}
use Rattle.code_words.specs.May.{AllReach, MadeWell, MayReach, MayStart}
use Rattle.code_core.proofs.Settled.{OfBoth, settled_by, all_settles_by}
use Rattle.code_core.proofs.Outcome.{Made}
use Rattle.std.specs.List.{AllByRecursion as Each}
use Rattle.code_words.proofs.Along.{Ever, Doing, doing, Behind, Carries}
use Rattle.code_core.proofs.Beginning.{holds_first}
use Rattle.code_words.proofs.Beginning.{CarriedTo, carried_to}
use Rattle.code_words.proofs.MayMake.{well_of_both, made_well, sent_well}
use Rattle.code_words.proofs.Saying.{OfLoad}

-- ---- flows that take effect

module _ (Loads Stores To : ℕ → Type 0) where
  gone_well : (to : Goal) (c : Core) (ops : List Operation) → MadeWell Loads Stores To c ops
      → MadeWell Loads Stores To (model.gone to c) ops
  gone_well (goal.Within offset) c ops h = h
  gone_well _ c ops h = h

  landed_well : (u : ℕ) (c : Core) (ops : List Operation) → MadeWell Loads Stores To c ops
      → MadeWell Loads Stores To (landed u c) ops
  landed_well u c ops h =
      landed_kept (λ d. MadeWell Loads Stores To d ops)
      (record { stops = λ d fault cycle k. k; goes = λ d goal k placed. gone_well goal d ops k }) u c h

-- nothing is said of what loads give
abbrev Nothing_said : Option Cell → Memory → ℕ → Type 0
Nothing_said place m value = Unit {0}

silent : (e : Effect) (m : Memory) (value : ℕ) → OfLoad Nothing_said e m value
silent effect.Nothing m value = tt
silent (effect.Flow flow) m value = tt
silent (effect.Load space width rd address) m value = by space
  where
    by : (s : Mem) → OfLoad Nothing_said (effect.Load s width rd address) m value
    by mem.S = tt
    by _ = tt
silent (effect.Store space width address v) m value = tt
silent (effect.StackOp func count) m value = tt

module _ (Loads Stores To : ℕ → Type 0) (n core : ℕ) (x : Core) (values : List ℕ) (Cached : ℕ → Type 0)
    (are_own : AreOwn Cached) (board : ℕ) (place_is : x.plain.site.core ≡ board) where
  -- what was made and asked for so far may be
  abbrev pub WellBeside : Run → Moment → Type 0
  WellBeside r m = MadeWell Loads Stores To (core_in m) m.told.own

  abbrev pub PassesWell : Effect → Type 0
  PassesWell e = KeepsApart Cached e × MayReach Loads Stores To board e

  well_after : (w : Walk) (b : PlainBundle) (m : Moment) → Stands n core x values w m
      → (f : Fetches x.plain.site.image b (flowed w))
      → IsSound x.plain.site (effect_of f.bundle (flowed w).run.regs) (pointers_of (flowed w).run) (flowed w).run.memory
      → PassesWell (effect_of f.bundle (flowed w).run.regs)
      → WellBeside (flowed w).run m → Ever (next n core m)
      → Behind n core x values PassesWell Nothing_said WellBeside Ever (effect_of f.bundle (flowed w).run.regs)
      (flowed w).run (late by_stack f.bundle (flowed w).run) m
  well_after w b m st f sound passes h so = record {
    beside = all_settles_by n core P o (landing a)
        (settled_by (landed_well Loads Stores To a.cycle (core_in a) a.told.own there)
        (landed_pending a.cycle (core_in a) (inl k.moved)).rests);
    says = silent (effect_of f.bundle (flowed w).run.regs) (flowed w).run.memory
        (pending_value (core_in (next n core m)).plain.regs.pending);
  }
    where
      k : Doing n core x values w f.bundle f.words m
      k = doing n core x values w b m st f sound

      c : Core
      c = core_in m

      a : Moment
      a = all_moved n core (bundled n core m)

      P : Core → List Operation → Type 0
      P = MadeWell Loads Stores To

      o : OfBoth P
      o = well_of_both Loads Stores To

      d : Core
      d = with_plain (advanced f.words f.bundle) c

      e : Effect
      e = effect_of f.bundle c.plain.regs

      reaches : MayReach Loads Stores To board e
      reaches = subst (MayReach Loads Stores To board) k.asks passes.1

      there : P (core_in a) a.told.own
      there = (
        made_well Loads Stores To board m.told.own h.0 Cached are_own e k.comes.value a.told.own
            (subst (KeepsApart Cached) k.asks passes.0) reaches
            (subst (λ b. Made e b k.comes.value m.told.own a.told.own) (ap (λ (z : Site). z.core) st.site_is
            ∙ place_is) k.comes.made),
        subst (Each (MayStart Loads Stores To)) (sym k.comes.is_like.sendings)
            (sent_well Loads Stores To board d h.1 e reaches),
      )

  pub carries_well : Carries n core x values PassesWell Nothing_said WellBeside Ever
  carries_well = record { flows = λ f g. refl; begins = λ r m h. h; before = λ count m so. tt; behind = well_after }

-- ---- from the beginning

both_pass : (A B : Effect → Type 0) (from : Sources) (steps : List Step) (m : Run) → AllPass A from steps m
    → AllPass B from steps m → AllPass (λ e. A e × B e) from steps m
both_pass A B from [] m a b = tt
both_pass A B from (does s ∷ steps) m a b = ((a.0, b.0), both_pass A B from steps (late from s m) a.1 b.1)
both_pass A B from (begins ∷ steps) m a b = both_pass A B from steps (run.begun m) a b

module _ (Loads Stores To : ℕ → Type 0) (n core : ℕ) (site : Site) (input values : List ℕ) where
  pub well_as : (Cached : ℕ → Type 0) → AreOwn Cached → (steps : List Step) (ds : List (Option Goal)) (memory : Memory)
      (backs : List Back) (e : Walk) (offset : ℕ) → HoldsPorts memory (begun site input).plain.interface
      → IsSlotted site → StartsAfter site.image
      → Does site.image by_stack steps ds (walk n core site input values memory (loads_from n core (bundles_in steps)
      (first n core site input values)) backs) e
      → AreSound site by_stack steps (at_begin memory (loads_from n core (bundles_in steps)
      (first n core site input values)) backs)
      → AllApart Cached by_stack steps (at_begin memory (loads_from n core (bundles_in steps)
      (first n core site input values)) backs)
      → AllReach Loads Stores To site.core by_stack steps (at_begin memory (loads_from n core (bundles_in steps)
      (first n core site input values)) backs)
      → due e.flow ≡ Some (goal.Return 0 offset)
      → MadeWell Loads Stores To (core_in (after_bundles n core (begun site input) values (bundles_in steps)))
      (after_bundles n core (begun site input) values (bundles_in steps)).told.own
  well_as Cached are_own steps ds memory backs e offset ports slots starts h sound apart reach last =
      let x : Core = begun site input in
      let m : Run = at_begin memory (loads_from n core (bundles_in steps) (first n core site input values)) backs in
      let well : MadeWell Loads Stores To (core_in (first n core site input values))
      (first n core site input values).told.own =
      holds_first n core site input values (MadeWell Loads Stores To) (well_of_both Loads Stores To) (tt, tt) in
      let c : CarriedTo n core site input values (PassesWell Loads Stores To n core x values Cached are_own site.core
      refl) Nothing_said (WellBeside Loads Stores To n core x values Cached are_own site.core refl) Ever steps m e =
      carried_to n core site input values (PassesWell Loads Stores To n core x values Cached are_own site.core refl)
      Nothing_said (WellBeside Loads Stores To n core x values Cached are_own site.core refl) Ever
      (carries_well Loads Stores To n core x values Cached are_own site.core refl) steps ds memory backs e offset ports
      slots starts h sound
      (both_pass (KeepsApart Cached) (MayReach Loads Stores To site.core) by_stack steps m apart reach) last well tt in
      c.beside

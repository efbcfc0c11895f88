-- A bundle of a core against the same bundle of a walk.
use Rattle.std.proofs.Common.{◌≡◌, ℕ, ◌+◌, ◌/◌, ◌==◌, arith, true, false, List, [], ◌∷◌, ◌++◌, None, Some, inl, refl, sym, ap, ◌∙◌, subst, true≢false}
use Rattle.std.proofs.lemmas.Bool.{eqb-true, and_parts}
use Rattle.slot_arbiter.specs.Stamp.{stamp}
use Rattle.shared_order.specs.declared.operation.Operation.{Operation}
use Rattle.shared_order.specs.Program.{Prog}
use Rattle.patmos_instr.specs.Bundles.{PlainBundle}
use Rattle.patmos_instr.specs.declared.functions.StackFunc.TheVariants.{Sres, Sens, Sfree}
use Rattle.patmos_instr.specs.declared.memories.Mem.TheVariants as mem
use Rattle.patmos_instr.specs.declared.memories.Width.{Width}
use Rattle.patmos_instr.specs.declared.memories.Width.TheVariants as load
use Rattle.patmos_sem.specs.Bundles.{after_bundle, effect_of, arrived}
use Rattle.patmos_sem.specs.Narrow.{picked}
use Rattle.patmos_sem.specs.Registers.{Registers}
use Rattle.patmos_sem.specs.declared.effects.Effect.{Effect}
use Rattle.patmos_sem.specs.declared.effects.Effect.TheVariants as effect
use Rattle.patmos_model.specs.declared.fetched.Fetched.TheVariants.{Found}
use Rattle.patmos_model.specs.declared.flow.Goal.TheVariants as goal
use Rattle.patmos_model.specs.declared.state.Status.TheVariants.{Running, Trapped}
use Rattle.patmos_model.specs.Bundle.{fetched_at, advanced, answered, bundle, done_as}
use Rattle.patmos_model.specs.Cells.{Acted, now}
use Rattle.patmos_model.specs.Checks.{fault_of}
use Rattle.patmos_model.specs.Cycle.{with_interface}
use Rattle.patmos_model.specs.Transaction.{counted}
use Rattle.patmos_model.specs.Site.{Site}
use Rattle.patmos_model.specs.State.{Plain, Core, with_plain, stopped, has_ended}
use Rattle.core_pace.specs.Moment.{Moment, core_in, fetched_in, landed}
use Rattle.core_pace.specs.Next.{IsAboutTo, ComesTo, about_to, ended, trapped, is_due_flow, bundled, landing, all_moved, next}
use Rattle.core_pace.specs.Pace.{Event, event_of, bundle_event, landing_event, events_in}
use Rattle.core_pace.specs.Spans.{IsSlotted}
use Rattle.core_pace.proofs.OwnActs.{running_status}
use Rattle.core_pace.specs.Run.{done_with}
use Rattle.core_pace.proofs.Listed.{next_bundles}
use Rattle.core_pace.proofs.Onward.{GoesOnward, goes_onward, IsAfter, is_after}
use Rattle.sp_shape.specs.Pointers.{pointers_of}
use Rattle.sp_shape.specs.Run as run
use Rattle.sp_shape.specs.Run.{Run, first_load, other_loads, effected, late}
use Rattle.tc_link.proofs.Cores.{flow_alike, no_fault}
use Rattle.tc_link.specs.Walk.{Walk, due, flowed, bundle_done, Fetches, IsPlaced, IsAs}
use Rattle.code_core.specs.Goes.{by_stack, Goes, pending_value, asked_in, given_by, given, Stands, Ended, goal_events}
use Rattle.code_core.specs.Followed.{IsDoneAs, done_at}
use Rattle.code_core.specs.Held.{HoldsStack, HoldsPorts}
use Rattle.code_core.proofs.Ports.{holds_still}
use Rattle.code_core.specs.Sound.{IsSound}
use Rattle.code_core.proofs.Effects.{run_stack, stack_held, held_like, ports_held}
use Rattle.code_core.proofs.Outcome.{regs_with, port_with, did, Given, Outcome, outcome_of_both, outcome}
use Rattle.code_core.proofs.Faults.{sound_passes}
use Rattle.code_core.proofs.Landing.{KeepsPending, landed_pending, waits_on, StartsAfter, Meets, LiesBy, lands_as, ends_there}
use Rattle.code_core.proofs.Settled.{LeavesBy, Done, SettlesBy, acting_by, all_settles_by, OfTask, rests_settles}

-- ---- what a run has after a bundle

-- a load gives what it gave
abbrev IsTaken : Effect → Run → ℕ → Type 0
IsTaken (effect.Load mem.S width rd address) m value = value ≡ m.stack (m.st + address / 4)
IsTaken (effect.Load space width rd address) m value = first_load m.loads ≡ value
IsTaken _ m value = Unit {0}

effected_regs : (e : Effect) (m : Run) (value : ℕ) → IsTaken e m value → (effected by_stack e m).regs
    ≡ regs_with e value m.regs
effected_regs effect.Nothing m value t = refl
effected_regs (effect.Flow kind) m value t = refl
effected_regs (effect.Load mem.S width rd address) m value t =
    ap (λ v. arrived rd (picked width address v) m.regs) (sym t)
effected_regs (effect.Load _ width rd address) m value t = ap (λ v. arrived rd (picked width address v) m.regs) t
effected_regs (effect.Store mem.S width address value') m value t = refl
effected_regs (effect.Store mem.L width address value') m value t = refl
effected_regs (effect.Store mem.C width address value') m value t = refl
effected_regs (effect.Store mem.M width address value') m value t = refl
effected_regs (effect.StackOp Sres count) m value t = refl
effected_regs (effect.StackOp Sens count) m value t = refl
effected_regs (effect.StackOp Sfree count) m value t = refl

-- a run with the same stack
pub same_stack : (m t : Run) (x : Plain) → t.st ≡ m.st → t.ss ≡ m.ss → t.stack ≡ m.stack
    → HoldsStack m x.stack x.private → HoldsStack t x.stack x.private
same_stack m t x st ss stack h = record {
  is_stack = h.is_stack;
  st = st ∙ h.st;
  ss = ss ∙ h.ss;
  held = λ i below. h.held i below ∙ (λ k. sym stack k (sym st k + i));
  spilled = λ a past below. h.spilled a past below ∙ ap (λ f. f a) (sym stack);
}

effected_stack : (e : Effect) (m : Run) (x : Plain) → HoldsStack (run_stack e m) x.stack x.private
    → HoldsStack (effected by_stack e m) x.stack x.private
effected_stack effect.Nothing m x h = h
effected_stack (effect.Load mem.S width rd address) m x h =
    same_stack m (effected by_stack (effect.Load mem.S width rd address) m) x refl refl refl h
effected_stack (effect.Load mem.L width rd address) m x h =
    same_stack m (effected by_stack (effect.Load mem.L width rd address) m) x refl refl refl h
effected_stack (effect.Load mem.C width rd address) m x h =
    same_stack m (effected by_stack (effect.Load mem.C width rd address) m) x refl refl refl h
effected_stack (effect.Load mem.M width rd address) m x h =
    same_stack m (effected by_stack (effect.Load mem.M width rd address) m) x refl refl refl h
effected_stack (effect.Store mem.S width address value) m x h =
    same_stack (run.stored mem.S width address value m) (effected by_stack (effect.Store mem.S width address value) m) x
    refl refl refl h
effected_stack (effect.StackOp Sres count) m x h =
    same_stack (run.stacked Sres count m) (effected by_stack (effect.StackOp Sres count) m) x refl refl refl h
effected_stack (effect.StackOp Sens count) m x h =
    same_stack (run.stacked Sens count m) (effected by_stack (effect.StackOp Sens count) m) x refl refl refl h
effected_stack (effect.StackOp Sfree count) m x h =
    same_stack (run.stacked Sfree count m) (effected by_stack (effect.StackOp Sfree count) m) x refl refl refl h
effected_stack other m x h = same_stack m (effected by_stack other m) x refl refl refl h

-- the loads that are left
effected_loads : (e : Effect) (m : Run) (regs : Registers) (rest : List ℕ) → m.loads ≡ given_by e regs ++ rest
    → (effected by_stack e m).loads ≡ rest
effected_loads effect.Nothing m regs rest is = is
effected_loads (effect.Flow kind) m regs rest is = is
effected_loads (effect.Load mem.S width rd address) m regs rest is = ap other_loads is
effected_loads (effect.Load _ width rd address) m regs rest is = ap other_loads is
effected_loads (effect.Store mem.S width address value) m regs rest is = is
effected_loads (effect.Store mem.L width address value) m regs rest is = is
effected_loads (effect.Store mem.C width address value) m regs rest is = is
effected_loads (effect.Store mem.M width address value) m regs rest is = is
effected_loads (effect.StackOp Sres count) m regs rest is = is
effected_loads (effect.StackOp Sens count) m regs rest is = is
effected_loads (effect.StackOp Sfree count) m regs rest is = is

-- a load gives the value that is then pending
word_taken : (width : Width) (rd address value : ℕ) (loads rest : List ℕ) (regs regs' old : Registers) → width
    ≡ load.Word → loads ≡ pending_value regs'.pending ∷ rest → regs'.pending ≡ regs.pending → regs
    ≡ arrived rd (picked width address value) old
    → first_load loads ≡ value
word_taken width rd address value loads rest regs regs' old is list same came =
    ap first_load list ∙ ap pending_value same ∙ ap (λ (r : Registers). pending_value r.pending) came
    ∙ ap (λ w. picked w address value) is

taken_so : (site : Site) (e : Effect) (m : Run) (d : Plain) (value : ℕ) (came regs : Registers) (rest : List ℕ)
    → IsSound site e (pointers_of m) m.memory → HoldsStack m d.stack d.private → Given e d value
    → came ≡ regs_with e value d.regs → regs.pending ≡ came.pending → m.loads ≡ given_by e regs ++ rest
    → IsTaken e m value
taken_so site (effect.Load mem.S width rd address) m d value came regs rest s h given is same list =
    given ∙ h.held (address / 4) (omega (arith, s.1, h.st, h.ss, h.is_stack))
taken_so site (effect.Load _ width rd address) m d value came regs rest s h given is same list =
    word_taken width rd address value m.loads rest came regs d.regs s.0 list same is
taken_so site (effect.Store mem.S width address stored) m d value came regs rest s h given is same list = tt
taken_so site (effect.Store _ width address stored) m d value came regs rest s h given is same list = tt
taken_so site _ m d value came regs rest s h given is same list = tt

-- ---- the bundle

pub bundle_is : (c : Core) (u : ℕ) (b : PlainBundle) (words : ℕ) → fetched_in c.plain ≡ Found b words
    → fault_of c.plain (effect_of b c.plain.regs) ≡ None
    → bundle u c ≡ answered (effect_of b c.plain.regs) u (with_plain (advanced words b) c)
bundle_is c u b words found none =
    ap (λ f. done_as f u c) found
    ∙ ap (λ t. elim t as (λ _. Prog Acted) [
      | None ↦ answered (effect_of b c.plain.regs) u
          (with_plain (advanced words b) c)
      | Some fault ↦ now (with_plain (stopped fault u) c)
    ]) none

bundle_event_is : (x : Plain) (b : PlainBundle) (words : ℕ) → fetched_in x ≡ Found b words
    → fault_of x (effect_of b x.regs)
    ≡ None → bundle_event (fetched_in x) x ≡ event_of (effect_of b x.regs) ∷ []
bundle_event_is x b words found none =
    ap (λ f. bundle_event f x) found ∙ ap (λ t. elim t as (λ _. List Event) [
      | None ↦ event_of (effect_of b x.regs)
          ∷ []
      | Some fault ↦ []
    ]) none

module _ (n core : ℕ) where
  -- what comes of a bundle whose checks pass, its words being moved
  pub comes_by : (m : Moment) (r : Run) (b : PlainBundle) (words : ℕ) → IsAboutTo m → fetched_in (core_in m).plain
      ≡ Found b words
      → IsSound (core_in m).plain.site (effect_of b (core_in m).plain.regs) (pointers_of r) r.memory
      → fault_of (core_in m).plain (effect_of b (core_in m).plain.regs) ≡ None
      → Outcome (effect_of b (core_in m).plain.regs) (with_plain (advanced words b) (core_in m)) m.told.own
      (core_in (all_moved n core (bundled n core m))) (all_moved n core (bundled n core m)).told.own
  comes_by m r b words about found sound none =
      let c : Core = core_in m in
      let d : Core = with_plain (advanced words b) c in
      let e : Effect = effect_of b c.plain.regs in
      let P : Core → List Operation → Type 0 = Outcome e d m.told.own in
      let idle : c.plain.transfer.words ≡ 0 = eqb-true c.plain.transfer.words 0 (and_parts (c.plain.transfer.words == 0)
      (c.plain.free == m.cycle) about.free).0 in
      all_settles_by n core P (outcome_of_both e d m.told.own) (bundled n core m)
      (acting_by n core (SettlesBy P) (bundle m.cycle c) m
      (subst (λ p. LeavesBy (Done (SettlesBy P)) (stamp n core m.cycle 1) p m.told.own)
      (sym (bundle_is c m.cycle b words found none))
      (outcome c.plain.site m.cycle (stamp n core m.cycle 1) (pointers_of r) r.memory d m.told.own idle e sound)))

  -- what is pending after a bundle's transfer is so at the next moment
  pub next_pending : (m : Moment) → (core_in (all_moved n core (bundled n core m))).plain.transfer.words ≡ 0
      → (core_in (next n core m)).plain.regs.pending
      ≡ (core_in (all_moved n core (bundled n core m))).plain.regs.pending
  next_pending m none =
      let a : Moment = all_moved n core (bundled n core m) in
      let p = (core_in a).plain.regs.pending in
      let P : Core → Type 0 = λ (c : Core). c.plain.regs.pending ≡ p in
      let k : KeepsPending p (landed a.cycle (core_in a)) = landed_pending a.cycle (core_in a) (inl none) in
      rests_settles n core P (record {
        same = λ c d is h. ap (λ (z : Core). z.plain.regs.pending) is.task ∙ h;
        counts = λ u c h. h;
      }) (landing a) k.pending k.rests

  -- ---- after the bundle

  -- after its transfer the core is where the walk is after the bundle, before a flow takes effect
  pub record Behind (site : Site) (w : Walk) (rest : List ℕ) (events : List Event) (m : Moment) : Type 0 where
    pub meets : Meets site (all_moved n core (bundled n core m)).cycle w (core_in (all_moved n core (bundled n core m)))
    pub loads : w.run.loads ≡ rest
    pub events_are : bundle_event (fetched_in (core_in m).plain) (core_in m).plain ≡ events

  module _ (x : Core) (values : List ℕ) where
    pub behind : (w : Walk) (b : PlainBundle) (rest : List ℕ) (m : Moment) → Stands n core x values w m
        → (f : Fetches x.plain.site.image b (flowed w))
        → IsSound x.plain.site (effect_of f.bundle (flowed w).run.regs) (pointers_of (flowed w).run)
        (flowed w).run.memory → (flowed w).run.loads ≡ given n core m ++ rest
        → Behind x.plain.site (bundle_done by_stack f.bundle f.words (flowed w)) rest (event_of (effect_of f.bundle
        (flowed w).run.regs) ∷ []) m
    behind w b rest m st f sound list = record {
      meets = record {
        goes = record {
          is_as = record {
            regs = ap (λ (z : Run). z.regs) late_is ∙ effected_regs e r' comes.value taken ∙ sym comes.is_like.regs;
            base = is_as.base ∙ sym comes.is_like.base;
            offset = ap (λ k. k + f.words) is_as.offset ∙ sym comes.is_like.offset;
            flow = flow_alike by_stack f.bundle f.words v c.plain is_as ∙ sym comes.is_like.flow;
          };
          stack = subst (λ z. HoldsStack z c'.plain.stack c'.plain.private) (sym late_is) (effected_stack e r' c'.plain
              (held_like (run_stack e r') (did e comes.value d) c' comes.is_like
              (stack_held c.plain.site e r' d.plain sound_there h')));
          ports = subst (λ (z : Run). HoldsPorts z.memory c'.plain.interface) (sym late_is)
              (holds_still (effected by_stack e r').memory (port_with e d).plain.interface c'.plain.interface
              comes.is_like.ports (ports_held c.plain.site e r' d sound_there st.goes.ports));
        };
        site_is = comes.is_like.site ∙ st.site_is;
        status = comes.is_like.status ∙ running_status c.plain st.at.about.running;
        words = after.words;
        free = after.free;
      };
      loads = ap (λ (z : Run). z.loads) late_is ∙ effected_loads e r' next_regs rest list_there;
      events_are = bundle_event_is c.plain f.bundle f.words found none ∙ ap (λ k. event_of k ∷ []) (sym asks);
    }
      where
        v : Walk
        v = flowed w

        c : Core
        c = core_in m

        is_as : IsAs v c.plain
        is_as = st.goes.is_as

        h : HoldsStack v.run c.plain.stack c.plain.private
        h = st.goes.stack

        e : Effect
        e = effect_of f.bundle c.plain.regs

        asks : effect_of f.bundle v.run.regs ≡ e
        asks = ap (effect_of f.bundle) is_as.regs

        d : Core
        d = with_plain (advanced f.words f.bundle) c

        c' : Core
        c' = core_in (all_moved n core (bundled n core m))

        next_regs : Registers
        next_regs = (core_in (next n core m)).plain.regs

        found : fetched_in c.plain ≡ Found f.bundle f.words
        found = (λ i. fetched_at (st.site_is i).image (sym is_as.base i) (sym is_as.offset i)) ∙ f.found

        sound_there : IsSound c.plain.site e (pointers_of v.run) v.run.memory
        sound_there = subst (λ s. IsSound s e (pointers_of v.run) v.run.memory) (sym st.site_is)
            (subst (λ k. IsSound x.plain.site k (pointers_of v.run) v.run.memory) asks sound)

        none : fault_of c.plain e ≡ None
        none = sound_passes e v.run c.plain h st.goes.ports sound_there (λ kind is. no_fault f.bundle kind v c.plain
            is_as f.alone is)

        after_regs : Registers
        after_regs = after_bundle c.plain.stack.st c.plain.stack.ss f.bundle c.plain.regs

        r' : Run
        r' = record v.run { regs = after_regs }

        h' : HoldsStack r' c.plain.stack c.plain.private
        h' = same_stack v.run r' c.plain refl refl refl h

        comes : Outcome e d m.told.own c' (all_moved n core (bundled n core m)).told.own
        comes = comes_by m r' f.bundle f.words st.at.about found sound_there none

        after : IsAfter n core m
        after = is_after n core x values m st.at

        list_there : v.run.loads ≡ given_by e next_regs ++ rest
        list_there = list ∙ ap (λ g. given_by (asked_in g c.plain.regs) next_regs ++ rest) found

        taken : IsTaken e r' comes.value
        taken = taken_so c.plain.site e r' d.plain comes.value c'.plain.regs next_regs rest sound_there h' comes.given
            comes.is_like.regs (next_pending m after.words) list_there

        late_is : late by_stack f.bundle v.run ≡ effected by_stack e r'
        late_is = λ i. effected by_stack (effect_of f.bundle (is_as.regs i))
            (record v.run { regs = after_bundle (h.st i) (h.ss i) f.bundle (is_as.regs i) })

    -- ---- to the next moment

    -- the bundle was done, where the core was
    pub listed : (w : Walk) (b : PlainBundle) (rest : List ℕ) (m : Moment) → Stands n core x values w m
        → (f : Fetches x.plain.site.image b (flowed w))
        → IsSound x.plain.site (effect_of f.bundle (flowed w).run.regs) (pointers_of (flowed w).run)
        (flowed w).run.memory → (flowed w).run.loads ≡ given n core m ++ rest
        → (next n core m).bundles ≡ m.bundles ++ done_at m ∷ []
    listed w b rest m st f sound list =
        next_bundles n core m st.at.about ∙ ap (λ es. m.bundles ++ done_with es m) (behind w b rest m st f sound
        list).events_are

    pub done_as_told : (w : Walk) (b : PlainBundle) (m : Moment) → Stands n core x values w m
        → Fetches x.plain.site.image b (flowed w) → IsDoneAs x.plain.site.image b (done_at m)
    done_as_told w b m st f = record {
      bundle = f.bundle;
      words = f.words;
      found = (λ i. fetched_at x.plain.site.image (sym st.goes.is_as.base i) (sym st.goes.is_as.offset i)) ∙ f.found;
      same = f.same;
    }

    -- the task goes on, and the core is at the next bundle
    pub record Steps (w : Walk) (rest : List ℕ) (events : List Event) (m : Moment) : Type 0 where
      pub stands : Stands n core x values w (next n core m)
      pub loads : w.run.loads ≡ rest
      pub events_are : events_in n core m ≡ events

    pub lies_of_task : (w : Walk) → OfTask (λ (c : Core). Goes w c.plain × ((c.plain.site ≡ x.plain.site)
        × (c.plain.status ≡ Running)))
    lies_of_task w = record {
      same = λ c d is h. subst (λ (z : Core). Goes w z.plain × ((z.plain.site ≡ x.plain.site)
          × (z.plain.status ≡ Running))) (sym is.task) (
            goes_again (with_interface c d.plain.interface) c refl refl refl refl refl refl
                (holds_still w.run.memory c.plain.interface d.plain.interface is.ports h.0.ports) h.0,
            h.1,
          );
      counts = λ u c h. (goes_again (counted u c) c refl refl refl refl refl refl h.0.ports h.0, h.1);
    }
      where
        goes_again : (d c : Core) → c.plain.regs ≡ d.plain.regs → c.plain.base ≡ d.plain.base → c.plain.offset
            ≡ d.plain.offset → c.plain.flow ≡ d.plain.flow → c.plain.stack ≡ d.plain.stack → c.plain.private
            ≡ d.plain.private
            → HoldsPorts w.run.memory d.plain.interface → Goes w c.plain → Goes w d.plain
        goes_again d c regs base offset flow stack private ports g = record {
          is_as = record {
            regs = g.is_as.regs ∙ regs;
            base = g.is_as.base ∙ base;
            offset = g.is_as.offset ∙ offset;
            flow = g.is_as.flow ∙ flow;
          };
          stack = subst (λ s. HoldsStack w.run s d.plain.private) stack (subst (λ p. HoldsStack w.run c.plain.stack p)
              private g.stack);
          ports = ports;
        }

    pub steps : (w : Walk) (b : PlainBundle) (rest : List ℕ) (m : Moment) → Stands n core x values w m
        → (f : Fetches x.plain.site.image b (flowed w))
        → IsSound x.plain.site (effect_of f.bundle (flowed w).run.regs) (pointers_of (flowed w).run)
        (flowed w).run.memory → (flowed w).run.loads ≡ given n core m ++ rest
        → StartsAfter x.plain.site.image → IsPlaced x.plain.site.image (bundle_done by_stack f.bundle
        f.words (flowed w))
        → Steps (bundle_done by_stack f.bundle f.words (flowed w)) rest
        (event_of (effect_of f.bundle (flowed w).run.regs) ∷ goal_events x.plain.site.image (due
        (bundle_done by_stack f.bundle f.words (flowed w)).flow)) m
    steps w b rest m st f sound list starts placed = record {
      stands = record {
        at = record { slots = subst IsSlotted (sym on.site_is) st.at.slots; about = about; passes = on.passes };
        site_is = there.1.0;
        goes = there.0;
      };
      loads = one.loads;
      events_are = (λ i. one.events_are i ++ lies.events i);
    }
      where
        w' : Walk
        w' = bundle_done by_stack f.bundle f.words (flowed w)

        a : Moment
        a = all_moved n core (bundled n core m)

        one : Behind x.plain.site w' rest (event_of (effect_of f.bundle (flowed w).run.regs) ∷ []) m
        one = behind w b rest m st f sound list

        lies : LiesBy x.plain.site a.cycle (due w'.flow) (flowed w') (core_in a)
        lies = lands_as x.plain.site a.cycle w' (core_in a) one.meets starts placed

        on : GoesOnward n core x values m
        on = goes_onward n core x values m st.at

        there : Goes (flowed w') (core_in (next n core m)).plain
            × (((core_in (next n core m)).plain.site ≡ x.plain.site)
            × ((core_in (next n core m)).plain.status ≡ Running))
        there = rests_settles n core (λ (c : Core). Goes (flowed w') c.plain × ((c.plain.site ≡ x.plain.site)
            × (c.plain.status ≡ Running))) (lies_of_task (flowed w')) (landing a)
            (lies.lies.goes, (lies.lies.site_is, lies.lies.status)) lies.lies.rests

        not_ended : has_ended (core_in (next n core m)).plain ≡ false
        not_ended = waits_on (core_in (next n core m)).plain (ap is_due_flow (sym there.0.is_as.flow) ∙ lies.settled)

        by : ComesTo (next n core m) → IsAboutTo (next n core m)
        by (about_to h) = h
        by (ended status h free) = absurd (true≢false (sym h ∙ not_ended))
        by (trapped fault h) =
            absurd (let bad : Trapped fault (next n core m).cycle ≡ Running = sym h ∙ there.1.1 in cc)

        about : IsAboutTo (next n core m)
        about = by on.comes

    -- ---- the end

    pub record Finishes (w : Walk) (events : List Event) (m : Moment) : Type 0 where
      pub ended : Ended n core w (next n core m)
      pub events_are : events_in n core m ≡ events

    pub finishes : (w : Walk) (b : PlainBundle) (rest : List ℕ) (m : Moment) → Stands n core x values w m
        → (f : Fetches x.plain.site.image b (flowed w))
        → IsSound x.plain.site (effect_of f.bundle (flowed w).run.regs) (pointers_of (flowed w).run)
        (flowed w).run.memory → (flowed w).run.loads ≡ given n core m ++ rest
        → (offset : ℕ) → (bundle_done by_stack f.bundle f.words (flowed w)).flow
        ≡ Some (record { goal = goal.Return 0 offset; slots = 0 })
        → Finishes (bundle_done by_stack f.bundle f.words (flowed w)) (event_of (effect_of f.bundle (flowed w).run.regs)
        ∷ []) m
    finishes w b rest m st f sound list offset flow = record {
      ended = record {
        status = there.1.1;
        ended = there_ended;
        goes = there.0;
      };
      events_are = (λ i. one.events_are i ++ ends.1.1 i);
    }
      where
        w' : Walk
        w' = bundle_done by_stack f.bundle f.words (flowed w)

        a : Moment
        a = all_moved n core (bundled n core m)

        one : Behind x.plain.site w' rest (event_of (effect_of f.bundle (flowed w).run.regs) ∷ []) m
        one = behind w b rest m st f sound list

        ends : (has_ended (core_in a).plain ≡ true) × ((landed a.cycle (core_in a) ≡ core_in a)
            × (landing_event a.cycle (core_in a).plain ≡ []))
        ends = ends_there x.plain.site a.cycle w' (core_in a) offset one.meets flow

        P : Core → Type 0
        P c = Goes w' c.plain × ((c.plain.site ≡ x.plain.site) × (c.plain.status ≡ Running))

        here : P (core_in (landing a))
        here = subst P (sym ends.1.0) (one.meets.goes, (one.meets.site_is, one.meets.status))

        there : P (core_in (next n core m))
        there = rests_settles n core P (lies_of_task w') (landing a) here
            (inl (ap (λ (c : Core). c.plain.transfer.words) ends.1.0 ∙ one.meets.words))

        on : GoesOnward n core x values m
        on = goes_onward n core x values m st.at

        due_there : is_due_flow (core_in (next n core m)).plain.flow ≡ true
        due_there = ap is_due_flow (sym there.0.is_as.flow ∙ flow)

        by : ComesTo (next n core m) → has_ended (core_in (next n core m)).plain ≡ true
        by (about_to h) = absurd (true≢false (sym due_there ∙ h.settled))
        by (ended status h free) = h
        by (trapped fault h) =
            absurd (let bad : Trapped fault (next n core m).cycle ≡ Running = sym h ∙ there.1.1 in cc)

        there_ended : has_ended (core_in (next n core m)).plain ≡ true
        there_ended = by on.comes

-- Along a walk a core's own words are the run's, and what its loads gave of them is what the run has.
use Rattle.std.proofs.Common.{ℕ, List, inl, refl, sym, subst}
use Rattle.patmos_instr.specs.Bundles.{PlainBundle}
use Rattle.patmos_sem.specs.Bundles.{effect_of}
use Rattle.patmos_sem.specs.declared.effects.Effect.{Effect}
use Rattle.patmos_model.specs.declared.flow.Goal.{Goal}
use Rattle.patmos_model.specs.declared.flow.Goal.TheVariants as goal
use Rattle.patmos_model.specs.Begin.{begun}
use Rattle.patmos_model.specs.Bundle.{advanced}
use Rattle.patmos_model.specs.Flows as model
use Rattle.patmos_model.specs.Site.{Site}
use Rattle.patmos_model.specs.State.{Core, with_plain}
use Rattle.core_pace.specs.Moment.{Moment, core_in, landed}
use Rattle.core_pace.specs.Next.{bundled, landing, all_moved, next}
use Rattle.core_pace.proofs.OwnActs.{landed_kept}
use Rattle.sp_shape.specs.Memory.{Memory}
use Rattle.sp_shape.specs.Pointers.{pointers_of}
use Rattle.sp_shape.specs.Run.{Run, effected, late}
use Rattle.tc_link.specs.Walk.{Walk, Fetches, flowed}
use Rattle.code_core.specs.Goes.{by_stack, pending_value, Stands}
use Rattle.code_core.specs.Sound.{IsSound}
use Rattle.code_core.proofs.BundleDone.{next_pending}
use Rattle.code_core.proofs.Landing.{Rests, gone_rests}
use Rattle.code_core.proofs.Settled.{OfTask, of_task, rests_settles}
use Rattle.code_core.proofs.Beginning.{first}
use Rattle.code_words.specs.Own.{HoldsOwn, AreOwn, KeepsApart}
use Rattle.code_words.proofs.Along.{Ever, entered, Doing, doing, Behind, Carries}
use Rattle.code_core.proofs.Beginning.{holds_first}
use Rattle.code_words.proofs.OwnWords.{own_said, own_left}
use Rattle.code_words.proofs.Saying.{IsOwnWord, OfLoad, of_pending}

module _ (Cached : ℕ → Type 0) (k : Memory) where
  own_kept : OfTask (HoldsOwn Cached k)
  own_kept = record {
    same = λ c d is h. subst (HoldsOwn Cached k) (sym is.task) (record {
      scratch = h.scratch;
      sent = h.sent;
      private = h.private;
      fresh = h.fresh;
    });
    counts = λ u c h. record { scratch = h.scratch; sent = h.sent; private = h.private; fresh = h.fresh };
  }

  gone_own : (to : Goal) (c : Core) → HoldsOwn Cached k c → HoldsOwn Cached k (model.gone to c)
  gone_own (goal.Within offset) c h =
      record { scratch = h.scratch; sent = h.sent; private = h.private; fresh = h.fresh }
  gone_own _ c h = record { scratch = h.scratch; sent = h.sent; private = h.private; fresh = h.fresh }

  abbrev Kept : Core → Type 0
  Kept c = HoldsOwn Cached k c × Rests c.plain.transfer

  landed_own : (u : ℕ) (c : Core) → Rests c.plain.transfer → HoldsOwn Cached k c → Kept (landed u c)
  landed_own u c r h = landed_kept Kept (record {
    stops = λ d fault cycle kept. (
      record {
        scratch = kept.0.scratch;
        sent = kept.0.sent;
        private = kept.0.private;
        fresh = kept.0.fresh;
      },
      kept.1,
    );
    goes = λ d goal kept placed. (gone_own goal d kept.0, gone_rests goal d kept.1);
  }) u c (h, r)

module _ (n core : ℕ) (x : Core) (values : List ℕ) (Cached : ℕ → Type 0) (are_own : AreOwn Cached) where
  -- a run's words are the core's
  abbrev pub OwnBeside : Run → Moment → Type 0
  OwnBeside r m = HoldsOwn Cached r.memory (core_in m)

  own_after : (w : Walk) (b : PlainBundle) (m : Moment) → Stands n core x values w m
      → (f : Fetches x.plain.site.image b (flowed w))
      → IsSound x.plain.site (effect_of f.bundle (flowed w).run.regs) (pointers_of (flowed w).run) (flowed w).run.memory
      → KeepsApart Cached (effect_of f.bundle (flowed w).run.regs)
      → OwnBeside (flowed w).run m → Ever (next n core m)
      → Behind n core x values (KeepsApart Cached) IsOwnWord OwnBeside Ever (effect_of f.bundle (flowed w).run.regs)
      (flowed w).run (late by_stack f.bundle (flowed w).run) m
  own_after w b m st f sound apart h so = record {
    beside = subst (λ (z : Run). OwnBeside z (next n core m)) (sym k.late_is)
        (rests_settles n core (HoldsOwn Cached r.memory) (own_kept Cached r.memory) (landing a) land.0 land.1);
    says = subst (λ e. OfLoad IsOwnWord e (flowed w).run.memory
        (pending_value (core_in (next n core m)).plain.regs.pending)) (sym k.asks)
        (of_pending IsOwnWord c.plain.site e (entered (flowed w).run f.bundle c) k.comes.value (core_in a).plain.regs
        (core_in (next n core m)).plain.regs d.plain.regs k.sound (next_pending n core m k.moved)
        k.comes.is_like.regs
        (own_said Cached are_own c.plain.site (entered (flowed w).run f.bundle c) d k.stack held st.goes.ports e
        k.comes.value (core_in a).seen.cached k.sound apart_there k.comes.given k.comes.cached));
  }
    where
      k : Doing n core x values w f.bundle f.words m
      k = doing n core x values w b m st f sound

      c : Core
      c = core_in m

      e : Effect
      e = effect_of f.bundle c.plain.regs

      d : Core
      d = with_plain (advanced f.words f.bundle) c

      a : Moment
      a = all_moved n core (bundled n core m)

      r : Run
      r = effected by_stack e (entered (flowed w).run f.bundle c)

      held : HoldsOwn Cached (flowed w).run.memory d
      held = record { scratch = h.scratch; sent = h.sent; private = h.private; fresh = h.fresh }

      apart_there : KeepsApart Cached e
      apart_there = subst (KeepsApart Cached) k.asks apart

      land : HoldsOwn Cached r.memory (landed a.cycle (core_in a)) × Rests (landed a.cycle (core_in a)).plain.transfer
      land = landed_own Cached r.memory a.cycle (core_in a) (inl k.moved)
          (own_left Cached are_own c.plain.site (entered (flowed w).run f.bundle c) d k.stack held st.goes.ports e
          k.comes.value (core_in a) k.sound apart_there k.comes.is_like k.comes.cached)

  pub carries_own : Carries n core x values (KeepsApart Cached) IsOwnWord OwnBeside Ever
  carries_own = record { flows = λ f g. refl; begins = λ r m h. h; before = λ count m so. tt; behind = own_after }

pub own_first : (n core : ℕ) (site : Site) (input values : List ℕ) (Cached : ℕ → Type 0) (memory : Memory)
    → HoldsOwn Cached memory (begun site input) → HoldsOwn Cached memory (core_in (first n core site input values))
own_first n core site input values Cached memory h =
    holds_first n core site input values (λ c ops. HoldsOwn Cached memory c) (of_task (HoldsOwn Cached memory)
    (own_kept Cached memory)) h

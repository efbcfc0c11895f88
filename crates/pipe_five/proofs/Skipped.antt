-- Cycles that are gone over.
use Rattle.std.proofs.Common.{◌≡◌, ℕ, ◌+◌, ◌-◌, ◌<◌, ◌≤◌, refl, sym, ◌∙◌, subst, arith}
use Rattle.shared_order.specs.Program.{done}
use Rattle.argo_ni.specs.Turn.{delivery, injection}
use Rattle.patmos_model.specs.State.{Plain, Core}
use Rattle.patmos_step.specs.Shown.{core_of, plain_of}
use Rattle.core_pace.proofs.OwnActs.{asleep, none_done, idle_or_busy}
use Rattle.pipe_five.specs.declared.lone.Lone.{Lone}
use Rattle.pipe_five.specs.Lone.{RunsAs, Sleeps}
use Rattle.pipe_five.proofs.Cycles.{never_turns, IsQuietIn, IsAsBefore, slept, later_by, later_sum, first_quiet, second_quiet, at_rest}

quiet_in : (l : Lone) (y : Core) (u : ℕ) → y.plain ≡ plain_of l.body → Sleeps u (plain_of l.body) → IsQuietIn u y
quiet_in l y u same sleeps =
    let here : Sleeps u y.plain = subst (Sleeps u) (sym same) sleeps in
    record {
      first = first_quiet u y (subst (λ (x : Plain). delivery u x.interface ≡ done x.interface) (sym same)
          (never_turns l.body.ni l.can.never u 0 (omega arith)));
      second = second_quiet u y (subst (λ (x : Plain). injection u x.interface ≡ done x.interface) (sym same)
          (never_turns l.body.ni l.can.never u 1 (omega arith))) ∙ at_rest u y (asleep y u here);
      none = none_done y u (idle_or_busy y u here);
    }

pub skipped : (x : Core) (l : Lone) (later : ℕ) (runs : RunsAs l x) → l.cycle ≤ later
    → ((u : ℕ) → l.cycle ≤ u → u < later → Sleeps u (plain_of l.body))
    → IsAsBefore x (core_of l.body runs.seen) l.cycle later
skipped x l later runs from sleeps =
    let sum : later_by (later - l.cycle) l.cycle ≡ later - l.cycle + l.cycle = later_sum (later - l.cycle) l.cycle in
    let far : later_by (later - l.cycle) l.cycle ≡ later = omega (arith, sum, from) in
    let y : Core = core_of l.body runs.seen in
    subst (λ u. IsAsBefore x y l.cycle u) far
    (slept x y l.cycle (later - l.cycle) runs.core (λ u after below. quiet_in l y u refl
    (sleeps u after (omega (arith, below, from)))))

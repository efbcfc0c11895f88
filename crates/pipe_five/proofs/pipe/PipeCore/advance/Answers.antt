use Rattle.std.proofs.Common.{◌≡◌, ℕ, ◌-◌, refl, sym, subst, ap, arith, length, ◌∙◌}
use Rattle.patmos_model.specs.State.{Core}
use Rattle.pipe_five.specs.Steps.{done_below}
use Rattle.pipe_five.specs.Latches.{latched}
use Rattle.pipe_five.specs.Lone.{IsNextBundle, TellsBundle}
use Rattle.pipe_five.specs.Pipe.{StandsFor, IsStep}
use Rattle.pipe_five.proofs.Stepping.{Steps, stepped}
use Rattle.pipe_five.proofs.pipe.PipeCore.advance.Goals as goal

pub loop-self-init : goal.loop-self-init
loop-self-init c =
    record { stands = λ x k s. record { runs = s.runs; count = s.count; latches = s.latches }; limit = refl }

steps_made : (c : goal.After-stages) (x : Core) (k : ℕ) → StandsFor c.args.self.now x k
    → Steps x k c.step.new.self c.step.new.latches
steps_made c x k s =
    let st : StandsFor c.loop-self.self x k = c.loop-self.invariant.stands x k s in
    let told : IsNextBundle x c.loop-self.self.lone.cycle c.step.new.self.cycle c.loop-self.self.latches
    c.step.new.latches =
    subst (λ told. TellsBundle x c.loop-self.self.lone.cycle c.step.new.self.cycle told c.loop-self.self.latches
    c.step.new.latches) c.if-step.true (c.step.ensures.tells x st.runs) in
    stepped x k c.loop-self.self c.step.new.self c.step.new.latches st (c.step.ensures.runs x st.runs) told

pub returns-then-step-clause-stands : goal.returns-then-step-clause-stands
returns-then-step-clause-stands c = λ x k s.
    let made : Steps x k c.step.new.self c.step.new.latches = steps_made c x k s in
    record {
      runs = c.step.ensures.runs x (c.loop-self.invariant.stands x k s).runs;
      count = made.count;
      latches = made.latches;
    }

pub returns-then-step-clause-step : goal.returns-then-step-clause-step
returns-then-step-clause-step c = λ x k s.
    let made : Steps x k c.step.new.self c.step.new.latches = steps_made c x k s in
    subst (IsStep x c.args.limit k (c.step.new.self.cycle - 1))
    (sym (c.stages.ensures (c.step.ensures.runs x (c.loop-self.invariant.stands x k s).runs).placed))
    (made.step c.args.limit c.step.ensures.within)

pub loop-self-preserved : goal.loop-self-preserved
loop-self-preserved c = record {
  stands = λ x k s.
      let st : StandsFor c.loop-self.self x k = c.loop-self.invariant.stands x k s in
      let none = subst (λ told. TellsBundle x c.loop-self.self.lone.cycle c.step.new.self.cycle told
      c.loop-self.self.latches c.step.new.latches) c.if-step.false (c.step.ensures.tells x st.runs) in
      record {
        runs = c.step.ensures.runs x st.runs;
        count = ap length none.0 ∙ st.count;
        latches = none.1 ∙ st.latches
            ∙ ap (latched x) (sym none.0);
      };
  limit = c.loop-self.invariant.limit;
}

pub returns-clause-stopped : goal.returns-clause-stopped
returns-clause-stopped c = λ stopped x k s.
    let st : StandsFor c.loop-self.self x k = c.loop-self.invariant.stands x k s in
    let end : c.loop-self.self.lone.cycle ≡ c.args.limit =
    omega (arith, c.loop-self-test.false, c.loop-self.self.within, c.loop-self.invariant.limit) in
    subst (λ t. length (done_below x t) ≡ k) end st.count

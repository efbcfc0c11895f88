use Rattle.std.proofs.Common.{◌≡◌, refl, sym, subst, ◌∙◌, arith}
use Rattle.patmos_step.specs.Shown.{plain_of}
use Rattle.pipe_five.specs.Lone.{LandedAs}
use Rattle.pipe_five.specs.Lone.{IsNextBundle}
use Rattle.pipe_five.specs.Steps.{done_below}
use Rattle.pipe_five.proofs.Acting.{acted_none, acted_one}
use Rattle.pipe_five.proofs.lone.Lone.act.Goals as goal

pub returns-then-not-has_done-clause-tells : goal.returns-then-not-has_done-clause-tells
returns-then-not-has_done-clause-tells c = λ x runs.
    let at = c.settle.ensures.lands x runs in
    let landed : LandedAs c.settle.new.self x =
    record { seen = at.seen; shows = at.shows; core = at.core; words = at.words; placed = at.placed } in
    let leaves = c.carry_out.ensures.leaves x (record {
      seen = at.seen;
      shows = at.shows;
      core = at.core;
      words = at.words;
      placed = at.placed;
    }) in (
      subst (λ t. done_below x c.carry_out.new.self.cycle ≡ done_below x t) c.settle.ensures.cycle
          (acted_none x c.settle.new.self c.plan-plan.result (plain_of c.carry_out.new.self.body)
          c.carry_out.new.self.cycle landed c.plan-plan.ensures.plan leaves
          (sym c.has_done.ensures ∙ c.if-not-has_done.true) (omega (arith, c.carry_out.ensures.cycle))),
      refl,
    )

pub returns-clause-tells : goal.returns-clause-tells
returns-clause-tells c = λ x runs.
    let at = c.settle.ensures.lands x runs in
    let landed : LandedAs c.settle.new.self x =
    record { seen = at.seen; shows = at.shows; core = at.core; words = at.words; placed = at.placed } in
    let leaves = c.carry_out.ensures.leaves x (record {
      seen = at.seen;
      shows = at.shows;
      core = at.core;
      words = at.words;
      placed = at.placed;
    }) in
    subst (λ t. IsNextBundle x t c.carry_out.new.self.cycle c.args.latches.now c.shift.new.self) c.settle.ensures.cycle
    (acted_one x c.settle.new.self c.plan-plan.result (plain_of c.carry_out.new.self.body) c.place-place.result
    c.settle.new.self.body.regs c.args.latches.now c.shift.new.self c.carry_out.new.self.cycle
    landed c.plan-plan.ensures.plan leaves (sym c.has_done.ensures ∙ c.if-not-has_done.false) c.place-place.ensures refl
    c.shift.ensures (omega (arith, c.carry_out.ensures.cycle)))

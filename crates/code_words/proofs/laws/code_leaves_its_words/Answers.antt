use Rattle.std.proofs.Common.{sym, ap, subst, ◌∙◌}
use Rattle.shared_order.specs.Words.{after}
use Rattle.core_pace.specs.Moment.{core_in}
use Rattle.sp_shape.specs.Run.{Run}
use Rattle.tc_link.specs.Placed.{linked}
use Rattle.code_core.specs.Followed.{last_of}
use Rattle.code_words.specs.Board.{HoldsBoard}
use Rattle.code_words.specs.Left.{Among}
use Rattle.code_words.specs.Own.{HoldsOwn}
use Rattle.code_words.proofs.Means.{means}
use Rattle.code_words.proofs.laws.code_leaves_its_words.Goals as goal

pub returns : goal.returns
returns c = λ s addresses input values cached memory world link behaves given fresh begins so.
    let place = c.args.place.now in
    let slots = c.place_has_slots.ensures (linked s) in
    let m = means place s addresses link behaves slots place.in_range.among memory (Among cached) fresh.own world input
    values given fresh.apart begins.ports begins.own begins.board so in
    record {
      loads = m.loads;
      regs = sym m.ended.goes.is_as.regs ∙ ap (λ (z : Run). z.regs) m.run;
      own = subst (λ (z : Run). HoldsOwn (Among cached) z.memory (core_in (last_of place s input values))) m.run m.own;
      board = subst (λ (z : Run). HoldsBoard place.core z.memory (after (last_of place s input values).told.own world))
          m.run m.board;
    }

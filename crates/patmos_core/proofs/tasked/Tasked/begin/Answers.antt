use Rattle.std.proofs.Common.{◌∙◌, arith}
use Rattle.patmos_core.proofs.tasked.Tasked.begin.Goals as goal

pub returns-then-go_alone-clause-goes_on : goal.returns-then-go_alone-clause-goes_on
returns-then-go_alone-clause-goes_on c = record {
  stands = λ x made on. c.act_still.ensures.goes_on.stands x made (c.go_alone.ensures.goes_on.stands x made on);
  frame = record {
    place = c.act_still.ensures.goes_on.frame.place ∙ c.go_alone.ensures.goes_on.frame.place;
    room = c.act_still.ensures.goes_on.frame.room ∙ c.go_alone.ensures.goes_on.frame.room;
  };
  phases = omega (arith, c.go_alone.ensures.goes_on.phases, c.act_still.ensures.goes_on.phases);
}

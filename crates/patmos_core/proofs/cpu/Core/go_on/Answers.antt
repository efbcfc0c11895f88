use Rattle.std.proofs.Common.{refl, subst}
use Rattle.patmos_core.specs.Position.{EventFits}
use Rattle.patmos_core.proofs.NextUp.{if_some, found_where, none_where}
use Rattle.patmos_core.proofs.cpu.Core.go_on.Goals as goal

pub returns : goal.returns
returns c = record {
  stands = c.run-self.ensures.stands;
  at = refl;
  place = c.run-self.ensures.place;
  room = c.run-self.ensures.room;
  event = if_some _ c.run-self.result c.run-self.new.event (λ found x made on. c.run-self.ensures.next found x made
      (c.run-self.ensures.stands x made on));
  whole = if_some _ c.run-self.result c.run-self.new.event (λ found x made on. c.run-self.ensures.whole found x made
      (c.run-self.ensures.stands x made on));
  fits = if_some _ c.run-self.result c.run-self.new.event
      (λ found. subst (λ p. EventFits p c.args.limit c.run-self.new.event) c.run-self.ensures.place
      (c.run-self.ensures.fits found));
  phases = c.run-self.ensures.phases;
  below = λ some. c.run-self.ensures.below (found_where c.run-self.result c.run-self.new.event some);
  through = λ none. c.run-self.ensures.through (none_where c.run-self.result c.run-self.new.event none);
  all = λ none x made on. c.run-self.ensures.all (none_where c.run-self.result c.run-self.new.event none) x made
      (c.run-self.ensures.stands x made on);
}

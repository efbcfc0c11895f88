use Rattle.std.proofs.Common.{[]}
use Rattle.patmos_step.proofs.Beginnings.{first_miss, none_traced}
use Rattle.patmos_step.proofs.body.Body.new.Goals as goal

pub returns-clause-shows : goal.returns-clause-shows
returns-clause-shows c = record {
  misses = first_miss c.args.image.now c.in_ok-image.image c.first_function-base.result.0 c.first_function-base.result.1
      c.touch.new.self
      c.in_ok-image.ensures c.first_function-base.ensures.place c.first_function-base.ensures.size
      (c.touch.ensures.stands [] c.new-methods.ensures);
  cached = c.new-4.ensures.stands;
  trace = none_traced c.args.trace c.in_ok-with_capacity.field-0.items c.in_ok-with_capacity.ensures.items;
}

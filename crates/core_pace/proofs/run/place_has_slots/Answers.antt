use Rattle.std.proofs.Common.{arith}
use Rattle.slot_arbiter.proofs.Entries.{owner_has_entry}
use Rattle.core_pace.proofs.run.place_has_slots.Goals as goal

pub returns : goal.returns
returns c = λ image. record {
  lasts = omega (arith, c.args.place.now.in_range.slot_least);
  entry = owner_has_entry c.args.place.now.cores c.args.place.now.core c.args.place.now.table c.args.place.now.owned
      c.args.place.now.in_range.among;
}

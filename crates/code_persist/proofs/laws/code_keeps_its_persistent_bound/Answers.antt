use Rattle.tc_link.specs.Placed.{linked}
use Rattle.code_persist.proofs.Sooner.{ends_sooner}
use Rattle.code_persist.proofs.laws.code_keeps_its_persistent_bound.Goals as goal

pub returns : goal.returns
returns c = record {
  within = λ s addresses link behaves. ends_sooner c.args.place.now s addresses link behaves
      (c.place_has_slots.ensures (linked s)) c.args.place.now.in_range.among;
}

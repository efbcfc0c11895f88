use Rattle.std.proofs.Common.{sym}
use Rattle.patmos_step.proofs.Fetching.{a_bundle}
use Rattle.patmos_alone.proofs.bundles.asked_at.Goals as goal

pub returns : goal.returns
returns c = record {
  lands = c.requires.lands;
  bundle = c.in-Some.bundle;
  fetched = sym (a_bundle c.args.body.now.image c.args.body.now.base c.args.offset c.in_ok-found.found.now
      c.in-Some.bundle c.in_ok-found.ensures.found c.in-Some.is);
  inside = c.in_ok-found.ensures.inside;
  within = c.in_ok-found.ensures.within;
  asks = c.asked_by.ensures;
}

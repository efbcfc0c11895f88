use Rattle.std.proofs.Common.{◌≢◌, arith}
use Rattle.std.proofs.lemmas.Grind.{common_steps}
use Rattle.argo_grid.specs.Route.{links_of}
use Rattle.argo_grid.proofs.Periods.{next_place, later_places, no_place_left}
use Rattle.argo_grid.proofs.share.has_link.Goals as goal

pub loop-place-preserved : goal.loop-place-preserved
loop-place-preserved c =
    let other : c.link.result ≢ c.args.link = λ same. grind (arith, common_steps) in
    record {
      remainder = next_place c.loop-place.place c.args.period c.args.first c.loop-place.invariant.remainder;
      before = later_places c.args.period c.args.first c.loop-place.place (links_of c.args.route.now) c.args.link
          c.link.result (omega (arith, c.requires.within)) c.loop-place.invariant.remainder c.link.ensures other
          c.loop-place.invariant.before;
    }

pub returns : goal.returns
returns c = (
  (λ bad. absurd (cc)),
  (λ has. absurd (no_place_left c.args.period c.args.first c.loop-place.place (links_of c.args.route.now) c.args.link
      (omega (arith, c.links.ensures.count)) c.loop-place.invariant.before has)),
)

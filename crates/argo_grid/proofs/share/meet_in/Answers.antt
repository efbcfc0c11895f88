use Rattle.std.proofs.Common.{refl, arith}
use Rattle.argo_grid.specs.Route.{links_of}
use Rattle.argo_grid.proofs.Periods.{far_apart, meets_here, no_meeting_left}
use Rattle.argo_grid.proofs.share.meet_in.Goals as goal

pub returns-then-ahead-links-2 : goal.returns-then-ahead-links-2
returns-then-ahead-links-2 c = (
  (λ bad. absurd (cc)),
  (λ meet. absurd (far_apart c.args.period c.args.slot c.args.other_slot (links_of c.args.route.now)
      (links_of c.args.other.now) (omega arith) (omega arith) (omega arith) meet)),
)

pub returns-then-has_link : goal.returns-then-has_link
returns-then-has_link c = (
  (λ shared. meets_here c.args.period c.args.slot c.args.other_slot c.loop-place.place (links_of c.args.route.now)
      (links_of c.args.other.now) c.link.result (omega arith) c.link.ensures (c.has_link.ensures.0 c.if-has_link.true)),
  (λ meet. refl),
)

pub returns : goal.returns
returns c = (
  (λ bad. absurd (cc)),
  (λ meet. absurd (no_meeting_left c.args.period c.args.slot c.args.other_slot c.loop-place.place
      (links_of c.args.route.now) (links_of c.args.other.now) (omega (arith, c.links-place-end.ensures.count))
      c.loop-place.invariant meet)),
)

use Rattle.std.proofs.Common.{◌≡◌, subst}
use Rattle.argo_grid.specs.Check.{shares}
use Rattle.argo_grid.specs.Schedule.{Schedule}
use Rattle.argo_grid.specs.Seen.{seen}
use Rattle.argo_grid.proofs.Sharing.{shares_by_places}
use Rattle.argo_grid.proofs.share.shares.Goals as goal

pub returns : goal.returns
returns c =
    subst (λ (s : Schedule). c.meet_in.result ≡ shares s c.args.entry.now c.args.other.now) c.job.view_is
    (shares_by_places (seen c.job.inside) c.args.entry.now c.args.other.now c.meet_in.result c.from-period.result
    c.from-slot.result c.from-other_slot.result c.of-route.result c.of-other_route.result
    c.from-period.ensures c.from-slot.ensures c.from-other_slot.ensures c.of-route.ensures c.of-other_route.ensures
    c.meet_in.ensures)

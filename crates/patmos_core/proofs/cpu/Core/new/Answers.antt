use Rattle.std.proofs.Common.{◌≡◌, ◌*◌, [], sym, ap, subst, arith}
use Rattle.shared_order.specs.Stamps.{act_at}
use Rattle.shared_order.specs.Stands.{Stands}
use Rattle.patmos_model.specs.State.{Core}
use Rattle.patmos_model.specs.Cycle.{turn}
use Rattle.patmos_model.specs.Apart.{site_of}
use Rattle.patmos_model.specs.Begin.{begun}
use Rattle.patmos_step.specs.Shown.{core_of}
use Rattle.patmos_core.proofs.cpu.Core.new.Goals as goal

pub returns-clause-stands : goal.returns-clause-stands
returns-clause-stands c =
    let x : Core = begun (site_of c.args.place c.args.image.now) c.args.input.now in
    let first : 0 ≡ 2 * 0 * c.in_ok-body.body.place.cores = omega arith in
    record {
      seen = x.seen;
      shows = c.in_ok-body.ensures.shows;
      cores = ap (λ p. p.cores) (sym c.in_ok-body.ensures.place);
      core = ap (λ p. p.core) (sym c.in_ok-body.ensures.place);
      there = subst (λ s. Stands (act_at turn c.in_ok-body.body.place.cores) c.in_ok-body.body.place.cores
          c.in_ok-body.body.place.core x [] s (core_of c.in_ok-body.body x.seen)) first
          (λ more. ap (λ p. record { core = record { plain = p; seen = x.seen }; left = more; made = [] })
          (sym c.in_ok-body.ensures.plain));
    }

use Rattle.std.proofs.Common.{◌≡◌, ◌-◌, ◌<◌, ◌≤◌, None, IfSome, length, reverse}
use Rattle.bundle_sched.specs.Ordered.{place}
use Rattle.bundle_sched.specs.declared.ordering.TheConstants.{WINDOW}
use Rattle.bundle_sched.proofs.ordering.place.Given as goal

abbrev pub invariant-loop-gone : goal.invariant-loop-gone
invariant-loop-gone l = record {
  same : place (WINDOW - l.gone) l.one (reverse l.others) l.found ≡ place WINDOW l.one (reverse l.bundles) None;
  fewer : length l.others ≤ length l.bundles;
  within : IfSome l.found (λ at. at.0 < length l.bundles);
}

use Rattle.std.proofs.Common.{◌≡◌, ℕ, ◌%◌, ◌-◌, ◌<◌, length, slice_get, Some}
use Rattle.argo_grid.specs.Route.{links_of}
use Rattle.argo_grid.proofs.share.has_link.Given as goal

abbrev pub invariant-loop-place : goal.invariant-loop-place
invariant-loop-place l = record {
  remainder : l.place % l.period ≡ l.first;
  before : (k : ℕ) → k < l.place → k % l.period ≡ l.first → slice_get (links_of l.route) k ≡ Some l.link → ⊥;
}

abbrev pub decreases-loop-place : goal.decreases-loop-place
decreases-loop-place l = length (links_of l.route) - l.place

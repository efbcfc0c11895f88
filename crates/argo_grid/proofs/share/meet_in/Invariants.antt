use Rattle.std.proofs.Common.{◌≡◌, ℕ, ◌%◌, ◌+◌, ◌<◌, slice_get, Some}
use Rattle.argo_grid.specs.declared.route.Link.{Link}
use Rattle.argo_grid.specs.Route.{links_of}
use Rattle.argo_grid.proofs.share.meet_in.Given as goal

abbrev pub invariant-loop-place : goal.invariant-loop-place
invariant-loop-place l = (i k : ℕ) (link : Link) → i < l.place
    → slice_get (links_of l.route) i ≡ Some link → slice_get (links_of l.other) k ≡ Some link
    → (l.slot + i) % l.period ≡ (l.other_slot + k) % l.period → ⊥

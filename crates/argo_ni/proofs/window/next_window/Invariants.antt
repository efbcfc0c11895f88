use Rattle.std.proofs.Common.{◌≡◌, ℕ, ◌<◌, ◌≤◌, false}
use Rattle.argo_ni.specs.Window.{target_in, is_used}
use Rattle.argo_ni.proofs.window.next_window.Given as goal

abbrev pub invariant-loop-window : goal.invariant-loop-window
invariant-loop-window l = record {
  here : l.target ≡ target_in l.cores l.core l.window;
  among : l.target < l.cores;
  none : (k : ℕ) → l.first ≤ k → k < l.window → is_used l.cores l.core l.ports k ≡ false;
}

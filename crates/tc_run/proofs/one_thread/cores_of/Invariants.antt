use Rattle.tc_run.specs.Begun.{IsBegun}
use Rattle.std.proofs.Common.{◌≡◌, length, IfSome, slice_get}
use Rattle.global_step.specs.PlainRun.{Every}
use Rattle.tc_run.proofs.one_thread.cores_of.Given as goal

abbrev pub invariant-loop-loaded : goal.invariant-loop-loaded
invariant-loop-loaded l = record {
  count : length l.cores.items ≡ l.loaded-index;
  each : Every (λ k c. IfSome (slice_get l.machine.cores k) (λ m. IsBegun l.machine.trace m c)) l.cores.items;
}
